-- The files of texts in a folder, and the text of the tables that they stand for.
use Rattle.std.specs.Prelude.{◌≡◌, ◌≢◌, ◌⊎◌, ◌==◌, ℕ, Bool, true, false, List, [], ◌∷◌, ◌++◌, length, Option, Some, None, option_map, Result, Ok, Err, if◌then◌else◌}
use Rattle.std.specs.List.{list_any}
use Rattle.plant.specs.declared.device.Answer.{Answer}
use Rattle.plant.specs.declared.device.DeviceOp.{DeviceOp}
use Rattle.plant.specs.declared.device.Fault.{Fault}
use Rattle.plant.specs.declared.device.Fault.TheVariants.{Failed, Stopped}
use Rattle.plant.specs.Events.{Did}
use Rattle.plant.specs.Told.{Told}
use Rattle.folder.specs.Folders.{Held, Old}
use Rattle.folder.specs.declared.folder_files.TextName.{TextName}
use Rattle.folder.specs.declared.folder_files.TextName.TheVariants.{Tables, Beside, Older}

-- the bytes of each file that is there
pub record Files : Type 0 where
  pub tables : Option (List ℕ)
  pub beside : Option (List ℕ)
  pub older : Option (List ℕ)

abbrev pub file_of : TextName → Files → Option (List ℕ)
file_of Tables f = f.tables
file_of Beside f = f.beside
file_of Older f = f.older

-- a file whose bytes a loss of power took has zeros, which no text has
abbrev pub is_torn : List ℕ → Bool
is_torn bytes = list_any (λ byte. byte == 0) bytes

-- the older text in the place of one that was not written whole, where that one was
abbrev pub or_older : Option (List ℕ) → List ℕ → List ℕ
or_older None torn = torn
or_older (Some bytes) torn = if is_torn bytes then torn else bytes

-- THE TEXT OF A FOLDER: that of `tables`; where no file has this name, the one that was to take it; and the older one where a text was not written whole
abbrev pub text_by : Option (List ℕ) → Option (List ℕ) → Option (List ℕ) → List ℕ
text_by (Some bytes) beside older = if is_torn bytes then or_older older bytes else bytes
text_by None (Some bytes) older = if is_torn bytes then or_older older [] else bytes
text_by None None older = []

abbrev pub text_in : Files → List ℕ
text_in f = text_by f.tables f.beside f.older

-- A FOLDER BY ITS FILES: all that happened to it, its files of texts, and the texts that a loss of power may leave in the place of the one that they
-- stand for
pub record Filed : Type 0 where
  pub past : Told
  pub files : Files
  pub older : List Old

-- and as contracts of a folder see it
abbrev pub held_of : Filed → Held
held_of k = record { past = k.past; text = text_in k.files; older = k.older }

abbrev pub as_held : Option Filed → Option Held
as_held filed = option_map held_of filed

abbrev pub files_of : Option Filed → Option Files
files_of filed = option_map (λ (k : Filed). k.files) filed

-- a file has the name `tables`
abbrev pub HasTables : Files → Type 0
HasTables f = f.tables ≢ None

-- the text beside is this one
abbrev pub IsBeside : List ℕ → Files → Type 0
IsBeside text f = f.beside ≡ Some text

abbrev pub with_files : Filed → Files → Filed
with_files k files = record { past = k.past; files = files; older = k.older }

-- the name `tables` is free; the old text is kept as the older one, or removed
abbrev pub kept_if : Bool → Files → Option (List ℕ)
kept_if true f = f.tables
kept_if false f = f.older

abbrev pub freed : Bool → Files → Files
freed keep f = record { tables = None; beside = f.beside; older = kept_if keep f }

-- and the text beside has it
abbrev pub swapped : Bool → Files → Files
swapped keep f = record { tables = f.beside; beside = None; older = kept_if keep f }

abbrev pub swapped_if : Bool → Bool → Files → Files
swapped_if true keep f = swapped keep f
swapped_if false keep f = freed keep f

-- a file has taken the name `tables`
abbrev pub named : TextName → Files → Files
named Tables f = f
named Beside f = record { tables = f.beside; beside = None; older = f.older }
named Older f = record { tables = f.older; beside = f.beside; older = None }

-- `tables` is there, empty where it was missing
abbrev pub or_empty : Option (List ℕ) → Option (List ℕ)
or_empty None = Some []
or_empty (Some bytes) = Some bytes

abbrev pub made : Files → Files
made f = record { tables = or_empty f.tables; beside = f.beside; older = f.older }

abbrev pub beside_is : Option (List ℕ) → Files → Files
beside_is text f = record { tables = f.tables; beside = text; older = f.older }

-- A CHANGE OF NAMES is done; where it failed, perhaps
abbrev pub Changed : (Files → Files) → Result (Unit {0}) Fault → Filed → Filed → Type 0
Changed change (Ok done) k new = new ≡ with_files k (change k.files)
Changed change (Err fault) k new = (new ≡ k) ⊎ (new ≡ with_files k (change k.files))

-- A TEXT WAS WRITTEN BESIDE; where that failed, anything may be there
abbrev pub Written : List ℕ → Result (Unit {0}) Fault → Filed → Filed → Type 0
Written text (Ok done) k new = new ≡ with_files k (beside_is (Some text) k.files)
Written text (Err fault) k new = (left : Option (List ℕ)) × (new ≡ with_files k (beside_is left k.files))

-- a command was applied: the files are these, and the text that was there is an older one
abbrev pub applied : DeviceOp → Result Answer Fault → Files → Filed → Filed
applied op answer files k = record {
  past = record k.past { trace = k.past.trace ++ Did op true answer ∷ [] };
  files = files;
  older = record { text = text_in k.files; at = length k.past.trace } ∷ k.older;
}

abbrev pub not_applied : DeviceOp → Result Answer Fault → Filed → Filed
not_applied op answer k = record { past = record k.past { trace = k.past.trace ++ Did op false answer ∷ [] }; files = k.files; older = k.older }

-- WHAT A COMMAND LEAVES whose text takes the name of the old one: it is applied where that has lost the name
abbrev pub Renamed : DeviceOp → Answer → Bool → Bool → Result (Unit {0}) Fault → Filed → Filed → Type 0
Renamed op answer keep true result k new = (result ≡ Err Stopped) × (new ≡ k)
Renamed op answer keep false (Ok done) k new = new ≡ applied op (Ok answer) (swapped keep k.files) k
Renamed op answer keep false (Err Failed) k new =
    (new ≡ not_applied op (Err Failed) k) ⊎ ((swap : Bool) × (new ≡ applied op (Err Failed) (swapped_if swap keep k.files) k))
Renamed op answer keep false (Err Stopped) k new =
    (new ≡ k) ⊎ ((swap : Bool) × (new ≡ applied op (Err Stopped) (swapped_if swap keep k.files) k))

-- and so it is where the folder tells it
abbrev pub WhereTold : (Filed → Filed → Type 0) → Option Filed → Option Filed → Type 0
WhereTold R None new = new ≡ None
WhereTold R (Some k) new = (now : Filed) × (new ≡ Some now) × R k now

-- the text is made durable
abbrev pub filed_sure : Option Filed → Option Filed
filed_sure None = None
filed_sure (Some k) = Some (record { past = k.past; files = k.files; older = [] })
