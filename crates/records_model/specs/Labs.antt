-- The lab of a list of records: each record is one move.
use Rattle.std.specs.Prelude.{◌≡◌, ◌≤◌, ℕ, Bool, true, false, ◌&&◌, nat_le, if◌then◌else◌, is_none, List, [], ◌∷◌, ◌++◌, length, map, Option, Some, None}
use Rattle.std.specs.Str.{bytes_eq}
use Rattle.std.proofs.Common.{zero, suc}
use Rattle.lab_base.specs.Lists.{Has, AllDiffer}
use Rattle.lab_base.specs.declared.ids.VlanId.{VlanId}
use Rattle.phys_lab.specs.Labs.{Lab}
use Rattle.phys_lab.specs.Faults.{empty_lab}
use Rattle.phys_lab.specs.Kept.{IsLab}
use Rattle.virt_topo.specs.declared.wiring.Wiring.{Wiring}
use Rattle.virt_topo.specs.declared.mapping.Mapping.{Mapping}
use Rattle.virt_topo.specs.declared.mapping.Mapped.{Mapped}
use Rattle.virt_topo.specs.declared.experiment.Experiment.{Experiment}
use Rattle.virt_topo.specs.declared.experiment.Phase.{Phase}
use Rattle.virt_topo.specs.declared.experiment.Phase.TheVariants.{Out, In, Moving}
use Rattle.virt_topo.specs.Sharing.{has_multiplexed}
use Rattle.virt_topo.specs.Soundness.{IsSound}
use Rattle.virt_topo.specs.Wirings.{mapped}
use Rattle.plant.specs.Worlds.{World}
use Rattle.journal_rec.specs.declared.record.Way.{Way}
use Rattle.journal_rec.specs.declared.record.Way.TheVariants.{In as WayIn, Out as WayOut, Change as WayChange, Change2 as WayChange2}
use Rattle.journal_rec.specs.declared.record.Record.{Record}
use Rattle.journal_rec.specs.declared.record.Record.TheVariants.{Lab as LabRecord, Create, Delete, Begin, Commit, Abort, Create2}
use Rattle.lab_model.specs.Holding.{Holding}
use Rattle.lab_model.specs.Parts.{Parts}
use Rattle.lab_model.specs.Leavings.{Ends, Gone}
use Rattle.lab_model.specs.Shapes.{IsShaped}
use Rattle.lab_model.specs.Beside.{violation_beside, are_free_tags}

-- perhaps a lab, and the experiments in order of creation
pub record LabState : Type 0 where
  pub lab : Option Lab
  pub experiments : List Experiment

-- before the first record
abbrev pub at_first : LabState
at_first = record { lab = None; experiments = [] }

-- a move, with the values of its record's texts
pub data Move : Type 0 where
  SetLab : (lab : Lab) → Move
  Creates : (name : List ℕ) (wiring : Wiring) → Move
  Deletes : (name : List ℕ) → Move
  BeginsIn : (name : List ℕ) (mapping : Mapping) (tags : List VlanId) → Move
  BeginsOut : (name : List ℕ) → Move
  BeginsChange : (name : List ℕ) (wiring : Wiring) (mapping : Mapping) (tags : List VlanId) → Move
  Commits : (name : List ℕ) → Move
  Aborts : (name : List ℕ) → Move

-- the experiment of that name, the list with another one in its place, and the list without it
abbrev pub find : List ℕ → List Experiment → Option Experiment
find name [] = None
find name (e ∷ es) = if bytes_eq e.name name then Some e else find name es

abbrev pub replace : List ℕ → Experiment → List Experiment → List Experiment
replace name f [] = []
replace name f (e ∷ es) = if bytes_eq e.name name then f ∷ es else e ∷ replace name f es

abbrev pub others : List ℕ → List Experiment → List Experiment
others name [] = []
others name (e ∷ es) = if bytes_eq e.name name then es else e ∷ others name es

-- the experiment with that mapping, and in that phase
abbrev pub inside : Experiment → Mapped → Experiment
inside e m = record { name = e.name; wiring = m.wiring; phase = In m.mapping m.tags }

abbrev pub in_phase : Experiment → Phase → Experiment
in_phase e phase = record { name = e.name; wiring = e.wiring; phase = phase }

-- feasible on what the others leave, and the tags are free
abbrev pub can_take : Lab → List Experiment → Experiment → Mapped → Bool
can_take lab es e m = is_none (violation_beside lab (others e.name es) e m.wiring m.mapping) && are_free_tags lab es m.wiring m.tags

-- what the experiment becomes by its move, if the move can follow
abbrev pub becomes : Lab → List Experiment → Experiment → Phase → Move → Option Experiment
becomes lab es e Out (BeginsIn name mapping tags) =
    if can_take lab es e (mapped e.wiring mapping tags) then Some (in_phase e (Moving None (Some (mapped e.wiring mapping tags)))) else None
becomes lab es e (In mapping tags) (BeginsOut name) = Some (in_phase e (Moving (Some (mapped e.wiring mapping tags)) None))
becomes lab es e (In mapping tags) (BeginsChange name wiring new new_tags) =
    if can_take lab es e (mapped wiring new new_tags) then Some (in_phase e (Moving (Some (mapped e.wiring mapping tags)) (Some (mapped wiring new new_tags)))) else None
becomes lab es e (Moving old (Some new)) (Commits name) = Some (inside e new)
becomes lab es e (Moving (Some old) None) (Commits name) = Some (in_phase e Out)
becomes lab es e (Moving None (Some new)) (Aborts name) = Some (in_phase e Out)
becomes lab es e (Moving (Some old) (Some new)) (Aborts name) = Some (inside e old)
becomes lab es e phase move = None

-- the experiment is out
abbrev pub is_out : Phase → Bool
is_out Out = true
is_out phase = false

-- the experiments with one in the place of another
abbrev pub with_replaced : List ℕ → List Experiment → Option Experiment → Option (List Experiment)
with_replaced name es None = None
with_replaced name es (Some f) = Some (replace name f es)

-- the experiments after the move of a found one
abbrev pub moved_one : Lab → List Experiment → List ℕ → Option Experiment → Move → Option (List Experiment)
moved_one lab es name None move = None
moved_one lab es name (Some e) move = with_replaced name es (becomes lab es e e.phase move)

-- the experiments without one that is out
abbrev pub deleted : List ℕ → List Experiment → Option Experiment → Option (List Experiment)
deleted name es None = None
deleted name es (Some e) = if is_out e.phase then Some (others name es) else None

-- the experiments after a move in a lab
abbrev pub moved_in : Lab → List Experiment → Move → Option (List Experiment)
moved_in lab es (SetLab l) = None
moved_in lab es (Creates name wiring) =
    if is_none (find name es) && nat_le (length es) 255 then Some (es ++ record { name = name; wiring = wiring; phase = Out } ∷ []) else None
moved_in lab es (Deletes name) = deleted name es (find name es)
moved_in lab es (BeginsIn name mapping tags) = moved_one lab es name (find name es) (BeginsIn name mapping tags)
moved_in lab es (BeginsOut name) = moved_one lab es name (find name es) (BeginsOut name)
moved_in lab es (BeginsChange name wiring mapping tags) = moved_one lab es name (find name es) (BeginsChange name wiring mapping tags)
moved_in lab es (Commits name) = moved_one lab es name (find name es) (Commits name)
moved_in lab es (Aborts name) = moved_one lab es name (find name es) (Aborts name)

-- the experiments in their lab
abbrev pub in_state : Lab → Option (List Experiment) → Option LabState
in_state lab None = None
in_state lab (Some es) = Some (record { lab = Some lab; experiments = es })

-- WHAT CAN FOLLOW, on values: the state after the move, None where it can't follow
abbrev pub moved_of : Option Lab → List Experiment → Move → Option LabState
moved_of None es (SetLab lab) = Some (record { lab = Some lab; experiments = [] })
moved_of None es move = None
moved_of (Some lab) es move = in_state lab (moved_in lab es move)

-- the state after a move, if it can follow
abbrev pub moved : LabState → Move → Option LabState
moved s move = moved_of s.lab s.experiments move

-- the canonical texts, and the test that the parts of a wiring can be printed: its names are names
pub record Texts : Type 0 where
  pub ptop : Lab → List ℕ
  pub top : Wiring → List ℕ
  pub solution : Lab → Wiring → Mapping → List ℕ
  pub is_printable : Wiring → Bool

-- a sound wiring that has a text
pub record HasText (t : Texts) (w : Wiring) : Type 0 where
  pub sound : IsSound w
  pub printable : t.is_printable w ≡ true

-- each text is of one value
pub record AreCanonical (t : Texts) : Type 0 where
  pub ptops : (l m : Lab) → IsLab l → IsLab m → t.ptop l ≡ t.ptop m → l ≡ m
  pub tops : (w v : Wiring) → HasText t w → HasText t v → t.top w ≡ t.top v → w ≡ v
  pub solutions : (lab : Lab) (w : Wiring) (m n : Mapping) → IsLab lab → HasText t w → IsShaped lab w m → IsShaped lab w n → t.solution lab w m ≡ t.solution lab w n → m ≡ n

-- the record that creates an experiment, and the way to another mapping, of the second format or of the first
abbrev pub create_in : Bool → List ℕ → List ℕ → Record
create_in second exp top = if second then Create2 exp top else Create exp top

abbrev pub change_in : Bool → List ℕ → List ℕ → List VlanId → Way
change_in second top map tags = if second then WayChange2 top map tags else WayChange top map tags

-- the text of a record is the canonical one of that wiring; the record is of the second format exactly where some segment is multiplexed
pub record SaysTop (t : Texts) (w : Wiring) (top : List ℕ) (second : Bool) : Type 0 where
  pub text : HasText t w
  pub says : top ≡ t.top w
  pub format : has_multiplexed w ≡ second

abbrev pub SaysCreate : Texts → List ℕ → List ℕ → Bool → Move → Type 0
SaysCreate t exp top second move = (w : Wiring) × SaysTop t w top second × (move ≡ Creates exp w)

abbrev pub SaysChange : Texts → LabState → List ℕ → List ℕ → List ℕ → List VlanId → Bool → Move → Type 0
SaysChange t s exp top map tags second move =
    (lab : Lab) × (w : Wiring) × (m : Mapping) × (s.lab ≡ Some lab) × IsLab lab × SaysTop t w top second × IsShaped lab w m × (map ≡ t.solution lab w m) × (move ≡ BeginsChange exp w m tags)

-- the record's texts are canonical, and say that move
abbrev pub SaysBegin : Texts → LabState → List ℕ → Way → Move → Type 0
SaysBegin t s exp (WayIn map tags) move =
    (lab : Lab) × (e : Experiment) × (m : Mapping) × (s.lab ≡ Some lab) × (find exp s.experiments ≡ Some e) × IsLab lab × HasText t e.wiring × IsShaped lab e.wiring m × (map ≡ t.solution lab e.wiring m) × (move ≡ BeginsIn exp m tags)
SaysBegin t s exp WayOut move = move ≡ BeginsOut exp
SaysBegin t s exp (WayChange top map tags) move = SaysChange t s exp top map tags false move
SaysBegin t s exp (WayChange2 top map tags) move = SaysChange t s exp top map tags true move

abbrev pub Says : Texts → LabState → Record → Move → Type 0
Says t s (LabRecord ptop) move = (lab : Lab) × IsLab lab × (ptop ≡ t.ptop lab) × (move ≡ SetLab lab)
Says t s (Create exp top) move = SaysCreate t exp top false move
Says t s (Create2 exp top) move = SaysCreate t exp top true move
Says t s (Delete exp) move = move ≡ Deletes exp
Says t s (Begin exp way) move = SaysBegin t s exp way move
Says t s (Commit exp) move = move ≡ Commits exp
Says t s (Abort exp) move = move ≡ Aborts exp

-- the record can follow, and gives that state
pub record Follows (t : Texts) (s : LabState) (r : Record) (after : LabState) : Type 0 where
  pub move : Move
  pub says : Says t s r move
  pub gives : moved s move ≡ Some after

-- these records lead from one state to the other
abbrev pub FoldsTo : Texts → LabState → List Record → LabState → Type 0
FoldsTo t s [] end = s ≡ end
FoldsTo t s (r ∷ rs) end = (mid : LabState) × Follows t s r mid × FoldsTo t mid rs end

-- THE LAB OF RECORDS
abbrev pub LabOf : Texts → List Record → LabState → Type 0
LabOf t rs s = FoldsTo t at_first rs s

-- a lab without anything
abbrev pub no_lab : Lab
no_lab = empty_lab 2 2

-- the lab, or an empty one
abbrev pub lab_in : Option Lab → Lab
lab_in None = no_lab
lab_in (Some lab) = lab

-- what holds of each state that records give
pub record Sane (s : LabState) : Type 0 where
  pub is_lab : IsLab (lab_in s.lab)
  pub none : s.lab ≡ None → s.experiments ≡ []
  pub names : AllDiffer (map (λ e. e.name) s.experiments)
  pub wirings : (e : Experiment) → Has s.experiments e → IsSound e.wiring
  pub few : length s.experiments ≤ 256
  pub holding : Holding (lab_in s.lab) s.experiments

-- what the world has to be for the move: a move ends where its course, or its undo, has left what it is to leave
abbrev pub EndsMove : Lab → World → Experiment → Phase → Bool → Type 0
EndsMove lab w e (Moving old (Some new)) true = Ends lab e new w
EndsMove lab w e (Moving (Some old) None) true = Gone lab e w
EndsMove lab w e (Moving None (Some new)) false = Gone lab e w
EndsMove lab w e (Moving (Some old) (Some new)) false = Ends lab e old w
EndsMove lab w e phase commit = Unit {0}

-- the world is right for the lab after the move
abbrev pub IsRightFor : LabState → World → Move → Type 0
IsRightFor s w (Commits name) = (e : Experiment) → find name s.experiments ≡ Some e → EndsMove (lab_in s.lab) w e e.phase true
IsRightFor s w (Aborts name) = (e : Experiment) → find name s.experiments ≡ Some e → EndsMove (lab_in s.lab) w e e.phase false
IsRightFor s w move = Unit {0}

-- the world keeps the parts of all experiments
abbrev pub KeepsParts : World → LabState → Type 0
KeepsParts w s = Parts (lab_in s.lab) s.experiments w

-- no state follows the record
abbrev pub CannotFollow : Texts → LabState → Record → Type 0
CannotFollow t s r = (after : LabState) → Follows t s r after → ⊥

-- the record of that number is the first that can't follow
abbrev pub StopsAt : Texts → LabState → List Record → ℕ → Type 0
StopsAt t s [] n = ⊥
StopsAt t s (r ∷ rs) zero = CannotFollow t s r
StopsAt t s (r ∷ rs) (suc n) = (mid : LabState) × Follows t s r mid × StopsAt t mid rs n
