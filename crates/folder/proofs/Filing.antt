-- A folder by its files: changes of names that leave its text, and a command whose text takes the name.
use Rattle.std.proofs.Common.{◌≡◌, ◌≢◌, inl, inr, ℕ, Bool, true, false, List, [], ◌∷◌, Option, Some, None, Result, Ok, Err, refl, sym, ap, ◌∙◌, subst, if◌then◌else◌}
use Rattle.std.specs.Prelude.{◌⊎◌, ◌↔◌, IsErrOf, IsTrue}
use Rattle.std.specs.Option.{ForSome}
use Rattle.std.proofs.lemmas.Option.{same_Some}
use Rattle.plant.specs.Events.{Did}
use Rattle.plant.specs.declared.device.Answer.{Answer}
use Rattle.plant.specs.declared.device.DeviceOp.{DeviceOp}
use Rattle.plant.specs.declared.device.Fault.{Fault}
use Rattle.plant.specs.declared.device.Fault.TheVariants.{Failed, Stopped}
use Rattle.folder.specs.Folders.{Held, more, put_text, made_sure, Put, IsSent}
use Rattle.folder.specs.Files.{Files, Filed, WhereTold, Written, Renamed, HasTables, IsBeside, as_held, beside_is, files_of, held_of, is_torn, swapped_if, text_by, text_in, with_files, or_older, applied}

held_same : (k : Filed) (files : Files) → text_in files ≡ text_in k.files → held_of (with_files k files) ≡ held_of k
held_same k files same = ap (λ (t : List ℕ). let h : Held = record { past = k.past; text = t; older = k.older } in h) same

-- A TEXT BESIDE THE TABLES

written_text : (f : Files) (left : Option (List ℕ)) → HasTables f → text_in (beside_is left f) ≡ text_in f
written_text f left has = by f.tables has
  where
    by : (tables : Option (List ℕ)) → tables ≢ None → text_by tables left f.older ≡ text_by tables f.beside f.older
    by None never = absurd (never refl)
    by (Some bytes) is = refl

written_some : (text : List ℕ) (result : Result (Unit {0}) Fault) (k now : Filed) → HasTables k.files → Written text result k now → held_of now ≡ held_of k
written_some text (Ok done) k now has is = ap held_of is ∙ held_same k (beside_is (Some text) k.files) (written_text k.files (Some text) has)
written_some text (Err fault) k now has is = ap held_of is.1 ∙ held_same k (beside_is is.0 k.files) (written_text k.files is.0 has)

pub written_told : (text : List ℕ) (result : Result (Unit {0}) Fault) (old new : Option Filed) → ForSome (files_of old) HasTables → WhereTold (Written text result) old new → as_held new ≡ as_held old
written_told text result None new has is = ap as_held is
written_told text result (Some k) new has is = ap as_held is.1 ∙ ap (λ (h : Held). let o : Option Held = Some h in o) (written_some text result k is.0 (has k.files refl) is.2)

-- A COMMAND WHOSE TEXT TAKES THE NAME

whole_by : (bytes : List ℕ) (beside older : Option (List ℕ)) → is_torn bytes ≡ false → text_by (Some bytes) beside older ≡ bytes
whole_by bytes beside older whole = ap (λ (b : Bool). if b then or_older older bytes else bytes) whole

swap_text : (swap keep : Bool) (f : Files) (text : List ℕ) → f.beside ≡ Some text → is_torn text ≡ false → text_in (swapped_if swap keep f) ≡ text
swap_text true true f text is whole = ap (λ (t : Option (List ℕ)). text_by t None f.tables) is ∙ whole_by text None f.tables whole
swap_text true false f text is whole = ap (λ (t : Option (List ℕ)). text_by t None f.older) is ∙ whole_by text None f.older whole
swap_text false true f text is whole = ap (λ (b : Option (List ℕ)). text_by None b f.tables) is ∙ ap (λ (b : Bool). if b then or_older f.tables [] else text) whole
swap_text false false f text is whole = ap (λ (b : Option (List ℕ)). text_by None b f.older) is ∙ ap (λ (b : Bool). if b then or_older f.older [] else text) whole

abbrev behind : DeviceOp → Result Answer Fault → Filed → List ℕ → Held
behind op answer k text = more (put_text true text (held_of k)) (Did op true answer ∷ [])

swap_held : (swap keep : Bool) (op : DeviceOp) (answer : Result Answer Fault) (k now : Filed) (text : List ℕ) → k.files.beside ≡ Some text → is_torn text ≡ false
    → now ≡ applied op answer (swapped_if swap keep k.files) k → held_of now ≡ behind op answer k text
swap_held swap keep op answer k now text beside whole is = ap held_of is ∙ ap (behind op answer k) (swap_text swap keep k.files text beside whole)

renamed_some : (op : DeviceOp) (answer : Answer) (keep : Bool) (result : Result (Unit {0}) Fault) (k now : Filed) (text : List ℕ) → k.files.beside ≡ Some text → is_torn text ≡ false
    → Renamed op answer keep false result k now → Put op answer text result (held_of k) (held_of now)
renamed_some op answer keep (Ok done) k now text beside whole is = swap_held true keep op (Ok answer) k now text beside whole is
renamed_some op answer keep (Err Failed) k now text beside whole (inl is) = (false, ap held_of is)
renamed_some op answer keep (Err Failed) k now text beside whole (inr is) = (true, swap_held is.0 keep op (Err Failed) k now text beside whole is.1)
renamed_some op answer keep (Err Stopped) k now text beside whole (inl is) = inl (ap held_of is)
renamed_some op answer keep (Err Stopped) k now text beside whole (inr is) = inr (true, swap_held is.0 keep op (Err Stopped) k now text beside whole is.1)

-- the text is made durable first, or it isn't
abbrev pub IsSure : Option Held → Option Held → Type 0
IsSure old new = (new ≡ old) ⊎ (new ≡ made_sure old)

sent_by : (op : DeviceOp) (answer : Answer) (text : List ℕ) (result : Result (Unit {0}) Fault) (old mid new : Option Held) → IsSure old mid
    → ((h : Held) → mid ≡ Some h → (now : Held) × (new ≡ Some now) × Put op answer text result h now) → (mid ≡ None → new ≡ None) → IsSent op answer text false result old new
sent_by op answer text result None mid new (inl is) put none = none is
sent_by op answer text result None mid new (inr is) put none = none is
sent_by op answer text result (Some h) mid new (inl is) put none = let p = put h is in (p.0, p.1, (false, p.2))
sent_by op answer text result (Some h) mid new (inr is) put none = let p = put (record h { older = [] }) is in (p.0, p.1, (true, p.2))

pub sure_after : (old start mid new : Option Held) → start ≡ old → IsSure start mid → new ≡ mid → IsSure old new
sure_after old start mid new first (inl is) last = inl (last ∙ is ∙ first)
sure_after old start mid new first (inr is) last = inr (last ∙ is ∙ ap made_sure first)

-- a call that is done has not stopped the folder
pub runs_by : (stopped : Bool) → (IsErrOf {T = Unit {0}} (Ok tt) Stopped ↔ IsTrue stopped) → stopped ≡ false
runs_by true h = absurd (let is = h.1 refl in cc is)
runs_by false h = refl

renamed_by : (op : DeviceOp) (answer : Answer) (keep stopped : Bool) (text : List ℕ) (result : Result (Unit {0}) Fault) (old : Option Held) (mid new : Option Filed) → stopped ≡ false
    → IsSure old (as_held mid) → ForSome (files_of mid) (IsBeside text) → is_torn text ≡ false → WhereTold (Renamed op answer keep stopped result) mid new → IsSent op answer text false result old (as_held new)
renamed_by op answer keep true text result old mid new runs sure beside whole is = absurd (cc runs)
renamed_by op answer keep false text result old None new runs sure beside whole is = sent_by op answer text result old None (as_held new) sure (λ h some. absurd (let never : None ≡ Some h = some in cc never)) (λ same. ap as_held is)
renamed_by op answer keep false text result old (Some k) new runs sure beside whole is =
    sent_by op answer text result old (Some (held_of k)) (as_held new) sure
    (λ h some. (
      held_of is.0,
      ap as_held is.1,
      subst (λ (x : Held). Put op answer text result x (held_of is.0)) (same_Some (held_of k) h some) (renamed_some op answer keep result k is.0 text (beside k.files refl) whole is.2),
    ))
    (λ none. absurd (let never : Some (held_of k) ≡ None = none in cc never))

pub renamed_sent : (op : DeviceOp) (answer : Answer) (keep was stopped : Bool) (text : List ℕ) (result : Result (Unit {0}) Fault) (old : Option Held) (mid new : Option Filed) (last : Option Held)
    → was ≡ false → stopped ≡ false → IsSure old (as_held mid) → ForSome (files_of mid) (IsBeside text) → is_torn text ≡ false → WhereTold (Renamed op answer keep stopped result) mid new
    → last ≡ as_held new → IsSent op answer text was result old last
renamed_sent op answer keep was stopped text result old mid new last ran runs sure beside whole is same =
    subst (λ (o : Option Held). IsSent op answer text was result old o) (sym same)
    (subst (λ (b : Bool). IsSent op answer text b result old (as_held new)) (sym ran) (renamed_by op answer keep stopped text result old mid new runs sure beside whole is))
