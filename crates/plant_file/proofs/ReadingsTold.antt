-- Readings of a folder that tells.
use Rattle.std.proofs.Common.{◌≡◌, ℕ, List, [], Option, Some, None, Result, Ok, Err, refl, sym, ap, ◌∙◌, subst}
use Rattle.std.specs.Prelude.{IfOk, OnOk}
use Rattle.std.proofs.lemmas.List.{append-nil}
use Rattle.lab_base.specs.declared.memory.Memory.{Memory}
use Rattle.plant.specs.Events.{Event}
use Rattle.plant.specs.Readings.{unread}
use Rattle.plant.specs.declared.pipe_row.ReadFailed.{ReadFailed}
use Rattle.folder.specs.Folders.{Held, with_steps}

pub steps_none : (held : Option Held) → held ≡ with_steps held []
steps_none None = refl
steps_none (Some h) = ap (λ (l : List Event). let o : Option Held = Some (record h { past = record h.past { trace = l } }) in o) (sym (append-nil h.past.trace))

-- a reading that has its tables leaves the folder as it was
pub told_still : {T : Type 0} (device : List ℕ) (value : T) (old new : Option Held) → new ≡ old → new ≡ with_steps old (unread device (Ok value))
told_still device value old new is = is ∙ steps_none old

-- after it comes what its answer adds
pub told_after : {S T : Type 0} (device : List ℕ) (value : S) (result : Result T ReadFailed) (old mid new : Option Held) → mid ≡ with_steps old (unread device (Ok value)) → new ≡ with_steps mid (unread device result) → new ≡ with_steps old (unread device result)
told_after device value result old mid new first is = is ∙ ap (λ (h : Option Held). with_steps h (unread device result)) (first ∙ sym (steps_none old))

-- a fact of what was found is one of what is answered
pub told_by : {T : Type 0} (result : Result T ReadFailed) (found : Result T Memory) (P Q : T → Type 0) → IfOk result (λ value. found ≡ Ok value) → IfOk found P → ((value : T) → P value → Q value) → IfOk result Q
told_by (Ok value) found P Q is told more = more value (subst (λ (f : Result _ Memory). IfOk f P) is told)
told_by (Err fault) found P Q is told more = tt

pub fits_by : {T : Type 0} (result : Result T ReadFailed) (found : Result T Memory) (P Q : Type 0) → IfOk result (λ value. found ≡ Ok value) → OnOk found P → (P → Q) → OnOk result Q
fits_by (Ok value) found P Q is fit more = more (subst (λ (f : Result _ Memory). OnOk f P) is fit)
fits_by (Err fault) found P Q is fit more = tt
