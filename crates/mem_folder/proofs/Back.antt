-- The text that a loss of power leaves.
use Rattle.std.proofs.Common.{◌≡◌, inl, inr, ℕ, zero, suc, List, [], ◌∷◌, ◌++◌, sym, ap, ◌∙◌, subst, length, take, drop, map, arith}
use Rattle.std.proofs.lemmas.List.{take_all}
use Rattle.lab_base.specs.Lists.{Has}
use Rattle.plant.specs.Disks.{Disk, at_once}
use Rattle.plant.specs.Events.{Event, Restarted}
use Rattle.plant.specs.declared.drill.Pick.{Pick}
use Rattle.plant.specs.declared.step.Step.{Step}
use Rattle.plant_mem.specs.Picks.{left_by}
use Rattle.mem_folder.specs.MemFolders.{event_of, trace_of, AreBegun}
use Rattle.mem_folder.specs.declared.mem_folder.OldText.{OldText}
use Rattle.mem_folder.specs.declared.sides.Sides.{Sides}
use Rattle.mem_folder.proofs.Pasts.{pushed}

-- what stands at a place of a list is in it
pub has_at : {A : Type 0} (k : ℕ) (xs : List A) (x : A) → take 1 (drop k xs) ≡ x ∷ [] → Has xs x
has_at zero [] x is = absurd (cc is)
has_at zero (y ∷ ys) x is = inl (cc is)
has_at (suc k) [] x is = absurd (cc is)
has_at (suc k) (y ∷ ys) x is = inr (has_at k ys x is)

pub map_at : {A B : Type 0} (f : A → B) (k : ℕ) (xs : List A) (x : A) → take 1 (drop k xs) ≡ x ∷ [] → take 1 (drop k (map f xs)) ≡ f x ∷ []
map_at f zero [] x is = absurd (cc is)
map_at f zero (y ∷ ys) x is = cc is
map_at f (suc k) [] x is = absurd (cc is)
map_at f (suc k) (y ∷ ys) x is = map_at f k ys x is

-- the history began with that of the text
pub begun_at : (newest old : OldText) (olds : List OldText) (trace : List Event) → trace_of newest.steps.items ≡ trace → AreBegun olds trace → Has (newest ∷ olds) old → take (length (trace_of old.steps.items)) trace ≡ trace_of old.steps.items
begun_at newest old olds trace is begun (inl same) =
    subst (λ (o : OldText). take (length (trace_of o.steps.items)) trace ≡ trace_of o.steps.items) same
    (subst (λ (l : List Event). take (length l) trace ≡ l) (sym is) (take_all (length trace) trace (omega arith)))
begun_at newest old olds trace is begun (inr has) = begun old has

-- the trace after a loss
pub lost_trace : (front items : List (Step × Sides)) (step : Step) (sides : Sides) (trace : List Event) (a b : List ℕ) → items ≡ front ++ (step, sides) ∷ [] → event_of (step, sides) ≡ Restarted a b
    → take (length (trace_of front)) trace ≡ trace_of front → trace_of items ≡ take (length (trace_of front)) trace ++ Restarted a b ∷ []
lost_trace front items step sides trace a b is event begun =
    ap trace_of is ∙ pushed front step sides ∙ ap (λ (e : Event). trace_of front ++ e ∷ []) event ∙ ap (λ (l : List Event). l ++ Restarted a b ∷ []) (sym begun)

pub left_is : (pick : Pick) (d old new : Disk) → new ≡ at_once (left_by pick old) → old ≡ d → new.reads ≡ left_by pick d
left_is pick d old new is was = ap (λ (x : Disk). x.reads) is ∙ ap (left_by pick) was

pub starts : (a b x y : List ℕ) → a ≡ x → b ≡ y → Restarted a b ≡ Restarted x y
starts a b x y first second = ap (λ (l : List ℕ). Restarted l b) first ∙ ap (λ (l : List ℕ). Restarted x l) second
