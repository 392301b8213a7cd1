-- A step more, and what it leaves of the images.
use Rattle.std.specs.Str.{bytes_eq}
use Rattle.std.proofs.Common.{◌≡◌, ◌≢◌, ◌⊎◌, inl, inr, map, List, [], ◌∷◌, ◌++◌, sym, ap, ◌∙◌}
use Rattle.std.proofs.lemmas.Bool.{cases_Bool, true≢false}
use Rattle.std.proofs.lemmas.Slice.Eq.{bytes_eq-Decides}
use Rattle.std.proofs.lemmas.List.Sums.{fold-append}
use Rattle.lab_base.specs.Lists.{Has, AllDiffer}
use Rattle.lab_base.proofs.Members.{Has-mapped}
use Rattle.virt_topo.specs.declared.experiment.Experiment.{Experiment}
use Rattle.plant.specs.Worlds.{blank, world_of, world_after}
use Rattle.plant.specs.Events.{Event}

-- the world, and a side, after one step more
pub world_push : (trace : List Event) (event : Event) → world_of (trace ++ event ∷ []) ≡ world_after (world_of trace) event
world_push trace event = fold-append world_after blank trace (event ∷ [])

by_name : (es : List Experiment) (e f : Experiment) → AllDiffer (map (λ x. x.name) es) → Has es e → Has es f → e.name ≡ f.name → e ≡ f
by_name [] e f differ in_e in_f same = absurd in_e
by_name (x ∷ es) e f differ (inl p) (inl q) same = sym p ∙ q
by_name (x ∷ es) e f differ (inl p) (inr h) same = absurd (differ.0 f.name (Has-mapped (λ y. y.name) es f h) (ap (λ y. y.name) p ∙ same))
by_name (x ∷ es) e f differ (inr h) (inl q) same = absurd (differ.0 e.name (Has-mapped (λ y. y.name) es e h) (ap (λ y. y.name) q ∙ sym same))
by_name (x ∷ es) e f differ (inr h) (inr g) same = by_name es e f differ.1 h g same

-- names that differ tell experiments apart
pub same_or_not : (es : List Experiment) (e f : Experiment) → AllDiffer (map (λ x. x.name) es) → Has es e → Has es f → (e ≡ f) ⊎ (e ≢ f)
same_or_not es e f differ in_e in_f = elim (cases_Bool (bytes_eq e.name f.name)) [
  | inl same ↦ inl (by_name es e f differ in_e in_f ((bytes_eq-Decides e.name f.name).0 same))
  | inr apart ↦ inr (λ is. true≢false (sym ((bytes_eq-Decides e.name f.name).1 (ap (λ x. x.name) is)) ∙ apart))
]
