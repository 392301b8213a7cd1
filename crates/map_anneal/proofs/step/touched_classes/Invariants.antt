use Rattle.std.proofs.Common.{◌≡◌, ◌⊎◌, ◌<◌, ℕ, true, false, get_or}
use Rattle.virt_topo.specs.Wirings.{virt_at}
use Rattle.lab_model.specs.Rules.{is_member, place_at}
use Rattle.map_anneal.specs.Steps.{HasTwo}
use Rattle.map_anneal.proofs.step.touched_classes.Given as goal

abbrev pub invariant-loop-virt : goal.invariant-loop-virt
invariant-loop-virt l =
    (c : ℕ) → get_or l.classes.items c true ≡ false → (u : ℕ) → u < l.virt → is_member c (virt_at l.wiring u).asks ≡ true
    → ((place_at l.last u).1 ≡ (place_at l.next u).1) ⊎ (HasTwo l.wiring l.last l.next c (place_at l.last u).1 × HasTwo l.wiring l.last l.next c (place_at l.next u).1)
