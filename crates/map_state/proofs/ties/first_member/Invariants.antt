use Rattle.std.proofs.Common.{◌≡◌, ◌<◌, ℕ, false}
use Rattle.virt_topo.specs.Wirings.{virt_at}
use Rattle.lab_model.specs.Rules.{is_member}
use Rattle.map_state.proofs.ties.first_member.Given as goal

abbrev pub invariant-loop-earlier : goal.invariant-loop-earlier
invariant-loop-earlier l = record { none : (k : ℕ) → k < l.earlier → is_member l.class (virt_at l.wiring k).asks ≡ false }
