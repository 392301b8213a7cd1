use Rattle.std.proofs.Common.{◌≡◌, ◌≤◌, ℕ, Bool, true, false, None, length, ltb, refl, arith, sym}
use Rattle.std.proofs.lemmas.List.{get_or_past}
use Rattle.std.proofs.lemmas.Bool.Decides.{nat_tests}
use Rattle.virt_topo.specs.Ends.{end_nodes, end_multiplexed, end_number}
use Rattle.virt_topo.specs.Soundness.{end_if}
use Rattle.virt_topo.proofs.EndLaws.{length-flags}
use Rattle.virt_topo.proofs.pipes.is_multiplexed_at.Goals as goal

none_past : (ends n : ℕ) → None ≡ end_if ends n → ends ≤ n
none_past ends n is = by (ltb n ends) refl
  where
    by : (b : Bool) → ltb n ends ≡ b → ends ≤ n
    by true test = let none = rw test at is in cc none
    by false test = grind (arith, nat_tests)

pub returns-in-None : goal.returns-in-None
returns-in-None c =
    let segments = c.args.wiring.now.segments in
    let past = none_past (length (end_nodes segments)) (end_number (end_nodes segments) c.args.node c.args.k) c.in-None.ensures in
    sym (get_or_past (end_multiplexed segments) (end_number (end_nodes segments) c.args.node c.args.k) false (omega (arith, length-flags segments, past)))
