use Rattle.std.proofs.Common.{ℕ, List, length, get_or, nat_le, Option, IfSome, refl, subst}
use Rattle.std.specs.Prelude.{IsTrue, ◌↔◌}
use Rattle.lab_model.specs.Feasible.{AllPass}
use Rattle.trunk_sums.specs.declared.sums.Sums.{Sums}
use Rattle.trunk_sums.specs.Summed.{IsSummed}
use Rattle.map_state.proofs.SpareLaws.{spare_keeps}
use Rattle.map_state.proofs.StateLaws.{fits_by_sums}
use Rattle.map_state.proofs.state.MapState.has_room.Goals as goal

pub returns-in-Some : goal.returns-in-Some
returns-in-Some c =
    let x = c.args.search.now.mapper in
    let m = c.args.self.now.mapping in
    let laid = c.requires.state in
    let summed : IsSummed x.lab.now x.wiring.now m.plugs c.in-Some.sums =
    subst (λ (o : Option Sums). IfSome o (IsSummed x.lab.now x.wiring.now m.plugs)) c.in-Some.is laid.summed in
    fits_by_sums x.lab.now x.free.now x.wiring.now m c.in-Some.sums c.has_room.result laid.shaped summed
    (subst (λ (l : List ℕ). IsTrue c.has_room.result ↔ AllPass (length l) (λ t. nat_le (get_or l t 0) (get_or x.free.now.left t 0))) c.uses.ensures c.has_room.ensures)

pub returns-in-None : goal.returns-in-None
returns-in-None c =
    let x = c.args.search.now.mapper in
    ((λ yes. spare_keeps x.lab.now x.free.now x.wiring.now c.args.self.now.mapping (c.requires.state.spare c.in-None.is)), (λ all. refl))
