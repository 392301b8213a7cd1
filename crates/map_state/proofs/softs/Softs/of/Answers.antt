use Rattle.std.proofs.Common.{◌≡◌, ◌<◌, ℕ, List, [], length, get_or, subst}
use Rattle.virt_topo.specs.declared.wiring.VirtNode.{VirtNode}
use Rattle.node_maps.specs.Kinds.{AreKinds}
use Rattle.map_state.specs.Softs.{IsSoftRow}
use Rattle.map_state.proofs.SoftRows.{are_softs}
use Rattle.map_state.proofs.softs.Softs.of.Goals as goal

pub returns : goal.returns
returns c =
    let kinds = c.in_ok-found.found.kinds.items in
    let ones = c.in_ok-found.found.ones.items in
    are_softs c.args.lab.now c.args.wiring.now ones _ (subst (λ (l : List VirtNode). AreKinds l (length l) ones kinds) c.as_slice.ensures c.in_ok-found.ensures)
    (subst (λ (l : List ℕ). length c.in_ok-rows.rows.items ≡ length l) c.deref.ensures.value c.in_ok-rows.ensures.one_each)
    (subst (λ (l : List ℕ). (k : ℕ) → k < length l → IsSoftRow c.args.lab.now c.args.wiring.now (get_or l k 0) (get_or c.in_ok-rows.rows.items k [])) c.deref.ensures.value c.in_ok-rows.ensures.each)
