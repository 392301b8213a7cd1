use Rattle.std.proofs.Common.{◌≡◌, ◌+◌, ◌-◌, ℕ, List, length, map, replicate, None, ap, sym, ◌∙◌, subst, arith}
use Rattle.phys_lab.specs.declared.parts.Node.{Node}
use Rattle.phys_lab.specs.declared.parts.Trunk.{Trunk}
use Rattle.claims.specs.declared.claim.Entry.{Entry}
use Rattle.claims.specs.Held.{size_of}
use Rattle.claims.specs.Kept.{Keeps}
use Rattle.claims.proofs.Empty.{in_order, empty_kept}
use Rattle.claims.proofs.claims.Claims.empty.Goals as goal

pub invariant_of-result : goal.invariant_of-result
invariant_of-result c =
    let lab = c.args.lab.now in
    let tables = c.in_ok-no_tables.field-0 in
    let kbps = c.in_ok-kbps_of.field-0.items in
    let n = c.in_ok-no_tables.ensures in
    let order = in_order lab.range.0 lab.range.1 c.range-range.ensures.lab.range in
    let range = c.range-range.ensures.range in
    let nodes = n.nodes ∙ ap (λ (l : List Node). replicate (length l) None) c.nodes.ensures in
    let used = n.used ∙ ap (λ (l : List Trunk). replicate (length l) 0) c.trunks-2.ensures.list in
    let first : c.range-range.result.0 ≡ lab.range.0 = ap (λ (r : ℕ × ℕ). r.0) range in
    let last : c.range-range.result.1 ≡ lab.range.1 = ap (λ (r : ℕ × ℕ). r.1) range in
    let size : (c.range-range.result.1 - c.range-range.result.0) + 1 ≡ size_of lab.range = omega (arith, first, last, order.order) in
    let kept = empty_kept lab kbps tables _ c.range-range.ensures.lab size (c.in_ok-kbps_of.ensures ∙ ap (λ (l : List Trunk). map (λ t. t.kbps) l) c.trunks.ensures.list) nodes used n.ids in
    record {
      keeps = subst (λ (r : ℕ × ℕ). Keeps r kbps c.in_ok-with_capacity.field-0.items tables) (sym range) (subst (λ (es : List Entry). Keeps lab.range kbps es tables) (sym c.in_ok-with_capacity.ensures.items) kept);
      room = c.in_ok-with_capacity.ensures.capacity;
    }
