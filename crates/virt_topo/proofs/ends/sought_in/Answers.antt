use Rattle.std.proofs.Common.{◌≡◌, ◌+◌, ◌++◌, ℕ, None, drop, arith, ap}
use Rattle.std.proofs.lemmas.List.{length-map}
use Rattle.virt_topo.specs.Ends.{end_number}
use Rattle.virt_topo.specs.declared.wiring.VirtEnd.{VirtEnd}
use Rattle.virt_topo.proofs.EndLaws.{nodes_of, end_here, end_passed, end_other, end_none}
use Rattle.virt_topo.proofs.ends.sought_in.Goals as goal
use Rattle.virt_topo.proofs.ends.sought_in.Goals.{then-end-node+else-left-eq0, else-end-node}

no_end : VirtEnd
no_end = record { node = 0; address = None }

pub loop-at-init : goal.loop-at-init
loop-at-init c = λ rest. omega arith

pub returns-then-left-eq0 : goal.returns-then-left-eq0
returns-then-left-eq0 c = λ rest. (
  let here = end_here c.args.ends.now c.loop-at.at _ rest c.args.node c.loop-at.left c.loop-at-test.true c.if-end-node.true c.if-left-eq0.true in
      omega (arith, c.loop-at.invariant rest, here),
  omega (arith, c.loop-at-test.true, length-map c.args.ends.now (λ (e : VirtEnd). e.node)),
)

pub loop-at-preserved : goal.loop-at-preserved
loop-at-preserved c = λ rest. elim c.if-end-node.branch [
  | then-end-node+else-left-eq0 w ↦
      let step = end_passed c.args.ends.now c.loop-at.at _ rest c.args.node c.loop-at.left c.if-end-node.left c.loop-at-test.true w.if-end-node.true w.if-left-eq0.false w.left-is in
      omega (arith, c.loop-at.invariant rest, step)
  | else-end-node w ↦
      let step = end_other c.args.ends.now c.loop-at.at _ rest c.args.node c.loop-at.left c.loop-at-test.true w.if-end-node.false in
      let same : end_number (nodes_of (drop (c.loop-at.at + 1) c.args.ends.now) ++ rest) c.args.node c.if-end-node.left ≡ end_number (nodes_of (drop (c.loop-at.at + 1) c.args.ends.now) ++ rest) c.args.node c.loop-at.left = ap (λ (k : ℕ). end_number (nodes_of (drop (c.loop-at.at + 1) c.args.ends.now) ++ rest) c.args.node k) w.left-is in
      omega (arith, c.loop-at.invariant rest, step, same)
]

pub returns : goal.returns
returns c = λ rest.
    let none = end_none c.args.ends.now c.loop-at.at rest c.args.node c.loop-at.left (omega arith) in
    omega (arith, c.loop-at.invariant rest, none, length-map c.args.ends.now (λ (e : VirtEnd). e.node))
