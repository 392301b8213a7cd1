use Rattle.std.proofs.Common.{◌≡◌, ◌+◌, ◌<◌, ℕ, true, false, List, Some, None, length, drop, arith, refl, ap, sym, ltb}
use Rattle.std.proofs.lemmas.Bool.Decides.{nat_tests}
use Rattle.virt_topo.specs.Ends.{end_nodes, end_number}
use Rattle.virt_topo.specs.Soundness.{end_if}
use Rattle.virt_topo.proofs.EndLaws.{nodes_with, ends_with, no_more, length-nodes_of}
use Rattle.virt_topo.proofs.wiring.Wiring.end.Goals as goal

found : (ends n m : ℕ) → n ≡ m → m < ends → Some m ≡ end_if ends n
found ends n m is lt = let test : ltb n ends ≡ true = grind (arith, nat_tests) in rw test (ap (λ (k : ℕ). Some k) (sym is))

lost : (ends n : ℕ) → n ≡ ends → None ≡ end_if ends n
lost ends n is = let test : ltb n ends ≡ false = grind (arith, nat_tests) in rw test refl

pub loop-segment-init : goal.loop-segment-init
loop-segment-init c =
    let all : end_nodes c.as_slice-segment-items.result.now ≡ end_nodes c.args.self.now.segments = ap end_nodes c.as_slice-segment-items.ensures in
    let same = ap (λ (l : List ℕ). end_number l c.args.node c.args.k) all in
    record { number = omega (arith, same); passed = omega (arith, ap (λ (l : List ℕ). length l) all) }

-- the place is among the ends
within : (c : goal.In-At) → c.loop-segment.passed + c.in-At.at < length (end_nodes c.args.self.now.segments)
within c =
    let all = ends_with c.as_slice-segment-items.result.now c.loop-segment.segment-index c.segment-item.result c.as_slice.result.now c.loop-segment-test.true c.segment-item.is c.as_slice.ensures in
    let at = (c.in-At.ensures (end_nodes (drop (c.loop-segment.segment-index + 1) c.as_slice-segment-items.result.now))).1 in
    omega (arith, all, at, c.loop-segment.invariant.passed, length-nodes_of c.as_slice.result.now)

pub overflow_add-result : goal.overflow_add-result
overflow_add-result c = omega (arith, within c, c.requires)

pub overflow_cast-result : goal.overflow_cast-result
overflow_cast-result c = omega (arith, within c, c.requires)

pub returns-in-At : goal.returns-in-At
returns-in-At c =
    let rest = end_nodes (drop (c.loop-segment.segment-index + 1) c.as_slice-segment-items.result.now) in
    let all = nodes_with c.as_slice-segment-items.result.now c.loop-segment.segment-index c.segment-item.result c.as_slice.result.now c.loop-segment-test.true c.segment-item.is c.as_slice.ensures in
    let at = (c.in-At.ensures rest).0 in
    let here = ap (λ (l : List ℕ). end_number l c.args.node c.loop-segment.left) all in
    found _ _ _ (omega (arith, c.loop-segment.invariant.number, here, at)) (within c)

pub overflow_add-passed : goal.overflow_add-passed
overflow_add-passed c =
    let all = ends_with c.as_slice-segment-items.result.now c.loop-segment.segment-index c.segment-item.result c.segment-item.result.ends c.loop-segment-test.true c.segment-item.is refl in
    omega (arith, all, c.len-passed.ensures, c.loop-segment.invariant.passed, c.requires)

pub loop-segment-preserved : goal.loop-segment-preserved
loop-segment-preserved c =
    let rest = end_nodes (drop (c.loop-segment.segment-index + 1) c.as_slice-segment-items.result.now) in
    let nodes = nodes_with c.as_slice-segment-items.result.now c.loop-segment.segment-index c.segment-item.result c.as_slice.result.now c.loop-segment-test.true c.segment-item.is c.as_slice.ensures in
    let all = ends_with c.as_slice-segment-items.result.now c.loop-segment.segment-index c.segment-item.result c.segment-item.result.ends c.loop-segment-test.true c.segment-item.is refl in
    let here = ap (λ (l : List ℕ). end_number l c.args.node c.loop-segment.left) nodes in
    record {
      number = omega (arith, c.loop-segment.invariant.number, here, c.in-Later.ensures rest, length-nodes_of c.as_slice.result.now, ap length c.as_slice.ensures, c.len-passed.ensures);
      passed = omega (arith, all, c.len-passed.ensures, c.loop-segment.invariant.passed);
    }

pub returns : goal.returns
returns c =
    let none = no_more c.as_slice-segment-items.result.now c.loop-segment.segment-index (omega arith) in
    let number = ap (λ (l : List ℕ). end_number l c.args.node c.loop-segment.left) none in
    let passed = ap (λ (l : List ℕ). length l) none in
    lost _ _ (omega (arith, c.loop-segment.invariant.number, c.loop-segment.invariant.passed, number, passed))
