use Rattle.std.proofs.Common.{◌≡◌, ◌*◌, ℕ, length, ap, subst, add-one, arith}
use Rattle.virt_topo.proofs.CableLaws.{sound_limits}
use Rattle.node_maps.proofs.MapLaws.{candidates_count}
use Rattle.map_anneal.specs.Searches.{sought_of}
use Rattle.map_anneal.specs.Sought.{choices}
use Rattle.map_anneal.specs.Walk.{tries}
use Rattle.map_anneal.specs.Walks.{Keeps}
use Rattle.map_anneal.proofs.walk.Walk.round.Goals as goal

pub overflow_mul-tries : goal.overflow_mul-tries
overflow_mul-tries g c =
    let x = c.args.search.now.mapper in
    omega (arith, c.len-tries.ensures, ap length c.requires.search.listed, candidates_count x.lab.now x.free.now x.wiring.now, (sound_limits x.wiring.now c.requires.search.mapper.sound).nodes)

pub loop-number-init : goal.loop-number-init
unfolding tries
loop-number-init g c = record { walk = c.requires.walk; keeps = λ x k. k }

pub loop-number-preserved : goal.loop-number-preserved
unfolding tries
loop-number-preserved g c =
    let s = sought_of c.args.search.now c.args.rule.now.number in
    record {
      walk = c.in_ok-step.ensures.walk;
      keeps = λ x k. rw add-one (c.in_ok-step.ensures.step (tries s c.args.heat c.loop-number._number x) (c.loop-number.invariant.keeps x k));
    }

pub returns-clause-round : goal.returns-clause-round
returns-clause-round g c = λ x k.
    let s = sought_of c.args.search.now c.args.rule.now.number in
    let listed = ap length c.requires.search.listed in
    let all : c.loop-number._number ≡ 8 * length (choices s) = omega (arith, c.len-tries.ensures, listed, c.loop-number-test.false, c.loop-number.auto._number-end) in
    subst (λ (n : ℕ). Keeps s c.loop-number.self (tries s c.args.heat n x)) all (c.loop-number.invariant.keeps x k)
