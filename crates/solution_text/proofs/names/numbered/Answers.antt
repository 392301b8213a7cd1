use Rattle.std.proofs.Common.{ap, sym, ◌∙◌, arith}
use Rattle.std.specs.Map.{lookup}
use Rattle.solution_text.proofs.Places.{none_behind, one_before, from_first}
use Rattle.solution_text.proofs.names.numbered.Goals as goal

pub loop-number-init : goal.loop-number-init
loop-number-init g c = λ key. ap (lookup (g.K.PartialEq.eq key)) c.new-table.ensures.empty ∙ sym (none_behind (g.K.PartialEq.eq key) c.args.keys.now _ (omega arith))

pub loop-number-preserved : goal.loop-number-preserved
loop-number-preserved g c = λ key. one_before (g.K.PartialEq.eq key) c.args.keys.now c.loop-number.number _ c.index-keys-number.result _ _ _ (omega arith) (omega arith) c.index-keys-number.is (g.met.K.Eq.laws.symm _ key) (c.loop-number.invariant key) (c.in_ok-insert.ensures.updates.0 key)

pub returns : goal.returns
returns g c = λ key. c.loop-number.invariant key ∙ from_first (g.K.PartialEq.eq key) c.args.keys.now c.loop-number.number (omega arith)
