use Rattle.std.proofs.Common.{◌∙◌, ℕ, arith, sym, ap, ◌+◌}
use Rattle.std.proofs.lemmas.Bool.{eq-eqb, ne_eqb}
use Rattle.lab_model.specs.Rules.{no_load}
use Rattle.feas.proofs.LoadLists.{later_on, left_to, passes, joins}
use Rattle.feas.proofs.plugs.may_bear.Goals as goal
use Rattle.feas.proofs.plugs.may_bear.Goals.{then-at-plug+else-not-may_join+else-other-left, else-at-plug}

pub loop-end-preserved : goal.loop-end-preserved
loop-end-preserved c = elim c.if-at-plug.branch [
  | then-at-plug+else-not-may_join+else-other-left w ↦
      let on = eq-eqb _ _ w.if-at-plug.true in
      let joined = sym w.may_join.ensures ∙ w.if-not-may_join.false in
      c.loop-end.invariant ∙ joins c.args.plug.0 c.args.loads.now c.args.plugs.now c.loop-end.end c.loop-end.left c.args.load.now _ _ c.requires (omega arith) on joined w.if-other-left.false
      ∙ ap (λ (n : ℕ). left_to c.args.load.now (later_on c.args.plug.0 c.args.loads.now c.args.plugs.now (c.loop-end.end + 1)) n) (sym w.left-is)
  | else-at-plug w ↦
      let off = ne_eqb _ _ w.if-at-plug.false in
      c.loop-end.invariant ∙ passes c.args.plug.0 c.args.loads.now c.args.plugs.now c.loop-end.end c.loop-end.left c.args.load.now no_load _ c.requires (omega arith) off
      ∙ ap (λ (n : ℕ). left_to c.args.load.now (later_on c.args.plug.0 c.args.loads.now c.args.plugs.now (c.loop-end.end + 1)) n) (sym w.left-is)
]
