use Rattle.std.proofs.Common.{◌≤◌, [], Err, inl, inr, refl, sym, ap, ◌∙◌, length, subst, arith}
use Rattle.std.proofs.lemmas.Result.{err_from_is_err_and}
use Rattle.lab_base.proofs.Tests.{no_error}
use Rattle.lab_state.specs.Texts.{the_texts}
use Rattle.recovery.proofs.Due.{due_some}
use Rattle.recovery.proofs.Stepping.{is_due, none_more, none_settled, one_more, skipped, some_due, stepped, stepped_off, stops_as, moves_now, later_all}
use Rattle.recovery.proofs.all.settle.Goals as goal

pub loop-n-init : goal.loop-n-init
loop-n-init g c = record {
  so_far = none_settled the_texts c.args.state.now.state c.args.busy.now _ c.args.journal.now _ refl c.requires;
  count_is = c.len-count.ensures;
  runs = λ running. running;
  ran = inl refl;
  idle = λ none. (refl, refl, refl);
  same_limit = refl;
  same_live = refl;
}

pub loop-n-preserved-in_default : goal.loop-n-preserved-in_default
loop-n-preserved-in_default g c =
    let v = c.loop-n.invariant in
    let none_here = sym c.in_default.is ∙ c.due_at.ensures.due in
    let same = none_more the_texts c.args.state.now.state c.args.busy.now _ _ _ _ _ _ _ v.so_far (omega (arith, c.loop-n-test.true, v.count_is)) none_here in
    record {
      so_far = skipped the_texts c.args.state.now.state c.args.busy.now _ _ _ _ _ _ _ v.so_far (omega (arith, c.loop-n-test.true, v.count_is)) none_here;
      count_is = v.count_is;
      runs = v.runs;
      ran = elim v.ran [
        | inl none ↦ inl (sym same ∙ none)
        | inr running ↦ inr running
      ];
      idle = λ none. v.idle (same ∙ none);
      same_limit = v.same_limit;
      same_live = v.same_live;
    }

pub settle_one-requires-clause-moves : goal.settle_one-requires-clause-moves
settle_one-requires-clause-moves g c =
    let d = due_some c.args.busy.now _ c.in-Some.exp c.in-Some.ensures.due in
    let work = c.loop-n.invariant.so_far.has.work in
    record {
      swap = d.1;
      name = sym d.4;
      moves = moves_now _ _ c.args.busy.now d.0 d.1 work.sane.names work.swaps d.2 d.3 (subst (λ m. length m ≤ 32) d.4 c.in-Some.ensures.short);
    }

pub loop-n-preserved : goal.loop-n-preserved
loop-n-preserved g c =
    let v = c.loop-n.invariant in
    let d = due_some c.args.busy.now _ c.in-Some.exp c.in-Some.ensures.due in
    let work = v.so_far.has.work in
    let moves = moves_now _ _ c.args.busy.now d.0 d.1 work.sane.names work.swaps d.2 d.3 (subst (λ m. length m ≤ 32) d.4 c.in-Some.ensures.short) in
    record {
      so_far = stepped the_texts c.args.state.now.state c.args.busy.now _ _ _ _ _ _ _ v.so_far (omega (arith, c.loop-n-test.true, v.count_is)) _ _ _ d.0 d.1 d.2 d.3
          c.in_ok-one.one c.counted-settled.result (c.in_ok-one.ensures.over d.1 (sym d.4) moves) c.counted-settled.ensures;
      count_is = v.count_is;
      runs = λ running. no_error c.in_ok-one.one _ (g.P.Plant.seen c.settle_one.new.plant).stopped (c.in_ok-one.ensures.stopped (v.runs running));
      ran = inr (elim c.in_ok-one.ensures.stops [
        | inl wanting ↦ absurd (cc wanting)
        | inr stops ↦ no_error c.in_ok-one.one _ (g.P.Plant.seen c.settle_one.new.plant).stopped stops
      ]);
      idle = λ none. absurd (some_due _ d.1 [] (one_more the_texts c.args.state.now.state c.args.busy.now _ _ _ _ _ _ _ v.so_far (omega (arith, c.loop-n-test.true, v.count_is)) d.0 d.1 d.2 d.3 ∙ none));
      same_limit = c.in_ok-one.ensures.limit ∙ v.same_limit;
      same_live = c.in_ok-one.ensures.live ∙ v.same_live;
    }

pub returns-in_err-one-clause-after : goal.returns-in_err-one-clause-after
returns-in_err-one-clause-after g c =
    let v = c.loop-n.invariant in
    let d = due_some c.args.busy.now _ c.in-Some.exp c.in-Some.ensures.due in
    let work = v.so_far.has.work in
    let moves = moves_now _ _ c.args.busy.now d.0 d.1 work.sane.names work.swaps d.2 d.3 (subst (λ m. length m ≤ 32) d.4 c.in-Some.ensures.short) in
    let p = err_from_is_err_and c.from_residual.result c.from_residual.ensures.1 in
    rw (p.1, p.2) (stepped_off the_texts c.args.state.now.state c.args.busy.now _ _ _ _ _ _ _ v.so_far (omega (arith, c.loop-n-test.true, v.count_is)) _ _ _ d.0 d.1 d.2 d.3
    c.in_err-one.field-0.0 (c.in_err-one.ensures.over d.1 (sym d.4) moves) (λ is. (let m = c.in_err-one.ensures.memory (ap (λ e. Err e) is) in (m.0, m.1, ap (λ x. g.P.Plant.seen x) m.2))))

pub returns-in_err-one-clause-later : goal.returns-in_err-one-clause-later
returns-in_err-one-clause-later g c = later_all the_texts c.args.state.now.state c.args.busy.now _ _ _ _ _ _ (returns-in_err-one-clause-after g c)

pub returns-in_err-one-clause-stops : goal.returns-in_err-one-clause-stops
returns-in_err-one-clause-stops g c = let p = err_from_is_err_and c.from_residual.result c.from_residual.ensures.1 in rw (p.1, p.2) (inr (stops_as c.in_err-one.field-0.0 (g.P.Plant.seen c.settle_one.new.plant).stopped c.in_err-one.ensures.stops))

pub returns-in_err-one-clause-idle : goal.returns-in_err-one-clause-idle
returns-in_err-one-clause-idle g c =
    let v = c.loop-n.invariant in
    let d = due_some c.args.busy.now _ c.in-Some.exp c.in-Some.ensures.due in
    λ none. absurd (is_due the_texts c.args.state.now.state c.args.busy.now _ _ _ _ _ _ _ v.so_far (omega (arith, c.loop-n-test.true, v.count_is)) d.0 d.1 d.2 d.3 none)
