use Rattle.std.proofs.Common.{◌∙◌, ap, sym, arith}
use Rattle.lab_model.specs.Rules.{is_member}
use Rattle.map_state.proofs.TieLaws.{first_at}
use Rattle.map_state.proofs.ties.first_member.Goals as goal

pub returns-then-is_member-clause-first : goal.returns-then-is_member-clause-first
returns-then-is_member-clause-first c = λ places count.
    let w = c.args.wiring.now in
    let k = c.loop-earlier.earlier in
    first_at c.args.class w.nodes places k (omega (arith, c.loop-earlier-test.true, c.requires.virt)) count c.loop-earlier.invariant.none
    (ap (is_member c.args.class) (sym c.asks_of.ensures) ∙ sym c.is_member.ensures ∙ c.if-is_member.true)

pub returns-clause-first : goal.returns-clause-first
returns-clause-first c = λ places count.
    let out = c.loop-earlier-test.false in
    let end = c.loop-earlier.auto.earlier-end in
    first_at c.args.class c.args.wiring.now.nodes places c.args.virt c.requires.virt count (λ k lt. c.loop-earlier.invariant.none k (omega (arith, lt, out, end))) c.requires.member
