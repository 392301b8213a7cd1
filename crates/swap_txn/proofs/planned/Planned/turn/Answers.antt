use Rattle.std.proofs.Common.{refl, sym, subst}
use Rattle.swap_txn.specs.Turns.{WrittenBy}
use Rattle.swap_txn.specs.declared.live.Live.TheVariants.{Begun}
use Rattle.swap_txn.specs.declared.turned.Turned.TheVariants.{Next}
use Rattle.swap_txn.proofs.Standing.{written_stands}
use Rattle.swap_txn.proofs.Knowing.{begun_starts}
use Rattle.swap_txn.proofs.planned.Planned.turn.Goals as goal

pub returns-in-Ok-clause-stands : goal.returns-in-Ok-clause-stands
returns-in-Ok-clause-stands g c =
    let r = c.self.invariant.2 in
    let begun = Begun c.self.inside.work in
    let by = subst (λ a. WrittenBy c.args.self begun a (Next begun)) (sym c.in-Ok.is) refl in
    written_stands c.args.self begun r.0 _ _ _ _ c.write.result (Next begun) (c.write.ensures.writes r.0 r.1) by c.requires.stands

pub returns-in-Ok-clause-facts : goal.returns-in-Ok-clause-facts
returns-in-Ok-clause-facts g c = rw c.of.ensures (begun_starts c.self.inside.work c.self.invariant.0 (g.P.Plant.seen c.write.new.plant).told)
