use Rattle.swap_txn.specs.Turns.{held}
use Rattle.swap_txn.proofs.Knowing.{hands_on}
use Rattle.swap_txn.proofs.Standing.{turn_stops, turn_stands, held_stops, held_standing}
use Rattle.swap_txn.proofs.Turning.{stuck_suits, turn_at, named_room, named_turns, named_works}
use Rattle.swap_txn.proofs.at.At.turn.Goals as goal

pub turn-requires-clause-fits : goal.turn-requires-clause-fits
turn-requires-clause-fits g c = named_room g.S.Named.named g.S.State.Suits c.self.inside.work c.args.self c.args.journal.now g.met.S.Named.is_name c.self.view_is c.self.invariant c.requires.fits

pub turned-requires : goal.turned-requires
turned-requires g c = stuck_suits g.S.State.Suits c.self.inside.work c.turn.result c.self.invariant c.turn.ensures.stays

pub returns-clause-turns : goal.returns-clause-turns
returns-clause-turns g c =
    named_turns g.S.Named.named c.args.self _ _ _ _ c.turn.result (held g.S.Named.named c.turned.result) g.met.S.Named.is_name (turn_at c.self.inside.work c.args.self _ _ _ _ c.turn.result c.self.view_is c.turn.ensures.turns) c.turned.ensures

pub returns-clause-stopped : goal.returns-clause-stopped
returns-clause-stopped g c =
    held_stops g.S.Named.named c.turned.result _
    (turn_stops (g.S.Named.named c.args.self) _ _ _ _ (held g.S.Named.named c.turned.result) (returns-clause-turns g c) (named_works g.S.Named.named c.args.self g.met.S.Named.is_name))

pub returns-clause-stands : goal.returns-clause-stands
returns-clause-stands g c =
    held_standing g.S.Named.named c.turned.result _ (turn_stands (g.S.Named.named c.args.self) _ _ _ _ (held g.S.Named.named c.turned.result) (returns-clause-turns g c) c.requires.stands)

pub returns-clause-facts : goal.returns-clause-facts
returns-clause-facts g c = hands_on (g.S.Named.named c.args.self) _ _ _ _ (held g.S.Named.named c.turned.result) (returns-clause-turns g c)
