use Rattle.records_model.specs.Labs.{lab_in}
use Rattle.swap_turns.specs.Legs.{leg_view}
use Rattle.swap_turns.proofs.Finishing.{way_after}
use Rattle.swap_turns.proofs.Needs.{stands_at, fits_open, works_by, fewer_open}
use Rattle.swap_turns.proofs.Stepping.{left_after, left_less, left_stops}
use Rattle.swap_turns.proofs.turn.one_turn.Goals as goal

pub turn-requires-clause-stands : goal.turn-requires-clause-stands
turn-requires-clause-stands g c = let o = c.requires.can in stands_at o.texts _ c.args.journal.now o.lab o.work

pub turn-requires-clause-fits : goal.turn-requires-clause-fits
turn-requires-clause-fits g c = let o = c.requires.can in fits_open o.texts _ c.args.journal.now o.lab o.swap c.args.live o.work o.is_open

pub returns-clause-after : goal.returns-clause-after
returns-clause-after g c = λ t s o before first w. left_after t s o before _ first _ c.left_of.result c.turn.result (way_after t s o before _ _ first _ _ c.args.live w c.turn.result c.turn.ensures.turns) c.left_of.ensures

pub returns-clause-less : goal.returns-clause-less
returns-clause-less g c = let o = c.requires.can in left_less c.args.live c.turn.result c.left_of.result (fewer_open o.lab o.swap _ _ _ _ c.args.live c.turn.result o.is_open c.turn.ensures.turns) c.left_of.ensures

pub returns-clause-stopped : goal.returns-clause-stopped
returns-clause-stopped g c =
    let o = c.requires.can in
    let both = c.turn.ensures.stopped (works_by (leg_view o.swap.swap (lab_in o.lab.lab) o.swap.leg o.is_open.left) c.args.live o.is_open.state_is) in
    let left = left_stops c.turn.result c.left_of.result c.left_of.ensures in
    (λ h. both.0 (left.1 h), λ h. left.0 (both.1 h))
