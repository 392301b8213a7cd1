use Rattle.lab_core.proofs.TurnLabs.{can_end_turn, turned_in}
use Rattle.lab_core.proofs.controller.Controller.turn_swap.Goals as goal

pub turn-requires : goal.turn-requires
turn-requires g c = let m = rw (← c.self.view_is) at c.requires.managed in record { managed = record { texts = _; lab = _; opens = m.opens; working = m.working; holds = m.holds } }

pub unreachable-requires : goal.unreachable-requires
unreachable-requires g c = c.in_default.ensures.not_open (rw (← c.self.view_is) at c.requires.is_open)

pub end_move-requires : goal.end_move-requires
end_move-requires g c =
    let m = rw (← c.self.view_is) at c.requires.managed in
    rw c.ended.ensures (can_end_turn _ m.opens c.args.exp _ _ _ _ c.in-Ok.progress _ (c.in-Ok.ensures.turned _ _ m.opens m.working m.holds))

pub returns-clause-turned : goal.returns-clause-turned
returns-clause-turned g c = rw (← c.self.view_is) (λ pairs working holds. turned_in _ pairs c.args.exp _ _ _ _ c.in-Ok.progress _ (c.in-Ok.ensures.turned _ _ pairs working holds) _ (rw c.ended.ensures at c.end_move.ensures))

pub returns-clause-limit : goal.returns-clause-limit
returns-clause-limit g c = rw (← c.self.view_is) c.turn.ensures.limit
