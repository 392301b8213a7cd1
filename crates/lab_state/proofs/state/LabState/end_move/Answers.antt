use Rattle.lab_state.proofs.EnterLaws.{ending_kept}
use Rattle.lab_state.proofs.state.LabState.end_move.Goals as goal

pub end_move-stands-requires : goal.end_move-stands-requires
end_move-stands-requires c =
    let e = ending_kept c.self.inside.claimed_lab c.self.inside.experiments.list c.args.exp c.args.commit c.self.invariant (rw (← c.self.view_is) at c.requires) in
    (e.before, e.found)

pub invariant_of-self : goal.invariant_of-self
invariant_of-self c =
    let e = ending_kept c.self.inside.claimed_lab c.self.inside.experiments.list c.args.exp c.args.commit c.self.invariant (rw (← c.self.view_is) at c.requires) in
    rw (c.settle.ensures, c.end_move-stands.ensures.list e.before e.found, c.end_move-stands.ensures.stands e.before e.found) e.kept

pub returns : goal.returns
returns c =
    let e = ending_kept c.self.inside.claimed_lab c.self.inside.experiments.list c.args.exp c.args.commit c.self.invariant (rw (← c.self.view_is) at c.requires) in
    rw (← c.self.view_is, c.settle.ensures, c.end_move-stands.ensures.list e.before e.found) (e.moves c.end_move-stands.result)
