use Rattle.std.proofs.Common.{List, sym, subst}
use Rattle.records_model.specs.Labs.{LabState, Texts}
use Rattle.swap_txn.specs.declared.live.Live.{Live}
use Rattle.swap_turns.specs.Running.{OpenSwap, Working}
use Rattle.swap_mgr.specs.Managing.{Holds, HasTurned}
use Rattle.swap_mgr.proofs.GoingOn.{turn_goes_on}
use Rattle.swap_mgr.proofs.Holding.{turned_one}
use Rattle.swap_mgr.proofs.manager.Manager.turn.Given as given
use Rattle.swap_mgr.proofs.manager.Manager.turn.Goals as goal

by_lab : (g : given.Over) (c : goal.After-put_back g) (t : Texts) (s : LabState) (opens : List (OpenSwap × Live)) → Working t (g.P.Plant.seen c.args.plant.now).told c.args.journal.now s opens → Holds c.args.self.now opens
    → HasTurned t s opens c.args.exp (g.P.Plant.seen c.args.plant.now) (g.P.Plant.seen c.one_turn-left.new.plant) c.args.journal.now c.one_turn-left.new.journal c.progress-progress.result c.put_back.new.self
by_lab g c t s opens working holds =
    let m = c.one_turn-left.ensures.turns in
    subst (λ p. HasTurned t s opens c.args.exp (g.P.Plant.seen c.args.plant.now) (g.P.Plant.seen c.one_turn-left.new.plant) c.args.journal.now c.one_turn-left.new.journal p c.put_back.new.self) (sym c.progress-progress.ensures.is)
    (turned_one t s opens c.args.exp _ _ c.args.journal.now c.one_turn-left.new.journal working c.args.self.now c.take.new.self c.put_back.new.self holds c.in-Some.live c.in-Some.ensures.taken c.in-Some.ensures.named m.turned c.one_turn-left.result m.turns m.is c.put_back.ensures)

pub returns-clause-turned : goal.returns-clause-turned
returns-clause-turned g c = λ t s opens working holds. by_lab g c t s opens working holds

pub returns-clause-goes_on : goal.returns-clause-goes_on
returns-clause-goes_on g c =
    let o = c.requires.managed in
    turn_goes_on o.texts o.lab o.opens c.args.exp _ _ c.args.journal.now c.one_turn-left.new.journal c.progress-progress.result c.put_back.new.self (by_lab g c o.texts o.lab o.opens o.working o.holds)
