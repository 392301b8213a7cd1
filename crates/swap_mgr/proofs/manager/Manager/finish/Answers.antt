use Rattle.records_model.specs.Labs.{LabState, Texts}
use Rattle.swap_txn.specs.declared.live.Live.{Live}
use Rattle.swap_turns.specs.Running.{OpenSwap, Working}
use Rattle.std.proofs.Common.{List}
use Rattle.swap_mgr.specs.Managing.{Holds, HasTurnedToEnd}
use Rattle.swap_mgr.proofs.GoingOn.{end_goes_on}
use Rattle.swap_mgr.proofs.Holding.{way_of, out_one}
use Rattle.swap_mgr.proofs.manager.Manager.finish.Given as given
use Rattle.swap_mgr.proofs.manager.Manager.finish.Goals as goal

pub finish-requires : goal.finish-requires
finish-requires g c =
    let m = c.requires.managed in
    record {
      swaps = record {
        texts = m.texts;
        lab = m.lab;
        swap = _;
        before = _;
        first = _;
        way = way_of m.texts m.lab m.opens c.args.exp (g.P.Plant.seen c.args.plant.now) (g.P.Plant.seen c.args.plant.now) c.args.journal.now c.args.journal.now m.working c.args.self.now c.take.new.self c.take.new.self m.holds c.in-Some.live c.in-Some.ensures.taken c.in-Some.ensures.named;
      };
    }

by_lab : (g : given.Over) (c : goal.After-finish g) (t : Texts) (s : LabState) (opens : List (OpenSwap × Live)) → Working t (g.P.Plant.seen c.args.plant.now).told c.args.journal.now s opens → Holds c.args.self.now opens
    → HasTurnedToEnd t s opens c.args.exp (g.P.Plant.seen c.args.plant.now) (g.P.Plant.seen c.finish.new.plant) c.args.journal.now c.finish.new.journal c.finish.result c.take.new.self
by_lab g c t s opens working holds =
    out_one t s opens c.args.exp (g.P.Plant.seen c.args.plant.now) (g.P.Plant.seen c.finish.new.plant) c.args.journal.now c.finish.new.journal working c.args.self.now c.take.new.self c.take.new.self holds c.in-Some.live c.in-Some.ensures.taken c.in-Some.ensures.named
    c.finish.result
    (c.finish.ensures.ends t s _ _ _ (way_of t s opens c.args.exp (g.P.Plant.seen c.args.plant.now) (g.P.Plant.seen c.finish.new.plant) c.args.journal.now c.finish.new.journal working c.args.self.now c.take.new.self c.take.new.self holds c.in-Some.live c.in-Some.ensures.taken c.in-Some.ensures.named))

pub returns-clause-finished : goal.returns-clause-finished
returns-clause-finished g c = λ t s opens working holds. by_lab g c t s opens working holds

pub returns-clause-goes_on : goal.returns-clause-goes_on
returns-clause-goes_on g c =
    let m = c.requires.managed in
    end_goes_on m.texts m.lab m.opens c.args.exp _ _ c.args.journal.now c.finish.new.journal c.finish.result c.take.new.self (by_lab g c m.texts m.lab m.opens m.working m.holds)
