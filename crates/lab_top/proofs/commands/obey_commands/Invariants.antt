use Rattle.std.proofs.Common.{◌≡◌, ◌≤◌, ◌-◌, ◌^◌, ℕ, List, length, Some, None}
use Rattle.lab_io.specs.Passed.{IsReady, stand_of}
use Rattle.lab_io.specs.Taken.{pending_of, taken_of}
use Rattle.lab_top.specs.Answering.{Moment}
use Rattle.lab_top.specs.Pieces.{Begun, commands_of}
use Rattle.lab_top.specs.ReplyTakers.{Took, replies_of}
use Rattle.lab_core.specs.Sessions.{terms_of}
use Rattle.lab_top.proofs.Commanding.{Covers, at_start}
use Rattle.lab_top.proofs.Pieces.{Going}
use Rattle.lab_top.proofs.commands.obey_commands.Given as goal

abbrev pub invariant-commands : goal.invariant-commands
invariant-commands g l =
    let start : Moment = record { plant = g.P.Plant.seen l.fn.plant; controller = None } in
    let here : Moment = record { plant = g.P.Plant.seen l.plant; controller = l.run.controller } in
    record {
      ready : IsReady l.run.lines (g.S.Source.left l.source);
      near : length (pending_of l.run.lines) ≤ 8193;
      going : (begun : List Begun) × Going (terms_of g.P.Plant.takes_drills l.fn.rule.number) start here (g.T.ReplyTaker.written l.fn.taker) (g.T.ReplyTaker.written l.taker) begun
          × ((bytes : List ℕ) → g.S.Source.left l.fn.source ≡ Some bytes → Covers (at_start bytes) (stand_of l.run.lines (g.S.Source.left l.source)) (commands_of begun))
          × Took g.T.ReplyTaker.takes l.fn.taker (replies_of begun) l.taker;
      read : g.S.Source.faults l.fn.source ≤ g.S.Source.faults l.source;
      calm : g.S.Source.faults l.source ≡ g.S.Source.faults l.fn.source;
      write : g.T.ReplyTaker.faults l.fn.taker ≤ g.T.ReplyTaker.faults l.taker;
    }

abbrev pub decreases-commands : goal.decreases-commands
decreases-commands g l = 2 ^ 32 - taken_of l.run.lines
