use Rattle.std.proofs.Common.{false, ◌≡◌, ◌∙◌, refl, arith}
use Rattle.script_text.specs.Replies.{closes}
use Rattle.lab_top.proofs.Obeyed.{later_same, makes_not, makes_off, makes_on, halts_if, makes_stopped, ok_runs}
use Rattle.lab_top.proofs.command.obey_open.Goals.{then-closes, else-closes}
use Rattle.lab_top.proofs.command.obey_open.Goals as goal

pub obey-requires-clause-works : goal.obey-requires-clause-works
obey-requires-clause-works g c = (c.requires.open.0, c.requires.open.1.works)

pub returns-after-closes-clause-makes : goal.returns-after-closes-clause-makes
returns-after-closes-clause-makes g c = λ mark swaps at is.
    let o = c.in-Ok.ensures.obeys swaps mark.devices at is.works in
    let old = g.P.Plant.seen c.args.plant.now in
    let mid = g.P.Plant.seen c.obey.new.plant in
    elim c.if-closes.branch [
      | then-closes w ↦
          rw w.controller-is (rw c.requires.taken (makes_off _ mark old mid c.args.command.now c.requires.no_drill c.args.opened c.obey.new.self swaps is c.in-Ok.reply o (cc (c.closes.ensures, w.if-closes.true)) (g.met.P.Plant.reads_possible c.obey.new.plant)))
      | else-closes w ↦
          let goes : closes c.in-Ok.reply ≡ false = cc (c.closes.ensures, w.if-closes.false) in
          rw w.controller-is (rw w.replace.ensures.after (makes_on _ mark old mid c.args.command.now c.requires.no_drill c.args.opened c.obey.new.self swaps is c.in-Ok.reply o goes (o.limit ∙ is.limit) (ok_runs c.in-Ok.reply mid.stopped (o.stopped c.requires.runs))))
    ]

pub returns-in-Err-Stopped-clause-makes : goal.returns-in-Err-Stopped-clause-makes
returns-in-Err-Stopped-clause-makes g c = λ mark swaps at is.
    let o = (rw c.in-Err-Stopped.field-0-is at c.in-Err-Stopped.ensures).obeys swaps mark.devices at is.works in
    let old = g.P.Plant.seen c.args.plant.now in
    let mid = g.P.Plant.seen c.obey.new.plant in
    rw c.requires.taken (makes_stopped _ mark old mid c.args.command.now c.requires.no_drill c.args.opened c.obey.new.self swaps is _ c.start_again.result o c.start_again.ensures.starts
    (g.met.P.Plant.reads_possible c.obey.new.plant) (halts_if c.start_again.result _ c.start_again.ensures.halts))

pub returns-in-Err-Memory-clause-makes : goal.returns-in-Err-Memory-clause-makes
returns-in-Err-Memory-clause-makes g c = λ mark swaps at is.
    let o = (rw c.in-Err-Memory.field-0-is at c.in-Err-Memory.ensures).obeys swaps mark.devices at is.works in
    let old = g.P.Plant.seen c.args.plant.now in
    let mid = g.P.Plant.seen c.obey.new.plant in
    rw c.requires.taken (makes_not _ mark old mid c.args.command.now c.requires.no_drill c.args.opened c.obey.new.self swaps is o)

pub returns-after-closes-clause-runs : goal.returns-after-closes-clause-runs
returns-after-closes-clause-runs g c = let o = c.in-Ok.ensures.obeys c.requires.open.0 0 (omega arith) c.requires.open.1.works in ok_runs c.in-Ok.reply _ (o.stopped c.requires.runs)

pub returns-after-closes-clause-disk : goal.returns-after-closes-clause-disk
returns-after-closes-clause-disk g c = (c.in-Ok.ensures.obeys c.requires.open.0 0 (omega arith) c.requires.open.1.works).down

pub returns-after-closes-clause-later : goal.returns-after-closes-clause-later
returns-after-closes-clause-later g c = let o = c.in-Ok.ensures.obeys c.requires.open.0 0 (omega arith) c.requires.open.1.works in record { disk = o.later; devices = o.still }

pub start_again-requires : goal.start_again-requires
start_again-requires g c =
    let o = (rw c.in-Err-Stopped.field-0-is at c.in-Err-Stopped.ensures).obeys c.requires.open.0 0 (omega arith) c.requires.open.1.works in
    (o.stopped c.requires.runs).0 refl

pub returns-in-Err-Stopped-clause-later : goal.returns-in-Err-Stopped-clause-later
returns-in-Err-Stopped-clause-later g c =
    let o = (rw c.in-Err-Stopped.field-0-is at c.in-Err-Stopped.ensures).obeys c.requires.open.0 0 (omega arith) c.requires.open.1.works in
    later_same _ _ _ o.later o.still c.start_again.ensures.faults

pub returns-in-Err-Memory-clause-later : goal.returns-in-Err-Memory-clause-later
returns-in-Err-Memory-clause-later g c =
    let o = (rw c.in-Err-Memory.field-0-is at c.in-Err-Memory.ensures).obeys c.requires.open.0 0 (omega arith) c.requires.open.1.works in
    record { disk = o.later; devices = o.still }
