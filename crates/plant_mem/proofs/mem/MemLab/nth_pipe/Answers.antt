use Rattle.std.proofs.Common.{◌≡◌, ◌<◌, ◌≤◌, ℕ, Some, length, ap, sym, ◌∙◌, subst, arith}
use Rattle.std.specs.Prelude.{is_some}
use Rattle.plant.specs.Worlds.{world_of}
use Rattle.plant.specs.Readings.{HasPipe, IsNth}
use Rattle.plant_mem.specs.MemLab.{told_of}
use Rattle.plant_mem.specs.Readings.{numbers_below}
use Rattle.plant_mem.proofs.Numbers.{below_none, below_some, is_nth_number, no_nth_number, numbers_fit}
use Rattle.plant_mem.proofs.mem.MemLab.nth_pipe.Goals as goal
use Rattle.plant_mem.proofs.mem.MemLab.nth_pipe.Goals.{in-Some+else-left-eq0, in_default}

pub returns-then-left-eq0-clause-tells : goal.returns-then-left-eq0-clause-tells
returns-then-left-eq0-clause-tells c =
    let row = (world_of (told_of c.args.self.now).trace).node c.args.node in
    let number = c.loop-number.number in
    let named : c.numbered.result.pipe ≡ number = c.numbered.ensures.number in
    let count : c.args.nth ≡ length (numbers_below number row.pipes) = omega (arith, c.loop-number.invariant, c.if-left-eq0.true) in (
      subst (λ (n : ℕ). IsNth ◌<◌ (HasPipe row) c.args.nth (Some n)) (sym named) (is_nth_number row c.args.nth number count (ap is_some (sym c.in-Some.ensures))),
      ap row.pipes named ∙ sym c.in-Some.ensures ∙ ap Some (sym c.numbered.ensures.pipe),
    )

pub returns-then-left-eq0-clause-fits : goal.returns-then-left-eq0-clause-fits
returns-then-left-eq0-clause-fits c =
    numbers_fit ((world_of (told_of c.args.self.now).trace).node c.args.node) c.pipes_end-number-end.result c.pipes_end-number-end.ensures.bound (c.pipes_end-number-end.ensures.free c.args.node)

pub loop-number-preserved : goal.loop-number-preserved
loop-number-preserved c =
    let row = (world_of (told_of c.args.self.now).trace).node c.args.node in
    let number = c.loop-number.number in
    elim c.match-pipe_at.branch [
      | in-Some+else-left-eq0 w ↦ omega (arith, w.left-is, w.if-left-eq0.false, c.loop-number.invariant, below_some row.pipes number (ap is_some (sym w.in-Some.ensures)))
      | in_default w ↦ omega (arith, w.left-is, c.loop-number.invariant, below_none row.pipes number (sym w.in_default.ensures))
    ]

pub returns-clause-tells : goal.returns-clause-tells
returns-clause-tells c =
    let row = (world_of (told_of c.args.self.now).trace).node c.args.node in
    let end = c.pipes_end-number-end.result in
    let number = c.loop-number.number in
    let over : end ≤ number = c.loop-number-test.false in
    (no_nth_number row c.args.nth number (λ k le. c.pipes_end-number-end.ensures.free c.args.node k (omega (arith, le, over))) (omega (arith, c.loop-number.invariant)), tt)

pub returns-clause-fits : goal.returns-clause-fits
returns-clause-fits c =
    numbers_fit ((world_of (told_of c.args.self.now).trace).node c.args.node) c.pipes_end-number-end.result c.pipes_end-number-end.ensures.bound (c.pipes_end-number-end.ensures.free c.args.node)
