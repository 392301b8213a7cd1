use Rattle.std.proofs.Common.{◌≡◌, ◌<◌, ◌+◌, ◌≤◌, ◌∷◌, ◌++◌, [], map, Some, None, arith, length-append}
use Rattle.lab_base.specs.Lists.{Has}
use Rattle.lab_base.proofs.Tests.{some_weaker}
use Rattle.plant.specs.Told.{Told}
use Rattle.plant.specs.Worlds.{world_of}
use Rattle.plant.specs.Readings.{HasPipe, PipesFit, TellsPipe, pipe_of}
use Rattle.plant.specs.declared.pipe_row.PipeRow.{PipeRow}
use Rattle.plant.proofs.Fronts.{IsFront}
use Rattle.lab_audit.proofs.Reading.{both_told, each_more, number_of, pipe_read, pipes_end, pipes_full, read_on, three_told, told_before}
use Rattle.lab_audit.proofs.readings.pipes_of.Goals as goal

pub loop-nth-preserved : goal.loop-nth-preserved
loop-nth-preserved g c =
    let a = g.P.Plant.seen c.args.plant.now in
    let b = g.P.Plant.seen c.loop-nth.plant in
    let so_far = c.loop-nth.invariant in
    let pipe = c.in-Some.pipe in
    let old = c.loop-nth.pipes in
    let Tells : Told → Type 0 = λ t. TellsPipe ((world_of t.trace).node c.args.node) c.loop-nth.nth (Some pipe) in
    let tells = told_before a b Tells so_far.so_far (rw c.in-Some.is at c.in_ok-pipe.ensures.pipe) in
    let front = both_told a.told (λ (t : Told). IsFront ◌<◌ (HasPipe ((world_of t.trace).node c.args.node)) (map number_of old)) Tells
    (λ (t : Told). IsFront ◌<◌ (HasPipe ((world_of t.trace).node c.args.node)) (map number_of (old ++ pipe ∷ [])))
    (λ t f h. pipe_read ((world_of t.trace).node c.args.node) old pipe c.loop-nth.nth so_far.count f h) so_far.front tells in
    let each = both_told a.told (λ (t : Told). (p : PipeRow) → Has old p → ((world_of t.trace).node c.args.node).pipes p.pipe ≡ Some (pipe_of p)) Tells
    (λ (t : Told). (p : PipeRow) → Has (old ++ pipe ∷ []) p → ((world_of t.trace).node c.args.node).pipes p.pipe ≡ Some (pipe_of p))
    (λ t e h. each_more ((world_of t.trace).node c.args.node) old pipe c.loop-nth.nth e h) so_far.each tells in
    let Fits : Told → Type 0 = λ t. PipesFit ((world_of t.trace).node c.args.node) in
    let fits = told_before a b Fits so_far.so_far c.in_ok-pipe.ensures.fits in
    record {
      so_far = read_on a b (g.P.Plant.seen c.pipe_at.new.plant) None so_far.so_far c.in_ok-pipe.ensures.reads;
      front = rw c.in_ok-push-in-Some.ensures.ok front;
      each = rw c.in_ok-push-in-Some.ensures.ok each;
      fits = some_weaker a.told Fits (λ (t : Told). 0 < c.loop-nth.nth + 1 → PipesFit ((world_of t.trace).node c.args.node)) (λ t f more. f) fits;
      count = rw c.in_ok-push-in-Some.ensures.ok (omega (arith, length-append old (pipe ∷ []), so_far.count));
    }

pub returns-in-None-clause-exact : goal.returns-in-None-clause-exact
returns-in-None-clause-exact g c =
    let a = g.P.Plant.seen c.args.plant.now in
    let b = g.P.Plant.seen c.loop-nth.plant in
    let so_far = c.loop-nth.invariant in
    let old = c.loop-nth.pipes in
    let Tells : Told → Type 0 = λ t. TellsPipe ((world_of t.trace).node c.args.node) c.loop-nth.nth None in
    let tells = told_before a b Tells so_far.so_far (rw c.in-None.is at c.in_ok-pipe.ensures.pipe) in
    three_told a.told (λ (t : Told). IsFront ◌<◌ (HasPipe ((world_of t.trace).node c.args.node)) (map number_of old))
    (λ (t : Told). (p : PipeRow) → Has old p → ((world_of t.trace).node c.args.node).pipes p.pipe ≡ Some (pipe_of p)) Tells _
    (λ t f e h. pipes_end ((world_of t.trace).node c.args.node) old c.loop-nth.nth so_far.count f e h) so_far.front so_far.each tells

pub returns-clause-exact : goal.returns-clause-exact
returns-clause-exact g c =
    let a = g.P.Plant.seen c.args.plant.now in
    let so_far = c.loop-nth.invariant in
    let old = c.loop-nth.pipes in
    let many : 65536 ≤ c.loop-nth.nth = omega arith in
    three_told a.told (λ (t : Told). IsFront ◌<◌ (HasPipe ((world_of t.trace).node c.args.node)) (map number_of old))
    (λ (t : Told). (p : PipeRow) → Has old p → ((world_of t.trace).node c.args.node).pipes p.pipe ≡ Some (pipe_of p))
    (λ (t : Told). 0 < c.loop-nth.nth → PipesFit ((world_of t.trace).node c.args.node)) _
    (λ t f e h. pipes_full ((world_of t.trace).node c.args.node) old c.loop-nth.nth so_far.count many f e (h (omega (arith, many)))) so_far.front so_far.each so_far.fits
