use Rattle.std.proofs.Common.{◌<◌, ◌+◌, ◌≤◌, ◌∷◌, ◌++◌, [], map, Some, None, arith, length-append}
use Rattle.lab_base.proofs.Tests.{some_weaker}
use Rattle.plant.specs.Told.{Told}
use Rattle.plant.specs.Worlds.{world_of}
use Rattle.plant.specs.Readings.{IsBefore, IsEntry, RowsFit, TellsRow, entry_of}
use Rattle.plant.proofs.Fronts.{IsFront}
use Rattle.lab_audit.proofs.Reading.{both_told, read_on, rows_full, row_read, rows_end, told_before}
use Rattle.lab_audit.proofs.readings.rows_on.Goals as goal

pub loop-nth-preserved : goal.loop-nth-preserved
loop-nth-preserved g c =
    let a = g.P.Plant.seen c.args.plant.now in
    let b = g.P.Plant.seen c.loop-nth.plant in
    let so_far = c.loop-nth.invariant in
    let row = c.in-Some.row in
    let tells = told_before a b (λ (t : Told). TellsRow (world_of t.trace) c.args.switch c.loop-nth.nth (Some row)) so_far.so_far (rw c.in-Some.is at c.in_ok-row.ensures.row) in
    let front = both_told a.told (λ (t : Told). IsFront IsBefore (IsEntry (world_of t.trace) c.args.switch) (map entry_of c.loop-nth.rows)) (λ (t : Told). TellsRow (world_of t.trace) c.args.switch c.loop-nth.nth (Some row))
    (λ (t : Told). IsFront IsBefore (IsEntry (world_of t.trace) c.args.switch) (map entry_of (c.loop-nth.rows ++ row ∷ [])))
    (λ t f h. row_read (world_of t.trace) c.args.switch c.loop-nth.rows row c.loop-nth.nth so_far.count f h) so_far.front tells in
    let Fits : Told → Type 0 = λ t. RowsFit (world_of t.trace) c.args.switch in
    let fits = told_before a b Fits so_far.so_far c.in_ok-row.ensures.fits in
    record {
      so_far = read_on a b (g.P.Plant.seen c.row_at.new.plant) None so_far.so_far c.in_ok-row.ensures.reads;
      front = rw c.in_ok-push-in-Some.ensures.ok front;
      fits = some_weaker a.told Fits (λ (t : Told). 0 < c.loop-nth.nth + 1 → RowsFit (world_of t.trace) c.args.switch) (λ t f more. f) fits;
      count = rw c.in_ok-push-in-Some.ensures.ok (omega (arith, length-append c.loop-nth.rows (row ∷ []), so_far.count));
    }

pub returns-in-None-clause-exact : goal.returns-in-None-clause-exact
returns-in-None-clause-exact g c =
    let a = g.P.Plant.seen c.args.plant.now in
    let b = g.P.Plant.seen c.loop-nth.plant in
    let so_far = c.loop-nth.invariant in
    let tells = told_before a b (λ (t : Told). TellsRow (world_of t.trace) c.args.switch c.loop-nth.nth None) so_far.so_far (rw c.in-None.is at c.in_ok-row.ensures.row) in
    both_told a.told (λ (t : Told). IsFront IsBefore (IsEntry (world_of t.trace) c.args.switch) (map entry_of c.loop-nth.rows)) (λ (t : Told). TellsRow (world_of t.trace) c.args.switch c.loop-nth.nth None) _
    (λ t f h. rows_end (world_of t.trace) c.args.switch c.loop-nth.rows c.loop-nth.nth so_far.count f h) so_far.front tells

pub returns-clause-exact : goal.returns-clause-exact
returns-clause-exact g c =
    let a = g.P.Plant.seen c.args.plant.now in
    let so_far = c.loop-nth.invariant in
    let many : 4294967296 ≤ c.loop-nth.nth = omega arith in
    both_told a.told (λ (t : Told). IsFront IsBefore (IsEntry (world_of t.trace) c.args.switch) (map entry_of c.loop-nth.rows)) (λ (t : Told). 0 < c.loop-nth.nth → RowsFit (world_of t.trace) c.args.switch) _
    (λ t f h. rows_full (world_of t.trace) c.args.switch c.loop-nth.rows c.loop-nth.nth so_far.count many f (h (omega (arith, many)))) so_far.front so_far.fits
