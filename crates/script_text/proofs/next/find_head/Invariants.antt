use Rattle.std.proofs.Common.{◌≡◌, ◌≤◌, ◌-◌, ◌^◌, None}
use Rattle.lab_io.specs.Passed.{IsReady, stand_of}
use Rattle.lab_io.specs.Taken.{fault_of, taken_of}
use Rattle.script_text.specs.Taking.{HoldsNoMore, Skipped}
use Rattle.script_text.proofs.next.find_head.Given as goal

abbrev pub invariant-lines : goal.invariant-lines
invariant-lines g l = record {
  fault : fault_of l.fn.lines ≡ None → fault_of l.lines ≡ None;
  skipped : IsReady l.fn.lines (g.S.Source.left l.fn.source) → Skipped (stand_of l.fn.lines (g.S.Source.left l.fn.source)) (stand_of l.lines (g.S.Source.left l.source));
  later : g.S.Source.faults l.fn.source ≤ g.S.Source.faults l.source;
  calm : g.S.Source.faults l.source ≡ g.S.Source.faults l.fn.source;
  ahead : HoldsNoMore l.fn.lines l.lines;
  taken : taken_of l.fn.lines ≤ taken_of l.lines;
}

abbrev pub decreases-lines : goal.decreases-lines
decreases-lines g l = 2 ^ 32 - taken_of l.lines
