use Rattle.std.proofs.Common.{◌≡◌, ◌≤◌, None}
use Rattle.lab_io.specs.Passed.{IsReady, stand_of}
use Rattle.lab_io.specs.Taken.{fault_of, taken_of}
use Rattle.script_text.specs.Taking.{HoldsNoMore, Blocked}
use Rattle.script_text.specs.Blocks.{IsBlock}
use Rattle.script_text.proofs.next.take_block.Given as goal

abbrev pub invariant-loop-number : goal.invariant-loop-number
invariant-loop-number g l = record {
  fault : fault_of l.fn.lines ≡ None → fault_of l.lines ≡ None;
  block : IsReady l.fn.lines (g.S.Source.left l.fn.source) → Blocked (stand_of l.fn.lines (g.S.Source.left l.fn.source)) (stand_of l.lines (g.S.Source.left l.source)) l._number l.block;
  lines : l.count ≤ 16384 → IsBlock l._number l.block;
  later : g.S.Source.faults l.fn.source ≤ g.S.Source.faults l.source;
  calm : g.S.Source.faults l.source ≡ g.S.Source.faults l.fn.source;
  ahead : HoldsNoMore l.fn.lines l.lines;
  taken : taken_of l.fn.lines ≤ taken_of l.lines;
}
