use Rattle.std.proofs.Common.{◌-◌, ◌++◌, length, List, All}
use Rattle.tcl_words.specs.declared.word.Part.{Part}
use Rattle.tcl_words.specs.Words.{InBraces, LiesIn}
use Rattle.tcl_words.proofs.parts.braced_parts.Given as goal

abbrev pub invariant-bytes : goal.invariant-bytes
invariant-bytes l = record {
  rest : (ps : List Part) → InBraces l.text l.end l.plain l.at ps → InBraces l.text l.end l.start l.start (l.parts ++ ps);
  lie : All (LiesIn (length l.text)) l.parts;
}

abbrev pub decreases-bytes : goal.decreases-bytes
decreases-bytes l = l.end - l.at
