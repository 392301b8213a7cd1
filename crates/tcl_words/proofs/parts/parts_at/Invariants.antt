use Rattle.std.proofs.Common.{ℕ, ◌-◌, ◌≤◌, length, List, Result, All}
use Rattle.tcl_words.specs.declared.flaw.Flaw.{Flaw}
use Rattle.tcl_words.specs.declared.word.Part.{Part}
use Rattle.tcl_words.specs.Words.{PartsOf, after_parts, LiesIn}
use Rattle.tcl_words.proofs.parts.parts_at.Given as goal

-- however the rest is read, the whole is read so, with the parts so far before it
abbrev pub invariant-parts : goal.invariant-parts
invariant-parts l = record {
  rest : (o : Result (List Part × ℕ) Flaw) → PartsOf l.text l.closing l.plain l.at o → PartsOf l.text l.closing l.start l.start (after_parts l.parts o);
  fits : l.at ≤ length l.text;
  forward : l.start ≤ l.at;
  lie : All (LiesIn (length l.text)) l.parts;
}

abbrev pub decreases-parts : goal.decreases-parts
decreases-parts l = length l.text - l.at
