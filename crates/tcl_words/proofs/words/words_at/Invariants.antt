use Rattle.std.proofs.Common.{◌≡◌, ℕ, ◌-◌, ◌<◌, ◌≤◌, length, drop, List, Result, All}
use Rattle.tcl_words.specs.declared.flaw.Flaw.{Flaw}
use Rattle.tcl_words.specs.declared.word.Word.{Word}
use Rattle.tcl_words.specs.Tokens.{blank_of}
use Rattle.tcl_words.specs.Words.{WordsOf, after_words, WordLiesIn}
use Rattle.tcl_words.proofs.words.words_at.Given as goal

-- however the rest is read, the whole is read so, with the words so far before it
abbrev pub invariant-words : goal.invariant-words
invariant-words l = record {
  rest : (o : Result (List Word × ℕ) Flaw) → WordsOf l.text l.at o → WordsOf l.text l.start (after_words l.words o);
  fits : l.at ≤ length l.text;
  forward : l.start ≤ l.at;
  some : blank_of (drop l.start l.text) ≡ 0 → l.start < l.at → 0 < length l.words;
  lie : All (WordLiesIn (length l.text)) l.words;
}

abbrev pub decreases-words : goal.decreases-words
decreases-words l = length l.text - l.at
