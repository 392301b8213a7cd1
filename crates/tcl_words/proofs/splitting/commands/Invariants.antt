use Rattle.std.proofs.Common.{◌≡◌, ◌-◌, ◌≤◌, length, List, Result, All}
use Rattle.tcl_words.specs.declared.flaw.Flaw.{Flaw}
use Rattle.tcl_words.specs.declared.word.Command.{Command}
use Rattle.tcl_words.specs.Words.{CommandsOf, after_commands, CommandLiesIn, line_at}
use Rattle.tcl_words.proofs.splitting.commands.Given as goal

-- however the rest is read, the whole is read so, with the commands so far before it
abbrev pub invariant-commands : goal.invariant-commands
invariant-commands l = record {
  rest : (o : Result (List Command) Flaw) → CommandsOf l.text l.at o → CommandsOf l.text 0 (after_commands l.commands o);
  fits : l.at ≤ length l.text;
  behind : l.counted ≤ l.at;
  line : l.line ≡ line_at l.text l.counted;
  lie : All (CommandLiesIn (length l.text)) l.commands;
}

abbrev pub decreases-commands : goal.decreases-commands
decreases-commands l = length l.text - l.at
