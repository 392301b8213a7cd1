-- The names of the open swaps, and the experiment that a command is about.
use Rattle.std.specs.Prelude.{ℕ, Bool, false, List, map, Option, Some, None}
use Rattle.recovery.specs.Due.{is_busy}
use Rattle.script_text.specs.declared.command.Command.{Command}
use Rattle.script_text.specs.declared.command.Command.TheVariants as commands
use Rattle.swap_txn.specs.Facts.{exp_of}
use Rattle.swap_txn.specs.declared.live.Live.{Live}

-- the experiment that a command is about
abbrev pub name_of : Command → Option (List ℕ)
name_of (commands.Ptop lines text) = None
name_of (commands.Create exp lines text) = Some exp
name_of (commands.CreateTop exp lines text) = Some exp
name_of (commands.Show exp) = Some exp
name_of (commands.Solve exp seed) = Some exp
name_of (commands.Swapin only exp seed) = Some exp
name_of (commands.SwapinWith only exp lines text) = Some exp
name_of (commands.Modify only exp seed lines text) = Some exp
name_of (commands.ModifyWith only exp lines top others map) = Some exp
name_of (commands.Swapout only exp) = Some exp
name_of (commands.Turn exp) = Some exp
name_of (commands.Finish exp) = Some exp
name_of commands.Recover = None
name_of (commands.Fail device nth how) = None
name_of (commands.FailDisk nth) = None
name_of (commands.Stop nth pick) = None
name_of (commands.Play exp from to lines text) = Some exp
name_of (commands.Batch moment lines text) = None
name_of (commands.Delete exp) = Some exp
name_of commands.Status = None
name_of commands.Audit = None

-- the experiment, if there is one, has one of these open swaps
abbrev pub is_among : List (List ℕ) → Option (List ℕ) → Bool
is_among names None = false
is_among names (Some exp) = is_busy names exp

-- the names of the open swaps; whether the experiment has one, and whether that of a command has
abbrev pub open_names : List Live → List (List ℕ)
open_names swaps = map exp_of swaps

abbrev pub has_open : List Live → List ℕ → Bool
has_open swaps exp = is_busy (open_names swaps) exp

abbrev pub has_open_for : List Live → Command → Bool
has_open_for swaps command = is_among (open_names swaps) (name_of command)
