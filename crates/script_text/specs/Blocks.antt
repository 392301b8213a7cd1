-- The blocks of a command.
use Rattle.std.specs.Prelude.{◌≡◌, ◌≤◌, ℕ, List, length}
use Rattle.lab_base.specs.Lists.{Has}
use Rattle.script_text.specs.Taking.{joined}
use Rattle.script_text.specs.declared.command.Command.{Command}
use Rattle.script_text.specs.declared.command.Command.TheVariants.{Ptop, Create, CreateTop, SwapinWith, Modify, ModifyWith, Play, Batch}
use Rattle.script_text.specs.declared.heads.OneBlock.{OneBlock}
use Rattle.script_text.specs.declared.heads.OneBlock.TheVariants as heads
use Rattle.script_text.specs.declared.heads.Head.{Head}
use Rattle.script_text.specs.declared.heads.Head.TheVariants.{Whole, Block, Blocks}
use Rattle.script_text.specs.declared.heads.Said.{Said}
use Rattle.script_text.specs.declared.heads.Said.TheVariants.{Begins}
use Rattle.script_text.specs.declared.next.Next.{Next}
use Rattle.script_text.specs.declared.next.Next.TheVariants as nexts

-- the text is so many lines, each of at most 4,096 bytes and a line feed
pub record IsBlock (count : ℕ) (text : List ℕ) : Type 0 where
  pub lines : List (List ℕ)
  pub few : count ≤ 16384
  pub all : length lines ≡ count
  pub short : (line : List ℕ) → Has lines line → length line ≤ 4096
  pub text_is : text ≡ joined lines

-- EACH BLOCK OF THE COMMAND has the number of lines that its word says, and the moment of a batch is one
abbrev pub HasBlocks : Command → Type 0
HasBlocks (Ptop lines ptop) = IsBlock lines ptop
HasBlocks (Create exp lines ns) = IsBlock lines ns
HasBlocks (CreateTop exp lines top) = IsBlock lines top
HasBlocks (SwapinWith only exp lines map) = IsBlock lines map
HasBlocks (Modify only exp seed lines ns) = IsBlock lines ns
HasBlocks (Play exp from to lines ns) = IsBlock lines ns
HasBlocks (Batch moment lines text) = (moment ≤ 1000000000000) × IsBlock lines text
HasBlocks (ModifyWith only exp top_lines top map_lines map) = IsBlock top_lines top × IsBlock map_lines map
HasBlocks command = Unit {0}

abbrev pub NextHasBlocks : Next → Type 0
NextHasBlocks (nexts.Command command) = HasBlocks command
NextHasBlocks nexts.End = Unit {0}

-- the moment of a batch is one
abbrev pub IsTimely : OneBlock → Type 0
IsTimely (heads.Batch moment) = moment ≤ 1000000000000
IsTimely what = Unit {0}

-- a head promises no more lines than a block may have
abbrev pub IsInRange : Head → Type 0
IsInRange (Whole command) = HasBlocks command
IsInRange (Block what lines) = IsTimely what × (lines ≤ 16384)
IsInRange (Blocks what first second) = (first ≤ 16384) × (second ≤ 16384)

abbrev pub SaysInRange : Said → Type 0
SaysInRange (Begins head) = IsInRange head
SaysInRange said = Unit {0}
