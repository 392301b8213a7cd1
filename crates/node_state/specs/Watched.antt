-- The verdicts of a watch on the boot states of a node.
use Rattle.std.specs.Prelude.{◌+◌, ◌==◌, ℕ, if◌then◌else◌}
use Rattle.lab_base.specs.declared.boot.Boot.{Boot}
use Rattle.lab_base.specs.declared.boot.Boot.TheVariants.{IsUp}
use Rattle.lab_model.specs.Courses.{lawful}
use Rattle.node_state.specs.declared.watch.Seen.{Seen}
use Rattle.node_state.specs.declared.watch.Seen.TheVariants.{Unlawful, Up, TooLong, Wait}

-- a watched node: its last state, and how often it was polled
pub record Watched : Type 0 where
  pub last : Boot
  pub polls : ℕ

-- of a lawful state: the node is up, or this is the 64th poll, or neither
abbrev pub judged : ℕ → Boot → Seen
judged polls IsUp = Up
judged polls state = if polls + 1 == 64 then TooLong else Wait

-- of any state: an unlawful pair comes first
abbrev pub seen : Watched → Boot → Seen
seen w state = if lawful w.last state then judged w.polls state else Unlawful w.last state
