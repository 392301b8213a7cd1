-- The devices that tables stand for.
use Rattle.std.specs.Prelude.{◌≡◌, ℕ, Bool, List, Option, Some, None, Ok, true}
use Rattle.std.specs.List.{find, list_any}
use Rattle.plant.specs.declared.device.DeviceOp.{DeviceOp}
use Rattle.plant.specs.Events.{Did}
use Rattle.plant.specs.Worlds.{World, PipeRow, world_after}
use Rattle.plant.specs.Worlds as worlds
use Rattle.plant_file.specs.declared.entry.Entry.{Entry}
use Rattle.plant_file.specs.declared.entry.Entry.TheVariants.{Pipe}
use Rattle.plant_file.specs.Entries.{is_row, is_pipe, state_in, os_in, after, answer_of}

abbrev pub pipe_or_none : Option Entry → Option PipeRow
pipe_or_none (Some (Pipe node number from to there back)) = Some (record { from = from; to = to; there = there; back = back })
pipe_or_none entry = None

abbrev pub has_row : List Entry → worlds.Row → Bool
has_row entries row = list_any (is_row row.switch row.port row.vlan) entries

abbrev pub node_in : List Entry → List ℕ → worlds.NodeRow
node_in entries name = record {
  os = os_in name entries;
  pipes = λ k. pipe_or_none (find (is_pipe name k) entries);
  boot = Some (state_in name entries);
}

abbrev pub world_in : List Entry → World
world_in entries = record { rows = has_row entries; node = node_in entries }

-- THE TABLES AFTER A COMMAND SAY WHAT THE DEVICES HOLD AFTER IT
abbrev pub HoldWorlds : Type 0
HoldWorlds = (op : DeviceOp) (entries : List Entry) → world_in (after op entries) ≡ world_after (world_in entries) (Did op true (Ok (answer_of op entries)))
