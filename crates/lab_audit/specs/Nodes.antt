-- The row and the pipes of a node, beside those that are wanted of it.
use Rattle.std.specs.Prelude.{ℕ, suc, Bool, true, false, ◌&&◌, ◌==◌, List, [], ◌∷◌, slice_get, Option, Some, None, if◌then◌else◌}
use Rattle.std.specs.List.{find}
use Rattle.std.specs.Str.{bytes_eq}
use Rattle.lab_base.specs.declared.boot.Boot.{Boot}
use Rattle.lab_base.specs.declared.boot.Boot.TheVariants.{Off, IsUp}
use Rattle.lab_base.specs.declared.rates.Rates.{Rates}
use Rattle.phys_lab.specs.Labs.{Lab}
use Rattle.virt_topo.specs.declared.experiment.Experiment.{Experiment}
use Rattle.virt_topo.specs.declared.mapping.Mapped.{Mapped}
use Rattle.plant.specs.Worlds.{NodeRow, World}
use Rattle.plant.specs.Worlds as worlds
use Rattle.plant.specs.Readings.{pipe_of}
use Rattle.plant.specs.declared.pipe_row.PipeRow.{PipeRow}
use Rattle.lab_model.specs.Cabled.{SameNode}
use Rattle.lab_model.specs.Claims.{claims_it}
use Rattle.lab_model.specs.Wants.{node_row_of}
use Rattle.script_text.specs.declared.reply.AuditLine.{AuditLine}
use Rattle.script_text.specs.declared.reply.AuditLine.TheVariants.{Node}

-- two rates are one, and two pipes
abbrev pub same_rates : Rates → Rates → Bool
same_rates a b = (a.kbps == b.kbps) && ((a.micros == b.micros) && (a.ppm == b.ppm))

abbrev pub same_pipe : worlds.PipeRow → worlds.PipeRow → Bool
same_pipe a b = bytes_eq a.from b.from && (bytes_eq a.to b.to && (same_rates a.there b.there && same_rates a.back b.back))

-- the pipes are the wanted ones, numbered from k on
abbrev pub agree : ℕ → List PipeRow → List worlds.PipeRow → Bool
agree k [] [] = true
agree k [] (x ∷ xs) = false
agree k (p ∷ ps) [] = false
agree k (p ∷ ps) (x ∷ xs) = ((p.pipe == k) && same_pipe (pipe_of p) x) && agree (suc k) ps xs

-- a node that is up with that OS and these pipes, and one that is off with them
abbrev pub state_if : Bool → Boot
state_if up = if up then IsUp else Off

abbrev pub row_with : Option (List ℕ) → Bool → List worlds.PipeRow → NodeRow
row_with os up pipes = record { os = os; pipes = slice_get pipes; boot = Some (state_if up) }

-- the first experiment that claims the node
abbrev pub claimer : Lab → List Experiment → List ℕ → Option Experiment
claimer lab es name = find (λ e. claims_it lab e name) es

-- the node isn't as the mapping wants it with which an experiment stands; of one that doesn't stand nothing is compared
abbrev pub IsOff : Lab → World → List ℕ → Option Mapped → Type 0
IsOff lab w name None = ⊥
IsOff lab w name (Some m) = SameNode (w.node name) (node_row_of lab m name) → ⊥

-- the line of a node that differs
abbrev pub line_if : Bool → List ℕ → List AuditLine
line_if true name = Node name ∷ []
line_if false name = []
