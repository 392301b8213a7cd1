-- Which experiments are to be settled.
use Rattle.std.specs.Prelude.{ℕ, Bool, if◌then◌else◌, List, Option, Some, None}
use Rattle.std.specs.List.{flat_map, list_any}
use Rattle.std.specs.Str.{bytes_eq}
use Rattle.lab_base.specs.Lists.{listed}
use Rattle.virt_topo.specs.declared.experiment.Experiment.{Experiment}
use Rattle.virt_topo.specs.declared.experiment.Phase.{Phase}
use Rattle.virt_topo.specs.declared.experiment.Phase.TheVariants.{Moving}
use Rattle.swap_turns.specs.Swaps.{Swap}

-- the experiment of that name is one of those that are left alone
abbrev pub is_busy : List (List ℕ) → List ℕ → Bool
is_busy busy name = list_any (λ b. bytes_eq b name) busy

-- its swap, if it moves
abbrev pub swap_if : List ℕ → Phase → Option Swap
swap_if name (Moving old new) = Some (record { name = name; old = old; new = new })
swap_if name phase = None

-- the swap that is to be settled, if the experiment moves and isn't busy
abbrev pub due : List (List ℕ) → Experiment → Option Swap
due busy e = if is_busy busy e.name then None else swap_if e.name e.phase

abbrev pub due_in : List (List ℕ) → Option Experiment → Option Swap
due_in busy None = None
due_in busy (Some e) = due busy e

abbrev pub name_of : Option Swap → Option (List ℕ)
name_of None = None
name_of (Some p) = Some p.name

-- THE SWAPS TO SETTLE: of all experiments that move, but the busy ones, in order of creation
abbrev pub swaps_of : List (List ℕ) → List Experiment → List Swap
swaps_of busy es = flat_map (λ e. listed (due busy e)) es
