-- Who holds a machine, and whose a VLAN id is.
use Rattle.std.specs.Prelude.{ℕ, Bool, ◌+◌, List, [], ◌∷◌, slice_get, Option, Some, None, if◌then◌else◌}
use Rattle.phys_lab.specs.Labs.{Lab}
use Rattle.virt_topo.specs.declared.experiment.Experiment.{Experiment}
use Rattle.lab_model.specs.Claims.{claims_it}
use Rattle.lab_view.specs.declared.view.Seat.{Seat}
use Rattle.lab_seen.specs.Claimed.{how_held, hosted, has_tag}

-- the number of the first experiment that passes, from a number on
abbrev pub first_from : (Experiment → Bool) → ℕ → List Experiment → Option ℕ
first_from p n [] = None
first_from p n (e ∷ es) = if p e then Some n else first_from p (n + 1) es

-- THE HOLDER of the node of that name: the first experiment that claims it
abbrev pub holder : Lab → List Experiment → List ℕ → Option ℕ
holder lab es name = first_from (λ e. claims_it lab e name) 0 es

-- THE OWNER of a VLAN id: the first experiment that claims it
abbrev pub owner : List Experiment → ℕ → Option ℕ
owner es id = first_from (λ e. has_tag e id) 0 es

-- how the holder holds it, and with which virtual nodes
abbrev pub seat_by : Lab → List ℕ → ℕ → Option Experiment → Option Seat
seat_by lab name n None = None
seat_by lab name n (Some e) = Some (record { exp = n; held = how_held lab e name; hosted = hosted lab e name })

abbrev pub seat_at : Lab → List Experiment → List ℕ → Option ℕ → Option Seat
seat_at lab es name None = None
seat_at lab es name (Some n) = seat_by lab name n (slice_get es n)

abbrev pub seat_of : Lab → List Experiment → List ℕ → Option Seat
seat_of lab es name = seat_at lab es name (holder lab es name)
