-- The view of a lab with its experiments, and its text.
use Rattle.std.specs.Prelude.{ℕ, ◌+◌, List, ◌++◌, length, map, sum_by, codes, Option, Some, None}
use Rattle.std.specs.List.{range_with_len}
use Rattle.phys_lab.specs.Labs.{Lab}
use Rattle.phys_lab.specs.Sides.{trunk_at}
use Rattle.phys_lab.specs.declared.parts.Node.{Node}
use Rattle.virt_topo.specs.declared.experiment.Experiment.{Experiment}
use Rattle.lab_model.specs.Claims.{claimed_use}
use Rattle.lab_model.specs.Beside.{ids_of}
use Rattle.ptop_text.specs.Canonical.{canonical}
use Rattle.records_model.specs.Labs.{LabState}
use Rattle.lab_view.specs.declared.view.View.{View}
use Rattle.lab_view.specs.declared.view.Machine.{Machine}
use Rattle.lab_view.specs.declared.view.Trunk.{Trunk}
use Rattle.lab_view.specs.declared.view.Exp.{Exp}
use Rattle.lab_view.specs.Lines.{lines_of}
use Rattle.lab_seen.specs.Claimed.{plugs_of, stand_of, nodes_claimed, ids_claimed}
use Rattle.lab_look.specs.Seats.{seat_of, owner}

-- a machine: its switches are those of its interfaces, and its seat is that of the experiment that claims it
abbrev pub machine_of : Lab → List Experiment → Node → Machine
machine_of lab es node = record { name = node.name; types = node.types; plugs = plugs_of lab node.name; seat = seat_of lab es node.name }

-- a trunk: what is used of it is what all experiments claim of it
abbrev pub trunk_of : Lab → List Experiment → ℕ → Trunk
trunk_of lab es t = record {
  link = (trunk_at lab.trunks t).link;
  first = (trunk_at lab.trunks t).first.0.0;
  second = (trunk_at lab.trunks t).second.0.0;
  kbps = (trunk_at lab.trunks t).kbps;
  used = sum_by (claimed_use lab t) es;
}

abbrev pub exp_of : Lab → Experiment → Exp
exp_of lab e = record { name = e.name; stand = stand_of e; nodes = nodes_claimed lab e; ids = ids_claimed e }

abbrev pub owner_at : Lab → List Experiment → ℕ → Option ℕ
owner_at lab es n = owner es (lab.range.0 + n)

-- WHAT IS SEEN OF A LAB
abbrev pub view_of : Lab → List Experiment → View
view_of lab es = record {
  switches = lab.switches;
  machines = map (machine_of lab es) lab.nodes;
  trunks = map (trunk_of lab es) (range_with_len 0 (length lab.trunks));
  experiments = map (exp_of lab) es;
  low = lab.range.0;
  owners = map (owner_at lab es) (range_with_len 0 (ids_of lab));
}

-- THE TEXT OF A LAB: its canonical text, and then who holds what
abbrev pub text_in : Option Lab → List Experiment → List ℕ
text_in None es = codes "no lab\n"
text_in (Some lab) es = canonical lab ++ lines_of (view_of lab es)

abbrev pub lab_text : LabState → List ℕ
lab_text s = text_in s.lab s.experiments
