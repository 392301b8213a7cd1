-- Experiments over a text, and those of both sides.
use Rattle.std.proofs.Common.{◌≡◌, Result, Ok, Err, ℕ, List}
use Rattle.std.specs.Prelude.{IfOk}
use Rattle.lab_base.specs.declared.memory.Memory.{Memory}
use Rattle.phys_lab.specs.Labs.{Lab}
use Rattle.virt_topo.specs.declared.experiment.Experiment.{Experiment}
use Rattle.records_model.specs.Labs.{LabState}
use Rattle.ptop_text.specs.Adding.{lab_of_text}
use Rattle.lab_grow.specs.Outcomes.{IsOver, Comes, ComesOf, IsCarried}
use Rattle.lab_grow.specs.declared.sides.Carried.{Carried}
use Rattle.lab_grow.specs.declared.sides.Carried.TheVariants.{Side, NoLab, Bad, Faulty, Refused}

pub over_text : (old new : Lab) (ptop : List ℕ) (es : List Experiment) (r : Result Carried Memory) → lab_of_text ptop ≡ Ok new → IfOk r (Comes old new es) → IfOk r (ComesOf old ptop es)
over_text old new ptop es (Err memory) is h = h
over_text old new ptop es (Ok (Side text count)) is h = (new, is, h)
over_text old new ptop es (Ok (Refused exp obstacle)) is h = (new, is, h)
over_text old new ptop es (Ok NoLab) is h = absurd h
over_text old new ptop es (Ok (Bad side at)) is h = absurd h
over_text old new ptop es (Ok (Faulty fault)) is h = absurd h

pub over_sides : (a b ptop : List ℕ) (s : LabState) (old : Lab) (r : Result Carried Memory) → IsOver a b s old → IfOk r (ComesOf old ptop s.experiments) → IfOk r (IsCarried a b ptop)
over_sides a b ptop s old (Err memory) over h = h
over_sides a b ptop s old (Ok (Side text count)) over h = (s, old, over, h)
over_sides a b ptop s old (Ok (Refused exp obstacle)) over h = (s, old, over, h)
over_sides a b ptop s old (Ok (Faulty fault)) over h = (s, old, over, h)
over_sides a b ptop s old (Ok NoLab) over h = absurd h.2
over_sides a b ptop s old (Ok (Bad side at)) over h = absurd h.2
