-- The needs of commands: each check gives a value, or the reply that refuses the command.
use Rattle.std.specs.Prelude.{◌≡◌, ℕ, Bool, nat_le, List, [], length, map, codes, slice_index_or, Option, Some, None, Result, Ok, Err, if◌then◌else◌}
use Rattle.lab_base.specs.declared.fault.TextFault.{TextFault}
use Rattle.phys_lab.specs.Labs.{Lab}
use Rattle.virt_topo.specs.declared.mapping.Mapping.{Mapping}
use Rattle.virt_topo.specs.declared.violation.Broken.{Broken}
use Rattle.virt_topo.specs.declared.violation.Subject.{Subject}
use Rattle.virt_topo.specs.declared.violation.Subject.TheVariants.{Virt, Node as OfNode, End, Trunk as OfTrunk, Segment as OfSegment, Vlans}
use Rattle.virt_topo.specs.Ends.{end_nodes}
use Rattle.virt_topo.specs.declared.wiring.Wiring.{Wiring}
use Rattle.virt_topo.specs.declared.experiment.Experiment.{Experiment}
use Rattle.virt_topo.specs.declared.experiment.Phase.{Phase}
use Rattle.virt_topo.specs.declared.experiment.Phase.TheVariants.{Out, In, Moving}
use Rattle.lab_model.specs.Beside.{violation_beside}
use Rattle.records_model.specs.Labs.{LabState, find, others}
use Rattle.top_text.specs.Canonical.{virt_name}
use Rattle.solution_text.specs.CanonicalSolution.{end_keys, end_name}
use Rattle.script_text.specs.declared.reply.Reply.{Reply}
use Rattle.script_text.specs.declared.reply.Reply.TheVariants.{NoLab, LabIsSet, Exists, Unknown, IsIn, IsOut, IsMoving, Busy, NotOpen, Infeasible, FullExperiments, FullSwaps}

-- the first refusal counts
infixl 10 ◌>>=◌
abbrev pub ◌>>=◌ : {A B : Type 0} → Result A Reply → (A → Result B Reply) → Result B Reply
(Ok x) >>= f = f x
(Err refusal) >>= f = Err refusal

-- `no lab` exactly where there is none, and `lab is set` exactly where there is one
abbrev pub need_lab : Option Lab → Result Lab Reply
need_lab None = Err NoLab
need_lab (Some lab) = Ok lab

abbrev pub need_none : Option Lab → Result (Unit {0}) Reply
need_none None = Ok tt
need_none (Some lab) = Err LabIsSet

-- `unknown E` exactly where no experiment has the name, and `exists E` exactly where one has it
abbrev pub need_found : List ℕ → Option Experiment → Result Experiment Reply
need_found exp None = Err (Unknown exp)
need_found exp (Some e) = Ok e

abbrev pub need_new : List ℕ → Option Experiment → Result (Unit {0}) Reply
need_new exp None = Ok tt
need_new exp (Some e) = Err (Exists exp)

-- a new experiment needs a lab and a new name
abbrev pub need_lab_and_name : LabState → List ℕ → Result (Unit {0}) Reply
need_lab_and_name s exp = do
  lab ← need_lab s.lab
  need_new exp (find exp s.experiments)

-- `bad E LINE KIND` and `bad ptop LINE KIND` exactly where the block has no meaning: its first fault
abbrev pub need_meaning : {X : Type 0} → (TextFault → Reply) → Result X TextFault → Result X Reply
need_meaning bad (Ok x) = Ok x
need_meaning bad (Err fault) = Err (bad fault)

-- `full experiments 256` exactly where so many are there
abbrev pub need_room : List Experiment → Result (Unit {0}) Reply
need_room es = if nat_le 256 (length es) then Err FullExperiments else Ok tt

-- `is in E` and `is moving E` exactly where its phase is that one
abbrev pub need_out : List ℕ → Phase → Result (Unit {0}) Reply
need_out exp Out = Ok tt
need_out exp (In mapping tags) = Err (IsIn exp)
need_out exp (Moving old new) = Err (IsMoving exp)

-- `is out E` and `is moving E` exactly where its phase is that one
abbrev pub need_in : List ℕ → Phase → Result (Unit {0}) Reply
need_in exp Out = Err (IsOut exp)
need_in exp (In mapping tags) = Ok tt
need_in exp (Moving old new) = Err (IsMoving exp)

-- `busy E` exactly where the experiment has an open swap, and `not open E` exactly where it has none
abbrev pub need_idle : List ℕ → Bool → Result (Unit {0}) Reply
need_idle exp busy = if busy then Err (Busy exp) else Ok tt

abbrev pub need_open : List ℕ → Bool → Result (Unit {0}) Reply
need_open exp busy = if busy then Ok tt else Err (NotOpen exp)

-- an experiment of the lab that has no open swap, and is out; and one that is in
abbrev pub need_idle_out : LabState → Bool → List ℕ → Result (Lab × Experiment) Reply
need_idle_out s busy exp = do
  lab ← need_lab s.lab
  e ← need_found exp (find exp s.experiments)
  idle ← need_idle exp busy
  out ← need_out exp e.phase
  Ok (lab, e)

abbrev pub need_idle_in : LabState → Bool → List ℕ → Result (Lab × Experiment) Reply
need_idle_in s busy exp = do
  lab ← need_lab s.lab
  e ← need_found exp (find exp s.experiments)
  idle ← need_idle exp busy
  inside ← need_in exp e.phase
  Ok (lab, e)

-- `full swaps 16` exactly where so many are open
abbrev pub need_slot : ℕ → Result (Unit {0}) Reply
need_slot count = if nat_le 16 count then Err FullSwaps else Ok tt

-- what breaks a rule, as a reply names it
abbrev pub name_at : List (List ℕ) → ℕ → List ℕ
name_at names n = slice_index_or names n []

abbrev pub subject_name : Lab → Wiring → Subject → List ℕ
subject_name lab w (Virt v) = virt_name w v
subject_name lab w (OfNode n) = name_at (map (λ x. x.name) lab.nodes) n.0
subject_name lab w (End e) = end_name w (slice_index_or (end_keys [] (end_nodes w.segments)) e (0, 0))
subject_name lab w (OfTrunk t) = name_at (map (λ x. x.link) lab.trunks) t.0
subject_name lab w (OfSegment s) = name_at (map (λ x. x.name) w.segments) s
subject_name lab w Vlans = codes "vlans"

-- `infeasible E RULE SUBJECT` exactly where the mapping of that wiring breaks a rule beside the other experiments: the first violation
abbrev pub need_kept : Lab → List ℕ → Wiring → Option (Broken × Subject) → Result (Unit {0}) Reply
need_kept lab exp w None = Ok tt
need_kept lab exp w (Some (rule, subject)) = Err (Infeasible exp rule (subject_name lab w subject))

abbrev pub need_feasible : Lab → List Experiment → Experiment → Wiring → Mapping → Result (Unit {0}) Reply
need_feasible lab es e w mapping = need_kept lab e.name w (violation_beside lab (others e.name es) e w mapping)

-- a check refuses; or it gives a value, of which this is judged
pub data OrRefused {A B : Type 0} (needed : Result A Reply) (Judges : A → Result B Reply → Type 0) (judgement : Result B Reply) : Type 0 where
  refused : (reply : Reply) → needed ≡ Err reply → judgement ≡ Err reply → OrRefused needed Judges judgement
  asked : (x : A) → needed ≡ Ok x → Judges x judgement → OrRefused needed Judges judgement
