-- The table of boot states after one step more.
use Rattle.std.proofs.Common.{◌≡◌, ℕ, Bool, true, false, List, Option, Some, None, Result, Ok, Err, refl, sym, ap, ◌∙◌, subst, arith, if◌then◌else◌}
use Rattle.std.specs.Prelude.{⊤, ◌==◌, ◌&&◌, option_map}
use Rattle.std.specs.Str.{bytes_eq}
use Rattle.std.proofs.lemmas.Slice.Eq.{bytes_eq-Decides}
use Rattle.std.proofs.lemmas.Bool.Decides.{nat_tests}
use Rattle.std.proofs.lemmas.Option.{same_Some}
use Rattle.lab_base.specs.declared.boot.Boot.{Boot}
use Rattle.lab_base.specs.declared.boot.Boot.TheVariants.{Off, Booting}
use Rattle.lab_base.proofs.Bytes.{bytes_turned}
use Rattle.plant.specs.declared.device.Answer.{Answer}
use Rattle.plant.specs.declared.device.DeviceOp.{DeviceOp}
use Rattle.plant.specs.declared.device.DeviceOp.TheVariants.{Join, Leave, Shape, Load, Boot as BootIt, Poll, Wipe}
use Rattle.plant.specs.declared.device.Fault.{Fault}
use Rattle.plant_mem.specs.declared.boot_step.BootStep.{BootStep}
use Rattle.plant_mem.specs.declared.nodes.NodeState.{NodeState}
use Rattle.plant_mem.specs.Boots.{state_in, state_after, state_sent, os_in, os_after, answer_of, moved_by}
use Rattle.plant.specs.Events.{Event, Did}
use Rattle.plant_mem.specs.Knows.{Knows}
use Rattle.plant_mem.specs.Pipes.{pipe_in, pipe_after}
use Rattle.plant_mem.specs.declared.pipes.PipeState.{PipeState}
use Rattle.plant.specs.Readings.{pipe_of}
use Rattle.plant.specs.Worlds.{World, NodeRow, PipeRow, wiped, pipes_with, node_after, node_polled, told, world_of, world_after}

-- where the row has a boot state, it is that one
abbrev Has : Option Boot → Boot → Type 0
Has boot state = (s : Boot) → boot ≡ Some s → state ≡ s

no_boot : (state : Boot) → Has None state
no_boot state = λ s is. absurd (cc is)

choose : (test : Bool) (new old : NodeRow) (to from : Boot) → Has new.boot to → Has old.boot from → Has (if test then new else old).boot (if test then to else from)
choose true new old to from n o = n
choose false new old to from n o = o

-- the named node, where a command names that one
named : (name node : List ℕ) (new old : NodeRow) (to from : Boot) → Has new.boot to → Has old.boot from → Has (if bytes_eq name node then new else old).boot (if bytes_eq node name then to else from)
named name node new old to from n o = rw (bytes_turned node name) (choose (bytes_eq name node) new old to from n o)

-- a row whose boot state stands
stands : (test : Bool) (new old : NodeRow) (state : Boot) → new.boot ≡ old.boot → Has old.boot state → Has (if test then new else old).boot state
stands true new old state same o = λ s is. o s (sym same ∙ is)
stands false new old state same o = o

-- the answer of a poll tells the state that it made
abbrev Tells : DeviceOp → BootStep → Result Answer Fault → (List ℕ → Boot) → Type 0
Tells (Poll node) boot_step answer kept = Has (told answer) (moved_by boot_step (kept node))
Tells op boot_step answer kept = ⊤

polled : (name node : List ℕ) (answer : Result Answer Fault) (row : NodeRow) (kept : List ℕ → Boot) (boot_step : BootStep) → Has (told answer) (moved_by boot_step (kept node)) → Has row.boot (kept name)
    → Has (node_polled (Poll node) answer name row).boot (state_after (Poll node) boot_step name (kept name))
polled name node answer row kept boot_step tells old = by (bytes_eq name node) refl
  where
    new : NodeRow
    new = record row { boot = told answer }

    by : (test : Bool) → bytes_eq name node ≡ test → Has (if bytes_eq name node then new else row).boot (if bytes_eq node name then moved_by boot_step (kept name) else kept name)
    by true is =
        let same : node ≡ name = sym ((bytes_eq-Decides name node).0 is) in
        rw (bytes_turned node name, is) (subst (λ (n : List ℕ). Has (told answer) (moved_by boot_step (kept n))) same tells)
    by false is = rw (bytes_turned node name, is) old

applied_one : (op : DeviceOp) (boot_step : BootStep) (answer : Result Answer Fault) (name : List ℕ) (row : NodeRow) (kept : List ℕ → Boot) → Tells op boot_step answer kept → Has row.boot (kept name)
    → Has (node_polled op answer name (node_after op name row)).boot (state_after op boot_step name (kept name))
applied_one (Join switch port vlan) boot_step answer name row kept tells old = old
applied_one (Leave switch port vlan) boot_step answer name row kept tells old = old
applied_one (Shape node pipe from to there back) boot_step answer name row kept tells old =
    stands (bytes_eq name node) (record row { pipes = pipes_with pipe (record { from = from; to = to; there = there; back = back }) row.pipes }) row (kept name) refl old
applied_one (Load node os) boot_step answer name row kept tells old = named name node (record row { os = Some os; boot = Some Off }) row Off (kept name) (same_Some Off) old
applied_one (BootIt node) boot_step answer name row kept tells old = named name node (record row { boot = Some Booting }) row Booting (kept name) (same_Some Booting) old
applied_one (Poll node) boot_step answer name row kept tells old = polled name node answer row kept boot_step tells old
applied_one (Wipe node) boot_step answer name row kept tells old = named name node wiped row Off (kept name) (same_Some Off) old

-- a command that was not applied
missed_one : (op : DeviceOp) (fault : Fault) (name : List ℕ) (row : NodeRow) (state : Boot) → Has row.boot state → Has (node_polled op (Err fault) name row).boot state
missed_one (Join switch port vlan) fault name row state old = old
missed_one (Leave switch port vlan) fault name row state old = old
missed_one (Shape node pipe from to there back) fault name row state old = old
missed_one (Load node os) fault name row state old = old
missed_one (BootIt node) fault name row state old = old
missed_one (Poll node) fault name row state old = by (bytes_eq name node)
  where
    by : (test : Bool) → Has (if test then record row { boot = told (Err fault) } else row).boot state
    by true = no_boot state
    by false = old
missed_one (Wipe node) fault name row state old = old

answer_tells : (op : DeviceOp) (boot_step : BootStep) (kept : List ℕ → Boot) → Tells op boot_step (Ok (answer_of op boot_step kept)) kept
answer_tells (Join switch port vlan) boot_step kept = tt
answer_tells (Leave switch port vlan) boot_step kept = tt
answer_tells (Shape node pipe from to there back) boot_step kept = tt
answer_tells (Load node os) boot_step kept = tt
answer_tells (BootIt node) boot_step kept = tt
answer_tells (Poll node) boot_step kept = same_Some (moved_by boot_step (kept node))
answer_tells (Wipe node) boot_step kept = tt

fault_tells : (op : DeviceOp) (boot_step : BootStep) (fault : Fault) (kept : List ℕ → Boot) → Tells op boot_step (Err fault) kept
fault_tells (Join switch port vlan) boot_step fault kept = tt
fault_tells (Leave switch port vlan) boot_step fault kept = tt
fault_tells (Shape node pipe from to there back) boot_step fault kept = tt
fault_tells (Load node os) boot_step fault kept = tt
fault_tells (BootIt node) boot_step fault kept = tt
fault_tells (Poll node) boot_step fault kept = no_boot (moved_by boot_step (kept node))
fault_tells (Wipe node) boot_step fault kept = tt

sent_one : (op : DeviceOp) (boot_step : BootStep) (applied : Bool) (fault : Fault) (w : World) (name : List ℕ) (kept : List ℕ → Boot) → Has (w.node name).boot (kept name)
    → Has ((world_after w (Did op applied (Err fault))).node name).boot (state_sent op boot_step applied name (kept name))
sent_one op boot_step true fault w name kept old = applied_one op boot_step (Err fault) name (w.node name) kept (fault_tells op boot_step fault kept) old
sent_one op boot_step false fault w name kept old = missed_one op fault name (w.node name) (kept name) old

-- THE OS AND THE PIPES of a node after a command and its answer
turned : (a b : ℕ) → (a == b) ≡ (b == a)
turned a b = grind (arith, nat_tests)

os_polled : (op : DeviceOp) (answer : Result Answer Fault) (name : List ℕ) (row : NodeRow) → (node_polled op answer name row).os ≡ row.os
os_polled (Join switch port vlan) answer name row = refl
os_polled (Leave switch port vlan) answer name row = refl
os_polled (Shape node pipe from to there back) answer name row = refl
os_polled (Load node os) answer name row = refl
os_polled (BootIt node) answer name row = refl
os_polled (Poll node) answer name row = by (bytes_eq name node)
  where
    by : (test : Bool) → (if test then record row { boot = told answer } else row).os ≡ row.os
    by true = refl
    by false = refl
os_polled (Wipe node) answer name row = refl

os_applied : (op : DeviceOp) (name : List ℕ) (row : NodeRow) → (node_after op name row).os ≡ os_after op name row.os
os_applied (Join switch port vlan) name row = refl
os_applied (Leave switch port vlan) name row = refl
os_applied (Shape node pipe from to there back) name row = by (bytes_eq name node)
  where
    by : (test : Bool) → (if test then record row { pipes = pipes_with pipe (record { from = from; to = to; there = there; back = back }) row.pipes } else row).os ≡ row.os
    by true = refl
    by false = refl
os_applied (Load node os) name row = rw (bytes_turned node name) (by (bytes_eq name node))
  where
    by : (test : Bool) → (if test then record row { os = Some os; boot = Some Off } else row).os ≡ (if test then Some os else row.os)
    by true = refl
    by false = refl
os_applied (BootIt node) name row = by (bytes_eq name node)
  where
    by : (test : Bool) → (if test then record row { boot = Some Booting } else row).os ≡ row.os
    by true = refl
    by false = refl
os_applied (Poll node) name row = refl
os_applied (Wipe node) name row = rw (bytes_turned node name) (by (bytes_eq name node))
  where
    by : (test : Bool) → (if test then wiped else row).os ≡ (if test then None else row.os)
    by true = refl
    by false = refl

pipe_polled : (op : DeviceOp) (answer : Result Answer Fault) (name : List ℕ) (row : NodeRow) (k : ℕ) → (node_polled op answer name row).pipes k ≡ row.pipes k
pipe_polled (Join switch port vlan) answer name row k = refl
pipe_polled (Leave switch port vlan) answer name row k = refl
pipe_polled (Shape node pipe from to there back) answer name row k = refl
pipe_polled (Load node os) answer name row k = refl
pipe_polled (BootIt node) answer name row k = refl
pipe_polled (Poll node) answer name row k = by (bytes_eq name node)
  where
    by : (test : Bool) → (if test then record row { boot = told answer } else row).pipes k ≡ row.pipes k
    by true = refl
    by false = refl
pipe_polled (Wipe node) answer name row k = refl

pipe_applied : (op : DeviceOp) (name : List ℕ) (row : NodeRow) (k : ℕ) → (node_after op name row).pipes k ≡ pipe_after op name k (row.pipes k)
pipe_applied (Join switch port vlan) name row k = refl
pipe_applied (Leave switch port vlan) name row k = refl
pipe_applied (Shape node pipe from to there back) name row k = rw (bytes_turned node name, turned pipe k) (by (bytes_eq name node))
  where
    set : PipeRow
    set = record { from = from; to = to; there = there; back = back }

    by : (test : Bool) → (if test then record row { pipes = pipes_with pipe set row.pipes } else row).pipes k ≡ (if test && (k == pipe) then Some set else row.pipes k)
    by true = refl
    by false = refl
pipe_applied (Load node os) name row k = by (bytes_eq name node)
  where
    by : (test : Bool) → (if test then record row { os = Some os; boot = Some Off } else row).pipes k ≡ row.pipes k
    by true = refl
    by false = refl
pipe_applied (BootIt node) name row k = by (bytes_eq name node)
  where
    by : (test : Bool) → (if test then record row { boot = Some Booting } else row).pipes k ≡ row.pipes k
    by true = refl
    by false = refl
pipe_applied (Poll node) name row k = refl
pipe_applied (Wipe node) name row k = rw (bytes_turned node name) (by (bytes_eq name node))
  where
    by : (test : Bool) → (if test then wiped else row).pipes k ≡ (if test then None else row.pipes k)
    by true = refl
    by false = refl

-- the same of a command that may not have been applied
abbrev pub os_sent : DeviceOp → Bool → List ℕ → Option (List ℕ) → Option (List ℕ)
os_sent op applied name had = if applied then os_after op name had else had

abbrev pub pipe_sent : DeviceOp → Bool → List ℕ → ℕ → Option PipeRow → Option PipeRow
pipe_sent op applied name k had = if applied then pipe_after op name k had else had

os_did : (op : DeviceOp) (applied : Bool) (answer : Result Answer Fault) (w : World) (name : List ℕ) → ((world_after w (Did op applied answer)).node name).os ≡ os_sent op applied name (w.node name).os
os_did op true answer w name = os_polled op answer name (node_after op name (w.node name)) ∙ os_applied op name (w.node name)
os_did op false answer w name = os_polled op answer name (w.node name)

pipe_did : (op : DeviceOp) (applied : Bool) (answer : Result Answer Fault) (w : World) (name : List ℕ) (k : ℕ) → ((world_after w (Did op applied answer)).node name).pipes k ≡ pipe_sent op applied name k ((w.node name).pipes k)
pipe_did op true answer w name k = pipe_polled op answer name (node_after op name (w.node name)) k ∙ pipe_applied op name (w.node name) k
pipe_did op false answer w name k = pipe_polled op answer name (w.node name) k

-- the tables are right for another trace, by the world after it
module _ (trace trace' : List Event) (entries entries' : List NodeState) (pipes pipes' : List PipeState) where
  known_by : (w : World) → world_of trace' ≡ w → ((name : List ℕ) → Has (w.node name).boot (state_in name entries')) → ((name : List ℕ) → os_in name entries' ≡ (w.node name).os)
      → ((name : List ℕ) (k : ℕ) → option_map pipe_of (pipe_in name k pipes') ≡ (w.node name).pipes k) → Knows trace' entries' pipes'
  known_by w is has oses set = record {
    states = λ name s boot. has name s (ap (λ (v : World). (v.node name).boot) (sym is) ∙ boot);
    oses = λ name. oses name ∙ ap (λ (v : World). (v.node name).os) (sym is);
    set = λ name k. set name k ∙ ap (λ (v : World). (v.node name).pipes k) (sym is);
  }

  module _ (op : DeviceOp) (applied : Bool) (answer : Result Answer Fault) (is : world_of trace' ≡ world_after (world_of trace) (Did op applied answer)) (oses : (name : List ℕ) → os_in name entries' ≡ os_sent op applied name (os_in name entries))
      (set : (name : List ℕ) (k : ℕ) → option_map pipe_of (pipe_in name k pipes') ≡ pipe_sent op applied name k (option_map pipe_of (pipe_in name k pipes))) (knows : Knows trace entries pipes) where
    known_did : ((name : List ℕ) → Has ((world_after (world_of trace) (Did op applied answer)).node name).boot (state_in name entries')) → Knows trace' entries' pipes'
    known_did has =
        known_by (world_after (world_of trace) (Did op applied answer)) is has (λ name. oses name ∙ ap (os_sent op applied name) (knows.oses name) ∙ sym (os_did op applied answer (world_of trace) name))
        (λ name k. set name k ∙ ap (pipe_sent op applied name k) (knows.set name k) ∙ sym (pipe_did op applied answer (world_of trace) name k))

-- a step that is no command
pub still : (trace trace' : List Event) (entries : List NodeState) (pipes : List PipeState) → world_of trace' ≡ world_of trace → Knows trace entries pipes → Knows trace' entries pipes
still trace trace' entries pipes is knows = known_by trace trace' entries entries pipes pipes (world_of trace) is knows.states knows.oses knows.set

pub known_done : (trace trace' : List Event) (entries entries' : List NodeState) (pipes pipes' : List PipeState) (op : DeviceOp) (boot_step : BootStep) (answer : Answer) → world_of trace' ≡ world_after (world_of trace) (Did op true (Ok answer))
    → answer ≡ answer_of op boot_step (λ name. state_in name entries) → ((name : List ℕ) → state_in name entries' ≡ state_after op boot_step name (state_in name entries)) → ((name : List ℕ) → os_in name entries' ≡ os_after op name (os_in name entries))
    → ((name : List ℕ) (k : ℕ) → option_map pipe_of (pipe_in name k pipes') ≡ pipe_after op name k (option_map pipe_of (pipe_in name k pipes))) → Knows trace entries pipes → Knows trace' entries' pipes'
known_done trace trace' entries entries' pipes pipes' op boot_step answer is answered moved oses set knows =
    let kept : List ℕ → Boot = λ name. state_in name entries in
    let is' : world_of trace' ≡ world_after (world_of trace) (Did op true (Ok (answer_of op boot_step kept))) = is ∙ ap (λ (a : Answer). world_after (world_of trace) (Did op true (Ok a))) answered in
    known_did trace trace' entries entries' pipes pipes' op true (Ok (answer_of op boot_step kept)) is' oses set knows
    (λ name s boot. moved name ∙ applied_one op boot_step (Ok (answer_of op boot_step kept)) name ((world_of trace).node name) kept (answer_tells op boot_step kept) (knows.states name) s boot)

pub known_failed : (trace trace' : List Event) (entries entries' : List NodeState) (pipes pipes' : List PipeState) (op : DeviceOp) (boot_step : BootStep) (applied : Bool) (fault : Fault) → world_of trace' ≡ world_after (world_of trace) (Did op applied (Err fault))
    → ((name : List ℕ) → state_in name entries' ≡ state_sent op boot_step applied name (state_in name entries)) → ((name : List ℕ) → os_in name entries' ≡ os_sent op applied name (os_in name entries))
    → ((name : List ℕ) (k : ℕ) → option_map pipe_of (pipe_in name k pipes') ≡ pipe_sent op applied name k (option_map pipe_of (pipe_in name k pipes))) → Knows trace entries pipes → Knows trace' entries' pipes'
known_failed trace trace' entries entries' pipes pipes' op boot_step applied fault is moved oses set knows =
    known_did trace trace' entries entries' pipes pipes' op applied (Err fault) is oses set knows
    (λ name s boot. moved name ∙ sent_one op boot_step applied fault (world_of trace) name (λ n. state_in n entries) (knows.states name) s boot)
