-- THE WIRING of an NS text.
use Rattle.std.specs.Prelude.{◌≡◌, ℕ, List, Result, Ok, Err}
use Rattle.lab_base.specs.declared.fault.Kind.{Kind}
use Rattle.lab_base.specs.declared.fault.Kind.TheVariants as kinds
use Rattle.lab_base.specs.declared.fault.TextFault.{TextFault}
use Rattle.lab_base.specs.declared.fault.TextRefused.{TextRefused}
use Rattle.lab_base.specs.declared.fault.TextRefused.TheVariants as refusals
use Rattle.virt_topo.specs.declared.wiring.Wiring.{Wiring}
use Rattle.ns_build.specs.Meaning.{MeaningOf}
use Rattle.ns_build.specs.declared.asked.Asked.{Asked}
use Rattle.net_plan.specs.Expansion.{expansion}
use Rattle.net_plan.specs.declared.fault.PlanFault.{PlanFault}
use Rattle.net_plan.specs.declared.fault.PlanFault.TheVariants as faults
use Rattle.ns_text.specs.declared.read.Printed.{Printed}
use Rattle.ns_text.specs.declared.read.Script.{Script}

-- the kind of a refusal of the expansion
abbrev pub IsKind : PlanFault → Kind → Type 0
IsKind faults.Limit kind = kind ≡ kinds.Limit
IsKind faults.Empty kind = kind ≡ kinds.Empty
IsKind faults.Address kind = kind ≡ kinds.Address
IsKind faults.Subnet kind = kind ≡ kinds.Subnet
IsKind faults.Memory kind = ⊥

-- The network that the text asks for is expanded to the wiring. A refusal of the expansion is at the line of `$ns run`; a fault of the text comes first.
pub data WiringOf (t : List ℕ) : Result Wiring TextFault → Type 0 where
  expanded : {asked : Asked} {w : Wiring} → MeaningOf t (Ok asked) → expansion asked.topo ≡ Ok w → WiringOf t (Ok w)
  refused : {asked : Asked} {fault : PlanFault} {kind : Kind} → MeaningOf t (Ok asked) → expansion asked.topo ≡ Err fault → IsKind fault kind
      → WiringOf t (Err (record { line = asked.line; kind = kind }))
  faulty : {fault : TextFault} → MeaningOf t (Err fault) → WiringOf t (Err fault)

-- what becomes of an asked network
abbrev pub Becomes : Asked → Result Wiring TextRefused → Type 0
Becomes asked (Ok w) = expansion asked.topo ≡ Ok w
Becomes asked (Err (refusals.Text fault)) = (why : PlanFault) × (expansion asked.topo ≡ Err why) × IsKind why fault.kind × (fault.line ≡ asked.line)
Becomes asked (Err refusals.Memory) = Unit {0}

-- it is read so, unless memory ran out
unfoldable pub HasWiring : List ℕ → Result Wiring TextRefused → Type 0
HasWiring t (Ok w) = WiringOf t (Ok w)
HasWiring t (Err (refusals.Text fault)) = WiringOf t (Err fault)
HasWiring t (Err refusals.Memory) = Unit {0}

-- the wiring alone
abbrev pub wiring_alone : Result Printed TextRefused → Result Wiring TextRefused
wiring_alone (Ok printed) = Ok printed.wiring
wiring_alone (Err why) = Err why

-- a text has one wiring, or one fault
abbrev pub WiringIsOne : Type 0
WiringIsOne = (t : List ℕ) (a b : Result Wiring TextFault) → WiringOf t a → WiringOf t b → a ≡ b

-- THE WIRING WITH THE EVENTS that the text schedules, or the fault that it has without them
pub data ScriptOf (t : List ℕ) : Result Script TextFault → Type 0 where
  scheduled : {asked : Asked} {w : Wiring} → MeaningOf t (Ok asked) → expansion asked.topo ≡ Ok w → ScriptOf t (Ok (record { wiring = w; events = asked.events }))
  unscheduled : {fault : TextFault} → WiringOf t (Err fault) → ScriptOf t (Err fault)

-- what becomes of an asked network with its events
abbrev pub BecomesScript : Asked → Result Script TextRefused → Type 0
BecomesScript asked (Ok script) = (expansion asked.topo ≡ Ok script.wiring) × (script.events ≡ asked.events)
BecomesScript asked (Err why) = Becomes asked (Err why)

-- it is read so, unless memory ran out
unfoldable pub HasScript : List ℕ → Result Script TextRefused → Type 0
HasScript t (Ok script) = ScriptOf t (Ok script)
HasScript t (Err (refusals.Text fault)) = ScriptOf t (Err fault)
HasScript t (Err refusals.Memory) = Unit {0}

-- a text has one wiring with its events, or one fault
abbrev pub ScriptIsOne : Type 0
ScriptIsOne = (t : List ℕ) (a b : Result Script TextFault) → ScriptOf t a → ScriptOf t b → a ≡ b
