-- LINK EVENTS of one experiment, played one after another.
use Rattle.std.specs.Prelude.{◌≡◌, ℕ, Bool, false, List, [], ◌∷◌, Option, None, Result, Ok, Err, if◌then◌else◌}
use Rattle.lab_base.specs.declared.fault.Kind.TheVariants as kinds
use Rattle.lab_base.specs.declared.fault.TextFault.{TextFault}
use Rattle.phys_lab.specs.Labs.{Lab}
use Rattle.virt_topo.specs.declared.experiment.Experiment.{Experiment}
use Rattle.virt_topo.specs.declared.experiment.Phase.{Phase}
use Rattle.virt_topo.specs.declared.experiment.Phase.TheVariants.{In}
use Rattle.virt_topo.specs.declared.mapping.Mapping.{Mapping}
use Rattle.virt_topo.specs.declared.wiring.Wiring.{Wiring}
use Rattle.records_model.specs.Labs.{LabState}
use Rattle.ns_events.specs.declared.event.Event.{Event as LinkEvent}
use Rattle.ns_events.specs.Changes.{IsApplied}
use Rattle.ns_events.specs.Pipes.{lacks_shape}
use Rattle.ns_events.specs.Schedules.{IsSchedule}
use Rattle.ns_text.specs.Wirings.{ScriptOf}
use Rattle.ns_text.specs.declared.read.Script.{Script}
use Rattle.script_text.specs.declared.reply.Reply.{Reply}
use Rattle.script_text.specs.declared.reply.Reply.TheVariants as replies
use Rattle.lab_tasks.specs.Tasks.{Task}
use Rattle.lab_tasks.specs.Needs.{OrRefused, need_idle_in, need_meaning}
use Rattle.lab_tasks.specs.Mappings.{in_slot, judged_change}

-- A PLACE among them: the wiring of their text, the events that are left, how many were answered `in`, and the reply that ended it
pub record Playing : Type 0 where
  pub text : Wiring
  pub left : List LinkEvent
  pub played : ℕ
  pub ended : Option Reply

abbrev pub first_place : Wiring → List LinkEvent → Playing
first_place text due = record { text = text; left = due; played = 0; ended = None }

-- where it is, if it is in
abbrev pub mapping_in : Phase → Mapping
mapping_in (In mapping tags) = mapping
mapping_in phase = record { places = []; plugs = [] }

module _ (exp : List ℕ) where
  -- `bad E LINE shape`, where the link of an event has no pipe in the present wiring, or another number of pipes than in the text's: of one event; and of
  -- the first of these
  abbrev pub bad_shape : LinkEvent → Reply
  bad_shape event = replies.Bad exp (record { line = event.line; kind = kinds.Shape })

  abbrev pub need_shape : Wiring → LinkEvent → Wiring → Result (Unit {0}) Reply
  need_shape text event now = if lacks_shape event.link text now then Err (bad_shape event) else Ok tt

  abbrev pub need_shapes : Wiring → List LinkEvent → Wiring → Result (Unit {0}) Reply
  need_shapes text [] now = Ok tt
  need_shapes text (event ∷ events) now = if lacks_shape event.link text now then Err (bad_shape event) else need_shapes text events now

  -- THE CHANGE that an event asks for: the present wiring with other rates, in the present mapping
  pub record JudgedChange (text : Wiring) (event : LinkEvent) (s : LabState) (count : ℕ) (lab : Lab) (e : Experiment) (judgement : Result Task Reply) : Type 0 where
    pub wiring : Wiring
    pub applied : IsApplied event text e.wiring wiring
    pub is : judgement ≡ in_slot count false (judged_change s lab e wiring (mapping_in e.phase))

  -- what is judged of an event, by whether the experiment has an open swap and how many are open
  abbrev pub JudgedEventAt : Wiring → LinkEvent → LabState → Bool → ℕ → Result Task Reply → Type 0
  JudgedEventAt text event s busy count =
      OrRefused (need_idle_in s busy exp) (λ p. OrRefused (need_shape text event p.1.wiring) (λ shaped. JudgedChange text event s count p.0 p.1))

-- what the text has, or the fault of it
pub record HasEvents (exp text : List ℕ) (Judges : Script → Result Playing Reply → Type 0) (judgement : Result Playing Reply) : Type 0 where
  pub meaning : Result Script TextFault
  pub is : ScriptOf text meaning
  pub judged : OrRefused (need_meaning (replies.Bad exp) meaning) Judges judgement

-- the events that are due
pub record AreDue (from to : ℕ) (script : Script) (judgement : Result Playing Reply) : Type 0 where
  pub due : List LinkEvent
  pub schedule : IsSchedule from to script.events due
  pub is : judgement ≡ Ok (first_place script.wiring due)

-- THE LIST THAT `play` IS, or what refuses it: the refusals of a change up to the text, a fault of the text, then the shape of the link of each of its
-- events, due or not
abbrev pub JudgedPlayAt : LabState → Bool → List ℕ → ℕ → ℕ → List ℕ → Result Playing Reply → Type 0
JudgedPlayAt s busy exp from to text =
    OrRefused (need_idle_in s busy exp) (λ p. HasEvents exp text (λ script. OrRefused (need_shapes exp script.wiring script.events p.1.wiring) (λ shaped. AreDue from to script)))
