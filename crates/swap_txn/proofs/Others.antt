-- The facts of a state under the turns of other experiments.
use Rattle.std.proofs.Common.{ℕ, ◌≡◌, ◌≢◌, inl, inr, Bool, true, false, List, [], ◌∷◌, ◌++◌, Option, Some, None, Result, Ok, Err, IfSome, sym, subst}
use Rattle.std.proofs.lemmas.List.{append-nil, take-append-le}
use Rattle.lab_base.specs.Lists.{Has}
use Rattle.lab_base.proofs.Tests.{some_weaker}
use Rattle.phys_lab.specs.Labs.{Lab}
use Rattle.phys_lab.specs.Kept.{IsLab}
use Rattle.virt_topo.specs.declared.experiment.Experiment.{Experiment}
use Rattle.plant.specs.Events.{Event, Did}
use Rattle.plant.specs.Worlds.{world_of}
use Rattle.plant.specs.Told.{Told, with_steps}
use Rattle.plant.specs.Calls.{CommandSteps}
use Rattle.plant.specs.declared.device.DeviceOp.{DeviceOp}
use Rattle.plant.specs.declared.device.Answer.{Answer}
use Rattle.plant.specs.declared.device.Fault.{Fault}
use Rattle.plant.specs.declared.device.Fault.TheVariants as devices
use Rattle.journal_rec.specs.declared.record.Record.{Record}
use Rattle.journal_disk.specs.declared.journal.Journal.{Journal}
use Rattle.journal_disk.specs.declared.fault.AppendFault.{AppendFault}
use Rattle.lab_model.specs.Holding.{Holding}
use Rattle.lab_model.specs.Courses.{Plan, Left, Course, IsCommandOf}
use Rattle.lab_model.specs.Leavings.{did}
use Rattle.lab_model.specs.Parts.{Part}
use Rattle.lab_model.proofs.Alone.{course_others, course_journal}
use Rattle.lab_model.proofs.OwnEvents.{did_push}
use Rattle.lab_model.proofs.Steps.{others_same, part_same}
use Rattle.swap_txn.specs.declared.live.Live.{Live}
use Rattle.swap_txn.specs.declared.turned.Turned.{Turned}
use Rattle.swap_txn.specs.States.{View, Plans}
use Rattle.plant.specs.Seen.{Seen}
use Rattle.swap_txn.specs.Steps.{Sends, Writes}
use Rattle.swap_txn.specs.Turns.{view_of, Turns, TurnOf, TurnsBy, Begins}
use Rattle.swap_txn.specs.Turns as turning
use Rattle.swap_txn.specs.Facts.{IsUnderWay, IsOwn, KnowsBy, Knows, IsOfBy, IsOf}
use Rattle.swap_txn.proofs.Quiet.{IsQuiet, append_steps, append_quiet, quiet_world, quiet_part}

-- what holds of a course holds of the state
knows_more : (lab : Lab) (e : Experiment) (start : ℕ) (o : Option View) (before after : List Event) → ((plan : Plan) (left : Left) → IsUnderWay lab e start plan left before → IsUnderWay lab e start plan left after)
    → KnowsBy lab e start o before → KnowsBy lab e start o after
knows_more lab e start None before after more h = tt
knows_more lab e start (Some v) before after more h = more v.plan v.left h

-- KEPT BY A COMMAND of another experiment
pub other_command : (lab : Lab) (es : List Experiment) → IsLab lab → Holding lab es → (e f : Experiment) → Has es e → Has es f → e ≢ f → (start : ℕ) (live : Live) (trace : List Event) (op : DeviceOp) (applied : Bool) (answer : Result Answer Fault)
    → IsCommandOf lab f op → Knows lab e start live trace → Knows lab e start live (trace ++ Did op applied answer ∷ [])
other_command lab es is_lab holding e f in_e in_f differ start live trace op applied answer of_f h = knows_more lab e start (view_of live) trace (trace ++ Did op applied answer ∷ []) (λ plan left way. record {
  sent = way.sent;
  goes = way.goes;
  on = course_others lab es is_lab holding e f way.sent start trace op applied answer in_e in_f differ of_f way.on;
  part = λ part.
      let before = subst (λ l. Part lab (world_of l) e) (take-append-le start trace (Did op applied answer ∷ []) way.on.within) part in
      subst (λ w. Part lab w e) (sym (did_push trace op applied answer))
      (part_same lab (world_of trace) (did (world_of trace) op applied answer) e (others_same lab es is_lab holding (world_of trace) e f op applied answer in_e in_f differ of_f) (way.part before));
}) h

other_steps : (lab : Lab) (es : List Experiment) → IsLab lab → Holding lab es → (e f : Experiment) → Has es e → Has es f → e ≢ f → (start : ℕ) (live : Live) (trace : List Event) (op : DeviceOp) (stopped : Bool) (answer : Result Answer Fault) (steps : List Event)
    → IsCommandOf lab f op → CommandSteps op stopped answer steps → Knows lab e start live trace → Knows lab e start live (trace ++ steps)
other_steps lab es is_lab holding e f in_e in_f differ start live trace op stopped answer steps of_f made h = by stopped answer made
  where
    none : steps ≡ [] → Knows lab e start live (trace ++ steps)
    none is = subst (λ l. Knows lab e start live (trace ++ l)) (sym is) (subst (λ l. Knows lab e start live l) (sym (append-nil trace)) h)

    one : (applied : Bool) (a : Result Answer Fault) → steps ≡ Did op applied a ∷ [] → Knows lab e start live (trace ++ steps)
    one applied a is = subst (λ l. Knows lab e start live (trace ++ l)) (sym is) (other_command lab es is_lab holding e f in_e in_f differ start live trace op applied a of_f h)

    by : (s : Bool) (a : Result Answer Fault) → CommandSteps op s a steps → Knows lab e start live (trace ++ steps)
    by true a made = none made.1
    by false (Ok value) made = one true (Ok value) made.1
    by false (Err devices.Failed) made = one made.0 (Err devices.Failed) made.1
    by false (Err devices.Stopped) made = elim made [ inl is ↦ none is | inr is ↦ one is.0 (Err devices.Stopped) is.1 ]

-- KEPT BY AN APPEND
quiet_knows : (lab : Lab) (e : Experiment) (start : ℕ) (live : Live) (trace steps : List Event) → IsQuiet lab e steps → Knows lab e start live trace → Knows lab e start live (trace ++ steps)
quiet_knows lab e start live trace steps quiet h = knows_more lab e start (view_of live) trace (trace ++ steps) (λ plan left way. record {
  sent = way.sent;
  goes = way.goes;
  on = course_journal lab e way.sent start trace steps quiet.0 (quiet_world lab e trace steps quiet) way.on;
  part = quiet_part lab e start trace steps way.on.within quiet way.part;
}) h

-- the trace of a plant that tells it, after some steps
told_on : (was now : Option Told) (steps : List Event) (P : List Event → Type 0) → now ≡ with_steps was steps → IfSome was (λ t. P (t.trace ++ steps)) → IfSome now (λ u. P u.trace)
told_on None now steps P is h = subst (λ o. IfSome o (λ u. P u.trace)) (sym is) tt
told_on (Some t) now steps P is h = subst (λ o. IfSome o (λ u. P u.trace)) (sym is) h

pub other_record : (lab : Lab) (e : Experiment) (start : ℕ) (live : Live) (r : Record) (was now : Seen) (j k : Journal) (answer : Result (Unit {0}) AppendFault) → Writes r was now j k answer
    → IfSome was.told (λ t. Knows lab e start live t.trace) → IfSome now.told (λ u. Knows lab e start live u.trace)
other_record lab e start live r was now j k answer writes h =
    let steps = append_steps r was now j k answer writes in
    told_on was.told now.told steps (λ trace. Knows lab e start live trace) writes.appends.trace
    (some_weaker was.told (λ t. Knows lab e start live t.trace) (λ t. Knows lab e start live (t.trace ++ steps)) (λ t known. quiet_knows lab e start live t.trace steps (append_quiet lab e r was now j k answer writes) known) h)

-- KEPT BY EACH TURN of another experiment
module _ (lab : Lab) (es : List Experiment) (is_lab : IsLab lab) (holding : Holding lab es) (e f : Experiment) (in_e : Has es e) (in_f : Has es f) (differ : e ≢ f) (start begin : ℕ) (mine : Live) (was now : Seen) where
  other_sends : (plan : Plan) (left : Left) (course : Course) → IsOwn lab f plan → Sends left was now course → IfSome was.told (λ t. IsUnderWay lab f begin plan left t.trace × Knows lab e start mine t.trace) → IfSome now.told (λ u. Knows lab e start mine u.trace)
  other_sends plan left course own s h =
      told_on was.told now.told s.sent.steps (λ trace. Knows lab e start mine trace) s.sent.trace
      (some_weaker was.told (λ t. IsUnderWay lab f begin plan left t.trace × Knows lab e start mine t.trace) (λ t. Knows lab e start mine (t.trace ++ s.sent.steps))
      (λ t known. other_steps lab es is_lab holding e f in_e in_f differ start mine t.trace s.op was.stopped s.answer s.sent.steps (own.each known.0.sent left s.op known.0.goes s.comes) s.sent.made known.1) h)

  by_view : (o : Option View) (other : Live) (j k : Journal) (turned : Turned Live) → TurnsBy o other was now j k turned → IsOfBy lab f o → IfSome was.told (λ t. KnowsBy lab f begin o t.trace × Knows lab e start mine t.trace)
      → IfSome now.told (λ u. Knows lab e start mine u.trace)
  by_view None other j k turned h own facts = subst (λ (s : Seen). IfSome s.told (λ u. Knows lab e start mine u.trace)) (sym h.1) (some_weaker was.told _ (λ t. Knows lab e start mine t.trace) (λ t both. both.1) facts)
  by_view (Some v) other j k turned h own facts = by h.1
    where
      by : TurnOf v was now j k h.0 → IfSome now.told (λ u. Knows lab e start mine u.trace)
      by (turning.sends course s same is) = other_sends v.plan v.left course own.0 s facts
      by (turning.writes none answer w is) = other_record lab e start mine _ was now j k answer w (some_weaker was.told (λ t. KnowsBy lab f begin (Some v) t.trace × Knows lab e start mine t.trace) (λ t. Knows lab e start mine t.trace) (λ t both. both.1) facts)

  pub other_turn : (other : Live) (j k : Journal) (turned : Turned Live) → Turns other was now j k turned → IsOf lab f other → IfSome was.told (λ t. Knows lab f begin other t.trace × Knows lab e start mine t.trace) → IfSome now.told (λ u. Knows lab e start mine u.trace)
  other_turn other j k turned h own facts = by_view (view_of other) other j k turned h.by own facts

pub other_begins : (lab : Lab) (e : Experiment) (start : ℕ) (mine : Live) (p : Plans) (r : Record) (was now : Seen) (j k : Journal) (turned : Turned Plans) → Begins p was now j k turned r
    → IfSome was.told (λ t. Knows lab e start mine t.trace) → IfSome now.told (λ u. Knows lab e start mine u.trace)
other_begins lab e start mine p r was now j k turned h facts = other_record lab e start mine r was now j k h.answer h.writes facts
