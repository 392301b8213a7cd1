-- The facts of a state, which its turn hands on.
use Rattle.std.proofs.Common.{ℕ, ◌≡◌, inl, inr, Bool, true, false, List, [], ◌∷◌, ◌++◌, length, take, Option, Some, None, Result, Ok, Err, IfSome, refl, sym, ap, ◌∙◌, subst, arith}
use Rattle.std.proofs.lemmas.List.{append-nil, take-append-le, take_all}
use Rattle.std.proofs.lemmas.Option.{same_Some}
use Rattle.phys_lab.specs.Labs.{Lab}
use Rattle.virt_topo.specs.declared.experiment.Experiment.{Experiment}
use Rattle.plant.specs.Events.{Event, Did}
use Rattle.plant.specs.Told.{Told, with_steps}
use Rattle.plant.specs.Calls.{CommandSteps}
use Rattle.plant.specs.Worlds.{world_of}
use Rattle.plant.specs.declared.device.DeviceOp.{DeviceOp}
use Rattle.plant.specs.declared.device.Answer.{Answer}
use Rattle.plant.specs.declared.device.Fault.{Fault}
use Rattle.plant.specs.declared.device.Fault.TheVariants as devices
use Rattle.journal_disk.specs.declared.journal.Journal.{Journal}
use Rattle.lab_model.specs.Courses.{Plan, Left, Watch, Course, Going, Goes, whole, next, answered}
use Rattle.lab_model.specs.OnCourse.{OnCourse}
use Rattle.lab_model.specs.Parts.{Part}
use Rattle.lab_model.proofs.OwnEvents.{goes_push, did_push}
use Rattle.lab_model.proofs.Alone.{course_starts, course_own, course_next}
use Rattle.swap_txn.specs.declared.live.Live.{Live}
use Rattle.swap_txn.specs.declared.live.Live.TheVariants as lives
use Rattle.swap_txn.specs.declared.turned.Turned.{Turned}
use Rattle.swap_txn.specs.States.{View}
use Rattle.plant.specs.Seen.{Seen}
use Rattle.swap_txn.specs.Steps.{Sends}
use Rattle.swap_txn.specs.Turns.{view_of, state_of, Turns, TurnsBy}
use Rattle.swap_txn.specs.Facts.{KeepsPart, IsUnderWay, IsOwn, IsOwnUndo, IsOfBy, KnowsBy, Knows, IsOf, IsOfAfter, KnowsAfter, exp_of, IsNamedAfter, HandsOn, StartsAt}
use Rattle.swap_txn.proofs.Quiet.{part_quiet}
use Rattle.swap_txn.proofs.Turning.{Each, by_each, seen_of}

-- a course of which nothing was sent is under way from now on
pub starts : (lab : Lab) (e : Experiment) (plan : Plan) (trace : List Event) → IsUnderWay lab e (length trace) plan (whole plan) trace
starts lab e plan trace = record {
  sent = [];
  goes = refl;
  on = course_starts lab e trace;
  part = λ part. subst (λ l. Part lab (world_of l) e) (take_all (length trace) trace (omega arith)) part;
}

-- an acknowledged command
goes_ok : (todo : List DeviceOp) (watch : Option Watch) (boot : List (List ℕ)) (op : DeviceOp) (answer : Result Answer Fault) (left : Left) → next todo watch boot ≡ Some op → answered todo watch boot answer ≡ Going left → (value : Answer) × (answer ≡ Ok value)
goes_ok todo watch boot op (Ok value) left comes is = (value, refl)
goes_ok (x ∷ todo) watch boot op (Err devices.Failed) left comes is = absurd (cc is)
goes_ok (x ∷ todo) watch boot op (Err devices.Stopped) left comes is = absurd (cc is)
goes_ok [] (Some w) boot op (Err devices.Failed) left comes is = absurd (cc is)
goes_ok [] (Some w) boot op (Err devices.Stopped) left comes is = absurd (cc is)
goes_ok [] None (node ∷ boot) op (Err devices.Failed) left comes is = absurd (cc is)
goes_ok [] None (node ∷ boot) op (Err devices.Stopped) left comes is = absurd (cc is)
goes_ok [] None [] op (Err fault) left comes is = absurd (cc comes)

ok_steps : (op : DeviceOp) (stopped : Bool) (answer : Result Answer Fault) (value : Answer) (steps : List Event) → answer ≡ Ok value → CommandSteps op stopped answer steps → steps ≡ Did op true answer ∷ []
ok_steps op true answer value steps is made = absurd (cc (is, made.0))
ok_steps op false (Ok x) value steps is made = made.1
ok_steps op false (Err fault) value steps is made = absurd (cc is)

-- THE PART IS KEPT by the next command, applied or not
did_part : (lab : Lab) (e : Experiment) (start : ℕ) (plan : Plan) (left : Left) (trace : List Event) (op : DeviceOp) (applied : Bool) (answer : Result Answer Fault) → IsOwn lab e plan → next left.todo left.watch left.boot ≡ Some op
    → IsUnderWay lab e start plan left trace → KeepsPart lab e start (trace ++ Did op applied answer ∷ [])
did_part lab e start plan left trace op applied answer own comes way = λ part.
    let before : Part lab (world_of (take start trace)) e = subst (λ l. Part lab (world_of l) e) (take-append-le start trace (Did op applied answer ∷ []) way.on.within) part in
    subst (λ w. Part lab w e) (sym (did_push trace op applied answer)) (course_next lab e way.sent start trace op applied answer way.on (own.safe (world_of (take start trace)) before way.sent left op applied answer way.goes comes))

steps_part : (lab : Lab) (e : Experiment) (start : ℕ) (plan : Plan) (left : Left) (trace : List Event) (op : DeviceOp) (stopped : Bool) (answer : Result Answer Fault) (steps : List Event) → IsOwn lab e plan → next left.todo left.watch left.boot ≡ Some op
    → CommandSteps op stopped answer steps → IsUnderWay lab e start plan left trace → KeepsPart lab e start (trace ++ steps)
steps_part lab e start plan left trace op stopped answer steps own comes made way = by stopped answer made
  where
    none : steps ≡ [] → KeepsPart lab e start (trace ++ steps)
    none is = subst (λ l. KeepsPart lab e start (trace ++ l)) (sym is) (subst (λ l. KeepsPart lab e start l) (sym (append-nil trace)) way.part)

    one : (applied : Bool) (a : Result Answer Fault) → steps ≡ Did op applied a ∷ [] → KeepsPart lab e start (trace ++ steps)
    one applied a is = subst (λ l. KeepsPart lab e start (trace ++ l)) (sym is) (did_part lab e start plan left trace op applied a own comes way)

    by : (s : Bool) (a : Result Answer Fault) → CommandSteps op s a steps → KeepsPart lab e start (trace ++ steps)
    by true a made = none made.1
    by false (Ok value) made = one true (Ok value) made.1
    by false (Err devices.Failed) made = one made.0 (Err devices.Failed) made.1
    by false (Err devices.Stopped) made = elim made [ inl is ↦ none is | inr is ↦ one is.0 (Err devices.Stopped) is.1 ]

trace_after : (was now : Option Told) (t u : Told) (steps : List Event) → was ≡ Some t → now ≡ Some u → now ≡ with_steps was steps → u.trace ≡ t.trace ++ steps
trace_after was now t u steps was_is now_is is =
    let told : Some u ≡ with_steps (Some t) steps = sym now_is ∙ is ∙ ap (λ o. with_steps o steps) was_is in
    let same : u ≡ record t { trace = t.trace ++ steps } = cc told in
    ap (λ (x : Told). x.trace) same

module _ (lab : Lab) (e : Experiment) (start : ℕ) (was now : Seen) (t u : Told) (was_is : was.told ≡ Some t) (now_is : now.told ≡ Some u) where
  -- A COMMAND OF THE EXPERIMENT'S OWN leads its course on, and keeps its part
  sends_part : (plan : Plan) (left : Left) (course : Course) → IsOwn lab e plan → Sends left was now course → IsUnderWay lab e start plan left t.trace → KeepsPart lab e start u.trace
  sends_part plan left course own s way =
      subst (λ l. KeepsPart lab e start l) (sym (trace_after was.told now.told t u s.sent.steps was_is now_is s.sent.trace))
      (steps_part lab e start plan left t.trace s.op was.stopped s.answer s.sent.steps own s.comes s.sent.made way)

  sends_on : (plan : Plan) (left new : Left) → IsOwn lab e plan → Sends left was now (Going new) → IsUnderWay lab e start plan left t.trace → IsUnderWay lab e start plan new u.trace
  sends_on plan left new own s way =
      let goes : answered left.todo left.watch left.boot s.answer ≡ Going new = sym s.goes in
      let ok = goes_ok left.todo left.watch left.boot s.op s.answer new s.comes goes in
      let steps : s.sent.steps ≡ Did s.op true s.answer ∷ [] = ok_steps s.op was.stopped s.answer ok.0 s.sent.steps ok.1 s.sent.made in
      let trace : u.trace ≡ t.trace ++ Did s.op true s.answer ∷ [] = trace_after was.told now.told t u s.sent.steps was_is now_is s.sent.trace ∙ ap (λ l. t.trace ++ l) steps in
      record {
        sent = way.sent ++ (s.op, s.answer) ∷ [];
        goes = subst (λ c. Goes (way.sent ++ (s.op, s.answer) ∷ []) (Going (whole plan)) c) goes (goes_push way.sent (Going (whole plan)) left s.op s.answer way.goes s.comes);
        on = subst (λ l. OnCourse lab e (way.sent ++ (s.op, s.answer) ∷ []) start l) (sym trace)
            (course_own lab e way.sent start t.trace s.op s.answer (own.each way.sent left s.op way.goes s.comes) way.on);
        part = sends_part plan left (Going new) own s way;
      }

  abbrev Handed : Turned Live → Type 0
  Handed turned = KnowsAfter lab e start turned u.trace × (KeepsPart lab e start t.trace → KeepsPart lab e start u.trace)

  known_at : (state : Live) (v : View) → view_of state ≡ Some v → IsUnderWay lab e start v.plan v.left u.trace → Knows lab e start state u.trace
  known_at state v is way = subst (λ o. KnowsBy lab e start o u.trace) (sym is) way

  each_hands : (v : View) (j k : Journal) → IsOwn lab e v.plan → IsUnderWay lab e start v.plan v.left t.trace → Each Handed v was now j k
  each_hands v j k own way = record {
    on = λ left state s same is.
        let next = sends_on v.plan v.left left own s way in
        let known = known_at state (record v { left = left }) is next in
        ((known, λ kept. next.part), (known, λ kept. next.part));
    back = λ trouble undo s same some. (starts lab e undo.plan u.trace, λ kept. sends_part v.plan v.left _ own s way);
    cut = λ trouble watch state s same none is. (tt, λ kept. sends_part v.plan v.left _ own s way);
    halted = λ s same. (tt, λ kept. sends_part v.plan v.left _ own s way);
    ended = λ done none w. (tt, λ kept. quiet _ _ w way kept);
    missed = λ state none w is. (tt, λ kept. quiet _ _ w way kept);
    stopped = λ none w. (tt, λ kept. quiet _ _ w way kept);
  }
    where
      quiet : (r : _) (answer : _) → Rattle.swap_txn.specs.Steps.Writes r was now j k answer → IsUnderWay lab e start v.plan v.left t.trace → KeepsPart lab e start t.trace → KeepsPart lab e start u.trace
      quiet r answer w way kept = part_quiet lab e start r was now j k answer t u was_is now_is way.on.within w kept

  hands : (o : Option View) (live : Live) (j k : Journal) (turned : Turned Live) → view_of live ≡ o → TurnsBy o live was now j k turned → IsOfBy lab e o → KnowsBy lab e start o t.trace → Handed turned
  hands None live j k turned is h own way =
      let same : t ≡ u = cc (was_is, now_is, ap (λ (s : Seen). s.told) h.1) in
      subst Handed (sym h.0) (subst (λ o. KnowsBy lab e start o u.trace) (sym is) tt, λ kept. subst (λ (x : Told). KeepsPart lab e start x.trace) same kept)
  hands (Some v) live j k turned is h own way = by_each Handed live v was now j k is (each_hands v j k own.0 way) turned h

-- EXPERIMENT AND COMMANDS STAY
seen_exp : (live : Live) (v : View) → view_of live ≡ Some v → exp_of live ≡ v.exp
seen_exp (lives.Begun w) v is = ap (λ (x : View). x.exp) (same_Some w v is)
seen_exp (lives.Clearing w) v is = ap (λ (x : View). x.exp) (same_Some w v is)
seen_exp (lives.Cabling w) v is = ap (λ (x : View). x.exp) (same_Some w v is)
seen_exp (lives.Loading w) v is = ap (λ (x : View). x.exp) (same_Some w v is)
seen_exp (lives.Booting w) v is = ap (λ (x : View). x.exp) (same_Some w v is)
seen_exp (lives.Ready w) v is = ap (λ (x : View). x.exp) (same_Some w v is)
seen_exp (lives.Undoing w) v is = ap (λ (x : View). x.exp) (same_Some w v is)
seen_exp (lives.Undone w) v is = ap (λ (x : View). x.exp) (same_Some w v is)
seen_exp (lives.Ended ended) v is = absurd (cc is)

each_named : (v : View) (was now : Seen) (j k : Journal) → Each (λ turned. IsNamedAfter v.exp turned) v was now j k
each_named v was now j k = record {
  on = λ left state s same is. let named = seen_exp state (record v { left = left }) is in (named, named);
  back = λ trouble u s same some. refl;
  cut = λ trouble watch state s same none is. seen_exp state (record v { left = record v.left { watch = watch } }) is;
  halted = λ s same. tt;
  ended = λ done none w. refl;
  missed = λ state none w is. seen_exp state v is;
  stopped = λ none w. tt;
}

named_by : (o : Option View) (live : Live) (was now : Seen) (j k : Journal) (turned : Turned Live) → view_of live ≡ o → TurnsBy o live was now j k turned → IsNamedAfter (exp_of live) turned
named_by None live was now j k turned is h = subst (λ x. IsNamedAfter (exp_of live) x) (sym h.0) refl
named_by (Some v) live was now j k turned is h =
    subst (λ exp. IsNamedAfter exp turned) (sym (seen_exp live v is)) (by_each (λ turned. IsNamedAfter v.exp turned) live v was now j k is (each_named v was now j k) turned h)

each_own : (lab : Lab) (e : Experiment) (v : View) (was now : Seen) (j k : Journal) → IsOfBy lab e (Some v) → Each (λ turned. IsOfAfter lab e turned) v was now j k
each_own lab e v was now j k own = record {
  on = λ left state s same is. let mine = subst (λ o. IsOfBy lab e o) (sym is) own in (mine, mine);
  back = λ trouble u s same some. (subst (λ o. IsOwnUndo lab e o) some own.1, tt);
  cut = λ trouble watch state s same none is. subst (λ o. IsOfBy lab e o) (sym is) own;
  halted = λ s same. tt;
  ended = λ done none w. tt;
  missed = λ state none w is. subst (λ o. IsOfBy lab e o) (sym is) own;
  stopped = λ none w. tt;
}

own_by : (lab : Lab) (e : Experiment) (o : Option View) (live : Live) (was now : Seen) (j k : Journal) (turned : Turned Live) → view_of live ≡ o → TurnsBy o live was now j k turned → IsOfBy lab e o → IsOfAfter lab e turned
own_by lab e None live was now j k turned is h own = subst (λ x. IsOfAfter lab e x) (sym h.0) (subst (λ o. IsOfBy lab e o) (sym is) tt)
own_by lab e (Some v) live was now j k turned is h own = by_each (λ turned. IsOfAfter lab e turned) live v was now j k is (each_own lab e v was now j k own) turned h

-- EACH TURN HANDS THE FACTS ON
pub hands_on : (live : Live) (was now : Seen) (j k : Journal) (turned : Turned Live) → Turns live was now j k turned → HandsOn was.told now.told live turned
hands_on live was now j k turned h = record {
  named = named_by (view_of live) live was now j k turned refl h.by;
  own = λ lab e own. own_by lab e (view_of live) live was now j k turned refl h.by own;
  each = by was.told now.told refl refl;
}
  where
    by : (o p : Option Told) → was.told ≡ o → now.told ≡ p → IfSome o (λ t. IfSome p (λ u. (lab : Lab) (e : Experiment) (start : ℕ) → IsOf lab e live → Knows lab e start live t.trace
        → KnowsAfter lab e start turned u.trace × (KeepsPart lab e start t.trace → KeepsPart lab e start u.trace)))
    by None p was_is now_is = tt
    by (Some t) None was_is now_is = tt
    by (Some t) (Some u) was_is now_is = λ lab e start own way. hands lab e start was now t u was_is now_is (view_of live) live j k turned refl h.by own way

-- THE FACTS AT THE START, over every trace
pub seen_starts : (live : Live) (v : View) → view_of live ≡ Some v → v.left ≡ whole v.plan → (trace : List Event) → StartsAt trace live
seen_starts live v is all trace lab e = subst (λ o. KnowsBy lab e (length trace) o trace) (sym is) (subst (λ l. IsUnderWay lab e (length trace) v.plan l trace) (sym all) (starts lab e v.plan trace))

pub state_starts : (v : View) → v.left ≡ whole v.plan → (trace : List Event) → StartsAt trace (state_of v)
state_starts v all trace = seen_starts (state_of v) v (seen_of v) all trace

pub begun_starts : (v : View) → v.left ≡ whole v.plan → (told : Option Told) → IfSome told (λ t. StartsAt t.trace (lives.Begun v))
begun_starts v all None = tt
begun_starts v all (Some t) = seen_starts (lives.Begun v) v refl all t.trace
