-- The journal's sides after a turn, and the stop of the plant in it.
use Rattle.std.proofs.Common.{ℕ, ◌≡◌, ◌↔◌, Bool, true, false, cond, List, [], ◌∷◌, ◌++◌, Option, Some, None, IsSome, Result, Ok, Err, IfSome, IsTrue, inl, inr, refl, sym, ap, ◌∙◌, subst}
use Rattle.std.proofs.lemmas.List.{append-nil}
use Rattle.std.proofs.lemmas.Option.{same_Some}
use Rattle.lab_base.specs.declared.boot.Boot.{Boot}
use Rattle.lab_base.specs.declared.boot.Boot.TheVariants.{Off, Shutdown, Booting, TbSetup, IsUp}
use Rattle.plant.specs.Events.{Event, Did}
use Rattle.plant.specs.Told.{Told, with_steps}
use Rattle.plant.specs.Calls.{CommandSteps, Fits}
use Rattle.plant.specs.declared.device.DeviceOp.{DeviceOp}
use Rattle.plant.specs.declared.device.Answer.{Answer}
use Rattle.plant.specs.declared.device.Answer.TheVariants as answers
use Rattle.plant.specs.declared.device.Fault.{Fault}
use Rattle.plant.specs.declared.device.Fault.TheVariants as devices
use Rattle.journal_rec.specs.declared.record.Record.{Record}
use Rattle.journal_model.specs.Appends.{Rests, Known, other_side}
use Rattle.journal_disk.specs.Standing.{side_of, limit_of, IsAt}
use Rattle.journal_disk.specs.declared.journal.Journal.{Journal}
use Rattle.journal_disk.specs.declared.fault.AppendFault.{AppendFault}
use Rattle.journal_disk.specs.declared.fault.AppendFault.TheVariants as faults
use Rattle.lab_model.specs.Courses.{Left, Watch, Course, Going, Cut, Halted, next, answered, lawful}
use Rattle.lab_model.specs.Courses as courses
use Rattle.lab_base.specs.declared.what.What.TheVariants as whats
use Rattle.swap_txn.specs.declared.live.Live.{Live}
use Rattle.swap_txn.specs.declared.turned.Turned.{Turned}
use Rattle.swap_txn.specs.declared.turned.Turned.TheVariants.{Same, Next, Trouble, Stuck, Stopped}
use Rattle.swap_txn.specs.States.{View}
use Rattle.plant.specs.Seen.{Seen}
use Rattle.plant.proofs.Traces.{did_disk}
use Rattle.swap_txn.specs.Steps.{Stands, Sends, Writes, live_of}
use Rattle.swap_txn.specs.Troubles.{what_of}
use Rattle.swap_txn.specs.Turns.{view_of, last_of, held, WrittenBy, Turns, TurnsBy, HasWork, IsStopped, IfStanding}
use Rattle.swap_txn.proofs.Turning.{Each, by_each}

did_at : (trace : List Event) (j : Journal) (rs : List Record) (op : DeviceOp) (applied : Bool) (answer : Result Answer Fault) → IsAt trace j rs → IsAt (trace ++ Did op applied answer ∷ []) j rs
did_at trace j rs op applied answer at =
    let o = at.opened in
    let k = o.known in
    let known : Known (trace ++ Did op applied answer ∷ []) (side_of j) o.epoch rs =
    record { eight = k.eight; written = k.written; other = k.other; there = did_disk (other_side (side_of j)) trace op applied answer ∙ k.there; older = k.older } in
    let rests = subst (λ d. Rests d o.epoch rs) (sym (did_disk (side_of j) trace op applied answer)) o.rests in
    record { opened = record { epoch = o.epoch; known = known; rests = rests }; gate = at.gate }

steps_at : (op : DeviceOp) (stopped : Bool) (answer : Result Answer Fault) (steps : List Event) → CommandSteps op stopped answer steps → (trace : List Event) (j : Journal) (rs : List Record) → IsAt trace j rs → IsAt (trace ++ steps) j rs
steps_at op true answer steps made trace j rs at = subst (λ l. IsAt (trace ++ l) j rs) (sym made.1) (subst (λ l. IsAt l j rs) (sym (append-nil trace)) at)
steps_at op false (Ok value) steps made trace j rs at = subst (λ l. IsAt (trace ++ l) j rs) (sym made.1) (did_at trace j rs op true (Ok value) at)
steps_at op false (Err devices.Failed) steps made trace j rs at = subst (λ l. IsAt (trace ++ l) j rs) (sym made.1) (did_at trace j rs op made.0 (Err devices.Failed) at)
steps_at op false (Err devices.Stopped) steps made trace j rs at = elim made [
  | inl none ↦ subst (λ l. IsAt (trace ++ l) j rs) (sym none) (subst (λ l. IsAt l j rs) (sym (append-nil trace)) at)
  | inr one ↦ subst (λ l. IsAt (trace ++ l) j rs) (sym one.1) (did_at trace j rs op one.0 (Err devices.Stopped) at)
]

-- after a command
sends_stand : (told new : Option Told) (op : DeviceOp) (stopped : Bool) (answer : Result Answer Fault) (steps : List Event) (j : Journal) → new ≡ with_steps told steps → CommandSteps op stopped answer steps → Stands told j → Stands new j
sends_stand None new op stopped answer steps j is made stands = subst (λ o. Stands o j) (sym is) tt
sends_stand (Some t) new op stopped answer steps j is made stands = subst (λ o. Stands o j) (sym is) (stands.0, steps_at op stopped answer steps made t.trace j stands.0 stands.1)

-- after a record
weaker : (told : Option Told) (k : Journal) (rs : List Record) → IfSome told (λ u. IsAt u.trace k rs) → Stands told k
weaker None k rs h = tt
weaker (Some u) k rs h = (rs, h)

writes_stand : (r : Record) (was now : Seen) (j k : Journal) (done : Unit {0}) → Writes r was now j k (Ok done) → Stands was.told j → Stands now.told k
writes_stand r was now j k done writes stands = by was.told _ writes.stands writes.appends.trace stands
  where
    by : (told : Option Told) (steps : List Event) → ((rs : List Record) → IfSome told (λ t. IsAt t.trace j rs → IfSome now.told (λ u. IsAt u.trace k (rs ++ r ∷ [])))) → now.told ≡ with_steps told steps → Stands told j → Stands now.told k
    by None steps later is stands = subst (λ o. Stands o k) (sym is) tt
    by (Some t) steps later is stands = weaker now.told k (stands.0 ++ r ∷ []) (later stands.0 stands.1)

standing_from : {T : Type 0} → (turned : Turned T) (P : Type 0) → P → IfStanding turned P
standing_from (Same state) P p = p
standing_from (Next live) P p = p
standing_from (Trouble b what) P p = p
standing_from (Stuck state (whats.Device name)) P p = p
standing_from (Stuck state (whats.Late node)) P p = p
standing_from (Stuck state (whats.Unlawful node from to)) P p = p
standing_from (Stuck state whats.Journal) P p = tt
standing_from Stopped P p = tt

pub written_stands : {T : Type 0} → (state : T) (following : Live) (r : Record) (was now : Seen) (j k : Journal) (answer : Result (Unit {0}) AppendFault) (turned : Turned T) → Writes r was now j k answer → WrittenBy state following answer turned → Stands was.told j → IfStanding turned (Stands now.told k)
written_stands state following r was now j k (Ok done) turned writes turns stands = subst (λ t. IfStanding t (Stands now.told k)) (sym turns) (writes_stand r was now j k done writes stands)
written_stands state following r was now j k (Err faults.Plant) turned writes turns stands = subst (λ t. IfStanding t (Stands now.told k)) (sym turns) tt
written_stands state following r was now j k (Err faults.Stopped) turned writes turns stands = subst (λ t. IfStanding t (Stands now.told k)) (sym turns) tt
written_stands state following r was now j k (Err (faults.Full length size)) turned writes turns stands = absurd turns

-- THE SIDES AFTER A TURN of a swap that is still open
each_stands : (v : View) (was now : Seen) (j k : Journal) → Stands was.told j → Each (λ turned. IfStanding turned (Stands now.told k)) v was now j k
each_stands v was now j k stands = record {
  on = λ left state s same is. let h = after _ s same in (h, h);
  back = λ trouble u s same some. after _ s same;
  cut = λ trouble watch state s same none is. standing_from (Stuck state (what_of trouble)) _ (after _ s same);
  halted = λ s same. tt;
  ended = λ done none w. writes_stand (last_of v) was now j k done w stands;
  missed = λ state none w is. tt;
  stopped = λ none w. tt;
}
  where
    after : (course : Course) → Sends v.left was now course → k ≡ j → Stands now.told k
    after course s same = subst (λ i. Stands now.told i) (sym same) (sends_stand was.told now.told s.op was.stopped s.answer s.sent.steps j s.sent.trace s.sent.made stands)

stands_by : (o : Option View) (live : Live) (was now : Seen) (j k : Journal) (turned : Turned Live) → view_of live ≡ o → TurnsBy o live was now j k turned → Stands was.told j → IfStanding turned (Stands now.told k)
stands_by None live was now j k turned is h stands = standing_from turned _ (subst (λ i. Stands now.told i) (sym h.2) (subst (λ (s : Seen). Stands s.told j) (sym h.1) stands))
stands_by (Some v) live was now j k turned is h stands = by_each (λ turned. IfStanding turned (Stands now.told k)) live v was now j k is (each_stands v was now j k stands) turned h

pub turn_stands : (live : Live) (was now : Seen) (j k : Journal) (turned : Turned Live) → Turns live was now j k turned → Stands was.told j → IfStanding turned (Stands now.told k)
turn_stands live was now j k turned h stands = stands_by (view_of live) live was now j k turned refl h.by stands

-- A COURSE IS HALTED exactly by a stop
seen_goes : (w : Watch) (state : Boot) (boot : List (List ℕ)) → courses.seen w state boot ≡ Halted → ⊥
seen_goes w state boot is = by (lawful w.state state) is
  where
    late : (b : Bool) (x : Left) → cond b (Cut (courses.Late w.node)) (Going x) ≡ Halted → ⊥
    late true x is = cc is
    late false x is = cc is

    judged : (state : Boot) → courses.judged w state boot ≡ Halted → ⊥
    judged IsUp is = cc is
    judged Off is = late _ _ is
    judged Shutdown is = late _ _ is
    judged Booting is = late _ _ is
    judged TbSetup is = late _ _ is

    by : (b : Bool) → cond b (courses.judged w state boot) (Cut (courses.Unlawful w.node w.state state)) ≡ Halted → ⊥
    by true is = judged state is
    by false is = cc is

halts_so : (todo : List DeviceOp) (watch : Option Watch) (boot : List (List ℕ)) (op : DeviceOp) (answer : Result Answer Fault) (stopped : Bool) (steps : List Event) → next todo watch boot ≡ Some op → CommandSteps op stopped answer steps
    → answered todo watch boot answer ≡ Halted → answer ≡ Err devices.Stopped
halts_so (x ∷ todo) watch boot op (Ok value) stopped steps comes made is = absurd (cc is)
halts_so (x ∷ todo) watch boot op (Err devices.Failed) stopped steps comes made is = absurd (cc is)
halts_so (x ∷ todo) watch boot op (Err devices.Stopped) stopped steps comes made is = refl
halts_so [] (Some w) boot op (Ok (answers.State state)) stopped steps comes made is = absurd (seen_goes w state boot is)
halts_so [] (Some w) boot op (Ok answers.Done) stopped steps comes made is = absurd (by stopped made)
  where
    by : (b : Bool) → CommandSteps op b (Ok answers.Done) steps → ⊥
    by true h = cc h.0
    by false h = let fits = subst (λ (o : DeviceOp). Fits o answers.Done) (sym (same_Some _ _ comes)) h.0 in cc fits.1
halts_so [] (Some w) boot op (Err devices.Failed) stopped steps comes made is = absurd (cc is)
halts_so [] (Some w) boot op (Err devices.Stopped) stopped steps comes made is = refl
halts_so [] None (node ∷ boot) op (Ok value) stopped steps comes made is = absurd (cc is)
halts_so [] None (node ∷ boot) op (Err devices.Failed) stopped steps comes made is = absurd (cc is)
halts_so [] None (node ∷ boot) op (Err devices.Stopped) stopped steps comes made is = refl
halts_so [] None [] op answer stopped steps comes made is = absurd (cc comes)

halts_then : (todo : List DeviceOp) (watch : Option Watch) (boot : List (List ℕ)) (op : DeviceOp) → next todo watch boot ≡ Some op → answered todo watch boot (Err devices.Stopped) ≡ Halted
halts_then (x ∷ todo) watch boot op comes = refl
halts_then [] (Some w) boot op comes = refl
halts_then [] None (node ∷ boot) op comes = refl
halts_then [] None [] op comes = absurd (cc comes)

sends_halted : (left : Left) (was now : Seen) (course : Course) → Sends left was now course → (course ≡ Halted) ↔ IsTrue now.stopped
sends_halted left was now course s = (
  λ is. s.sent.halts.0 (halts_so left.todo left.watch left.boot s.op s.answer was.stopped s.sent.steps s.comes s.sent.made (sym s.goes ∙ is)),
  λ stopped. s.goes ∙ ap (λ a. answered left.todo left.watch left.boot a) (s.sent.halts.1 stopped) ∙ halts_then left.todo left.watch left.boot s.op s.comes,
)

-- A TURN IS STOPPED exactly by a stop
pub written_halted : {T : Type 0} → (state : T) (following : Live) (answer : Result (Unit {0}) AppendFault) (turned : Turned T) → WrittenBy state following answer turned → IsStopped turned ↔ (answer ≡ Err faults.Stopped)
written_halted state following (Ok done) turned h = (λ is. absurd (subst (λ t. IsStopped t) h is), λ is. absurd (cc is))
written_halted state following (Err faults.Plant) turned h = (λ is. absurd (subst (λ t. IsStopped t) h is), λ is. absurd (cc is))
written_halted state following (Err faults.Stopped) turned h = (λ is. refl, λ is. subst (λ t. IsStopped t) (sym h) tt)
written_halted state following (Err (faults.Full length size)) turned h = absurd h

both : {P Q R : Type 0} → P ↔ Q → Q ↔ R → P ↔ R
both a b = (λ p. b.0 (a.0 p), λ r. a.1 (b.1 r))

each_stops : (v : View) (was now : Seen) (j k : Journal) → Each (λ turned. IsStopped turned ↔ IsTrue now.stopped) v was now j k
each_stops v was now j k = record {
  on = λ left state s same is. let none = sends_halted v.left was now _ s in (goes_on none (λ x. cc x), goes_on none (λ x. cc x));
  back = λ trouble u s same some. goes_on (sends_halted v.left was now _ s) (λ x. cc x);
  cut = λ trouble watch state s same none is. goes_on (sends_halted v.left was now _ s) (λ x. cc x);
  halted = λ s same. both (λ h. refl, λ h. tt) (sends_halted v.left was now Halted s);
  ended = λ done none w. goes_on w.halts (λ x. cc x);
  missed = λ state none w is. goes_on w.halts (λ x. cc x);
  stopped = λ none w. both (λ h. refl, λ h. tt) w.halts;
}
  where
    goes_on : {P Q : Type 0} → P ↔ Q → (P → ⊥) → ⊥ ↔ Q
    goes_on is none = (λ h. absurd h, λ q. none (is.1 q))

stops_by : (o : Option View) (live : Live) (was now : Seen) (j k : Journal) (turned : Turned Live) → view_of live ≡ o → TurnsBy o live was now j k turned → IsSome o → IsStopped turned ↔ IsTrue now.stopped
stops_by None live was now j k turned is h work = absurd (cc work)
stops_by (Some v) live was now j k turned is h work = by_each (λ turned. IsStopped turned ↔ IsTrue now.stopped) live v was now j k is (each_stops v was now j k) turned h

pub turn_stops : (live : Live) (was now : Seen) (j k : Journal) (turned : Turned Live) → Turns live was now j k turned → HasWork live → IsStopped turned ↔ IsTrue now.stopped
turn_stops live was now j k turned h work = stops_by (view_of live) live was now j k turned refl h.by work

-- the same of the answer of a state's turn
pub held_stops : {T : Type 0} → (hold : T → Live) (turned : Turned T) (P : Type 0) → IsStopped (held hold turned) ↔ P → IsStopped turned ↔ P
held_stops hold (Same state) P h = h
held_stops hold (Next live) P h = h
held_stops hold (Trouble b what) P h = h
held_stops hold (Stuck state what) P h = h
held_stops hold Stopped P h = h

pub held_standing : {T : Type 0} → (hold : T → Live) (turned : Turned T) (P : Type 0) → IfStanding (held hold turned) P → IfStanding turned P
held_standing hold (Same state) P h = h
held_standing hold (Next live) P h = h
held_standing hold (Trouble b what) P h = h
held_standing hold (Stuck state (whats.Device name)) P h = h
held_standing hold (Stuck state (whats.Late node)) P h = h
held_standing hold (Stuck state (whats.Unlawful node from to)) P h = h
held_standing hold (Stuck state whats.Journal) P h = h
held_standing hold Stopped P h = h

pub written_stops : {T : Type 0} → (state : T) (following : Live) (r : Record) (was now : Seen) (j k : Journal) (answer : Result (Unit {0}) AppendFault) (turned : Turned T) → Writes r was now j k answer → WrittenBy state following answer turned
    → IsStopped turned ↔ IsTrue now.stopped
written_stops state following r was now j k answer turned writes turns = both (written_halted state following answer turned turns) writes.halts

-- what an append leaves of a journal, a turn leaves
module _ {X : Type 0} (f : Journal → X) (was now : Seen) (j k : Journal) (writes : (r : Record) (answer : Result (Unit {0}) AppendFault) → Writes r was now j k answer → f k ≡ f j) where
  each_same : (v : View) → Each (λ turned. f k ≡ f j) v was now j k
  each_same v = record {
    on = λ left state s same is. (ap f same, ap f same);
    back = λ trouble u s same some. ap f same;
    cut = λ trouble watch state s same none is. ap f same;
    halted = λ s same. ap f same;
    ended = λ done none w. writes (last_of v) (Ok done) w;
    missed = λ state none w is. writes (last_of v) (Err faults.Plant) w;
    stopped = λ none w. writes (last_of v) (Err faults.Stopped) w;
  }

  same_by : (o : Option View) (live : Live) (turned : Turned Live) → view_of live ≡ o → TurnsBy o live was now j k turned → f k ≡ f j
  same_by None live turned is h = ap f h.2
  same_by (Some v) live turned is h = by_each (λ turned. f k ≡ f j) live v was now j k is (each_same v) turned h

  turn_same : (live : Live) (turned : Turned Live) → Turns live was now j k turned → f k ≡ f j
  turn_same live turned h = same_by (view_of live) live turned refl h.by

-- the limit of the journal stays, and so does its live side with its epoch
pub turn_limit : (live : Live) (was now : Seen) (j k : Journal) (turned : Turned Live) → Turns live was now j k turned → limit_of k ≡ limit_of j
turn_limit live was now j k turned h = turn_same limit_of was now j k (λ r answer w. w.limit) live turned h

pub turn_live : (live : Live) (was now : Seen) (j k : Journal) (turned : Turned Live) → Turns live was now j k turned → live_of k ≡ live_of j
turn_live live was now j k turned h = turn_same live_of was now j k (λ r answer w. w.live) live turned h
