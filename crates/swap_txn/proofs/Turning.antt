-- A command and a record, and the swap after each.
use Rattle.std.proofs.Common.{◌≡◌, ℕ, Bool, true, false, cond, List, [], ◌∷◌, Option, Some, None, IsSome, Result, Ok, Err, refl, sym, ap, ◌∙◌, subst, arith}
use Rattle.std.proofs.lemmas.Bool.Decides.{nat_tests}
use Rattle.lab_base.specs.declared.what.What.{What}
use Rattle.lab_base.specs.declared.what.What.TheVariants as whats
use Rattle.plant.specs.declared.device.Answer.{Answer}
use Rattle.plant.specs.declared.device.DeviceOp.{DeviceOp}
use Rattle.plant.specs.declared.device.Fault.{Fault}
use Rattle.journal_disk.specs.declared.fault.AppendFault.{AppendFault}
use Rattle.journal_disk.specs.declared.fault.AppendFault.TheVariants as faults
use Rattle.journal_disk.specs.declared.journal.Journal.{Journal}
use Rattle.lab_model.specs.Courses.{Plan, Left, Watch, Course, Going, Cut, Halted, Device, answered, next, nothing_left}
use Rattle.swap_txn.specs.declared.live.Live.{Live}
use Rattle.swap_txn.specs.declared.live.Live.TheVariants as lives
use Rattle.swap_txn.specs.declared.stage.Stage.{Stage}
use Rattle.swap_txn.specs.declared.stage.Stage.TheVariants.{Clear, Cable, Load, Boot, Done}
use Rattle.swap_txn.specs.declared.turned.Turned.{Turned}
use Rattle.swap_txn.specs.declared.turned.Turned.TheVariants.{Same, Next, Trouble, Stuck, Stopped}
use Rattle.swap_txn.specs.States.{Undo, View, stage_of, undone}
use Rattle.plant.specs.Seen.{Seen}
use Rattle.swap_txn.specs.Steps.{Commanded, Sends, Writes}
use Rattle.swap_txn.specs.Troubles.{what_of, LeadsBy}
use Rattle.swap_txn.specs.Turns.{view_of, with_view, state_at, state_of, same_state, last_of, ended_of, CutBy, SentBy, EndedBy, TurnOf, sends, writes, moved, turned_by, TurnsBy, Turns, HasRoom, FitsBy, Fits, HasWork}
use Rattle.swap_txn.specs.Going.{CutBack, StaysAt, IfStuck, IsName}
use Rattle.swap_txn.proofs.Positions.{boots_are}

-- WHERE NOTHING IS LEFT
pub finished : (plan : Plan) (left : Left) → stage_of plan left ≡ Done → left ≡ nothing_left
finished plan left done = by left.todo left.watch left.boot done
  where
    listed : (op : DeviceOp) (todo : List DeviceOp) (watch : Option Watch) (boot : List (List _)) → stage_of plan (record { todo = op ∷ todo; boot = boot; watch = watch }) ≡ Done → ⊥
    listed op todo watch boot done = grind (arith, nat_tests)

    by : (todo : List DeviceOp) (watch : Option Watch) (boot : List (List _)) → stage_of plan (record { todo = todo; boot = boot; watch = watch }) ≡ Done → record { todo = todo; boot = boot; watch = watch } ≡ nothing_left
    by [] None [] done = refl
    by [] None (node ∷ boot) done = let boots : Boot ≡ Done = sym (boots_are plan (record { todo = []; boot = node ∷ boot; watch = None }) refl) ∙ done in absurd (cc boots)
    by [] (Some w) boot done = let boots : Boot ≡ Done = sym (boots_are plan (record { todo = []; boot = boot; watch = Some w }) refl) ∙ done in absurd (cc boots)
    by (op ∷ todo) watch boot done = absurd (listed op todo watch boot done)

pub none_left : (plan : Plan) (left : Left) → left ≡ nothing_left → stage_of plan left ≡ Done
none_left plan left none = ap (λ l. stage_of plan l) none ∙ boots_are plan nothing_left refl

-- A STEP OF THE COURSE, as what it makes of the swap
pub sent_on : (v : View) (course : Course) (new : Left) → LeadsBy v.left course (Ok tt) new → SentBy v course (Same (record v { left = new }))
sent_on v (Going left) new h = ap (λ l. Same (record v { left = l })) h.1
sent_on v (Cut trouble) new h = absurd (cc h.0)
sent_on v Halted new h = absurd h

pub sent_back : (v : View) (course : Course) (new : Left) (what : What) (work : Turned View) → LeadsBy v.left course (Err what) new → CutBack (record v { left = new }) what v.undo work → SentBy v course work
sent_back v (Going left) new what work h back = absurd (cc h.0)
sent_back v (Cut trouble) new what work h back = by v.undo (subst (λ w. CutBack (record v { left = new }) w v.undo work) (cc h.0) back)
  where
    by : (undo : Option Undo) → CutBack (record v { left = new }) (what_of trouble) undo work → CutBy v (what_of trouble) undo work
    by None h' = (h.1.0, h' ∙ ap (λ l. Stuck (record v { left = l }) (what_of trouble)) h.1.1)
    by (Some u) h' = h'
sent_back v Halted new what work h back = absurd h

-- a device failed
pub sent_failed : (v : View) (name : List ℕ) (work : Turned View) → CutBack v (whats.Device name) v.undo work → SentBy v (Cut (Device name)) work
sent_failed v name work back = sent_back v (Cut (Device name)) v.left (whats.Device name) work (refl, (v.left.watch, refl)) back

-- the same of an equal view
pub goes_at : (old v : View) (answer : Result Answer Fault) (work : Turned View) → old ≡ v → SentBy old (answered old.left.todo old.left.watch old.left.boot answer) work → SentBy v (answered v.left.todo v.left.watch v.left.boot answer) work
goes_at old v answer work same by = subst (λ (x : View). SentBy x (answered x.left.todo x.left.watch x.left.boot answer) work) same by

pub next_at : (old v : View) (op : DeviceOp) → old ≡ v → next old.left.todo old.left.watch old.left.boot ≡ Some op → next v.left.todo v.left.watch v.left.boot ≡ Some op
next_at old v op same comes = subst (λ (x : View). next x.left.todo x.left.watch x.left.boot ≡ Some op) same comes

-- a command that was answered so
pub sends_by : (v : View) (was now : Seen) (j : Journal) (op : DeviceOp) (answer given : Result Answer Fault) (work : Turned View) → next v.left.todo v.left.watch v.left.boot ≡ Some op → Commanded op was now answer → answer ≡ given
    → SentBy v (answered v.left.todo v.left.watch v.left.boot given) work → TurnOf v was now j j work
sends_by v was now j op answer given work comes sent is by =
    sends (answered v.left.todo v.left.watch v.left.boot given) (record { op = op; comes = comes; answer = given; sent = subst (λ a. Commanded op was now a) is sent; goes = refl }) refl by

pub turn_at : (old v : View) (was now : Seen) (j k : Journal) (work : Turned View) → old ≡ v → TurnOf old was now j k work → TurnOf v was now j k work
turn_at old v was now j k work same turn = subst (λ x. TurnOf x was now j k work) same turn

-- and of an equal state and answer
pub turns_as : (old live : Live) (was now : Seen) (j k : Journal) (given turned : Turned Live) → live ≡ old → turned ≡ given → Turns old was now j k given → Turns live was now j k turned
turns_as old live was now j k given turned live_is turned_is turns = subst (λ x. Turns x was now j k turned) (sym live_is) (subst (λ x. Turns old was now j k x) (sym turned_is) turns)

-- a stuck swap is as it was
pub stuck_suits : (Suits : Bool → Stage → Type 0) (v : View) (work : Turned View) → Suits v.commit (stage_of v.plan v.left) → StaysAt v work → IfStuck work (λ w. Suits w.commit (stage_of w.plan w.left))
stuck_suits Suits v (Same w) suits stays = tt
stuck_suits Suits v (Next live) suits stays = tt
stuck_suits Suits v (Trouble back what) suits stays = tt
stuck_suits Suits v (Stuck w what) suits stays = subst (λ c. Suits c (stage_of w.plan w.left)) (sym stays.0) (subst (λ s. Suits v.commit s) (sym stays.1) suits)
stuck_suits Suits v Stopped suits stays = tt

-- A STATE OF THAT NAME
pub moved_by : (b : Bool) (old new : Live) → same_state old new ≡ b → moved old new ≡ cond b (Same old) (Next new)
moved_by b old new is = ap (λ x. cond x (Same old) (Next new)) is

pub seen_at : (commit : Bool) (s : Stage) (v : View) → view_of (state_at commit s v) ≡ Some v
seen_at true Clear v = refl
seen_at true Cable v = refl
seen_at true Load v = refl
seen_at true Boot v = refl
seen_at true Done v = refl
seen_at false Clear v = refl
seen_at false Cable v = refl
seen_at false Load v = refl
seen_at false Boot v = refl
seen_at false Done v = refl

pub seen_of : (v : View) → view_of (state_of v) ≡ Some v
seen_of v = seen_at v.commit (stage_of v.plan v.left) v

pub seen_as : (live : Live) (v w : View) → view_of live ≡ Some v → view_of (with_view live w) ≡ Some w
seen_as (lives.Begun old) v w is = refl
seen_as (lives.Clearing old) v w is = refl
seen_as (lives.Cabling old) v w is = refl
seen_as (lives.Loading old) v w is = refl
seen_as (lives.Booting old) v w is = refl
seen_as (lives.Ready old) v w is = refl
seen_as (lives.Undoing old) v w is = refl
seen_as (lives.Undone old) v w is = refl
seen_as (lives.Ended ended) v w is = absurd (cc is)

-- A STATE BY ITS NAME: it has work left, room for its last record where nothing is left, and makes the turn of its work
module _ (named : View → Live) where
  pub named_works : (v : View) → IsName named → HasWork (named v)
  named_works v name = subst IsSome (sym (name.sees v)) refl

  pub named_room : (Suits : Bool → Stage → Type 0) (work v : View) (j : Journal) → IsName named → work ≡ v → Suits work.commit (stage_of work.plan work.left) → (Suits v.commit Done → Fits (named v) j)
      → work.left ≡ nothing_left → HasRoom j (last_of work)
  named_room Suits work v j name same suits fits none =
      let done : Suits work.commit Done = subst (λ s. Suits work.commit s) (none_left work.plan work.left none) suits in
      let fits_of : FitsBy (Some v) j = subst (λ o. FitsBy o j) (name.sees v) (fits (subst (λ (x : View). Suits x.commit Done) same done)) in
      subst (λ (x : View). FitsBy (Some x) j) (sym same) fits_of none

  pub named_turns : (v : View) (was now : Seen) (j k : Journal) (work : Turned View) (turned : Turned Live) → IsName named → TurnOf v was now j k work → turned ≡ turned_by named work → Turns (named v) was now j k turned
  named_turns v was now j k work turned name turn is = record { by = subst (λ o. TurnsBy o (named v) was now j k turned) (sym (name.sees v)) (work, turn, is ∙ sym (named_as work)) }
    where
      named_as : (w : Turned View) → turned_by (with_view (named v)) w ≡ turned_by named w
      named_as (Same w) = ap (λ live. moved live (state_of w)) (name.keeps v w)
      named_as (Next live) = refl
      named_as (Trouble back what) = refl
      named_as (Stuck w what) = ap (λ live. Stuck live what) (name.keeps v w)
      named_as Stopped = refl

-- THE WAYS IN WHICH A TURN GOES, each with what it answers: what holds of each holds of the turn
pub record Each (P : Turned Live → Type 0) (v : View) (was now : Seen) (j k : Journal) : Type 0 where
  pub on : (left : Left) (state : Live) → Sends v.left was now (Going left) → k ≡ j → view_of state ≡ Some (record v { left = left }) → P (Same state) × P (Next state)
  pub back : (trouble : _) (u : Undo) → Sends v.left was now (Cut trouble) → k ≡ j → v.undo ≡ Some u → P (Trouble (undone v.exp u (what_of trouble)) (what_of trouble))
  pub cut : (trouble : _) (watch : Option Watch) (state : Live) → Sends v.left was now (Cut trouble) → k ≡ j → v.undo ≡ None → view_of state ≡ Some (record v { left = record v.left { watch = watch } }) → P (Stuck state (what_of trouble))
  pub halted : Sends v.left was now Halted → k ≡ j → P Stopped
  pub ended : (done : Unit {0}) → v.left ≡ nothing_left → Writes (last_of v) was now j k (Ok done) → P (Next (lives.Ended (ended_of v)))
  pub missed : (state : Live) → v.left ≡ nothing_left → Writes (last_of v) was now j k (Err faults.Plant) → view_of state ≡ Some v → P (Stuck state whats.Journal)
  pub stopped : v.left ≡ nothing_left → Writes (last_of v) was now j k (Err faults.Stopped) → P Stopped

module _ (P : Turned Live → Type 0) (live : Live) (v : View) (was now : Seen) (j k : Journal) (is : view_of live ≡ Some v) (each : Each P v was now j k) where
  sent : (course : Course) (work : Turned View) → Sends v.left was now course → k ≡ j → SentBy v course work → P (turned_by (with_view live) work)
  sent (Going left) work s same by = subst (λ w. P (turned_by (with_view live) w)) (sym by) (at (same_state (with_view live w) (state_of w)) refl)
    where
      w : View
      w = record v { left = left }

      at : (b : Bool) → same_state (with_view live w) (state_of w) ≡ b → P (moved (with_view live w) (state_of w))
      at true b = subst P (sym (moved_by true _ _ b)) (each.on left (with_view live w) s same (seen_as live v w is)).0
      at false b = subst P (sym (moved_by false _ _ b)) (each.on left (state_of w) s same (seen_of w)).1
  sent (Cut trouble) work s same by = at v.undo refl by
    where
      at : (undo : Option Undo) → v.undo ≡ undo → CutBy v (what_of trouble) undo work → P (turned_by (with_view live) work)
      at None none by = subst (λ w. P (turned_by (with_view live) w)) (sym by.1) (each.cut trouble by.0 (with_view live (record v { left = record v.left { watch = by.0 } })) s same none (seen_as live v _ is))
      at (Some u) some by = subst (λ w. P (turned_by (with_view live) w)) (sym by) (each.back trouble u s same some)
  sent Halted work s same by = subst (λ w. P (turned_by (with_view live) w)) (sym by) (each.halted s same)

  wrote : (answer : Result (Unit {0}) AppendFault) (work : Turned View) → v.left ≡ nothing_left → Writes (last_of v) was now j k answer → EndedBy v answer work → P (turned_by (with_view live) work)
  wrote (Ok done) work none w by = subst (λ w. P (turned_by (with_view live) w)) (sym by) (each.ended done none w)
  wrote (Err faults.Plant) work none w by = subst (λ w. P (turned_by (with_view live) w)) (sym by) (each.missed (with_view live v) none w (seen_as live v v is))
  wrote (Err faults.Stopped) work none w by = subst (λ w. P (turned_by (with_view live) w)) (sym by) (each.stopped none w)
  wrote (Err (faults.Full length size)) work none w by = absurd by

  pub by_each : (turned : Turned Live) → TurnsBy (Some v) live was now j k turned → P turned
  by_each turned h = subst P (sym h.2) (at h.0 h.1)
    where
      at : (work : Turned View) → TurnOf v was now j k work → P (turned_by (with_view live) work)
      at work (sends course s same by) = sent course work s same by
      at work (writes none answer w by) = wrote answer work none w by
