-- The swaps that a manager holds, before and after its calls.
use Rattle.std.proofs.Common.{◌≡◌, ◌≢◌, ◌⊎◌, inl, inr, ℕ, List, [], ◌∷◌, ◌++◌, IfSome, length, length-append, Option, Some, None, Result, Ok, Err, refl, sym, ap, ◌∙◌, subst, arith}
use Rattle.std.specs.Prelude.{IsErrOf}
use Rattle.std.proofs.lemmas.List.{append-nil}
use Rattle.std.proofs.lemmas.Option.{same_Some}
use Rattle.lab_base.specs.Counts.{Rose}
use Rattle.lab_base.specs.Lists.{Has}
use Rattle.lab_base.specs.declared.what.What.{What}
use Rattle.lab_base.proofs.Members.{Has-left, Has-right, Has-append, Apart-across, Apart-right, Has-between}
use Rattle.plant.specs.Events.{Event}
use Rattle.plant.specs.Told.{Told}
use Rattle.journal_rec.specs.declared.record.Record.{Record}
use Rattle.records_model.proofs.Finding.{none_some}
use Rattle.journal_disk.specs.declared.journal.Journal.{Journal}
use Rattle.journal_disk.specs.declared.fault.AppendFault.{AppendFault}
use Rattle.journal_disk.specs.declared.fault.AppendFault.TheVariants as faults
use Rattle.records_model.specs.Labs.{LabState, Move, Texts, lab_in}
use Rattle.swap_txn.specs.declared.live.Live.{Live}
use Rattle.swap_txn.specs.declared.live.Live.TheVariants as live
use Rattle.swap_txn.specs.declared.turned.Turned.{Turned}
use Rattle.swap_txn.specs.declared.turned.Turned.TheVariants as turned
use Rattle.lab_base.specs.declared.what.What.TheVariants as whats
use Rattle.swap_txn.specs.Facts.{exp_of}
use Rattle.swap_txn.specs.States.{Plans, View}
use Rattle.plant.specs.Seen.{Seen}
use Rattle.swap_txn.specs.Turns.{Turns, Begins, WrittenBy, view_of}
use Rattle.swap_turns.specs.declared.turn.TurnedSwap.{TurnedSwap}
use Rattle.swap_turns.specs.Swaps.{Swap}
use Rattle.swap_turns.specs.Beginning.{HasBegun, opened}
use Rattle.swap_turns.specs.Finishing.{IsOver, Finishes, FinishLeaves, HasFinished, IsOnWay}
use Rattle.swap_turns.specs.Legs.{leg_view}
use Rattle.swap_turns.specs.OneTurn.{CanTurn, IsLeftBy, open_in}
use Rattle.swap_turns.specs.Running.{OpenSwap, IsOpen, Working}
use Rattle.swap_turns.specs.Turning.{Outcome, More, TurnsBack, Ended, Stuck, Unwritten, Stopped, IfGoesOn, TurnSteps, StillWorking, open_after, state_after, slot}
use Rattle.swap_turns.proofs.Finishing.{way_starts}
use Rattle.swap_turns.proofs.Together.{gone, one_more, one_of_them}
use Rattle.swap_turns.specs.declared.progress.Progress.{Progress}
use Rattle.swap_mgr.specs.Managing.{Holds, IsPlain, IsManaging, HasTurned, HasTurnedToEnd, HasOpened}
use Rattle.swap_mgr.specs.Open.{HasOpen, IsWithout, IsWith, PutBy}
use Rattle.swap_turns.specs.Telling.{IsProgress, progress_of}
use Rattle.swap_mgr.proofs.Telling.{IsNext, retold, next_of}

abbrev pub Slot : Type 0
Slot = OpenSwap × Live

-- a state has the name of what is seen of it
exp_by : (v : View) (state : Live) → view_of state ≡ Some v → exp_of state ≡ v.exp
exp_by v (live.Begun f) is = ap (λ (x : View). x.exp) (same_Some f v is)
exp_by v (live.Clearing f) is = ap (λ (x : View). x.exp) (same_Some f v is)
exp_by v (live.Cabling f) is = ap (λ (x : View). x.exp) (same_Some f v is)
exp_by v (live.Loading f) is = ap (λ (x : View). x.exp) (same_Some f v is)
exp_by v (live.Booting f) is = ap (λ (x : View). x.exp) (same_Some f v is)
exp_by v (live.Ready f) is = ap (λ (x : View). x.exp) (same_Some f v is)
exp_by v (live.Undoing b) is = ap (λ (x : View). x.exp) (same_Some b v is)
exp_by v (live.Undone b) is = ap (λ (x : View). x.exp) (same_Some b v is)
exp_by v (live.Ended e) is = none_some v is

pub named_open : (s : LabState) (o : OpenSwap) (state : Live) → IsOpen s o state → exp_of state ≡ o.swap.name
named_open s o state is = exp_by (leg_view o.swap (lab_in s.lab) o.leg is.left) state is.state_is

-- lists
split : (xs : List Slot) (x : Slot) → Has xs x → (a : List Slot) × (b : List Slot) × (xs ≡ a ++ x ∷ b)
split [] x h = absurd h
split (y ∷ xs) x (inl e) = ([], xs, ap (λ z. z ∷ xs) e)
split (y ∷ xs) x (inr h) = let r = split xs x h in (y ∷ r.0, r.1, ap (λ l. y ∷ l) r.2)

-- ONE MORE IS HELD
pub put_holds : (mid new : List Live) (before behind : List Slot) (o : OpenSwap) (x : Live) → IsPlain o.leg → Holds mid (before ++ behind) → IsWith mid x new → Holds new (before ++ (o, x) ∷ behind)
put_holds mid new before behind o x plain h w = record {
  listed_of = λ y has. elim (w.was y has) [
    | inl same ↦ (o, Has-right before ((o, x) ∷ behind) (o, y) (inl (ap (λ (z : Live). (o, z)) (sym same))))
    | inr old ↦ let r = h.listed_of y old in (r.0, Has-between before behind (o, x) (r.0, y) r.1)
  ];
  stands = λ q has. elim (Has-append before ((o, x) ∷ behind) q has) [
    | inl in_a ↦ w.kept q.1 (h.stands q (Has-left before behind q in_a))
    | inr in_b ↦ elim in_b [
      | inl here ↦ subst (λ (v : Slot). Has new v.1) here w.held
      | inr there ↦ w.kept q.1 (h.stands q (Has-right before behind q there))
    ]
  ];
  count = omega (arith, h.count, w.count, length-append before ((o, x) ∷ behind), length-append before behind);
  plain = λ q has. elim (Has-append before ((o, x) ∷ behind) q has) [
    | inl in_a ↦ h.plain q (Has-left before behind q in_a)
    | inr in_b ↦ elim in_b [
      | inl here ↦ subst (λ (v : Slot). IsPlain v.0.leg) here plain
      | inr there ↦ h.plain q (Has-right before behind q there)
    ]
  ];
}

module _ (t : Texts) (told : Option Told) (j : Journal) (s : LabState) (opens : List Slot) (working : Working t told j s opens) (old : List Live) (holds : Holds old opens) where
  -- a name that none has
  pub none_named : (name : List ℕ) → (HasOpen old name → ⊥) → (q : Slot) → Has opens q → q.0.swap.name ≢ name
  none_named name none q has is = none (record { state = q.1; stands = holds.stands q has; named = named_open s q.0 q.1 (working.each q has) ∙ is })

  module _ (x : Live) (mid : List Live) (w : IsWithout old x mid) (o : OpenSwap) (before behind : List Slot) (is : opens ≡ before ++ (o, x) ∷ behind) where
    pub as_split : Working t told j s (before ++ (o, x) ∷ behind)
    as_split = subst (λ l. Working t told j s l) is working

    in_opens : (q : Slot) → Has (before ++ (o, x) ∷ behind) q → Has opens q
    in_opens q h = subst (λ l. Has l q) (sym is) h

    here : Has (before ++ (o, x) ∷ behind) (o, x)
    here = Has-right before ((o, x) ∷ behind) (o, x) (inl refl)

    pub its_name : exp_of x ≡ o.swap.name
    its_name = named_open s o x (as_split.each (o, x) here)

    apart : (q : Slot) → Has before q ⊎ Has behind q → q.0.swap.name ≢ o.swap.name
    apart q (inl h) = Apart-across (λ (a b : Slot). a.0.swap.name ≢ b.0.swap.name) before ((o, x) ∷ behind) q (o, x) as_split.differ h (inl refl)
    apart q (inr h) = λ same. (Apart-right (λ (a b : Slot). a.0.swap.name ≢ b.0.swap.name) before ((o, x) ∷ behind) as_split.differ).0 q h (sym same)

    -- IT IS TAKEN OUT
    pub mid_holds : Holds mid (before ++ behind)
    mid_holds = record {
      listed_of = λ y has.
          let r = holds.listed_of y (w.was y has) in
          elim (Has-append before ((o, x) ∷ behind) (r.0, y) (subst (λ l. Has l (r.0, y)) is r.1)) [
            | inl in_a ↦ (r.0, Has-left before behind (r.0, y) in_a)
            | inr in_b ↦ elim in_b [
              | inl same ↦ absurd (w.apart y has (ap (λ (q : Slot). exp_of q.1) (sym same)))
              | inr there ↦ (r.0, Has-right before behind (r.0, y) there)
            ]
          ];
      stands = λ q has.
          let listed = in_opens q (Has-between before behind (o, x) q has) in
          elim (w.kept q.1 (holds.stands q listed)) [
            | inl same ↦ absurd (apart q (Has-append before behind q has) (sym (named_open s q.0 q.1 (working.each q listed)) ∙ ap exp_of same ∙ its_name))
            | inr stays ↦ stays
          ];
      plain = λ q has. holds.plain q (in_opens q (Has-between before behind (o, x) q has));
      count = omega (arith, holds.count, w.count, ap (λ (l : List Slot). length l) is, length-append before ((o, x) ∷ behind), length-append before behind);
    }

-- what stands in its place again
next_holds : (mid new : List Live) (before behind next : List Slot) (o : Option OpenSwap) (x : Option Live) → IfSome o (λ q. IsPlain q.leg) → Holds mid (before ++ behind) → IsNext next o x → PutBy mid x new → Holds new (before ++ (next ++ behind))
next_holds mid new before behind next (Some o) (Some x) plain h is put = subst (λ l. Holds new (before ++ (l ++ behind))) (sym is) (put_holds mid new before behind o x plain h put)
next_holds mid new before behind next None None plain h is put = subst (λ l. Holds new (before ++ (l ++ behind))) (sym is) (subst (λ l. Holds l (before ++ behind)) (sym put) h)
next_holds mid new before behind next (Some o) None plain h is put = absurd is
next_holds mid new before behind next None (Some x) plain h is put = absurd is

-- what is open after a turn is plain still
still_plain : (o : OpenSwap) (steps : List Event) (outcome : Outcome) → IsPlain o.leg → IfSome (open_after o steps outcome) (λ q. IsPlain q.leg)
still_plain o steps More plain = plain
still_plain o steps (TurnsBack why) plain = tt
still_plain o steps (Ended leg) plain = tt
still_plain o steps (Stuck trouble) plain = tt
still_plain o steps Unwritten plain = tt
still_plain o steps Stopped plain = tt

module _ (t : Texts) (s : LabState) (opens : List Slot) (exp : List ℕ) (was now : Seen) (j k : Journal) (working : Working t was.told j s opens) (old mid new : List Live) (holds : Holds old opens) (x : Live) (w : IsWithout old x mid) (named : exp_of x ≡ exp) where
  abbrev its : (o : OpenSwap) × Has opens (o, x)
  its = holds.listed_of x w.held

  abbrev at : (a : List Slot) × (b : List Slot) × (opens ≡ a ++ (its.0, x) ∷ b)
  at = split opens (its.0, x) its.1

  still_as : (result : Turned Live) (steps : List Event) (outcome : Outcome) → StillWorking t s its.0 at.0 at.1 was now k result steps outcome
      → IfGoesOn outcome ((after : LabState) × TurnSteps s its.0 steps outcome after × Working t now.told k after (at.0 ++ (slot (open_after its.0 steps outcome) (state_after result) ++ at.1)))
  still_as result steps More h = h
  still_as result steps (TurnsBack why) h = h
  still_as result steps (Ended leg) h = h
  still_as result steps (Stuck trouble) h = h
  still_as result steps Unwritten h = tt
  still_as result steps Stopped h = tt

  -- A TURN of one of them
  pub turned_one : (y : Turned Live) (result : TurnedSwap) → Turns x was now j k y → IsLeftBy y result → PutBy mid (open_in result) new → HasTurned t s opens exp was now j k (progress_of result) new
  turned_one y result turns is put =
      let split_work = as_split t was.told j s opens working old holds x mid w its.0 at.0 at.1 at.2 in
      let a = one_of_them t s its.0 x at.0 at.1 was now j k split_work y turns in
      let r = retold its.0 a.turn.steps a.turn.outcome result y a.turn.is_told is in
      record {
        before = at.0;
        behind = at.1;
        swap = its.0;
        state = x;
        opens_are = at.2;
        named = sym (its_name t was.told j s opens working old holds x mid w its.0 at.0 at.1 at.2) ∙ named;
        outcome = a.turn.outcome;
        steps = a.turn.steps;
        told_is = a.turn.told;
        is_told = r.is_told;
        leaves = a.turn.leaves;
        sound = a.turn.sound;
        later = a.turn.later;
        cause = a.turn.cause;
        longer = a.turn.longer;
        next = slot (open_after its.0 a.turn.steps a.turn.outcome) (state_after y);
        next_is = next_of (slot (open_after its.0 a.turn.steps a.turn.outcome) (state_after y)) (open_after its.0 a.turn.steps a.turn.outcome) (open_in result) r.next;
        holds = next_holds mid new at.0 at.1 (slot (open_after its.0 a.turn.steps a.turn.outcome) (state_after y)) (open_after its.0 a.turn.steps a.turn.outcome) (open_in result) (still_plain its.0 a.turn.steps a.turn.outcome (holds.plain (its.0, x) its.1)) (mid_holds t was.told j s opens working old holds x mid w its.0 at.0 at.1 at.2) r.next put;
        all = still_as y a.turn.steps a.turn.outcome a.all;
      }

  out_as : (steps : List Event) (outcome : Outcome) → IsOver outcome → FinishLeaves t s its.0 was now k steps outcome
      → IfGoesOn outcome ((after : LabState) × Finishes s its.0 steps outcome after × Working t now.told k after (at.0 ++ at.1))
  out_as steps More over leaves = absurd over
  out_as steps (TurnsBack why) over leaves = absurd over
  out_as steps (Ended leg) over leaves = (leaves.after, leaves.is, gone t s its.0 x at.0 at.1 was now j k (as_split t was.told j s opens working old holds x mid w its.0 at.0 at.1 at.2) leaves.after leaves.work leaves.others)
  out_as steps (Stuck trouble) over leaves = (leaves.after, leaves.is, gone t s its.0 x at.0 at.1 was now j k (as_split t was.told j s opens working old holds x mid w its.0 at.0 at.1 at.2) leaves.after leaves.work leaves.others)
  out_as steps Unwritten over leaves = tt
  out_as steps Stopped over leaves = tt

  -- it is on its way
  pub way_of : IsOnWay t s its.0 was was j j x
  way_of =
      let split_work = as_split t was.told j s opens working old holds x mid w its.0 at.0 at.1 at.2 in
      let here = Has-right at.0 ((its.0, x) ∷ at.1) (its.0, x) (inl refl) in
      way_starts t s its.0 was j x split_work.work (split_work.each (its.0, x) here) (split_work.running (its.0, x) here)

  -- TURNED TO ITS END
  pub out_one : (result : Progress) → HasFinished t s its.0 was now j k (λ at outcome. IsProgress at result outcome) → HasTurnedToEnd t s opens exp was now j k result mid
  out_one result f = record {
    before = at.0;
    behind = at.1;
    swap = its.0;
    state = x;
    opens_are = at.2;
    named = sym (its_name t was.told j s opens working old holds x mid w its.0 at.0 at.1 at.2) ∙ named;
    finished = f;
    holds = mid_holds t was.told j s opens working old holds x mid w its.0 at.0 at.1 at.2;
    all = out_as f.steps f.outcome f.over f.leaves;
  }

-- it can be turned
pub can_turn : (told : Option Told) (j : Journal) (old : List Live) (m : IsManaging told j old) (x : Live) → Has old x → CanTurn told j x
can_turn told j old m x has =
    let its = m.holds.listed_of x has in
    record { texts = m.texts; lab = m.lab; swap = its.0; work = m.working.work; is_open = m.working.each (its.0, x) its.1 }

-- BEGUN
abbrev pub IsBegunAs : Plans → Turned Plans → Type 0
IsBegunAs p (turned.Next state) = state ≡ live.Begun p.forth
IsBegunAs p (turned.Stuck plans what) = what ≡ whats.Journal
IsBegunAs p turned.Stopped = Unit {0}
IsBegunAs p result = ⊥

begun_by : (p : Plans) (answer : Result (Unit {0}) AppendFault) (x : Turned Plans) → WrittenBy p (live.Begun p.forth) answer x → IsBegunAs p x
begun_by p (Ok done) x is = subst (λ y. IsBegunAs p y) (sym is) refl
begun_by p (Err faults.Plant) x is = subst (λ y. IsBegunAs p y) (sym is) refl
begun_by p (Err faults.Stopped) x is = subst (λ y. IsBegunAs p y) (sym is) tt
begun_by p (Err (faults.Full length size)) x is = absurd is

pub begun_as : (p : Plans) (r : Record) (was now : Seen) (j k : Journal) (x : Turned Plans) → Begins p was now j k x r → IsBegunAs p x
begun_as p r was now j k x b = begun_by p b.answer x b.turns

-- not begun: the journal's call failed
stuck_by : (p : Plans) (was now : Seen) (answer : Result (Unit {0}) AppendFault) (x : Turned Plans) (plans : Plans) (what : What) → (IsErrOf answer faults.Plant → Rose was.faults.disk now.faults.disk) → WrittenBy p (live.Begun p.forth) answer x
    → x ≡ turned.Stuck plans what → Rose was.faults.disk now.faults.disk
stuck_by p was now (Ok done) x plans what cause is h = absurd (cc (sym is ∙ h))
stuck_by p was now (Err faults.Plant) x plans what cause is h = cause refl
stuck_by p was now (Err faults.Stopped) x plans what cause is h = absurd (cc (sym is ∙ h))
stuck_by p was now (Err (faults.Full length size)) x plans what cause is h = absurd is

pub stuck_as : (p : Plans) (r : Record) (was now : Seen) (j k : Journal) (x : Turned Plans) (plans : Plans) (what : What) → Begins p was now j k x r → x ≡ turned.Stuck plans what → Rose was.faults.disk now.faults.disk
stuck_as p r was now j k x plans what b is = stuck_by p was now b.answer x plans what b.writes.cause b.turns is

pub opened_one : (t : Texts) (opens : List Slot) (p : Swap) (s u : LabState) (begin : Record) (move : Move) (was now : Seen) (j k : Journal) (old new : List Live) (state : Live) → Working t was.told j s opens → Holds old opens → (HasOpen old p.name → ⊥)
    → HasBegun t p s u begin move was now j k state → IsWith old state new → HasOpened t opens p s u begin move was now j k new
opened_one t opens p s u begin move was now j k old new state working holds none begun w = record {
  state = state;
  begun = begun;
  holds = put_holds old new opens [] (opened p) state tt (subst (λ l. Holds old l) (sym (append-nil opens)) holds) w;
  all = one_more t p s u begin move was now j k state opens working (none_named t was.told j s opens working old holds p.name none) begun;
}
