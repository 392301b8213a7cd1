-- A command that was obeyed: what it began, and the lab that it hands on.
use Rattle.std.proofs.Common.{◌≡◌, inl, inr, ℕ, ◌^◌, true, false, List, [], ◌∷◌, ◌++◌, Option, Some, None, Result, Ok, Err, refl, sym, ◌∙◌, ap, subst, arith}
use Rattle.std.specs.Prelude.{IfSome, OnErr, is_some}
use Rattle.std.proofs.lemmas.List.{append-nil}
use Rattle.lab_base.specs.Counts.{Rose}
use Rattle.lab_base.proofs.Tests.{some_weaker}
use Rattle.plant.specs.declared.drill.Drill.{Drill}
use Rattle.plant.specs.declared.moment.Faults.{Faults}
use Rattle.plant.specs.declared.step.Side.{Side}
use Rattle.plant.specs.Disks.{disk, ArePossible}
use Rattle.plant.specs.Events.{Event, Restarted}
use Rattle.plant.specs.Seen.{Seen}
use Rattle.plant.specs.Told.{Told, with_steps}
use Rattle.plant.proofs.Traces.{with_steps-append}
use Rattle.journal_disk.specs.Standing.{length_of, limit_of}
use Rattle.journal_disk.specs.declared.fault.OpenFault.{OpenFault}
use Rattle.journal_disk.specs.declared.fault.OpenFault.TheVariants as openings
use Rattle.lab_state.specs.Texts.{the_texts}
use Rattle.swap_turns.specs.Causes.{IsLater}
use Rattle.swap_turns.specs.Running.{Stands}
use Rattle.script_text.specs.declared.command.Command.{Command}
use Rattle.script_text.specs.declared.reply.Reply.{Reply}
use Rattle.script_text.specs.declared.reply.Reply.TheVariants as replies
use Rattle.script_text.specs.Drills.{drill_of}
use Rattle.lab_core.specs.Breaks.{Breaks, failed, unanswered}
use Rattle.lab_core.specs.Controller.{Control, Works, WorksWith}
use Rattle.lab_core.specs.Opening.{OpenEnds, OpenSteps, OpenTold}
use Rattle.lab_core.specs.Sessions.{OpenSwap, Session, Closed, Open, AreOpenedBy, counted_from, Terms}
use Rattle.lab_tasks.specs.OpenNames.{name_of}
use Rattle.lab_core.specs.Tells.{opens_of, TellsBroken}
use Rattle.lab_top.specs.declared.command.CommandFault.{CommandFault}
use Rattle.lab_top.specs.declared.command.CommandFault.TheVariants as command_faults
use Rattle.lab_core.proofs.OuterSteps.{no_start}
use Rattle.swap_turns.specs.Pieces.{has_command}
use Rattle.swap_turns.proofs.Stood.{stood_alike}
use Rattle.lab_top.specs.Pieces.{Finds, FindsNone, IsPiece, IsPlannedBy, Later, WantsAfter, WantsOnly, behind as goes_after, reading as in_reading, settling as in_settling, blames_if, blames_now_if, closes_if, is_closed, leaves_one, may_shut, opened, stays_open, GoesFrom, OwnStep, held_after}
use Rattle.lab_top.specs.Answering.{Does, DoesOwn, FoundNone, HasSession, IsMarkAt, IsOpen, Makes, MayGoOn, MayOpen, StandsAt, Starts, Unopened, Begins, Made, Ends, Moment, held_first, held_of, piece_of, reply_if, HandsLab}
use Rattle.lab_top.proofs.BrokenOpenings.{again_piece, cut_piece, missed_in, nothing_outer}
use Rattle.lab_top.proofs.Stepping.{AsRead, standing_lab, was_open, is_opened, has_led}
use Rattle.lab_core.specs.Moments.{IsLengthAt, trace_in, with_more}
use Rattle.lab_core.proofs.Composing.{standing_length}
use Rattle.records_model.specs.Labs.{at_first}
use Rattle.lab_top.proofs.Obeyed.{map_both, map_three, carried, opened_none, blames_none, with_more-nil, trace_steps, own_as}

-- WHAT A COMMAND BEGAN
module _ (terms : Terms) (command : Command) (mark : Faults) (no_drill : drill_of command ≡ None) where
  -- no failure is planned
  none_planned : (reply : Option Reply) → IsPlannedBy terms (drill_of command) false reply
  none_planned reply = subst (λ (d : Option Drill). IsPlannedBy terms d false reply) (sym no_drill) refl

  abbrev begins_so : (old new : Option Told) (from to : Session) (opening own : List Event) (reply : Option Reply) → new ≡ with_steps old (opening ++ own) → IfSome old (λ t. IsPiece terms t.trace (piece_of command mark from to opening own reply))
      → Begins terms command mark old new from to reply
  begins_so old new from to opening own reply told is_piece = record { opening = opening; own = own; planned = false; told = told; planned_by = none_planned reply; is_piece = is_piece }

  -- how it leaves the session
  abbrev LeavesSession : Session → Option Reply → Type 0
  LeavesSession to reply = (stays_open reply ≡ false → to ≡ Closed) × (is_closed to ≡ true → may_shut reply ≡ true)

  -- by an open controller, or one that was opened first
  open_piece : (trace : List Event) (from to : Session) (opening own : List Event) (reply : Option Reply) → LeavesSession to reply → AsRead trace → Finds None from trace (piece_of command mark from to opening own reply)
      → Does terms trace (piece_of command mark from to opening own reply) → IsPiece terms trace (piece_of command mark from to opening own reply)
  open_piece trace from to opening own reply leaves readable finds it = record {
    readable = readable;
    finds = subst (λ (d : Option Drill). Finds d from trace (piece_of command mark from to opening own reply)) (sym no_drill) finds;
    leaves = leaves.0;
    shuts = λ none. leaves.1;
    steps = λ none some miss restart. it.steps;
    leads = λ none. it.leads;
    done = it.done;
  }

  pub begins_open : (old : Seen) (new : Moment) (c : Control) (swaps : List OpenSwap) (reply : Option Reply) → IsOpen old c swaps → (m : Makes terms mark command old c swaps new reply) → Begins terms command mark old.told new.plant.told (Open swaps) m.to reply
  begins_open old new c swaps reply is m =
      begins_so old.told new.plant.told (Open swaps) m.to [] m.own.0 reply m.own.1
      (map_both old.told (λ t stands does.
      let w = was_open t.trace c swaps stands is.limit in
      open_piece t.trace (Open swaps) m.to [] m.own.0 reply (m.closed, m.shut) w.readable refl (does t.trace (Open swaps) [] (sym (append-nil t.trace)) w)) is.works.working.work.stands m.own.2)

  pub begins_opened : (old : Option Told) (mid : Seen) (new : Moment) (c : Control) (reply : Option Reply) → (told : OpenTold old mid.told (2 ^ 32) (Ok c)) → IfSome old (λ t. AsRead t.trace) → Works mid.told c → limit_of c.journal ≡ 2 ^ 32
      → (m : Makes terms mark command mid c [] new reply) → Begins terms command mark old new.plant.told Closed m.to reply
  begins_opened old mid new c reply (reading, moving, is, opens) there works limit m =
      let steps = reading ++ moving in
      begins_so old new.plant.told Closed m.to steps m.own.0 reply (m.own.1 ∙ ap (λ o. with_steps o m.own.0) is ∙ with_steps-append old steps m.own.0)
      (map_three old (λ t o readable both.
      let w = is_opened t.trace reading moving c o both.0 limit readable in
      let it = w.opens refl in
      open_piece t.trace Closed m.to steps m.own.0 reply (m.closed, m.shut) readable ((λ sent. o.ends.settled.read.journal), opened it.no_miss (no_start steps it.no_outer) o.ends.settled.read.journal (has_led t.trace reading moving c o both.0)) (both.1 t.trace Closed steps refl w)) opens there
      (carried old mid.told steps is (λ l. Stands the_texts l c.journal c.lab × DoesOwn terms l command mark c [] m.own.0 m.to reply) (map_both mid.told (λ t stands does. (stands, does)) works.stands m.own.2)))

-- a closed session has no controller
none_there : (plant : Seen) (k : Option Control) (P : Control → Type 0) → StandsAt plant k Closed → IfSome k P
none_there plant None P at = tt
none_there plant (Some c) P at = absurd at

-- WHERE THE CONTROLLER COULD NOT BE OPENED, from a moment at which it is closed
module _ (terms : Terms) (command : Command) (no_drill : drill_of command ≡ None) (plant : Seen) (new : Moment) (mid : Option Told) (fault : OpenFault) (opens : OpenTold plant.told mid (2 ^ 32) (Err fault))
    (there : IfSome plant.told (λ t. AsRead t.trace)) (then : IfSome mid (λ t. AsRead t.trace)) (later : Later plant.faults new.plant.faults) (goes_on : HasSession new Closed) where
  abbrev old : Moment
  old = record { plant = plant; controller = None }

  abbrev steps : List Event
  steps = opens.0 ++ opens.1

  then_here : IfSome plant.told (λ t. AsRead (t.trace ++ steps))
  then_here = carried plant.told mid steps opens.2 AsRead then

  abbrev begins_cut : (reply : Option Reply) → leaves_one Closed reply ≡ false → new.plant.told ≡ mid → (is_some reply ≡ true → fault ≡ openings.Plant) → IfSome plant.told (λ t. Breaks steps reply) → Begins terms command plant.faults plant.told new.plant.told Closed Closed reply
  begins_cut reply other same only breaks =
      begins_so terms command plant.faults no_drill plant.told new.plant.told Closed Closed steps [] reply (same ∙ opens.2 ∙ ap (λ l. with_steps plant.told l) (sym (append-nil steps)))
      (map_three {P = λ t. OpenSteps t.trace opens.0 opens.1 (2 ^ 32) (Err fault) × Breaks steps reply} plant.told (λ t both readable now. cut_piece terms t.trace command plant.faults no_drill opens.0 opens.1 fault both.0 readable reply other both.1 only now) (map_both plant.told (λ t o b. (o, b)) opens.3 breaks) there then_here)

  abbrev WantsAt : Option Reply → List Event → List Event → Type 0
  WantsAt reply opening own = is_some reply ≡ false → new.plant.stopped ≡ false → IfSome plant.told (λ t. WantsOnly terms t.trace (piece_of command plant.faults Closed Closed opening own reply))

  -- nothing of its own was done, from any lab
  broken_lab : (reply : Option Reply) (begun : Begins terms command plant.faults plant.told new.plant.told Closed Closed reply) → begun.own ≡ [] → IfSome reply TellsBroken
      → HandsLab terms plant.told (piece_of command plant.faults Closed Closed begun.opening begun.own reply) None new.controller
  broken_lab reply begun none tells = record {
    at = held_first;
    after = at_first;
    first = tt;
    goes = subst (λ (drill : Option Drill). GoesFrom drill terms (with_more (trace_in plant.told) begun.opening) (piece_of command plant.faults Closed Closed begun.opening begun.own reply) held_first at_first) (sym no_drill)
        (inr (record { closed = refl; nothing = none; shut = refl; tells = tells }));
    last = none_there new.plant new.controller (λ c. held_of c ≡ held_after (piece_of command plant.faults Closed Closed begun.opening begun.own reply) held_first at_first) goes_on.stands;
  }

  abbrev made : (reply : Option Reply) (begun : Begins terms command plant.faults plant.told new.plant.told Closed Closed reply) → (closes_if reply ≡ true → Rose plant.faults.disk new.plant.faults.disk) → blames_if reply ≡ false → (is_some reply ≡ true → new.plant.stopped ≡ false)
      → WantsAt reply begun.opening begun.own → begun.own ≡ [] → IfSome reply TellsBroken → Made terms command old new Closed Closed reply
  made reply begun disk blameless runs wants none tells = record { begun = begun; labs = broken_lab reply begun none tells; later = later; disk = disk; device = λ blamed. absurd (cc (blameless, blamed)); here = λ blamed. absurd (cc (blames_none reply blameless, blamed)); opened = opened_none (name_of command) reply [] plant.faults.devices; shut = λ shut. refl; runs = λ some was. runs some; goes_on = λ some. goes_on; wants = wants }

  abbrev silent_end : new.plant.told ≡ mid → WantsAt None steps [] → Made terms command old new Closed Closed None
  silent_end same wants = made None (begins_cut None refl same (λ some. absurd (cc some)) (some_weaker plant.told _ _ (λ t o. unanswered refl) opens.3)) (λ shut. absurd (cc shut)) refl (λ some. absurd (cc some)) wants refl tt

  -- memory was wanting, or the sides are no journal
  only_read : (trace : List Event) → OpenSteps trace opens.0 opens.1 (2 ^ 32) (Err fault) → opens.1 ≡ [] → WantsOnly terms trace (piece_of command plant.faults Closed Closed steps [] None)
  only_read trace o none = in_reading (ap has_command (ap (λ l. opens.0 ++ l) none ∙ append-nil opens.0) ∙ o.reads.no_command) refl

  wants_memory : fault ≡ openings.Memory → WantsAt None steps []
  wants_memory is none runs = some_weaker plant.told _ _ (λ t o. by t.trace o (subst (λ f. OpenEnds t.trace opens.0 opens.1 (2 ^ 32) (Err f)) is o.ends)) opens.3
    where
      by : (trace : List Event) → OpenSteps trace opens.0 opens.1 (2 ^ 32) (Err fault) → OpenEnds trace opens.0 opens.1 (2 ^ 32) (Err openings.Memory) → WantsOnly terms trace (piece_of command plant.faults Closed Closed steps [] None)
      by trace o (inl read) = only_read trace o read.0
      by trace o (inr (inl m)) = in_settling m.start m.lab opens.0 opens.1 ((stood_alike the_texts _ _ _ _ m.start o.reads.alike).0 m.read.lab) refl o.reads.no_command m.read.no_miss (no_start opens.0 o.reads.no_outer) m.some refl
      by trace o (inr (inr never)) = absurd never

  wants_bad : (side : Side) (at : ℕ) → fault ≡ openings.Bad side at → WantsAt None steps []
  wants_bad side at is none runs = some_weaker plant.told _ _ (λ t o. by t.trace o (subst (λ f. OpenEnds t.trace opens.0 opens.1 (2 ^ 32) (Err f)) is o.ends)) opens.3
    where
      by : (trace : List Event) → OpenSteps trace opens.0 opens.1 (2 ^ 32) (Err fault) → OpenEnds trace opens.0 opens.1 (2 ^ 32) (Err (openings.Bad side at)) → WantsOnly terms trace (piece_of command plant.faults Closed Closed steps [] None)
      by trace o (inl read) = only_read trace o read.0
      by trace o (inr (inl never)) = absurd never
      by trace o (inr (inr never)) = absurd never

  in_reply : (reply : Reply) → Made terms command old new Closed Closed (Some reply) → Ends terms command old new Closed (Ok reply)
  in_reply reply it = (Closed, it)

  down_end : fault ≡ openings.Plant → new.plant.told ≡ mid → Rose plant.faults.disk new.plant.faults.disk → new.plant.stopped ≡ false → Ends terms command old new Closed (Ok replies.Down)
  down_end is same missed runs =
      in_reply replies.Down (made (Some replies.Down) (begins_cut (Some replies.Down) refl same (λ some. is)
      (map_both plant.told (λ t o readable. failed (nothing_outer terms t.trace command plant.faults no_drill opens.0 opens.1 fault o readable) (missed_in terms t.trace command plant.faults no_drill opens.0 opens.1 fault o readable is) refl) opens.3 there))
      (λ shut. missed) refl (λ some. runs) (λ none. absurd (cc none)) refl tt)

  again_end : fault ≡ openings.Stopped → (reply : Reply) → Starts mid new.plant.told (Ok reply) → new.plant.stopped ≡ false → Ends terms command old new Closed (Ok reply)
  again_end is reply (told, (a, b, again, possible)) runs =
      let opening = steps ++ Restarted a b ∷ [] in
      subst (λ r. Ends terms command old new Closed (Ok r)) (sym told)
      (in_reply replies.Stopped (made (Some replies.Stopped) (begins_so terms command plant.faults no_drill plant.told new.plant.told Closed Closed opening [] (Some replies.Stopped)
      (again ∙ ap (λ o. with_steps o (Restarted a b ∷ [])) opens.2 ∙ with_steps-append plant.told steps (Restarted a b ∷ []) ∙ ap (λ l. with_steps plant.told l) (sym (append-nil opening)))
      (map_three plant.told (λ t o readable now. again_piece terms t.trace command plant.faults no_drill opens.0 opens.1 (subst (λ f. OpenSteps t.trace opens.0 opens.1 (2 ^ 32) (Err f)) is o) readable a b now) opens.3 there
      (carried plant.told mid steps opens.2 (λ l. ArePossible l a b) possible)))
      (λ shut. absurd (cc shut)) refl (λ some. runs) (λ none. absurd (cc none)) refl tt))

  -- the sides are no journal
  none_end : (side : Side) (at : ℕ) → fault ≡ openings.Bad side at → new.plant.told ≡ mid → new.plant.stopped ≡ false → FoundNone terms command old new Closed side at
  none_end side at is same runs = record {
    made = silent_end same (wants_bad side at is);
    no_drill = no_drill;
    closed = refl;
    finds = some_weaker plant.told _ _ (λ t o. by t.trace (subst (λ f. OpenEnds t.trace opens.0 opens.1 (2 ^ 32) (Err f)) is o.ends)) opens.3;
    runs = runs;
  }
    where
      by : (trace : List Event) → OpenEnds trace opens.0 opens.1 (2 ^ 32) (Err (openings.Bad side at)) → FindsNone trace (piece_of command plant.faults Closed Closed steps [] None) side at
      by trace (inr (inl never)) = absurd never
      by trace (inr (inr never)) = absurd never
      by trace (inl (none, found)) =
          let all : opens.0 ≡ steps = sym (append-nil opens.0) ∙ ap (λ l. opens.0 ++ l) (sym none) in
          record {
            no_drill = no_drill;
            closed = refl;
            no_journal = found.no_journal;
            synced = sym all ∙ found.synced;
            nothing = refl;
            no_reply = refl;
            as_before = λ s. subst (λ l. (disk s (trace ++ l)).reads ≡ (disk s trace).reads) (all ∙ sym (append-nil steps)) (found.as_before s);
          }

  -- by its fault
  stopped_end : fault ≡ openings.Stopped → (result : Result Reply CommandFault) → Starts mid new.plant.told result → (is_some (reply_if result) ≡ true → new.plant.stopped ≡ false) → (is_some (reply_if result) ≡ false → new.plant.stopped ≡ true) → Ends terms command old new Closed result
  stopped_end is (Ok reply) starts runs halts = again_end is reply starts (runs refl)
  stopped_end is (Err other) starts runs halts = subst (λ f. Ends terms command old new Closed (Err f)) (sym starts.0) (silent_end starts.1 (λ none going. absurd (cc (halts refl, going))))

  pub ends_unopened : (result : Result Reply CommandFault) → Unopened fault mid new.plant.told result → (fault ≡ openings.Plant → Rose plant.faults.disk new.plant.faults.disk) → (is_some (reply_if result) ≡ true → new.plant.stopped ≡ false)
      → ((side : Side) (at : ℕ) → result ≡ Err (command_faults.JournalBad side at) → new.plant.stopped ≡ false) → (fault ≡ openings.Stopped → is_some (reply_if result) ≡ false → new.plant.stopped ≡ true) → Ends terms command old new Closed result
  ends_unopened result un missed runs bad halts = by fault refl un
    where
      by : (f : OpenFault) → fault ≡ f → Unopened f mid new.plant.told result → Ends terms command old new Closed result
      by openings.Plant is so = subst (λ r. Ends terms command old new Closed r) (sym so.0) (down_end is so.1 (missed is) (runs (ap (λ r. is_some (reply_if r)) so.0)))
      by openings.Stopped is so = stopped_end is result so runs (halts is)
      by (openings.Bad side at) is so = subst (λ r. Ends terms command old new Closed r) (sym so.0) (none_end side at is so.1 (bad side at so.0))
      by openings.Memory is so = subst (λ r. Ends terms command old new Closed r) (sym so.0) (silent_end so.1 (wants_memory is))

-- WHATEVER AN OPEN CONTROLLER MADE, with the counts of faults and what is kept
pub ends_of : (terms : Terms) (command : Command) (old new : Moment) (from to : Session) (result : Result Reply CommandFault) (begun : Begins terms command old.plant.faults old.plant.told new.plant.told from to (reply_if result))
    → HandsLab terms old.plant.told (piece_of command old.plant.faults from to begun.opening begun.own (reply_if result)) old.controller new.controller → (stays_open (reply_if result) ≡ false → to ≡ Closed)
    → Later old.plant.faults new.plant.faults → (closes_if (reply_if result) ≡ true → Rose old.plant.faults.disk new.plant.faults.disk)
    → (blames_if (reply_if result) ≡ true → Rose (counted_from (opens_of from) (name_of command) old.plant.faults.devices) new.plant.faults.devices) → (blames_now_if (reply_if result) ≡ true → Rose old.plant.faults.devices new.plant.faults.devices)
    → AreOpenedBy (name_of command) (reply_if result) (opens_of from) (opens_of to) old.plant.faults.devices
    → (is_some (reply_if result) ≡ true → old.plant.stopped ≡ false → new.plant.stopped ≡ false) → OnErr result (result ≡ Err command_faults.Memory) → (is_some (reply_if result) ≡ true → HasSession new to)
    → (is_some (reply_if result) ≡ false → new.plant.stopped ≡ false → IfSome old.plant.told (λ t. WantsOnly terms t.trace (piece_of command old.plant.faults from to begun.opening begun.own (reply_if result)))) → Ends terms command old new from result
ends_of terms command old new from to (Ok reply) begun labs closed later down device here since runs memory goes_on wants = (to, record { begun = begun; labs = labs; later = later; disk = down; device = device; here = here; opened = since; shut = closed; runs = runs; goes_on = goes_on; wants = wants })
ends_of terms command old new from to (Err fault) begun labs closed later down device here since runs memory goes_on wants =
    subst (λ r. Ends terms command old new from r) (sym memory)
    (subst (λ s. Made terms command old new from s None) (closed refl) (record { begun = begun; labs = labs; later = later; disk = down; device = device; here = here; opened = since; shut = closed; runs = runs; goes_on = goes_on; wants = wants }))

-- the session of a controller that is there, and of none
pub open_session : (plant : Seen) (k : Option Control) (c : Control) (from : Session) → k ≡ Some c → StandsAt plant k from → (swaps : List OpenSwap) × (from ≡ Open swaps) × IsOpen plant c swaps
open_session plant k c from is at = by from (subst (λ k. StandsAt plant k from) is at)
  where
    by : (from : Session) → StandsAt plant (Some c) from → (swaps : List OpenSwap) × (from ≡ Open swaps) × IsOpen plant c swaps
    by Closed at = absurd at
    by (Open swaps) at = (swaps, refl, at)

pub closed_session : (plant : Seen) (k : Option Control) (from : Session) → k ≡ None → StandsAt plant k from → from ≡ Closed
closed_session plant k from is at = by from (subst (λ k. StandsAt plant k from) is at)
  where
    by : (from : Session) → StandsAt plant None from → from ≡ Closed
    by Closed at = refl
    by (Open swaps) at = absurd at

pub may_open : (plant : Seen) (k : Option Control) (c : Control) → k ≡ Some c → MayGoOn (record { plant = plant; controller = k }) → MayOpen plant c
may_open plant k c is goes = let s = open_session plant k c goes.0 is goes.1.stands in (s.0, s.2)

pub closed_from : (terms : Terms) (command : Command) (old new : Moment) (from : Session) (result : Result Reply CommandFault) → old.controller ≡ None → HasSession old from → Ends terms command old new Closed result → Ends terms command old new from result
closed_from terms command old new from result is goes ends = subst (λ s. Ends terms command old new s result) (sym (closed_session old.plant old.controller from is goes.stands)) ends

-- A COMMAND OF AN OPEN CONTROLLER, that was open before
pub ends_open : (terms : Terms) (command : Command) → drill_of command ≡ None → (old new : Moment) (c : Control) (result : Result Reply CommandFault) (from : Session) → old.controller ≡ Some c → HasSession old from
    → ((mark : Faults) (swaps : List OpenSwap) → IsMarkAt mark old.plant → IsOpen old.plant c swaps → Makes terms mark command old.plant c swaps new (reply_if result)) → Later old.plant.faults new.plant.faults
    → (closes_if (reply_if result) ≡ true → Rose old.plant.faults.disk new.plant.faults.disk) → (is_some (reply_if result) ≡ true → old.plant.stopped ≡ false → new.plant.stopped ≡ false) → OnErr result (result ≡ Err command_faults.Memory)
    → Ends terms command old new from result
unfolding begins_open
ends_open terms command no_drill old new c result from is goes makes later disk runs memory =
    let s = open_session old.plant old.controller c from is goes.stands in
    let m = makes old.plant.faults s.0 (omega arith) s.2 in
    subst (λ f. Ends terms command old new f result) (sym s.1)
    (ends_of terms command old new (Open s.0) m.to result (begins_open terms command old.plant.faults no_drill old.plant new c s.0 (reply_if result) s.2 m)
    (record {
      at = held_of c;
      after = m.own.3.0;
      first = subst (λ (k : Option Control). IfSome k (λ x. held_of c ≡ held_of x)) (sym is) refl;
      goes = subst (λ (drill : Option Drill). GoesFrom drill terms (with_more (trace_in old.plant.told) []) (piece_of command old.plant.faults (Open s.0) m.to [] m.own.0 (reply_if result)) (held_of c) m.own.3.0) (sym no_drill)
          (inl (subst (λ t. OwnStep terms t (piece_of command old.plant.faults (Open s.0) m.to [] m.own.0 (reply_if result)) (held_of c) m.own.3.0) (sym (with_more-nil (trace_in old.plant.told))) m.own.3.1));
      last = m.held;
    }) m.closed later disk m.device m.here m.opened runs memory (λ some. m.goes_on)
    (λ none going. map_both old.plant.told (λ t stands own. goes_after c.lab c.lab (length_of c.journal) (standing_lab t.trace c stands) refl
    (subst (λ l. IsLengthAt l (length_of c.journal)) (sym (append-nil t.trace)) (standing_length t.trace c stands))
    (subst (λ l. WantsAfter terms.rule command l (record { length = length_of c.journal; limit = 2 ^ 32; devices = old.plant.faults.devices }) c.lab s.0 m.own.0) (sym (append-nil t.trace))
    (subst (λ n. WantsAfter terms.rule command t.trace (record { length = length_of c.journal; limit = n; devices = old.plant.faults.devices }) c.lab s.0 m.own.0) s.2.limit own))) s.2.works.working.work.stands (m.wants none going)))

-- or was opened for it
pub ends_opened : (terms : Terms) (command : Command) → drill_of command ≡ None → (old new : Moment) (mid : Seen) (c : Control) (result : Result Reply CommandFault) (from : Session) → old.controller ≡ None → HasSession old from → OpenTold old.plant.told mid.told (2 ^ 32) (Ok c)
    → IfSome old.plant.told (λ t. AsRead t.trace) → WorksWith mid c [] → limit_of c.journal ≡ 2 ^ 32 → IsLater old.plant mid
    → ((mark : Faults) (swaps : List OpenSwap) → IsMarkAt mark mid → IsOpen mid c swaps → Makes terms mark command mid c swaps new (reply_if result)) → Later old.plant.faults new.plant.faults
    → (closes_if (reply_if result) ≡ true → Rose old.plant.faults.disk new.plant.faults.disk) → (is_some (reply_if result) ≡ true → old.plant.stopped ≡ false → new.plant.stopped ≡ false) → OnErr result (result ≡ Err command_faults.Memory)
    → Ends terms command old new from result
unfolding begins_opened
ends_opened terms command no_drill old new mid c result from is goes told there works limit passed makes later disk runs memory =
    let m = makes old.plant.faults [] passed.devices (record { works = works; limit = limit }) in
    closed_from terms command old new from result is goes
    (ends_of terms command old new Closed m.to result (begins_opened terms command old.plant.faults no_drill old.plant.told mid new c (reply_if result) told there works.working.work limit m)
    (record {
      at = held_of c;
      after = m.own.3.0;
      first = subst (λ (k : Option Control). IfSome k (λ x. held_of c ≡ held_of x)) (sym is) tt;
      goes = subst (λ (drill : Option Drill). GoesFrom drill terms (with_more (trace_in old.plant.told) (told.0 ++ told.1)) (piece_of command old.plant.faults Closed m.to (told.0 ++ told.1) m.own.0 (reply_if result)) (held_of c) m.own.3.0) (sym no_drill)
          (inl (subst (λ t. OwnStep terms t (piece_of command old.plant.faults Closed m.to (told.0 ++ told.1) m.own.0 (reply_if result)) (held_of c) m.own.3.0) (ap trace_in told.2 ∙ trace_steps old.plant.told (told.0 ++ told.1))
          (own_as terms (trace_in mid.told) command old.plant.faults (Open []) Closed m.to [] (told.0 ++ told.1) m.own.0 (reply_if result) (held_of c) m.own.3.0 refl m.own.3.1)));
      last = m.held;
    }) m.closed later disk m.device (λ blamed. omega (arith, passed.devices, m.here blamed)) m.opened runs memory (λ some. m.goes_on)
    (λ none going. map_three old.plant.told (λ t o readable both.
    let w = is_opened t.trace told.0 told.1 c o both.0 limit readable in
    goes_after w.start c.lab (length_of c.journal) w.first (w.opens refl) (standing_length (t.trace ++ (told.0 ++ told.1)) c both.0) both.1) told.3 there
    (carried old.plant.told mid.told (told.0 ++ told.1) told.2 (λ l. Stands the_texts l c.journal c.lab × WantsAfter terms.rule command l (record { length = length_of c.journal; limit = 2 ^ 32; devices = old.plant.faults.devices }) c.lab [] m.own.0)
    (map_both mid.told (λ t stands own. (stands, subst (λ n. WantsAfter terms.rule command t.trace (record { length = length_of c.journal; limit = n; devices = old.plant.faults.devices }) c.lab [] m.own.0) limit own)) works.working.work.stands (m.wants none going)))))
