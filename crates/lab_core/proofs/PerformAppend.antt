-- The state after an append of the controller, however it ended.
use Rattle.std.proofs.Common.{◌≡◌, ◌≤◌, ◌+◌, ◌^◌, ◌⊎◌, inl, inr, ℕ, Bool, true, false, nat_le, List, [], ◌∷◌, ◌++◌, length, Option, Some, None, IfSome, OnOk, Result, Ok, Err, refl, sym, ap, ◌∙◌, subst, append_assoc, arith}
use Rattle.std.proofs.lemmas.Bool.{leb-true}
use Rattle.std.proofs.lemmas.List.{append-nil}
use Rattle.std.proofs.lemmas.List.Sums.{count_by-le-length}
use Rattle.plant.specs.Events.{Event, Restarted}
use Rattle.plant.specs.Told.{Told}
use Rattle.plant.specs.Worlds.{world_of}
use Rattle.journal_rec.specs.Payloads.{IsRecord, IsShort, IsWay, tags_of_way, tags_of, HasFields}
use Rattle.journal_rec.specs.declared.record.Record.{Record}
use Rattle.journal_rec.specs.declared.record.Record.TheVariants.{Lab as LabRecord, Create, Delete, Begin, Commit, Abort, Create2}
use Rattle.journal_rec.specs.declared.record.Way.{Way}
use Rattle.journal_rec.specs.declared.record.Way.TheVariants.{In as WayIn, Out as WayOut, Change as WayChange, Change2 as WayChange2}
use Rattle.journal_model.specs.Appends.{added}
use Rattle.journal_model.specs.Journals.{size}
use Rattle.lab_model.specs.Sound.{is_moving}
use Rattle.records_model.specs.Labs.{LabState, Move, Follows, IsRightFor, Sane, at_first}
use Rattle.records_model.specs.Works.{IsSound, MayAppend}
use Rattle.records_model.proofs.LabLaws.{folds_push, follows_sane, says_once}
use Rattle.records_model.proofs.Starts.{room_accepted}
use Rattle.journal_disk.specs.Standing.{side_of, gate_of, length_of, limit_of, Ends}
use Rattle.journal_disk.specs.declared.fault.AppendFault.{AppendFault}
use Rattle.journal_disk.specs.declared.fault.AppendFault.TheVariants as appending
use Rattle.swap_turns.specs.Pieces.{has_outer, has_miss}
use Rattle.swap_turns.specs.Working.{StandForEither}
use Rattle.swap_turns.proofs.Endings.{ended_quiet, ended_missed}
use Rattle.lab_state.specs.Texts.{the_texts}
use Rattle.lab_state.proofs.Canonical.{texts_once}
use Rattle.script_text.specs.declared.reply.Reply.{Reply}
use Rattle.script_text.specs.declared.reply.Reply.TheVariants as replies
use Rattle.plant.specs.Seen.{Seen}
use Rattle.swap_txn.specs.Steps.{Stands as PlantStands, Writes}
use Rattle.swap_turns.specs.Causes.{IsLater}
use Rattle.swap_turns.specs.Closing.{Closes}
use Rattle.swap_turns.proofs.Appending.{steps_of, longer_by, stands_after, left_over}
use Rattle.swap_turns.proofs.Closing.{Images}
use Rattle.swap_turns.specs.Running.{OpenSwap as RunningSwap, AtWork, IsOpen, IsRunning, Stands}
use Rattle.swap_turns.proofs.Keeping.{record_keeps}
use Rattle.swap_mgr.proofs.GoingOn.{all_stay}
use Rattle.swap_txn.specs.declared.live.Live.{Live}
use Rattle.lab_base.specs.Lists.{Has}
use Rattle.lab_base.proofs.Tests.{never_both}
use Rattle.swap_turns.proofs.MovesAreSwaps.{moved_swaps}
use Rattle.swap_turns.proofs.Telling.{if_some_is, if_told}
use Rattle.lab_core.specs.Breaks.{Breaks, stopped, failed}
use Rattle.lab_core.specs.Controller.{Control, WorksWith}
use Rattle.lab_tasks.specs.Tasks.{Task, Append, CanAppend}
use Rattle.lab_judge.specs.Judge.{Is}
use Rattle.lab_core.specs.LabSteps.{has_space, IfSpace, Performs, Replies, Behind, missed, restarted, AppendEnds, whole, broken, Appends, does}
use Rattle.lab_core.specs.Obey.{start_of, Obeyed}
use Rattle.lab_core.specs.Perform.{append_answer}
use Rattle.lab_core.specs.Sessions.{OpenSwap, Setting, Session, Closed, Open, After, name_in}
use Rattle.lab_core.proofs.Obey.{RunsOn, as_open, calm_ends, closed_by, goes_on, halted, now_blames, replied, same_open, IsDone}
use Rattle.lab_core.proofs.OpenSwaps.{since_later}
use Rattle.lab_core.proofs.Others.{record_leaves}

-- a record is short enough to be written
few_tags : (way : Way) → IsWay way → length (tags_of_way way) ≤ 65535
few_tags (WayIn map tags) h = omega (arith, h.count)
few_tags WayOut h = omega arith
few_tags (WayChange top map tags) h = omega (arith, h.count)
few_tags (WayChange2 top map tags) h = omega (arith, h.count)

few_in : (r : Record) → HasFields r → length (tags_of r) ≤ 65535
few_in (LabRecord ptop) h = omega arith
few_in (Create exp top) h = omega arith
few_in (Create2 exp top) h = omega arith
few_in (Delete exp) h = omega arith
few_in (Begin exp way) h = few_tags way h.1
few_in (Commit exp) h = omega arith
few_in (Abort exp) h = omega arith

pub is_short : (r : Record) → IsRecord r → IsShort r
is_short r is = record { tags = omega (arith, few_in r is.fields); size = is.size }

-- the journal is as its last call left it
pub stands_of : (before : Seen) (c : Control) (opens : List OpenSwap) → WorksWith before c opens → PlantStands before.told c.journal
stands_of before c opens works = by before.told works.working.work.stands
  where
    by : (told : Option Told) → IfSome told (λ w. Stands the_texts w.trace c.journal c.lab) → PlantStands told c.journal
    by None stands = tt
    by (Some t) stands = (stands.records, stands.at)

-- NO SPACE for the first record of a task
pub full : (devices : ℕ) (before : Seen) (c : Control) (opens : List OpenSwap) (exp : Option (List ℕ)) (task : Task) (entry : Record) (bytes : List ℕ) (long : ℕ) → WorksWith before c opens
    → ((own : List Event) (after : After) → has_space (start_of devices c opens).set entry ≡ false → Replies c.lab opens (replies.FullJournal (length_of c.journal)) own after → Performs (start_of devices c opens).set c.lab opens task own after)
    → length bytes ≡ size entry → nat_le (length_of c.journal + length bytes + 10240) (limit_of c.journal) ≡ false → long ≡ length_of c.journal
    → Obeyed devices before before (Is (Ok task)) c c opens exp (Ok (replies.FullJournal long))
full devices before c opens exp task entry bytes long works does_so size_is no_space long_is =
    let full_so : has_space (start_of devices c opens).set entry ≡ false = sym (ap (λ (n : ℕ). nat_le (length_of c.journal + n + 10240) (limit_of c.journal)) size_is) ∙ no_space in
    subst (λ (n : ℕ). Obeyed devices before before (Is (Ok task)) c c opens exp (Ok (replies.FullJournal n))) (sym long_is)
    (replied devices before (Is (Ok task)) c opens exp (replies.FullJournal (length_of c.journal)) works (refl, refl, refl) (does (Ok task) refl (does_so [] _ full_so (record { nothing = refl; after_is = refl }))))

pub no_space : (set : Setting) (s : LabState) (opens : List OpenSwap) (entry : Record) (Done : Type 0) (own : List Event) (after : After) → has_space set entry ≡ false → Replies s opens (replies.FullJournal set.length) own after
    → IfSpace (has_space set entry) set.length s opens Done own after
no_space set s opens entry Done own after no' replies = subst (λ (b : Bool). IfSpace b set.length s opens Done own after) (sym no') replies

-- A RECORD that can follow, with space, was written so
module _ (devices : ℕ) (exp : Option (List ℕ)) (before now : Seen) (c new : Control) (opens : List OpenSwap) (entry : Record) (reply : Reply) (state : LabState) (can : CanAppend c.lab entry reply) (follows : Follows the_texts c.lab entry state) (space : has_space (start_of devices c opens).set entry ≡ true)
    (most : limit_of c.journal ≤ 2 ^ 32) (works : WorksWith before c opens) (same : new.swaps ≡ c.swaps) (answer : Result (Unit {0}) AppendFault) (writes : Writes entry before now c.journal new.journal answer) where
  abbrev own : List Event
  own = steps_of entry before now c.journal new.journal answer writes

  abbrev Judges : Result Task Reply → Type 0
  Judges = Is (Ok (Append entry reply))

  abbrev set : Setting
  set = (start_of devices c opens).set

  abbrev work : AtWork the_texts before.told c.journal c.lab
  work = works.working.work

  abbrev after_it : Reply → LabState → Session → After
  after_it told lab session = record { reply = Some told; lab = lab; session = session }

  room : length_of c.journal + size entry + 10240 ≤ limit_of c.journal
  room = leb-true _ _ space

  sane_then : Sane state
  sane_then = follows_sane the_texts c.lab entry state work.sane follows

  -- what the append is, by its end
  done_so : (steps : List Event) (after : After) → Appends c.lab opens entry reply steps after → Rattle.lab_core.specs.LabSteps.IsDoneBy Judges set c.lab opens steps after
  done_so steps after part = does (Ok (Append entry reply)) refl (subst (λ (b : Bool). IfSpace b set.length c.lab opens (Appends c.lab opens entry reply steps after) steps after) (sym space) part)

  append_so : (more steps : List Event) (after : After) → steps ≡ added (side_of c.journal) (gate_of c.journal) entry writes.appends.run ++ more → Behind (side_of c.journal) more → AppendEnds c.lab opens state reply writes.appends.run more steps after
      → Appends c.lab opens entry reply steps after
  append_so more steps after is behind ends = record {
    side = side_of c.journal;
    gate = gate_of c.journal;
    run = writes.appends.run;
    more = more;
    steps = is;
    behind = behind;
    move = follows.move;
    says = follows.says;
    state = state;
    moves = follows.gives;
    ends = ends;
  }

  -- over what a plant tells
  may_append : (w : Told) (x : Stands the_texts w.trace c.journal c.lab) → MayAppend the_texts w.trace x.records c.lab entry state
  may_append w x = record {
    is_record = can.is_record;
    follows = follows;
    ready = subst (λ (m : Move). IsRightFor c.lab (world_of w.trace) m) (says_once the_texts c.lab entry can.follows.move follows.move texts_once can.follows.says follows.says) (can.follows.ready (world_of w.trace));
    room = room_accepted x.records entry state sane_then (omega (arith, room, most, x.at.gate));
  }

  part : (w : Told) → before.told ≡ Some w → Stands the_texts w.trace c.journal c.lab → IsSound the_texts w.trace → IsSound the_texts (w.trace ++ own) × StandForEither the_texts (w.trace ++ own) c.lab state
  part w is x sound = left_over the_texts c.lab state entry before now c.journal new.journal answer writes w is x (λ _. may_append w x) sound

  sound : IfSome before.told (λ w. IsSound the_texts w.trace → IsSound the_texts (w.trace ++ own))
  sound = if_some_is before.told (λ w. Stands the_texts w.trace c.journal c.lab) (λ w. IsSound the_texts w.trace → IsSound the_texts (w.trace ++ own)) (λ w is x before. (part w is x before).0) work.stands

  later : IsLater before now
  later = record { disk = writes.later; devices = omega (arith, writes.devices) }

  -- THE WHOLE APPEND: the controller works
  at_work : (ok : Unit {0}) → answer ≡ Ok ok → AtWork the_texts now.told new.journal state
  at_work ok is =
      let longer : length_of new.journal ≡ length_of c.journal + size entry = subst (λ a. OnOk a (length_of new.journal ≡ length_of c.journal + size entry)) is writes.longer in
      record {
        sane = sane_then;
        swaps = moved_swaps c.lab.lab c.lab.experiments follows.move state work.swaps follows.gives;
        room = record {
          few = omega (arith, room, longer, writes.limit, sane_then.few, count_by-le-length is_moving state.experiments);
          limit = omega (arith, most, writes.limit);
        };
        stands = if_told before.told now.told own (λ l. Stands the_texts l new.journal state) writes.appends.trace
            (if_some_is before.told (λ w. Stands the_texts w.trace c.journal c.lab) (λ w. Stands the_texts (w.trace ++ own) new.journal state) (λ w is_told x.
            stands_after the_texts c.lab state entry before now c.journal new.journal answer writes w is_told x (λ _. may_append w x) ok is (folds_push the_texts at_first x.records entry c.lab state x.lab_of follows)) work.stands);
      }

  -- each open swap is so still
  stays : (ok : Unit {0}) → answer ≡ Ok ok → (q : RunningSwap) (x : Live) → Has works.pairs (q, x) → IsOpen c.lab q x → IsRunning the_texts before.told c.lab q → IsOpen state q x × IsRunning the_texts now.told state q
  stays ok is q x has opened running =
      let kept = record_leaves c.lab state entry follows.move q.swap work.sane.none can.no_end follows.says opened.moves follows.gives in
      record_keeps the_texts c.lab entry before now c.journal new.journal ok (subst (λ a. Writes entry before now c.journal new.journal a) is writes) q x opened running state kept.0 kept.1

  works_in : (ok : Unit {0}) → answer ≡ Ok ok → new.lab ≡ state → WorksWith now new opens
  works_in ok is lab = record {
    pairs = works.pairs;
    are = works.are;
    working = subst (λ (s : LabState). Rattle.swap_turns.specs.Running.Working the_texts now.told new.journal s works.pairs) (sym lab)
        (all_stay the_texts c.lab state works.pairs before now c.journal new.journal works.working (at_work ok is) (stays ok is));
    holds = subst (λ (l : List Live). Rattle.swap_mgr.specs.Managing.Holds l works.pairs) (sym same) works.holds;
    since = λ o has. since_later o before.faults.devices now.faults.devices later.devices (works.since o has);
  }

  ends_as : (a : Result (Unit {0}) AppendFault) → answer ≡ a → Ends (side_of c.journal) a writes.appends.run writes.appends.more
  ends_as a is = subst (λ a. Ends (side_of c.journal) a writes.appends.run writes.appends.more) is writes.appends.ends

  done : (ok : Unit {0}) → answer ≡ Ok ok → new.lab ≡ state → IsDone Judges (start_of devices c opens) own (Some reply) new.lab (Open opens)
  done ok is lab =
      let ends = ends_as (Ok ok) is in
      done_so own (after_it reply new.lab (Open opens)) (append_so writes.appends.more own (after_it reply new.lab (Open opens)) refl (Rattle.lab_core.specs.LabSteps.nothing ends.1) (whole ends.0 ends.1 (ap (λ (s : LabState). after_it reply s (Open opens)) lab)))

  -- A PART OF IT: the lab is that before the record, or that after it
  abbrev Either : List Event → LabState → Type 0
  Either steps lab = (lab ≡ c.lab) ⊎ (lab ≡ state)

  closes_either : Closes the_texts before.told own Either
  closes_either = record {
    after = c.lab;
    is = inl refl;
    images = if_some_is before.told (λ w. Stands the_texts w.trace c.journal c.lab) (λ w. Images the_texts w.trace own (Either own)) (λ w is x sound a b possible. elim ((part w is x sound).1 a b possible) [
      | inl stands ↦ (c.lab, stands, inl refl)
      | inr stands ↦ (state, stands, inr refl)
    ]) work.stands;
  }

  -- after which the plant was started again, or a call of the disk missed
  part_so : (told : Reply) (behind : List Event) → Behind (side_of c.journal) (writes.appends.more ++ behind) → Breaks (own ++ behind) (Some told) → (lab : LabState) → Either own lab → IsDone Judges (start_of devices c opens) (own ++ behind) (Some told) lab Closed
  part_so told behind last breaks lab either =
      done_so (own ++ behind) (after_it told lab Closed)
      (append_so (writes.appends.more ++ behind) (own ++ behind) (after_it told lab Closed) (append_assoc (added (side_of c.journal) (gate_of c.journal) entry writes.appends.run) writes.appends.more behind) last (broken breaks refl either refl))

  quiet : has_outer own ≡ false
  quiet = (ended_quiet (side_of c.journal) (gate_of c.journal) entry writes.appends.run writes.appends.more answer writes.appends.ends).1

  runs : (a : Result (Unit {0}) AppendFault) → answer ≡ a → (a ≡ Err appending.Stopped → ⊥) → RunsOn before now
  runs a is not = λ _ stop. not (sym is ∙ writes.halts.1 stop)

  -- WHATEVER IT ANSWERED
  pub left : (a : Result (Unit {0}) AppendFault) → answer ≡ a → OnOk a (new.lab ≡ state) → Obeyed devices before now Judges c new opens exp (append_answer reply a)
  left (Ok ok) is lab =
      goes_on devices before now Judges c new opens opens exp own writes.appends.trace sound later writes.limit reply can.mild.0 (as_open exp (Some reply) opens opens devices (λ o has. calm_ends reply (name_in o) can.mild.2) (same_open opens)) (done ok is lab) (works_in ok is lab) (longer_by entry before now c.journal new.journal answer writes ok is)
      (λ blaming. never_both _ blaming can.mild.1) (λ blaming. never_both _ (now_blames reply blaming) can.mild.1) (runs (Ok ok) is (λ h. cc h))
  left (Err appending.Plant) is lab =
      let ends = ends_as (Err appending.Plant) is in
      let all : own ++ [] ≡ own = append-nil own in
      let miss : has_miss own ≡ true = ended_missed (side_of c.journal) (gate_of c.journal) entry writes.appends.run writes.appends.more true (ap has_miss ends) in
      closed_by devices before now Judges c new opens opens exp own writes.appends.trace sound later writes.limit (same_open opens) replies.Down refl refl Either closes_either
      (part_so replies.Down [] (missed (append-nil writes.appends.more ∙ ends)) (failed (ap has_outer all ∙ quiet) (ap has_miss all ∙ miss) refl)) (writes.cause is) (runs (Err appending.Plant) is (λ h. cc h))
  left (Err appending.Stopped) is lab =
      halted devices before now Judges c new opens opens exp own writes.appends.trace sound later writes.limit (same_open opens) Either closes_either
      (λ lab either a b. part_so replies.Stopped (Restarted a b ∷ []) (restarted a b (ap (λ l. l ++ Restarted a b ∷ []) (ends_as (Err appending.Stopped) is))) (stopped (record { front = own; a = a; b = b; is = refl; once = quiet }) refl) lab either) (λ _. writes.halts.0 is)
  left (Err (appending.Full long much)) is lab = absurd (writes.fits long much is)
