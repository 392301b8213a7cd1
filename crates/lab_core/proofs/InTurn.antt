-- Link events of one experiment, one after another: what one more of them leaves.
use Rattle.std.specs.Prelude.{if◌then◌else◌}
use Rattle.std.proofs.Common.{◌≡◌, ◌⊎◌, inl, inr, ◌≤◌, ◌+◌, ℕ, true, false, not, List, [], ◌∷◌, drop, Option, Some, None, Result, Ok, Err, refl, sym, ap, ◌∙◌, subst, arith}
use Rattle.std.specs.Str.{bytes_eq}
use Rattle.std.proofs.lemmas.Bool.{cases_Bool}
use Rattle.std.proofs.lemmas.Slice.Eq.{bytes_eq-Decides}
use Rattle.lab_base.specs.Lists.{Has}
use Rattle.lab_base.specs.Counts.{Rose}
use Rattle.plant.specs.Seen.{Seen}
use Rattle.virt_topo.specs.declared.wiring.Wiring.{Wiring}
use Rattle.ns_events.specs.declared.event.Event.{Event as LinkEvent}
use Rattle.script_text.specs.Replies.{blames_device, closes, played_of}
use Rattle.script_text.specs.declared.reply.Reply.{Reply}
use Rattle.script_text.specs.declared.reply.Reply.TheVariants as replies
use Rattle.lab_core.specs.declared.fault.CoreFault.{CoreFault}
use Rattle.lab_core.specs.declared.fault.CoreFault.TheVariants as faults
use Rattle.lab_core.specs.Coming.{Origin}
use Rattle.lab_core.specs.Controller.{CanWork, Control, WorksWith}
use Rattle.lab_core.specs.InTurn.{EndsEvent, IsPart, ObeysEvent, ObeysEvents, TellsWhole, is_in, origin_of, stuck_by_journal}
use Rattle.lab_tasks.specs.Tasks.{Recover}
use Rattle.lab_core.specs.Obey.{Obeyed}
use Rattle.lab_core.specs.PlayList.{JudgedEvent, after_event, events_in_turn}
use Rattle.lab_tasks.specs.Playing.{Playing, first_place}
use Rattle.lab_core.specs.Sessions.{OpenSwap, blames_now, counted_from, devices_if, name_in, open_at}
use Rattle.lab_core.proofs.Composing.{begins, comes_on, comes_shut, comes_to_stop, comes_to_want, finished, wants}
use Rattle.lab_core.proofs.Events.{event_fits}
use Rattle.lab_core.proofs.HowFar.{HasComeTo, TellsAll, ComesTo, WereOpen}

-- ---- HOW AN EVENT ENDED
pub fault_ends : (exp : List ℕ) (played : ℕ) (Leaves : Result Reply CoreFault → Type 0) (fault : CoreFault) → Leaves (Err fault) → EndsEvent exp played Leaves (Err fault)
fault_ends exp played Leaves faults.Stopped h = h
fault_ends exp played Leaves faults.Memory h = inl h

pub told_ends : (exp : List ℕ) (played : ℕ) (Leaves : Result Reply CoreFault → Type 0) (reply : Reply) → IsPart exp reply → Leaves (Ok reply) → (whole : Option Reply) → TellsWhole exp played reply (Ok whole) → EndsEvent exp played Leaves (Ok whole)
told_ends exp played Leaves reply part left None told = (reply, told, part, left)
told_ends exp played Leaves reply part left (Some whole) told = (reply, told.0, part, told.1, left)

-- what is told of a reply: one that closes is that of the journal
pub shut_told : (exp : List ℕ) (played : ℕ) (reply whole : Reply) → IsPart exp reply → closes reply ≡ true → whole ≡ played_of exp played (Some (stuck_by_journal exp)) → TellsWhole exp played reply (Ok (Some whole))
shut_told exp played reply whole part shut is = let same = part.shuts shut in (ap is_in same, is ∙ ap (λ (r : Reply). played_of exp played (Some r)) (sym same))

-- ---- COUNTS of an experiment that has no open swap
is_none_at : (name : List ℕ) (opens : List OpenSwap) (o : OpenSwap) → open_at name opens ≡ None → Has opens o → name_in o ≡ name → ⊥
is_none_at name [] o none has is = has
is_none_at name (q ∷ opens) o none has is = elim (cases_Bool (bytes_eq (name_in q) name)) [
  | inl yes' ↦ let some : Some q ≡ None = subst (λ b. (if b then Some q else open_at name opens) ≡ None) yes' none in absurd (cc some)
  | inr no' ↦ elim has [
    | inl here ↦ let yes' : bytes_eq (name_in q) name ≡ true = (bytes_eq-Decides (name_in q) name).1 (ap name_in here ∙ is) in let both : true ≡ false = sym yes' ∙ no' in absurd (cc both)
    | inr there ↦ is_none_at name opens o (subst (λ b. (if b then Some q else open_at name opens) ≡ None) no' none) there is
  ]
]

one_at : (name : List ℕ) (opens : List OpenSwap) (o : OpenSwap) → open_at name opens ≡ Some o → Has opens o × (name_in o ≡ name)
one_at name [] o is = let none : None ≡ Some o = is in absurd (cc none)
one_at name (q ∷ opens) o is = elim (cases_Bool (bytes_eq (name_in q) name)) [
  | inl yes' ↦ let same : Some q ≡ Some o = subst (λ b. (if b then Some q else open_at name opens) ≡ Some o) yes' is in let here : q ≡ o = cc same in (inl here, ap name_in (sym here) ∙ (bytes_eq-Decides (name_in q) name).0 yes')
  | inr no' ↦ let there = one_at name opens o (subst (λ b. (if b then Some q else open_at name opens) ≡ Some o) no' is) in (inr there.0, there.1)
]

idle_counts : (name : List ℕ) (opens to : List OpenSwap) (devices : ℕ) → open_at name opens ≡ None → WereOpen opens to → counted_from to (Some name) devices ≡ devices
idle_counts name opens to devices none opened = by (open_at name to) refl
  where
    by : (found : Option OpenSwap) → open_at name to ≡ found → devices_if found devices ≡ devices
    by None is = refl
    by (Some o) is = let at = one_at name to o is in let q = opened o at.0 in absurd (is_none_at name opens q.0 none q.1 (q.2 ∙ at.1))

-- ---- WHAT THE WHOLE TELLS
module _ (exp : List ℕ) where
  abbrev pub going : Wiring → List LinkEvent → ℕ → Playing
  going text left played = record { text = text; left = left; played = played; ended = None }

  abbrev behind : Playing → Reply → Playing
  behind at reply = after_event exp at reply

  abbrev whole : Playing → Reply
  whole at = played_of exp at.played at.ended

  in_not : {X : Type 0} → true ≡ false → X
  in_not is = absurd (cc is)

  one_blames : (at : Playing) (reply : Reply) → blames_device (whole (behind at reply)) ≡ true → (blames_device (whole at) ≡ true) ⊎ (blames_device reply ≡ true)
  one_blames at (replies.In name) is = inl is
  one_blames at reply is = inr is

  one_here : (at : Playing) (reply : Reply) → blames_now (whole (behind at reply)) ≡ true → (blames_now (whole at) ≡ true) ⊎ (blames_device reply ≡ true)
  one_here at (replies.In name) is = inl is
  one_here at reply is = inr is

  one_shuts : (at : Playing) (reply : Reply) → closes reply ≡ true → closes (whole (behind at reply)) ≡ true
  one_shuts at (replies.In name) is = absurd (cc is)
  one_shuts at reply is = is

  tells : TellsAll (events_in_turn exp)
  tells = record { blames = one_blames; here = one_here; shuts = one_shuts; ends = λ at. refl }

  -- a reply that isn't `in` ends it, and is told; `in` goes on
  ended_by : (at : Playing) (reply : Reply) → is_in reply ≡ false → behind at reply ≡ record at { left = drop 1 at.left; ended = Some reply }
  ended_by at (replies.In name) is = in_not is
  ended_by at reply is = refl

  on_by : (text : Wiring) (event : LinkEvent) (left : List LinkEvent) (played : ℕ) (reply : Reply) → is_in reply ≡ true → (behind (going text (event ∷ left) played) reply ≡ going text left (played + 1)) × (closes reply ≡ false)
  on_by text event left played (replies.In name) is = (refl, refl)
  on_by text event left played reply is = in_not (sym is)

  -- ONE EVENT MORE
  module _ (start : Playing) (before now then' : Seen) (old new newer : Control) (text : Wiring) (event : LinkEvent) (left : List LinkEvent) (played : ℕ) (comes : ComesTo exp start before now old new (going text (event ∷ left) played)) where
    abbrev at : Playing
    at = going text (event ∷ left) played

    abbrev Event : Result Reply CoreFault → Type 0
    Event result = ObeysEvent exp text event now then' new newer result

    abbrev All : List OpenSwap → ℕ → Result Reply CoreFault → Type 0
    All opens devices result = ObeysEvents exp start devices before then' old newer opens result

    module _ (opens : List OpenSwap) (devices : ℕ) (within : devices ≤ before.faults.devices) (works : WorksWith before old opens) (none : open_at exp opens ≡ None) where
      abbrev o : Origin Playing
      o = origin_of before old opens start devices

      h : HasComeTo (events_in_turn exp) o (Some exp) now new at
      h = comes opens devices within works none

      abbrev Sub : Result Reply CoreFault → Type 0
      Sub result = Obeyed devices now then' (JudgedEvent exp text event new.lab h.to) new newer h.to (Some exp) result

      sub : (result : Result Reply CoreFault) → Event result → Sub result
      sub result is = let later : before.faults.devices ≤ now.faults.devices = h.devices in is h.to devices (omega (arith, within, later)) h.works

      counts : (count : ℕ) → counted_from h.to (Some exp) count ≡ count
      counts count = idle_counts exp opens h.to count none h.opened

      own_count : counted_from opens (Some exp) devices ≡ devices
      own_count = idle_counts exp opens opens devices none (λ o has. (o, has, refl, refl))

      module _ (reply : Reply) (is : Event (Ok reply)) (part : IsPart exp reply) where
        blames : blames_device reply ≡ true → Rose (counted_from opens (Some exp) devices) then'.faults.devices
        blames blaming = subst (λ (n : ℕ). Rose n then'.faults.devices) (counts devices ∙ sym own_count) ((sub (Ok reply) is).device blaming)

        blames_here : blames_device reply ≡ true → Rose now.faults.devices then'.faults.devices
        blames_here blaming = let here = is h.to now.faults.devices (omega arith) h.works in subst (λ (n : ℕ). Rose n then'.faults.devices) (counts now.faults.devices) (here.device blaming)

        one_on : closes reply ≡ false → HasComeTo (events_in_turn exp) o (Some exp) then' newer (behind at reply)
        one_on goes = comes_on (events_in_turn exp) o (Some exp) now new at h refl then' newer (Some exp) tells reply goes part.ended (sub (Ok reply) is) blames blames_here

        one_ends : is_in reply ≡ false → All opens devices (Ok (played_of exp played (Some reply)))
        one_ends no' =
            let told : whole (behind at reply) ≡ played_of exp played (Some reply) = ap whole (ended_by at reply no') in
            elim (cases_Bool (closes reply)) [
              | inl shut ↦ subst (λ (r : Reply). All opens devices (Ok r)) told (comes_shut (events_in_turn exp) o (Some exp) now new at h refl then' newer (Some exp) tells reply shut (sub (Ok reply) is) blames blames_here)
              | inr goes ↦ subst (λ (r : Reply). All opens devices (Ok r)) told
                  (finished (events_in_turn exp) o (Some exp) tells then' newer (behind at reply) (one_on goes) (ap (events_in_turn exp).is_over (ended_by at reply no')) (ap closes told ∙ goes))
            ]

      one_stops : Event (Err faults.Stopped) → All opens devices (Err faults.Stopped)
      one_stops is = comes_to_stop (events_in_turn exp) o (Some exp) now new at h refl then' newer (Some exp) (sub (Err faults.Stopped) is)

      one_wants : Event (Err faults.Memory) → All opens devices (Err faults.Memory)
      one_wants is =
          comes_to_want (events_in_turn exp) o (Some exp) now new at h refl then' newer (Some exp) (λ judged. (event_fits new.lab h.to exp text event (Ok Recover) judged).1) (sub (Err faults.Memory) is)

    -- and whatever swaps were open
    abbrev ForAll : Result Reply CoreFault → Type 0
    ForAll result = (opens : List OpenSwap) (devices : ℕ) → devices ≤ before.faults.devices → WorksWith before old opens → open_at exp opens ≡ None → All opens devices result

    pub goes_further : EndsEvent exp played Event (Ok None) → ComesTo exp start before then' old newer (going text left (played + 1))
    goes_further ends opens devices within works none =
        let on = on_by text event left played ends.0 ends.1 in
        subst (λ (p : Playing). HasComeTo (events_in_turn exp) (origin_of before old opens start devices) (Some exp) then' newer p) on.0 (one_on opens devices within works none ends.0 ends.3 ends.2 on.1)

    -- the controller works on after `in`
    pub works_further : CanWork now new → EndsEvent exp played Event (Ok None) → CanWork then' newer
    works_further can ends = let b = ends.3 can.0 now.faults.devices (omega arith) can.1 in (b.to, b.works (ap not (on_by text event left played ends.0 ends.1).1))

    pub ends_there : (reply : Reply) → EndsEvent exp played Event (Ok (Some reply)) → ForAll (Ok reply)
    ends_there reply ends opens devices within works none = subst (λ (r : Reply). All opens devices (Ok r)) (sym ends.3) (one_ends opens devices within works none ends.0 ends.4 ends.2 ends.1)

    pub fails_there : (fault : CoreFault) → EndsEvent exp played Event (Err fault) → ForAll (Err fault)
    fails_there faults.Stopped ends opens devices within works none = one_stops opens devices within works none ends
    fails_there faults.Memory (inl ends) opens devices within works none = one_wants opens devices within works none ends
    fails_there faults.Memory (inr ends) opens devices within works none =
        wants (events_in_turn exp) (origin_of before old opens start devices) (Some exp) then' newer (behind at ends.0) (one_on opens devices within works none ends.0 ends.3 ends.2 ends.1)

  -- NOTHING YET, and ALL ARE DONE
  pub starts : (text : Wiring) (due : List LinkEvent) (before : Seen) (old : Control) → ComesTo exp (first_place text due) before before old old (first_place text due)
  starts text due before old opens devices within works none = begins (events_in_turn exp) (origin_of before old opens (first_place text due) devices) (Some exp) works refl refl

  module _ (start : Playing) (before now : Seen) (old new : Control) (text : Wiring) (played : ℕ) (comes : ComesTo exp start before now old new (going text [] played)) (opens : List OpenSwap) (devices : ℕ) (within : devices ≤ before.faults.devices) (works : WorksWith before old opens)
      (none : open_at exp opens ≡ None) where
    pub all_done : ObeysEvents exp start devices before now old new opens (Ok (played_of exp played None))
    all_done = finished (events_in_turn exp) (origin_of before old opens start devices) (Some exp) tells now new (going text [] played) (comes opens devices within works none) refl refl
