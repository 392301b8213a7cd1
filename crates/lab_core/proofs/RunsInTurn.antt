-- Runs of a batch, one after another: what one more of them leaves.
use Rattle.std.proofs.Common.{◌≡◌, ◌⊎◌, inl, inr, ◌≤◌, ◌+◌, ℕ, Bool, true, false, not, ◌||◌, List, [], ◌∷◌, ◌++◌, Option, Some, None, Result, Ok, Err, refl, sym, ap, ◌∙◌, subst, arith}
use Rattle.std.specs.List.{list_any}
use Rattle.std.proofs.lemmas.Bool.{cases_Bool}
use Rattle.std.proofs.Math.Bool.{or-true}
use Rattle.lab_base.specs.Lists.{Has}
use Rattle.lab_base.specs.Counts.{Rose}
use Rattle.lab_base.proofs.Members.{Has-mapped}
use Rattle.plant.specs.Seen.{Seen}
use Rattle.recovery.specs.Due.{is_busy}
use Rattle.cost_rule.specs.declared.rule.RuleNumber.{RuleNumber}
use Rattle.lab_ahead.specs.declared.batch.Promise.{Promise}
use Rattle.lab_ahead.specs.declared.batch.Run.{Run}
use Rattle.lab_ahead.specs.declared.ends.End.{End}
use Rattle.script_text.specs.Replies.{blames_device, closes, served_of}
use Rattle.script_text.specs.declared.reply.Reply.{Reply}
use Rattle.script_text.specs.declared.reply.Reply.TheVariants as replies
use Rattle.script_text.specs.declared.reply.Served.{Served}
use Rattle.script_text.proofs.ToldRuns.{any_more}
use Rattle.lab_core.specs.declared.fault.CoreFault.{CoreFault}
use Rattle.lab_core.specs.declared.fault.CoreFault.TheVariants as faults
use Rattle.lab_judge.specs.declared.run.Queue.{Queue}
use Rattle.lab_core.specs.Coming.{Origin}
use Rattle.lab_core.specs.Controller.{CanWork, Control, WorksWith}
use Rattle.lab_core.specs.InTurn.{IsPart, is_in}
use Rattle.lab_tasks.specs.Tasks.{Recover}
use Rattle.lab_core.specs.LabSteps.{has_space}
use Rattle.lab_core.specs.Obey.{Obeyed, start_of}
use Rattle.lab_core.specs.Queues.{EndsRun, ObeysRun, ObeysRuns, ends_if, first_place, runs_from}
use Rattle.lab_core.specs.BatchList.{JudgedRun, after_run, runs_in_turn, with_end}
use Rattle.lab_judge.specs.Serving.{Serving}
use Rattle.lab_core.specs.Sessions.{OpenSwap, counted_from, devices_if, name_in, names_of, open_at}
use Rattle.lab_core.proofs.Composing.{begins, comes_on, comes_shut, comes_to_stop, comes_to_want, finished, wants}
use Rattle.lab_tasks.proofs.Busy.{has_busy}
use Rattle.lab_core.proofs.OpenSwaps.{open_at_none}
use Rattle.lab_core.proofs.Runs.{run_here}
use Rattle.lab_core.proofs.HowFar.{HasComeTo, TellsAll, ComesToRun}

-- ---- WHAT THE WHOLE TELLS
any_either : (test : Reply → Bool) (told : List Reply) (reply : Reply) → list_any test (told ++ reply ∷ []) ≡ true → (list_any test told ≡ true) ⊎ (test reply ≡ true)
any_either test told reply is =
    let either : (list_any test told || test reply) ≡ true = sym (any_more test told reply) ∙ is in
    elim (cases_Bool (list_any test told)) [
      | inl yes' ↦ inl yes'
      | inr no' ↦ inr (sym (ap (λ b. b || test reply) no') ∙ either)
    ]

any_last : (test : Reply → Bool) (told : List Reply) (reply : Reply) → test reply ≡ true → list_any test (told ++ reply ∷ []) ≡ true
any_last test told reply is = any_more test told reply ∙ ap (λ b. list_any test told || b) is ∙ or-true (list_any test told)

pub tells : (rule : RuleNumber) (moment : ℕ) → TellsAll (runs_in_turn rule moment)
tells rule moment = record {
  blames = λ at reply is. any_either blames_device at.told reply is;
  here = λ at reply is. any_either blames_device at.told reply is;
  shuts = λ at reply is. any_last closes at.told reply is;
  ends = λ at. refl;
}

-- the ends after a reply
end_noted : (moment : ℕ) (run : Run) (left : List Run) (ends : List End) (reply : Reply) → is_in reply ≡ true → with_end moment (run ∷ left) reply ends ≡ ends ++ record { exp = run.exp; at = moment + run.length } ∷ []
end_noted moment run left ends (replies.In exp) is = refl
end_noted moment run left ends reply is = let none : false ≡ true = is in absurd (cc none)

no_end : (moment : ℕ) (run : Run) (left : List Run) (ends : List End) (reply : Reply) → is_in reply ≡ false → with_end moment (run ∷ left) reply ends ≡ ends
no_end moment run left ends (replies.In exp) is = let none : true ≡ false = is in absurd (cc none)
no_end moment run left ends reply is = refl

ends_behind : (queue : Queue) (run : Run) (left : List Run) (reply : Reply) (inside : Bool) → inside ≡ is_in reply → with_end queue.moment (run ∷ left) reply queue.ends ≡ ends_if inside queue run
ends_behind queue run left reply true is = end_noted queue.moment run left queue.ends reply (sym is)
ends_behind queue run left reply false is = no_end queue.moment run left queue.ends reply (sym is)

-- an experiment that isn't busy has no open swap, and counts from here
open_none : (opens : List OpenSwap) (exp : List ℕ) → is_busy (names_of opens) exp ≡ false → open_at exp opens ≡ None
open_none opens exp idle = open_at_none exp opens (λ q has same. let both : true ≡ false = sym (has_busy (names_of opens) exp (subst (λ (n : List ℕ). Has (names_of opens) n) same (Has-mapped name_in opens q has))) ∙ idle in absurd (cc both))

idle_counts : (opens : List OpenSwap) (exp : List ℕ) (devices : ℕ) → is_busy (names_of opens) exp ≡ false → counted_from opens (Some exp) devices ≡ devices
idle_counts opens exp devices idle = ap (λ (o : Option OpenSwap). devices_if o devices) (open_none opens exp idle)

-- A PLACE, by the batch in hand
abbrev pub place_at : Queue → List Run → List Reply → Serving
place_at queue left told = record { promises = queue.promises; left = left; ends = queue.ends; told = told }

module _ (rule : RuleNumber) where
  -- ONE RUN MORE
  module _ (start : Serving) (before now then' : Seen) (old new newer : Control) (queue : Queue) (run : Run) (left : List Run) (told : List Reply) (comes : ComesToRun rule queue.moment start before now old new (place_at queue (run ∷ left) told)) where
    abbrev at : Serving
    at = place_at queue (run ∷ left) told

    abbrev Event : Result Reply CoreFault → Type 0
    Event result = ObeysRun rule queue run now then' new newer result

    abbrev All : List OpenSwap → ℕ → Result Reply CoreFault → Type 0
    All opens devices result = ObeysRuns rule queue.moment start devices before then' old newer opens result

    abbrev behind : Reply → Serving
    behind reply = after_run queue.moment at reply

    module _ (opens : List OpenSwap) (devices : ℕ) (within : devices ≤ before.faults.devices) (works : WorksWith before old opens) where
      abbrev o : Origin Serving
      o = runs_from before old opens start devices

      h : HasComeTo (runs_in_turn rule queue.moment) o None now new at
      h = comes opens devices within works

      abbrev Sub : Result Reply CoreFault → Type 0
      Sub result = Obeyed devices now then' (JudgedRun rule queue.moment queue.promises queue.ends run (λ entry. has_space (start_of devices new h.to).set entry) new.lab h.to) new newer h.to (Some run.exp) result

      here : devices ≤ now.faults.devices
      here = let later : before.faults.devices ≤ now.faults.devices = h.devices in omega (arith, within, later)

      sub : (result : Result Reply CoreFault) → Event result → Sub result
      sub result is = (is h.to devices here h.works).obeyed

      module _ (reply : Reply) (is : Event (Ok reply)) (part : IsPart run.exp reply) where
        blames : blames_device reply ≡ true → Rose (counted_from opens None devices) then'.faults.devices
        blames blaming = let all = is h.to devices here h.works in subst (λ (n : ℕ). Rose n then'.faults.devices) (idle_counts h.to run.exp devices (all.idle blaming)) (all.obeyed.device blaming)

        blames_here : blames_device reply ≡ true → Rose now.faults.devices then'.faults.devices
        blames_here blaming =
            let all = is h.to now.faults.devices (omega arith) h.works in
            subst (λ (n : ℕ). Rose n then'.faults.devices) (idle_counts h.to run.exp now.faults.devices (all.idle blaming)) (all.obeyed.device blaming)

        one_on : closes reply ≡ false → HasComeTo (runs_in_turn rule queue.moment) o None then' newer (behind reply)
        one_on goes = comes_on (runs_in_turn rule queue.moment) o None now new at h refl then' newer (Some run.exp) (tells rule queue.moment) reply goes part.ended (sub (Ok reply) is) blames blames_here

        one_shut : closes reply ≡ true → All opens devices (Ok (replies.Served (served_of (told ++ reply ∷ []))))
        one_shut shut = comes_shut (runs_in_turn rule queue.moment) o None now new at h refl then' newer (Some run.exp) (tells rule queue.moment) reply shut (sub (Ok reply) is) blames blames_here

      one_stops : Event (Err faults.Stopped) → All opens devices (Err faults.Stopped)
      one_stops is = comes_to_stop (runs_in_turn rule queue.moment) o None now new at h refl then' newer (Some run.exp) (sub (Err faults.Stopped) is)

      one_wants : Event (Err faults.Memory) → All opens devices (Err faults.Memory)
      one_wants is =
          comes_to_want (runs_in_turn rule queue.moment) o None now new at h refl then' newer (Some run.exp)
          (λ judged. (run_here new.lab (is_busy (names_of h.to) run.exp) _ rule queue.moment queue.promises queue.ends run (λ entry. has_space (start_of devices new h.to).set entry) (Ok Recover) judged).1) (sub (Err faults.Memory) is)

    -- and whatever swaps were open
    abbrev ForAll : Result Reply CoreFault → Type 0
    ForAll result = (opens : List OpenSwap) (devices : ℕ) → devices ≤ before.faults.devices → WorksWith before old opens → All opens devices result

    -- what is told so far
    module _ (so_far : Served) (are : so_far ≡ served_of told) (open' : so_far.closes ≡ false) where
      abbrev Ends : Result (Served × Bool) CoreFault → Type 0
      Ends result = EndsRun so_far run.exp Event result

      none_closed : list_any closes told ≡ false
      none_closed = sym (ap (λ (x : Served). x.closes) are) ∙ open'

      -- whether the last one closes
      closing_is : (next : Served) (reply : Reply) → next ≡ served_of (told ++ reply ∷ []) → closes reply ≡ next.closes
      closing_is next reply is = ap (λ b. b || closes reply) (sym none_closed) ∙ sym (any_more closes told reply) ∙ sym (ap (λ (x : Served). x.closes) is)

      next_place : (reply : Reply) (inside : Bool) → inside ≡ is_in reply → behind reply ≡ place_at (record queue { ends = ends_if inside queue run }) left (told ++ reply ∷ [])
      next_place reply inside is = ap (λ (l : List End). record { promises = queue.promises; left = left; ends = l; told = told ++ reply ∷ [] }) (ends_behind queue run left reply inside is)

      pub goes_further : (next : Served) (inside : Bool) → Ends (Ok (next, inside)) → next.closes ≡ false
          → (more : List Reply) × (next ≡ served_of more) × ComesToRun rule queue.moment start before then' old newer (place_at (record queue { ends = ends_if inside queue run }) left more)
      goes_further next inside ends goes = (
        told ++ ends.0 ∷ [],
        ends.3 told are,
        λ opens devices within works.
            subst (λ (p : Serving). HasComeTo (runs_in_turn rule queue.moment) (runs_from before old opens start devices) None then' newer p) (next_place ends.0 inside ends.2)
            (one_on opens devices within works ends.0 ends.4 ends.1 (closing_is next ends.0 (ends.3 told are) ∙ goes)),
      )

      -- the controller works on
      pub works_further : (next : Served) (inside : Bool) → CanWork now new → Ends (Ok (next, inside)) → next.closes ≡ false → CanWork then' newer
      works_further next inside can ends goes =
          let b = (ends.4 can.0 now.faults.devices (omega arith) can.1).obeyed in
          (b.to, b.works (ap not (closing_is next ends.0 (ends.3 told are) ∙ goes)))

      pub ends_there : (next : Served) (inside : Bool) → Ends (Ok (next, inside)) → next.closes ≡ true → ForAll (Ok (replies.Served next))
      ends_there next inside ends shut opens devices within works =
          subst (λ (x : Served). All opens devices (Ok (replies.Served x))) (sym (ends.3 told are)) (one_shut opens devices within works ends.0 ends.4 ends.1 (closing_is next ends.0 (ends.3 told are) ∙ shut))

      pub fails_there : (fault : CoreFault) → Ends (Err fault) → ForAll (Err fault)
      fails_there faults.Stopped ends opens devices within works = one_stops opens devices within works ends
      fails_there faults.Memory (inl ends) opens devices within works = one_wants opens devices within works ends
      fails_there faults.Memory (inr ends) opens devices within works =
          wants (runs_in_turn rule queue.moment) (runs_from before old opens start devices) None then' newer (behind ends.0) (one_on opens devices within works ends.0 ends.3 ends.2 ends.1)

      -- memory is wanting after it
      pub wants_after : (next : Served) (inside : Bool) → Ends (Ok (next, inside)) → next.closes ≡ false → ForAll (Err faults.Memory)
      wants_after next inside ends goes opens devices within works =
          wants (runs_in_turn rule queue.moment) (runs_from before old opens start devices) None then' newer (behind ends.0)
          (one_on opens devices within works ends.0 ends.4 ends.1 (closing_is next ends.0 (ends.3 told are) ∙ goes))

  -- NOTHING YET, and ALL ARE DONE
  pub starts : (moment : ℕ) (promises : List Promise) (runs : List Run) (before : Seen) (old : Control) → ComesToRun rule moment (first_place promises runs) before before old old (first_place promises runs)
  starts moment promises runs before old opens devices within works = begins (runs_in_turn rule moment) (runs_from before old opens (first_place promises runs) devices) None works refl refl

  pub all_done : (moment : ℕ) (start : Serving) (before now : Seen) (old new : Control) (promises : List Promise) (ends : List End) (told : List Reply) (so_far : Served) → so_far ≡ served_of told → so_far.closes ≡ false
      → ComesToRun rule moment start before now old new (record { promises = promises; left = []; ends = ends; told = told })
      → (opens : List OpenSwap) (devices : ℕ) → devices ≤ before.faults.devices → WorksWith before old opens → ObeysRuns rule moment start devices before now old new opens (Ok (replies.Served so_far))
  all_done moment start before now old new promises ends told so_far are open' comes opens devices within works =
      subst (λ (x : Served). ObeysRuns rule moment start devices before now old new opens (Ok (replies.Served x))) (sym are)
      (finished (runs_in_turn rule moment) (runs_from before old opens start devices) None (tells rule moment) now new (record { promises = promises; left = []; ends = ends; told = told }) (comes opens devices within works) refl
      (sym (ap (λ (x : Served). x.closes) are) ∙ open'))
