-- A command is answered, after its mark.
use Rattle.std.proofs.Common.{◌≡◌, inl, inr, ℕ, Bool, true, List, Option, Some, None, Result, Ok, Err, refl, subst}
use Rattle.std.specs.Prelude.{OnOk}
use Rattle.lab_base.proofs.Tests.{some_weaker}
use Rattle.script_text.specs.declared.command.Command.{Command}
use Rattle.script_text.specs.declared.reply.Reply.{Reply}
use Rattle.plant.specs.declared.drill.Drill.{Drill}
use Rattle.plant.specs.declared.moment.Faults.{Faults}
use Rattle.script_text.specs.declared.reply.Reply.TheVariants as replies
use Rattle.script_text.specs.Drills.{drill_of}
use Rattle.script_text.specs.Replies.{text_of}
use Rattle.plant.specs.Events.{Event}
use Rattle.plant.specs.Seen.{Seen}
use Rattle.plant.specs.Told.{with_mark}
use Rattle.lab_core.specs.Controller.{Control}
use Rattle.lab_core.specs.Breaks.{unanswered}
use Rattle.lab_core.specs.Sessions.{Session, Closed, Open, Terms}
use Rattle.lab_tasks.specs.OpenNames.{name_of}
use Rattle.lab_core.specs.Tells.{opens_of}
use Rattle.lab_top.specs.declared.command.CommandFault.{CommandFault}
use Rattle.lab_top.specs.declared.command.CommandFault.TheVariants as faults
use Rattle.lab_top.specs.Answering.{Moment, Made, Ends, Sent, Answered, marked, piece_of}
use Rattle.lab_top.specs.Pieces.{Finds, IsPlannedAs, IsPlannedBy, broken_off, opened, text as but_text, GoesFrom, Held}
use Rattle.lab_top.proofs.Obeyed.{opened_none}
use Rattle.lab_top.proofs.Stepping.{silent_done}
use Rattle.lab_core.specs.Moments.{trace_in, with_more}
use Rattle.records_model.specs.Labs.{LabState}

pub marked_so : (old mid : Seen) (controller : Option Control) → mid ≡ record old { told = with_mark old.told old.faults } → ◌≡◌ {A = Moment} (record { plant = mid; controller = controller }) (marked (record { plant = old; controller = controller }))
marked_so old mid controller is i = record { plant = is i; controller = controller }

-- where no text was written
silent_planned : (takes planned : Bool) (reply : Option Reply) → IsPlannedAs takes planned reply → planned ≡ true → takes ≡ true
silent_planned takes planned None by is = by is
silent_planned takes planned (Some replies.Planned) by is = by.1
silent_planned takes planned (Some replies.NoDrill) by is = absurd (cc (by.0, is))
silent_planned takes planned (Some reply) by is = absurd by

silent_by : (terms : Terms) (drill : Option Drill) (planned : Bool) (reply : Option Reply) → IsPlannedBy terms drill planned reply → IsPlannedBy terms drill planned None
silent_by terms None planned reply by = by
silent_by terms (Some drill) planned reply by = silent_planned terms.takes planned reply by

silent_finds : (drill : Option Drill) (trace : List Event) (command : Command) (mark : Faults) (from to : Session) (opening own : List Event) (reply : Option Reply) → Finds drill from trace (piece_of command mark from to opening own reply)
    → Finds drill from trace (piece_of command mark from Closed opening own None)
silent_finds (Some drill) trace command mark from to opening own reply finds = (finds.0, finds.1, λ some. absurd (cc some))
silent_finds None trace command mark Closed to opening own reply (quiet, opened no_miss no_restart journal led) = (quiet, opened no_miss no_restart journal led)
silent_finds None trace command mark Closed to opening own reply (quiet, broken_off breaks nothing closed part) = (quiet, broken_off (unanswered refl) nothing refl part)
silent_finds None trace command mark (Open opens) to opening own reply finds = finds

silent_goes : (drill : Option Drill) (terms : Terms) (trace : Option (List Event)) (command : Command) (mark : Faults) (from to : Session) (opening own : List Event) (told : Reply) (at : Held) (after : LabState)
    → GoesFrom drill terms trace (piece_of command mark from to opening own (Some told)) at after → GoesFrom drill terms trace (piece_of command mark from Closed opening own None) at after
silent_goes (Some drill) terms trace command mark from to opening own told at after goes = (goes.0, λ some. absurd (cc some))
silent_goes None terms trace command mark from to opening own told at after (inr broke) = inr (record { closed = broke.closed; nothing = broke.nothing; shut = refl; tells = tt })
silent_goes None terms trace command mark from to opening own told at after (inl x) =
    inl (record { sane = x.sane; length_is = x.length_is; told = x.told; session = x.session; behind = x.behind; is_told = inl x.is_told.2; step = x.step })

silent_made : (terms : Terms) (command : Command) (old new : Moment) (from to : Session) (told : Reply) → Made terms command old new from to (Some told) → Made terms command old new from Closed None
silent_made terms command old new from to told made =
    let b = made.begun in
    let reply = Some told in
    let mark = old.plant.faults in
    record {
      begun = record {
        opening = b.opening;
        own = b.own;
        planned = b.planned;
        told = b.told;
        planned_by = silent_by terms (drill_of command) b.planned reply b.planned_by;
        is_piece = some_weaker old.plant.told _ _ (λ t is. record {
          readable = is.readable;
          finds = silent_finds (drill_of command) t.trace command mark from to b.opening b.own reply is.finds;
          leaves = λ shut. refl;
          shuts = λ none shut. refl;
          steps = λ none some. absurd (cc some);
          leads = λ none open_now. absurd (cc open_now);
          done = λ sound. silent_done terms t.trace command mark from to b.opening b.own reply is.readable (is.done sound);
        }) b.is_piece;
      };
      labs = record {
        at = made.labs.at;
        after = made.labs.after;
        first = made.labs.first;
        goes = silent_goes (drill_of command) terms (with_more (trace_in old.plant.told) b.opening) command mark from to b.opening b.own told made.labs.at made.labs.after made.labs.goes;
        last = made.labs.last;
      };
      later = made.later;
      disk = λ is. absurd (cc is);
      device = λ is. absurd (cc is);
      here = λ is. absurd (cc is);
      opened = opened_none (name_of command) None (opens_of from) mark.devices;
      shut = λ shut. refl;
      runs = λ some. absurd (cc some);
      goes_on = λ some. absurd (cc some);
      wants = λ none runs. some_weaker old.plant.told _ _ (λ t is. but_text told to is) b.is_piece;
    }

pub answered_not : (terms : Terms) (command : Command) (old mid new : Moment) (from : Session) (written : Option (List ℕ)) (taken : Reply → Type 0) (fault : CommandFault) → mid ≡ marked old
    → Ends terms command mid new from (Err fault) → Answered terms command old new from written written taken (Err fault)
answered_not terms command old mid new from written taken fault same ends = by fault (subst (λ was. Ends terms command was new from (Err fault)) same ends)
  where
    by : (fault : CommandFault) → Ends terms command (marked old) new from (Err fault) → Answered terms command old new from written written taken (Err fault)
    by faults.Memory made = (inr made, refl)
    by faults.WriteFault made = absurd made
    by (faults.JournalBad side at) found = (found, refl)

-- no write fails before there is a reply
pub not_written : (terms : Terms) (command : Command) (old new : Moment) (from : Session) (fault : CommandFault) → Ends terms command old new from (Err fault) → (let result : Result (Unit {0}) CommandFault = Err fault in result ≡ Err faults.WriteFault) → ⊥
not_written terms command old new from faults.Memory ends is = cc is
not_written terms command old new from faults.WriteFault ends is = ends
not_written terms command old new from (faults.JournalBad side at) ends is = cc is

pub answered_sent : (terms : Terms) (command : Command) (old mid new : Moment) (from : Session) (reply : Reply) (before now : Option (List ℕ)) (taken : Reply → Type 0) (result : Result (Unit {0}) CommandFault)
    → mid ≡ marked old → Ends terms command mid new from (Ok reply) → Sent before now (text_of reply) result → OnOk result (taken reply) → Answered terms command old new from before now taken result
answered_sent terms command old mid new from reply before now taken result same ends sent took = by result (subst (λ was. Ends terms command was new from (Ok reply)) same ends) sent took
  where
    by : (result : Result (Unit {0}) CommandFault) → Ends terms command (marked old) new from (Ok reply) → Sent before now (text_of reply) result → OnOk result (taken reply) → Answered terms command old new from before now taken result
    by (Ok done) made sent took = (reply, made.0, made.1, sent, took)
    by (Err faults.Memory) made sent took = (inr (silent_made terms command (marked old) new from _ _ made.1), sent)
    by (Err faults.WriteFault) made sent took = (reply, made.0, made.1, sent.0, sent.1, sent.2)
    by (Err (faults.JournalBad side at)) made sent took = absurd sent
