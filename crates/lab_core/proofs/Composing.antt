-- A list of commands, one after another.
use Rattle.std.proofs.Common.{◌≡◌, inl, inr, ◌≤◌, ◌+◌, ◌↔◌, ℕ, IfOk, Bool, true, false, not, List, [], ◌∷◌, ◌++◌, Option, Some, None, IfSome, IsTrue, IsErrOf, Result, Ok, Err, refl, sym, ap, ◌∙◌, subst, arith, append_assoc}
use Rattle.std.proofs.lemmas.List.{append-nil}
use Rattle.std.proofs.lemmas.Option.{same_Some}
use Rattle.lab_base.specs.Counts.{Rose}
use Rattle.lab_base.proofs.Tests.{some_weaker, some_all}
use Rattle.lab_base.proofs.Numbers.{Rose_since}
use Rattle.plant.specs.Disks.{ArePossible}
use Rattle.plant.specs.Events.{Event, Restarted}
use Rattle.plant.specs.Seen.{Seen}
use Rattle.plant.specs.Told.{with_steps}
use Rattle.plant.proofs.Traces.{with_steps-nil, with_steps-append}
use Rattle.records_model.specs.Labs.{LabState}
use Rattle.records_model.specs.Works.{IsSound}
use Rattle.lab_state.specs.Texts.{the_texts}
use Rattle.journal_disk.specs.Standing.{length_of, limit_of, side_of}
use Rattle.swap_turns.proofs.Images.{reads_on}
use Rattle.swap_turns.specs.Lengths.{IsLonger}
use Rattle.swap_turns.specs.Running.{Stands}
use Rattle.swap_turns.proofs.Lengths.{longer_none, longer_on}
use Rattle.swap_turns.proofs.Telling.{if_both, if_back}
use Rattle.script_text.specs.Replies.{blames_device, closes}
use Rattle.script_text.specs.declared.reply.Reply.{Reply}
use Rattle.script_text.specs.declared.reply.Reply.TheVariants as replies
use Rattle.lab_core.specs.declared.fault.CoreFault.{CoreFault}
use Rattle.lab_core.specs.declared.fault.CoreFault.TheVariants as faults
use Rattle.lab_core.specs.Controller.{Control, WorksWith}
use Rattle.lab_tasks.specs.Tasks.{Task, Recover}
use Rattle.lab_core.specs.LabSteps.{IsDoneBy}
use Rattle.lab_core.specs.Moments.{IsLengthAt, IsLengthAfter, trace_in}
use Rattle.lab_core.specs.Obey.{AllShut, AnswersBy, EndsBy, Obeys, Shuts, Start, start_of, Obeyed, WantsIn, done_as, reply_of, stays_at_work, undone, between as recovering}
use Rattle.lab_core.specs.Sessions.{OpenSwap, Closed, After, Setting, AreOpenedBy, blames_now, counted_from, ends_swap, name_in, open_by, shut_by}
use Rattle.lab_core.specs.Lists.{DoesNext, Listing, Past, broken, last_reply, more, none, over}
use Rattle.lab_core.specs.Coming.{AllDone, AllWants, Origin, ground_of}
use Rattle.lab_core.proofs.Obey.{calm_ends, in_trace, of_trace, shut_ends, trace_back, IsDone, Leaves, Answers, ObeyEnds}
use Rattle.lab_core.proofs.HowFar.{HasComeTo, TellsAll, WereOpen}

-- THE LENGTH as the sides read, of a controller that stands
pub standing_length : (trace : List Event) (c : Control) → Stands the_texts trace c.journal c.lab → IsLengthAt trace (length_of c.journal)
standing_length trace c s =
    let on = reads_on trace (side_of c.journal) s.records s.at.opened in
    record { records = s.records; read = on.reads; is = sym (on.size ∙ ap (λ n. n + 1) (sym s.at.gate)) }

pub works_length : (now : Seen) (c : Control) (opens : List OpenSwap) → WorksWith now c opens → IfSome now.told (λ w. IsLengthAt w.trace (length_of c.journal))
works_length now c opens works = some_weaker now.told (λ w. Stands the_texts w.trace c.journal c.lab) (λ w. IsLengthAt w.trace (length_of c.journal)) (λ w s. standing_length w.trace c s) works.working.work.stands

-- a count that rose
rose_on : (a b c : ℕ) → Rose a b → b ≤ c → Rose a c
rose_on a b c rose le = omega (arith, rose, le)

-- swaps that were open before the last command, and before the list
opened_on : (old mid new : List OpenSwap) → WereOpen old mid → WereOpen mid new → WereOpen old new
opened_on old mid new first second o has = let q = second o has in let x = first q.0 q.1 in (x.0, x.1, x.2 ∙ q.2, x.3 ∙ q.3)

-- a reply that tells of no swap that has begun
none_opened : (named : Option (List ℕ)) (reply : Option Reply) (old new : List OpenSwap) (count : ℕ) → ((name : List ℕ) → reply ≡ Some (replies.More name) → ⊥) → AreOpenedBy named reply old new count → WereOpen old new
none_opened named reply old new count plain opened o has = elim (opened o has) [ inl begun ↦ absurd (plain _ begun.1) | inr was ↦ was.1 ]

were_opened : (exp : Option (List ℕ)) (reply : Option Reply) (old new : List OpenSwap) (count : ℕ) → ((name : List ℕ) → ends_swap reply name ≡ false) → WereOpen old new → AreOpenedBy exp reply old new count
were_opened exp reply old new count stays were o has = inr (stays (name_in o), were o has)

-- a list, from where it began
module _ {X : Type 0} (l : Listing X) (o : Origin X) (exp : Option (List ℕ)) where
  abbrev trace : Option (List Event)
  trace = trace_in o.before.told

  abbrev Came : List Event → X → LabState → List OpenSwap → Type 0
  Came own at lab to = Past l (ground_of o) trace o.start o.old.lab o.opens own at lab to

  abbrev Sound : List Event → List Event → Type 0
  Sound own t = IsSound the_texts t → IsSound the_texts (t ++ own)

  sound_in : (own : List Event) → IfSome o.before.told (λ w. Sound own w.trace) → IfSome trace (Sound own)
  sound_in own h = in_trace o.before.told (Sound own) h

  -- NOTHING WAS DONE YET
  pub begins : WorksWith o.before o.old o.opens → blames_device (l.whole o.start) ≡ false → blames_now (l.whole o.start) ≡ false → HasComeTo l o exp o.before o.old o.start
  begins works mild calm = record {
    to = o.opens;
    own = [];
    told = with_steps-nil o.before.told;
    past = none;
    sound = some_all o.before.told _ (λ t sound. subst (λ trace. IsSound the_texts trace) (sym (append-nil t.trace)) sound);
    works = works;
    limit = refl;
    longer = longer_none o.old.journal;
    opened = λ swap has. (swap, has, refl, refl);
    device = λ blames. let both : true ≡ false = sym blames ∙ mild in absurd (cc both);
    here = λ blames. let both : true ≡ false = sym blames ∙ calm in absurd (cc both);
    disk = omega arith;
    devices = omega arith;
    runs = λ runs. runs;
  }

  -- IT IS OVER
  pub finished : TellsAll l → (now : Seen) (new : Control) (at : X) → HasComeTo l o exp now new at → l.is_over at ≡ true → closes (l.whole at) ≡ false → Obeys (AllDone l o) (AllWants l o) o.devices o.before now o.old new o.opens exp (Ok (l.whole at))
  finished tells now new at h over_here goes = record {
    to = h.to;
    obeys = (
      h.own,
      h.told,
      record { ends = subst (λ b. AnswersBy (AllDone l o) trace h.own (l.whole at) new.lab h.to b) (sym goes) (over at new.lab h.to h.past over_here refl); sound = sound_in h.own h.sound },
    );
    works = λ _. h.works;
    limit = h.limit;
    longer = λ _. h.longer;
    opened = were_opened exp (Some (l.whole at)) o.opens h.to o.devices (λ name. calm_ends (l.whole at) name (tells.ends at)) h.opened;
    down = λ shuts. let both : true ≡ false = sym shuts ∙ goes in absurd (cc both);
    device = h.device;
    here = h.here;
    later = h.disk;
    still = h.devices;
    stopped = λ ran. (λ is. let none' : Ok (l.whole at) ≡ Err faults.Stopped = is in absurd (cc none'), λ stop. let both : true ≡ false = sym stop ∙ h.runs ran in absurd (cc both));
  }

  -- MEMORY IS WANTING between two
  pub wants : (now : Seen) (new : Control) (at : X) → HasComeTo l o exp now new at → Obeys (AllDone l o) (AllWants l o) o.devices o.before now o.old new o.opens exp (Err faults.Memory)
  wants now new at h = record {
    to = h.to;
    obeys = (
      h.own,
      h.told,
      record { ends = (at, h.past); sound = sound_in h.own h.sound },
    );
    works = λ _. h.works;
    limit = h.limit;
    longer = λ _. h.longer;
    opened = were_opened exp None o.opens h.to o.devices (λ name. refl) h.opened;
    down = tt;
    device = tt;
    here = tt;
    later = h.disk;
    still = h.devices;
    stopped = λ ran. (λ is. absurd (cc is), λ stop. let both : true ≡ false = sym stop ∙ h.runs ran in absurd (cc both));
  }

  -- ONE COMMAND MORE, judged where it came to
  module _ (now : Seen) (new : Control) (at : X) (h : HasComeTo l o exp now new at) (going : l.is_over at ≡ false) (then' : Seen) (newer : Control) (named : Option (List ℕ)) where
    abbrev J : Result Task Reply → Type 0
    J = l.Judges at (start_of o.devices new h.to).set new.lab h.to

    abbrev Sub : Result Reply CoreFault → Type 0
    Sub result = Obeyed o.devices now then' J new newer h.to named result

    abbrev start : Start
    start = start_of o.devices new h.to

    length_there : IsLengthAfter trace h.own (limit_of o.old.journal) (length_of new.journal)
    length_there = record {
      told = in_trace o.before.told (λ t. IsLengthAt (t ++ h.own) (length_of new.journal)) (if_back o.before.told now.told h.own (λ t. IsLengthAt t (length_of new.journal)) h.told (works_length now new h.to h.works));
      within = omega (arith, h.works.working.work.room.few, h.limit);
    }

    next : (steps : List Event) (after : After) → IsDoneBy J start.set new.lab h.to steps after → DoesNext l (ground_of o) trace h.own at new.lab h.to steps after
    next steps after done = record {
      more = going;
      length = length_of new.journal;
      length_is = length_there;
      longer = h.longer;
      done = subst (λ (n : ℕ). let set : Setting = record { length = length_of new.journal; limit = n; devices = o.devices } in IsDoneBy (l.Judges at set new.lab h.to) set new.lab h.to steps after) h.limit done;
    }

    module _ (result : Result Reply CoreFault) (b : Sub result) where
      abbrev own : List Event
      own = h.own ++ b.obeys.0

      told_on : then'.told ≡ with_steps o.before.told own
      told_on = b.obeys.1 ∙ ap (λ told. with_steps told b.obeys.0) h.told ∙ with_steps-append o.before.told h.own b.obeys.0

      -- what is said of the next
      abbrev Ends : Type 0
      Ends = ObeyEnds (trace_in now.told) J start b.obeys.0 newer.lab b.to result

      sound_on : IfSome trace (Sound own)
      sound_on =
          if_both trace (Sound h.own) (λ t. Sound b.obeys.0 (t ++ h.own)) (Sound own) (λ t sound then first. subst (λ t. IsSound the_texts t) (append_assoc t h.own b.obeys.0) (then (sound first))) (sound_in h.own h.sound)
          (trace_back o.before.told now.told h.own (Sound b.obeys.0) h.told b.obeys.2.sound)

      limit_on : limit_of newer.journal ≡ limit_of o.old.journal
      limit_on = b.limit ∙ h.limit

      longer_by : stays_at_work result ≡ true → IsLonger o.old.journal newer.journal own
      longer_by going_on = longer_on o.old.journal new.journal newer.journal h.own b.obeys.0 h.longer (b.longer going_on)

      opened_now : ((name : List ℕ) → reply_of result ≡ Some (replies.More name) → ⊥) → WereOpen o.opens b.to
      opened_now plain = opened_on o.opens h.to b.to h.opened (none_opened named (reply_of result) h.to b.to o.devices plain b.opened)

      -- the whole, by how it ends
      leaves_all : (answer : Result Reply CoreFault) → ((name : List ℕ) → ends_swap (reply_of answer) name ≡ false) → ((name : List ℕ) → reply_of result ≡ Some (replies.More name) → ⊥) → EndsBy (AllDone l o) (AllWants l o) trace own newer.lab b.to answer → (stays_at_work answer ≡ true → WorksWith then' newer b.to) → (stays_at_work answer ≡ true → stays_at_work result ≡ true)
          → IfOk answer (λ reply. closes reply ≡ true → Rose o.before.faults.disk then'.faults.disk) → IfOk answer (λ reply. blames_device reply ≡ true → Rose (counted_from o.opens exp o.devices) then'.faults.devices)
          → IfOk answer (λ reply. blames_now reply ≡ true → Rose o.before.faults.devices then'.faults.devices) → (o.before.stopped ≡ false → IsErrOf answer faults.Stopped ↔ IsTrue then'.stopped) → Obeys (AllDone l o) (AllWants l o) o.devices o.before then' o.old newer o.opens exp answer
      leaves_all answer calm plain ends works goes down device here stops = record {
        to = b.to;
        obeys = (
          own,
          told_on,
          record { ends = ends; sound = sound_on },
        );
        works = works;
        limit = limit_on;
        longer = λ going_on. longer_by (goes going_on);
        opened = were_opened exp (reply_of answer) o.opens b.to o.devices calm (opened_now plain);
        down = down;
        device = device;
        here = here;
        later = omega (arith, h.disk, b.later);
        still = omega (arith, h.devices, b.still);
        stopped = stops;
      }

      -- it is closed by this one
      abbrev Before : Reply → (List ℕ → List ℕ → List Event) → List Event → Type 0
      Before reply behind t = IsSound the_texts t → AllShut (done_as J start) (trace_in now.told) b.obeys.0 reply behind t

      shuts_all : (reply : Reply) (behind : List ℕ → List ℕ → List Event) (answer : Reply) → last_reply l at (Some reply) ≡ Some answer → Leaves (trace_in now.told) J start b.obeys.0 reply behind → Shuts (AllDone l o) trace own answer behind
      shuts_all reply behind answer is leaves = record {
        lab = leaves.lab;
        done = λ a c. whole leaves.lab a c (leaves.done a c);
        images =
            if_both trace (Sound h.own) (λ t. Before reply behind (t ++ h.own)) (λ t. IsSound the_texts t → AllShut (AllDone l o) trace own answer behind t)
            (λ t sound images first a c possible. let i = images (sound first) a c (subst (λ t. ArePossible t a c) (sym (append_assoc t h.own b.obeys.0)) possible) in (i.0, i.1, whole i.0 a c i.2)) (sound_in h.own h.sound)
            (trace_back o.before.told now.told h.own (Before reply behind) h.told leaves.images);
      }
        where
          whole : (lab : LabState) (a c : List ℕ) → IsDone J start (b.obeys.0 ++ behind a c) (Some reply) lab Closed → (AllDone l o) trace (own ++ behind a c) (shut_by (Some answer) lab)
          whole lab a c done =
              broken h.own (b.obeys.0 ++ behind a c) at new.lab h.to (Some reply) lab (append_assoc h.own b.obeys.0 (behind a c)) h.past (next (b.obeys.0 ++ behind a c) (shut_by (Some reply) lab) done)
              (ap (λ r. shut_by r lab) (sym is))

    -- THE PLANT RUNS ON after a reply
    runs_on : (reply : Reply) → (now.stopped ≡ false → IsErrOf (Ok reply) faults.Stopped ↔ IsTrue then'.stopped) → now.stopped ≡ false → then'.stopped ≡ false
    runs_on reply stops ran = by then'.stopped (stops ran)
      where
        by : (stopped : Bool) → IsErrOf (Ok reply) faults.Stopped ↔ IsTrue stopped → stopped ≡ false
        by false is = refl
        by true is = let none' : Ok reply ≡ Err faults.Stopped = is.1 refl in absurd (cc none')

    -- IT IS ANSWERED, and the controller goes on
    pub comes_on : TellsAll l → (reply : Reply) → closes reply ≡ false → ((name : List ℕ) → reply ≡ replies.More name → ⊥) → (b : Sub (Ok reply)) → (blames_device reply ≡ true → Rose (counted_from o.opens exp o.devices) then'.faults.devices)
        → (blames_device reply ≡ true → Rose now.faults.devices then'.faults.devices) → HasComeTo l o exp then' newer (l.behind at reply)
    comes_on tells reply goes plain b blames blames_here = record {
      to = b.to;
      own = own (Ok reply) b;
      told = told_on (Ok reply) b;
      past = more h.own at new.lab h.to h.past b.obeys.0 reply newer.lab b.to (next b.obeys.0 (open_by reply newer.lab b.to) (subst (λ x. Answers (trace_in now.told) J start b.obeys.0 reply newer.lab b.to x) goes b.obeys.2.ends));
      sound = of_trace o.before.told (Sound (own (Ok reply) b)) (sound_on (Ok reply) b);
      works = b.works (ap not goes);
      limit = limit_on (Ok reply) b;
      longer = longer_by (Ok reply) b (ap not goes);
      opened = opened_now (Ok reply) b (λ name is. plain name (same_Some reply (replies.More name) is));
      device = λ blaming. elim (tells.blames at reply blaming) [ inl before ↦ rose_on (counted_from o.opens exp o.devices) now.faults.devices then'.faults.devices (h.device before) b.still | inr this ↦ blames this ];
      here = λ blaming. elim (tells.here at reply blaming) [ inl before ↦ rose_on o.before.faults.devices now.faults.devices then'.faults.devices (h.here before) b.still | inr this ↦ Rose_since o.before.faults.devices now.faults.devices then'.faults.devices h.devices (blames_here this) ];
      disk = omega (arith, h.disk, b.later);
      devices = omega (arith, h.devices, b.still);
      runs = λ ran. runs_on reply b.stopped (h.runs ran);
    }

    -- a reply that closes tells of no swap that has begun, and is no stop
    shut_is_none : (reply : Reply) → closes reply ≡ true → (name : List ℕ) → reply ≡ replies.More name → ⊥
    shut_is_none reply shut name is = let both : false ≡ true = sym (ap closes is) ∙ shut in absurd (cc both)

    last_is : (reply : Reply) → closes reply ≡ true → last_reply l at (Some reply) ≡ Some (l.whole (l.behind at reply))
    last_is replies.Stopped is = absurd (cc is)
    last_is reply is = refl

    -- IT IS ANSWERED, and that closes the controller
    pub comes_shut : TellsAll l → (reply : Reply) → closes reply ≡ true → (b : Sub (Ok reply)) → (blames_device reply ≡ true → Rose (counted_from o.opens exp o.devices) then'.faults.devices)
        → (blames_device reply ≡ true → Rose now.faults.devices then'.faults.devices) → Obeys (AllDone l o) (AllWants l o) o.devices o.before then' o.old newer o.opens exp (Ok (l.whole (l.behind at reply)))
    comes_shut tells reply shut b blames blames_here =
        let answer : Reply = l.whole (l.behind at reply) in
        let shut_too : closes answer ≡ true = tells.shuts at reply shut in
        leaves_all (Ok reply) b (Ok answer) (λ name. shut_ends answer name shut_too) (λ name is. shut_is_none reply shut name (same_Some reply (replies.More name) is))
        (subst (λ x. AnswersBy (AllDone l o) trace (own (Ok reply) b) answer newer.lab b.to x) (sym shut_too)
        (shuts_all (Ok reply) b reply (λ a c. []) answer (last_is reply shut) (subst (λ x. Answers (trace_in now.told) J start b.obeys.0 reply newer.lab b.to x) shut b.obeys.2.ends)))
        (λ going_on. let both : false ≡ true = sym (ap not shut_too) ∙ going_on in absurd (cc both)) (λ going_on. let both : false ≡ true = sym (ap not shut_too) ∙ going_on in absurd (cc both)) (λ is. Rose_since o.before.faults.disk now.faults.disk then'.faults.disk h.disk (b.down shut))
        (λ blaming. elim (tells.blames at reply blaming) [ inl before ↦ rose_on (counted_from o.opens exp o.devices) now.faults.devices then'.faults.devices (h.device before) b.still | inr this ↦ blames this ])
        (λ blaming. elim (tells.here at reply blaming) [ inl before ↦ rose_on o.before.faults.devices now.faults.devices then'.faults.devices (h.here before) b.still | inr this ↦ Rose_since o.before.faults.devices now.faults.devices then'.faults.devices h.devices (blames_here this) ])
        (λ ran. (λ is. let none' : Ok answer ≡ Err faults.Stopped = is in absurd (cc none'), λ stop. let both : true ≡ false = sym stop ∙ runs_on reply b.stopped (h.runs ran) in absurd (cc both)))

    -- THE PLANT STOPPED in it
    pub comes_to_stop : (b : Sub (Err faults.Stopped)) → Obeys (AllDone l o) (AllWants l o) o.devices o.before then' o.old newer o.opens exp (Err faults.Stopped)
    comes_to_stop b =
        leaves_all (Err faults.Stopped) b (Err faults.Stopped) (λ name. refl) (λ name is. absurd (cc is)) (shuts_all (Err faults.Stopped) b replies.Stopped (λ a c. Restarted a c ∷ []) replies.Stopped refl b.obeys.2.ends)
        (λ going_on. absurd (cc going_on)) (λ going_on. absurd (cc going_on)) tt tt tt (λ ran. b.stopped (h.runs ran))

    -- MEMORY WAS WANTING in it, which is undone
    pub comes_to_want : (J (Ok Recover) → ⊥) → (b : Sub (Err faults.Memory)) → Obeys (AllDone l o) (AllWants l o) o.devices o.before then' o.old newer o.opens exp (Err faults.Memory)
    comes_to_want no_recover b =
        leaves_all (Err faults.Memory) b (Err faults.Memory) (λ name. refl) (λ name is. absurd (cc is)) (at, stays b.obeys.2.ends) (λ going_on. b.works going_on) (λ going_on. going_on) tt tt tt (λ ran. b.stopped (h.runs ran))
      where
        stays : WantsIn J start b.obeys.0 newer.lab b.to → Came (own (Err faults.Memory) b) at newer.lab b.to
        stays (undone nothing lab_is to_is) =
            subst (λ (w : List Event × LabState × List OpenSwap). Came w.0 at w.1 w.2)
            (let steps : own (Err faults.Memory) b ≡ h.own = ap (λ l. h.own ++ l) nothing ∙ append-nil h.own in let all : (h.own, new.lab, h.to) ≡ (own (Err faults.Memory) b, newer.lab, b.to) = cc (steps, lab_is, to_is) in all) h.past
        stays (recovering judged first to_is) = absurd (no_recover judged)
