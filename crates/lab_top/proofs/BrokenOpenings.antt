-- Pieces whose opening broke off: nothing of the command's own is done.
use Rattle.std.proofs.Common.{◌≡◌, inl, inr, ⊎_elim, ℕ, ◌^◌, Bool, true, false, ◌||◌, ◌&&◌, List, [], ◌∷◌, ◌++◌, Option, Some, None, Err, refl, sym, ◌∙◌, ap, subst, append_assoc, arith}
use Rattle.std.specs.Prelude.{not, is_some}
use Rattle.std.proofs.lemmas.List.{append-nil}
use Rattle.std.proofs.lemmas.List.Folds.{list_any-append}
use Rattle.std.proofs.Math.Bool.{or-true}
use Rattle.plant.specs.declared.drill.Drill.{Drill}
use Rattle.plant.specs.declared.moment.Faults.{Faults}
use Rattle.plant.specs.declared.step.Side.TheVariants.{A, B}
use Rattle.plant.specs.Disks.{disk, ArePossible}
use Rattle.plant.specs.Events.{Event, Restarted}
use Rattle.records_model.specs.Labs.{LabState}
use Rattle.records_model.specs.Works.{IsSound}
use Rattle.records_model.proofs.Starts.{restarted}
use Rattle.journal_disk.specs.Before.{is_sync_of, are_synced}
use Rattle.journal_disk.specs.declared.fault.OpenFault.{OpenFault}
use Rattle.journal_disk.specs.declared.fault.OpenFault.TheVariants as openings
use Rattle.swap_turns.specs.Pieces.{is_command, is_miss, is_outer, has_command, has_miss, has_outer, has_restart}
use Rattle.swap_turns.proofs.Blank.{restarted_alone, restarted_stand}
use Rattle.swap_turns.proofs.Quiet.{shows}
use Rattle.swap_turns.proofs.Stood.{sound_stands, stood_alike, stood_before, stood_once, stood_settled}
use Rattle.lab_state.specs.Texts.{the_texts}
use Rattle.recovery.specs.Due.{swaps_of}
use Rattle.swap_turns.specs.Settling.{Settles}
use Rattle.swap_turns.specs.Turning.{Outcome, Unwritten, Stopped as Halted}
use Rattle.script_text.specs.declared.command.Command.{Command}
use Rattle.script_text.specs.declared.reply.Reply.TheVariants as replies
use Rattle.script_text.specs.declared.reply.Reply.{Reply}
use Rattle.script_text.specs.Drills.{drill_of}
use Rattle.lab_core.specs.Breaks.{Breaks, stopped, failed, unanswered}
use Rattle.lab_core.specs.LabSteps.{not_opened}
use Rattle.lab_core.specs.Moments.{IsBlankOrFirst, StandForLab, IsLabAt, IsLabOfImage, IsLengthAt}
use Rattle.lab_core.specs.Opening.{HasRead, IsJournal, MakesFirst, OpenEnds, OpenSteps, ReadSteps, SettlesInPart, ShiftsInPart, has_change, is_change}
use Rattle.lab_core.proofs.Openings.{blank_journal}
use Rattle.lab_core.proofs.OuterSteps.{no_start}
use Rattle.lab_state.proofs.Canonical.{texts_once}
use Rattle.lab_core.specs.Recovery.{OpensInPart, SettlesSome, Shifts, reading as in_reading, settling as in_settling, shifting as in_shifting, some as settled_some, within}
use Rattle.lab_core.specs.Sessions.{Closed, Terms}
use Rattle.lab_top.specs.Pieces.{Finds, FirstLab, HasCome, IsDone, IsDue, IsPiece, MovesDue, Piece, StepsFrom, WritesInPart, broken_off, is_early, leaves_one, may_shut}
use Rattle.lab_top.specs.Answering.{piece_of}
use Rattle.lab_top.proofs.Stepping.{AsRead, ImagesAt, after_of, done_at, has_started, lab_length, late_enough, not_early, restarted_lab, step_of, still_synced, told_so}

-- an opening that broke off is none in which no call failed or stopped, where there is a reply
pub breaks_not : {X : Type 0} (opening : List Event) (reply : Option Reply) → Breaks opening reply → has_miss opening ≡ false → has_restart opening ≡ false → is_some reply ≡ true → X
breaks_not opening reply (stopped ends is) miss restart some = absurd (cc (has_started opening ends, restart))
breaks_not opening reply (failed once missed is) miss restart some = absurd (cc (miss, missed))
breaks_not opening reply (unanswered is) miss restart some = absurd (cc (ap is_some is, some))

-- what holds of `stopped`, of `down` and of no reply
pub breaks_as : (is : Option Reply → Bool) (x : Bool) → is (Some replies.Stopped) ≡ x → is (Some replies.Down) ≡ x → is None ≡ x → (opening : List Event) (reply : Option Reply) → Breaks opening reply → is reply ≡ x
breaks_as is x stops downs none opening reply (stopped ends told) = ap is told ∙ stops
breaks_as is x stops downs none opening reply (failed once missed told) = ap is told ∙ downs
breaks_as is x stops downs none opening reply (unanswered told) = ap is told ∙ none

again_breaks : (steps : List Event) (a b : List ℕ) → has_outer steps ≡ false → Breaks (steps ++ Restarted a b ∷ []) (Some replies.Stopped)
again_breaks steps a b none = stopped (record { front = steps; a = a; b = b; is = refl; once = none }) refl

or_none : (x : Bool) → x || (false || false) ≡ x
or_none true = refl
or_none false = refl

-- a start changes nothing
again_changes : (steps : List Event) (a b : List ℕ) → has_change (steps ++ Restarted a b ∷ []) ≡ has_change steps
again_changes steps a b = list_any-append is_change steps (Restarted a b ∷ []) ∙ or_none (has_change steps)

synced_with : (steps : List Event) (a b : List ℕ) → are_synced (steps ++ Restarted a b ∷ []) ≡ are_synced steps
synced_with steps a b i =
    (list_any-append (is_sync_of A) steps (Restarted a b ∷ []) ∙ or_none _) i
    && (list_any-append (is_sync_of B) steps (Restarted a b ∷ []) ∙ or_none _) i

module _ (terms : Terms) (trace : List Event) (command : Command) (mark : Faults) (no_drill : drill_of command ≡ None) where
  abbrev of : List Event → Option Reply → Piece
  of opening reply = piece_of command mark Closed Closed opening [] reply

  abbrev Done : List Event → Option Reply → Type 0
  Done opening reply = IsSound the_texts trace → IsDone terms trace (of opening reply)

  -- THE STEP of such a piece, as far as the opening came
  broken_steps : (opening : List Event) (reply : Option Reply) (s after : LabState) (n : (k : ℕ) × IsLengthAt (trace ++ opening) k) → OpensInPart s opening after → Breaks opening reply → StepsFrom terms trace (of opening reply) s after
  broken_steps opening reply s after n part breaks = record {
    length = n.0;
    length_is = n.1;
    told = reply;
    session = Closed;
    behind = [];
    is_told = told_so reply Closed;
    step = step_of terms trace _ s Closed command opening [] (after_of reply after Closed) no_drill (not_opened (record { part = part; nothing = refl; breaks = breaks; session = refl }));
  }

  -- an image after such an opening
  abbrev Each : List Event → Type 0
  Each opening = (a b : List ℕ) → ArePossible (trace ++ opening) a b → (s : LabState) × (after : LabState) × IsLabOfImage trace s × StandForLab a b after × OpensInPart s opening after

  module _ (opening : List Event) (reply : Option Reply) (breaks : Breaks opening reply) (first last : LabState) (from : FirstLab (is_early (of opening reply)) trace first) (at : IsLabAt (trace ++ opening) last) (part : OpensInPart first opening last)
      (sound : IsSound the_texts (trace ++ opening)) where
    broken_done : ImagesAt terms trace (of opening reply) (leaves_one Closed reply) (trace ++ opening) last → IsDone terms trace (of opening reply)
    broken_done images =
        done_at terms trace (of opening reply) (trace ++ opening) (ap (λ l. trace ++ l) (append-nil opening)) first last from (broken_steps opening reply first last (lab_length (trace ++ opening) last at) part breaks)
        (λ opens. ⊎_elim (λ some. breaks_not opening reply breaks opens.no_miss opens.no_restart some) (λ other. absurd (other refl)) opens.went_on) sound at images

    -- the controller is closed, and the plant isn't started again
    closed_done : leaves_one Closed reply ≡ false → Each opening → IsDone terms trace (of opening reply)
    closed_done other each =
        broken_done (subst (λ b. ImagesAt terms trace (of opening reply) b (trace ++ opening) last) (sym other)
        (λ a b there. let x = each a b there in (x.0, x.1, x.2, x.3, broken_steps opening reply x.0 x.1 (lab_length (trace ++ opening) last at) x.4 breaks)))

  -- a stopped plant is started again with an image
  again_done : (steps : List Event) (a b : List ℕ) → has_outer steps ≡ false → ArePossible (trace ++ steps) a b → IsSound the_texts (trace ++ steps) → (first last : LabState)
      → FirstLab (is_early (of (steps ++ Restarted a b ∷ []) (Some replies.Stopped))) trace first → StandForLab a b last → OpensInPart first (steps ++ Restarted a b ∷ []) last → IsDone terms trace (of (steps ++ Restarted a b ∷ []) (Some replies.Stopped))
  again_done steps a b none there sound first last from stand part =
      let opening = steps ++ Restarted a b ∷ [] in
      let join : (trace ++ steps) ++ Restarted a b ∷ [] ≡ trace ++ opening = append_assoc trace steps (Restarted a b ∷ []) in
      broken_done opening (Some replies.Stopped) (again_breaks steps a b none) first last from (subst (λ l. IsLabAt l last) join (restarted_lab (trace ++ steps) a b last stand)) part
      (subst (λ l. IsSound the_texts l) join (restarted the_texts (trace ++ steps) a b there sound).0) (subst (λ l. (x y : List ℕ) → ArePossible l x y → StandForLab x y last) join (restarted_stand the_texts (trace ++ steps) a b last stand))

  -- OVER ANY TRACE
  abbrev OnlyOfJournal : List Event → Type 0
  OnlyOfJournal opening = has_change opening ≡ true → IsJournal (disk A trace).reads (disk B trace).reads (2 ^ 32)

  -- how far it came from a lab that the sides stood for
  abbrev ComesSoFar : List Event → Type 0
  ComesSoFar opening = (s : LabState) → IsLabAt trace s → HasCome trace opening s

  broken_piece : (opening : List Event) (reply : Option Reply) → AsRead trace → Breaks opening reply → OnlyOfJournal opening → ComesSoFar opening → Done opening reply → IsPiece terms trace (of opening reply)
  broken_piece opening reply readable breaks journal part done = record {
    readable = readable;
    finds = subst (λ (d : Option Drill). Finds d Closed trace (of opening reply)) (sym no_drill) (journal, broken_off breaks refl refl part);
    leaves = λ shut. refl;
    shuts = λ none shut. breaks_as may_shut true refl refl refl opening reply breaks;
    steps = λ none some miss restart. breaks_not opening reply breaks miss restart some;
    leads = λ none open_now. absurd (cc open_now);
    done = done;
  }

  -- IT BROKE OFF IN READING
  module _ (readable : AsRead trace) (steps : List Event) (o : ReadSteps trace steps) where
    read_quiet : OnlyOfJournal steps
    read_quiet changed = blank_journal _ _ (2 ^ 32) (omega arith) (o.changes changed).blank

    -- a call of the disk failed, memory was wanting, or the sides are no journal
    read_cut : (reply : Option Reply) → leaves_one Closed reply ≡ false → Breaks steps reply → IsPiece terms trace (of steps reply)
    read_cut reply other breaks = broken_piece steps reply readable breaks read_quiet (λ s at. record { after = s; part = in_reading o.no_command refl; writes = o.changes }) (λ sound.
        let now = sound_stands the_texts trace _ _ readable sound in
        closed_done steps reply breaks now.0 now.0 (subst (λ b. FirstLab b trace now.0) (sym (not_early Closed steps (no_start steps o.no_outer))) now.1) ((stood_alike the_texts _ _ _ _ now.0 o.alike).1 now.1) (in_reading o.no_command refl) (o.sound sound) other
        (λ a b at. let x = stood_before the_texts trace steps a b o.before at sound in (x.2, x.2, record { a = x.0; b = x.1; possible = x.3; stand = x.4 }, x.5, in_reading o.no_command refl)))

    -- the plant stopped, and is started again
    module _ (a b : List ℕ) (there : ArePossible (trace ++ steps) a b) where
      again_quiet : has_command (steps ++ Restarted a b ∷ []) ≡ false
      again_quiet = shows is_command (steps ++ Restarted a b ∷ []) steps (Restarted a b ∷ []) false false refl o.no_command refl

      early : (true && (has_restart (steps ++ Restarted a b ∷ []) && not (are_synced (steps ++ Restarted a b ∷ [])))) ≡ not (are_synced steps)
      early i = has_started (steps ++ Restarted a b ∷ []) (record { front = steps; a = a; b = b; is = refl; once = o.no_outer }) i && not (synced_with steps a b i)

      -- the first lab, and that it is the last one
      which_first : IsSound the_texts trace → (synced : Bool) → are_synced steps ≡ synced → (s : LabState) × FirstLab (not synced) trace s × StandForLab a b s
      which_first sound true both = let now = sound_stands the_texts trace _ _ readable sound in (now.0, now.1, stood_settled the_texts trace steps a b now.0 o.settled both there now.1)
      which_first sound false both = let x = stood_before the_texts trace steps a b o.before there sound in (x.2, record { a = x.0; b = x.1; possible = x.3; stand = x.4 }, x.5)

      -- what the start leaves was possible before it
      makes_again : MakesFirst trace steps → MakesFirst trace (steps ++ Restarted a b ∷ [])
      makes_again makes = record {
        blank = makes.blank;
        first = λ c d possible.
            let alone = restarted_alone (trace ++ steps) a b c d (subst (λ l. ArePossible l c d) (sym (append_assoc trace steps (Restarted a b ∷ []))) possible) in
            subst (λ x. IsBlankOrFirst x d) (sym alone.0) (subst (λ y. IsBlankOrFirst a y) (sym alone.1) (makes.first a b there));
      }

      read_again : IsPiece terms trace (of (steps ++ Restarted a b ∷ []) (Some replies.Stopped))
      read_again = broken_piece (steps ++ Restarted a b ∷ []) (Some replies.Stopped) readable (again_breaks steps a b o.no_outer) (λ changed. read_quiet (sym (again_changes steps a b) ∙ changed)) (λ s at. record { after = s; part = in_reading again_quiet refl; writes = λ changed. makes_again (o.changes (sym (again_changes steps a b) ∙ changed)) }) (λ sound.
          let s = which_first sound (are_synced steps) refl in
          again_done steps a b o.no_outer there (o.sound sound) s.0 s.0 (subst (λ e. FirstLab e trace s.0) (sym early) s.1) s.2 (in_reading again_quiet refl))

  -- IT BROKE OFF AFTER READING, in a part that led to a lab
  module _ (readable : AsRead trace) (reading behind : List Event) (o : ReadSteps trace reading) (no_outer : has_outer behind ≡ false) (sound : IsSound the_texts trace → IsSound the_texts (trace ++ (reading ++ behind)))
      (start : LabState) (read : HasRead trace reading (2 ^ 32) start) (Part : List Event → LabState → Type 0) (part_of : (opening more : List Event) (after : LabState) → opening ≡ reading ++ more → Part more after → OpensInPart start opening after)
      (writes_of : (opening more : List Event) (after : LabState) (is : opening ≡ reading ++ more) (part : Part more after) → WritesInPart trace start opening after (part_of opening more after is part)) where
    abbrev steps : List Event
    steps = reading ++ behind

    first_at : IsLabAt trace start
    first_at = (stood_alike the_texts _ _ _ _ start o.alike).0 read.lab

    -- from whatever lab the sides stood for
    comes_so : (opening more : List Event) (lab : LabState) → opening ≡ reading ++ more → Part more lab → ComesSoFar opening
    comes_so opening more lab is part s at =
        subst (λ u. HasCome trace opening u) (stood_once the_texts _ _ start s texts_once first_at at) (record { after = lab; part = part_of opening more lab is part; writes = writes_of opening more lab is part })

    -- it stopped late enough, whatever stands after
    from_first : (opening more : List Event) (reply : Option Reply) → opening ≡ reading ++ more → FirstLab (is_early (of opening reply)) trace start
    from_first opening more reply is = subst (λ b. FirstLab b trace start) (sym (late_enough opening (ap are_synced is ∙ still_synced reading more read.synced))) first_at

    part_cut : (reply : Option Reply) → leaves_one Closed reply ≡ false → Breaks steps reply → (lab : LabState) → Part behind lab → (last : IsSound the_texts trace → (lab : LabState) × IsLabAt (trace ++ steps) lab × Part behind lab)
        → (IsSound the_texts trace → (a b : List ℕ) → ArePossible (trace ++ steps) a b → (lab : LabState) × StandForLab a b lab × Part behind lab) → IsPiece terms trace (of steps reply)
    part_cut reply other breaks lab part last each = broken_piece steps reply readable breaks (λ sent. read.journal) (comes_so steps behind lab refl part) (λ first.
        let x = last first in
        closed_done steps reply breaks start x.0 (from_first steps behind reply refl) x.1 (part_of steps behind x.0 refl x.2) (sound first) other
        (λ a b at. let y = each first a b at in (start, y.0, record { a = (disk A trace).reads; b = (disk B trace).reads; possible = readable; stand = first_at }, y.1, part_of steps behind y.0 refl y.2)))

    none_outer : has_outer steps ≡ false
    none_outer = shows is_outer steps reading behind false false refl o.no_outer no_outer

    part_again : (a b : List ℕ) → ArePossible (trace ++ steps) a b → (lab : LabState) → Part (behind ++ Restarted a b ∷ []) lab → (IsSound the_texts trace → (lab : LabState) × StandForLab a b lab × Part (behind ++ Restarted a b ∷ []) lab) → IsPiece terms trace (of (steps ++ Restarted a b ∷ []) (Some replies.Stopped))
    part_again a b there lab part image = broken_piece (steps ++ Restarted a b ∷ []) (Some replies.Stopped) readable (again_breaks steps a b none_outer) (λ sent. read.journal) (comes_so (steps ++ Restarted a b ∷ []) (behind ++ Restarted a b ∷ []) lab (append_assoc reading behind (Restarted a b ∷ [])) part) (λ first.
        let more = behind ++ Restarted a b ∷ [] in
        let join : steps ++ Restarted a b ∷ [] ≡ reading ++ more = append_assoc reading behind (Restarted a b ∷ []) in
        let x = image first in
        again_done steps a b none_outer there (sound first) start x.0 (from_first (steps ++ Restarted a b ∷ []) more (Some replies.Stopped) join) x.1 (part_of (steps ++ Restarted a b ∷ []) more x.0 join x.2))

  -- IT BROKE OFF IN SETTLING
  abbrev Settling : LabState → List Event → LabState → Type 0
  Settling start more lab = SettlesSome start [] more lab

  abbrev settling_part : (reading : List Event) (limit : ℕ) (start : LabState) → ReadSteps trace reading → HasRead trace reading limit start → (opening more : List Event) (after : LabState) → opening ≡ reading ++ more → Settling start more after → OpensInPart start opening after
  settling_part reading limit start o read opening more after is settled = in_settling reading more is o.no_command read.no_miss o.no_outer settled

  settling_writes : (reading : List Event) (limit : ℕ) (start : LabState) (o : ReadSteps trace reading) (read : HasRead trace reading limit start) (opening more : List Event) (after : LabState) (is : opening ≡ reading ++ more) (settled : Settling start more after)
      → WritesInPart trace start opening after (settling_part reading limit start o read opening more after is settled)
  settling_writes reading limit start o read opening more after is settled = o.changes

  -- IT BROKE OFF IN THE MOVE OF THE JOURNAL
  record Shifting (reading : List Event) (start : LabState) (more : List Event) (lab : LabState) : Type 0 where
    moving : List Event
    shifting : List Event
    parts : more ≡ moving ++ shifting
    outcomes : List Outcome
    settles : Settles start (swaps_of [] start.experiments) outcomes moving lab
    shifts : Shifts shifting
    due : MovesDue trace (reading ++ moving) shifting lab

  abbrev shifting_part : (reading : List Event) (limit : ℕ) (start : LabState) → ReadSteps trace reading → HasRead trace reading limit start → (opening more : List Event) (after : LabState) → opening ≡ reading ++ more → Shifting reading start more after → OpensInPart start opening after
  shifting_part reading limit start o read opening more after is x = in_shifting reading x.moving x.shifting (is ∙ ap (λ l. reading ++ l) x.parts) o.no_command read.no_miss o.no_outer x.outcomes x.settles x.shifts

  shifting_writes : (reading : List Event) (limit : ℕ) (start : LabState) (o : ReadSteps trace reading) (read : HasRead trace reading limit start) (opening more : List Event) (after : LabState) (is : opening ≡ reading ++ more) (x : Shifting reading start more after)
      → WritesInPart trace start opening after (shifting_part reading limit start o read opening more after is x)
  shifting_writes reading limit start o read opening more after is x = (o.changes, x.due)

  -- BY ITS FAULT, without a start of the plant
  module _ (reading behind : List Event) (fault : OpenFault) (o : OpenSteps trace reading behind (2 ^ 32) (Err fault)) (readable : AsRead trace) where
    abbrev all : List Event
    all = reading ++ behind

    nothing_after : behind ≡ [] → reading ≡ all
    nothing_after none = sym (append-nil reading) ∙ ap (λ l. reading ++ l) (sym none)

    pub nothing_outer : has_outer all ≡ false
    nothing_outer = shows is_outer all reading behind false false refl o.reads.no_outer o.no_outer

    missed_behind : has_miss behind ≡ true → has_miss all ≡ true
    missed_behind missed = shows is_miss all reading behind (has_miss reading) true refl refl missed ∙ or-true (has_miss reading)

    pub missed_in : fault ≡ openings.Plant → has_miss all ≡ true
    missed_in is = by (subst (λ f. OpenEnds trace reading behind (2 ^ 32) (Err f)) is o.ends)
      where
        by : OpenEnds trace reading behind (2 ^ 32) (Err openings.Plant) → has_miss all ≡ true
        by (inl read) = ap has_miss (sym (nothing_after read.0)) ∙ read.1
        by (inr (inl settling)) = missed_behind settling.0
        by (inr (inr shifting)) = missed_behind shifting.0

    -- the move of the journal
    module _ (p : ShiftsInPart trace reading behind (2 ^ 32)) where
      shifting_due : (behind : List Event) → has_change behind ≡ false → IsDue trace (reading ++ p.moving) (p.shifting ++ behind) p.lab
      shifting_due behind nothing = record { length = p.length; side = p.side; epoch = p.epoch; placed = p.settled.placed; to_move = p.to_move; moves = p.shifting; behind = behind; are = refl; aside = p.aside; nothing = nothing }

      shifting_so : Shifting reading p.settled.start behind p.lab
      shifting_so = record { moving = p.moving; shifting = p.shifting; parts = p.parts; outcomes = p.settled.outcomes; settles = p.settled.settles; shifts = p.shifts; due = λ changed. subst (λ l. IsDue trace (reading ++ p.moving) l p.lab) (append-nil p.shifting) (shifting_due [] refl) }

      shifting_cut : (reply : Option Reply) → leaves_one Closed reply ≡ false → Breaks all reply → AsRead (trace ++ all) → IsPiece terms trace (of all reply)
      shifting_cut reply other breaks then =
          let s = p.settled in
          part_cut readable reading behind o.reads o.no_outer o.sound s.start s.read (Shifting reading s.start) (shifting_part reading (2 ^ 32) s.start o.reads s.read) (shifting_writes reading (2 ^ 32) s.start o.reads s.read) reply other breaks p.lab shifting_so
          (λ first. (p.lab, p.images first _ _ then, shifting_so)) (λ first a b at. (p.lab, p.images first a b at, shifting_so))

      shifting_again : (a b : List ℕ) → ArePossible (trace ++ all) a b → IsPiece terms trace (of (all ++ Restarted a b ∷ []) (Some replies.Stopped))
      shifting_again a b there =
          let s = p.settled in
          let again : Shifting reading s.start (behind ++ Restarted a b ∷ []) p.lab = record {
            moving = p.moving;
            shifting = p.shifting ++ Restarted a b ∷ [];
            parts = ap (λ l. l ++ Restarted a b ∷ []) p.parts ∙ append_assoc p.moving p.shifting (Restarted a b ∷ []);
            outcomes = s.outcomes;
            settles = s.settles;
            shifts = shows is_command (p.shifting ++ Restarted a b ∷ []) p.shifting (Restarted a b ∷ []) false false refl p.shifts refl;
            due = λ changed. shifting_due (Restarted a b ∷ []) refl;
          } in
          part_again readable reading behind o.reads o.no_outer o.sound s.start s.read (Shifting reading s.start) (shifting_part reading (2 ^ 32) s.start o.reads s.read) (shifting_writes reading (2 ^ 32) s.start o.reads s.read) a b there p.lab again (λ first. (p.lab, p.images first a b there, again))

    -- the settling, by what is left where a call of the journal failed, or the plant stopped
    module _ (outcome : Outcome) (p : SettlesInPart trace reading behind (2 ^ 32) outcome) where
      settling_cut : (reply : Option Reply) → leaves_one Closed reply ≡ false → Breaks all reply → AsRead (trace ++ all) → IsPiece terms trace (of all reply)
      settling_cut reply other breaks then =
          part_cut readable reading behind o.reads o.no_outer o.sound p.start p.read (Settling p.start) (settling_part reading (2 ^ 32) p.start o.reads p.read) (settling_writes reading (2 ^ 32) p.start o.reads p.read) reply other breaks p.lab (within outcome behind [] (sym (append-nil behind)) p.breaks (inl refl))
          (λ first. each_some first _ _ then) each_some
        where
          each_some : IsSound the_texts trace → (a b : List ℕ) → ArePossible (trace ++ all) a b → (lab : LabState) × StandForLab a b lab × Settling p.start behind lab
          each_some first a b at = let x = p.images first a b at in (x.0, x.1, within outcome behind [] (sym (append-nil behind)) x.2 (inl refl))

    settling_again : SettlesInPart trace reading behind (2 ^ 32) Halted → (a b : List ℕ) → ArePossible (trace ++ all) a b → IsPiece terms trace (of (all ++ Restarted a b ∷ []) (Some replies.Stopped))
    settling_again p a b there =
        part_again readable reading behind o.reads o.no_outer o.sound p.start p.read (Settling p.start) (settling_part reading (2 ^ 32) p.start o.reads p.read) (settling_writes reading (2 ^ 32) p.start o.reads p.read) a b there p.lab (within Halted behind (Restarted a b ∷ []) refl p.breaks (inr (a, b, refl)))
        (λ first. let x = p.images first a b there in (x.0, x.1, within Halted behind (Restarted a b ∷ []) refl x.2 (inr (a, b, refl))))

    pub cut_piece : (reply : Option Reply) → leaves_one Closed reply ≡ false → Breaks all reply → (is_some reply ≡ true → fault ≡ openings.Plant) → AsRead (trace ++ all) → IsPiece terms trace (of all reply)
    cut_piece reply other breaks only then = by fault o.ends only
      where
        read_only : behind ≡ [] → IsPiece terms trace (of all reply)
        read_only none = subst (λ l. IsPiece terms trace (of l reply)) (nothing_after none) (read_cut readable reading o.reads reply other (subst (λ l. Breaks l reply) (sym (nothing_after none)) breaks))

        by : (f : OpenFault) → OpenEnds trace reading behind (2 ^ 32) (Err f) → (is_some reply ≡ true → f ≡ openings.Plant) → IsPiece terms trace (of all reply)
        by f (inl read) only = read_only read.0
        by openings.Plant (inr (inl (missed, p))) only = settling_cut Unwritten p reply other breaks then
        by openings.Plant (inr (inr (missed, p))) only = shifting_cut p reply other breaks then
        by openings.Stopped (inr (inl p)) only = settling_cut Halted p reply other breaks then
        by openings.Stopped (inr (inr p)) only = shifting_cut p reply other breaks then
        by openings.Memory (inr (inl m)) only =
            part_cut readable reading behind o.reads o.no_outer o.sound m.start m.read (Settling m.start) (settling_part reading (2 ^ 32) m.start o.reads m.read) (settling_writes reading (2 ^ 32) m.start o.reads m.read) reply other breaks m.lab (settled_some m.some) (λ first. (m.lab, m.at, settled_some m.some))
            (λ first a b at. (m.lab, m.images a b at, settled_some m.some))
        by openings.Memory (inr (inr never)) only = absurd never
        by (openings.Bad side at) (inr (inl never)) only = absurd never
        by (openings.Bad side at) (inr (inr never)) only = absurd never

  -- where the plant stopped, and is started again
  pub again_piece : (reading behind : List Event) → OpenSteps trace reading behind (2 ^ 32) (Err openings.Stopped) → AsRead trace → (a b : List ℕ) → ArePossible (trace ++ (reading ++ behind)) a b
      → IsPiece terms trace (of ((reading ++ behind) ++ Restarted a b ∷ []) (Some replies.Stopped))
  again_piece reading behind o readable a b there = by o.ends
    where
      by : OpenEnds trace reading behind (2 ^ 32) (Err openings.Stopped) → IsPiece terms trace (of ((reading ++ behind) ++ Restarted a b ∷ []) (Some replies.Stopped))
      by (inl (none, read)) =
          let same = nothing_after reading behind openings.Stopped o readable none in
          subst (λ l. IsPiece terms trace (of (l ++ Restarted a b ∷ []) (Some replies.Stopped))) same (read_again readable reading o.reads a b (subst (λ l. ArePossible (trace ++ l) a b) (sym same) there))
      by (inr (inl p)) = settling_again reading behind openings.Stopped o readable p a b there
      by (inr (inr p)) = shifting_again reading behind openings.Stopped o readable p a b there
