-- How many device commands a lab step sends at most.
use Rattle.std.proofs.Common.{◌≡◌, ◌⊎◌, inl, inr, ℕ, ◌≤◌, Bool, true, false, List, [], ◌∷◌, ◌++◌, append_assoc, Option, Some, None, Result, Ok, Err, length, refl, sym, ◌∙◌, ap, subst, arith}
use Rattle.lab_base.specs.Lists.{Has}
use Rattle.plant.specs.Events.{Event}
use Rattle.plant.specs.declared.drill.Drill.{Drill}
use Rattle.journal_rec.specs.declared.record.Record.{Record}
use Rattle.journal_rec.specs.declared.record.Record.TheVariants.{Begin}
use Rattle.journal_model.specs.Appends.{added}
use Rattle.records_model.specs.Labs.{LabState, lab_in}
use Rattle.recovery.specs.Due.{swaps_of}
use Rattle.swap_turns.specs.Records.{missed, nothing as no_steps}
use Rattle.swap_turns.specs.Turning.{Outcome, More, TurnsBack, Ended, Stuck, Unwritten, Stopped as Halted}
use Rattle.swap_turns.specs.Whole.{SwapSteps, begun, unwritten, stopped}
use Rattle.swap_turns.proofs.Endings.{append_quiet}
use Rattle.script_text.specs.Drills.{drill_of}
use Rattle.script_text.specs.declared.command.Command.{Command}
use Rattle.script_text.specs.declared.command.Command.TheVariants.{Audit, Batch, Play}
use Rattle.script_text.specs.declared.reply.Reply.{Reply}
use Rattle.lab_tasks.specs.Tasks.{Task, Tell, Append, Swap, BeginOnly, Turn, Finish, Recover}
use Rattle.lab_judge.specs.Judge.{is_unjudged}
use Rattle.lab_tasks.specs.OpenNames.{is_among, name_of}
use Rattle.lab_judge.proofs.Fits.{IsFit, fits}
use Rattle.lab_core.specs.Auditing.{Audits, no_lab, told as all_told, unread, no_memory as wants_in_audit}
use Rattle.lab_core.specs.Breaks.{StartsAfter}
use Rattle.lab_core.specs.Commands.{DoesCommand, LabStep}
use Rattle.lab_core.specs.LabSteps.{Appends, Begins, BeginSteps, Behind, Does, DoesBy, Drills, EndsSwap, IfSpace, IsAnswered, IsDoneBy, IsOneOf, JudgedBeside, Replies, StepOf, Swaps, Turns, does, has_space, is_planned, is_refused, is_told, missed as call_missed, no_memory, not_opened, nothing, opened, restarted, wants_memory}
use Rattle.lab_core.specs.Lists.{DoesNext, Ground, Listing, set_at}
use Rattle.lab_core.specs.Recovery.{Opens, OpensInPart, Recovers, SettlesSome, broken_off, reading, settled, settling, shifting, some, within}
use Rattle.lab_core.specs.Sessions.{OpenSwap, Session, Closed, Open, Setting, After, Terms, names_of}
use Rattle.lab_core.specs.Tells.{BeginsAt, opens_of}
use Rattle.lab_core.proofs.ListSteps.{plain_step}
use Rattle.lab_core.proofs.Listings.{IsAboutThese, IsPlain}
use Rattle.complete.specs.Bounds.{commands_in, most_settled}
use Rattle.complete.specs.Sends.{is_list, BeginsWithin, SendsWithin, TurnsWithin, none as sends_none, begins as sends_new, turns as sends_open, settles as sends_settling}
use Rattle.complete.proofs.JudgedBegun.{IsBegun, judged_begun}
use Rattle.complete.proofs.JudgedUncut.{IsJudgedUncut, judged_uncut}
use Rattle.complete.proofs.Sending.{breaks_few, broken_none, calm_none, commands_both, finish_few, open_few, settled_both, settled_more, whole_none}
use Rattle.lab_core.specs.Moments.{with_more}

-- what stands after the steps of a swap has no command
starts_none : (outcome : Outcome) (behind : List Event) → StartsAfter outcome behind → commands_in behind ≡ 0
starts_none Halted behind starts = ap commands_in starts.2
starts_none More behind starts = ap commands_in starts
starts_none (TurnsBack why) behind starts = ap commands_in starts
starts_none (Ended leg) behind starts = ap commands_in starts
starts_none (Stuck trouble) behind starts = ap commands_in starts
starts_none Unwritten behind starts = ap commands_in starts

answered_none : (reply : Option Reply) (opens : List OpenSwap) (outcome : Outcome) (behind : List Event) (after : After) → IsAnswered reply opens outcome behind after → commands_in behind ≡ 0
answered_none reply opens outcome behind after (is_told starts told session) = starts_none outcome behind starts

in_part : (own steps behind : List Event) → own ≡ steps ++ behind → commands_in behind ≡ 0 → commands_in own ≡ commands_in steps
in_part own steps behind is calm = omega (arith, ap commands_in is, commands_both steps behind, calm)

pub one_in : (opens : List OpenSwap) (exp : List ℕ) (one : IsOneOf opens exp) → Has opens one.swap
one_in opens exp one = subst (λ l. Has l one.swap) (sym one.are) (there one.front)
  where
    there : (front : List OpenSwap) → Has (front ++ one.swap ∷ one.rest) one.swap
    there [] = inl refl
    there (x ∷ front) = inr (there front)

-- SETTLING some, as far as that came
some_few : (s : LabState) (busy : List (List ℕ)) (steps : List Event) (after : LabState) → SettlesSome s busy steps after → commands_in steps ≤ most_settled (lab_in s.lab) (swaps_of busy s.experiments)
some_few s busy steps after (some f) =
    omega (arith, (settled_both s f.past f.outcomes steps after f.settles).0, ap (most_settled (lab_in s.lab)) f.all, settled_more (lab_in s.lab) f.past f.rest)
some_few s busy steps after (within outcome front behind is breaks (inl last)) =
    omega (arith, breaks_few s _ front outcome after breaks, ap commands_in is, commands_both front behind, ap commands_in last)
some_few s busy steps after (within outcome front behind is breaks (inr starts)) =
    omega (arith, breaks_few s _ front outcome after breaks, ap commands_in is, commands_both front behind, starts_none outcome behind starts)

-- AN OPENING, and one that broke off
abbrev pub OpensWithin : LabState → List Event → Type 0
OpensWithin s opening = commands_in opening ≤ most_settled (lab_in s.lab) (swaps_of [] s.experiments)

opens_few : (s : LabState) (opening : List Event) (mid : LabState) → Opens s opening mid → OpensWithin s opening
opens_few s opening mid o =
    omega (
      arith,
      ap commands_in o.is,
      commands_both o.reading (o.moving ++ o.shifting),
      commands_both o.moving o.shifting,
      calm_none o.reading o.reads,
      calm_none o.shifting o.shifts,
      (settled_both s (swaps_of [] s.experiments) o.outcomes o.moving mid o.settles).0,
    )

part_few : (s : LabState) (opening : List Event) (after : LabState) → OpensInPart s opening after → OpensWithin s opening
part_few s opening after (reading reads is) = omega (arith, calm_none opening reads)
part_few s opening after (settling front moving is reads miss outer part) =
    omega (arith, ap commands_in is, commands_both front moving, calm_none front reads, some_few s [] moving after part)
part_few s opening after (shifting front moving behind is reads miss outer outcomes all shifts) =
    omega (
      arith,
      ap commands_in is,
      commands_both front (moving ++ behind),
      commands_both moving behind,
      calm_none front reads,
      calm_none behind shifts,
      (settled_both s (swaps_of [] s.experiments) outcomes moving after all).0,
    )

-- A COMMAND'S OWN STEPS
module _ (set : Setting) (s : LabState) (opens : List OpenSwap) (own : List Event) (after : After) where
  -- a whole swap
  swap_few : (exp : List ℕ) (way : _) → (w : Swaps s opens exp (Begin exp way) own after) → (commands_in own ≡ 0) ⊎ BeginsWithin s exp own
  swap_few exp way w = by w.ends
    where
      calm : commands_in own ≡ commands_in w.steps
      calm = in_part own w.steps w.behind w.own_is (answered_none _ opens w.outcome w.behind after w.answered)

      by : SwapSteps w.swap s (Begin exp way) w.move w.steps after.lab w.outcome → (commands_in own ≡ 0) ⊎ BeginsWithin s exp own
      by (begun b) = inr (record {
        side = b.begins.side;
        gate = b.begins.gate;
        way = way;
        behind = b.behind ++ w.behind;
        own_is = w.own_is ∙ ap (λ l. l ++ w.behind) b.steps_are ∙ append_assoc b.front b.behind w.behind ∙ ap (λ l. l ++ (b.behind ++ w.behind)) b.begins.steps_are;
        move = w.move;
        says = w.says;
        state = b.state;
        gives = b.begins.moves;
        swap = w.swap;
        named = w.name;
        moves = w.moves b.state b.begins.moves;
        few = omega (arith, calm, ap commands_in b.steps_are, commands_both b.front b.behind, whole_none s _ w.move b.front b.state b.begins, finish_few b.state _ b.behind w.outcome after.lab b.finishes);
      })
      by (unwritten is told_it) = inl (calm ∙ broken_none missed (λ side. refl) s _ w.move w.steps after.lab is)
      by (stopped is told_it) = inl (calm ∙ broken_none no_steps (λ side. refl) s _ w.move w.steps after.lab is)

  -- a Begin alone
  begin_none : (exp : List ℕ) (entry : Record) (w : Begins s opens set.devices exp entry own after) → commands_in own ≡ 0
  begin_none exp entry w = in_part own w.steps w.behind w.own_is (answered_none _ _ w.outcome w.behind after w.answered) ∙ by w.outcome w.begins
    where
      by : (outcome : Outcome) → BeginSteps s entry w.move w.steps after.lab outcome → commands_in w.steps ≡ 0
      by More is = whole_none s entry w.move w.steps after.lab is
      by Unwritten is = broken_none missed (λ side. refl) s entry w.move w.steps after.lab is
      by Halted is = broken_none no_steps (λ side. refl) s entry w.move w.steps after.lab is
      by (TurnsBack why) is = absurd is
      by (Ended leg) is = absurd is
      by (Stuck trouble) is = absurd is

  append_none : (entry : Record) (told : Reply) → Appends s opens entry told own after → commands_in own ≡ 0
  append_none entry told a = omega (arith, ap commands_in a.steps, commands_both (added a.side a.gate entry a.run) a.more, calm_none (added a.side a.gate entry a.run) (append_quiet a.side a.gate entry a.run).0, by a.behind)
    where
      by : Behind a.side a.more → commands_in a.more ≡ 0
      by (nothing is) = ap commands_in is
      by (call_missed is) = ap commands_in is
      by (restarted x y is) = ap commands_in is

  replies_none : (reply : Reply) → Replies s opens reply own after → commands_in own ≡ 0
  replies_none reply d = ap commands_in d.nothing

  turn_within : (exp : List ℕ) → Turns s opens exp own after → TurnsWithin s opens exp own
  turn_within exp d =
      let calm = in_part own d.steps d.behind d.own_is (answered_none _ _ d.outcome d.behind after d.answered) in
      record {
        swap = d.one.swap;
        is_open = one_in opens exp d.one;
        named = d.one.name;
        moves = d.moves;
        few = omega (arith, calm, open_few s d.one.swap.running d.steps d.outcome after.lab d.turn);
      }

  finish_within : (exp : List ℕ) → EndsSwap s opens exp own after → TurnsWithin s opens exp own
  finish_within exp d =
      let calm = in_part own d.steps d.behind d.own_is (answered_none _ _ d.outcome d.behind after d.answered) in
      record {
        swap = d.one.swap;
        is_open = one_in opens exp d.one;
        named = d.one.name;
        moves = d.moves;
        few = omega (arith, calm, finish_few s d.one.swap.running d.steps d.outcome after.lab d.finishes);
      }

  recover_few : Recovers s opens own after → commands_in own ≤ most_settled (lab_in s.lab) (swaps_of (names_of opens) s.experiments)
  recover_few (settled outcomes settles told session) = (settled_both s _ outcomes own after.lab settles).0
  recover_few (broken_off part breaks session) = some_few s (names_of opens) own after.lab part

  if_space : (command : Command) (b : Bool) (Of : Type 0) (n : ℕ) → IfSpace b n s opens Of own after → (Of → SendsWithin s opens command own) → SendsWithin s opens command own
  if_space command true Of n d by = by d
  if_space command false Of n d by = sends_none (ap commands_in d.nothing)

  module _ (command : Command) (busy : Bool) (count : ℕ) where
    does_within : (j : Result Task Reply) → IsFit s command busy count j → IsBegun command j → IsJudgedUncut command j → Does set s opens j own after → SendsWithin s opens command own
    does_within (Err refusal) fit began turned d = sends_none (ap commands_in d.nothing)
    does_within (Ok (Tell told)) fit began turned d = sends_none (ap commands_in d.nothing)
    does_within (Ok (Append entry told)) fit began turned d = if_space command (has_space set entry) (Appends s opens entry told own after) set.length d (λ a. sends_none (append_none entry told a))
    does_within (Ok (Swap exp way)) fit began turned d = if_space command (has_space set (Begin exp way)) (Swaps s opens exp (Begin exp way) own after) set.length d
        (λ w. elim (swap_few exp way w) [ inl calm ↦ sends_none calm | inr b ↦ sends_new exp fit.0 began b ])
    does_within (Ok (BeginOnly exp way)) fit began turned d = if_space command (has_space set (Begin exp way)) (Begins s opens set.devices exp (Begin exp way) own after) set.length d (λ w. sends_none (begin_none exp (Begin exp way) w))
    does_within (Ok (Turn exp)) fit began turned d = sends_open exp turned (turn_within exp d)
    does_within (Ok (Finish exp)) fit began turned d = sends_open exp turned (finish_within exp d)
    does_within (Ok Recover) fit began turned d = sends_settling fit (recover_few d)

  done_within : (command : Command) (terms : Terms) → IsDoneBy (JudgedBeside terms.rule command opens s) set s opens own after → SendsWithin s opens command own
  done_within command terms (does j judged d) =
      let busy = is_among (names_of opens) (name_of command) in
      does_within command busy (length opens) j (fits s busy (length opens) terms.rule command j judged) (judged_begun s busy (length opens) terms.rule command j judged) (judged_uncut s busy (length opens) terms.rule command j judged) d
  done_within command terms (no_memory wants) = sends_none (ap commands_in wants.nothing)

-- A LAB STEP of a command that is no list: its opening, and its own part
module _ (terms : Terms) (at : Option (List Event)) (set : Setting) (s : LabState) (opening own : List Event) (after : After) where
  abbrev pub StepWithin : Session → Command → Type 0
  StepWithin session command = OpensWithin s opening × ((commands_in own ≡ 0) ⊎ ((mid : LabState) × BeginsAt session s opening mid × SendsWithin mid (opens_of session) command own))

  drill_none : (takes : Bool) (session : Session) → Drills takes s session own after → commands_in own ≡ 0
  drill_none takes session (is_planned takes_it nothing_is is) = ap commands_in nothing_is
  drill_none takes session (is_refused takes_none nothing_is is) = ap commands_in nothing_is
  drill_none takes session (wants_memory wants) = ap commands_in wants.nothing

  nothing_opened : opening ≡ [] → OpensWithin s opening
  nothing_opened is = omega (arith, ap commands_in is)

  step_within : (command : Command) (drill : Option Drill) (session : Session) → StepOf drill (DoesBy (JudgedBeside terms.rule command) set) terms s session opening own after → StepWithin session command
  step_within command (Some drill) session step = (nothing_opened step.0, inl (drill_none terms.takes session step.1))
  step_within command None Closed (opened mid opens d) = (opens_few s opening mid opens, inr (mid, opens, done_within set mid [] own after command terms d))
  step_within command None Closed (not_opened b) = (part_few s opening after.lab b.part, inl (ap commands_in b.nothing))
  step_within command None (Open opens) step = (nothing_opened step.0, inr (s, refl, done_within set s opens own after command terms step.1))

  -- an audit sends none
  audit_none : (trace : Option (List Event)) (mid : LabState) (opens : List OpenSwap) → Audits trace mid opens own after → commands_in own ≡ 0
  audit_none w mid opens (no_lab none d) = ap commands_in d.nothing
  audit_none w mid opens (all_told report nothing_is tells is) = ap commands_in nothing_is
  audit_none w mid opens (unread name own_is is) = ap commands_in own_is
  audit_none w mid opens (wants_in_audit wants) = ap commands_in wants.nothing

  audit_within : (session : Session) → LabStep terms at set s session Audit opening own after → StepWithin session Audit
  audit_within Closed (opened mid opens d) = (opens_few s opening mid opens, inl (audit_none (with_more at opening) mid [] d))
  audit_within Closed (not_opened b) = (part_few s opening after.lab b.part, inl (ap commands_in b.nothing))
  audit_within (Open opens) step = (nothing_opened step.0, inl (audit_none (with_more at opening) s opens step.1))

  plain_within : (command : Command) → is_unjudged command ≡ false → (session : Session) → LabStep terms at set s session command opening own after → StepWithin session command
  plain_within command no' session step = step_within command (drill_of command) session (plain_step terms at set s session command opening own after no' step)

  -- A LIST: its opening
  list_opens : (Of : List OpenSwap → LabState → List Event → After → Type 0) (session : Session) → StepOf None Of terms s session opening own after → OpensWithin s opening
  list_opens Of Closed (opened mid opens d) = opens_few s opening mid opens
  list_opens Of Closed (not_opened b) = part_few s opening after.lab b.part
  list_opens Of (Open opens) step = nothing_opened step.0

  pub opening_within : (command : Command) (session : Session) → LabStep terms at set s session command opening own after → OpensWithin s opening
  opening_within (Play exp from until lines text) session step = list_opens (DoesCommand terms.rule (Play exp from until lines text) (with_more at opening) set) session step
  opening_within (Batch moment lines text) session step = list_opens (DoesCommand terms.rule (Batch moment lines text) (with_more at opening) set) session step
  opening_within Audit session step = (audit_within session step).0
  opening_within command session step = (plain_within command refl session step).0

  pub own_within : (command : Command) → is_list command ≡ false → (session : Session) → LabStep terms at set s session command opening own after → StepWithin session command
  own_within (Play exp from until lines text) no' session step = absurd (cc no')
  own_within (Batch moment lines text) no' session step = absurd (cc no')
  own_within Audit no' session step = audit_within session step
  own_within command no' session step = plain_within command refl session step

-- THE NEXT COMMAND OF A LIST: a swap of one of its experiments, or none
module _ {X : Type 0} (l : Listing X) (Holds : X → Type 0) (about : List ℕ → Bool) (are : IsAboutThese l Holds about) (base : Ground) (trace : Option (List Event)) where
  plain_one : (set : Setting) (s : LabState) (opens : List OpenSwap) (own : List Event) (after : After) (command : Command) (busy : Bool) (count : ℕ) → ((n : List ℕ) → name_of command ≡ Some n → about n ≡ true)
      → (j : Result Task Reply) → IsPlain j → IsFit s command busy count j → Does set s opens j own after → (commands_in own ≡ 0) ⊎ ((exp : List ℕ) × (about exp ≡ true) × BeginsWithin s exp own)
  plain_one set s opens own after command busy count named (Err refusal) plain fit d = inl (ap commands_in d.nothing)
  plain_one set s opens own after command busy count named (Ok (Tell told)) plain fit d = inl (ap commands_in d.nothing)
  plain_one set s opens own after command busy count named (Ok (Swap exp way)) plain fit d = by (has_space set (Begin exp way)) d
    where
      by : (b : Bool) → IfSpace b set.length s opens (Swaps s opens exp (Begin exp way) own after) own after → (commands_in own ≡ 0) ⊎ ((exp : List ℕ) × (about exp ≡ true) × BeginsWithin s exp own)
      by true w = elim (swap_few set s opens own after exp way w) [ inl calm ↦ inl calm | inr b ↦ inr (exp, named exp fit.0, b) ]
      by false d = inl (ap commands_in d.nothing)
  plain_one set s opens own after command busy count named (Ok task) plain fit d = absurd plain

  pub next_within : (front : List Event) (at : X) (s : LabState) (opens : List OpenSwap) (steps : List Event) (after : After) → Holds at → DoesNext l base trace front at s opens steps after
      → (commands_in steps ≡ 0) ⊎ ((exp : List ℕ) × (about exp ≡ true) × BeginsWithin s exp steps)
  next_within front at s opens steps after holds next = by next.done
    where
      by : IsDoneBy (l.Judges at (set_at base next.length) s opens) (set_at base next.length) s opens steps after → (commands_in steps ≡ 0) ⊎ ((exp : List ℕ) × (about exp ≡ true) × BeginsWithin s exp steps)
      by (does j judged d) = let f = are.each at holds (set_at base next.length) s opens j judged in plain_one (set_at base next.length) s opens steps after f.command _ _ f.named j f.plain f.fit d
      by (no_memory wants) = inl (ap commands_in wants.nothing)
