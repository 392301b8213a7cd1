-- Recoveries without trouble: none moves but those with an open swap.
use Rattle.std.proofs.Common.{◌≡◌, inl, inr, ℕ, true, false, count_by, List, [], ◌∷◌, map, Option, Some, None, Result, Ok, refl, sym, ap, ◌∙◌, subst}
use Rattle.std.proofs.lemmas.Bool.{cases_Bool}
use Rattle.lab_base.specs.Lists.{Has, AllDiffer}
use Rattle.phys_lab.specs.Labs.{Lab}
use Rattle.plant.specs.Events.{Event}
use Rattle.virt_topo.specs.declared.experiment.Experiment.{Experiment}
use Rattle.lab_model.specs.Sound.{is_moving}
use Rattle.records_model.specs.Labs.{LabState, Sane}
use Rattle.script_text.specs.declared.command.Command.TheVariants as commands
use Rattle.script_text.specs.declared.reply.Reply.{Reply}
use Rattle.script_text.specs.declared.reply.Reply.TheVariants as replies
use Rattle.swap_turns.specs.Settling.{Settles, SettlesOne}
use Rattle.swap_turns.specs.Swaps.{Swap}
use Rattle.swap_turns.specs.Turning.{Outcome, More, TurnsBack, Ended, Stuck, Unwritten, Stopped}
use Rattle.recovery.specs.Due.{is_busy, swaps_of}
use Rattle.recovery.specs.Settle.{is_ended, is_stuck}
use Rattle.recovery.proofs.Resting.{differ_now, ended_one, left_after, left_first}
use Rattle.lab_core.specs.Breaks.{Breaks, stopped, failed, unanswered}
use Rattle.lab_tasks.specs.Needs.{◌>>=◌, need_lab}
use Rattle.lab_tasks.specs.Tasks.{Task, Recover}
use Rattle.lab_judge.specs.Judge.{judged_recover}
use Rattle.lab_core.specs.LabSteps.{Does, Replies}
use Rattle.lab_core.specs.Recovery.{HasRecovered, Opens, Recovers, settled, broken_off}
use Rattle.lab_core.specs.Sessions.{OpenSwap, Session, Closed, Open, Setting, After, names_of, Terms}
use Rattle.lab_core.specs.Tells.{BeginsAt, busy_of}
use Rattle.lab_core.proofs.StepLaws.{Was, done, wanting, broke, drilled, none_told}

-- WHO MOVES after a settling in which none got stuck is busy
settled_rest : (s : LabState) (busy : List (List ℕ)) (outcomes : List Outcome) (steps : List Event) (after : LabState) → AllDiffer (map (λ e. e.name) s.experiments) → Settles s (swaps_of busy s.experiments) outcomes steps after → count_by is_stuck outcomes ≡ 0
    → (e : Experiment) → Has after.experiments e → is_moving e ≡ true → is_busy busy e.name ≡ true
settled_rest s busy outcomes steps after differ settles none e there moving =
    elim (left_after busy (swaps_of busy s.experiments) s outcomes steps after differ settles none (left_first busy s.experiments) e there moving) [ inl is ↦ is | inr no' ↦ absurd no' ]

-- a settling leaves the names
one_names : (s : LabState) (p : Swap) (outcome : Outcome) (steps : List Event) (after : LabState) → AllDiffer (map (λ e. e.name) s.experiments) → SettlesOne s p outcome steps after → AllDiffer (map (λ e. e.name) after.experiments)
one_names s p (Ended leg) steps after differ one = differ_now [] p [] s after (ended_one s p (Ended leg) steps after one refl) differ
one_names s p (Stuck trouble) steps after differ one = subst (λ (x : LabState). AllDiffer (map (λ e. e.name) x.experiments)) (sym one.is.turn.3) differ
one_names s p More steps after differ one = absurd one.settled
one_names s p (TurnsBack why) steps after differ one = absurd one.settled
one_names s p Unwritten steps after differ one = absurd one.settled
one_names s p Stopped steps after differ one = absurd one.settled

names_after : (ps : List Swap) (outcomes : List Outcome) (s after : LabState) (steps : List Event) → AllDiffer (map (λ e. e.name) s.experiments) → Settles s ps outcomes steps after → AllDiffer (map (λ e. e.name) after.experiments)
names_after [] [] s after steps differ h = subst (λ (x : LabState). AllDiffer (map (λ e. e.name) x.experiments)) (sym h.1) differ
names_after [] (outcome ∷ outcomes) s after steps differ h = absurd h
names_after (p ∷ ps) [] s after steps differ h = absurd h
names_after (p ∷ ps) (outcome ∷ outcomes) s after steps differ h = names_after ps outcomes h.2 after h.1 (one_names s p outcome h.0 h.2 differ h.3) h.4

-- AFTER AN OPENING
pub opened_rest : (s mid : LabState) (opening : List Event) → Sane s → (is : Opens s opening mid) → count_by is_stuck is.outcomes ≡ 0 → (e : Experiment) → Has mid.experiments e → is_moving e ≡ false
opened_rest s mid opening sane is none e there = elim (cases_Bool (is_moving e)) [
  | inl yes' ↦ let busy : is_busy [] e.name ≡ true = settled_rest s [] is.outcomes is.moving mid sane.names is.settles none e there yes' in absurd (cc busy)
  | inr no' ↦ no'
]

-- AFTER `recover`
names_at : (session : Session) (s mid : LabState) (opening : List Event) → Sane s → BeginsAt session s opening mid → AllDiffer (map (λ e. e.name) mid.experiments)
names_at Closed s mid opening sane at = names_after _ at.outcomes s mid at.moving sane.names at.settles
names_at (Open opens) s mid opening sane at = subst (λ (x : LabState). AllDiffer (map (λ e. e.name) x.experiments)) (sym at) sane.names

module _ (own : List Event) (after : After) (number stuck : ℕ) (is : after.reply ≡ Some (replies.Recovered number stuck)) where
  broken_tells : {X : Type 0} (events : List Event) → Breaks events after.reply → X
  broken_tells events (stopped ends told) = let both : Some replies.Stopped ≡ Some (replies.Recovered number stuck) = sym told ∙ is in absurd (cc both)
  broken_tells events (failed no' miss told) = let both : Some replies.Down ≡ Some (replies.Recovered number stuck) = sym told ∙ is in absurd (cc both)
  broken_tells events (unanswered none) = none_told after.reply (replies.Recovered number stuck) none is

  recovers_so : (mid : LabState) (opens : List OpenSwap) → Recovers mid opens own after → HasRecovered mid (names_of opens) number stuck own after.lab
  recovers_so mid opens (settled outcomes settles told session) =
      let same : Some (replies.Recovered number stuck) ≡ Some (replies.Recovered (count_by is_ended outcomes) (count_by is_stuck outcomes)) = sym is ∙ told in
      record { outcomes = outcomes; settles = settles; done_are = sym (cc same); stuck_are = sym (cc same) }
  recovers_so mid opens (broken_off part breaks session) = broken_tells own breaks

  judged_is : (mid : LabState) (o : Option Lab) → mid.lab ≡ o → judged_recover mid ≡ (need_lab o >>= λ lab. let r : Result Task Reply = Ok Recover in r)
  judged_is mid o is = ap (λ (x : Option Lab). need_lab x >>= λ lab. let r : Result Task Reply = Ok Recover in r) is

  does_so : (set : Setting) (mid : LabState) (opens : List OpenSwap) (o : Option Lab) → mid.lab ≡ o → Does set mid opens (judged_recover mid) own after → HasRecovered mid (names_of opens) number stuck own after.lab
  does_so set mid opens None no_lab d =
      let told : Replies mid opens replies.NoLab own after = subst (λ (j : Result Task Reply). Does set mid opens j own after) (judged_is mid None no_lab) d in
      let both : Some replies.NoLab ≡ Some (replies.Recovered number stuck) = sym (ap (λ (x : After). x.reply) told.after_is) ∙ is in
      absurd (cc both)
  does_so set mid opens (Some lab) has_lab d = recovers_so mid opens (subst (λ (j : Result Task Reply). Does set mid opens j own after) (judged_is mid (Some lab) has_lab) d)

  pub recovered_so : (judgement : Result Task Reply) (terms : Terms) (set : Setting) (s : LabState) (session : Session) (opening : List Event) → Was None judgement terms set s session commands.Recover opening own after
      → (mid : LabState) × BeginsAt session s opening mid × HasRecovered mid (busy_of session) number stuck own after.lab
  recovered_so judgement terms set s session opening (done mid opens begins judged d) = (
    mid,
    begins.at,
    subst (λ (l : List OpenSwap). HasRecovered mid (names_of l) number stuck own after.lab) begins.are (does_so set mid opens mid.lab refl (subst (λ (j : Result Task Reply). Does set mid opens j own after) judged d)),
  )
  recovered_so judgement terms set s session opening (wanting mid opens begins wants) = none_told after.reply (replies.Recovered number stuck) (ap (λ (x : After). x.reply) wants.after_is) is
  recovered_so judgement terms set s session opening (broke no' closed breaks) = broken_tells opening breaks.breaks
  recovered_so judgement terms set s session opening (drilled some none drills) = absurd (cc some)

-- where none got stuck
pub recovered_rest : (own : List Event) (after : After) (number : ℕ) → after.reply ≡ Some (replies.Recovered number 0) → (judgement : Result Task Reply) (terms : Terms) (set : Setting) (s : LabState) (session : Session) (opening : List Event) → Sane s
    → Was None judgement terms set s session commands.Recover opening own after → (e : Experiment) → Has after.lab.experiments e → is_moving e ≡ true → is_busy (busy_of session) e.name ≡ true
recovered_rest own after number is judgement terms set s session opening sane step =
    let so = recovered_so own after number 0 is judgement terms set s session opening step in
    settled_rest so.0 (busy_of session) so.2.outcomes own after.lab (names_at session s so.0 opening sane so.1) so.2.settles so.2.stuck_are
