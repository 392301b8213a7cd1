-- The answer to a supplied solution.
use Rattle.std.specs.Prelude.{nat_le}
use Rattle.std.proofs.Common.{◌≡◌, ◌≤◌, ◌⊎◌, inl, inr, ℕ, Bool, true, false, List, length, Option, Some, None, Result, Ok, Err, refl, sym, ap, ◌∙◌, subst, [], ◌∷◌, ◌++◌}
use Rattle.std.proofs.lemmas.Option.{same_Some}
use Rattle.virt_topo.specs.Wirings.{mapped}
use Rattle.plant.specs.Events.{Event}
use Rattle.phys_lab.specs.Labs.{Lab}
use Rattle.lab_base.specs.Lists.{Has}
use Rattle.lab_base.proofs.Members.{Has-map}
use Rattle.lab_base.specs.declared.fault.TextFault.{TextFault}
use Rattle.lab_base.specs.declared.ids.VlanId.{VlanId}
use Rattle.virt_topo.specs.declared.experiment.Experiment.{Experiment}
use Rattle.virt_topo.specs.declared.experiment.Phase.{Phase}
use Rattle.virt_topo.specs.declared.experiment.Phase.TheVariants.{Out, In as IsInside, Moving}
use Rattle.virt_topo.specs.declared.mapping.Mapped.{Mapped}
use Rattle.virt_topo.specs.declared.mapping.Mapping.{Mapping}
use Rattle.virt_topo.specs.declared.violation.Broken.{Broken}
use Rattle.virt_topo.specs.declared.violation.Subject.{Subject}
use Rattle.journal_rec.specs.declared.record.Record.{Record}
use Rattle.journal_rec.specs.declared.record.Record.TheVariants.{Begin}
use Rattle.journal_rec.specs.declared.record.Way.TheVariants.{In as WayIn}
use Rattle.lab_model.specs.Beside.{violation_beside}
use Rattle.records_model.specs.Labs.{LabState, Move, BeginsIn, find, moved, others}
use Rattle.records_model.proofs.Finding.{found_from}
use Rattle.solution_text.specs.CanonicalSolution.{canonical_solution}
use Rattle.solution_text.specs.Solutions.{mapping_of_text}
use Rattle.script_text.specs.declared.command.Command.TheVariants as commands
use Rattle.script_text.specs.declared.reply.Reply.{Reply}
use Rattle.script_text.specs.declared.reply.Reply.TheVariants as replies
use Rattle.script_text.specs.declared.reply.FailedEnd.TheVariants as ends
use Rattle.lab_base.specs.declared.what.What.TheVariants as whats
use Rattle.swap_txn.specs.Troubles.{what_of}
use Rattle.swap_turns.specs.Swaps.{Swap as SwapOf, Moves}
use Rattle.swap_turns.proofs.Begins.{moves_in}
use Rattle.swap_turns.specs.Legs.{Forth, Undo, Settling}
use Rattle.swap_turns.specs.Turning.{Outcome, More, TurnsBack, Ended, Stuck, Unwritten, Stopped as Halted}
use Rattle.swap_turns.specs.Whole.{SwapSteps, begun, unwritten, stopped as stopped_so}
use Rattle.lab_core.specs.Breaks.{Breaks, stopped, failed, unanswered}
use Rattle.lab_tasks.specs.Counts.{least_tags}
use Rattle.lab_tasks.specs.Needs.{◌>>=◌, need_kept, subject_name}
use Rattle.lab_tasks.specs.Tasks.{Task, Swap}
use Rattle.lab_tasks.specs.Mappings.{begun_as, in_slot, judged_mapping, judged_swapin_with}
use Rattle.lab_core.specs.LabSteps.{DoesBy, Does, IsDoneBy, does, no_memory, opened, not_opened, StepOf, IfSpace, Replies, Swaps, BeginSteps, Begins, begun_at, JudgedBeside, IsAnswered, is_told, has_space, done_reply, end_reply, turn_reply, undone_end}
use Rattle.lab_core.specs.Sessions.{OpenSwap, Session, Closed, Open, Setting, After, name_in, names_of, Terms}
use Rattle.lab_tasks.specs.OpenNames.{is_among}
use Rattle.lab_tasks.proofs.Busy.{busy_has}
use Rattle.lab_core.specs.Tells.{AllMove, BeginsAt, IsFeasibleFor, Hinders, TellsBroken, opens_of, taken_reply}

-- the reply tells that it was taken
abbrev pub is_taking : Reply → Bool
is_taking (replies.In exp) = true
is_taking (replies.More exp) = true
is_taking reply = false

taking : (only : Bool) (exp : List ℕ) → is_taking (taken_reply only exp) ≡ true
taking true exp = refl
taking false exp = refl

-- what is judged of it: it can be swapped in, or another reply refuses it
abbrev pub judged_for : LabState → Bool → ℕ → Bool → List ℕ → List ℕ → Result Task Reply
judged_for s busy count only exp text = in_slot count only (judged_swapin_with s busy exp text)

abbrev Refused : LabState → Bool → List ℕ → List ℕ → Type 0
Refused s busy exp text = (refusal : Reply) × (judged_swapin_with s busy exp text ≡ Err refusal) × (is_taking refusal ≡ false)

module _ (s : LabState) (exp text : List ℕ) where
  by_violation : (lab : Lab) (e : Experiment) (mapping : Mapping) (o : Option (Broken × Subject)) → violation_beside lab (others e.name s.experiments) e e.wiring mapping ≡ o
      → judged_mapping s lab e mapping ≡ (need_kept lab e.name e.wiring o >>= λ feasible. Ok (Swap e.name (WayIn (canonical_solution lab e.wiring mapping) (least_tags lab s.experiments (length e.wiring.segments)))))
  by_violation lab e mapping o is =
      ap (λ v. need_kept lab e.name e.wiring v >>= λ feasible. let r : Result Task Reply = Ok (Swap e.name (WayIn (canonical_solution lab e.wiring mapping) (least_tags lab s.experiments (length e.wiring.segments)))) in r) is

  -- where nothing refuses it before
  idle_reads : (lab : Lab) (e : Experiment) (mapping : Mapping) → s.lab ≡ Some lab → find exp s.experiments ≡ Some e → e.phase ≡ Out → mapping_of_text lab e.wiring text ≡ Ok mapping → judged_swapin_with s false exp text ≡ judged_mapping s lab e mapping
  idle_reads lab e mapping is found out reads = rw (is, found, out, reads) refl

  by_rule : (lab : Lab) (e : Experiment) (mapping : Mapping) (o : Option (Broken × Subject)) → s.lab ≡ Some lab → find exp s.experiments ≡ Some e → e.phase ≡ Out → mapping_of_text lab e.wiring text ≡ Ok mapping
      → violation_beside lab (others e.name s.experiments) e e.wiring mapping ≡ o → IsFeasibleFor s exp text ⊎ Refused s false exp text
  by_rule lab e mapping None is found out reads keeps = inl (record { lab = lab; is_lab = is; experiment = e; found = found; out = out; mapping = mapping; reads = reads; keeps = keeps })
  by_rule lab e mapping (Some (rule, subject)) is found out reads breaks = inr (replies.Infeasible e.name rule (subject_name lab e.wiring subject), idle_reads lab e mapping is found out reads ∙ by_violation lab e mapping (Some (rule, subject)) breaks, refl)

  by_text : (lab : Lab) (e : Experiment) (o : Result Mapping TextFault) → s.lab ≡ Some lab → find exp s.experiments ≡ Some e → e.phase ≡ Out → mapping_of_text lab e.wiring text ≡ o → IsFeasibleFor s exp text ⊎ Refused s false exp text
  by_text lab e (Ok mapping) is found out reads = by_rule lab e mapping (violation_beside lab (others e.name s.experiments) e e.wiring mapping) is found out reads refl
  by_text lab e (Err fault) is found out bad = inr (replies.Bad exp fault, rw (is, found, out, bad) refl, refl)

  by_phase : (lab : Lab) (e : Experiment) (phase : Phase) → s.lab ≡ Some lab → find exp s.experiments ≡ Some e → e.phase ≡ phase → IsFeasibleFor s exp text ⊎ Refused s false exp text
  by_phase lab e Out is found out = by_text lab e (mapping_of_text lab e.wiring text) is found out refl
  by_phase lab e (IsInside mapping tags) is found inside = inr (replies.IsIn exp, rw (is, found, inside) refl, refl)
  by_phase lab e (Moving old new) is found moving = inr (replies.IsMoving exp, rw (is, found, moving) refl, refl)

  by_found : (lab : Lab) (busy : Bool) (o : Option Experiment) → s.lab ≡ Some lab → find exp s.experiments ≡ o → IsFeasibleFor s exp text ⊎ Refused s busy exp text
  by_found lab busy None is found = inr (replies.Unknown exp, rw (is, found) refl, refl)
  by_found lab true (Some e) is found = inr (replies.Busy exp, rw (is, found) refl, refl)
  by_found lab false (Some e) is found = by_phase lab e e.phase is found refl

  by_lab : (busy : Bool) (o : Option Lab) → s.lab ≡ o → IsFeasibleFor s exp text ⊎ Refused s busy exp text
  by_lab busy None is = inr (replies.NoLab, rw is refl, refl)
  by_lab busy (Some lab) is = by_found lab busy (find exp s.experiments) is refl

  pub feasible_judged : (lab : Lab) (e : Experiment) (mapping : Mapping) → s.lab ≡ Some lab → find exp s.experiments ≡ Some e → e.phase ≡ Out → mapping_of_text lab e.wiring text ≡ Ok mapping → violation_beside lab (others e.name s.experiments) e e.wiring mapping ≡ None
      → judged_swapin_with s false exp text ≡ Ok (Swap e.name (WayIn (canonical_solution lab e.wiring mapping) (least_tags lab s.experiments (length e.wiring.segments))))
  feasible_judged lab e mapping is found out reads keeps = idle_reads lab e mapping is found out reads ∙ by_violation lab e mapping None keeps

  pub busy_judged : (lab : Lab) (e : Experiment) → s.lab ≡ Some lab → find exp s.experiments ≡ Some e → judged_swapin_with s true exp text ≡ Err (replies.Busy exp)
  busy_judged lab e is found = rw (is, found) refl

-- an experiment that is out has no open swap, where that of each moves
idle_where : (s : LabState) (exp : List ℕ) (e : Experiment) (opens : List OpenSwap) → AllMove opens s → find exp s.experiments ≡ Some e → e.phase ≡ Out → is_among (names_of opens) (Some exp) ≡ true → ⊥
idle_where s exp e opens all found out busy =
    let o = Has-map name_in opens exp (busy_has (names_of opens) exp busy) in
    let m = all o.0 o.1 in
    let same : m.exp ≡ e = same_Some m.exp e (sym m.found ∙ ap (λ (n : List ℕ). find n s.experiments) o.2 ∙ found) in
    let phases : Moving o.0.running.swap.old o.0.running.swap.new ≡ Out = sym m.moving ∙ ap (λ (x : Experiment). x.phase) same ∙ out in
    cc phases

-- where the command's own part begins they move still
moving_there : (session : Session) (s mid : LabState) (opening : List Event) (opens : List OpenSwap) → BeginsAt session s opening mid → opens ≡ opens_of session → AllMove (opens_of session) s → AllMove opens mid
moving_there Closed s mid opening opens begins are all o there = absurd (subst (λ l. Has l o) are there)
moving_there (Open old) s mid opening opens begins are all o there = subst (λ (u : LabState). Moves o.running.swap u) (sym begins) (all o (subst (λ l. Has l o) are there))

-- room among the open swaps
pub in_room : (count : ℕ) (only : Bool) (task : Task) → nat_le 16 count ≡ false → in_slot count only (Ok task) ≡ Ok (begun_as only task)
in_room count only task free = rw free refl

pub no_room : (count : ℕ) (only : Bool) (task : Task) → nat_le 16 count ≡ true → in_slot count only (Ok task) ≡ Err replies.FullSwaps
no_room count only task full = rw full refl

-- WHAT A STEP TOLD: what is judged in the lab at which its own part begins was done; or nothing; or a stop, or a failure of the disk
abbrev pub judged_there : LabState → List OpenSwap → Bool → List ℕ → List ℕ → Result Task Reply
judged_there s opens only exp text = judged_for s (is_among (names_of opens) (Some exp)) (length opens) only exp text

pub data Told (set : Setting) (session : Session) (s : LabState) (only : Bool) (exp text : List ℕ) (opening own : List Event) (after : After) : Type 0 where
  did : (mid : LabState) → BeginsAt session s opening mid → (opens : List OpenSwap) → opens ≡ opens_of session → Does set mid opens (judged_there mid opens only exp text) own after → Told set session s only exp text opening own after
  silent : after.reply ≡ None → Told set session s only exp text opening own after
  broke : (reply : Reply) → after.reply ≡ Some reply → TellsBroken reply → Told set session s only exp text opening own after

module _ (terms : Terms) (set : Setting) (session : Session) (s : LabState) (only : Bool) (exp text : List ℕ) (lines : ℕ) (opening own : List Event) (after : After) where
  told_done : (mid : LabState) → BeginsAt session s opening mid → (opens : List OpenSwap) → opens ≡ opens_of session → IsDoneBy (JudgedBeside terms.rule (commands.SwapinWith only exp lines text) opens mid) set mid opens own after → Told set session s only exp text opening own after
  told_done mid begins opens are (does judgement is d) = did mid begins opens are (subst (λ (j : Result Task Reply). Does set mid opens j own after) is d)
  told_done mid begins opens are (no_memory wants) = silent (ap (λ (a : After). a.reply) wants.after_is)

  told_broke : (events : List Event) → Breaks events after.reply → Told set session s only exp text opening own after
  told_broke events (stopped ends is) = broke replies.Stopped is tt
  told_broke events (failed no' miss is) = broke replies.Down is tt
  told_broke events (unanswered none) = silent none

pub told_by : (terms : Terms) (set : Setting) (session : Session) (s : LabState) (only : Bool) (exp text : List ℕ) (lines : ℕ) (opening own : List Event) (after : After) → StepOf None (DoesBy (JudgedBeside terms.rule (commands.SwapinWith only exp lines text)) set) terms s session opening own after
    → Told set session s only exp text opening own after
told_by terms set Closed s only exp text lines opening own after (opened mid opens d) = told_done terms set Closed s only exp text lines opening own after mid opens [] refl d
told_by terms set Closed s only exp text lines opening own after (not_opened breaks) = told_broke terms set Closed s only exp text lines opening own after opening breaks.breaks
told_by terms set (Open opens) s only exp text lines opening own after step = told_done terms set (Open opens) s only exp text lines opening own after s refl opens refl step.1

-- TAKEN ONLY where it is feasible
pub only_if : (set : Setting) (s : LabState) (opens : List OpenSwap) (only : Bool) (exp text : List ℕ) (own : List Event) (after : After) → Does set s opens (judged_there s opens only exp text) own after → after.reply ≡ Some (taken_reply only exp) → IsFeasibleFor s exp text
only_if set s opens only exp text own after d is = elim (by_lab s exp text (is_among (names_of opens) (Some exp)) s.lab refl) [
  | inl feasible ↦ feasible
  | inr refused ↦
      let judged : judged_there s opens only exp text ≡ Err refused.0 = ap (λ (r : Result Task Reply). in_slot (length opens) only r) refused.1 in
      let replies_so : Replies s opens refused.0 own after = subst (λ (j : Result Task Reply). Does set s opens j own after) judged d in
      let same : refused.0 ≡ taken_reply only exp = same_Some refused.0 (taken_reply only exp) (sym (ap (λ (a : After). a.reply) replies_so.after_is) ∙ is) in
      let both : false ≡ true = sym refused.2 ∙ ap is_taking same ∙ taking only exp in
      absurd (cc both)
]

-- TAKEN, unless something hinders it
module _ (s : LabState) (only : Bool) (exp text : List ℕ) (f : IsFeasibleFor s exp text) (own : List Event) (after : After) (reply : Reply) (is : after.reply ≡ Some reply) where
  abbrev Fine : Bool → Reply → Type 0
  Fine begins r = (r ≡ taken_reply begins exp) ⊎ Hinders r

  fine_as : (begins : Bool) (told : Reply) → after.reply ≡ Some told → Fine begins told → Fine begins reply
  fine_as begins told told_is fine = subst (Fine begins) (same_Some told reply (sym told_is ∙ is)) fine

  abbrev map : List ℕ
  map = canonical_solution f.lab f.experiment.wiring f.mapping

  abbrev tags : List VlanId
  tags = least_tags f.lab s.experiments (length f.experiment.wiring.segments)

  named : f.experiment.name ≡ exp
  named = (found_from exp s.experiments f.experiment f.found).name_is

  -- the swap leads into the lab
  pub into : (p : SwapOf) (move : Move) (u : LabState) (m : Mapping) → p.name ≡ f.experiment.name → move ≡ BeginsIn f.experiment.name m tags → moved s move ≡ Some u → Moves p u → p.new ≡ Some (mapped f.experiment.wiring m tags)
  into p move u m name move_is gives moves =
      let found : find f.experiment.name s.experiments ≡ Some f.experiment = ap (λ (n : List ℕ). find n s.experiments) named ∙ f.found in
      let short : length f.experiment.name ≤ 32 = subst (λ (n : List ℕ). length n ≤ 32) name moves.short in
      let begins = moves_in s u f.experiment m tags short found f.out (ap (λ (x : Move). moved s x) (sym move_is) ∙ gives) in
      let same : moves.exp ≡ begins.exp = same_Some moves.exp begins.exp (sym moves.found ∙ ap (λ (n : List ℕ). find n u.experiments) name ∙ begins.found) in
      let phases : Moving p.old p.new ≡ Moving None (Some (mapped f.experiment.wiring m tags)) = sym moves.moving ∙ ap (λ (e : Experiment). e.phase) same ∙ begins.moving in
      cc phases

  done_in : (p : SwapOf) (m : Mapped) → p.name ≡ f.experiment.name → p.new ≡ Some m → done_reply p.name p.new ≡ replies.In exp
  done_in p m name new = ap (λ (n : Option Mapped). done_reply p.name n) new ∙ ap replies.In (name ∙ named)

  abbrev begin : Record
  begin = Begin f.experiment.name (WayIn map tags)

  told_none : {X : Type 0} → after.reply ≡ None → X
  told_none none = let both : None ≡ Some reply = sym none ∙ is in absurd (cc both)

  module _ (opens : List OpenSwap) (d : Swaps s opens f.experiment.name begin own after) where
    new_is : (u : LabState) → moved s d.move ≡ Some u → (m : Mapped) × (d.swap.new ≡ Some m)
    new_is u gives = (mapped f.experiment.wiring d.says.2 tags, into d.swap d.move u d.says.2 d.name d.says.9 gives (d.moves u gives))

    by_outcome : (outcome : Outcome) → SwapSteps d.swap s begin d.move d.steps after.lab outcome → after.reply ≡ end_reply d.swap outcome → Fine false reply
    by_outcome (Ended Forth) (begun b) told = let n = new_is b.state b.begins.moves in fine_as false (done_reply d.swap.name d.swap.new) told (inl (done_in d.swap n.0 d.name n.1))
    by_outcome (Ended Forth) (unwritten b other) told = absurd (cc other)
    by_outcome (Ended Forth) (stopped_so b other) told = absurd (cc other)
    by_outcome (Ended (Undo why)) steps told = fine_as false (replies.Failed d.swap.name (undone_end d.swap.old) (what_of why)) told (inr tt)
    by_outcome (Ended Settling) steps told = told_none told
    by_outcome (Stuck why) steps told = fine_as false (replies.Failed d.swap.name ends.Stuck (what_of why)) told (inr tt)
    by_outcome Unwritten steps told = fine_as false (replies.Failed d.swap.name ends.Stuck whats.Journal) told (inr tt)
    by_outcome Halted steps told = fine_as false replies.Stopped told (inr tt)
    by_outcome More steps told = told_none told
    by_outcome (TurnsBack why) steps told = told_none told

    swap_fine : IsAnswered (end_reply d.swap d.outcome) opens d.outcome d.behind after → Fine false reply
    swap_fine (is_told starts told session) = by_outcome d.outcome d.ends told

  module _ (opens : List OpenSwap) (devices : ℕ) (d : Begins s opens devices f.experiment.name begin own after) where
    by_begin : (outcome : Outcome) → BeginSteps s begin d.move d.steps after.lab outcome → after.reply ≡ turn_reply d.swap outcome → Fine true reply
    by_begin More steps told = fine_as true (replies.More d.swap.name) told (inl (ap replies.More (d.name ∙ named)))
    by_begin Unwritten steps told = fine_as true (replies.Failed d.swap.name ends.Stuck whats.Journal) told (inr tt)
    by_begin Halted steps told = fine_as true replies.Stopped told (inr tt)
    by_begin (TurnsBack why) steps told = absurd steps
    by_begin (Ended leg) steps told = absurd steps
    by_begin (Stuck why) steps told = absurd steps

    begin_fine : IsAnswered (turn_reply d.swap d.outcome) (opens ++ begun_at d.swap devices ∷ []) d.outcome d.behind after → Fine true reply
    begin_fine (is_told starts told session) = by_begin d.outcome d.begins told

  by_space : (begins : Bool) (b : Bool) (length : ℕ) (opens : List OpenSwap) (Done : Type 0) → (Done → Fine begins reply) → IfSpace b length s opens Done own after → Fine begins reply
  by_space begins true length opens Done each d = each d
  by_space begins false length opens Done each d = fine_as begins (replies.FullJournal length) (ap (λ (a : After). a.reply) d.after_is) (inr tt)

  by_task : (begins : Bool) (set : Setting) (opens : List OpenSwap) → Does set s opens (Ok (begun_as begins (Swap f.experiment.name (WayIn map tags)))) own after → Fine begins reply
  by_task false set opens d = by_space false (has_space set begin) set.length opens (Swaps s opens f.experiment.name begin own after) (λ d. swap_fine opens d d.answered) d
  by_task true set opens d = by_space true (has_space set begin) set.length opens (Begins s opens set.devices f.experiment.name begin own after) (λ d. begin_fine opens set.devices d d.answered) d

  refused_so : (set : Setting) (opens : List OpenSwap) (refusal : Reply) (judgement : Result Task Reply) → judgement ≡ Err refusal → Hinders refusal → Does set s opens judgement own after → Fine only reply
  refused_so set opens refusal judgement judged hinders d =
      let r : Replies s opens refusal own after = subst (λ (j : Result Task Reply). Does set s opens j own after) judged d in
      fine_as only refusal (ap (λ (a : After). a.reply) r.after_is) (inr hinders)

  by_room : (count : ℕ) (full : Bool) → nat_le 16 count ≡ full → (set : Setting) (opens : List OpenSwap) → Does set s opens (judged_for s false count only exp text) own after → Fine only reply
  by_room count full is set opens d = by full is
    where
      task : Task
      task = Swap f.experiment.name (WayIn map tags)

      judged : judged_for s false count only exp text ≡ in_slot count only (Ok task)
      judged = ap (λ (r : Result Task Reply). in_slot count only r) (feasible_judged s exp text f.lab f.experiment f.mapping f.is_lab f.found f.out f.reads f.keeps)

      by : (full : Bool) → nat_le 16 count ≡ full → Fine only reply
      by true is = refused_so set opens replies.FullSwaps (judged_for s false count only exp text) (judged ∙ no_room count only task is) tt d
      by false is = by_task only set opens (subst (λ (j : Result Task Reply). Does set s opens j own after) (judged ∙ in_room count only task is) d)

  by_done : (busy : Bool) → (busy ≡ true → ⊥) → (count : ℕ) (set : Setting) (opens : List OpenSwap) → Does set s opens (judged_for s busy count only exp text) own after → Fine only reply
  by_done true never count set opens d = absurd (never refl)
  by_done false never count set opens d = by_room count (nat_le 16 count) refl set opens d

-- THE ANSWER TO A SUPPLIED SOLUTION, both ways from one lab
pub in_both : (terms : Terms) (set : Setting) (s : LabState) (session : Session) (only : Bool) (exp text : List ℕ) (lines : ℕ) (opening own : List Event) (after : After) (reply : Reply)
    → StepOf None (DoesBy (JudgedBeside terms.rule (commands.SwapinWith only exp lines text)) set) terms s session opening own after → after.reply ≡ Some reply
    → TellsBroken reply ⊎ ((mid : LabState) × BeginsAt session s opening mid × (reply ≡ taken_reply only exp → IsFeasibleFor mid exp text) × (AllMove (opens_of session) s → IsFeasibleFor mid exp text → (reply ≡ taken_reply only exp) ⊎ Hinders reply))
in_both terms set s session only exp text lines opening own after reply step is = by (told_by terms set session s only exp text lines opening own after step)
  where
    by : Told set session s only exp text opening own after
        → TellsBroken reply ⊎ ((mid : LabState) × BeginsAt session s opening mid × (reply ≡ taken_reply only exp → IsFeasibleFor mid exp text) × (AllMove (opens_of session) s → IsFeasibleFor mid exp text → (reply ≡ taken_reply only exp) ⊎ Hinders reply))
    by (did mid begins opens are d) = inr (
      mid,
      begins,
      λ inside. only_if set mid opens only exp text own after d (is ∙ ap (λ (r : Reply). Some r) inside),
      λ all f. by_done mid only exp text f own after reply is (is_among (names_of opens) (Some exp)) (idle_where mid exp f.experiment opens (moving_there session s mid opening opens begins are all) f.found f.out) (length opens) set opens d,
    )
    by (silent none) = let both : None ≡ Some reply = sym none ∙ is in absurd (cc both)
    by (broke told told_is breaks) = inl (subst TellsBroken (same_Some told reply (sym told_is ∙ is)) breaks)

-- from an open session
pub in_open : (terms : Terms) (set : Setting) (s : LabState) (opens : List OpenSwap) (only : Bool) (exp text : List ℕ) (lines : ℕ) (own : List Event) (after : After) (reply : Reply)
    → StepOf None (DoesBy (JudgedBeside terms.rule (commands.SwapinWith only exp lines text)) set) terms s (Open opens) [] own after → after.reply ≡ Some reply → AllMove opens s
    → (reply ≡ taken_reply only exp → IsFeasibleFor s exp text) × (IsFeasibleFor s exp text → (reply ≡ taken_reply only exp) ⊎ Hinders reply)
in_open terms set s opens only exp text lines own after reply step is all = by step.1
  where
    by : IsDoneBy (JudgedBeside terms.rule (commands.SwapinWith only exp lines text) opens s) set s opens own after
        → (reply ≡ taken_reply only exp → IsFeasibleFor s exp text) × (IsFeasibleFor s exp text → (reply ≡ taken_reply only exp) ⊎ Hinders reply)
    by (does judgement judged d) =
        let d = subst (λ (j : Result Task Reply). Does set s opens j own after) judged d in (
          λ inside. only_if set s opens only exp text own after d (is ∙ ap (λ (r : Reply). Some r) inside),
          λ f. by_done s only exp text f own after reply is (is_among (names_of opens) (Some exp)) (idle_where s exp f.experiment opens all f.found f.out) (length opens) set opens d,
        )
    by (no_memory wants) = let both : None ≡ Some reply = sym (ap (λ (a : After). a.reply) wants.after_is) ∙ is in absurd (cc both)

broken_not : (only : Bool) (exp : List ℕ) → TellsBroken (taken_reply only exp) → ⊥
broken_not true exp breaks = breaks
broken_not false exp breaks = breaks

pub in_only : (terms : Terms) (set : Setting) (s : LabState) (session : Session) (only : Bool) (exp text : List ℕ) (lines : ℕ) (opening own : List Event) (after : After)
    → StepOf None (DoesBy (JudgedBeside terms.rule (commands.SwapinWith only exp lines text)) set) terms s session opening own after → after.reply ≡ Some (taken_reply only exp) → (mid : LabState) × BeginsAt session s opening mid × IsFeasibleFor mid exp text
in_only terms set s session only exp text lines opening own after step is = elim (in_both terms set s session only exp text lines opening own after (taken_reply only exp) step is) [
  | inl breaks ↦ absurd (broken_not only exp breaks)
  | inr both ↦ (both.0, both.1, both.2 refl)
]

pub in_unless : (terms : Terms) (set : Setting) (s : LabState) (session : Session) (only : Bool) (exp text : List ℕ) (lines : ℕ) (opening own : List Event) (after : After) (reply : Reply)
    → StepOf None (DoesBy (JudgedBeside terms.rule (commands.SwapinWith only exp lines text)) set) terms s session opening own after → AllMove (opens_of session) s → after.reply ≡ Some reply
    → TellsBroken reply ⊎ ((mid : LabState) × BeginsAt session s opening mid × (IsFeasibleFor mid exp text → (reply ≡ taken_reply only exp) ⊎ Hinders reply))
in_unless terms set s session only exp text lines opening own after reply step all is = elim (in_both terms set s session only exp text lines opening own after reply step is) [
  | inl breaks ↦ inl breaks
  | inr both ↦ inr (both.0, both.1, both.3 all)
]
