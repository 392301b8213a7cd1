-- A batch keeps its promises: run after run.
use Rattle.std.specs.Str.{bytes_eq}
use Rattle.std.proofs.Common.{◌≡◌, ◌≢◌, ◌⊎◌, inl, inr, ℕ, ◌+◌, ◌<◌, ◌≤◌, Bool, true, false, cond, ◌||◌, List, [], ◌∷◌, ◌++◌, length, drop, Option, Some, None, Result, Ok, Err, refl, sym, ◌∙◌, ap, subst, ltb, ltb-true, ltb-false, arith}
use Rattle.std.proofs.lemmas.Bool.{cases_Bool, cond-true, cond-false}
use Rattle.std.proofs.lemmas.Option.{same_Some}
use Rattle.std.proofs.lemmas.Slice.Eq.{bytes_eq-Decides}
use Rattle.lab_base.specs.Lists.{Has}
use Rattle.lab_base.specs.Names.{same_name}
use Rattle.lab_base.specs.declared.ids.VlanId.{VlanId}
use Rattle.lab_base.proofs.Members.{Has-append}
use Rattle.phys_lab.specs.Labs.{Lab}
use Rattle.phys_lab.specs.Kept.{IsLab}
use Rattle.plant.specs.Events.{Event}
use Rattle.virt_topo.specs.declared.experiment.Experiment.{Experiment}
use Rattle.virt_topo.specs.declared.experiment.Phase.{Phase}
use Rattle.virt_topo.specs.declared.experiment.Phase.TheVariants.{Out, In as Inside, Moving}
use Rattle.virt_topo.specs.declared.mapping.Mapped.{Mapped}
use Rattle.virt_topo.specs.declared.mapping.Mapping.{Mapping}
use Rattle.virt_topo.specs.Wirings.{mapped}
use Rattle.lab_model.specs.Holding.{Holding}
use Rattle.lab_model.specs.Shapes.{IsShaped}
use Rattle.journal_rec.specs.declared.record.Record.{Record}
use Rattle.journal_rec.specs.declared.record.Record.TheVariants as records
use Rattle.journal_rec.specs.declared.record.Way.{Way}
use Rattle.journal_rec.specs.declared.record.Way.TheVariants.{In as WayIn}
use Rattle.records_model.specs.Labs.{LabState, Move, BeginsIn, Commits, Aborts, HasText, Sane, Says, becomes, can_take, find, in_phase, in_state, is_out, lab_in, moved, moved_of, moved_one, replace, with_replaced}
use Rattle.records_model.proofs.Finding.{Found, found_from, none_some}
use Rattle.records_model.proofs.LabLaws.{follows_sane, state}
use Rattle.records_model.proofs.Swaps.{find_replaced, find_others, found_in}
use Rattle.solution_text.specs.CanonicalSolution.{canonical_solution}
use Rattle.lab_state.specs.Texts.{the_texts}
use Rattle.lab_state.proofs.Canonical.{texts_once}
use Rattle.recovery.specs.Due.{is_busy}
use Rattle.swap_txn.specs.Troubles.{what_of}
use Rattle.swap_turns.specs.Beginning.{opened as opened_swap}
use Rattle.swap_turns.specs.Legs.{Forth, Undo, Settling}
use Rattle.swap_turns.specs.Swaps.{Swap as SwapOf}
use Rattle.swap_turns.specs.Turning.{Outcome, More, TurnsBack, Ended, Stuck, Unwritten, Stopped as Halted}
use Rattle.swap_turns.specs.Whole.{Begun, SwapSteps, begun, unwritten, stopped}
use Rattle.swap_turns.proofs.Finishing.{onward_swap}
use Rattle.script_text.specs.declared.reply.FailedEnd.TheVariants as ends_as
use Rattle.script_text.specs.declared.reply.Reply.{Reply}
use Rattle.script_text.specs.declared.reply.Reply.TheVariants as replies
use Rattle.cost_rule.specs.declared.rule.RuleNumber.{RuleNumber}
use Rattle.assign_core.specs.declared.whole.Solved.{Solved}
use Rattle.lab_ahead.specs.declared.batch.Promise.{Promise}
use Rattle.lab_ahead.specs.declared.batch.Run.{Run}
use Rattle.lab_ahead.specs.declared.ends.End.{End}
use Rattle.lab_ahead.specs.Ends.{left_for}
use Rattle.lab_ahead.specs.Moments.{FitsAt, FitsFor}
use Rattle.lab_tasks.specs.Needs.{OrRefused, asked, need_idle_out, refused}
use Rattle.lab_tasks.specs.Tasks.{Task, Tell, Swap}
use Rattle.lab_tasks.specs.Mappings.{in_slot, task_in}
use Rattle.lab_judge.specs.Searches.{IsFound, need_mapping}
use Rattle.lab_judge.specs.Serving.{JudgedBatch, IsTested, IsTestedAs, JudgedPlace, JudgedRunAt, JudgedTest, Serving, claimers_of, fits, full, span_of, waits}
use Rattle.lab_judge.proofs.Fits.{is_outer}
use Rattle.lab_core.specs.BatchList.{JudgedNextRun, after_run, runs_in_turn, with_end}
use Rattle.lab_core.specs.LabSteps.{Does, IfSpace, IsAnswered, IsDoneBy, Swaps, does, done_reply, end_reply, end_session, has_space, is_told, no_memory, undone_end}
use Rattle.lab_core.specs.Lists.{Ground, Past, more, none, set_at}
use Rattle.lab_core.specs.Promises.{AreKept, is_stuck_reply, left_for_promises, some_stuck}
use Rattle.lab_core.specs.Sessions.{OpenSwap, Open, Setting, After, names_of, open_by}
use Rattle.lab_core.proofs.PromiseNodes.{LeftNodes, in_span, past_span}
use Rattle.lab_core.proofs.Runs.{FitsRun, batch_first, run_here}

-- what a search finds is shaped for the lab and its wiring
abbrev pub FoundShaped : Type 0
FoundShaped = (rule : RuleNumber) (s : LabState) (lab : Lab) (e : Experiment) (seed : ℕ) (found : Solved) (m : Mapping) → Sane s → s.lab ≡ Some lab → Has s.experiments e
    → IsFound rule lab s.experiments e e.wiring seed found → need_mapping e.name found ≡ Ok m → IsShaped lab e.wiring m

-- ONE THAT WAS OUT moves in, and is there or out again
replace_again : (name : List ℕ) (g f : Experiment) → g.name ≡ name → (es : List Experiment) → replace name f (replace name g es) ≡ replace name f es
replace_again name g f named [] = refl
replace_again name g f named (x ∷ es) = elim (cases_Bool (bytes_eq x.name name)) [
  | inl yes' ↦
      ap (replace name f) (cond-true (bytes_eq x.name name) (g ∷ es) (x ∷ replace name g es) yes')
      ∙ cond-true (bytes_eq g.name name) (f ∷ es) (g ∷ replace name f es) ((bytes_eq-Decides g.name name).1 named)
      ∙ sym (cond-true (bytes_eq x.name name) (f ∷ es) (x ∷ replace name f es) yes')
  | inr no' ↦
      ap (replace name f) (cond-false (bytes_eq x.name name) (g ∷ es) (x ∷ replace name g es) no')
      ∙ cond-false (bytes_eq x.name name) (f ∷ replace name g es) (x ∷ replace name f (replace name g es)) no'
      ∙ ap (λ l. x ∷ l) (replace_again name g f named es)
      ∙ sym (cond-false (bytes_eq x.name name) (f ∷ es) (x ∷ replace name f es) no')
]

module _ (lab : Lab) (es : List Experiment) (exp : List ℕ) (e : Experiment) (found : find exp es ≡ Some e) (out : e.phase ≡ Out) (m : Mapping) (tags : List VlanId) where
  abbrev to : Mapped
  to = mapped e.wiring m tags

  abbrev on_way : Experiment
  on_way = in_phase e (Moving None (Some to))

  is_named : e.name ≡ exp
  is_named = (found_from exp es e found).name_is

  begun_if : (b : Bool) (mid : LabState) → in_state lab (with_replaced exp es (cond b (Some on_way) None)) ≡ Some mid → state lab (replace exp on_way es) ≡ mid
  begun_if true mid is = same_Some _ mid is
  begun_if false mid is = none_some mid is

  begun_is : (mid : LabState) → moved_of (Some lab) es (BeginsIn exp m tags) ≡ Some mid → state lab (replace exp on_way es) ≡ mid
  begun_is mid is =
      begun_if (can_take lab es e to) mid
      (sym (ap (λ (o : Option Experiment). in_state lab (moved_one lab es exp o (BeginsIn exp m tags))) found ∙ ap (λ (p : Phase). in_state lab (with_replaced exp es (becomes lab es e p (BeginsIn exp m tags)))) out) ∙ is)

  found_then : find exp (replace exp on_way es) ≡ Some on_way
  found_then = find_replaced exp es e on_way found is_named

  last_is : (move : Move) (last : Experiment) (u : LabState) → moved_of (Some lab) (replace exp on_way es) move ≡ in_state lab (moved_one lab (replace exp on_way es) exp (find exp (replace exp on_way es)) move)
      → becomes lab (replace exp on_way es) on_way (Moving None (Some to)) move ≡ Some last → moved_of (Some lab) (replace exp on_way es) move ≡ Some u → state lab (replace exp last es) ≡ u
  last_is move last u opens gives is =
      ap (state lab) (sym (replace_again exp on_way last is_named es))
      ∙ same_Some _ u (sym (opens ∙ ap (λ (o : Option Experiment). in_state lab (moved_one lab (replace exp on_way es) exp o move)) found_then ∙ ap (λ o. in_state lab (with_replaced exp (replace exp on_way es) o)) gives) ∙ is)

  pub committed : (u : LabState) → moved_of (Some lab) (replace exp on_way es) (Commits exp) ≡ Some u → state lab (replace exp (in_phase e (Inside m tags)) es) ≡ u
  committed u is = last_is (Commits exp) (in_phase e (Inside m tags)) u refl refl is

  pub aborted : (u : LabState) → moved_of (Some lab) (replace exp on_way es) (Aborts exp) ≡ Some u → state lab es ≡ u
  aborted u is =
      let f = found_from exp es e found in
      let as_was : replace exp (in_phase e Out) es ≡ es = f.replaced (in_phase e Out) ∙ ap (λ (p : Phase). f.before ++ in_phase e p ∷ f.after) (sym out) ∙ sym f.whole in
      ap (state lab) (sym as_was) ∙ last_is (Aborts exp) (in_phase e Out) u refl refl is

-- WHAT A RUN LEAVES that leaves the controller open: the lab as it was; or its experiment is stuck; or it is in, where the test fits
pub data Leaves (moment : ℕ) (promises : List Promise) (ends : List End) (run : Run) (s : LabState) (reply : Reply) (u : LabState) : Type 0 where
  same : u ≡ s → ((exp : List ℕ) → reply ≡ replies.In exp → ⊥) → Leaves moment promises ends run s reply u
  stuck : is_stuck_reply reply ≡ true → Leaves moment promises ends run s reply u
  entered : (lab : Lab) (e : Experiment) (m : Mapping) (tags : List VlanId) → s.lab ≡ Some lab → find run.exp s.experiments ≡ Some e → e.phase ≡ Out → state lab (replace run.exp (in_phase e (Inside m tags)) s.experiments) ≡ u
      → FitsFor lab (left_for (claimers_of (length lab.nodes) s.experiments) ends m.places) promises moment run.length → (exp : List ℕ) → reply ≡ replies.In exp → Sane u → Leaves moment promises ends run s reply u

not_in : (reply : Reply) → is_outer reply ≡ false → (exp : List ℕ) → reply ≡ replies.In exp → ⊥
not_in reply calm exp is = let both : false ≡ true = sym calm ∙ ap is_outer is in cc both

-- the swap that is judged
pub record JudgedSwap (moment : ℕ) (promises : List Promise) (ends : List End) (run : Run) (space : Record → Bool) (rule : RuleNumber) (s : LabState) (exp : List ℕ) (way : Way) : Type 0 where
  pub lab : Lab
  pub e : Experiment
  pub found : Solved
  pub m : Mapping
  pub tags : List VlanId
  pub is_lab : s.lab ≡ Some lab
  pub is_found : find run.exp s.experiments ≡ Some e
  pub out : e.phase ≡ Out
  pub sought : IsFound rule lab s.experiments e e.wiring run.seed found
  pub map_is : need_mapping e.name found ≡ Ok m
  pub exp_is : exp ≡ e.name
  pub way_is : way ≡ WayIn (canonical_solution lab e.wiring m) tags
  pub tested : (space (records.Begin exp way) ≡ false) ⊎ FitsFor lab (left_for (claimers_of (length lab.nodes) s.experiments) ends m.places) promises moment run.length

module _ (rule : RuleNumber) (moment : ℕ) (promises : List Promise) (ends : List End) (run : Run) (space : Record → Bool) (s : LabState) (busy : Bool) (count : ℕ) (exp : List ℕ) (way : Way) where
  slot_is : (before : Result Task Reply) → ◌≡◌ {A = Result Task Reply} (Ok (Swap exp way)) (in_slot count false before) → before ≡ Ok (Swap exp way)
  slot_is before is = grind arith

  idle_is : (p : Lab × Experiment) → need_idle_out s busy run.exp ≡ Ok p → (s.lab ≡ Some p.0) × (find run.exp s.experiments ≡ Some p.1) × (p.1.phase ≡ Out)
  idle_is p is = grind arith

  tested_is : (lab : Lab) (e : Experiment) (m : Mapping) (tags : List VlanId) (before : Result Task Reply) → before ≡ Ok (Swap exp way)
      → IsTested (space (records.Begin e.name (WayIn (canonical_solution lab e.wiring m) tags))) lab (left_for (claimers_of (length lab.nodes) s.experiments) ends m.places) promises (span_of moment run) e.name (WayIn (canonical_solution lab e.wiring m) tags) before
      → (exp ≡ e.name) × (way ≡ WayIn (canonical_solution lab e.wiring m) tags) × ((space (records.Begin exp way) ≡ false) ⊎ FitsFor lab (left_for (claimers_of (length lab.nodes) s.experiments) ends m.places) promises moment run.length)
  tested_is lab e m tags before swaps (full no' is) =
      let both : ◌≡◌ {A = Result Task Reply} (Ok (Swap exp way)) (Ok (Swap e.name (WayIn (canonical_solution lab e.wiring m) tags))) = sym swaps ∙ is in
      let one : exp ≡ e.name = cc both in
      let two : way ≡ WayIn (canonical_solution lab e.wiring m) tags = cc both in
      (one, two, inl ((λ i. space (records.Begin (one i) (two i))) ∙ no'))
  tested_is lab e m tags before swaps (fits yes' all is) =
      let both : ◌≡◌ {A = Result Task Reply} (Ok (Swap exp way)) (Ok (Swap e.name (WayIn (canonical_solution lab e.wiring m) tags))) = sym swaps ∙ is in
      (cc both, cc both, inr all)
  tested_is lab e m tags before swaps (waits yes' wait short is) = absurd (cc (sym swaps ∙ is))

  pub judged_swap : JudgedRunAt rule moment promises ends run space s busy count (Ok (Swap exp way)) → JudgedSwap moment promises ends run space rule s exp way
  judged_swap judged = by judged.judged
    where
      swaps : judged.before ≡ Ok (Swap exp way)
      swaps = slot_is judged.before judged.is

      by_found : (p : Lab × Experiment) → need_idle_out s busy run.exp ≡ Ok p → (placed : JudgedPlace rule moment promises ends run space s p.0 p.1 judged.before)
          → OrRefused (need_mapping p.1.name placed.found) (λ m. IsTestedAs space p.0 (left_for (claimers_of (length p.0.nodes) s.experiments) ends m.places) promises (span_of moment run) (task_in s p.0 p.1 m)) judged.before
          → JudgedSwap moment promises ends run space rule s exp way
      by_found p idle placed (refused reply needed is) = absurd (cc (sym swaps ∙ is))
      by_found p idle placed (asked m some tested) =
          let i = idle_is p idle in
          let t = tested_is p.0 p.1 m _ judged.before swaps tested in
          record { lab = p.0; e = p.1; found = placed.found; m = m; tags = _; is_lab = i.0; is_found = i.1; out = i.2; sought = placed.is_found; map_is = some; exp_is = t.0; way_is = t.1; tested = t.2 }

      by : JudgedTest rule moment promises ends run space s busy judged.before → JudgedSwap moment promises ends run space rule s exp way
      by (refused reply needed is) = absurd (cc (sym swaps ∙ is))
      by (asked p idle placed) = by_found p idle placed placed.tested

-- A WHOLE SWAP-IN that leaves the controller open
module _ (moment : ℕ) (promises : List Promise) (ends : List End) (run : Run) (space : Record → Bool) (rule : RuleNumber) (s : LabState) (sane : Sane s) (exp : List ℕ) (way : Way) (j : JudgedSwap moment promises ends run space rule s exp way) (shaped : IsShaped j.lab j.e.wiring j.m)
    (fit : FitsFor j.lab (left_for (claimers_of (length j.lab.nodes) s.experiments) ends j.m.places) promises moment run.length) (opens to_opens : List OpenSwap) (steps : List Event) (reply : Reply) (u : LabState) where
  run_named : j.e.name ≡ run.exp
  run_named = (found_from run.exp s.experiments j.e j.is_found).name_is

  own_is : exp ≡ run.exp
  own_is = j.exp_is ∙ run_named

  -- the record says that mapping alone
  says_it : (move : Move) → Says the_texts s (records.Begin exp way) move → move ≡ BeginsIn run.exp j.m j.tags
  says_it move says = by (subst (λ (w : Way). Says the_texts s (records.Begin exp w) move) j.way_is says)
    where
      by : Says the_texts s (records.Begin exp (WayIn (canonical_solution j.lab j.e.wiring j.m) j.tags)) move → move ≡ BeginsIn run.exp j.m j.tags
      by (lab, e, m, lab_is, found, is_lab, text_of, shaped_so, map_is, move_is) =
          let same_lab : lab ≡ j.lab = same_Some lab j.lab (sym lab_is ∙ j.is_lab) in
          let same_e : e ≡ j.e = same_Some e j.e (sym found ∙ ap (λ (n : List ℕ). find n s.experiments) own_is ∙ j.is_found) in
          let one : m ≡ j.m =
          texts_once.solutions j.lab j.e.wiring m j.m (subst IsLab same_lab is_lab) (subst (λ (x : Experiment). HasText the_texts x.wiring) same_e text_of)
          (subst (λ (x : Experiment). IsShaped j.lab x.wiring m) same_e (subst (λ (l : Lab). IsShaped l e.wiring m) same_lab shaped_so)) shaped
          (sym (map_is ∙ (λ i. canonical_solution (same_lab i) (same_e i).wiring m))) in
          move_is ∙ (λ i. BeginsIn (own_is i) (one i) j.tags)

  module _ (d : Swaps s opens exp (records.Begin exp way) steps (open_by reply u to_opens)) where
    swap_named : d.swap.name ≡ run.exp
    swap_named = d.name ∙ own_is

    module _ (outcome : Outcome) (b : Begun d.swap s (records.Begin exp way) d.move d.steps u outcome) where
      begins : state j.lab (replace run.exp (in_phase j.e (Moving None (Some (mapped j.e.wiring j.m j.tags)))) s.experiments) ≡ b.state
      begins =
          begun_is j.lab s.experiments run.exp j.e j.is_found j.out j.m j.tags b.state
          (sym (ap (λ (o : Option Lab). moved_of o s.experiments (BeginsIn run.exp j.m j.tags)) j.is_lab) ∙ ap (λ (m : Move). moved s m) (sym (says_it d.move d.says)) ∙ b.begins.moves)

      at_swap : b.finishes.at.swap ≡ d.swap
      at_swap = onward_swap b.state (opened_swap d.swap) b.finishes.front b.finishes.at b.finishes.onward

      sane_mid : Sane b.state
      sane_mid = follows_sane the_texts s (records.Begin exp way) b.state sane (record { move = d.move; says = d.says; gives = b.begins.moves })

      commits_to : moved b.state (Commits b.finishes.at.swap.name) ≡ Some u → (reply_is : reply ≡ replies.In d.swap.name) → Leaves moment promises ends run s reply u
      commits_to gives reply_is =
          let there : moved b.state (Commits run.exp) ≡ Some u = ap (λ (n : List ℕ). moved b.state (Commits n)) (sym (ap (λ (p : SwapOf). p.name) at_swap ∙ swap_named)) ∙ gives in
          entered j.lab j.e j.m j.tags j.is_lab j.is_found j.out
          (committed j.lab s.experiments run.exp j.e j.is_found j.out j.m j.tags u (ap (λ (x : LabState). moved x (Commits run.exp)) begins ∙ there))
          fit d.swap.name reply_is
          (follows_sane the_texts b.state (records.Commit run.exp) u sane_mid (record { move = Commits run.exp; says = refl; gives = there }))

      aborts_to : moved b.state (Aborts b.finishes.at.swap.name) ≡ Some u → ((name : List ℕ) → reply ≡ replies.In name → ⊥) → Leaves moment promises ends run s reply u
      aborts_to gives other =
          let there : moved b.state (Aborts run.exp) ≡ Some u = ap (λ (n : List ℕ). moved b.state (Aborts n)) (sym (ap (λ (p : SwapOf). p.name) at_swap ∙ swap_named)) ∙ gives in
          let back : state j.lab s.experiments ≡ u = aborted j.lab s.experiments run.exp j.e j.is_found j.out j.m j.tags u (ap (λ (x : LabState). moved x (Aborts run.exp)) begins ∙ there) in
          same (sym back ∙ ap (λ (o : Option Lab). record { lab = o; experiments = s.experiments }) (sym j.is_lab)) other

      -- the swap goes to a mapping
      goes_in : d.swap.new ≡ Some (mapped j.e.wiring j.m j.tags)
      goes_in =
          let m = d.moves b.state b.begins.moves in
          let is : m.exp ≡ in_phase j.e (Moving None (Some (mapped j.e.wiring j.m j.tags))) =
          same_Some m.exp _ (sym m.found ∙ ap (λ (n : List ℕ). find n b.state.experiments) swap_named ∙ ap (λ (x : LabState). find run.exp x.experiments) (sym begins) ∙ found_then j.lab s.experiments run.exp j.e j.is_found j.out j.m j.tags) in
          let phases : Moving d.swap.old d.swap.new ≡ Moving None (Some (mapped j.e.wiring j.m j.tags)) = sym m.moving ∙ ap (λ (x : Experiment). x.phase) is in
          cc phases

    swap_leaves : Leaves moment promises ends run s reply u
    swap_leaves = by d.outcome d.answered d.ends
      where
        told_is : (outcome : Outcome) → IsAnswered (end_reply d.swap outcome) opens outcome d.behind (open_by reply u to_opens) → (Some reply ≡ end_reply d.swap outcome) × (Open to_opens ≡ end_session opens outcome)
        told_is outcome (is_told starts told session) = (told, session)

        by : (outcome : Outcome) → IsAnswered (end_reply d.swap outcome) opens outcome d.behind (open_by reply u to_opens) → SwapSteps d.swap s (records.Begin exp way) d.move d.steps u outcome → Leaves moment promises ends run s reply u
        by (Ended Forth) answered (begun b) =
            let told = (told_is (Ended Forth) answered).0 in
            commits_to (Ended Forth) b b.finishes.turn.0.1.moves (same_Some reply (replies.In d.swap.name) (told ∙ ap (λ (n : Option Mapped). Some (done_reply d.swap.name n)) (goes_in (Ended Forth) b)))
        by (Ended (Undo why)) answered (begun b) =
            let told = same_Some reply (replies.Failed d.swap.name (undone_end d.swap.old) (what_of why)) (told_is (Ended (Undo why)) answered).0 in
            aborts_to (Ended (Undo why)) b b.finishes.turn.0.1.moves (λ name is. cc (sym told ∙ is))
        by (Ended Settling) answered steps = absurd (cc (told_is (Ended Settling) answered).0)
        by (Ended Forth) answered (unwritten b told) = absurd (cc told)
        by (Ended Forth) answered (stopped b told) = absurd (cc told)
        by (Ended (Undo why)) answered (unwritten b told) = absurd (cc told)
        by (Ended (Undo why)) answered (stopped b told) = absurd (cc told)
        by (Stuck trouble) answered steps = stuck (ap is_stuck_reply (same_Some reply (replies.Failed d.swap.name ends_as.Stuck (what_of trouble)) (told_is (Stuck trouble) answered).0))
        by Unwritten answered steps = absurd (cc (told_is Unwritten answered).1)
        by Halted answered steps = absurd (cc (told_is Halted answered).1)
        by More answered steps = absurd (cc (told_is More answered).0)
        by (TurnsBack why) answered steps = absurd (cc (told_is (TurnsBack why) answered).0)

-- A RUN that leaves the controller open
module _ (law : FoundShaped) (moment : ℕ) (promises : List Promise) (ends : List End) (run : Run) (rule : RuleNumber) (set : Setting) (s : LabState) (sane : Sane s) (opens to_opens : List OpenSwap) (steps : List Event) (reply : Reply) (u : LabState) where
  abbrev space : Record → Bool
  space entry = has_space set entry

  abbrev JudgedHere : Result Task Reply → Type 0
  JudgedHere j = JudgedRunAt rule moment promises ends run space s (is_busy (names_of opens) run.exp) (length opens) j

  calm : (j : Result Task Reply) → JudgedHere j → FitsRun s (is_busy (names_of opens) run.exp) (length opens) run.exp j
  calm j judged = run_here s (is_busy (names_of opens) run.exp) (length opens) rule moment promises ends run space j judged

  tells_same : (told : Reply) → open_by reply u to_opens ≡ record { reply = Some told; lab = s; session = Open opens } → is_outer told ≡ false → Leaves moment promises ends run s reply u
  tells_same told is outer =
      same (ap (λ (a : After). a.lab) is) (not_in reply (ap is_outer (same_Some reply told (ap (λ (a : After). a.reply) is)) ∙ outer))

  run_leaves : (j : Result Task Reply) → JudgedHere j → Does set s opens j steps (open_by reply u to_opens) → Leaves moment promises ends run s reply u
  run_leaves (Err refusal) judged d = tells_same refusal d.after_is (calm (Err refusal) judged).0
  run_leaves (Ok (Tell told)) judged d = tells_same told d.after_is (calm (Ok (Tell told)) judged).0
  run_leaves (Ok (Swap exp way)) judged d = by (space (records.Begin exp way)) refl d
    where
      its : JudgedSwap moment promises ends run space rule s exp way
      its = judged_swap rule moment promises ends run space s (is_busy (names_of opens) run.exp) (length opens) exp way judged

      shaped : IsShaped its.lab its.e.wiring its.m
      shaped = law rule s its.lab its.e run.seed its.found its.m sane its.is_lab (found_in run.exp s.experiments its.e its.is_found) its.sought its.map_is

      by : (b : Bool) → space (records.Begin exp way) ≡ b → IfSpace b set.length s opens (Swaps s opens exp (records.Begin exp way) steps (open_by reply u to_opens)) steps (open_by reply u to_opens) → Leaves moment promises ends run s reply u
      by false no' d = tells_same (replies.FullJournal set.length) d.after_is refl
      by true yes' d = elim its.tested [
        | inl lacks ↦ absurd (cc (sym yes' ∙ lacks))
        | inr fit ↦ swap_leaves moment promises ends run space rule s sane exp way its shaped fit opens to_opens steps reply u d
      ]
  run_leaves (Ok task) judged d = absurd (calm (Ok task) judged).1

-- THE INVARIANT
pub record Stands (moment : ℕ) (u : LabState) (at : Serving) : Type 0 where
  pub sane : Sane u
  pub kept : AreKept u moment at.promises at.ends
  pub in_still : (end : End) (e : Experiment) → Has at.ends end → find end.exp u.experiments ≡ Some e → is_out e.phase ≡ false

only_in : (moment : ℕ) (run : Run) (left : List Run) (ends : List End) (reply : Reply) → ((exp : List ℕ) → reply ≡ replies.In exp → ⊥) → with_end moment (run ∷ left) reply ends ≡ ends
only_in moment run left ends (replies.In exp) other = absurd (other exp refl)
only_in moment run left ends reply other = refl

or_none : (b : Bool) → b || false ≡ false → b ≡ false
or_none true is = absurd (cc is)
or_none false is = refl

first_step : (b whole part last : Bool) → (whole ≡ false → (part ≡ false) × (last ≡ false)) → b || whole ≡ false → (b || part ≡ false) × (last ≡ false)
first_step true whole part last by is = absurd (cc is)
first_step false whole part last by is = by is

any_first : (told : List Reply) (reply : Reply) → some_stuck (told ++ reply ∷ []) ≡ false → (some_stuck told ≡ false) × (is_stuck_reply reply ≡ false)
any_first [] reply is = (refl, or_none (is_stuck_reply reply) is)
any_first (x ∷ told) reply is = first_step (is_stuck_reply x) (some_stuck (told ++ reply ∷ [])) (some_stuck told) (is_stuck_reply reply) (any_first told reply) is

-- A RUN THAT IS IN
module _ (nodes : LeftNodes) (moment : ℕ) (s u : LabState) (at : Serving) (run : Run) (st : Stands moment s at) (lab : Lab) (e : Experiment) (m : Mapping) (tags : List VlanId) (is_lab : s.lab ≡ Some lab) (found : find run.exp s.experiments ≡ Some e) (out : e.phase ≡ Out)
    (u_is : state lab (replace run.exp (in_phase e (Inside m tags)) s.experiments) ≡ u) (fit : FitsFor lab (left_for (claimers_of (length lab.nodes) s.experiments) at.ends m.places) at.promises moment run.length) (sane : Sane u) where
  abbrev new : End
  new = record { exp = run.exp; at = moment + run.length }

  abbrev f : Found run.exp s.experiments e
  f = found_from run.exp s.experiments e found

  abbrev behind : List Experiment
  behind = f.before ++ in_phase e (Inside m tags) ∷ f.after

  lists_are : state lab behind ≡ u
  lists_are = ap (state lab) (sym (f.replaced (in_phase e (Inside m tags)))) ∙ u_is

  -- none of the ends is of that experiment
  no_end : (x : End) → Has at.ends x → same_name x.exp run.exp ≡ false
  no_end x has = elim (cases_Bool (same_name x.exp run.exp)) [
    | inl yes' ↦
        let named : x.exp ≡ run.exp = (bytes_eq-Decides x.exp run.exp).0 yes' in
        let still = st.in_still x e has (ap (λ n. find n s.experiments) named ∙ found) in
        absurd (cc (sym still ∙ ap is_out out))
    | inr no' ↦ no'
  ]

  holds : Holding lab behind
  holds = subst (λ (x : LabState). Holding (lab_in x.lab) x.experiments) (sym lists_are) sane.holding

  abbrev FitsNow : ℕ → Type 0
  FitsNow t = FitsAt lab (left_for (claimers_of (length lab.nodes) behind) (at.ends ++ new ∷ []) []) at.promises t

  fits_now : (end : End) (t : ℕ) → Has (at.ends ++ new ∷ []) end → moment ≤ t → t < end.at → FitsNow t
  fits_now end t has from to = elim (cases_Bool (ltb t new.at)) [
    | inl yes' ↦
        in_span nodes lab f.before f.after e out m tags at.ends new (sym f.name_is) no_end holds at.promises t
        (subst (λ es. FitsAt lab (left_for (claimers_of (length lab.nodes) es) at.ends m.places) at.promises t) f.whole (fit t from (ltb-true t new.at yes')))
    | inr no' ↦
        let past = ltb-false t new.at no' in
        past_span nodes lab f.before f.after e out m tags at.ends new (sym f.name_is) no_end holds at.promises t past
        (elim (Has-append at.ends (new ∷ []) end has) [
          | inl before ↦
              subst (λ es. FitsAt lab (left_for (claimers_of (length lab.nodes) es) at.ends []) at.promises t) f.whole
              (subst (λ (o : Option Lab). FitsAt (lab_in o) (left_for (claimers_of (length (lab_in o).nodes) s.experiments) at.ends []) at.promises t) is_lab (st.kept end t before from to))
          | inr own ↦ absurd (elim own [ inl is ↦ let at_is : new.at ≡ end.at = ap (λ (x : End). x.at) is in omega (arith, at_is, to, past) | inr no_other ↦ absurd no_other ])
        ])
  ]

  in_now : (end : End) (g : Experiment) → Has (at.ends ++ new ∷ []) end → find end.exp u.experiments ≡ Some g → is_out g.phase ≡ false
  in_now end g has found_now = elim (cases_Bool (bytes_eq end.exp run.exp)) [
    | inl yes' ↦
        let named : end.exp ≡ run.exp = (bytes_eq-Decides end.exp run.exp).0 yes' in
        let same_g : in_phase e (Inside m tags) ≡ g =
        same_Some _ g (sym (find_replaced run.exp s.experiments e (in_phase e (Inside m tags)) found f.name_is) ∙ ap (λ (x : LabState). find run.exp x.experiments) u_is ∙ ap (λ n. find n u.experiments) (sym named) ∙ found_now) in
        sym (ap (λ (x : Experiment). is_out x.phase) same_g)
    | inr no' ↦
        let apart : end.exp ≢ run.exp = (λ same_it. cc (sym no' ∙ (bytes_eq-Decides end.exp run.exp).1 same_it)) in
        elim (Has-append at.ends (new ∷ []) end has) [
          | inl before ↦
              st.in_still end g before (sym (find_others run.exp end.exp s.experiments (in_phase e (Inside m tags)) f.name_is apart) ∙ ap (λ (x : LabState). find end.exp x.experiments) u_is ∙ found_now)
          | inr own ↦ absurd (elim own [ inl is ↦ apart (ap (λ (x : End). x.exp) (sym is)) | inr no_other ↦ no_other ])
        ]
  ]

  pub enters : (ends : List End) → ends ≡ at.ends ++ new ∷ [] → (told : List Reply) (left : List Run) → Stands moment u (record { promises = at.promises; left = left; ends = ends; told = told })
  enters ends ends_are told left = record {
    sane = sane;
    kept = λ end t has from to.
        subst (λ l. FitsAt (lab_in u.lab) (left_for_promises u l) at.promises t) (sym ends_are)
        (subst (λ (x : LabState). FitsAt (lab_in x.lab) (left_for_promises x (at.ends ++ new ∷ [])) at.promises t) lists_are (fits_now end t (subst (λ l. Has l end) ends_are has) from to));
    in_still = λ end g has found_now. in_now end g (subst (λ l. Has l end) ends_are has) found_now;
  }

module _ (nodes : LeftNodes) (law : FoundShaped) (rule : RuleNumber) (moment : ℕ) where
  -- one run more
  one_more : (s u : LabState) (at : Serving) (run : Run) (left : List Run) (reply : Reply) → at.left ≡ run ∷ left → Stands moment s at → is_stuck_reply reply ≡ false → Leaves moment at.promises at.ends run s reply u → Stands moment u (after_run moment at reply)
  one_more s u at run left reply left_is st calm (stuck is) = absurd (cc (sym is ∙ calm))
  one_more s u at run left reply left_is st calm (same u_is other) =
      let ends_are : with_end moment at.left reply at.ends ≡ at.ends = ap (λ l. with_end moment l reply at.ends) left_is ∙ only_in moment run left at.ends reply other in
      record {
        sane = subst Sane (sym u_is) st.sane;
        kept = λ end t has from to.
            subst (λ (x : LabState). FitsAt (lab_in x.lab) (left_for_promises x (with_end moment at.left reply at.ends)) at.promises t) (sym u_is)
            (subst (λ l. FitsAt (lab_in s.lab) (left_for_promises s l) at.promises t) (sym ends_are) (st.kept end t (subst (λ l. Has l end) ends_are has) from to));
        in_still = λ end e has found. st.in_still end e (subst (λ l. Has l end) ends_are has) (ap (λ (x : LabState). find end.exp x.experiments) (sym u_is) ∙ found);
      }
  one_more s u at run left reply left_is st calm (entered lab e m tags is_lab found out u_is fit exp reply_is sane) =
      enters nodes moment s u at run st lab e m tags is_lab found out u_is fit sane (with_end moment at.left reply at.ends) (λ i. with_end moment (left_is i) (reply_is i) at.ends) (at.told ++ reply ∷ []) (drop 1 at.left)

  module _ (base : Ground) (trace : Option (List Event)) (s : LabState) (opens : List OpenSwap) (start : Serving) (first : Stands moment s start) where
    past_stands : (own : List Event) (at : Serving) (u : LabState) (to : List OpenSwap) → Past (runs_in_turn rule moment) base trace start s opens own at u to → some_stuck at.told ≡ false → Stands moment u at
    past_stands own at u to none calm = first
    past_stands own at u to (more front at' mid between past steps reply lab to' next) calm =
        let both = any_first at'.told reply calm in
        by at'.left refl (past_stands front at' mid between past both.0) both.1 next.done
      where
        by : (left : List Run) → at'.left ≡ left → Stands moment mid at' → is_stuck_reply reply ≡ false
            → IsDoneBy (JudgedNextRun rule moment at'.promises at'.ends left (λ entry. has_space (set_at base next.length) entry) mid between) (set_at base next.length) mid between steps (open_by reply lab to') → Stands moment lab (after_run moment at' reply)
        by [] is st calm_here (does j judged d) = absurd judged
        by (run ∷ left) is st calm_here (does j judged d) =
            one_more mid lab at' run left reply is st calm_here (run_leaves law moment at'.promises at'.ends run rule (set_at base next.length) mid st.sane between to' steps reply lab j judged d)
        by left is st calm_here (no_memory wants) = absurd (cc (ap (λ (a : After). a.reply) wants.after_is))

  -- A BATCH KEEPS ITS PROMISES
  pub keeps_promises : (base : Ground) (trace : Option (List Event)) (s : LabState) (opens : List OpenSwap) (text : List ℕ) (start at : Serving) (own : List Event) (u : LabState) (to : List OpenSwap) → Sane s → JudgedBatch s text (Ok start)
      → Past (runs_in_turn rule moment) base trace start s opens own at u to → some_stuck at.told ≡ false → AreKept u moment at.promises at.ends
  keeps_promises base trace s opens text start at own u to sane judged past calm =
      let none_yet : start.ends ≡ [] = ap (λ (p : Serving). p.ends) (batch_first s text start judged).2 in
      (past_stands base trace s opens start
      (record {
        sane = sane;
        kept = λ end t has. absurd (subst (λ l. Has l end) none_yet has);
        in_still = λ end e has. absurd (subst (λ l. Has l end) none_yet has);
      })
      own at u to past calm).kept
