-- A solution is of one mapping, and an experiment that is answered as in by it is in with that one, at once or at the end of the swap that begins.
use Rattle.std.specs.Prelude.{nat_le}
use Rattle.std.proofs.Common.{◌≡◌, ◌≢◌, ⊎_elim, inl, inr, ℕ, Bool, true, false, List, length, Option, Some, None, Result, Ok, Err, refl, sym, ap, ◌∙◌, subst, [], ◌∷◌, ◌++◌}
use Rattle.std.proofs.lemmas.Option.{same_Some}
use Rattle.virt_topo.specs.Wirings.{mapped}
use Rattle.plant.specs.Events.{Event}
use Rattle.phys_lab.specs.Labs.{Lab}
use Rattle.lab_base.specs.Lists.{Has}
use Rattle.lab_base.proofs.Members.{Has-mapped}
use Rattle.lab_base.specs.declared.ids.VlanId.{VlanId}
use Rattle.virt_topo.specs.declared.experiment.Experiment.{Experiment}
use Rattle.virt_topo.specs.declared.experiment.Phase.{Phase}
use Rattle.virt_topo.specs.declared.experiment.Phase.TheVariants.{Moving}
use Rattle.virt_topo.specs.declared.mapping.Mapped.{Mapped}
use Rattle.journal_rec.specs.declared.record.Record.{Record}
use Rattle.journal_rec.specs.declared.record.Record.TheVariants.{Begin}
use Rattle.journal_rec.specs.declared.record.Way.TheVariants.{In as WayIn}
use Rattle.records_model.specs.Labs.{LabState, Move, Commits, HasText, Says, becomes, find, in_state, inside as inside_by, moved, moved_in, moved_of, moved_one, replace, with_replaced}
use Rattle.records_model.proofs.LabLaws.{in_state-some}
use Rattle.records_model.proofs.Swaps.{find_replaced}
use Rattle.solution_text.proofs.GivenLaws.{text_shaped}
use Rattle.lab_state.specs.Texts.{the_texts}
use Rattle.lab_state.proofs.Canonical.{texts_once}
use Rattle.lab_model.specs.Shapes.{IsShaped}
use Rattle.phys_lab.specs.Kept.{IsLab}
use Rattle.swap_turns.specs.Beginning.{opened as opened_swap}
use Rattle.swap_turns.proofs.Finishing.{onward_swap}
use Rattle.records_model.proofs.Finding.{found_from}
use Rattle.solution_text.specs.CanonicalSolution.{canonical_solution}
use Rattle.script_text.specs.declared.command.Command.{Command}
use Rattle.script_text.specs.declared.command.Command.TheVariants as commands
use Rattle.script_text.specs.declared.reply.Reply.{Reply}
use Rattle.script_text.specs.declared.reply.Reply.TheVariants as replies
use Rattle.script_text.specs.declared.reply.FailedEnd.TheVariants as ends
use Rattle.lab_base.specs.declared.what.What.TheVariants as whats
use Rattle.swap_txn.specs.Troubles.{what_of}
use Rattle.swap_turns.specs.Swaps.{Swap as SwapOf}
use Rattle.swap_turns.specs.Legs.{Forth, Undo, Settling}
use Rattle.swap_turns.specs.Turning.{Outcome, More, TurnsBack, Ended, Stuck, Unwritten, Stopped as Halted}
use Rattle.swap_turns.specs.Whole.{Begun, SwapSteps, begun, unwritten, stopped as stopped_so}
use Rattle.lab_tasks.specs.Counts.{least_tags}
use Rattle.lab_tasks.specs.Tasks.{Task, Swap, Turn, Finish}
use Rattle.lab_tasks.specs.Mappings.{in_slot}
use Rattle.lab_core.specs.LabSteps.{DoesBy, Does, IsDoneBy, does, no_memory, StepOf, IfSpace, Replies, Swaps, BeginSteps, Begins, begun_at, JudgedBeside, IsAnswered, is_told, has_space, end_reply, turn_reply, undone_end}
use Rattle.lab_core.specs.Commands.{LabStep}
use Rattle.lab_core.specs.Sessions.{OpenSwap, Session, Open, Setting, After, name_in, names_of, open_at, Terms}
use Rattle.lab_tasks.specs.OpenNames.{is_among}
use Rattle.lab_judge.proofs.Fits.{IsFit, fits, is_outer}
use Rattle.lab_core.proofs.OpenLaws.{answered_next}
use Rattle.lab_tasks.proofs.Busy.{has_busy}
use Rattle.lab_core.proofs.OpenSwaps.{open_at_one}
use Rattle.lab_core.proofs.OtherWorlds.{finish_or_refused, turn_or_refused}
use Rattle.lab_core.proofs.SameSwaps.{has_at}
use Rattle.lab_core.proofs.SolutionLaws.{Told, broke, busy_judged, did, feasible_judged, in_room, into, is_taking, judged_for, no_room, only_if, silent, told_by}
use Rattle.lab_core.proofs.StepLaws.{was}
use Rattle.lab_core.proofs.TurnLaws.{finish_tells, turn_tells}
use Rattle.lab_core.specs.Tells.{AllMove, GoesIn, IsFeasibleFor, IsInBy, IsTurnOf, TellsBroken, TellsEnd}

-- IN BY THE SOLUTION: what a Commit leaves of one that moves to a mapping
in_state_is : (lab : Lab) (es : List Experiment) (move : Move) (u : LabState) → moved_of (Some lab) es move ≡ Some u → u.lab ≡ Some lab
in_state_is lab es move u gives = let xs = in_state-some lab (moved_in lab es move) u gives in ap (λ (x : LabState). x.lab) (sym xs.2)

lab_stays : (s u : LabState) (lab : Lab) (move : Move) → s.lab ≡ Some lab → moved s move ≡ Some u → u.lab ≡ Some lab
lab_stays s u lab move is gives = in_state_is lab s.experiments move u (ap (λ (o : Option Lab). moved_of o s.experiments move) (sym is) ∙ gives)

goes_inside : (lab : Lab) (es : List Experiment) (name : List ℕ) (e : Experiment) (old : Option Mapped) (m : Mapped) (u : LabState) → find name es ≡ Some e → e.phase ≡ Moving old (Some m) → moved_of (Some lab) es (Commits name) ≡ Some u
    → find name u.experiments ≡ Some (inside_by e m)
goes_inside lab es name e old m u found moving gives = by old (sym (ap (λ (o : Option Experiment). in_state lab (moved_one lab es name o (Commits name))) found ∙ ap (λ (p : Phase). in_state lab (with_replaced name es (becomes lab es e p (Commits name)))) moving) ∙ gives)
  where
    put : in_state lab (Some (replace name (inside_by e m) es)) ≡ Some u → find name u.experiments ≡ Some (inside_by e m)
    put is = subst (λ (x : LabState). find name x.experiments ≡ Some (inside_by e m)) (same_Some _ u is) (find_replaced name es e (inside_by e m) found (found_from name es e found).name_is)

    by : (old : Option Mapped) → in_state lab (with_replaced name es (becomes lab es e (Moving old (Some m)) (Commits name))) ≡ Some u → find name u.experiments ≡ Some (inside_by e m)
    by None is = put is
    by (Some o) is = put is

-- THE RECORD of a swap-in by that solution says that mapping
module _ (s : LabState) (exp text : List ℕ) (f : IsFeasibleFor s exp text) where
  abbrev map_of : List ℕ
  map_of = canonical_solution f.lab f.experiment.wiring f.mapping

  abbrev tags_of : List VlanId
  tags_of = least_tags f.lab s.experiments (length f.experiment.wiring.segments)

  abbrev begin_of : Record
  begin_of = Begin f.experiment.name (WayIn map_of tags_of)

  is_named : f.experiment.name ≡ exp
  is_named = (found_from exp s.experiments f.experiment f.found).name_is

  -- the text of the record is of that mapping alone
  one_mapping : (move : Move) (says : Says the_texts s begin_of move) → says.2 ≡ f.mapping
  one_mapping move (lab, e, m, lab_is, found, sane, text_of, shaped, map_is, move_is) =
      let same_lab : lab ≡ f.lab = same_Some lab f.lab (sym lab_is ∙ f.is_lab) in
      let same : e ≡ f.experiment = same_Some e f.experiment (sym found ∙ ap (λ (n : List ℕ). find n s.experiments) is_named ∙ f.found) in
      texts_once.solutions f.lab f.experiment.wiring m f.mapping (subst IsLab same_lab sane) (subst (λ (x : Experiment). HasText the_texts x.wiring) same text_of)
      (subst (λ (x : Experiment). IsShaped f.lab x.wiring m) same (subst (λ (l : Lab). IsShaped l e.wiring m) same_lab shaped)) (text_shaped f.lab f.experiment.wiring text f.mapping f.reads)
      (sym (map_is ∙ (λ i. canonical_solution (same_lab i) (same i).wiring m)))

-- ANSWERED AS IN
module _ (s : LabState) (exp text : List ℕ) (f : IsFeasibleFor s exp text) (own : List Event) (after : After) (is : after.reply ≡ Some (replies.In exp)) where
  not_taken : {X : Type 0} (told : Reply) → after.reply ≡ Some told → is_taking told ≡ false → X
  not_taken told told_is other =
      let both : false ≡ true = sym other ∙ ap is_taking (same_Some told (replies.In exp) (sym told_is ∙ is)) in
      absurd (cc both)

  not_silent : {X : Type 0} → after.reply ≡ None → X
  not_silent none = let both : None ≡ Some (replies.In exp) = sym none ∙ is in absurd (cc both)

  ended_in : (opens : List OpenSwap) (d : Swaps s opens f.experiment.name (begin_of s exp text f) own after) → Begun d.swap s (begin_of s exp text f) d.move d.steps after.lab (Ended Forth) → IsInBy after.lab exp text
  ended_in opens d b =
      let m = d.moves b.state b.begins.moves in
      let new : d.swap.new ≡ Some (mapped f.experiment.wiring d.says.2 (tags_of s exp text f)) = into s false exp text f own after (replies.In exp) is d.swap d.move b.state d.says.2 d.name d.says.9 b.begins.moves m in
      let at : b.finishes.at.swap ≡ d.swap = onward_swap b.state (opened_swap d.swap) b.finishes.front b.finishes.at b.finishes.onward in
      let lab = lab_stays s b.state f.lab d.move f.is_lab b.begins.moves in
      let gives : moved b.state (Commits d.swap.name) ≡ Some after.lab = ap (λ (p : SwapOf). moved b.state (Commits p.name)) (sym at) ∙ b.finishes.turn.0.1.moves in
      let named : d.swap.name ≡ exp = d.name ∙ (is_named s exp text f) in
      record {
        lab = f.lab;
        is_lab = lab_stays b.state after.lab f.lab (Commits d.swap.name) lab gives;
        experiment = inside_by m.exp (mapped f.experiment.wiring d.says.2 (tags_of s exp text f));
        found = ap (λ (n : List ℕ). find n after.lab.experiments) (sym named)
            ∙ goes_inside f.lab b.state.experiments d.swap.name m.exp d.swap.old (mapped f.experiment.wiring d.says.2 (tags_of s exp text f)) after.lab m.found (m.moving ∙ ap (λ (n : Option Mapped). Moving d.swap.old n) new)
            (ap (λ (o : Option Lab). moved_of o b.state.experiments (Commits d.swap.name)) (sym lab) ∙ gives);
        mapping = d.says.2;
        tags = (tags_of s exp text f);
        inside = refl;
        reads = f.reads ∙ (λ i. Ok (sym ((one_mapping s exp text f) d.move d.says) i));
      }

  swap_inside : (opens : List OpenSwap) (d : Swaps s opens f.experiment.name (begin_of s exp text f) own after) → IsInBy after.lab exp text
  swap_inside opens d = by d.answered
    where
      by_outcome : (outcome : Outcome) → d.outcome ≡ outcome → SwapSteps d.swap s (begin_of s exp text f) d.move d.steps after.lab outcome → after.reply ≡ end_reply d.swap outcome → IsInBy after.lab exp text
      by_outcome (Ended Forth) same (begun b) told = ended_in opens d b
      by_outcome (Ended Forth) same (unwritten b other) told = absurd (cc other)
      by_outcome (Ended Forth) same (stopped_so b other) told = absurd (cc other)
      by_outcome (Ended (Undo why)) same steps told = not_taken (replies.Failed d.swap.name (undone_end d.swap.old) (what_of why)) told refl
      by_outcome (Ended Settling) same steps told = not_silent told
      by_outcome (Stuck why) same steps told = not_taken (replies.Failed d.swap.name ends.Stuck (what_of why)) told refl
      by_outcome Unwritten same steps told = not_taken (replies.Failed d.swap.name ends.Stuck whats.Journal) told refl
      by_outcome Halted same steps told = not_taken replies.Stopped told refl
      by_outcome More same steps told = not_silent told
      by_outcome (TurnsBack why) same steps told = not_silent told

      by : IsAnswered (end_reply d.swap d.outcome) opens d.outcome d.behind after → IsInBy after.lab exp text
      by (is_told starts told session) = by_outcome d.outcome refl d.ends told

  -- what was judged is that swap, since another reply was told else
  refused_not : (set : Setting) (opens : List OpenSwap) (refusal : Reply) (judgement : Result Task Reply) → judgement ≡ Err refusal → is_taking refusal ≡ false → Does set s opens judgement own after → IsInBy after.lab exp text
  refused_not set opens refusal judgement judged other d =
      let r : Replies s opens refusal own after = subst (λ (j : Result Task Reply). Does set s opens j own after) judged d in
      not_taken refusal (ap (λ (a : After). a.reply) r.after_is) other

  space_inside : (b : Bool) (length : ℕ) (opens : List OpenSwap) → IfSpace b length s opens (Swaps s opens f.experiment.name (begin_of s exp text f) own after) own after → IsInBy after.lab exp text
  space_inside true length opens d = swap_inside opens d
  space_inside false length opens d = not_taken (replies.FullJournal length) (ap (λ (a : After). a.reply) d.after_is) refl

  room_inside : (count : ℕ) (full : Bool) → nat_le 16 count ≡ full → (set : Setting) (opens : List OpenSwap) → Does set s opens (judged_for s false count false exp text) own after → IsInBy after.lab exp text
  room_inside count full full_is set opens d = by full full_is
    where
      task : Task
      task = Swap f.experiment.name (WayIn (map_of s exp text f) (tags_of s exp text f))

      judged : judged_for s false count false exp text ≡ in_slot count false (Ok task)
      judged = ap (λ (r : Result Task Reply). in_slot count false r) (feasible_judged s exp text f.lab f.experiment f.mapping f.is_lab f.found f.out f.reads f.keeps)

      by : (full : Bool) → nat_le 16 count ≡ full → IsInBy after.lab exp text
      by true no' = refused_not set opens replies.FullSwaps (judged_for s false count false exp text) (judged ∙ no_room count false task no') refl d
      by false free = space_inside (has_space set (begin_of s exp text f)) set.length opens (subst (λ (j : Result Task Reply). Does set s opens j own after) (judged ∙ in_room count false task free) d)

  pub does_inside : (busy : Bool) (count : ℕ) (set : Setting) (opens : List OpenSwap) → Does set s opens (judged_for s busy count false exp text) own after → IsInBy after.lab exp text
  does_inside true count set opens d =
      refused_not set opens (replies.Busy exp) (judged_for s true count false exp text) (ap (λ (r : Result Task Reply). in_slot count false r) (busy_judged s exp text f.lab f.experiment f.is_lab f.found)) refl d
  does_inside false count set opens d = room_inside count (nat_le 16 count) refl set opens d

pub in_by : (terms : Terms) (set : Setting) (s : LabState) (session : Session) (exp text : List ℕ) (lines : ℕ) (opening own : List Event) (after : After)
    → StepOf None (DoesBy (JudgedBeside terms.rule (commands.SwapinWith false exp lines text)) set) terms s session opening own after → after.reply ≡ Some (replies.In exp) → IsInBy after.lab exp text
in_by terms set s session exp text lines opening own after step is = by (told_by terms set session s false exp text lines opening own after step)
  where
    by : Told set session s false exp text opening own after → IsInBy after.lab exp text
    by (did mid begins opens are d) = does_inside mid exp text (only_if set mid opens false exp text own after d is) own after is (is_among (names_of opens) (Some exp)) (length opens) set opens d
    by (silent none) = let both : None ≡ Some (replies.In exp) = sym none ∙ is in absurd (cc both)
    by (broke told told_is breaks) = absurd (subst TellsBroken (same_Some told (replies.In exp) (sym told_is ∙ is)) breaks)

-- BEGUN: the swap is open, and goes in by that solution
module _ (s : LabState) (exp text : List ℕ) (f : IsFeasibleFor s exp text) (own : List Event) (after : After) (is : after.reply ≡ Some (replies.More exp)) (to : List OpenSwap) (session_is : after.session ≡ Open to) where
  not_begun : {X : Type 0} (told : Reply) → after.reply ≡ Some told → is_taking told ≡ false → X
  not_begun told told_is other =
      let both : false ≡ true = sym other ∙ ap is_taking (same_Some told (replies.More exp) (sym told_is ∙ is)) in
      absurd (cc both)

  begins_in : (opens : List OpenSwap) (devices : ℕ) → is_among (names_of opens) (Some exp) ≡ false → (d : Begins s opens devices f.experiment.name (begin_of s exp text f) own after) → GoesIn to after.lab exp text
  begins_in opens devices free d = by d.answered
    where
      last : OpenSwap
      last = begun_at d.swap devices

      apart : (q : OpenSwap) → Has opens q → name_in q ≢ exp
      apart q there = λ same. (let both : false ≡ true = sym free ∙ has_busy (names_of opens) exp (subst (λ (n : List ℕ). Has (names_of opens) n) same (Has-mapped name_in opens q there)) in cc both)

      by_outcome : (outcome : Outcome) → BeginSteps s (begin_of s exp text f) d.move d.steps after.lab outcome → after.reply ≡ turn_reply d.swap outcome → to ≡ opens ++ last ∷ [] → GoesIn to after.lab exp text
      by_outcome More b told next = record {
        swap = last;
        is_open = ap (λ l. open_at exp l) next ∙ open_at_one exp opens last [] apart (d.name ∙ is_named s exp text f);
        lab = f.lab;
        is_lab = lab_stays s after.lab f.lab d.move f.is_lab b.moves;
        wiring = f.experiment.wiring;
        mapping = d.says.2;
        tags = tags_of s exp text f;
        new = into s true exp text f own after (replies.More exp) is d.swap d.move after.lab d.says.2 d.name d.says.9 b.moves (d.moves after.lab b.moves);
        reads = f.reads ∙ (λ i. Ok (sym (one_mapping s exp text f d.move d.says) i));
      }
      by_outcome Unwritten b told next = not_begun (replies.Failed d.swap.name ends.Stuck whats.Journal) told refl
      by_outcome Halted b told next = not_begun replies.Stopped told refl
      by_outcome (TurnsBack why) b told next = absurd b
      by_outcome (Ended leg) b told next = absurd b
      by_outcome (Stuck why) b told next = absurd b

      by : IsAnswered (turn_reply d.swap d.outcome) (opens ++ last ∷ []) d.outcome d.behind after → GoesIn to after.lab exp text
      by (is_told starts told session) = by_outcome d.outcome d.begins told (answered_next after to session_is _ (opens ++ last ∷ []) d.outcome d.behind (is_told starts told session))

  refused_then : (set : Setting) (opens : List OpenSwap) (refusal : Reply) (judgement : Result Task Reply) → judgement ≡ Err refusal → is_taking refusal ≡ false → Does set s opens judgement own after → GoesIn to after.lab exp text
  refused_then set opens refusal judgement judged other d =
      let r : Replies s opens refusal own after = subst (λ (j : Result Task Reply). Does set s opens j own after) judged d in
      not_begun refusal (ap (λ (a : After). a.reply) r.after_is) other

  space_begins : (b : Bool) (length devices : ℕ) (opens : List OpenSwap) → is_among (names_of opens) (Some exp) ≡ false → IfSpace b length s opens (Begins s opens devices f.experiment.name (begin_of s exp text f) own after) own after → GoesIn to after.lab exp text
  space_begins true length devices opens free d = begins_in opens devices free d
  space_begins false length devices opens free d = not_begun (replies.FullJournal length) (ap (λ (a : After). a.reply) d.after_is) refl

  room_begins : (count : ℕ) (full : Bool) → nat_le 16 count ≡ full → (set : Setting) (opens : List OpenSwap) → is_among (names_of opens) (Some exp) ≡ false → Does set s opens (judged_for s false count true exp text) own after → GoesIn to after.lab exp text
  room_begins count full full_is set opens free d = by full full_is
    where
      task : Task
      task = Swap f.experiment.name (WayIn (map_of s exp text f) (tags_of s exp text f))

      judged : judged_for s false count true exp text ≡ in_slot count true (Ok task)
      judged = ap (λ (r : Result Task Reply). in_slot count true r) (feasible_judged s exp text f.lab f.experiment f.mapping f.is_lab f.found f.out f.reads f.keeps)

      by : (full : Bool) → nat_le 16 count ≡ full → GoesIn to after.lab exp text
      by true no' = refused_then set opens replies.FullSwaps (judged_for s false count true exp text) (judged ∙ no_room count true task no') refl d
      by false room = space_begins (has_space set (begin_of s exp text f)) set.length set.devices opens free (subst (λ (j : Result Task Reply). Does set s opens j own after) (judged ∙ in_room count true task room) d)

  does_begin : (set : Setting) (opens : List OpenSwap) (busy : Bool) → is_among (names_of opens) (Some exp) ≡ busy → Does set s opens (judged_for s busy (length opens) true exp text) own after → GoesIn to after.lab exp text
  does_begin set opens true busy_is d =
      refused_then set opens (replies.Busy exp) (judged_for s true (length opens) true exp text) (ap (λ (r : Result Task Reply). in_slot (length opens) true r) (busy_judged s exp text f.lab f.experiment f.is_lab f.found)) refl d
  does_begin set opens false free d = room_begins (length opens) (nat_le 16 (length opens)) refl set opens free d

pub begun_by : (terms : Terms) (set : Setting) (s : LabState) (session : Session) (exp text : List ℕ) (lines : ℕ) (opening own : List Event) (after : After) (to : List OpenSwap)
    → StepOf None (DoesBy (JudgedBeside terms.rule (commands.SwapinWith true exp lines text)) set) terms s session opening own after → after.reply ≡ Some (replies.More exp) → after.session ≡ Open to → GoesIn to after.lab exp text
begun_by terms set s session exp text lines opening own after to step is session_is = by (told_by terms set session s true exp text lines opening own after step)
  where
    by : Told set session s true exp text opening own after → GoesIn to after.lab exp text
    by (did mid begins opens are d) = does_begin mid exp text (only_if set mid opens true exp text own after d is) own after is to session_is set opens (is_among (names_of opens) (Some exp)) refl d
    by (silent none) = let both : None ≡ Some (replies.More exp) = sym none ∙ is in absurd (cc both)
    by (broke told told_is breaks) = absurd (subst TellsBroken (same_Some told (replies.More exp) (sym told_is ∙ is)) breaks)

-- ENDED: it is in by that solution
module _ (terms : Terms) (set : Setting) (s : LabState) (opens : List OpenSwap) (exp text : List ℕ) (own : List Event) (after : After) (is : after.reply ≡ Some (replies.In exp)) where
  no_reply : {X : Type 0} → after.reply ≡ None → X
  no_reply none = let both : None ≡ Some (replies.In exp) = sym none ∙ is in absurd (cc both)

  not_refused : {X : Type 0} (refusal : Reply) → is_outer refusal ≡ false → Replies s opens refusal own after → X
  not_refused refusal inner r =
      let both : false ≡ true = sym inner ∙ ap is_outer (same_Some refusal (replies.In exp) (sym (ap (λ (a : After). a.reply) r.after_is) ∙ is)) in
      absurd (cc both)

  turn_ends : IsDoneBy (JudgedBeside terms.rule (commands.Turn exp) opens s) set s opens own after → TellsEnd s exp (replies.In exp) after.lab
  turn_ends (no_memory wants) = no_reply (ap (λ (a : After). a.reply) wants.after_is)
  turn_ends (does judgement judged d) =
      ⊎_elim
      (λ refused.
      not_refused refused.0 (subst (λ (j : Result Task Reply). IsFit s (commands.Turn exp) (is_among (names_of opens) (Some exp)) (length opens) j) (judged ∙ refused.1) (fits s (is_among (names_of opens) (Some exp)) (length opens) terms.rule (commands.Turn exp) judgement judged))
      (subst (λ (j : Result Task Reply). Does set s opens j own after) (judged ∙ refused.1) d))
      (λ this.
      turn_tells own after (replies.In exp) is s exp None terms set opens (commands.Turn exp) []
      (was (Ok (Turn exp)) terms set s (commands.Turn exp) [] own after None (Open opens) (refl, does judgement (judged ∙ this, judged) d)))
      (turn_or_refused s (is_among (names_of opens) (Some exp)) exp)

  finish_ends : IsDoneBy (JudgedBeside terms.rule (commands.Finish exp) opens s) set s opens own after → TellsEnd s exp (replies.In exp) after.lab
  finish_ends (no_memory wants) = no_reply (ap (λ (a : After). a.reply) wants.after_is)
  finish_ends (does judgement judged d) =
      ⊎_elim
      (λ refused.
      not_refused refused.0 (subst (λ (j : Result Task Reply). IsFit s (commands.Finish exp) (is_among (names_of opens) (Some exp)) (length opens) j) (judged ∙ refused.1) (fits s (is_among (names_of opens) (Some exp)) (length opens) terms.rule (commands.Finish exp) judgement judged))
      (subst (λ (j : Result Task Reply). Does set s opens j own after) (judged ∙ refused.1) d))
      (λ this.
      finish_tells own after (replies.In exp) is s exp None terms set opens (commands.Finish exp) []
      (was (Ok (Finish exp)) terms set s (commands.Finish exp) [] own after None (Open opens) (refl, does judgement (judged ∙ this, judged) d)))
      (finish_or_refused s (is_among (names_of opens) (Some exp)) exp)

  told_end : (at : Option (List Event)) (command : Command) (opening : List Event) → IsTurnOf exp command → LabStep terms at set s (Open opens) command opening own after → TellsEnd s exp (replies.In exp) after.lab
  told_end at command opening (inl asks) step =
      let turn : LabStep terms at set s (Open opens) (commands.Turn exp) opening own after = subst (λ (c : Command). LabStep terms at set s (Open opens) c opening own after) asks step in
      turn_ends turn.1
  told_end at command opening (inr asks) step =
      let finish : LabStep terms at set s (Open opens) (commands.Finish exp) opening own after = subst (λ (c : Command). LabStep terms at set s (Open opens) c opening own after) asks step in
      finish_ends finish.1

  pub ended_by : (at : Option (List Event)) (command : Command) (opening : List Event) → IsTurnOf exp command → LabStep terms at set s (Open opens) command opening own after → AllMove opens s → GoesIn opens s exp text → IsInBy after.lab exp text
  ended_by at command opening turns step all g =
      let o = has_at exp opens g.swap g.is_open in
      let m = all g.swap o.0 in
      let gives = (told_end at command opening turns step).1 in
      let found : find exp s.experiments ≡ Some m.exp = ap (λ (n : List ℕ). find n s.experiments) (sym o.1) ∙ m.found in
      record {
        lab = g.lab;
        is_lab = lab_stays s after.lab g.lab (Commits exp) g.is_lab gives;
        experiment = inside_by m.exp (mapped g.wiring g.mapping g.tags);
        found = goes_inside g.lab s.experiments exp m.exp g.swap.running.swap.old (mapped g.wiring g.mapping g.tags) after.lab found (m.moving ∙ ap (λ (n : Option Mapped). Moving g.swap.running.swap.old n) g.new)
            (ap (λ (o : Option Lab). moved_of o s.experiments (Commits exp)) (sym g.is_lab) ∙ gives);
        mapping = g.mapping;
        tags = g.tags;
        inside = refl;
        reads = g.reads;
      }
