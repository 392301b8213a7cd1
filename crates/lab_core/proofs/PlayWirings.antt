-- The wiring of the experiment after a play.
use Rattle.std.proofs.Common.{◌≡◌, arith, inl, inr, ℕ, ◌+◌, Bool, true, false, ◌||◌, cond, is_some, List, [], ◌∷◌, ◌++◌, length, drop, Option, Some, None, Result, Ok, Err, refl, sym, ap, subst, ◌∙◌, append_assoc, length-append}
use Rattle.std.proofs.lemmas.Option.{same_Some}
use Rattle.plant.specs.Events.{Event}
use Rattle.phys_lab.specs.Labs.{Lab}
use Rattle.lab_base.specs.Lists.{Has}
use Rattle.lab_base.specs.declared.ids.VlanId.{VlanId}
use Rattle.virt_topo.specs.declared.experiment.Experiment.{Experiment}
use Rattle.virt_topo.specs.declared.experiment.Phase.{Phase}
use Rattle.virt_topo.specs.declared.experiment.Phase.TheVariants as phases
use Rattle.virt_topo.specs.declared.experiment.Phase.TheVariants.{Moving}
use Rattle.virt_topo.specs.declared.mapping.Mapped.{Mapped}
use Rattle.virt_topo.specs.declared.mapping.Mapping.{Mapping}
use Rattle.virt_topo.specs.declared.wiring.Wiring.{Wiring}
use Rattle.virt_topo.specs.Wirings.{mapped}
use Rattle.virt_topo.specs.Soundness.{IsSound}
use Rattle.journal_rec.specs.declared.record.Record.{Record}
use Rattle.journal_rec.specs.declared.record.Record.TheVariants.{Begin}
use Rattle.records_model.specs.Labs.{LabState, Move, BeginsChange, Commits, Aborts, HasText, Says, becomes, can_take, change_in, find, in_phase, in_state, inside, moved, moved_of, moved_one, replace, with_replaced}
use Rattle.records_model.proofs.Finding.{found_from, none_some}
use Rattle.records_model.proofs.Swaps.{find_replaced}
use Rattle.lab_state.specs.Texts.{the_texts}
use Rattle.lab_state.proofs.Canonical.{texts_once}
use Rattle.recovery.specs.Due.{is_busy}
use Rattle.ns_events.specs.declared.event.Event.{Event as LinkEvent}
use Rattle.ns_events.specs.Changes.{IsApplied, KeepsLimits}
use Rattle.ns_events.specs.Pipes.{lacks_shape}
use Rattle.ns_events.proofs.Behind.{sound_behind}
use Rattle.ns_events.specs.Schedules.{IsSchedule}
use Rattle.ns_text.specs.Wirings.{ScriptOf}
use Rattle.ns_text.specs.declared.read.Script.{Script}
use Rattle.lab_base.specs.declared.fault.TextFault.{TextFault}
use Rattle.script_text.specs.Replies.{closes, played_of}
use Rattle.script_text.specs.declared.reply.Reply.{Reply}
use Rattle.script_text.specs.declared.reply.Reply.TheVariants as replies
use Rattle.script_text.specs.declared.reply.FailedEnd.TheVariants as ends
use Rattle.script_text.specs.declared.command.Command.TheVariants as commands
use Rattle.lab_base.specs.declared.what.What.TheVariants as whats
use Rattle.swap_txn.specs.Troubles.{what_of}
use Rattle.swap_turns.specs.Beginning.{opened as opened_swap}
use Rattle.swap_turns.specs.Legs.{Forth, Undo, Settling}
use Rattle.swap_turns.specs.Swaps.{Swap as SwapOf, Moves}
use Rattle.swap_turns.specs.Turning.{Outcome, More, TurnsBack, Ended, Stuck, Unwritten, Stopped as Halted}
use Rattle.swap_turns.specs.Whole.{SwapSteps, begun, unwritten, stopped as stopped_so}
use Rattle.swap_turns.proofs.Finishing.{onward_swap}
use Rattle.lab_tasks.specs.Needs.{OrRefused, asked, need_idle_in, need_meaning, refused}
use Rattle.lab_tasks.specs.Tasks.{Task}
use Rattle.lab_tasks.specs.Mappings.{in_slot, judged_change, task_over}
use Rattle.lab_tasks.specs.Playing.{AreDue, JudgedChange, Playing, first_place, mapping_in, need_shape, need_shapes}
use Rattle.lab_judge.proofs.Fits.{is_outer}
use Rattle.lab_core.specs.Commands.{LabStep, ground_by}
use Rattle.lab_core.specs.LabSteps.{Does, IfSpace, IsAnswered, IsDoneBy, Replies, Swaps, does, done_reply, end_reply, end_session, is_told, no_memory, not_opened, opened, undone_end}
use Rattle.lab_core.specs.Lists.{DoesList, Ground, Lists, Past, broken, last_reply, listed, more, no_memory as list_no_memory, none, over, refused as list_refused, set_at, wanting}
use Rattle.lab_core.specs.Moments.{with_more}
use Rattle.lab_core.specs.PlayList.{JudgedEvent, JudgedNext, JudgedPlay, after_event, events_in_turn, none_left}
use Rattle.lab_core.specs.PlayWirings.{AreApplied, AreWiredBy, IsWiredBy, PlayWires, found_there}
use Rattle.lab_core.specs.Sessions.{After, Closed, Open, OpenSwap, Session, Setting, Terms, names_of, open_by, shut_by}
use Rattle.lab_core.specs.Tells.{BeginsAt, IsThere, is_in}
use Rattle.lab_core.proofs.Events.{FitsPlain, event_fits, refuse_so}
use Rattle.lab_core.proofs.PlayTells.{breaks_not, found_is, going_on, idle_plain, is_played, starts_in}

-- the experiment has that wiring in that lab
record IsWired (u : LabState) (exp : List ℕ) (w : Wiring) : Type 0 where
  experiment : Experiment
  found : find exp u.experiments ≡ Some experiment
  wiring_is : experiment.wiring ≡ w

-- THE FIRST RECORD of a change, and its last one, and that of one that was undone
module _ (lab : Lab) (es : List Experiment) (name : List ℕ) (g : Experiment) (found : find name es ≡ Some g) (after : LabState) where
  put_there : (f : Experiment) → f.name ≡ g.name → in_state lab (Some (replace name f es)) ≡ Some after → find name after.experiments ≡ Some f
  put_there f named gives = subst (λ (u : LabState). find name u.experiments ≡ Some f) (same_Some _ after gives) (find_replaced name es g f found (named ∙ (found_from name es g found).name_is))

  put_if : (b : Bool) (f : Experiment) → f.name ≡ g.name → in_state lab (with_replaced name es (cond b (Some f) None)) ≡ Some after → find name after.experiments ≡ Some f
  put_if true f named gives = put_there f named gives
  put_if false f named gives = none_some after gives

  put : (f : Experiment) → f.name ≡ g.name → in_state lab (Some (replace name f es)) ≡ Some after → IsWired after name f.wiring
  put f named gives = record { experiment = f; found = put_there f named gives; wiring_is = refl }

changes : (lab : Option Lab) (es : List Experiment) (name : List ℕ) (g : Experiment) (mapping : Mapping) (tags : List VlanId) (w : Wiring) (other : Mapping) (others : List VlanId) (after : LabState) → find name es ≡ Some g → g.phase ≡ phases.In mapping tags
    → moved_of lab es (BeginsChange name w other others) ≡ Some after → find name after.experiments ≡ Some (in_phase g (Moving (Some (mapped g.wiring mapping tags)) (Some (mapped w other others))))
changes None es name g mapping tags w other others after found is_inside gives = none_some after gives
changes (Some lab) es name g mapping tags w other others after found is_inside gives =
    put_if lab es name g found after (can_take lab es g (mapped w other others)) _ refl
    (sym (ap (λ (o : Option Experiment). in_state lab (moved_one lab es name o (BeginsChange name w other others))) found ∙ ap (λ (p : Phase). in_state lab (with_replaced name es (becomes lab es g p (BeginsChange name w other others)))) is_inside) ∙ gives)

committed : (lab : Option Lab) (es : List Experiment) (name : List ℕ) (g : Experiment) (old new : Mapped) (after : LabState) → find name es ≡ Some g → g.phase ≡ Moving (Some old) (Some new) → moved_of lab es (Commits name) ≡ Some after → IsWired after name new.wiring
committed None es name g old new after found moving gives = none_some after gives
committed (Some lab) es name g old new after found moving gives =
    put lab es name g found after (inside g new) refl
    (sym (ap (λ (o : Option Experiment). in_state lab (moved_one lab es name o (Commits name))) found ∙ ap (λ (p : Phase). in_state lab (with_replaced name es (becomes lab es g p (Commits name)))) moving) ∙ gives)

aborted : (lab : Option Lab) (es : List Experiment) (name : List ℕ) (g : Experiment) (old new : Mapped) (after : LabState) → find name es ≡ Some g → g.phase ≡ Moving (Some old) (Some new) → moved_of lab es (Aborts name) ≡ Some after → IsWired after name old.wiring
aborted None es name g old new after found moving gives = none_some after gives
aborted (Some lab) es name g old new after found moving gives =
    put lab es name g found after (inside g old) refl
    (sym (ap (λ (o : Option Experiment). in_state lab (moved_one lab es name o (Aborts name))) found ∙ ap (λ (p : Phase). in_state lab (with_replaced name es (becomes lab es g p (Aborts name)))) moving) ∙ gives)

-- THE RECORD of a change says a wiring that its text is of
record SaysWiring (name top : List ℕ) (tags : List VlanId) (move : Move) : Type 0 where
  wiring : Wiring
  mapping : Mapping
  text : HasText the_texts wiring
  says : top ≡ the_texts.top wiring
  move_is : move ≡ BeginsChange name wiring mapping tags

change_says : (s : LabState) (name top map : List ℕ) (tags : List VlanId) (second : Bool) (move : Move) → Says the_texts s (Begin name (change_in second top map tags)) move → SaysWiring name top tags move
change_says s name top map tags true move (lab, w, m, lab_is, sane, says, shaped, map_is, move_is) = record { wiring = w; mapping = m; text = says.text; says = says.says; move_is = move_is }
change_says s name top map tags false move (lab, w, m, lab_is, sane, says, shaped, map_is, move_is) = record { wiring = w; mapping = m; text = says.text; says = says.says; move_is = move_is }

-- WHAT A REPLY TO ONE EVENT TELLS: where it is `in`, its wiring is there, and the controller stays open; else that of before
abbrev Wires : LinkEvent → Wiring → Wiring → List ℕ → List OpenSwap → Reply → After → Type 0
Wires event text now exp opens (replies.In name) after = ((new : Wiring) × IsWiredBy event text now new × IsWired after.lab exp new) × (after.session ≡ Open opens)
Wires event text now exp opens reply after = IsWired after.lab exp now

-- a reply that ends it and stops the plant or closes the controller
abbrev Mild : Reply → After → Type 0
Mild reply after = after.session ≡ Closed → (reply ≡ replies.Stopped → ⊥) × (closes reply ≡ false)

module _ (event : LinkEvent) (text : Wiring) (exp : List ℕ) (opens : List OpenSwap) (after : After) (reply : Reply) (is : after.reply ≡ Some reply) (mild : Mild reply after) where
  abbrev Is : Wiring → Reply → Type 0
  Is now told = Wires event text now exp opens told after

  not_in : (now : Wiring) (told : Reply) → is_outer told ≡ false → IsWired after.lab exp now → Is now told
  not_in now (replies.In name) inner here = absurd (cc inner)
  not_in now told inner here = here

  as_told : (now : Wiring) (told : Reply) → Some told ≡ Some reply → Is now told → Is now reply
  as_told now told same h = subst (Is now) (same_Some told reply same) h

  none_told : {X : Type 0} → None ≡ Some reply → X
  none_told none' = absurd (cc none')

  replied : (s : LabState) (now : Wiring) (told : Reply) (own : List Event) → is_outer told ≡ false → IsWired s exp now → Replies s opens told own after → Is now reply
  replied s now told own inner here d =
      as_told now told (sym (ap (λ (a : After). a.reply) d.after_is) ∙ is) (not_in now told inner (subst (λ (u : LabState). IsWired u exp now) (sym (ap (λ (a : After). a.lab) d.after_is)) here))

  -- A CHANGE to the wiring that the event leaves
  module _ (s : LabState) (e : Experiment) (found : find exp s.experiments ≡ Some e) (mapping : Mapping) (tags : List VlanId) (is_inside : e.phase ≡ phases.In mapping tags) (shaped : lacks_shape event.link text e.wiring ≡ false) (left : Wiring) (applied : IsApplied event text e.wiring left) where
    named : e.name ≡ exp
    named = (found_from exp s.experiments e found).name_is

    module _ (p : SwapOf) (entry : Record) (move : Move) (others : List VlanId) (says : SaysWiring e.name (the_texts.top left) others move) (own_name : p.name ≡ e.name) (moves : (state : LabState) → moved s move ≡ Some state → Moves p state) where
      abbrev old : Mapped
      old = mapped e.wiring mapping tags

      abbrev new : Mapped
      new = mapped says.wiring says.mapping others

      -- the experiment in the lab after the record
      record IsBegun (u : LabState) : Type 0 where
        found_one : find e.name u.experiments ≡ Some (in_phase e (Moving (Some old) (Some new)))
        new_is : p.new ≡ Some new
        old_is : p.old ≡ Some old

      is_begun : (u : LabState) → moved s move ≡ Some u → IsBegun u
      is_begun u gives =
          let m = moves u gives in
          let there = changes s.lab s.experiments e.name e mapping tags says.wiring says.mapping others u (ap (λ (n : List ℕ). find n s.experiments) named ∙ found) is_inside (ap (λ (x : Move). moved s x) (sym says.move_is) ∙ gives) in
          let same : m.exp ≡ in_phase e (Moving (Some old) (Some new)) = same_Some m.exp _ (sym m.found ∙ ap (λ (n : List ℕ). find n u.experiments) own_name ∙ there) in
          let phases : Moving p.old p.new ≡ Moving (Some old) (Some new) = sym m.moving ∙ ap (λ (x : Experiment). x.phase) same in
          record { found_one = there; new_is = cc phases; old_is = cc phases }

      behind_it : IsWiredBy event text e.wiring says.wiring
      behind_it = record { shaped = shaped; left = left; applied = applied; as_text = sym says.says; has_text = says.text }

      wired_as : (w : Wiring) → IsWired after.lab e.name w → IsWired after.lab exp w
      wired_as w here = subst (λ (n : List ℕ). IsWired after.lab n w) named here

      ends_wired : (steps : List Event) (outcome : Outcome) → end_reply p outcome ≡ Some reply → after.session ≡ end_session opens outcome → SwapSteps p s entry move steps after.lab outcome → Is e.wiring reply
      ends_wired steps (Ended Forth) told session (begun b) =
          let g = is_begun b.state b.begins.moves in
          let at : b.finishes.at.swap ≡ p = onward_swap b.state (opened_swap p) b.finishes.front b.finishes.at b.finishes.onward in
          let gives : moved b.state (Commits e.name) ≡ Some after.lab = ap (λ (n : List ℕ). moved b.state (Commits n)) (sym (ap (λ (q : SwapOf). q.name) at ∙ own_name)) ∙ b.finishes.turn.0.1.moves in
          as_told e.wiring (replies.In p.name) (ap (λ (o : Option Mapped). Some (done_reply p.name o)) (sym g.new_is) ∙ told)
          ((says.wiring, behind_it, wired_as says.wiring (committed b.state.lab b.state.experiments e.name _ old new after.lab g.found_one refl gives)), session)
      ends_wired steps (Ended (Undo why)) told session (begun b) =
          let g = is_begun b.state b.begins.moves in
          let at : b.finishes.at.swap ≡ p = onward_swap b.state (opened_swap p) b.finishes.front b.finishes.at b.finishes.onward in
          let gives : moved b.state (Aborts e.name) ≡ Some after.lab = ap (λ (n : List ℕ). moved b.state (Aborts n)) (sym (ap (λ (q : SwapOf). q.name) at ∙ own_name)) ∙ b.finishes.turn.0.1.moves in
          as_told e.wiring (replies.Failed p.name (undone_end p.old) (what_of why)) told (wired_as e.wiring (aborted b.state.lab b.state.experiments e.name _ old new after.lab g.found_one refl gives))
      ends_wired steps (Stuck trouble) told session (begun b) =
          let g = is_begun b.state b.begins.moves in
          as_told e.wiring (replies.Failed p.name ends.Stuck (what_of trouble)) told
          (subst (λ (u : LabState). IsWired u exp e.wiring) (sym b.finishes.turn.3) (record { experiment = in_phase e (Moving (Some old) (Some new)); found = ap (λ (n : List ℕ). find n b.state.experiments) (sym named) ∙ g.found_one; wiring_is = refl }))
      ends_wired steps Unwritten told session h = let both : false ≡ true = sym (mild session).1 ∙ ap closes (sym (same_Some (replies.Failed p.name ends.Stuck whats.Journal) reply told)) in absurd (cc both)
      ends_wired steps Halted told session h = absurd ((mild session).0 (sym (same_Some replies.Stopped reply told)))
      ends_wired steps (Ended Settling) told session h = none_told told
      ends_wired steps More told session h = none_told told
      ends_wired steps (TurnsBack why) told session h = none_told told
      ends_wired steps (Ended Forth) told session (unwritten b other) = absurd (cc other)
      ends_wired steps (Ended Forth) told session (stopped_so b other) = absurd (cc other)
      ends_wired steps (Ended (Undo why)) told session (unwritten b other) = absurd (cc other)
      ends_wired steps (Ended (Undo why)) told session (stopped_so b other) = absurd (cc other)
      ends_wired steps (Stuck trouble) told session (unwritten b other) = absurd (cc other)
      ends_wired steps (Stuck trouble) told session (stopped_so b other) = absurd (cc other)

    here : IsWired s exp e.wiring
    here = record { experiment = e; found = found; wiring_is = refl }

    swaps_wired : (map : List ℕ) (others : List VlanId) (second : Bool) (own : List Event) → Swaps s opens e.name (Begin e.name (change_in second (the_texts.top left) map others)) own after → Is e.wiring reply
    swaps_wired map others second own d = by d.answered
      where
        by : IsAnswered (end_reply d.swap d.outcome) opens d.outcome d.behind after → Is e.wiring reply
        by (is_told starts told session) =
            ends_wired d.swap _ d.move others (change_says s e.name (the_texts.top left) map others second d.move d.says) d.name d.moves d.steps d.outcome (sym told ∙ is) session d.ends

    space_wired : (b : Bool) (length : ℕ) (map : List ℕ) (others : List VlanId) (second : Bool) (own : List Event) → IfSpace b length s opens (Swaps s opens e.name (Begin e.name (change_in second (the_texts.top left) map others)) own after) own after → Is e.wiring reply
    space_wired true length map others second own d = swaps_wired map others second own d
    space_wired false length map others second own d = replied s e.wiring (replies.FullJournal length) own refl here d

-- what is judged of a change: a refusal, or that task
abbrev IsOver : Task → Result Task Reply → Type 0
IsOver task (Err refusal) = Unit {0}
IsOver task (Ok asks) = asks ≡ task

change_over : (s : LabState) (count : ℕ) (lab : Lab) (e : Experiment) (w : Wiring) (m : Mapping) → IsOver (task_over s lab e w m) (in_slot count false (judged_change s lab e w m))
change_over s count lab e w m = grind arith

need_is : (s : LabState) (busy : Bool) (exp : List ℕ) (p : Lab × Experiment) → need_idle_in s busy exp ≡ Ok p → (mapping : Mapping) × (tags : List VlanId) × (p.1.phase ≡ phases.In mapping tags)
need_is s busy exp p is = by p.1.phase refl (starts_in s busy exp p is)
  where
    by : (phase : Phase) → p.1.phase ≡ phase → IsThere is_in s exp → (mapping : Mapping) × (tags : List VlanId) × (p.1.phase ≡ phases.In mapping tags)
    by (phases.In mapping tags) same there = (mapping, tags, same)
    by phases.Out same there = absurd (out_of there (same_Some there.experiment p.1 (sym there.found ∙ found_is s busy exp p.0 p.1 is)) same)
      where
        out_of : (there : IsThere is_in s exp) → there.experiment ≡ p.1 → p.1.phase ≡ phases.Out → ⊥
        out_of there one same = let both : false ≡ true = sym (ap is_in (ap (λ (x : Experiment). x.phase) one ∙ same)) ∙ there.is_so in cc both
    by (phases.Moving old new) same there = absurd (moving_of there (same_Some there.experiment p.1 (sym there.found ∙ found_is s busy exp p.0 p.1 is)) same)
      where
        moving_of : (there : IsThere is_in s exp) → there.experiment ≡ p.1 → p.1.phase ≡ phases.Moving old new → ⊥
        moving_of there one same = let both : false ≡ true = sym (ap is_in (ap (λ (x : Experiment). x.phase) one ∙ same)) ∙ there.is_so in cc both

has_shape : (exp : List ℕ) (text : Wiring) (event : LinkEvent) (now : Wiring) (u : Unit {0}) → need_shape exp text event now ≡ Ok u → lacks_shape event.link text now ≡ false
has_shape exp text event now u is = grind arith

-- ONE EVENT, judged in that lab
module _ (exp : List ℕ) (text : Wiring) (event : LinkEvent) (set : Setting) (s : LabState) (opens : List OpenSwap) (own : List Event) (after : After) (reply : Reply) (is : after.reply ≡ Some reply) (mild : Mild reply after) (now : Wiring) (here : IsWired s exp now) where
  abbrev busy : Bool
  busy = is_busy (names_of opens) exp

  refused_wired : (j : Result Task Reply) (r : Reply) → j ≡ Err r → JudgedEvent exp text event s opens j → Does set s opens j own after → Wires event text now exp opens reply after
  refused_wired j r same judged d =
      let fit = event_fits s opens exp text event j judged in
      let calm : is_outer r ≡ false = (subst (λ (x : Result Task Reply). FitsPlain s busy (length opens) exp x) same fit).0 in
      replied event text exp opens after reply is mild s now r own calm here (subst (λ (x : Result Task Reply). Does set s opens x own after) same d)

  change_wired : (p : Lab × Experiment) → need_idle_in s busy exp ≡ Ok p → lacks_shape event.link text p.1.wiring ≡ false → (change : Wiring) → IsApplied event text p.1.wiring change → (j : Result Task Reply) → IsOver (task_over s p.0 p.1 change (mapping_in p.1.phase)) j → JudgedEvent exp text event s opens j → Does set s opens j own after
      → Wires event text now exp opens reply after
  change_wired p needed shaped change applied (Err r) over_it judged d = refused_wired (Err r) r refl judged d
  change_wired p needed shaped change applied (Ok task) over_it judged d =
      let at = need_is s busy exp p needed in
      let found = found_is s busy exp p.0 p.1 needed in
      let same : p.1.wiring ≡ now = ap (λ (x : Experiment). x.wiring) (same_Some p.1 here.experiment (sym found ∙ here.found)) ∙ here.wiring_is in
      subst (λ (w : Wiring). Wires event text w exp opens reply after) same
      (space_wired event text exp opens after reply is mild s p.1 found at.0 at.1 at.2 shaped change applied _ set.length _ _ _ own (subst (λ (t : Task). Does set s opens (Ok t) own after) over_it d))

  event_wired : (j : Result Task Reply) → JudgedEvent exp text event s opens j → Does set s opens j own after → Wires event text now exp opens reply after
  event_wired j (refused r needed same) d = refused_wired j r same (refused r needed same) d
  event_wired j (asked p needed judged) d = by judged
    where
      by : OrRefused (need_shape exp text event p.1.wiring) (λ shaped. JudgedChange exp text event s (length opens) p.0 p.1) j → Wires event text now exp opens reply after
      by (refused r lacks same) = refused_wired j r same (asked p needed judged) d
      by (asked shaped has change) =
          change_wired p needed (has_shape exp text event p.1.wiring shaped has) change.wiring change.applied j (subst (IsOver (task_over s p.0 p.1 change.wiring (mapping_in p.1.phase))) (sym change.is) (change_over s (length opens) p.0 p.1 change.wiring (mapping_in p.1.phase))) (asked p needed judged) d

-- one event more
after_more : (text : Wiring) (gone : List LinkEvent) (event : LinkEvent) (a b c : Wiring) → AreWiredBy text gone a b → IsWiredBy event text b c → AreWiredBy text (gone ++ event ∷ []) a c
after_more text [] event a b c are one = (c, subst (λ (w : Wiring). IsWiredBy event text w c) are one, refl)
after_more text (e ∷ gone) event a b c are one = (are.0, are.1, after_more text gone event are.0 b c are.2 one)

-- where wirings have texts and events keep the limits, they are the very wirings that the events leave
pub all_applied : (text : Wiring) (events : List LinkEvent) (before after : Wiring) → IsSound text → ((event : LinkEvent) → Has events event → KeepsLimits event.what) → HasText the_texts before → AreWiredBy text events before after → AreApplied text events before after
all_applied text [] before after sound keeps has are = are
all_applied text (event ∷ events) before after sound keeps has (mid, one, are) =
    let left_sound : IsSound one.left = sound_behind event text before one.left sound has.sound (keeps event (inl refl)) one.shaped one.applied in
    let left_text : HasText the_texts one.left = record { sound = left_sound; printable = ap the_texts.is_printable one.applied.rest ∙ has.printable } in
    let same : mid ≡ one.left = texts_once.tops mid one.left one.has_text left_text one.as_text in (
      mid,
      subst (λ (w : Wiring). IsApplied event text before w) (sym same) one.applied,
      all_applied text events mid after sound (λ e in_rest. keeps e (inr in_rest)) one.has_text are,
    )

-- SOME OF THEM, from that wiring
record Gone (exp : List ℕ) (start : Playing) (first : Wiring) (at : Playing) (u : LabState) : Type 0 where
  gone : List LinkEvent
  rest : List LinkEvent
  all_are : start.left ≡ gone ++ rest
  on : at.ended ≡ None → rest ≡ at.left
  count : length gone ≡ at.played
  text_same : at.text ≡ start.text
  wiring : Wiring
  behind : AreWiredBy start.text gone first wiring
  here : IsWired u exp wiring

module _ (exp : List ℕ) (start : Playing) (first : Wiring) where
  -- after the next
  module _ (at : Playing) (event : LinkEvent) (left : List LinkEvent) (left_is : at.left ≡ event ∷ left) (s : LabState) (g : Gone exp start first at s) (going : at.ended ≡ None) (opens : List OpenSwap) (after : After) where
    goes_on : (name : List ℕ) → Wires event at.text g.wiring exp opens (replies.In name) after → Gone exp start first (after_event exp at (replies.In name)) after.lab
    goes_on name w = record {
      gone = g.gone ++ event ∷ [];
      rest = left;
      all_are = g.all_are ∙ ap (λ l. g.gone ++ l) (g.on going ∙ left_is) ∙ sym (append_assoc g.gone (event ∷ []) left);
      on = λ is. ap (drop 1) (sym left_is);
      count = length-append g.gone (event ∷ []) ∙ ap (λ n. n + 1) g.count;
      text_same = g.text_same;
      wiring = w.0.0;
      behind = after_more start.text g.gone event first g.wiring w.0.0 g.behind (subst (λ (t : Wiring). IsWiredBy event t g.wiring w.0.0) g.text_same w.0.1);
      here = w.0.2;
    }

    ends_so : (told : Reply) → IsWired after.lab exp g.wiring → after_event exp at told ≡ record at { left = drop 1 at.left; ended = Some told } → Gone exp start first (after_event exp at told) after.lab
    ends_so told w same = subst (λ (p : Playing). Gone exp start first p after.lab) (sym same) (record {
      gone = g.gone;
      rest = g.rest;
      all_are = g.all_are;
      on = λ is. let none' : Some told ≡ None = is in absurd (cc none');
      count = g.count;
      text_same = g.text_same;
      wiring = g.wiring;
      behind = g.behind;
      here = w;
    })

    next_by : (told : Reply) → Wires event at.text g.wiring exp opens told after → Gone exp start first (after_event exp at told) after.lab
    next_by (replies.In name) w = goes_on name w
    next_by told w = ends_so told w refl

  module _ (at : Playing) (s : LabState) (g : Gone exp start first at s) (going : at.ended ≡ None) (set : Setting) (opens : List OpenSwap) (steps : List Event) (after : After) (reply : Reply) (replied : after.reply ≡ Some reply) (mild : Mild reply after)
      (done : IsDoneBy (JudgedNext exp at.text at.left s opens) set s opens steps after) where
    -- the next event, and what its reply tells
    next_event : (event : LinkEvent) × (left : List LinkEvent) × (at.left ≡ event ∷ left) × Wires event at.text g.wiring exp opens reply after
    next_event = by at.left refl done
      where
        by : (left : List LinkEvent) → at.left ≡ left → IsDoneBy (JudgedNext exp at.text left s opens) set s opens steps after → (event : LinkEvent) × (left : List LinkEvent) × (at.left ≡ event ∷ left) × Wires event at.text g.wiring exp opens reply after
        by left same (no_memory wants) = let none' : None ≡ Some reply = sym (ap (λ (a : After). a.reply) wants.after_is) ∙ replied in absurd (cc none')
        by [] same (does j judged d) = absurd judged
        by (event ∷ left) same (does j judged d) = (event, left, same, event_wired exp at.text event set s opens steps after reply replied mild g.wiring g.here j judged d)

    next_gone : Gone exp start first (after_event exp at reply) after.lab
    next_gone = let e = next_event in next_by at e.0 e.1 e.2 s g going opens after reply e.3

    in_open : (name : List ℕ) → reply ≡ replies.In name → after.session ≡ Open opens
    in_open name is = let e = next_event in (subst (λ (r : Reply). Wires e.0 at.text g.wiring exp opens r after) is e.3).1

-- WHERE A PLAY BEGINS: before the first of the due events
record Starts (exp : List ℕ) (from until : ℕ) (text : List ℕ) (start : Playing) (s : LabState) : Type 0 where
  script : Script
  means : ScriptOf text (Ok script)
  due : List LinkEvent
  schedule : IsSchedule from until script.events due
  start_is : start ≡ first_place script.wiring due
  experiment : Experiment
  found : find exp s.experiments ≡ Some experiment

meaning_is : (exp : List ℕ) (meaning : Result Script TextFault) (script : Script) → need_meaning (replies.Bad exp) meaning ≡ Ok script → meaning ≡ Ok script
meaning_is exp (Ok other) script is = let same : other ≡ script = cc is in ap (λ (x : Script). Ok x) same
meaning_is exp (Err fault) script is = absurd (cc is)

play_starts : (s : LabState) (opens : List OpenSwap) (exp : List ℕ) (from until : ℕ) (text : List ℕ) (start : Playing) → JudgedPlay s opens exp from until text (Ok start) → Starts exp from until text start s
play_starts s opens exp from until text start (refused r needed is) = let none' : ◌≡◌ {A = Result Playing Reply} (Ok start) (Err r) = is in absurd (cc none')
play_starts s opens exp from until text start (asked p needed has) = by has.judged
  where
    last : (script : Script) → ScriptOf text (Ok script) → OrRefused (need_shapes exp script.wiring script.events p.1.wiring) (λ shaped. AreDue from until script) (Ok start) → Starts exp from until text start s
    last script means (refused r lacks is) = let none' : ◌≡◌ {A = Result Playing Reply} (Ok start) (Err r) = is in absurd (cc none')
    last script means (asked shaped fits due) = record {
      script = script;
      means = means;
      due = due.due;
      schedule = due.schedule;
      start_is = cc due.is;
      experiment = p.1;
      found = found_is s (is_busy (names_of opens) exp) exp p.0 p.1 needed;
    }

    by : OrRefused (need_meaning (replies.Bad exp) has.meaning) (λ script. OrRefused (need_shapes exp script.wiring script.events p.1.wiring) (λ shaped. AreDue from until script)) (Ok start) → Starts exp from until text start s
    by (refused r faulty is) = let none' : ◌≡◌ {A = Result Playing Reply} (Ok start) (Err r) = is in absurd (cc none')
    by (asked script means judged) = last script (subst (ScriptOf text) (meaning_is exp has.meaning script means) has.is) judged

-- THE WHOLE LIST
is_over_none : (exp : List ℕ) (ended : Option Reply) (left : List LinkEvent) → (is_some ended || none_left exp left) ≡ true → ended ≡ None → left ≡ []
is_over_none exp None [] is none' = refl
is_over_none exp None (event ∷ left) is none' = absurd (cc is)
is_over_none exp (Some reply) left is none' = absurd (cc none')

module _ (exp : List ℕ) (from until : ℕ) (text : List ℕ) (base : Ground) (trace : Option (List Event)) (after : After) (reply : Reply) (replied : after.reply ≡ Some reply) (played : is_played reply ≡ true) (mild : closes reply ≡ false) where
  abbrev Behind : LabState → Type 0
  Behind s = PlayWires (found_there after.lab exp) s exp from until text reply

  module _ (s : LabState) (start : Playing) (starts : Starts exp from until text start s) where
    abbrev Here : Playing → LabState → Type 0
    Here at u = Gone exp start starts.experiment.wiring at u

    first_here : Here start s
    first_here = record {
      gone = [];
      rest = start.left;
      all_are = refl;
      on = λ is. refl;
      count = sym (ap (λ (p : Playing). p.played) starts.start_is);
      text_same = refl;
      wiring = starts.experiment.wiring;
      behind = refl;
      here = record { experiment = starts.experiment; found = starts.found; wiring_is = refl };
    }

    past_here : (opens : List OpenSwap) (own : List Event) (at : Playing) (u : LabState) (to : List OpenSwap) → Past (events_in_turn exp) base trace start s opens own at u to → Here at u
    past_here opens own at u to none = first_here
    past_here opens own at u to (more front place mid between past steps told u' to' next) =
        next_gone exp start starts.experiment.wiring place mid (past_here opens front place mid between past) (going_on exp place.ended place.left next.more) (set_at base next.length) between steps (open_by told u to) told refl
        (λ closed. let both : Open to ≡ Closed = closed in absurd (cc both)) next.done

    whole_at : (u : LabState) (at : Playing) → Here at u → played_of exp at.played at.ended ≡ reply → (at.ended ≡ None → at.left ≡ []) → PlayWires (found_there u exp) s exp from until text reply
    whole_at u at h same all = record {
      script = starts.script;
      means = starts.means;
      played = h.gone;
      left = h.rest;
      due = subst (IsSchedule from until starts.script.events) (sym (ap (λ (p : Playing). p.left) starts.start_is) ∙ h.all_are) starts.schedule;
      ended = at.ended;
      reply_is = sym same ∙ ap (λ n. played_of exp n at.ended) (sym h.count);
      all = λ is. h.on is ∙ all is;
      before = starts.experiment;
      was = starts.found;
      after = h.here.experiment;
      is = h.here.found;
      behind = subst (λ (w : Wiring). AreWiredBy starts.script.wiring h.gone starts.experiment.wiring w) (sym h.here.wiring_is) (subst (λ (w : Wiring). AreWiredBy w h.gone starts.experiment.wiring h.wiring) (ap (λ (p : Playing). p.text) starts.start_is) h.behind);
    }

    lists_here : (opens : List OpenSwap) (own : List Event) → Lists (events_in_turn exp) base trace start s opens own after → Behind s
    lists_here opens own (over at u to past is_over after_is) =
        subst (λ (a : After). PlayWires (found_there a.lab exp) s exp from until text reply) (sym after_is)
        (whole_at u at (past_here opens own at u to past) (same_Some _ _ (sym (ap (λ (a : After). a.reply) after_is) ∙ replied)) (is_over_none exp at.ended at.left is_over))
    lists_here opens own (wanting at u to past after_is) = let none' : None ≡ Some reply = sym (ap (λ (a : After). a.reply) after_is) ∙ replied in absurd (cc none')
    lists_here opens own (broken front steps at mid between None u own_is past next after_is) = let none' : None ≡ Some reply = sym (ap (λ (a : After). a.reply) after_is) ∙ replied in absurd (cc none')
    lists_here opens own (broken front steps at mid between (Some last) u own_is past next after_is) =
        subst (λ (a : After). PlayWires (found_there a.lab exp) s exp from until text reply) (sym after_is) (whole_at u (after_event exp at last) gone (whole_is last refl not_stopped) (all last refl))
      where
        told_is : last_reply (events_in_turn exp) at (Some last) ≡ Some reply
        told_is = sym (ap (λ (a : After). a.reply) after_is) ∙ replied

        not_stopped : last ≡ replies.Stopped → ⊥
        not_stopped is =
            let same : replies.Stopped ≡ reply = same_Some _ _ (ap (λ r. last_reply (events_in_turn exp) at (Some r)) (sym is) ∙ told_is) in
            let both : false ≡ true = ap is_played same ∙ played in
            cc both

        whole_is : (told : Reply) → last ≡ told → (last ≡ replies.Stopped → ⊥) → played_of exp (after_event exp at told).played (after_event exp at told).ended ≡ reply
        whole_is replies.Stopped is other = absurd (other is)
        whole_is told is other = same_Some _ reply (ap (λ r. last_reply (events_in_turn exp) at (Some r)) (sym is) ∙ told_is)

        calm : (told : Reply) → last ≡ told → played_of exp (after_event exp at told).played (after_event exp at told).ended ≡ reply → closes told ≡ false
        calm (replies.In name) is same = refl
        calm told is same = ap closes same ∙ mild

        mildly : Mild last (shut_by (Some last) u)
        mildly closed = (not_stopped, calm last refl (whole_is last refl not_stopped))

        going : at.ended ≡ None
        going = going_on exp at.ended at.left next.more

        gone : Here (after_event exp at last) u
        gone = next_gone exp start starts.experiment.wiring at mid (past_here opens front at mid between past) going (set_at base next.length) between steps (shut_by (Some last) u) last refl mildly next.done

        all : (told : Reply) → last ≡ told → (after_event exp at told).ended ≡ None → (after_event exp at told).left ≡ []
        all (replies.In name) is none' =
            let both : Closed ≡ Open between =
            in_open exp start starts.experiment.wiring at mid (past_here opens front at mid between past) going (set_at base next.length) between steps (shut_by (Some last) u) last refl mildly next.done name is in
            absurd (cc both)
        all told is none' = absurd (cc none')

  list_here : (s : LabState) (opens : List OpenSwap) (own : List Event) → DoesList (events_in_turn exp) (JudgedPlay s opens exp from until text) base trace s opens own after → Behind s
  list_here s opens own (list_refused r judged d) =
      let same : reply ≡ r = same_Some _ _ (sym replied ∙ ap (λ (a : After). a.reply) d.after_is) in
      let both : true ≡ false = sym played ∙ ap is_played same ∙ refuse_so is_played idle_plain (λ exp fault. refl) s opens exp from until text r judged in
      absurd (cc both)
  list_here s opens own (list_no_memory wants) = let none' : None ≡ Some reply = sym (ap (λ (a : After). a.reply) wants.after_is) ∙ replied in absurd (cc none')
  list_here s opens own (listed start judged lists) = lists_here s start (play_starts s opens exp from until text start judged) opens own lists

-- A LAB STEP of `play`
module _ (terms : Terms) (at : Option (List Event)) (set : Setting) (s : LabState) (exp : List ℕ) (from until lines : ℕ) (text : List ℕ) (opening own : List Event) (after : After) (reply : Reply) (is : after.reply ≡ Some reply) (played : is_played reply ≡ true) (mild : closes reply ≡ false) where
  step_wires : (session : Session) → LabStep terms at set s session (commands.Play exp from until lines text) opening own after → (mid : LabState) × BeginsAt session s opening mid × PlayWires (found_there after.lab exp) mid exp from until text reply
  step_wires Closed (opened mid opens done) = (mid, opens, list_here exp from until text (ground_by set) (with_more at opening) after reply is played mild mid [] own done)
  step_wires Closed (not_opened b) = breaks_not opening after.reply reply is played b.breaks
  step_wires (Open opens) (none', done) = (s, refl, list_here exp from until text (ground_by set) (with_more at opening) after reply is played mild s opens own done)

pub play_wires : (terms : Terms) (at : Option (List Event)) (set : Setting) (s : LabState) (session : Session) (exp name : List ℕ) (from until lines count : ℕ) (text last : List ℕ) (closing blaming : Bool) (opening own : List Event) (after : After)
    → after.reply ≡ Some (replies.Played name count last closing blaming) → closing ≡ false → LabStep terms at set s session (commands.Play exp from until lines text) opening own after
    → (mid : LabState) × BeginsAt session s opening mid × PlayWires (found_there after.lab exp) mid exp from until text (replies.Played name count last closing blaming)
play_wires terms at set s session exp name from until lines count text last closing blaming opening own after is mild step = step_wires terms at set s exp from until lines text opening own after _ is refl mild session step

-- WHAT IS SO of the experiment after it, by what follows from that
pub wires_so : (Was Is : Experiment → Type 0) → ((e : Experiment) → Was e → Is e) → (s : LabState) (exp : List ℕ) (from until : ℕ) (text : List ℕ) (reply : Reply) → PlayWires Was s exp from until text reply → PlayWires Is s exp from until text reply
wires_so Was Is so s exp from until text reply w = record {
  script = w.script;
  means = w.means;
  played = w.played;
  left = w.left;
  due = w.due;
  ended = w.ended;
  reply_is = w.reply_is;
  all = w.all;
  before = w.before;
  was = w.was;
  after = w.after;
  is = so w.after w.is;
  behind = w.behind;
}
