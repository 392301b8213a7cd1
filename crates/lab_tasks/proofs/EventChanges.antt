-- A link event is judged as `modify-with` by the texts of what it leaves.
use Rattle.std.proofs.Common.{◌≡◌, ℕ, Bool, true, false, List, [], Some, Result, Ok, Err, refl, sym, ap, ◌∙◌, subst, arith}
use Rattle.std.specs.Prelude.{if◌then◌else◌}
use Rattle.lab_base.specs.Lists.{Has}
use Rattle.lab_base.specs.declared.ids.VlanId.{VlanId}
use Rattle.phys_lab.specs.Labs.{Lab}
use Rattle.phys_lab.specs.Kept.{IsLab}
use Rattle.virt_topo.specs.declared.experiment.Experiment.{Experiment}
use Rattle.virt_topo.specs.declared.experiment.Phase.{Phase}
use Rattle.virt_topo.specs.declared.experiment.Phase.TheVariants.{In, Out, Moving}
use Rattle.virt_topo.specs.declared.mapping.Mapping.{Mapping}
use Rattle.virt_topo.specs.declared.wiring.Wiring.{Wiring}
use Rattle.virt_topo.specs.Soundness.{IsSound}
use Rattle.lab_model.specs.Shapes.{IsShaped}
use Rattle.records_model.specs.Labs.{LabState, Sane, find, lab_in}
use Rattle.records_model.proofs.Swaps.{found_in}
use Rattle.ns_events.specs.declared.event.Event.{Event as LinkEvent}
use Rattle.ns_events.specs.Changes.{IsApplied, KeepsLimits}
use Rattle.ns_events.specs.Pipes.{lacks_shape}
use Rattle.ns_events.proofs.Behind.{sound_behind}
use Rattle.script_text.specs.declared.reply.Reply.{Reply}
use Rattle.solution_text.specs.CanonicalSolution.{canonical_solution}
use Rattle.solution_text.proofs.SolutionAgain.{canonical_again}
use Rattle.top_text.specs.Canonical.{canonical_top}
use Rattle.top_text.specs.Printable.{is_printable}
use Rattle.top_text.proofs.TopWhole.{top_again}
use Rattle.lab_state.proofs.TextLaws.{are_named_of}
use Rattle.lab_tasks.specs.EventChanges.{EventsAreChanges, IsItsChange, changes, lacks}
use Rattle.lab_tasks.specs.Needs.{OrRefused, asked, need_idle_in, need_in, refused}
use Rattle.lab_tasks.specs.Tasks.{Task}
use Rattle.lab_tasks.specs.Mappings.{in_slot, judged_change, judged_modify_with}
use Rattle.lab_tasks.specs.Playing.{JudgedChange, JudgedEventAt, bad_shape, mapping_in}
use Rattle.lab_tasks.proofs.JudgeSwap.{over_reads}
use Rattle.lab_tasks.proofs.JudgeTasks.{stands_sound}
use Rattle.lab_tasks.proofs.JudgePlay.{still_shaped}

-- an experiment that is in
inside_by : (exp : List ℕ) (p : Phase) (x : Unit {0}) → need_in exp p ≡ Ok x → (m : Mapping) × (tags : List VlanId) × (p ≡ In m tags)
inside_by exp Out x is = absurd (cc is)
inside_by exp (In m tags) x is = (m, tags, refl)
inside_by exp (Moving old new) x is = absurd (cc is)

-- the lab and the experiment of an answer
abbrev lab_of : Lab → Result (Lab × Experiment) Reply → Lab
lab_of other (Ok p) = p.0
lab_of other (Err reply) = other

abbrev one_of : Experiment → Result (Lab × Experiment) Reply → Experiment
one_of other (Ok p) = p.1
one_of other (Err reply) = other

-- what refuses an event before its shape refuses `modify-with` by any texts
refuses_any : (s : LabState) (busy : Bool) (exp : List ℕ) (reply : Reply) (lines : ℕ) (top map : List ℕ) → need_idle_in s busy exp ≡ Err reply → judged_modify_with s busy exp lines top map ≡ Err reply
refuses_any s busy exp reply lines top map is = grind arith

module _ (s : LabState) (busy : Bool) (exp : List ℕ) (lab : Lab) (e : Experiment) (is : need_idle_in s busy exp ≡ Ok (lab, e)) where
  lab_is : s.lab ≡ Some lab
  lab_is = grind arith

  found_is : find exp s.experiments ≡ Some e
  found_is = grind arith

  idle_is : busy ≡ false
  idle_is = grind arith

  in_is : need_in exp e.phase ≡ Ok tt
  in_is = grind arith

module _ (exp : List ℕ) (text : Wiring) (event : LinkEvent) (s : LabState) (busy : Bool) (count : ℕ) (sane : Sane s) (printable : (e : Experiment) → Has s.experiments e → is_printable e.wiring ≡ true)
    (sound_text : IsSound text) (limits : KeepsLimits event.what) where
  -- the wiring after it is sound, its text is read back, and so is that of the mapping
  reads : (lab : Lab) (e : Experiment) (needed : need_idle_in s busy exp ≡ Ok (lab, e)) → lacks_shape event.link text e.wiring ≡ false → (w : Wiring) → IsApplied event text e.wiring w → (lines : ℕ)
      → judged_modify_with s busy exp lines (canonical_top w) (canonical_solution lab w (mapping_in e.phase)) ≡ judged_change s lab e w (mapping_in e.phase)
  reads lab e needed shaped w applied lines =
      let is = lab_is s busy exp lab e needed in
      let found = found_is s busy exp lab e needed in
      let has = found_in exp s.experiments e found in
      let inside = inside_by exp e.phase tt (in_is s busy exp lab e needed) in
      let placed : mapping_in e.phase ≡ inside.0 = ap mapping_in inside.2 in
      let sound : IsSound w = sound_behind event text e.wiring w sound_text (sane.wirings e has) limits shaped applied in
      let prints : is_printable w ≡ true = ap is_printable applied.rest ∙ printable e has in
      let is_lab : IsLab lab = subst IsLab (ap lab_in is) sane.is_lab in
      let there : IsShaped lab w inside.0 = still_shaped event text e.wiring w applied lab inside.0 (stands_sound s exp lab e inside.0 inside.1 sane is found inside.2).1 in
      let goes : judged_modify_with s busy exp lines (canonical_top w) (canonical_solution lab w inside.0) ≡ judged_change s lab e w inside.0
      = over_reads s busy exp lines (canonical_top w) (canonical_solution lab w inside.0) lab e inside.0 inside.1 w inside.0 is found (idle_is s busy exp lab e needed) inside.2
      (top_again w sound prints) (canonical_again lab w inside.0 is_lab sound (are_named_of w prints) there) in
      subst (λ (m : Mapping). judged_modify_with s busy exp lines (canonical_top w) (canonical_solution lab w m) ≡ judged_change s lab e w m) (sym placed) goes

  refuses : (reply : Reply) (j : Result Task Reply) → need_idle_in s busy exp ≡ Err reply → j ≡ Err reply → IsItsChange exp text event s busy count j
  refuses reply j needed is =
      changes [] [] (λ lab e other. let none : ◌≡◌ {A = Result (Lab × Experiment) Reply} (Err reply) (Ok (lab, e)) = sym needed ∙ other in absurd (cc none))
      (λ lines. is ∙ ap (in_slot count false) (sym (refuses_any s busy exp reply lines [] [] needed)))

  module _ (lab : Lab) (e : Experiment) (needed : need_idle_in s busy exp ≡ Ok (lab, e)) where
    same_place : (x : Lab) (f : Experiment) → need_idle_in s busy exp ≡ Ok (x, f) → (lab ≡ x) × (e ≡ f)
    same_place x f other = let same : ◌≡◌ {A = Result (Lab × Experiment) Reply} (Ok (lab, e)) (Ok (x, f)) = sym needed ∙ other in (ap (lab_of lab) same, ap (one_of e) same)

    by_change : lacks_shape event.link text e.wiring ≡ false → (j : Result Task Reply) → JudgedChange exp text event s count lab e j → IsItsChange exp text event s busy count j
    by_change shaped j change =
        let w = change.wiring in
        changes (canonical_top w) (canonical_solution lab w (mapping_in e.phase))
        (λ x f other. let same = same_place x f other in
        (w, subst (λ (g : Experiment). IsApplied event text g.wiring w) same.1 change.applied, refl, (λ i. canonical_solution (same.0 i) w (mapping_in (same.1 i).phase))))
        (λ lines. change.is ∙ ap (in_slot count false) (sym (reads lab e needed shaped w change.applied lines)))

    by_shape : (b : Bool) → lacks_shape event.link text e.wiring ≡ b → (j : Result Task Reply)
        → OrRefused {A = Unit {0}} (if b then Err (bad_shape exp event) else Ok (tt {0})) (λ shaped. JudgedChange exp text event s count lab e) j → IsItsChange exp text event s busy count j
    by_shape true lacking j (refused reply has is) = let same : bad_shape exp event ≡ reply = cc has in lacks lab e needed lacking (is ∙ ap (λ (r : Reply). Err r) (sym same))
    by_shape true lacking j (asked x has change) = absurd (cc has)
    by_shape false shaped j (refused reply has is) = absurd (cc has)
    by_shape false shaped j (asked x has change) = by_change shaped j change

  pub event_changes : (j : Result Task Reply) → JudgedEventAt exp text event s busy count j → IsItsChange exp text event s busy count j
  event_changes j (refused reply needed is) = refuses reply j needed is
  event_changes j (asked p needed judged) = by_shape p.0 p.1 needed (lacks_shape event.link text p.1.wiring) refl j judged

pub events_are_changes : EventsAreChanges
events_are_changes exp text event s busy count j sane printable sound_text limits judged = event_changes exp text event s busy count sane printable sound_text limits j judged
