-- EACH LINK EVENT IS A CHANGE by texts: what is judged of it is what is judged of `modify-with`.
use Rattle.std.specs.Prelude.{◌≡◌, ℕ, Bool, false, true, List, Result, Ok, Err}
use Rattle.phys_lab.specs.Labs.{Lab}
use Rattle.virt_topo.specs.declared.experiment.Experiment.{Experiment}
use Rattle.virt_topo.specs.declared.wiring.Wiring.{Wiring}
use Rattle.virt_topo.specs.Soundness.{IsSound}
use Rattle.lab_base.specs.Lists.{Has}
use Rattle.records_model.specs.Labs.{LabState, Sane}
use Rattle.ns_events.specs.declared.event.Event.{Event as LinkEvent}
use Rattle.ns_events.specs.Changes.{IsApplied, KeepsLimits}
use Rattle.ns_events.specs.Pipes.{lacks_shape}
use Rattle.script_text.specs.declared.reply.Reply.{Reply}
use Rattle.solution_text.specs.CanonicalSolution.{canonical_solution}
use Rattle.top_text.specs.Canonical.{canonical_top}
use Rattle.top_text.specs.Printable.{is_printable}
use Rattle.lab_tasks.specs.Tasks.{Task}
use Rattle.lab_tasks.specs.Mappings.{in_slot, judged_modify_with}
use Rattle.lab_tasks.specs.Needs.{need_idle_in}
use Rattle.lab_tasks.specs.Playing.{JudgedEventAt, bad_shape, mapping_in}

module _ (exp : List ℕ) (text : Wiring) (event : LinkEvent) (s : LabState) (busy : Bool) (count : ℕ) where
  -- the canonical texts of the wiring that the event leaves and of the present mapping, where there is an idle experiment that is in
  abbrev pub AreItsTexts : List ℕ → List ℕ → Type 0
  AreItsTexts top map = (lab : Lab) (e : Experiment) → need_idle_in s busy exp ≡ Ok (lab, e)
      → (w : Wiring) × IsApplied event text e.wiring w × (top ≡ canonical_top w) × (map ≡ canonical_solution lab w (mapping_in e.phase))

  -- the link lacks the shape that it has in its text; or the judgement is that of `modify-with` by those texts, the refusals of it among them
  pub data IsItsChange (judgement : Result Task Reply) : Type 0 where
    lacks : (lab : Lab) (e : Experiment) → need_idle_in s busy exp ≡ Ok (lab, e) → lacks_shape event.link text e.wiring ≡ true → judgement ≡ Err (bad_shape exp event) → IsItsChange judgement
    changes : (top map : List ℕ) → AreItsTexts top map → ((lines : ℕ) → judgement ≡ in_slot count false (judged_modify_with s busy exp lines top map)) → IsItsChange judgement

-- of each event that keeps the limits, of a sound text, in a lab whose wirings can be printed
abbrev pub EventsAreChanges : Type 0
EventsAreChanges = (exp : List ℕ) (text : Wiring) (event : LinkEvent) (s : LabState) (busy : Bool) (count : ℕ) (judgement : Result Task Reply)
    → Sane s → ((e : Experiment) → Has s.experiments e → is_printable e.wiring ≡ true) → IsSound text → KeepsLimits event.what
    → JudgedEventAt exp text event s busy count judgement → IsItsChange exp text event s busy count judgement
