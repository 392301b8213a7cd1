-- The judgements of link events, as the code makes them.
use Rattle.std.specs.Prelude.{if◌then◌else◌}
use Rattle.std.proofs.Common.{◌≡◌, ℕ, Bool, true, false, List, ◌∷◌, filter, ◌==◌, Result, Ok, Err, refl, sym, ap, ◌∙◌, subst}
use Rattle.std.proofs.lemmas.Bool.{eq-eqb}
use Rattle.lab_base.specs.Lists.{Has}
use Rattle.lab_base.specs.declared.fault.TextFault.{TextFault}
use Rattle.lab_base.specs.declared.ids.VlanId.{VlanId}
use Rattle.lab_base.specs.declared.fault.TextRefused.{TextRefused}
use Rattle.lab_base.specs.declared.fault.TextRefused.TheVariants as texts
use Rattle.lab_base.proofs.Members.{Has-filter, Has-filtered}
use Rattle.phys_lab.specs.Labs.{Lab}
use Rattle.records_model.specs.Labs.{LabState}
use Rattle.virt_topo.specs.declared.experiment.Experiment.{Experiment}
use Rattle.virt_topo.specs.declared.experiment.Phase.TheVariants.{In}
use Rattle.virt_topo.specs.declared.mapping.Mapping.{Mapping}
use Rattle.virt_topo.specs.declared.wiring.Wiring.{Wiring}
use Rattle.lab_model.specs.Shapes.{IsShaped}
use Rattle.ns_events.specs.declared.event.Event.{Event as LinkEvent}
use Rattle.ns_events.specs.Changes.{IsApplied}
use Rattle.ns_events.specs.Pipes.{lacks_shape}
use Rattle.ns_events.specs.Schedules.{IsSchedule, is_due}
use Rattle.ns_text.specs.Wirings.{HasScript, ScriptOf}
use Rattle.ns_text.specs.declared.read.Script.{Script}
use Rattle.script_text.specs.declared.reply.Reply.{Reply}
use Rattle.script_text.specs.declared.reply.Reply.TheVariants as replies
use Rattle.lab_tasks.specs.declared.play.Play.{Play}
use Rattle.lab_tasks.specs.declared.task.Refusal.{Refusal}
use Rattle.lab_tasks.specs.declared.task.Refusal.TheVariants as refusals
use Rattle.lab_tasks.specs.declared.task.Task.{Task as TaskInHand}
use Rattle.lab_tasks.specs.JudgePlay.{IsJudgedPlay}
use Rattle.lab_tasks.specs.Needs.{OrRefused, asked, need_meaning, refused}
use Rattle.lab_tasks.specs.Tasks.{Task, Gives, IsJudged, IsRefusedBy, Refuses, task_of}
use Rattle.lab_tasks.specs.Mappings.{in_slot, judged_change}
use Rattle.lab_tasks.specs.JudgeSwap.{IsInIn}
use Rattle.lab_tasks.specs.Playing.{HasEvents, JudgedChange, Playing, bad_shape, mapping_in, need_shape, need_shapes}
use Rattle.lab_tasks.proofs.JudgeTasks.{stands_sound}

-- ---- WHAT IS JUDGED
-- a check refused, or gave a value
pub list_refused : {A : Type 0} (needed : Result A Reply) (Judges : A → Result Playing Reply → Type 0) (refusal : Refusal) → Refuses {X = Unit {0}} needed (Err refusal) → IsJudgedPlay (OrRefused needed Judges) (Err refusal)
list_refused needed Judges (refusals.Refused reply) h = (refused reply h.0 refl, h.1)
list_refused needed Judges refusals.Memory h = tt

pub list_asked : {A : Type 0} (needed : Result A Reply) (Judges : A → Result Playing Reply → Type 0) (x : A) (result : Result Play Refusal) → needed ≡ Ok x → IsJudgedPlay (Judges x) result → IsJudgedPlay (OrRefused needed Judges) result
list_asked needed Judges x (Ok play) is h = asked x is h
list_asked needed Judges x (Err (refusals.Refused reply)) is h = (asked x is h.0, h.1)
list_asked needed Judges x (Err refusals.Memory) is h = tt

-- a text was read
read_so : (t : List ℕ) (script : Script) → HasScript t (Ok script) → ScriptOf t (Ok script)
unfolding HasScript
read_so t script h = h

fault_so : (t : List ℕ) (fault : TextFault) → HasScript t (Err (texts.Text fault)) → ScriptOf t (Err fault)
unfolding HasScript
fault_so t fault h = h

module _ (exp text : List ℕ) (Judges : Script → Result Playing Reply → Type 0) where
  with_meaning : (meaning : Result Script TextFault) → ScriptOf text meaning → (result : Result Play Refusal) → IsJudgedPlay (OrRefused (need_meaning (replies.Bad exp) meaning) Judges) result → IsJudgedPlay (HasEvents exp text Judges) result
  with_meaning meaning is (Ok play) h = record { meaning = meaning; is = is; judged = h }
  with_meaning meaning is (Err (refusals.Refused reply)) h = (record { meaning = meaning; is = is; judged = h.0 }, h.1)
  with_meaning meaning is (Err refusals.Memory) h = tt

  pub script_read : (script : Script) (result : Result Play Refusal) → HasScript text (Ok script) → IsJudgedPlay (Judges script) result → IsJudgedPlay (HasEvents exp text Judges) result
  script_read script result is h = with_meaning (Ok script) (read_so text script is) result (list_asked (need_meaning (replies.Bad exp) (Ok script)) Judges script result refl h)

  pub script_faulty : (why : TextRefused) (refusal : Refusal) → HasScript text (Err why) → IsRefusedBy (replies.Bad exp) why refusal → IsJudgedPlay (HasEvents exp text Judges) (Err refusal)
  script_faulty (texts.Text fault) refusal is h =
      subst (λ (r : Refusal). IsJudgedPlay (HasEvents exp text Judges) (Err r)) (sym h.0)
      (with_meaning (Err fault) (fault_so text fault is) (Err (refusals.Refused (replies.Bad exp fault))) (refused (replies.Bad exp fault) refl refl, h.1))
  script_faulty texts.Memory refusal is h = subst (λ (r : Refusal). IsJudgedPlay (HasEvents exp text Judges) (Err r)) (sym h) tt

-- of an event: its change
pub still_shaped : (event : LinkEvent) (text now new : Wiring) → IsApplied event text now new → (lab : Lab) (m : Mapping) → IsShaped lab now m → IsShaped lab new m
still_shaped event text now new applied lab m h = subst (λ (w : Wiring). IsShaped lab w m) (sym applied.rest) (record { places = h.places; plugs = h.plugs; in_nodes = h.in_nodes; in_lab = h.in_lab; of_node = h.of_node })

module _ (exp : List ℕ) (text : Wiring) (event : LinkEvent) (s : LabState) (count : ℕ) (lab : Lab) (e : Experiment) (wiring : Wiring) (applied : IsApplied event text e.wiring wiring) where
  change_gives : (judgement : Result Task Reply) (result : Result TaskInHand Refusal) → ((j : Result Task Reply) → j ≡ judgement → JudgedChange exp text event s count lab e j) → Gives judgement result → IsJudged (JudgedChange exp text event s count lab e) result
  change_gives judgement (Ok task) is h = is (Ok (task_of task)) (sym h)
  change_gives judgement (Err (refusals.Refused reply)) is h = (is (Err reply) (sym h.0), h.1)
  change_gives judgement (Err refusals.Memory) is h = tt

  pub change_judged : (mapping : Mapping) (tags : List VlanId) → e.phase ≡ In mapping tags → (result : Result TaskInHand Refusal) → Gives (in_slot count false (judged_change s lab e wiring mapping)) result → IsJudged (JudgedChange exp text event s count lab e) result
  change_judged mapping tags inside result h =
      change_gives (in_slot count false (judged_change s lab e wiring mapping)) result
      (λ j is. record { wiring = wiring; applied = applied; is = is ∙ ap (λ p. in_slot count false (judged_change s lab e wiring (mapping_in p))) (sym inside) }) h

-- the present place is one of the present wiring, which is sound
pub shaped_there : (s : LabState) (lab : Lab) (e : Experiment) (m : Mapping) (tags : List VlanId) → IsInIn s lab e m tags → IsShaped lab e.wiring m
shaped_there s lab e m tags o = (stands_sound s e.name lab e m tags o.there.sane o.there.is_lab o.there.found o.inside).1

-- ---- THE EVENTS
-- an event that is due is one of the text's
pub due_has : (from to : ℕ) (events due : List LinkEvent) → IsSchedule from to events due → (e : LinkEvent) → Has due e → Has events e
due_has from to events due schedule e has =
    let here = Has-filtered (λ (x : LinkEvent). x.at == e.at) due e has (eq-eqb e.at e.at refl) in
    let there = subst (λ (l : List LinkEvent). Has l e) (schedule.each_moment e.at) here in
    (Has-filter (is_due from to) events e (Has-filter (λ (x : LinkEvent). x.at == e.at) (filter (is_due from to) events) e there).0).0

-- the shape of all after one that has its own, and of all where one lacks it
pub next_shaped : (exp : List ℕ) (text : Wiring) (event : LinkEvent) (left : List LinkEvent) (now : Wiring) → need_shape exp text event now ≡ Ok tt → need_shapes exp text (event ∷ left) now ≡ need_shapes exp text left now
next_shaped exp text event left now is = by (lacks_shape event.link text now) is
  where
    by : (b : Bool) → ◌≡◌ {A = Result (Unit {0}) Reply} (if b then Err (bad_shape exp event) else Ok tt) (Ok tt) → ◌≡◌ {A = Result (Unit {0}) Reply} (if b then Err (bad_shape exp event) else need_shapes exp text left now) (need_shapes exp text left now)
    by true is = absurd (cc is)
    by false is = refl

pub first_lacks : (exp : List ℕ) (text : Wiring) (event : LinkEvent) (left : List LinkEvent) (now : Wiring) (refusal : Refusal) → Refuses {X = Unit {0}} (need_shape exp text event now) (Err refusal) → Refuses {X = Unit {0}} (need_shapes exp text (event ∷ left) now) (Err refusal)
first_lacks exp text event left now (refusals.Refused reply) h = (by (lacks_shape event.link text now) h.0, h.1)
  where
    by : (b : Bool) → ◌≡◌ {A = Result (Unit {0}) Reply} (if b then Err (bad_shape exp event) else Ok tt) (Err reply) → ◌≡◌ {A = Result (Unit {0}) Reply} (if b then Err (bad_shape exp event) else need_shapes exp text left now) (Err reply)
    by true is = is
    by false is = absurd (cc is)
first_lacks exp text event left now refusals.Memory h = tt
