-- Link events are a listing about their experiment.
use Rattle.std.specs.Prelude.{if◌then◌else◌}
use Rattle.std.proofs.Common.{◌≡◌, ℕ, Bool, true, false, List, [], ◌∷◌, length, None, Result, Ok, Err, refl, sym, ap, ◌∙◌, subst, arith}
use Rattle.phys_lab.specs.Labs.{Lab}
use Rattle.virt_topo.specs.declared.experiment.Experiment.{Experiment}
use Rattle.virt_topo.specs.declared.mapping.Mapping.{Mapping}
use Rattle.virt_topo.specs.declared.wiring.Wiring.{Wiring}
use Rattle.records_model.specs.Labs.{LabState}
use Rattle.recovery.specs.Due.{is_busy}
use Rattle.lab_state.proofs.Named.{name_is}
use Rattle.ns_events.specs.declared.event.Event.{Event as LinkEvent}
use Rattle.ns_events.specs.Pipes.{lacks_shape}
use Rattle.script_text.specs.declared.command.Command.{Command}
use Rattle.script_text.specs.declared.command.Command.TheVariants as commands
use Rattle.script_text.specs.declared.reply.Reply.{Reply}
use Rattle.lab_base.specs.declared.fault.TextFault.{TextFault}
use Rattle.ns_text.specs.declared.read.Script.{Script}
use Rattle.script_text.specs.declared.reply.Reply.TheVariants as replies
use Rattle.lab_tasks.specs.Needs.{OrRefused, asked, need_idle_in, need_meaning, refused}
use Rattle.lab_tasks.specs.Tasks.{Swap, Task}
use Rattle.lab_tasks.specs.Mappings.{in_slot, judged_change}
use Rattle.lab_core.specs.Sessions.{OpenSwap, Setting, names_of}
use Rattle.lab_judge.proofs.Fits.{IsFit, is_outer}
use Rattle.lab_tasks.specs.Playing.{AreDue, JudgedChange, JudgedEventAt, Playing, bad_shape, first_place, mapping_in, need_shape, need_shapes}
use Rattle.lab_core.specs.PlayList.{JudgedEvent, JudgedNext, JudgedPlay, events_in_turn}
use Rattle.lab_core.proofs.Listings.{IsAboutThese, IsFitFor, IsPlain}
use Rattle.lab_core.proofs.Parts.{is_more}

-- what stands for an event
abbrev pub stand_in : List ℕ → Command
stand_in exp = commands.ModifyWith false exp 0 [] 0 []

-- a refusal that tells of no swap that has begun, or a swap
abbrev pub IsOneSwap : Result Task Reply → Type 0
IsOneSwap (Err reply) = is_more reply ≡ false
IsOneSwap (Ok (Swap exp way)) = Unit {0}
IsOneSwap judgement = ⊥

module _ (s : LabState) (busy : Bool) (count : ℕ) (exp : List ℕ) where
  abbrev pub FitsPlain : Result Task Reply → Type 0
  FitsPlain j = IsFit s (stand_in exp) busy count j × IsPlain j × IsOneSwap j

  idle_refuses : (reply : Reply) → need_idle_in s busy exp ≡ Err reply → FitsPlain (Err reply)
  idle_refuses reply is = grind arith

  change_fits : (lab : Lab) (e : Experiment) (w : Wiring) (m : Mapping) → need_idle_in s busy exp ≡ Ok (lab, e) → FitsPlain (in_slot count false (judged_change s lab e w m))
  change_fits lab e w m is = grind (arith, name_is)

  shape_refuses : (text : Wiring) (event : LinkEvent) (now : Wiring) (reply : Reply) → need_shape exp text event now ≡ Err reply → FitsPlain (Err reply)
  shape_refuses text event now reply is = grind arith

  pub event_here : (text : Wiring) (event : LinkEvent) (j : Result Task Reply) → JudgedEventAt exp text event s busy count j → FitsPlain j
  event_here text event j (refused reply needed is) = subst FitsPlain (sym is) (idle_refuses reply needed)
  event_here text event j (asked p needed judged) = by judged
    where
      by : OrRefused (need_shape exp text event p.1.wiring) (λ shaped. JudgedChange exp text event s count p.0 p.1) j → FitsPlain j
      by (refused reply lacks is) = subst FitsPlain (sym is) (shape_refuses text event p.1.wiring reply lacks)
      by (asked shaped has change) = subst FitsPlain (sym change.is) (change_fits p.0 p.1 change.wiring (mapping_in p.1.phase) needed)

pub event_fits : (s : LabState) (opens : List OpenSwap) (exp : List ℕ) (text : Wiring) (event : LinkEvent) (j : Result Task Reply) → JudgedEvent exp text event s opens j → FitsPlain s (is_busy (names_of opens) exp) (length opens) exp j
event_fits s opens exp text event j judged = event_here s (is_busy (names_of opens) exp) (length opens) exp text event j judged

pub events_are : (exp : List ℕ) (about : List ℕ → Bool) → about exp ≡ true → IsAboutThese (events_in_turn exp) (λ at. Unit {0}) about
events_are exp about own = record { on = λ at reply holds. tt; each = each }
  where
    next_fits : (text : Wiring) (left : List LinkEvent) (s : LabState) (opens : List OpenSwap) (j : Result Task Reply) → JudgedNext exp text left s opens j → IsFitFor about s opens j
    next_fits text [] s opens j judged = absurd judged
    next_fits text (event ∷ left) s opens j judged =
        let f = event_fits s opens exp text event j judged in
        record { command = stand_in exp; fit = f.0; named = λ n is. subst (λ (x : List ℕ). about x ≡ true) (let same : exp ≡ n = cc is in same) own; other = λ is. cc is; plain = f.1 }

    each : (at : Playing) → Unit {0} → (set : Setting) (s : LabState) (opens : List OpenSwap) (j : Result Task Reply) → (events_in_turn exp).Judges at set s opens j → IsFitFor about s opens j
    each at holds set s opens j judged = next_fits at.text at.left s opens j judged

-- WHAT REFUSES THE WHOLE is no outer reply, and what nothing refuses is idle, and begins at the first event
idle_calm : (s : LabState) (busy : Bool) (exp : List ℕ) (reply : Reply) → need_idle_in s busy exp ≡ Err reply → is_outer reply ≡ false
idle_calm s busy exp reply is = grind arith

idle_there : (s : LabState) (busy : Bool) (exp : List ℕ) (p : Lab × Experiment) → need_idle_in s busy exp ≡ Ok p → busy ≡ false
idle_there s busy exp p is = grind arith

one_calm : (f : Reply → Bool) (bad : Reply) (rest : Result (Unit {0}) Reply) (reply : Reply) → f bad ≡ false → (rest ≡ Err reply → f reply ≡ false) → (b : Bool) → (if b then Err bad else rest) ≡ Err reply → f reply ≡ false
one_calm f bad rest reply calm onwards true is = let same : bad ≡ reply = cc is in ap f (sym same) ∙ calm
one_calm f bad rest reply calm onwards false is = onwards is

-- a test that is false of what needs an idle experiment that is in, and of a fault of a text
module _ (f : Reply → Bool) (of_idle : (s : LabState) (busy : Bool) (exp : List ℕ) (reply : Reply) → need_idle_in s busy exp ≡ Err reply → f reply ≡ false) (of_bad : (exp : List ℕ) (fault : TextFault) → f (replies.Bad exp fault) ≡ false) where
  meaning_calm : (exp : List ℕ) (meaning : Result Script TextFault) (reply : Reply) → need_meaning (replies.Bad exp) meaning ≡ Err reply → f reply ≡ false
  meaning_calm exp (Ok script) reply is = absurd (cc is)
  meaning_calm exp (Err fault) reply is = let same : replies.Bad exp fault ≡ reply = cc is in ap f (sym same) ∙ of_bad exp fault

  shapes_calm : (exp : List ℕ) (text : Wiring) (events : List LinkEvent) (now : Wiring) (reply : Reply) → need_shapes exp text events now ≡ Err reply → f reply ≡ false
  shapes_calm exp text [] now reply is = absurd (cc is)
  shapes_calm exp text (event ∷ events) now reply is = one_calm f (bad_shape exp event) (need_shapes exp text events now) reply (of_bad exp _) (shapes_calm exp text events now reply) (lacks_shape event.link text now) is

  err_calm : (a b : Reply) → ◌≡◌ {A = Result Playing Reply} (Err a) (Err b) → f b ≡ false → f a ≡ false
  err_calm a b is calm = let same : a ≡ b = cc is in ap f same ∙ calm

  module _ (s : LabState) (opens : List OpenSwap) (exp : List ℕ) (from to : ℕ) (text : List ℕ) where
    pub refuse_so : (reply : Reply) → JudgedPlay s opens exp from to text (Err reply) → f reply ≡ false
    refuse_so reply (refused r needed is) = err_calm reply r is (of_idle s (is_busy (names_of opens) exp) exp r needed)
    refuse_so reply (asked p needed has) = by has.judged
      where
        last : (script : Script) → OrRefused (need_shapes exp script.wiring script.events p.1.wiring) (λ shaped. AreDue from to script) (Err reply) → f reply ≡ false
        last script (refused r lacks is) = err_calm reply r is (shapes_calm exp script.wiring script.events p.1.wiring r lacks)
        last script (asked shaped has due) = let none : ◌≡◌ {A = Result Playing Reply} (Err reply) (Ok (first_place script.wiring due.due)) = due.is in absurd (cc none)

        by : OrRefused (need_meaning (replies.Bad exp) has.meaning) (λ script. OrRefused (need_shapes exp script.wiring script.events p.1.wiring) (λ shaped. AreDue from to script)) (Err reply) → f reply ≡ false
        by (refused r faulty is) = err_calm reply r is (meaning_calm exp has.meaning r faulty)
        by (asked script means judged) = last script judged

module _ (s : LabState) (opens : List OpenSwap) (exp : List ℕ) (from to : ℕ) (text : List ℕ) where
  pub plays_refuse : (reply : Reply) → JudgedPlay s opens exp from to text (Err reply) → is_outer reply ≡ false
  plays_refuse reply judged = refuse_so is_outer idle_calm (λ exp fault. refl) s opens exp from to text reply judged

  pub plays_idle : (start : Playing) → JudgedPlay s opens exp from to text (Ok start) → is_busy (names_of opens) exp ≡ false
  plays_idle start (refused r needed is) = let none : ◌≡◌ {A = Result Playing Reply} (Ok start) (Err r) = is in absurd (cc none)
  plays_idle start (asked p needed has) = idle_there s (is_busy (names_of opens) exp) exp p needed

  pub plays_first : (start : Playing) → JudgedPlay s opens exp from to text (Ok start) → start.ended ≡ None
  plays_first start (refused r needed is) = let none : ◌≡◌ {A = Result Playing Reply} (Ok start) (Err r) = is in absurd (cc none)
  plays_first start (asked p needed has) = by has.judged
    where
      last : (script : Script) → OrRefused (need_shapes exp script.wiring script.events p.1.wiring) (λ shaped. AreDue from to script) (Ok start) → start.ended ≡ None
      last script (refused r lacks is) = let none : ◌≡◌ {A = Result Playing Reply} (Ok start) (Err r) = is in absurd (cc none)
      last script (asked shaped has due) = let same : start ≡ first_place script.wiring due.due = cc due.is in ap (λ (p : Playing). p.ended) same

      by : OrRefused (need_meaning (replies.Bad exp) has.meaning) (λ script. OrRefused (need_shapes exp script.wiring script.events p.1.wiring) (λ shaped. AreDue from to script)) (Ok start) → start.ended ≡ None
      by (refused r faulty is) = let none : ◌≡◌ {A = Result Playing Reply} (Ok start) (Err r) = is in absurd (cc none)
      by (asked script means judged) = last script judged
