-- A command has one judgement, and its task is of its own experiment.
use Rattle.std.proofs.Common.{◌≡◌, ℕ, Bool, false, List, Result, Ok, Err, refl, sym, ap, ◌∙◌, subst}
use Rattle.lab_base.specs.declared.fault.TextFault.{TextFault}
use Rattle.phys_lab.specs.Labs.{Lab}
use Rattle.virt_topo.specs.declared.wiring.Wiring.{Wiring}
use Rattle.assign_core.specs.declared.whole.Solved.{Solved}
use Rattle.virt_topo.specs.declared.experiment.Experiment.{Experiment}
use Rattle.records_model.specs.Labs.{LabState}
use Rattle.ns_text.proofs.Reading.{wiring_once}
use Rattle.script_text.specs.declared.command.Command.{Command}
use Rattle.script_text.specs.declared.command.Command.TheVariants as commands
use Rattle.script_text.specs.declared.reply.Reply.{Reply}
use Rattle.script_text.specs.declared.reply.Reply.TheVariants.{Bad, NoLab, LabIsSet}
use Rattle.cost_rule.specs.declared.rule.RuleNumber.{RuleNumber}
use Rattle.lab_tasks.specs.Needs.{need_meaning, need_lab_and_name, refused, asked, OrRefused}
use Rattle.lab_tasks.specs.Tasks.{Task, Gives, IsJudged, IsRefusedBy, task_of}
use Rattle.lab_tasks.specs.Mappings.{in_slot}
use Rattle.lab_judge.specs.Judge.{judged_wiring, JudgedCreate, Judged, InSlot, Is}
use Rattle.lab_judge.specs.Searches.{JudgedText, JudgedFound, IsFound, is_searched}
use Rattle.lab_base.specs.declared.fault.TextRefused.{TextRefused}
use Rattle.lab_base.specs.declared.fault.TextRefused.TheVariants as texts
use Rattle.ns_text.specs.Wirings.{WiringOf, HasWiring}
use Rattle.lab_tasks.specs.declared.task.Task.{Task as TaskInHand}
use Rattle.lab_tasks.specs.declared.task.Refusal.{Refusal}
use Rattle.lab_tasks.specs.declared.task.Refusal.TheVariants.{Refused, Memory}
use Rattle.lab_tasks.proofs.Asked.{asked_so}

-- ---- ONE JUDGEMENT
refused_once : {A : Type 0} (needed : Result A Reply) (Judges : A → Result Task Reply → Type 0) (a b : Result Task Reply) → ((x : A) → Judges x a → Judges x b → a ≡ b)
    → OrRefused needed Judges a → OrRefused needed Judges b → a ≡ b
refused_once needed Judges a b each (refused reply none is) (refused other none' is') =
    let both : ◌≡◌ {A = Result _ Reply} (Err reply) (Err other) = sym none ∙ none' in
    let same : reply ≡ other = cc both in
    is ∙ ap (λ (r : Reply). let x : Result Task Reply = Err r in x) same ∙ sym is'
refused_once needed Judges a b each (refused reply none is) (asked x some judged) = let both : Err reply ≡ Ok x = sym none ∙ some in absurd (cc both)
refused_once needed Judges a b each (asked x some judged) (refused reply none is) = let both : Ok x ≡ Err reply = sym some ∙ none in absurd (cc both)
refused_once {A} needed Judges a b each (asked x some judged) (asked y some' judged') =
    let both : ◌≡◌ {A = Result A Reply} (Ok x) (Ok y) = sym some ∙ some' in
    let same : x ≡ y = cc both in
    each x judged (subst (λ (z : A). Judges z b) (sym same) judged')

network_once : (s : LabState) (exp text : List ℕ) (a b : Result Task Reply) → JudgedCreate s exp text a → JudgedCreate s exp text b → a ≡ b
network_once s exp text a b p q =
    refused_once (need_lab_and_name s exp) (λ x. JudgedText exp text (λ w. Is (judged_wiring s exp w))) a b (λ x t u.
    refused_once (need_meaning (Bad exp) t.meaning) (λ w. Is (judged_wiring s exp w)) a b (λ w one other. one ∙ sym other) t.judged
    (subst (λ (m : Result Wiring TextFault). OrRefused (need_meaning (Bad exp) m) (λ w. Is (judged_wiring s exp w)) b) (wiring_once text u.meaning t.meaning u.is t.is) u.judged)) p q

pub judged_once : (rule : RuleNumber) (s : LabState) (busy : Bool) (count : ℕ) (command : Command) (a b : Result Task Reply) → is_searched command ≡ false → Judged rule s busy count command a → Judged rule s busy count command b → a ≡ b
judged_once rule s busy count (commands.Ptop lines text) a b alone p q = p ∙ sym q
judged_once rule s busy count (commands.Create exp lines text) a b alone p q = network_once s exp text a b p q
judged_once rule s busy count (commands.CreateTop exp lines text) a b alone p q = p ∙ sym q
judged_once rule s busy count (commands.Show exp) a b alone p q = p ∙ sym q
judged_once rule s busy count (commands.Solve exp seed) a b alone p q = absurd (cc alone)
judged_once rule s busy count (commands.Swapin only exp seed) a b alone p q = absurd (cc alone)
judged_once rule s busy count (commands.Modify only exp seed lines text) a b alone p q = absurd (cc alone)
judged_once rule s busy count (commands.SwapinWith only exp lines text) a b alone p q = p ∙ sym q
judged_once rule s busy count (commands.ModifyWith only exp lines top others map) a b alone p q = p ∙ sym q
judged_once rule s busy count (commands.Swapout only exp) a b alone p q = p ∙ sym q
judged_once rule s busy count (commands.Turn exp) a b alone p q = p ∙ sym q
judged_once rule s busy count (commands.Finish exp) a b alone p q = p ∙ sym q
judged_once rule s busy count commands.Recover a b alone p q = p ∙ sym q
judged_once rule s busy count (commands.Fail device nth how) a b alone p q = absurd p
judged_once rule s busy count (commands.FailDisk nth) a b alone p q = absurd p
judged_once rule s busy count (commands.Stop nth pick) a b alone p q = absurd p
judged_once rule s busy count (commands.Play exp from to lines text) a b alone p q = absurd p
judged_once rule s busy count (commands.Batch moment lines text) a b alone p q = absurd p
judged_once rule s busy count (commands.Delete exp) a b alone p q = p ∙ sym q
judged_once rule s busy count commands.Status a b alone p q = p ∙ sym q
judged_once rule s busy count commands.Audit a b alone p q = absurd p

-- ---- `create`, by what the code gave
read_so : (t : List ℕ) (w : Wiring) → HasWiring t (Ok w) → WiringOf t (Ok w)
unfolding HasWiring
read_so t w h = h

fault_so : (t : List ℕ) (fault : TextFault) → HasWiring t (Err (texts.Text fault)) → WiringOf t (Err fault)
unfolding HasWiring
fault_so t fault h = h

-- a text was read
with_meaning : (exp text : List ℕ) (Judges : Wiring → Result Task Reply → Type 0) (meaning : Result Wiring TextFault) → WiringOf text meaning → (result : Result TaskInHand Refusal)
    → IsJudged (OrRefused (need_meaning (Bad exp) meaning) Judges) result → IsJudged (JudgedText exp text Judges) result
with_meaning exp text Judges meaning is (Ok task) h = record { meaning = meaning; is = is; judged = h }
with_meaning exp text Judges meaning is (Err (Refused reply)) h = (record { meaning = meaning; is = is; judged = h.0 }, h.1)
with_meaning exp text Judges meaning is (Err Memory) h = tt

pub text_so : (exp text : List ℕ) (Judges : Wiring → Result Task Reply → Type 0) (w : Wiring) (result : Result TaskInHand Refusal) → HasWiring text (Ok w) → IsJudged (Judges w) result → IsJudged (JudgedText exp text Judges) result
text_so exp text Judges w result meaning h = with_meaning exp text Judges (Ok w) (read_so text w meaning) result (asked_so (need_meaning (Bad exp) (Ok w)) Judges w result refl h)

pub fault_refuses : (exp text : List ℕ) (Judges : Wiring → Result Task Reply → Type 0) (why : TextRefused) (refusal : Refusal) → HasWiring text (Err why) → IsRefusedBy (Bad exp) why refusal → IsJudged (JudgedText exp text Judges) (Err refusal)
fault_refuses exp text Judges (texts.Text fault) refusal meaning h =
    subst (λ (r : Refusal). IsJudged (JudgedText exp text Judges) (Err r)) (sym h.0)
    (with_meaning exp text Judges (Err fault) (fault_so text fault meaning) (Err (Refused (Bad exp fault))) (refused (Bad exp fault) refl refl, h.1))
fault_refuses exp text Judges texts.Memory refusal meaning h = subst (λ (r : Refusal). IsJudged (JudgedText exp text Judges) (Err r)) (sym h) tt

-- a search found
pub found_so : (rule : RuleNumber) (s : LabState) (lab : Lab) (e : Experiment) (w : Wiring) (seed : ℕ) (judged : Solved → Result Task Reply) (found : Solved) (result : Result TaskInHand Refusal)
    → IsFound rule lab s.experiments e w seed found → Gives (judged found) result → IsJudged (JudgedFound rule s lab e w seed judged) result
found_so rule s lab e w seed judged found (Ok task) is h = record { found = found; is_found = is; is = sym h }
found_so rule s lab e w seed judged found (Err (Refused reply)) is h = (record { found = found; is_found = is; is = sym h.0 }, h.1)
found_so rule s lab e w seed judged found (Err Memory) is h = tt

-- what is one judgement is one of these
pub is_so : (judgement : Result Task Reply) (result : Result TaskInHand Refusal) → Gives judgement result → IsJudged (Is judgement) result
is_so judgement (Ok task) h = sym h
is_so judgement (Err (Refused reply)) h = (sym h.0, h.1)
is_so judgement (Err Memory) h = tt

-- beside the open swaps
pub slot_judged : (count : ℕ) (only : Bool) (judgement : Result Task Reply) (given result : Result TaskInHand Refusal) → Gives judgement given → ((j : Result Task Reply) → Gives j given → Gives (in_slot count only j) result)
    → IsJudged (Is (in_slot count only judgement)) result
slot_judged count only judgement given result h each = is_so (in_slot count only judgement) result (each judgement h)

pub slot_so : (count : ℕ) (only : Bool) (Judges : Result Task Reply → Type 0) (given result : Result TaskInHand Refusal) → IsJudged Judges given
    → ((j : Result Task Reply) → Gives j given → Gives (in_slot count only j) result) → IsJudged (InSlot count only Judges) result
slot_so count only Judges (Ok task) result judged each = slotted result (each (Ok (task_of task)) refl)
  where
    slotted : (result : Result TaskInHand Refusal) → Gives (in_slot count only (Ok (task_of task))) result → IsJudged (InSlot count only Judges) result
    slotted (Ok begun) h = record { before = Ok (task_of task); judged = judged; is = sym h }
    slotted (Err (Refused reply)) h = (record { before = Ok (task_of task); judged = judged; is = sym h.0 }, h.1)
    slotted (Err Memory) h = tt
slot_so count only Judges (Err (Refused refusal)) result judged each = slotted result (each (Err refusal) (refl, judged.1))
  where
    slotted : (result : Result TaskInHand Refusal) → Gives (in_slot count only (Err refusal)) result → IsJudged (InSlot count only Judges) result
    slotted (Ok begun) h = record { before = Err refusal; judged = judged.0; is = sym h }
    slotted (Err (Refused reply)) h = (record { before = Err refusal; judged = judged.0; is = sym h.0 }, h.1)
    slotted (Err Memory) h = tt
slot_so count only Judges (Err Memory) result judged each = wanting result (each (Err NoLab) tt) (each (Err LabIsSet) tt)
  where
    -- no reply refuses by two replies
    wanting : (result : Result TaskInHand Refusal) → Gives (in_slot count only (Err NoLab)) result → Gives (in_slot count only (Err LabIsSet)) result → IsJudged (InSlot count only Judges) result
    wanting (Ok begun) h k = absurd (cc h)
    wanting (Err (Refused reply)) h k = let both : NoLab ≡ LabIsSet = cc (h.0 ∙ sym k.0) in absurd (cc both)
    wanting (Err Memory) h k = tt
