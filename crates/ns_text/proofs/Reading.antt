-- How a network that was read and expanded gives the wiring of a text.
use Rattle.std.proofs.Common.{◌≡◌, List, ℕ, Result, Ok, Err, sym, ap, subst, ◌∙◌}
use Rattle.lab_base.specs.declared.fault.Kind.{Kind}
use Rattle.lab_base.specs.declared.fault.TextFault.{TextFault}
use Rattle.lab_base.specs.declared.fault.TextRefused.{TextRefused}
use Rattle.lab_base.specs.declared.fault.TextRefused.TheVariants as refusals
use Rattle.virt_topo.specs.declared.wiring.Wiring.{Wiring}
use Rattle.ns_build.specs.Meaning.{MeaningOf, HasMeaning}
use Rattle.ns_build.specs.declared.asked.Asked.{Asked}
use Rattle.ns_build.proofs.OneMeaning.{meaning_once}
use Rattle.net_plan.specs.Expansion.{expansion}
use Rattle.net_plan.specs.declared.fault.PlanFault.{PlanFault}
use Rattle.net_plan.specs.declared.fault.PlanFault.TheVariants as faults
use Rattle.ns_text.specs.declared.read.Printed.{Printed}
use Rattle.ns_text.specs.declared.read.Script.{Script}
use Rattle.ns_text.specs.Wirings.{IsKind, WiringOf, Becomes, BecomesScript, HasScript, HasWiring, ScriptIsOne, ScriptOf, wiring_alone, WiringIsOne}

pub reads : (t : List ℕ) (asked : Asked) (result : Result Wiring TextRefused) → HasMeaning t (Ok asked) → Becomes asked result → HasWiring t result
unfolding HasMeaning HasWiring
reads t asked (Ok w) means becomes = WiringOf.expanded means becomes
reads t asked (Err (refusals.Text fault)) means becomes =
    subst (λ (n : ℕ). WiringOf t (Err (record { line = n; kind = fault.kind }))) (sym becomes.3) (WiringOf.refused means becomes.1 becomes.2)
reads t asked (Err refusals.Memory) means becomes = tt

pub fails : (t : List ℕ) (e : TextRefused) → HasMeaning t (Err e) → HasWiring t (Err e)
unfolding HasMeaning HasWiring
fails t (refusals.Text fault) means = WiringOf.faulty means
fails t refusals.Memory means = tt

-- WITH ITS EVENTS
pub scripts : (t : List ℕ) (asked : Asked) (result : Result Script TextRefused) → HasMeaning t (Ok asked) → BecomesScript asked result → HasScript t result
unfolding HasMeaning HasScript
scripts t asked (Ok script) means becomes =
    subst (λ (s : Script). ScriptOf t (Ok s)) (let same : record { wiring = script.wiring; events = asked.events } ≡ script = λ i. record { wiring = script.wiring; events = sym becomes.1 i } in same)
    (ScriptOf.scheduled means becomes.0)
scripts t asked (Err (refusals.Text fault)) means becomes =
    ScriptOf.unscheduled (subst (λ (n : ℕ). WiringOf t (Err (record { line = n; kind = fault.kind }))) (sym becomes.3) (WiringOf.refused means becomes.1 becomes.2))
scripts t asked (Err refusals.Memory) means becomes = tt

pub unread : (t : List ℕ) (e : TextRefused) → HasMeaning t (Err e) → HasScript t (Err e)
unfolding HasMeaning HasScript
unread t (refusals.Text fault) means = ScriptOf.unscheduled (WiringOf.faulty means)
unread t refusals.Memory means = tt

-- no memory to print in
pub unprinted : (t : List ℕ) (result : Result Printed TextRefused) (e : TextRefused) → result ≡ Err e → e ≡ refusals.Memory → HasWiring t (wiring_alone result)
unfolding HasWiring
unprinted t result e is why =
    let P : Result Printed TextRefused → Type 0 = λ r. HasWiring t (wiring_alone r) in
    let memory : result ≡ Err refusals.Memory = is ∙ ap (λ (f : TextRefused). Err f) why in subst P (sym memory) tt

-- ONE KIND for a refusal
kind_once : (fault : PlanFault) (k l : Kind) → IsKind fault k → IsKind fault l → k ≡ l
kind_once faults.Limit k l p q = p ∙ sym q
kind_once faults.Empty k l p q = p ∙ sym q
kind_once faults.Address k l p q = p ∙ sym q
kind_once faults.Subnet k l p q = p ∙ sym q
kind_once faults.Memory k l p q = absurd p

same_asked : (t : List ℕ) (a b : Asked) → MeaningOf t (Ok a) → MeaningOf t (Ok b) → a ≡ b
same_asked t a b p q = let both : Ok a ≡ Ok b = meaning_once t (Ok a) (Ok b) p q in cc both

pub wiring_once : WiringIsOne
wiring_once t a b (WiringOf.expanded {asked = x} {w = w} p e) (WiringOf.expanded {asked = y} {w = v} q f) =
    let both : ◌≡◌ {A = Result Wiring PlanFault} (Ok w) (Ok v) = sym e ∙ ap (λ (k : Asked). expansion k.topo) (same_asked t x y p q) ∙ f in
    let same : w ≡ v = cc both in λ i. Ok (same i)
wiring_once t a b (WiringOf.expanded {asked = x} {w = w} p e) (WiringOf.refused {asked = y} {fault = fault} {kind = kind} q f is) =
    let both : ◌≡◌ {A = Result Wiring PlanFault} (Ok w) (Err fault) = sym e ∙ ap (λ (k : Asked). expansion k.topo) (same_asked t x y p q) ∙ f in absurd (cc both)
wiring_once t a b (WiringOf.expanded {asked = x} {w = w} p e) (WiringOf.faulty {fault = fault} q) = let both : ◌≡◌ {A = Result Asked TextFault} (Ok x) (Err fault) = meaning_once t (Ok x) (Err fault) p q in absurd (cc both)
wiring_once t a b (WiringOf.refused {asked = x} {fault = fault} {kind = kind} p e is) (WiringOf.expanded {asked = y} {w = v} q f) =
    let both : ◌≡◌ {A = Result Wiring PlanFault} (Err fault) (Ok v) = sym e ∙ ap (λ (k : Asked). expansion k.topo) (same_asked t x y p q) ∙ f in absurd (cc both)
wiring_once t a b (WiringOf.refused {asked = x} {fault = fault} {kind = kind} p e is) (WiringOf.refused {asked = y} {fault = other} {kind = kind2} q f is2) =
    let one = same_asked t x y p q in
    let both : ◌≡◌ {A = Result Wiring PlanFault} (Err fault) (Err other) = sym e ∙ ap (λ (k : Asked). expansion k.topo) one ∙ f in
    let same : fault ≡ other = cc both in
    let kinds : kind ≡ kind2 = kind_once other kind kind2 (subst (λ g. IsKind g kind) same is) is2 in
    λ i. Err (record { line = (one i).line; kind = kinds i })
wiring_once t a b (WiringOf.refused {asked = x} {fault = fault} {kind = kind} p e is) (WiringOf.faulty {fault = other} q) = let both : ◌≡◌ {A = Result Asked TextFault} (Ok x) (Err other) = meaning_once t (Ok x) (Err other) p q in absurd (cc both)
wiring_once t a b (WiringOf.faulty {fault = fault} p) (WiringOf.expanded {asked = y} {w = v} q f) = let both : ◌≡◌ {A = Result Asked TextFault} (Err fault) (Ok y) = meaning_once t (Err fault) (Ok y) p q in absurd (cc both)
wiring_once t a b (WiringOf.faulty {fault = fault} p) (WiringOf.refused {asked = y} {fault = other} {kind = kind} q f is) = let both : ◌≡◌ {A = Result Asked TextFault} (Err fault) (Ok y) = meaning_once t (Err fault) (Ok y) p q in absurd (cc both)
wiring_once t a b (WiringOf.faulty {fault = fault} p) (WiringOf.faulty {fault = other} q) =
    let both : ◌≡◌ {A = Result Asked TextFault} (Err fault) (Err other) = meaning_once t (Err fault) (Err other) p q in
    let same : fault ≡ other = cc both in λ i. Err (same i)

-- ONE SCRIPT for a text
pub wiring_of_script : (t : List ℕ) (script : Script) → ScriptOf t (Ok script) → WiringOf t (Ok script.wiring)
wiring_of_script t script (ScriptOf.scheduled means expanded) = WiringOf.expanded means expanded

pub script_once : ScriptIsOne
script_once t a b (ScriptOf.scheduled {asked = x} {w = w} p e) (ScriptOf.scheduled {asked = y} {w = v} q f) =
    let one = same_asked t x y p q in
    let both : ◌≡◌ {A = Result Wiring PlanFault} (Ok w) (Ok v) = sym e ∙ ap (λ (k : Asked). expansion k.topo) one ∙ f in
    let same : w ≡ v = cc both in λ i. Ok (record { wiring = same i; events = (one i).events })
script_once t a b (ScriptOf.scheduled {asked = x} {w = w} p e) (ScriptOf.unscheduled {fault = fault} q) =
    let both : ◌≡◌ {A = Result Wiring TextFault} (Ok w) (Err fault) = wiring_once t (Ok w) (Err fault) (WiringOf.expanded p e) q in absurd (cc both)
script_once t a b (ScriptOf.unscheduled {fault = fault} p) (ScriptOf.scheduled {asked = y} {w = v} q f) =
    let both : ◌≡◌ {A = Result Wiring TextFault} (Err fault) (Ok v) = wiring_once t (Err fault) (Ok v) p (WiringOf.expanded q f) in absurd (cc both)
script_once t a b (ScriptOf.unscheduled {fault = fault} p) (ScriptOf.unscheduled {fault = other} q) =
    let both : ◌≡◌ {A = Result Wiring TextFault} (Err fault) (Err other) = wiring_once t (Err fault) (Err other) p q in
    let same : fault ≡ other = cc both in λ i. Err (same i)
