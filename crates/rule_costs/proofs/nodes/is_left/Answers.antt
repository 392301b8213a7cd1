use Rattle.std.proofs.Common.{◌≡◌, ◌∙◌, ◌+◌, ◌-◌, ◌<◌, ℕ, List, length, take, drop, length-drop, get_or, Bool, true, false, not, ◌==◌, ◌||◌, sym, ap, arith}
use Rattle.std.specs.List.{list_any}
use Rattle.std.proofs.lemmas.Bool.{eq-eqb}
use Rattle.std.proofs.lemmas.List.{get_or_default, take_all}
use Rattle.std.proofs.lemmas.List.Folds.{list_any_at}
use Rattle.std.proofs.Math.Bool.{or-true, or-false}
use Rattle.lab_model.specs.Shapes.{Place}
use Rattle.lab_model.specs.Rules.{no_place}
use Rattle.rule_costs.proofs.NodeLaws.{any_split}
use Rattle.rule_costs.proofs.nodes.is_left.Goals as goal

-- one of the others is on the node
some_other : (n : ℕ) (later others : List Place) → list_any (λ p. n == p.0.0) others ≡ true → false ≡ not (list_any (λ p. n == p.0.0) later || list_any (λ p. n == p.0.0) others)
some_other n later others any = sym (ap (λ (b : Bool). not (list_any (λ p. n == p.0.0) later || b)) any ∙ ap not (or-true (list_any (λ p. n == p.0.0) later)))

pub returns-then-place-others : goal.returns-then-place-others
returns-then-place-others c =
    let v = c.args.virt in
    let first = c.args.first.now in
    let others = c.args.others.now in
    let p = get_or first v no_place in
    let lt : v < length others = omega (arith, c.requires.virt, c.requires.alike) in
    let own : c.index-first-virt.result ≡ p = c.index-first-virt.is ∙ get_or_default first v c.index-first-virt.result no_place c.requires.virt in
    let its : get_or others v c.index-others-virt.result ≡ get_or others v no_place = get_or_default others v c.index-others-virt.result no_place lt in
    let same : ◌≡◌ {A = ℕ} p.0.0 (get_or others v no_place).0.0 = ap (λ (q : Place). q.0.0) (sym own) ∙ c.if-place-others.true ∙ ap (λ (q : Place). q.0.0) its in
    let here : list_any (λ q. p.0.0 == q.0.0) others ≡ true = list_any_at (λ (q : Place). p.0.0 == q.0.0) others v no_place lt (eq-eqb p.0.0 (get_or others v no_place).0.0 same) in
    some_other p.0.0 (drop (v + 1) first) others here ∙ ap not (sym (any_split p.0.0 (drop (v + 1) first) others))

pub returns-then-is_on : goal.returns-then-is_on
returns-then-is_on c =
    let v = c.args.virt in
    let first = c.args.first.now in
    let others = c.args.others.now in
    let p = get_or first v no_place in
    let own : c.index-first-virt.result ≡ p = c.index-first-virt.is ∙ get_or_default first v c.index-first-virt.result no_place c.requires.virt in
    let here : list_any (λ q. p.0.0 == q.0.0) others ≡ true = ap (λ (x : Place). list_any (λ q. x.0.0 == q.0.0) others) (sym own) ∙ sym c.is_on.ensures ∙ c.if-is_on.true in
    some_other p.0.0 (drop (v + 1) first) others here ∙ ap not (sym (any_split p.0.0 (drop (v + 1) first) others))

pub returns : goal.returns
returns c =
    let v = c.args.virt in
    let first = c.args.first.now in
    let others = c.args.others.now in
    let p = get_or first v no_place in
    let later = drop (v + 1) first in
    let own : c.index-first-virt.result ≡ p = c.index-first-virt.is ∙ get_or_default first v c.index-first-virt.result no_place c.requires.virt in
    let none : list_any (λ q. p.0.0 == q.0.0) others ≡ false = ap (λ (x : Place). list_any (λ q. x.0.0 == q.0.0) others) (sym own) ∙ sym c.is_on.ensures ∙ c.if-is_on.false in
    let all : take (length first - (v + 1)) later ≡ later = take_all (length first - (v + 1)) later (omega (arith, length-drop (v + 1) first)) in
    let rest : c.is_on-2.result ≡ list_any (λ q. p.0.0 == q.0.0) later = c.is_on-2.ensures ∙ ap (λ (l : List Place). list_any (λ q. c.index-first-virt.result.0.0 == q.0.0) l) all ∙ ap (λ (x : Place). list_any (λ q. x.0.0 == q.0.0) later) own in
    ap not (rest ∙ sym (or-false (list_any (λ q. p.0.0 == q.0.0) later)) ∙ ap (λ (b : Bool). list_any (λ q. p.0.0 == q.0.0) later || b) (sym none) ∙ sym (any_split p.0.0 later others))
