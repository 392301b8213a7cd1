-- Nodes in use by one mapping and by another one.
use Rattle.std.proofs.Common.{◌≡◌, ℕ, ◌+◌, ◌<◌, ◌∙◌, List, [], ◌∷◌, ◌++◌, length, drop, get_or, Bool, true, false, cond, ◌==◌, ◌||◌, refl, sym, ap, arith}
use Rattle.std.specs.List.{list_any}
use Rattle.std.proofs.lemmas.Bool.Decides.{Decides-eqb}
use Rattle.std.proofs.lemmas.List.{append-nil, drop_more}
use Rattle.std.proofs.lemmas.List.Folds.{list_any-append}
use Rattle.lab_base.proofs.Members.{any_map}
use Rattle.lab_model.specs.Shapes.{Place}
use Rattle.lab_model.specs.Rules.{no_place}
use Rattle.cost_rule.specs.Cost.{different, same_node}
use Rattle.cost_rule.proofs.Different.{different_cons, new_if, within}
use Rattle.rule_costs.specs.Nodes.{nodes_of, beyond}

-- those of two lists are those of the second, and those beyond it
both : (xs ys : List ℕ) → different same_node (xs ++ ys) ≡ beyond xs ys + different same_node ys
both [] ys = omega arith
both (x ∷ xs) ys = by (list_any (same_node x) (xs ++ ys)) (both xs ys)
  where
    by : (b : Bool) → different same_node (xs ++ ys) ≡ beyond xs ys + different same_node ys
        → cond b (different same_node (xs ++ ys)) (different same_node (xs ++ ys) + 1) ≡ cond b (beyond xs ys) (beyond xs ys + 1) + different same_node ys
    by true rest = rest
    by false rest = omega (arith, rest)

or_turned : (a b : Bool) → (a || b) ≡ (b || a)
or_turned true true = refl
or_turned true false = refl
or_turned false true = refl
or_turned false false = refl

any_turned : (xs ys : List ℕ) (x : ℕ) → list_any (same_node x) (xs ++ ys) ≡ list_any (same_node x) (ys ++ xs)
any_turned xs ys x =
    list_any-append (same_node x) xs ys ∙ or_turned (list_any (same_node x) xs) (list_any (same_node x) ys) ∙ sym (list_any-append (same_node x) ys xs)

-- those of places, split
pub any_split : (n : ℕ) (later others : List Place) → list_any (same_node n) (nodes_of later ++ nodes_of others) ≡ (list_any (λ p. n == p.0.0) later || list_any (λ p. n == p.0.0) others)
any_split n later others =
    list_any-append (same_node n) (nodes_of later) (nodes_of others)
    ∙ (λ j. any_map (same_node n) (λ (p : Place). p.0.0) later j || any_map (same_node n) (λ (p : Place). p.0.0) others j)

turned : (xs ys : List ℕ) → different same_node (xs ++ ys) ≡ different same_node (ys ++ xs)
turned [] ys = ap (different same_node) (sym (append-nil ys))
turned (x ∷ xs) ys =
    let rest = turned xs ys in
    let front = different_cons same_node x (xs ++ ys) in
    let middle = within same_node (λ a b. Decides-eqb a b) ys xs x in
    let any : ◌≡◌ {A = ℕ} (new_if (list_any (same_node x) (xs ++ ys))) (new_if (list_any (same_node x) (ys ++ xs))) = ap new_if (any_turned xs ys x) in
    omega (arith, rest, front, middle, any)

-- WHAT EACH HAS BEYOND THE OTHER MAKES THE DIFFERENCE
pub nodes_differ : (xs ys : List ℕ) → different same_node ys + beyond xs ys ≡ different same_node xs + beyond ys xs
nodes_differ xs ys = omega (arith, both xs ys, both ys xs, turned xs ys)

pub beyond_step : (places others : List Place) (v : ℕ) → v < length places
    → beyond (nodes_of (drop v places)) (nodes_of others)
    ≡ new_if (list_any (same_node (get_or places v no_place).0.0) (nodes_of (drop (v + 1) places) ++ nodes_of others)) + beyond (nodes_of (drop (v + 1) places)) (nodes_of others)
beyond_step places others v lt =
    ap (λ (l : List Place). beyond (nodes_of l) (nodes_of others)) (drop_more places v no_place lt)
    ∙ by (list_any (same_node (get_or places v no_place).0.0) (nodes_of (drop (v + 1) places) ++ nodes_of others)) (beyond (nodes_of (drop (v + 1) places)) (nodes_of others))
  where
    by : (b : Bool) (n : ℕ) → cond b n (n + 1) ≡ new_if b + n
    by true n = omega arith
    by false n = omega arith
