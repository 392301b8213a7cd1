-- The answers of a search.
use Rattle.std.specs.Prelude.{nat_le, slice_get}
use Rattle.std.proofs.Common.{◌≡◌, ◌<◌, ◌+◌, ◌⊎◌, inl, inr, ℕ, false, List, [], length, Some, None, refl, sym, ap, ◌∙◌, subst, arith}
use Rattle.std.proofs.lemmas.Bool.{cases_Bool, leb-true, leb-false}
use Rattle.std.proofs.lemmas.Option.{slice_get_within, same_Some}
use Rattle.std.proofs.lemmas.List.{get_or_default, same_lists}
use Rattle.std.proofs.lemmas.Grind.{same_number_lists}
use Rattle.phys_lab.specs.Labs.{Lab}
use Rattle.phys_lab.specs.declared.free.Free.{Free}
use Rattle.virt_topo.specs.declared.experiment.Experiment.{Experiment}
use Rattle.virt_topo.specs.declared.wiring.Wiring.{Wiring}
use Rattle.lab_model.specs.Beside.{IsLeft}
use Rattle.node_maps.specs.Least.{IsFirstLeast}
use Rattle.cost_rule.specs.declared.rule.RuleNumber.{RuleNumber}
use Rattle.map_anneal.specs.Sought.{Sought, sought, price}
use Rattle.assign_core.specs.Exact.{IsAllowed, node_maps}
use Rattle.assign_core.specs.declared.whole.Solved.{Solved}
use Rattle.assign_core.specs.declared.whole.Solved.TheVariants as solved
use Rattle.records_model.specs.Labs.{others}
use Rattle.lab_judge.specs.Searches.{IsFound, AreLocal}

-- ---- ONE IS THE FIRST LEAST
least_once : {X : Type 0} (cost : X → ℕ) (xs : List X) (x y : X) → IsFirstLeast cost xs x → IsFirstLeast cost xs y → x ≡ y
least_once cost xs x y a b = elim (cases_Bool (nat_le (a.place + 1) b.place)) [
  | inl before ↦ absurd (omega (arith, leb-true (a.place + 1) b.place before, b.earlier a.place x a.stands (omega (arith, leb-true (a.place + 1) b.place before)), a.least b.place y b.stands))
  | inr not_before ↦ elim (cases_Bool (nat_le (b.place + 1) a.place)) [
    | inl behind ↦ absurd (omega (arith, leb-true (b.place + 1) a.place behind, a.earlier b.place y b.stands (omega (arith, leb-true (b.place + 1) a.place behind)), b.least a.place x a.stands))
    | inr not_after ↦
        let same : a.place ≡ b.place = omega (arith, leb-false (a.place + 1) b.place not_before, leb-false (b.place + 1) a.place not_after) in
        same_Some x y (sym a.stands ∙ ap (λ (n : ℕ). slice_get xs n) same ∙ b.stands)
  ]
]

-- ---- WHAT THE OTHERS LEAVE is one
free_once : (lab : Lab) (es : List Experiment) (own : Experiment) (f g : Free) → IsLeft lab es own f → IsLeft lab es own g → f ≡ g
free_once lab es own f g a b =
    let nodes : f.nodes ≡ g.nodes = same_lists f.nodes g.nodes (a.sizes.nodes ∙ sym b.sizes.nodes)
    (λ k d lt.
    let below : k < length g.nodes = omega (arith, lt, a.sizes.nodes, b.sizes.nodes) in
    let there : k < length lab.nodes = omega (arith, lt, a.sizes.nodes) in
    get_or_default f.nodes k d false lt ∙ a.unclaimed k there ∙ sym (b.unclaimed k there) ∙ sym (get_or_default g.nodes k d false below)) in
    let left : f.left ≡ g.left = same_number_lists f.left g.left (a.sizes.trunks ∙ sym b.sizes.trunks)
    (λ k lt. let there : k < length lab.trunks = omega (arith, lt, a.sizes.trunks) in omega (arith, a.room k there, b.room k there)) in
    let vlans : f.vlans ≡ g.vlans = omega (arith, a.ids, b.ids) in
    λ i. record { nodes = nodes i; left = left i; vlans = vlans i }

-- ---- ONE ANSWER, or both are locally best
none_there : {X : Type 0} (xs : List X) (n : ℕ) (x : X) → xs ≡ [] → slice_get xs n ≡ Some x → ⊥
none_there xs n x is stands = let within = slice_get_within xs n x stands in absurd (omega (arith, within, ap length is))

allowed_once : (s : Sought) (seed : ℕ) (a b : Solved) → IsAllowed s seed a → IsAllowed s seed b → (a ≡ b) ⊎ AreLocal a b
allowed_once s seed (solved.Least m c) (solved.Least n d) p q =
    let same : m ≡ n = least_once (price s) (node_maps s) m n p.1 q.1 in
    let costs : c ≡ d = p.2 ∙ ap (price s) same ∙ sym q.2 in
    inl (λ i. solved.Least (same i) (costs i))
allowed_once s seed (solved.Least m c) solved.None p q = absurd (none_there (node_maps s) p.1.place m q.1 p.1.stands)
allowed_once s seed (solved.Least m c) (solved.Local n d) p q = absurd (omega (arith, p.0, q.1))
allowed_once s seed (solved.Least m c) solved.GaveUp p q = absurd (omega (arith, p.0, q.0))
allowed_once s seed solved.None (solved.Least n d) p q = absurd (none_there (node_maps s) q.1.place n p.1 q.1.stands)
allowed_once s seed solved.None solved.None p q = inl refl
allowed_once s seed solved.None (solved.Local n d) p q = absurd (omega (arith, p.0, q.1))
allowed_once s seed solved.None solved.GaveUp p q = absurd (omega (arith, p.0, q.0))
allowed_once s seed (solved.Local m c) (solved.Least n d) p q = absurd (omega (arith, p.1, q.0))
allowed_once s seed (solved.Local m c) solved.None p q = absurd (omega (arith, p.1, q.0))
allowed_once s seed (solved.Local m c) (solved.Local n d) p q = inr tt
allowed_once s seed (solved.Local m c) solved.GaveUp p q = let both : Some p.0 ≡ None = sym p.2 ∙ q.1 in absurd (cc both)
allowed_once s seed solved.GaveUp (solved.Least n d) p q = absurd (omega (arith, p.0, q.0))
allowed_once s seed solved.GaveUp solved.None p q = absurd (omega (arith, p.0, q.0))
allowed_once s seed solved.GaveUp (solved.Local n d) p q = let both : Some q.0 ≡ None = sym q.2 ∙ p.1 in absurd (cc both)
allowed_once s seed solved.GaveUp solved.GaveUp p q = inl refl

pub found_once : (rule : RuleNumber) (lab : Lab) (es : List Experiment) (e : Experiment) (w : Wiring) (seed : ℕ) (a b : Solved) → IsFound rule lab es e w seed a → IsFound rule lab es e w seed b → (a ≡ b) ⊎ AreLocal a b
found_once rule lab es e w seed a b p q =
    let same : q.free ≡ p.free = free_once lab (others e.name es) e q.free p.free q.left p.left in
    allowed_once (sought lab p.free w rule) seed a b p.allowed (subst (λ (f : Free). IsAllowed (sought lab f w rule) seed b) same q.allowed)
