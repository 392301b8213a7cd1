-- The test of joined switches is that a list of trunks leads from one to the other.
use Rattle.std.proofs.Common.{◌≡◌, inl, inr, ℕ, true, List, [], ◌∷◌, ◌++◌, refl, sym, ap, ◌∙◌, subst}
use Rattle.std.proofs.lemmas.Bool.{eqb-true, eq-eqb, or_cases, or_left, or_right, and_parts, and_from}
use Rattle.lab_base.specs.Lists.{Has}
use Rattle.phys_lab.specs.Sides.{Spans, Leads, AreJoined, joined}
use Rattle.lab_base.proofs.Members.{Has-append}
use Rattle.phys_lab.specs.declared.parts.Trunk.{Trunk}

pub joined_same : (trunks : List Trunk) (a : ℕ) → joined trunks a a ≡ true
joined_same [] a = eq-eqb a a refl
joined_same (t ∷ trunks) a = or_left _ _ (or_left _ _ (joined_same trunks a))

-- the three ways
data Ways (t : Trunk) (trunks : List Trunk) (a b : ℕ) : Type 0 where
  without : joined trunks a b ≡ true → Ways t trunks a b
  across : joined trunks a t.first.0.0 ≡ true → joined trunks t.second.0.0 b ≡ true → Ways t trunks a b
  back : joined trunks a t.second.0.0 ≡ true → joined trunks t.first.0.0 b ≡ true → Ways t trunks a b

ways : (t : Trunk) (trunks : List Trunk) (a b : ℕ) → joined (t ∷ trunks) a b ≡ true → Ways t trunks a b
ways t trunks a b h = elim (or_cases _ _ h) [
  | inl x ↦ elim (or_cases _ _ x) [ inl y ↦ without y | inr y ↦ let p = and_parts _ _ y in across p.0 p.1 ]
  | inr x ↦ let p = and_parts _ _ x in back p.0 p.1
]

ways_back : (t : Trunk) (trunks : List Trunk) (a b : ℕ) → Ways t trunks a b → joined (t ∷ trunks) a b ≡ true
ways_back t trunks a b (without x) = or_left _ _ (or_left _ _ x)
ways_back t trunks a b (across x y) = or_left _ _ (or_right _ _ (and_from _ _ x y))
ways_back t trunks a b (back x y) = or_right _ _ (and_from _ _ x y)

-- a way and another one are a way
through : (t : Trunk) (trunks : List Trunk) → ((x y z : ℕ) → joined trunks x y ≡ true → joined trunks y z ≡ true → joined trunks x z ≡ true) → (a b c : ℕ) → Ways t trunks a b → Ways t trunks b c → Ways t trunks a c
through t trunks ih a b c (without x) (without y) = without (ih a b c x y)
through t trunks ih a b c (without x) (across y z) = across (ih a b t.first.0.0 x y) z
through t trunks ih a b c (without x) (back y z) = back (ih a b t.second.0.0 x y) z
through t trunks ih a b c (across x y) (without z) = across x (ih t.second.0.0 b c y z)
through t trunks ih a b c (across x y) (across z w) = across x w
through t trunks ih a b c (across x y) (back z w) = without (ih a t.first.0.0 c x w)
through t trunks ih a b c (back x y) (without z) = back x (ih t.first.0.0 b c y z)
through t trunks ih a b c (back x y) (across z w) = without (ih a t.second.0.0 c x w)
through t trunks ih a b c (back x y) (back z w) = back x w

pub joined_through : (trunks : List Trunk) (a b c : ℕ) → joined trunks a b ≡ true → joined trunks b c ≡ true → joined trunks a c ≡ true
joined_through [] a b c p q = eq-eqb a c (eqb-true a b p ∙ eqb-true b c q)
joined_through (t ∷ trunks) a b c p q = ways_back t trunks a c (through t trunks (λ x y z. joined_through trunks x y z) a b c (ways t trunks a b p) (ways t trunks b c q))

pub joined_back : (trunks : List Trunk) (a b : ℕ) → joined trunks a b ≡ true → joined trunks b a ≡ true
joined_back [] a b h = eq-eqb b a (sym (eqb-true a b h))
joined_back (t ∷ trunks) a b h = elim (ways t trunks a b h) [
  | without x ↦ ways_back t trunks b a (without (joined_back trunks a b x))
  | across x y ↦ ways_back t trunks b a (back (joined_back trunks t.second.0.0 b y) (joined_back trunks a t.first.0.0 x))
  | back x y ↦ ways_back t trunks b a (across (joined_back trunks t.first.0.0 b y) (joined_back trunks a t.second.0.0 x))
]

spans_joined : (trunks : List Trunk) (t : Trunk) (a b : ℕ) → Has trunks t → Spans t a b → joined trunks a b ≡ true
spans_joined [] t a b h spans = absurd h
spans_joined (u ∷ trunks) t a b (inl e) (inl s) = ways_back u trunks a b (across (subst (λ x. joined trunks a x ≡ true) (sym s.0 ∙ ap (λ v. v.first.0.0) (sym e)) (joined_same trunks a)) (subst (λ x. joined trunks x b ≡ true) (sym s.1 ∙ ap (λ v. v.second.0.0) (sym e)) (joined_same trunks b)))
spans_joined (u ∷ trunks) t a b (inl e) (inr s) = ways_back u trunks a b (back (subst (λ x. joined trunks a x ≡ true) (sym s.0 ∙ ap (λ v. v.second.0.0) (sym e)) (joined_same trunks a)) (subst (λ x. joined trunks x b ≡ true) (sym s.1 ∙ ap (λ v. v.first.0.0) (sym e)) (joined_same trunks b)))
spans_joined (u ∷ trunks) t a b (inr h) spans = or_left _ _ (or_left _ _ (spans_joined trunks t a b h spans))

-- a trunk joins its two switches
pub trunk_joins : (trunks : List Trunk) (t : Trunk) → Has trunks t → joined trunks t.first.0.0 t.second.0.0 ≡ true
trunk_joins trunks t h = spans_joined trunks t t.first.0.0 t.second.0.0 h (inl (refl, refl))

pub joined_from_path : (trunks path : List Trunk) (a b : ℕ) → ((t : Trunk) → Has path t → Has trunks t) → Leads path a b → joined trunks a b ≡ true
joined_from_path trunks [] a b these leads = subst (λ x. joined trunks a x ≡ true) leads (joined_same trunks a)
joined_from_path trunks (t ∷ path) a b these leads = joined_through trunks a leads.0 b (spans_joined trunks t a leads.0 (these t (inl refl)) leads.1) (joined_from_path trunks path leads.0 b (λ u h. these u (inr h)) leads.2)

leads_on : (p q : List Trunk) (a b c : ℕ) → Leads p a b → Leads q b c → Leads (p ++ q) a c
leads_on [] q a b c x y = subst (λ v. Leads q v c) (sym x) y
leads_on (t ∷ p) q a b c x y = (x.0, x.1, leads_on p q x.0 b c x.2 y)

over : (t : Trunk) (trunks : List Trunk) (a b x y : ℕ) → Spans t x y → AreJoined trunks a x → AreJoined trunks y b → AreJoined (t ∷ trunks) a b
over t trunks a b x y spans p q = record {
  path = p.path ++ t ∷ q.path;
  of_these = λ u h. elim (Has-append p.path (t ∷ q.path) u h) [ inl g ↦ inr (p.of_these u g) | inr g ↦ elim g [ inl e ↦ inl e | inr k ↦ inr (q.of_these u k) ] ];
  leads = leads_on p.path (t ∷ q.path) a x b p.leads (y, spans, q.leads);
}

pub path_from_joined : (trunks : List Trunk) (a b : ℕ) → joined trunks a b ≡ true → AreJoined trunks a b
path_from_joined [] a b h = record { path = []; of_these = λ t g. g; leads = eqb-true a b h }
path_from_joined (t ∷ trunks) a b h = by (λ x y. path_from_joined trunks x y) (ways t trunks a b h)
  where
    by : ((x y : ℕ) → joined trunks x y ≡ true → AreJoined trunks x y) → Ways t trunks a b → AreJoined (t ∷ trunks) a b
    by ih (without x) = let p = ih a b x in record { path = p.path; of_these = λ u g. inr (p.of_these u g); leads = p.leads }
    by ih (across x y) = over t trunks a b t.first.0.0 t.second.0.0 (inl (refl, refl)) (ih a t.first.0.0 x) (ih t.second.0.0 b y)
    by ih (back x y) = over t trunks a b t.second.0.0 t.first.0.0 (inr (refl, refl)) (ih a t.second.0.0 x) (ih t.first.0.0 b y)
