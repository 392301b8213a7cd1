-- Fewer needs, and more nodes, fit where these fit.
use Rattle.std.proofs.Common.{◌≡◌, ◌⊎◌, ◌<◌, ◌≤◌, ◌+◌, ◌-◌, ℕ, suc, Bool, true, false, cond, eqb, ltb, List, [], ◌∷◌, ◌++◌, length, map, filter, count_by, Option, Some, None, refl, sym, ap, ◌∙◌, subst, inl, inr, arith, append_assoc, length-append}
use Rattle.std.proofs.Math.ListN.{get_or-append}
use Rattle.std.proofs.lemmas.List.{get_or-append-add}
use Rattle.std.proofs.lemmas.Bool.{cases_eq, cases_lt, cases_order, eq-eqb, ne_eqb, lt-ltb, le-ltb, false≢true}
use Rattle.lab_base.specs.Lists.{Has, AllDiffer}
use Rattle.lab_base.specs.declared.ids.NodeId.{NodeId}
use Rattle.phys_lab.specs.Labs.{Lab}
use Rattle.lab_ahead.specs.declared.batch.Promise.{Promise}
use Rattle.lab_ahead.specs.declared.fitting.Need.{Need}
use Rattle.lab_ahead.specs.Givings.{Fits, has_type, need_at}
use Rattle.lab_ahead.specs.Moments.{need_of_promise}
use Rattle.lab_ahead.specs.SearchTrees.{is_of}
use Rattle.lab_ahead.proofs.Counting.{count-cons, one_if}
use Rattle.lab_ahead.proofs.Exchanges.{none_there}

pub more_left : (lab : Lab) (left more : List NodeId) (needs : List Need) → ((node : NodeId) → Has left node → Has more node) → Fits lab left needs → Fits lab more needs
more_left lab left more needs among (given, is) = (given, record { once = is.once; of_left = λ g h. among g.0 (is.of_left g h); of_need = is.of_need; of_type = is.of_type; enough = is.enough })

-- WITHOUT NEED k THE LATER NEEDS HAVE NUMBERS LESS BY ONE

renumber : ℕ → ℕ → Option ℕ
renumber k n = cond (ltb n k) (Some n) (cond (eqb n k) None (Some (n - 1)))

raised : ℕ → ℕ → ℕ
raised k m = cond (ltb m k) m (m + 1)

number_below : (k n : ℕ) → n < k → renumber k n ≡ Some n
unfolding renumber
number_below k n lt = ap (λ (b : Bool). cond b (Some n) (cond (eqb n k) None (Some (n - 1)))) (lt-ltb n k lt)

number_here : (k n : ℕ) → n ≡ k → renumber k n ≡ None
unfolding renumber
number_here k n e =
    ap (λ (b : Bool). cond b (Some n) (cond (eqb n k) None (Some (n - 1)))) (le-ltb n k (omega arith)) ∙ ap (λ (b : Bool). cond b None (Some (n - 1))) (eq-eqb n k e)

number_above : (k n : ℕ) → k < n → renumber k n ≡ Some (n - 1)
unfolding renumber
number_above k n lt =
    ap (λ (b : Bool). cond b (Some n) (cond (eqb n k) None (Some (n - 1)))) (le-ltb n k (omega arith)) ∙ ap (λ (b : Bool). cond b None (Some (n - 1))) (ne_eqb n k (λ e. omega arith))

raised_below : (k m : ℕ) → m < k → raised k m ≡ m
unfolding raised
raised_below k m lt = ap (λ (b : Bool). cond b m (m + 1)) (lt-ltb m k lt)

raised_above : (k m : ℕ) → k ≤ m → raised k m ≡ m + 1
unfolding raised
raised_above k m le = ap (λ (b : Bool). cond b m (m + 1)) (le-ltb m k le)

same_number : (m n : ℕ) → Some m ≡ Some n → m ≡ n
same_number m n e = cc e

no_number : (m : ℕ) → None ≡ Some m → ⊥
no_number m e = cc e

-- a number that stays
cases_number : (k n m : ℕ) → renumber k n ≡ Some m → ((n < k) × (m ≡ n)) ⊎ ((k ≤ m) × (n ≡ m + 1))
cases_number k n m e = elim (cases_order n k) [
  | inl here ↦ absurd (no_number m (sym (number_here k n here) ∙ e))
  | inr other ↦ elim other [
    | inl lt ↦ inl (lt, sym (same_number n m (sym (number_below k n lt) ∙ e)))
    | inr gt ↦ let is : n - 1 ≡ m = same_number (n - 1) m (sym (number_above k n gt) ∙ e) in inr (omega arith, omega arith)
  ]
]

renumbered : (k m n : ℕ) → one_if (is_of m (renumber k n)) ≡ one_if (eqb n (raised k m))
renumbered k m n = elim (cases_order n k) [
  | inl here ↦ ap (λ (o : Option ℕ). one_if (is_of m o)) (number_here k n here) ∙ sym (none_there n (raised k m) (not_here here))
  | inr other ↦ elim other [
    | inl lt ↦ ap (λ (o : Option ℕ). one_if (is_of m o)) (number_below k n lt) ∙ below lt
    | inr gt ↦ ap (λ (o : Option ℕ). one_if (is_of m o)) (number_above k n gt) ∙ above gt
  ]
]
  where
    not_here : n ≡ k → n ≡ raised k m → ⊥
    not_here here e = elim (cases_lt m k) [ inl lt ↦ omega (arith, raised_below k m lt) | inr le ↦ omega (arith, raised_above k m le) ]

    below : n < k → one_if (eqb n m) ≡ one_if (eqb n (raised k m))
    below lt = elim (cases_lt m k) [
      | inl small ↦ ap (λ (j : ℕ). one_if (eqb n j)) (sym (raised_below k m small))
      | inr le ↦ none_there n m (λ e. omega arith) ∙ sym (none_there n (raised k m) (λ e. omega (arith, raised_above k m le)))
    ]

    above : k < n → one_if (eqb (n - 1) m) ≡ one_if (eqb n (raised k m))
    above gt = elim (cases_lt m k) [
      | inl small ↦ none_there (n - 1) m (λ e. omega arith) ∙ sym (none_there n (raised k m) (λ e. omega (arith, raised_below k m small)))
      | inr le ↦ elim (cases_eq n (m + 1)) [
        | inl e ↦ let less : n - 1 ≡ m = omega arith in ap one_if (eq-eqb (n - 1) m less) ∙ sym (ap one_if (eq-eqb n (raised k m) (e ∙ sym (raised_above k m le))))
        | inr ne ↦ none_there (n - 1) m (λ e. ne (omega arith)) ∙ sym (none_there n (raised k m) (λ e. ne (e ∙ raised_above k m le)))
      ]
    ]

moved : Option ℕ → NodeId → List (NodeId × ℕ) → List (NodeId × ℕ)
moved None node rest = rest
moved (Some n) node rest = (node, n) ∷ rest

without_need : ℕ → List (NodeId × ℕ) → List (NodeId × ℕ)
without_need k [] = []
without_need k (g ∷ given) = moved (renumber k g.1) g.0 (without_need k given)

moved_from : (o : Option ℕ) (node : NodeId) (rest : List (NodeId × ℕ)) (g : NodeId × ℕ) → Has (moved o node rest) g → ((node ≡ g.0) × (o ≡ Some g.1)) ⊎ Has rest g
unfolding moved
moved_from None node rest g h = inr h
moved_from (Some n) node rest g (inl e) = inl (ap (λ (p : NodeId × ℕ). p.0) e, ap (λ (p : NodeId × ℕ). Some p.1) e)
moved_from (Some n) node rest g (inr h) = inr h

kept_from : (k : ℕ) (given : List (NodeId × ℕ)) (g : NodeId × ℕ) → Has (without_need k given) g → (f : NodeId × ℕ) × Has given f × (f.0 ≡ g.0) × (renumber k f.1 ≡ Some g.1)
unfolding without_need
kept_from k [] g h = absurd h
kept_from k (f ∷ given) g h = elim (moved_from (renumber k f.1) f.0 (without_need k given) g h) [
  | inl e ↦ (f, inl refl, e.0, e.1)
  | inr there ↦ let later = kept_from k given g there in (later.0, inr later.1, later.2, later.3)
]

abbrev nodes_of : List (NodeId × ℕ) → List NodeId
nodes_of given = map (λ (g : NodeId × ℕ). g.0) given

moved_differ : (o : Option ℕ) (node : NodeId) (rest : List (NodeId × ℕ)) → ((y : NodeId) → Has (nodes_of rest) y → node ≡ y → ⊥) → AllDiffer (nodes_of rest) → AllDiffer (nodes_of (moved o node rest))
unfolding moved
moved_differ None node rest other differ = differ
moved_differ (Some n) node rest other differ = (other, differ)

moved_nodes : (o : Option ℕ) (node : NodeId) (rest : List (NodeId × ℕ)) (y : NodeId) → Has (nodes_of (moved o node rest)) y → (node ≡ y) ⊎ Has (nodes_of rest) y
unfolding moved
moved_nodes None node rest y h = inr h
moved_nodes (Some n) node rest y h = h

kept_nodes : (k : ℕ) (given : List (NodeId × ℕ)) (y : NodeId) → Has (nodes_of (without_need k given)) y → Has (nodes_of given) y
unfolding without_need
kept_nodes k [] y h = absurd h
kept_nodes k (f ∷ given) y h = elim (moved_nodes (renumber k f.1) f.0 (without_need k given) y h) [ inl e ↦ inl e | inr there ↦ inr (kept_nodes k given y there) ]

kept_once : (k : ℕ) (given : List (NodeId × ℕ)) → AllDiffer (nodes_of given) → AllDiffer (nodes_of (without_need k given))
unfolding without_need
kept_once k [] differ = tt
kept_once k (f ∷ given) differ = moved_differ (renumber k f.1) f.0 (without_need k given) (λ y h. differ.0 y (kept_nodes k given y h)) (kept_once k given differ.1)

moved_count : (o : Option ℕ) (node : NodeId) (rest : List (NodeId × ℕ)) (m : ℕ) → count_by (λ (g : NodeId × ℕ). eqb g.1 m) (moved o node rest) ≡ one_if (is_of m o) + count_by (λ (g : NodeId × ℕ). eqb g.1 m) rest
unfolding moved
moved_count None node rest m = omega arith
moved_count (Some n) node rest m = count-cons (λ (g : NodeId × ℕ). eqb g.1 m) (node, n) rest

kept_count : (k : ℕ) (given : List (NodeId × ℕ)) (m : ℕ) → count_by (λ (g : NodeId × ℕ). eqb g.1 m) (without_need k given) ≡ count_by (λ (g : NodeId × ℕ). eqb g.1 (raised k m)) given
unfolding without_need
kept_count k [] m = refl
kept_count k (f ∷ given) m =
    moved_count (renumber k f.1) f.0 (without_need k given) m ∙ (λ i. renumbered k m f.1 i + kept_count k given m i) ∙ sym (count-cons (λ (g : NodeId × ℕ). eqb g.1 (raised k m)) f given)

-- one need less
module _ (lab : Lab) (left : List NodeId) (front : List Need) (need : Need) (rest : List Need) where
  same_need : (n m : ℕ) → ((n < length front) × (m ≡ n)) ⊎ ((length front ≤ m) × (n ≡ m + 1)) → need_at (front ++ need ∷ rest) n ≡ need_at (front ++ rest) m
  same_need n m (inl (lt, e)) =
      get_or-append front (need ∷ rest) (record { kind = []; count = 0 }) n lt ∙ sym (get_or-append front rest (record { kind = []; count = 0 }) n lt) ∙ ap (need_at (front ++ rest)) (sym e)
  same_need n m (inr (le, e)) =
      let up : n ≡ length front + suc (m - length front) = omega arith in
      let at : m ≡ length front + (m - length front) = omega arith in
      ap (need_at (front ++ need ∷ rest)) up ∙ get_or-append-add front (need ∷ rest) (suc (m - length front)) (record { kind = []; count = 0 })
      ∙ sym (get_or-append-add front rest (m - length front) (record { kind = []; count = 0 })) ∙ ap (need_at (front ++ rest)) (sym at)

  raised_is : (m : ℕ) → ((raised (length front) m < length front) × (m ≡ raised (length front) m)) ⊎ ((length front ≤ m) × (raised (length front) m ≡ m + 1))
  raised_is m = elim (cases_lt m (length front)) [
    | inl lt ↦ inl (omega (arith, raised_below (length front) m lt), sym (raised_below (length front) m lt))
    | inr le ↦ inr (le, raised_above (length front) m le)
  ]

  lengths : length (front ++ need ∷ rest) ≡ length (front ++ rest) + 1
  lengths = omega (arith, length-append front (need ∷ rest), length-append front rest)

  whole : length (front ++ rest) ≡ length front + length rest
  whole = length-append front rest

  still_need : (n m : ℕ) → ((n < length front) × (m ≡ n)) ⊎ ((length front ≤ m) × (n ≡ m + 1)) → n < length (front ++ need ∷ rest) → m < length (front ++ rest)
  still_need n m (inl (lt, e)) within = omega (arith, whole)
  still_need n m (inr (le, e)) within = omega (arith, lengths)

  pub one_need_less : Fits lab left (front ++ need ∷ rest) → Fits lab left (front ++ rest)
  one_need_less (given, is) = (
    without_need (length front) given,
    record {
      once = kept_once (length front) given is.once;
      of_left = λ g h. let from = kept_from (length front) given g h in subst (λ (node : NodeId). Has left node) from.2 (is.of_left from.0 from.1);
      of_need = λ g h. let from = kept_from (length front) given g h in still_need from.0.1 g.1 (cases_number (length front) from.0.1 g.1 from.3) (is.of_need from.0 from.1);
      of_type = λ g h.
          let from = kept_from (length front) given g h in
          let need_is = same_need from.0.1 g.1 (cases_number (length front) from.0.1 g.1 from.3) in
          subst (λ (node : NodeId). has_type lab (need_at (front ++ rest) g.1).kind node ≡ true) from.2
          (subst (λ (n : Need). has_type lab n.kind from.0.0 ≡ true) need_is (is.of_type from.0 from.1));
      enough = λ m lt.
          kept_count (length front) given m ∙ is.enough (raised (length front) m) (within m lt) ∙ ap (λ (n : Need). n.count) (same_need (raised (length front) m) m (raised_is m));
    },
  )
    where
      within : (m : ℕ) → m < length (front ++ rest) → raised (length front) m < length (front ++ need ∷ rest)
      within m lt = elim (cases_lt m (length front)) [
        | inl small ↦ omega (arith, raised_below (length front) m small, lengths)
        | inr le ↦ omega (arith, raised_above (length front) m le, lengths)
      ]

-- fewer promises
pub fewer_needs : (lab : Lab) (left : List NodeId) (p q : Promise → Bool) (front : List Need) (promises : List Promise) → ((x : Promise) → Has promises x → q x ≡ true → p x ≡ true)
    → Fits lab left (front ++ map need_of_promise (filter p promises)) → Fits lab left (front ++ map need_of_promise (filter q promises))
fewer_needs lab left p q front [] among fits = fits
fewer_needs lab left p q front (x ∷ promises) among whole = by (λ f. fewer_needs lab left p q f promises (λ y h. among y (inr h))) (p x) (q x) (among x (inl refl)) whole
  where
    by : (rest : (f : List Need) → Fits lab left (f ++ map need_of_promise (filter p promises)) → Fits lab left (f ++ map need_of_promise (filter q promises)))
        → (a b : Bool) → (b ≡ true → a ≡ true) → Fits lab left (front ++ map need_of_promise (cond a (x ∷ filter p promises) (filter p promises)))
        → Fits lab left (front ++ map need_of_promise (cond b (x ∷ filter q promises) (filter q promises)))
    by rest true true both fits =
        subst (λ (l : List Need). Fits lab left l) (append_assoc front (need_of_promise x ∷ []) (map need_of_promise (filter q promises)))
        (rest (front ++ need_of_promise x ∷ []) (subst (λ (l : List Need). Fits lab left l) (sym (append_assoc front (need_of_promise x ∷ []) (map need_of_promise (filter p promises)))) fits))
    by rest true false both fits = rest front (one_need_less lab left front (need_of_promise x) (map need_of_promise (filter p promises)) fits)
    by rest false true both fits = absurd (false≢true (both refl))
    by rest false false both fits = rest front fits
