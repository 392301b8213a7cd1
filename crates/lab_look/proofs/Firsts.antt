-- The first experiment that passes a test.
use Rattle.std.specs.Prelude.{slice_get, if◌then◌else◌}
use Rattle.std.proofs.Common.{◌≡◌, inl, inr, ℕ, zero, suc, ◌+◌, ◌-◌, ◌<◌, ◌≤◌, Bool, true, false, Some, None, List, [], ◌∷◌, ◌++◌, length, take, drop, refl, sym, ap, ◌∙◌, subst, arith}
use Rattle.std.proofs.lemmas.Bool.{cases_Bool}
use Rattle.std.proofs.lemmas.Option.{slice_get_within}
use Rattle.lab_base.specs.Lists.{Has, Apart}
use Rattle.lab_base.proofs.Members.{Has-slice_get}
use Rattle.virt_topo.specs.declared.experiment.Experiment.{Experiment}
use Rattle.lab_look.specs.Seats.{first_from}

-- an element by its place is the next of the list after those before it
pub drop_at : {X : Type 0} (xs : List X) (n : ℕ) (x : X) → slice_get xs n ≡ Some x → drop n xs ≡ x ∷ drop (n + 1) xs
drop_at [] n x is = absurd (cc is)
drop_at (y ∷ ys) zero x is = let same : y ≡ x = cc in ap (λ (z : _). z ∷ ys) same
drop_at (y ∷ ys) (suc n) x is = drop_at ys n x is ∙ ap (λ (k : ℕ). x ∷ drop k (y ∷ ys)) (next n)
  where
    next : (n : ℕ) → suc (n + 1) ≡ suc n + 1
    next n = omega arith

pub take_at_place : {X : Type 0} (xs : List X) (n : ℕ) (x : X) → slice_get xs n ≡ Some x → take (n + 1) xs ≡ take n xs ++ x ∷ []
take_at_place [] n x is = absurd (cc is)
take_at_place (y ∷ ys) zero x is = let same : y ≡ x = cc in ap (λ (z : _). z ∷ []) same
take_at_place (y ∷ ys) (suc n) x is = ap (λ (k : ℕ). take k (y ∷ ys)) (next n) ∙ ap (λ (l : List _). y ∷ l) (take_at_place ys n x is)
  where
    next : (n : ℕ) → suc n + 1 ≡ suc (n + 1)
    next n = omega arith

-- where an element by its place passes, and where it doesn't
pub first_here : (p : Experiment → Bool) (n : ℕ) (es : List Experiment) (e : Experiment) → slice_get es n ≡ Some e → p e ≡ true → first_from p n (drop n es) ≡ Some n
first_here p n es e is passes = ap (λ (l : List Experiment). first_from p n l) (drop_at es n e is) ∙ ap (λ (b : Bool). if b then Some n else first_from p (n + 1) (drop (n + 1) es)) passes

pub first_later : (p : Experiment → Bool) (n : ℕ) (es : List Experiment) (e : Experiment) → slice_get es n ≡ Some e → p e ≡ false → first_from p n (drop n es) ≡ first_from p (n + 1) (drop (n + 1) es)
first_later p n es e is fails = ap (λ (l : List Experiment). first_from p n l) (drop_at es n e is) ∙ ap (λ (b : Bool). if b then Some n else first_from p (n + 1) (drop (n + 1) es)) fails

-- the first one passes, and stands at its place
pub first_passes : (p : Experiment → Bool) (n k : ℕ) (es : List Experiment) → first_from p n es ≡ Some k → (n ≤ k) × ((e : Experiment) × (slice_get es (k - n) ≡ Some e) × (p e ≡ true))
first_passes p n k [] is = absurd (cc is)
first_passes p n k (e ∷ es) is = elim (cases_Bool (p e)) [
  | inl passes ↦
      let here : Some n ≡ Some k = ap (λ (b : Bool). if b then Some n else first_from p (n + 1) es) (sym passes) ∙ is in
      let same : n ≡ k = cc in
      (omega arith, (e, ap (λ (m : ℕ). slice_get (e ∷ es) m) (none_left n k same), passes))
  | inr fails ↦
      let more = first_passes p (n + 1) k es (ap (λ (b : Bool). if b then Some n else first_from p (n + 1) es) (sym fails) ∙ is) in
      (omega (arith, more.0), (more.1.0, ap (λ (m : ℕ). slice_get (e ∷ es) m) (one_more n k more.0) ∙ more.1.1, more.1.2))
]
  where
    none_left : (n k : ℕ) → n ≡ k → k - n ≡ 0
    none_left n k same = omega arith

    one_more : (n k : ℕ) → n + 1 ≤ k → k - n ≡ suc (k - (n + 1))
    one_more n k le = omega arith

-- where none is the first, none passes; and where one passes, there is a first one
pub none_passes : (p : Experiment → Bool) (n : ℕ) (es : List Experiment) → first_from p n es ≡ None → (e : Experiment) → Has es e → p e ≡ false
none_passes p n [] is e among = absurd among
none_passes p n (f ∷ es) is e among = elim (cases_Bool (p f)) [
  | inl passes ↦ absurd (some_none n (ap (λ (b : Bool). if b then Some n else first_from p (n + 1) es) (sym passes) ∙ is))
  | inr fails ↦ elim among [
    | inl same ↦ subst (λ (x : Experiment). p x ≡ false) same fails
    | inr there ↦ none_passes p (n + 1) es (ap (λ (b : Bool). if b then Some n else first_from p (n + 1) es) (sym fails) ∙ is) e there
  ]
]
  where
    some_none : (n : ℕ) → Some n ≡ None → ⊥
    some_none n e = cc

pub none_first : (p : Experiment → Bool) (n : ℕ) (es : List Experiment) → ((e : Experiment) → Has es e → p e ≡ false) → first_from p n es ≡ None
none_first p n [] none = refl
none_first p n (e ∷ es) none = ap (λ (b : Bool). if b then Some n else first_from p (n + 1) es) (none e (inl refl)) ∙ none_first p (n + 1) es (λ f h. none f (inr h))

-- of two at different places, what is so of any two
pub apart_at : {X : Type 0} (R : X → X → Type 0) (xs : List X) (m n : ℕ) (x y : X) → Apart R xs → m < n → slice_get xs m ≡ Some x → slice_get xs n ≡ Some y → R x y
apart_at R [] m n x y apart less at_m at_n = absurd (cc at_m)
apart_at R (z ∷ zs) zero zero x y apart less at_m at_n = absurd (omega (arith, less))
apart_at R (z ∷ zs) zero (suc n) x y apart less at_m at_n = let same : z ≡ x = cc in subst (λ (v : _). R v y) same (apart.0 y (Has-slice_get zs n y at_n))
apart_at R (z ∷ zs) (suc m) zero x y apart less at_m at_n = absurd (omega (arith, less))
apart_at R (z ∷ zs) (suc m) (suc n) x y apart less at_m at_n = apart_at R zs m n x y apart.1 (omega (arith, less)) at_m at_n

-- past the end there is none, and a first one is within
some_none : {X : Type 0} (x : X) → Some x ≡ None → ⊥
some_none x e = cc

pub first_within : (p : Experiment → Bool) (k : ℕ) (es : List Experiment) → first_from p 0 es ≡ Some k → k < length es
first_within p k es is =
    let h = (first_passes p 0 k es is).1 in
    omega (arith, slice_get_within es (k - 0) h.0 h.1)
