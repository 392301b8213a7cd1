-- The words of a list one after another.
use Rattle.std.proofs.Common.{◌≡◌, ℕ, suc, ◌+◌, ◌<◌, ◌≤◌, List, ◌∷◌, length, drop, get_or, Result, Ok, Err, sym, ap, subst, ◌∙◌, arith, Bor, drop-cons}
use Rattle.std.proofs.lemmas.List.{drop_all}
use Rattle.lab_base.specs.Texts.{views}
use Rattle.lab_base.specs.declared.fault.Kind.{Kind}
use Rattle.ns_build.specs.declared.refusal.Refusal.{Refusal}
use Rattle.ns_build.specs.declared.refusal.Refusal.TheVariants as refusals
use Rattle.ns_build.specs.Checks.{◌>>=◌, each}
use Rattle.ns_build.specs.Gives.{Gives}

module _ {X : Type 0} (add : X → List ℕ → Result X Kind) (elements : List (Bor (List ℕ))) (whole : Result X Kind) where
  -- the word at i, and those after it
  one : (x : X) (i : ℕ) (d : Bor (List ℕ)) → i < length elements → each add x (views (drop i elements)) ≡ whole
      → (add x (get_or elements i d).now >>= (λ more. each add more (views (drop (i + 1) elements)))) ≡ whole
  one x i d lt was =
      let number : suc i ≡ i + 1 = omega arith in
      let front : drop i elements ≡ get_or elements i d ∷ drop (i + 1) elements = drop-cons elements i d lt ∙ ap (λ (k : ℕ). get_or elements i d ∷ drop k elements) number in
      subst (λ (l : List (Bor (List ℕ))). each add x (views l) ≡ whole) front was

  pub goes_on : (x y : X) (i : ℕ) (d : Bor (List ℕ)) → i < length elements → add x (get_or elements i d).now ≡ Ok y → each add x (views (drop i elements)) ≡ whole
      → each add y (views (drop (i + 1) elements)) ≡ whole
  goes_on x y i d lt is was =
      subst (λ (r : Result X Kind). (r >>= (λ more. each add more (views (drop (i + 1) elements)))) ≡ whole) is (one x i d lt was)

  pub breaks_off : (e : Refusal) (x : X) (i : ℕ) (d : Bor (List ℕ)) → i < length elements → Gives {X = X} (Err e) (add x (get_or elements i d).now) → each add x (views (drop i elements)) ≡ whole
      → Gives {X = X} (Err e) whole
  breaks_off (refusals.Kind kind) x i d lt is was =
      sym (subst (λ (r : Result X Kind). (r >>= (λ more. each add more (views (drop (i + 1) elements)))) ≡ whole) is (one x i d lt was))
  breaks_off refusals.Memory x i d lt is was = tt

  pub ends : (x : X) (i : ℕ) → length elements ≤ i → each add x (views (drop i elements)) ≡ whole → whole ≡ Ok x
  ends x i le was = sym (subst (λ (l : List (Bor (List ℕ))). each add x (views l) ≡ whole) (drop_all i elements le) was)
