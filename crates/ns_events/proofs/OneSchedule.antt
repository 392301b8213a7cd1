-- A span of time has one schedule.
use Rattle.std.proofs.Common.{◌≡◌, ◌⊎◌, ℕ, suc, ◌<◌, ◌≤◌, Bool, true, false, List, [], ◌∷◌, length, get_or, filter, inl, inr, refl, ap, sym, subst, ◌∙◌, arith}
use Rattle.std.specs.Prelude.{◌==◌, if◌then◌else◌}
use Rattle.std.specs.List.Sorted.{IsNonDecreasingBy}
use Rattle.std.proofs.lemmas.Bool.Decides.{nat_tests}
use Rattle.lab_base.specs.Lists.{Has}
use Rattle.ns_events.specs.declared.event.Event.{Event}
use Rattle.ns_events.specs.Schedules.{at_moment, IsSchedule}

same_number : (n : ℕ) → (n == n) ≡ true
same_number n = grind (arith, nat_tests)

number_same : (a b : ℕ) → (a == b) ≡ true → a ≡ b
number_same a b e = grind (arith, nat_tests)

-- each event is no later than those after it
Rises : List Event → Type 0
Rises [] = Unit {0}
Rises (e ∷ es) = ((f : Event) → Has es f → e.at ≤ f.at) × Rises es

found : (es : List Event) (f : Event) → Has es f → (k : ℕ) × (k < length es) × (get_or es k f ≡ f)
found [] f h = absurd h
found (e ∷ es) f (inl is) = (0, omega arith, is)
found (e ∷ es) f (inr h) = let r = found es f h in (suc r.0, omega (arith, r.1), r.2)

rises : (es : List Event) → IsNonDecreasingBy (λ e. e.at) es → Rises es
unfolding Rises
rises [] up = tt
rises (e ∷ es) up = (λ f h. let r = found es f h in subst (λ (x : Event). e.at ≤ x.at) r.2 (up 0 (suc r.0) f (omega arith) (omega (arith, r.1))), rises es (λ i j d le lt. up (suc i) (suc j) d (omega (arith, le)) (omega (arith, lt))))

-- what passes a test stands in the list
kept : (p : Event → Bool) (es : List Event) (f : Event) → Has (filter p es) f → Has es f
kept p [] f h = absurd h
kept p (e ∷ es) f h = by (kept p es f) (p e) h
  where
    by : (Has (filter p es) f → Has es f) → (b : Bool) → Has (if b then e ∷ filter p es else filter p es) f → (e ≡ f) ⊎ Has es f
    by rest true (inl is) = inl is
    by rest true (inr g) = inr (rest g)
    by rest false g = inr (rest g)

-- the first event is among those of its moment
first : (e : Event) (es : List Event) → at_moment e.at (e ∷ es) ≡ e ∷ at_moment e.at es
first e es = rw (same_number e.at) refl

-- the first of two lists is no later
no_later : (x y : Event) (xs ys : List Event) → Rises (x ∷ xs) → at_moment y.at (x ∷ xs) ≡ at_moment y.at (y ∷ ys) → x.at ≤ y.at
unfolding Rises
no_later x y xs ys up same = by (kept (λ e. e.at == y.at) (x ∷ xs) y (subst (λ (es : List Event). Has es y) (sym (same ∙ first y ys)) (inl refl)))
  where
    by : (x ≡ y) ⊎ Has xs y → x.at ≤ y.at
    by (inl is) = omega (arith, ap (λ (e : Event). e.at) is)
    by (inr h) = up.0 y h

-- after two equal events
behind : (m : ℕ) (x y : Event) (xs ys : List Event) → x ≡ y → at_moment m (x ∷ xs) ≡ at_moment m (y ∷ ys) → at_moment m xs ≡ at_moment m ys
behind m x y xs ys is same = by (x.at == m) (subst (λ (e : Event). at_moment m (x ∷ xs) ≡ at_moment m (e ∷ ys)) (sym is) same)
  where
    by : (b : Bool) → (if b then x ∷ at_moment m xs else at_moment m xs) ≡ (if b then x ∷ at_moment m ys else at_moment m ys) → at_moment m xs ≡ at_moment m ys
    by true e = cc e
    by false e = e

once : (xs ys : List Event) → Rises xs → Rises ys → ((m : ℕ) → at_moment m xs ≡ at_moment m ys) → xs ≡ ys
unfolding Rises
once [] [] up also same = refl
once [] (y ∷ ys) up also same = let e = same y.at ∙ first y ys in absurd (cc e)
once (x ∷ xs) [] up also same = let e = sym (first x xs) ∙ same x.at in absurd (cc e)
once (x ∷ xs) (y ∷ ys) up also same =
    let a = no_later x y xs ys up (same y.at) in
    let b = no_later y x ys xs also (sym (same x.at)) in
    let at : x.at ≡ y.at = omega (arith, a, b) in
    let e : x ∷ at_moment x.at xs ≡ y ∷ at_moment y.at ys = sym (first x xs) ∙ same x.at ∙ ap (λ (m : ℕ). at_moment m (y ∷ ys)) at ∙ first y ys in
    let is : x ≡ y = cc e in
    let rest = once xs ys up.1 also.1 (λ m. behind m x y xs ys is (same m)) in
    λ i. is i ∷ rest i

pub schedule_once : (from to : ℕ) (events one other : List Event) → IsSchedule from to events one → IsSchedule from to events other → one ≡ other
schedule_once from to events one other a b = once one other (rises one a.by_time) (rises other b.by_time) (λ m. a.each_moment m ∙ sym (b.each_moment m))
