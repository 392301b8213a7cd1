-- The numbers of pipes.
use Rattle.std.proofs.Common.{◌≡◌, ◌⊎◌, inl, inr, ℕ, zero, suc, ◌+◌, ◌<◌, ◌≤◌, Bool, true, false, List, [], ◌∷◌, ◌++◌, length, Option, Some, None, refl, sym, ap, ◌∙◌, subst, arith, add-one, add-zero, length-append, if◌then◌else◌}
use Rattle.std.specs.Prelude.{is_some}
use Rattle.std.proofs.lemmas.Bool.{false≢true}
use Rattle.lab_base.specs.Lists.{Has, Apart}
use Rattle.lab_base.proofs.Members.{Has-append, Has-left, Has-right}
use Rattle.plant.specs.Worlds.{PipeRow, NodeRow}
use Rattle.plant.specs.Readings.{IsListOf, IsNth, HasPipe}
use Rattle.plant_mem.specs.Knows.{pipe_count, pipes_below}
use Rattle.plant_mem.specs.Readings.{number_if, numbers_below}

module _ (pipes : ℕ → Option PipeRow) where
  if_is : (test : Bool) (k n : ℕ) → Has (number_if test k) n → (k ≡ n) × (test ≡ true)
  if_is true k n (inl e) = (e, refl)
  if_is true k n (inr h) = absurd h
  if_is false k n h = absurd h

  is_if : (test : Bool) (k : ℕ) → test ≡ true → Has (number_if test k) k
  is_if true k is = inl refl
  is_if false k is = absurd (false≢true is)

  pub from_below : (n k : ℕ) → Has (numbers_below n pipes) k → (is_some (pipes k) ≡ true) × (k < n)
  from_below zero k h = absurd h
  from_below (suc n) k h = elim (Has-append (numbers_below n pipes) (number_if (is_some (pipes n)) n) k h) [
    | inl g ↦ let p = from_below n k g in (p.0, omega (arith, p.1))
    | inr g ↦ let p = if_is (is_some (pipes n)) n k g in (subst (λ (v : ℕ). is_some (pipes v) ≡ true) p.0 p.1, omega (arith, p.0))
  ]

  pub to_below : (n k : ℕ) → is_some (pipes k) ≡ true → k < n → Has (numbers_below n pipes) k
  to_below zero k is lt = absurd (omega (arith, lt))
  to_below (suc n) k is lt = elim (last_or_before k n lt) [
    | inl e ↦ Has-right (numbers_below n pipes) (number_if (is_some (pipes n)) n) k (subst (λ (v : ℕ). Has (number_if (is_some (pipes n)) n) v) (sym e) (is_if (is_some (pipes n)) n (ap (λ (v : ℕ). is_some (pipes v)) (sym e) ∙ is)))
    | inr less ↦ Has-left (numbers_below n pipes) (number_if (is_some (pipes n)) n) k (to_below n k is less)
  ]
    where
      last_or_before : (a b : ℕ) → a < suc b → (a ≡ b) ⊎ (a < b)
      last_or_before a b h = grind arith

  pushed : (xs : List ℕ) (test : Bool) (n : ℕ) → Apart ◌<◌ xs → ((k : ℕ) → Has xs k → k < n) → Apart ◌<◌ (xs ++ number_if test n)
  pushed [] true n r below = ((λ y h. absurd h), tt)
  pushed [] false n r below = tt
  pushed (x ∷ xs) test n r below = (
    (λ y h. elim (Has-append xs (number_if test n) y h) [
      | inl g ↦ r.0 y g
      | inr g ↦ subst (λ (v : ℕ). x < v) (if_is test n y g).0 (below x (inl refl))
    ]),
    pushed xs test n r.1 (λ k h. below k (inr h)),
  )

  pub below_rises : (n : ℕ) → Apart ◌<◌ (numbers_below n pipes)
  below_rises zero = tt
  below_rises (suc n) = pushed (numbers_below n pipes) (is_some (pipes n)) n (below_rises n) (λ k h. (from_below n k h).1)

  one_more : (test : Bool) (n : ℕ) → length (number_if test n) ≡ (if test then 1 else 0)
  one_more true n = refl
  one_more false n = refl

  pub below_some : (n : ℕ) → is_some (pipes n) ≡ true → length (numbers_below (n + 1) pipes) ≡ length (numbers_below n pipes) + 1
  below_some n is = ap (λ (k : ℕ). length (numbers_below k pipes)) (add-one n) ∙ length-append (numbers_below n pipes) (number_if (is_some (pipes n)) n) ∙ ap (λ (b : Bool). length (numbers_below n pipes) + length (number_if b n)) is

  pub below_none : (n : ℕ) → pipes n ≡ None → length (numbers_below (n + 1) pipes) ≡ length (numbers_below n pipes)
  below_none n none = ap (λ (k : ℕ). length (numbers_below k pipes)) (add-one n) ∙ length-append (numbers_below n pipes) (number_if (is_some (pipes n)) n) ∙ ap (λ (o : Option PipeRow). length (numbers_below n pipes) + length (number_if (is_some o) n)) none ∙ add-zero (length (numbers_below n pipes))

  pub below_count : (n : ℕ) → length (numbers_below n pipes) ≡ pipes_below n pipes
  below_count zero = refl
  below_count (suc n) = length-append (numbers_below n pipes) (number_if (is_some (pipes n)) n) ∙ (λ i. below_count n i + one_more (is_some (pipes n)) n i)

none_is : (o : Option PipeRow) → o ≡ None → is_some o ≡ true → ⊥
none_is o none is = false≢true (sym (ap is_some none) ∙ is)

-- all numbers of pipes, where none is set from n on
pub all_below : (row : NodeRow) (n : ℕ) → ((k : ℕ) → n ≤ k → row.pipes k ≡ None) → IsListOf ◌<◌ (HasPipe row) (numbers_below n row.pipes)
all_below row n free = record {
  rising = below_rises row.pipes n;
  exact = λ k. (
    (λ h. (from_below row.pipes n k h).0),
    (λ is. to_below row.pipes n k is (elim (under_or_not k n) [ inl lt ↦ lt | inr ge ↦ absurd (none_is (row.pipes k) (free k ge) is) ])),
  );
}
  where
    under_or_not : (a b : ℕ) → (a < b) ⊎ (b ≤ a)
    under_or_not a b = grind arith

-- the number is the nth, where so many come before it; there is none, where there are no more
pub is_nth_number : (row : NodeRow) (nth number : ℕ) → nth ≡ length (numbers_below number row.pipes) → HasPipe row number → IsNth ◌<◌ (HasPipe row) nth (Some number)
is_nth_number row nth number count is = (
  is,
  (
    numbers_below number row.pipes,
    record {
      rising = below_rises row.pipes number;
      exact = λ k. ((λ h. from_below row.pipes number k h), (λ s. to_below row.pipes number k s.0 s.1));
    },
    sym count,
  ),
)

pub no_nth_number : (row : NodeRow) (nth n : ℕ) → ((k : ℕ) → n ≤ k → row.pipes k ≡ None) → length (numbers_below n row.pipes) ≤ nth → IsNth ◌<◌ (HasPipe row) nth None
no_nth_number row nth n free few = (numbers_below n row.pipes, all_below row n free, few)

pub numbers_fit : (row : NodeRow) (n : ℕ) → n ≤ 65536 → ((k : ℕ) → n ≤ k → row.pipes k ≡ None) → (k : ℕ) → HasPipe row k → k < 65536
numbers_fit row n small free k is = omega (arith, small, (from_below row.pipes n k ((((all_below row n free).exact k).1 is))).1)

-- how many pipes a node has
pub counted_pipes : (row : NodeRow) (n count : ℕ) → ((k : ℕ) → n ≤ k → row.pipes k ≡ None) → count ≡ pipes_below n row.pipes → (all : List ℕ) × IsListOf ◌<◌ (HasPipe row) all × (length all ≡ count)
counted_pipes row n count free is = (numbers_below n row.pipes, all_below row n free, below_count row.pipes n ∙ sym is)

pub count_is : (pipes : ℕ → Option PipeRow) → pipe_count pipes ≡ pipes_below 65536 pipes
unfolding pipe_count
count_is pipes = refl
