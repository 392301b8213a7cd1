-- A sound wiring has at most as many pipes as ends, since no end is in two pipes.
use Rattle.std.proofs.Common.{◌≡◌, ℕ, suc, ◌+◌, ◌-◌, ◌<◌, ◌≤◌, Bool, true, false, cond, eqb, List, [], ◌∷◌, length, take, get_or, count_by, map, refl, sym, ap, subst, ◌∙◌, arith, inl, inr, true≢false}
use Rattle.std.specs.Prelude.{nat_lt}
use Rattle.std.specs.List.{list_all, list_any, AllByRecursion, IsDistinct}
use Rattle.std.proofs.lemmas.Bool.{and_parts, and_from, or_parts, or_left, or_cases, eqb-true, eq-eqb, ltb-true}
use Rattle.std.proofs.lemmas.List.{length-map}
use Rattle.std.proofs.lemmas.List.Sums.{sum_by-cons}
use Rattle.std.proofs.lemmas.Map.Steps.{length-le_from_distinct_below}
use Rattle.lab_base.specs.Lists.{Has}
use Rattle.lab_base.proofs.Numbers.{at_least_one}
use Rattle.line_text.proofs.PartsAgain.{all_has}
use Rattle.virt_topo.specs.declared.wiring.Pipe.{Pipe}
use Rattle.virt_topo.specs.declared.wiring.Wiring.{Wiring}
use Rattle.virt_topo.specs.Ends.{end_nodes, end_number, pipe_from}
use Rattle.virt_topo.specs.Repeats.{stands_again}
use Rattle.virt_topo.specs.Soundness.{IsSound, knows_class, knows_node, knows_pipe, is_bad_pipe, shares_end}
use Rattle.top_text.proofs.SoundTests.{sound_tests}

-- how many of the ends are of a virtual node
abbrev pub ends_of : ℕ → List ℕ → ℕ
ends_of v ends = count_by (λ x. eqb x v) ends

abbrev is_of : ℕ → ℕ → ℕ
is_of v x = cond (eqb x v) 1 0

is_one : (x v : ℕ) → eqb x v ≡ true → is_of v x ≡ 1
is_one x v e = ap {B = ℕ} (λ (b : Bool). cond b 1 0) e

is_none : (x v : ℕ) → eqb x v ≡ false → is_of v x ≡ 0
is_none x v e = ap {B = ℕ} (λ (b : Bool). cond b 1 0) e

-- what stands at an end's number: its virtual node, and as many earlier ones as it says
record IsAt (ends : List ℕ) (v k n : ℕ) : Type 0 where
  node : get_or ends n 0 ≡ v
  count : ends_of v (take n ends) ≡ k

behind : (x : ℕ) (ends : List ℕ) (v k n m : ℕ) → m ≡ n + 1 → IsAt ends v k n → IsAt (x ∷ ends) v (is_of v x + k) m
behind x ends v k n m next at =
    let is : m ≡ suc n = omega (arith, next) in
    let one : ends_of v (x ∷ take n ends) ≡ is_of v x + ends_of v (take n ends) = sum_by-cons (is_of v) x (take n ends) in
    record {
      node = ap (λ (i : ℕ). get_or (x ∷ ends) i 0) is ∙ at.node;
      count = ap (λ (i : ℕ). ends_of v (take i (x ∷ ends))) is ∙ one ∙ ap (λ (j : ℕ). is_of v x + j) at.count;
    }

number_at : (ends : List ℕ) (v k : ℕ) → end_number ends v k < length ends → IsAt ends v k (end_number ends v k)
number_at [] v k lt = absurd (omega arith)
number_at (x ∷ ends) v k lt = by (eqb x v) refl k lt (λ k. number_at ends v k)
  where
    by : (b : Bool) → eqb x v ≡ b → (k : ℕ) → cond b (cond (eqb k 0) 0 (end_number ends v (k - 1) + 1)) (end_number ends v k + 1) < suc (length ends)
        → ((k : ℕ) → end_number ends v k < length ends → IsAt ends v k (end_number ends v k)) → IsAt (x ∷ ends) v k (cond b (cond (eqb k 0) 0 (end_number ends v (k - 1) + 1)) (end_number ends v k + 1))
    by false e k lt rest =
        let at = behind x ends v k (end_number ends v k) (end_number ends v k + 1) refl (rest k (omega arith)) in
        let same : is_of v x + k ≡ k = omega (arith, is_none x v e) in
        subst (λ (j : ℕ). IsAt (x ∷ ends) v j (end_number ends v k + 1)) same at
    by true e k lt rest = first (eqb k 0) refl lt rest
      where
        first : (b : Bool) → eqb k 0 ≡ b → cond b 0 (end_number ends v (k - 1) + 1) < suc (length ends) → ((k : ℕ) → end_number ends v k < length ends → IsAt ends v k (end_number ends v k)) → IsAt (x ∷ ends) v k (cond b 0 (end_number ends v (k - 1) + 1))
        first true z lt rest = record { node = eqb-true x v e; count = sym (eqb-true k 0 z) }
        first false z lt rest =
            let at = behind x ends v (k - 1) (end_number ends v (k - 1)) (end_number ends v (k - 1) + 1) refl (rest (k - 1) (omega arith)) in
            let some : 1 ≤ k = at_least_one k z in
            let same : is_of v x + (k - 1) ≡ k = omega (arith, is_one x v e, some) in
            subst (λ (j : ℕ). IsAt (x ∷ ends) v j (end_number ends v (k - 1) + 1)) same at

-- two ends with one number are one
number_once : (ends : List ℕ) (v k u j : ℕ) → end_number ends v k < length ends → end_number ends u j < length ends → end_number ends v k ≡ end_number ends u j → (v ≡ u) × (k ≡ j)
number_once ends v k u j lt gt same =
    let a = number_at ends v k lt in
    let b = number_at ends u j gt in
    let node : v ≡ u = sym a.node ∙ ap (λ (n : ℕ). get_or ends n 0) same ∙ b.node in
    (node, sym a.count ∙ (λ i. ends_of (node i) (take (same i) ends)) ∙ b.count)

module _ (w : Wiring) (sound : IsSound w) where
  known : list_all (knows_pipe w) w.pipes ≡ true
  known =
      let a = and_parts (list_all (λ v. knows_class w v.asks) w.nodes) _ (sound_tests w sound).known in
      (and_parts (list_all (λ s. list_all (λ e. knows_node w e.node) s.ends) w.segments) (list_all (knows_pipe w) w.pipes) a.1).1

  from_below : (pipes : List Pipe) → list_all (knows_pipe w) pipes ≡ true → (p : Pipe) → Has pipes p → pipe_from w p < length (end_nodes w.segments)
  from_below pipes all p h =
      let known = and_parts (knows_node w p.node) _ (all_has (knows_pipe w) pipes all p h) in
      ltb-true (pipe_from w p) (length (end_nodes w.segments)) (and_parts (nat_lt (pipe_from w p) (length (end_nodes w.segments))) _ known.1).0

  apart : (p q : Pipe) → shares_end p q ≡ false → pipe_from w p < length (end_nodes w.segments) → pipe_from w q < length (end_nodes w.segments) → eqb (pipe_from w p) (pipe_from w q) ≡ false
  apart p q h lt gt = by (eqb (pipe_from w p) (pipe_from w q)) refl
    where
      by : (b : Bool) → eqb (pipe_from w p) (pipe_from w q) ≡ b → b ≡ false
      by false e = refl
      by true e =
          let one = number_once (end_nodes w.segments) p.node p.from q.node q.from lt gt (eqb-true (pipe_from w p) (pipe_from w q) e) in
          let shared : shares_end p q ≡ true = and_from _ _ (eq-eqb p.node q.node one.0) (or_left _ _ (eq-eqb p.from q.from one.1)) in
          absurd (true≢false (sym shared ∙ h))

  distinct : (pipes : List Pipe) → list_all (knows_pipe w) pipes ≡ true → stands_again shares_end pipes ≡ false → IsDistinct eqb (map (pipe_from w) pipes)
  unfolding IsDistinct
  distinct [] all once = tt
  distinct (p ∷ pipes) all once =
      let parts = or_parts (list_any (shares_end p) pipes) (stands_again shares_end pipes) once in
      let known = and_parts (knows_pipe w p) (list_all (knows_pipe w) pipes) all in
      (others pipes known.1 parts.0 (from_below (p ∷ pipes) all p (inl refl)), distinct pipes known.1 parts.1)
    where
      others : (qs : List Pipe) → list_all (knows_pipe w) qs ≡ true → list_any (shares_end p) qs ≡ false → pipe_from w p < length (end_nodes w.segments) → AllByRecursion (λ n. eqb (pipe_from w p) n ≡ false) (map (pipe_from w) qs)
      others [] all none lt = tt
      others (q ∷ qs) all none lt =
          let parts = or_parts (shares_end p q) (list_any (shares_end p) qs) none in
          let known = and_parts (knows_pipe w q) (list_all (knows_pipe w) qs) all in
          (apart p q parts.0 lt (from_below (q ∷ qs) all q (inl refl)), others qs known.1 parts.1 lt)

  each_below : (pipes : List Pipe) → list_all (knows_pipe w) pipes ≡ true → (n : ℕ) → list_any (eqb n) (map (pipe_from w) pipes) ≡ true → n < length (end_nodes w.segments)
  each_below [] all n h = absurd (cc h)
  each_below (p ∷ pipes) all n h = elim (or_cases (eqb n (pipe_from w p)) (list_any (eqb n) (map (pipe_from w) pipes)) h) [
    | inl here ↦ subst (λ (m : ℕ). m < length (end_nodes w.segments)) (sym (eqb-true n (pipe_from w p) here)) (from_below (p ∷ pipes) all p (inl refl))
    | inr later ↦ each_below pipes (and_parts (knows_pipe w p) (list_all (knows_pipe w) pipes) all).1 n later
  ]

  pub few_pipes : length w.pipes ≤ length (end_nodes w.segments)
  few_pipes =
      let once = (or_parts (list_any (is_bad_pipe w) w.pipes) (stands_again shares_end w.pipes) (sound_tests w sound).pipes).1 in
      let few = length-le_from_distinct_below (map (pipe_from w) w.pipes) (length (end_nodes w.segments)) (distinct w.pipes known once) (each_below w.pipes known) in
      omega (arith, few, length-map w.pipes (pipe_from w))
