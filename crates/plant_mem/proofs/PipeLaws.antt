-- The table of pipes after a search by node and number.
use Rattle.std.proofs.Common.{◌≡◌, ◌<◌, ◌≤◌, ℕ, Bool, true, false, List, set, get_or, length, Option, Some, None, Err, refl, sym, ap, ap₂, ◌∙◌, arith, if◌then◌else◌}
use Rattle.std.specs.Prelude.{◌&&◌, ◌==◌}
use Rattle.std.specs.Cmp.{IsTotalOrder}
use Rattle.std.specs.Cmp.Lexicographic.{slice_cmp, nat_list_cmp_total, texts_ties}
use Rattle.std.specs.List.{find, insert, HoldsAt}
use Rattle.std.specs.List.Sorted.{IsBinarySearchResult}
use Rattle.std.specs.Ordering.{nat_cmp, is_eq, ordering_then}
use Rattle.std.specs.Str.{bytes_eq}
use Rattle.std.specs.declared.cmp.Ordering.{Ordering}
use Rattle.std.specs.declared.cmp.Ordering.TheVariants.{Less, Equal, Greater}
use Rattle.std.proofs.lemmas.Bool.{and_parts, eqb-true}
use Rattle.std.proofs.lemmas.Bool.Decides.{nat_tests}
use Rattle.std.proofs.lemmas.Cmp.{nat_cmp_total, on_total, then_total}
use Rattle.lab_base.proofs.Bytes.{bytes_same}
use Rattle.plant_mem.specs.Pipes.{is_pipe, key_of, pipe_cmp, pipe_in, row_or_none, PipesRise}
use Rattle.plant_mem.specs.declared.pipes.PipeState.{PipeState}
use Rattle.plant_mem.proofs.Sorted.{found_at, not_found, found_set, found_insert, rise_set, rise_insert}

total : IsTotalOrder pipe_cmp
total = then_total (on_total (λ (k : List ℕ × ℕ). k.0) nat_list_cmp_total) (on_total (λ (k : List ℕ × ℕ). k.1) nat_cmp_total)

both : (r : Ordering) (n m : ℕ) → (is_eq r && (n == m)) ≡ is_eq (ordering_then r (nat_cmp n m))
both Less n m = refl
both Equal n m = grind (arith, nat_tests)
both Greater n m = refl

abbrev test : List ℕ × ℕ → PipeState → Bool
test k entry = is_pipe k.0 k.1 entry

tests : (k : List ℕ × ℕ) (entry : PipeState) → test k entry ≡ is_eq (pipe_cmp (key_of entry) k)
tests k entry = ap (λ (b : Bool). b && (entry.number == k.1)) (texts_ties entry.node k.0) ∙ both (slice_cmp nat_cmp entry.node k.0) entry.number k.1

row_if : (b : Bool) (entry : PipeState) (old : Option PipeState) → row_or_none (if b then Some entry else old) ≡ (if b then entry.row else row_or_none old)
row_if true entry old = refl
row_if false entry old = refl

module _ (xs : List PipeState) (rise : PipesRise xs) where
  pub pipe_found : (node : List ℕ) (number at : ℕ) (d : PipeState) → at < length xs → HoldsAt (λ entry. pipe_cmp (key_of entry) (node, number) ≡ Equal) xs at → pipe_in node number xs ≡ (get_or xs at d).row
  pipe_found node number at d lt is = ap row_or_none (found_at key_of pipe_cmp total test tests xs rise (node, number) at d lt is)

  pub pipe_not_found : (node : List ℕ) (number at : ℕ) → IsBinarySearchResult (λ entry. pipe_cmp (key_of entry) (node, number)) xs (Err at) → pipe_in node number xs ≡ None
  pipe_not_found node number at found = ap row_or_none (not_found key_of pipe_cmp total test tests xs rise (node, number) at found)

  module _ (at : ℕ) (entry : PipeState) where
    pub pipe_set : at < length xs → HoldsAt (λ e. pipe_cmp (key_of e) (key_of entry) ≡ Equal) xs at → (name : List ℕ) (k : ℕ)
        → pipe_in name k (set xs at entry) ≡ (if bytes_eq entry.node name && (entry.number == k) then entry.row else pipe_in name k xs)
    pipe_set lt is name k = ap row_or_none (found_set key_of pipe_cmp total test tests xs rise at entry lt is (name, k)) ∙ row_if (is_pipe name k entry) entry (find (is_pipe name k) xs)

    pub pipe_rise_set : at < length xs → HoldsAt (λ e. pipe_cmp (key_of e) (key_of entry) ≡ Equal) xs at → PipesRise (set xs at entry)
    pipe_rise_set lt is = rise_set key_of pipe_cmp total xs rise at entry lt is

    pub pipe_insert : at ≤ length xs → IsBinarySearchResult (λ e. pipe_cmp (key_of e) (key_of entry)) xs (Err at) → (name : List ℕ) (k : ℕ)
        → pipe_in name k (insert xs at entry) ≡ (if bytes_eq entry.node name && (entry.number == k) then entry.row else pipe_in name k xs)
    pipe_insert le found name k = ap row_or_none (found_insert key_of pipe_cmp total test tests xs rise at entry le found (name, k)) ∙ row_if (is_pipe name k entry) entry (find (is_pipe name k) xs)

    pub pipe_rise_insert : at ≤ length xs → IsBinarySearchResult (λ e. pipe_cmp (key_of e) (key_of entry)) xs (Err at) → PipesRise (insert xs at entry)
    pipe_rise_insert le found = rise_insert key_of pipe_cmp total xs rise at entry le found

-- a pipe that isn't there may as well be taken away
pub absent_is : (node : List ℕ) (number : ℕ) (xs : List PipeState) → pipe_in node number xs ≡ None → (name : List ℕ) (k : ℕ) → pipe_in name k xs ≡ (if bytes_eq node name && (number == k) then None else pipe_in name k xs)
absent_is node number xs none name k = by (bytes_eq node name && (number == k)) refl
  where
    by : (t : Bool) → (bytes_eq node name && (number == k)) ≡ t → pipe_in name k xs ≡ (if t then None else pipe_in name k xs)
    by true is =
        let p = and_parts (bytes_eq node name) (number == k) is in
        ap₂ (λ (n : List ℕ) (m : ℕ). pipe_in n m xs) (sym (bytes_same node name p.0)) (sym (eqb-true number k p.1)) ∙ none
    by false is = refl
