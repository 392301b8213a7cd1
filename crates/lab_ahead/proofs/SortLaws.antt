-- Lists that are sorted and freed of repeats.
use Rattle.std.proofs.Common.{ℕ, List, [], Contains, sym, subst}
use Rattle.std.specs.Ordering.{nat_cmp}
use Rattle.std.specs.Prelude.{nat_eq}
use Rattle.std.specs.List.{dedup}
use Rattle.std.specs.List.Retain.{IsFiltered, DiffersFromLast}
use Rattle.std.specs.List.Sorted.{IsPermutation, IsSorted, IsStrictlySortedBy}
use Rattle.std.specs.Cmp.Lexicographic.{pointwise, slice_cmp, texts_ties}
use Rattle.std.specs.Cmp.{unsigned_ties}
use Rattle.std.proofs.lemmas.Cmp.{nat_list_cmp_total, nat_list_eq_equiv, nat_cmp_total}
use Rattle.std.proofs.lemmas.List.Filters.{dedup_is}
use Rattle.std.proofs.lemmas.List.Kept.{Contains-dedup, Contains-dedup_nat, Contains-from_dedup, IsStrictlySortedBy-dedup}
use Rattle.std.proofs.lemmas.List.Sorted.{Contains-permutation, IsPermutation-sym}
use Rattle.lab_base.specs.Lists.{Has}
use Rattle.lab_base.proofs.Bytes.{bytes_same}
use Rattle.lab_base.proofs.Members.{Has-place, Has-get_or}

pub contained : {X : Type 0} (xs : List X) (x : X) → Has xs x → Contains xs x
contained xs x h = Has-place xs x x h

pub has : {X : Type 0} (xs : List X) (x : X) → Contains xs x → Has xs x
has xs x (k, lt, e) = subst (λ v. Has xs v) e (Has-get_or xs k x lt)

-- names
module _ (raw sorted left : List (List ℕ)) (permuted : IsPermutation raw sorted) (filtered : IsFiltered (DiffersFromLast (pointwise nat_eq)) [] sorted left) where
  pub names_rising : IsSorted (slice_cmp nat_cmp) sorted → IsStrictlySortedBy (slice_cmp nat_cmp) left
  names_rising in_order = subst (λ (l : List (List ℕ)). IsStrictlySortedBy (slice_cmp nat_cmp) l) (sym (dedup_is (pointwise nat_eq) sorted left filtered))
      (IsStrictlySortedBy-dedup nat_list_cmp_total texts_ties sorted in_order)

  pub names_kept : (name : List ℕ) → Has raw name → Has left name
  names_kept name h = subst (λ (l : List (List ℕ)). Has l name) (sym (dedup_is (pointwise nat_eq) sorted left filtered))
      (has (dedup (pointwise nat_eq) sorted) name (Contains-dedup nat_list_eq_equiv bytes_same sorted name (Contains-permutation raw sorted name permuted (contained raw name h))))

  pub names_before : (name : List ℕ) → Has left name → Has raw name
  names_before name h =
      let in_sorted = Contains-from_dedup (pointwise nat_eq) sorted name (contained (dedup (pointwise nat_eq) sorted) name (subst (λ (l : List (List ℕ)). Has l name) (dedup_is (pointwise nat_eq) sorted left filtered) h)) in
      has raw name (Contains-permutation sorted raw name (IsPermutation-sym raw sorted permuted) in_sorted)

-- numbers
module _ (raw sorted left : List ℕ) (permuted : IsPermutation raw sorted) (filtered : IsFiltered (DiffersFromLast nat_eq) [] sorted left) where
  pub numbers_rising : IsSorted nat_cmp sorted → IsStrictlySortedBy nat_cmp left
  numbers_rising in_order = subst (λ (l : List ℕ). IsStrictlySortedBy nat_cmp l) (sym (dedup_is nat_eq sorted left filtered))
      (IsStrictlySortedBy-dedup nat_cmp_total unsigned_ties sorted in_order)

  pub numbers_kept : (n : ℕ) → Has raw n → Has left n
  numbers_kept n h = subst (λ (l : List ℕ). Has l n) (sym (dedup_is nat_eq sorted left filtered))
      (has (dedup nat_eq sorted) n (Contains-dedup_nat sorted n (Contains-permutation raw sorted n permuted (contained raw n h))))

  pub numbers_before : (n : ℕ) → Has left n → Has raw n
  numbers_before n h =
      let in_sorted = Contains-from_dedup nat_eq sorted n (contained (dedup nat_eq sorted) n (subst (λ (l : List ℕ). Has l n) (dedup_is nat_eq sorted left filtered) h)) in
      has raw n (Contains-permutation sorted raw n (IsPermutation-sym raw sorted permuted) in_sorted)
