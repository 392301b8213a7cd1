-- The table of nodes after a search by name.
use Rattle.std.proofs.Common.{◌≡◌, ◌<◌, ◌≤◌, ℕ, Bool, true, false, List, set, get_or, length, Option, Some, None, Err, refl, ap, if◌then◌else◌}
use Rattle.std.specs.Cmp.Lexicographic.{slice_cmp, nat_list_cmp_total, texts_ties}
use Rattle.std.specs.List.{find, insert, HoldsAt}
use Rattle.std.specs.List.Sorted.{IsBinarySearchResult}
use Rattle.std.specs.Ordering.{nat_cmp}
use Rattle.std.specs.Str.{bytes_eq}
use Rattle.std.specs.declared.cmp.Ordering.TheVariants.{Equal}
use Rattle.lab_base.proofs.Bytes.{bytes_same}
use Rattle.plant_mem.specs.Boots.{is_of, state_or_off, os_or_none, NodesRise}
use Rattle.plant_mem.specs.declared.nodes.NodeState.{NodeState}
use Rattle.plant_mem.proofs.Sorted.{found_at, not_found, found_set, found_insert, rise_set, rise_insert}

module _ (xs : List NodeState) (rise : NodesRise xs) where
  pub node_found : (node : List ℕ) (at : ℕ) (d : NodeState) → at < length xs → HoldsAt (λ entry. slice_cmp nat_cmp entry.node node ≡ Equal) xs at → find (is_of node) xs ≡ Some (get_or xs at d)
  node_found node at d lt is = found_at (λ entry. entry.node) (slice_cmp nat_cmp) nat_list_cmp_total is_of (λ k x. texts_ties x.node k) xs rise node at d lt is

  pub node_not_found : (node : List ℕ) (at : ℕ) → IsBinarySearchResult (λ entry. slice_cmp nat_cmp entry.node node) xs (Err at) → find (is_of node) xs ≡ None
  node_not_found node at found = not_found (λ entry. entry.node) (slice_cmp nat_cmp) nat_list_cmp_total is_of (λ k x. texts_ties x.node k) xs rise node at found

  module _ (at : ℕ) (entry : NodeState) where
    pub node_set : at < length xs → HoldsAt (λ e. slice_cmp nat_cmp e.node entry.node ≡ Equal) xs at → (name : List ℕ) → find (is_of name) (set xs at entry) ≡ (if bytes_eq entry.node name then Some entry else find (is_of name) xs)
    node_set lt is name = found_set (λ e. e.node) (slice_cmp nat_cmp) nat_list_cmp_total is_of (λ k x. texts_ties x.node k) xs rise at entry lt is name

    pub node_rise_set : at < length xs → HoldsAt (λ e. slice_cmp nat_cmp e.node entry.node ≡ Equal) xs at → NodesRise (set xs at entry)
    node_rise_set lt is = rise_set (λ e. e.node) (slice_cmp nat_cmp) nat_list_cmp_total xs rise at entry lt is

    pub node_insert : at ≤ length xs → IsBinarySearchResult (λ e. slice_cmp nat_cmp e.node entry.node) xs (Err at) → (name : List ℕ) → find (is_of name) (insert xs at entry) ≡ (if bytes_eq entry.node name then Some entry else find (is_of name) xs)
    node_insert le found name = found_insert (λ e. e.node) (slice_cmp nat_cmp) nat_list_cmp_total is_of (λ k x. texts_ties x.node k) xs rise at entry le found name

    pub node_rise_insert : at ≤ length xs → IsBinarySearchResult (λ e. slice_cmp nat_cmp e.node entry.node) xs (Err at) → NodesRise (insert xs at entry)
    node_rise_insert le found = rise_insert (λ e. e.node) (slice_cmp nat_cmp) nat_list_cmp_total xs rise at entry le found

-- what a table has for a node, by the entry that is found
pub state_if : (test : Bool) (entry : NodeState) (old : Option NodeState) → state_or_off (if test then Some entry else old) ≡ (if test then entry.state else state_or_off old)
state_if true entry old = refl
state_if false entry old = refl

pub os_if : (test : Bool) (entry : NodeState) (old : Option NodeState) → os_or_none (if test then Some entry else old) ≡ (if test then entry.os else os_or_none old)
os_if true entry old = refl
os_if false entry old = refl

-- what a node has is kept where it is put again
pub kept : {X : Type 0} (f : List ℕ → X) (node name : List ℕ) → (if bytes_eq node name then f node else f name) ≡ f name
kept f node name = by (bytes_eq node name) refl
  where
    by : (test : Bool) → bytes_eq node name ≡ test → (if test then f node else f name) ≡ f name
    by true is = ap f (bytes_same node name is)
    by false is = refl
