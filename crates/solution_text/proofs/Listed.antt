-- The interfaces of each node, one after another.
use Rattle.std.proofs.Common.{◌≡◌, ℕ, ◌+◌, ◌<◌, ◌≤◌, eqb, ◌&&◌, Bool, true, false, List, length, drop, get_or, set, Some, None, refl, sym, ap, ◌∙◌, inl, inr, arith}
use Rattle.std.specs.List.{position, position_from}
use Rattle.std.proofs.lemmas.Bool.{cases_eq, eq-eqb, eqb-true, ne_eqb}
use Rattle.std.proofs.lemmas.List.{get_or-set_same, get_or-set_other, get_or_read}
use Rattle.lab_base.specs.Names.{same_name}
use Rattle.phys_lab.specs.declared.parts.Iface.{Iface}
use Rattle.lab_model.specs.Uses.{no_iface}
use Rattle.solution_text.specs.Names.{next_on}
use Rattle.solution_text.proofs.NodeLists.{next_here, next_later, next_none, next_within, next_passes, skipped, stands_here, stands_later}
use Rattle.solution_text.proofs.Places.{none_behind, from_first}

-- it is of that node
abbrev of_node : ℕ → Iface → Bool
of_node node i = eqb node i.node.0

-- it is of that node, and has that name
abbrev pub of_name : ℕ → List ℕ → Iface → Bool
of_name node name i = eqb node i.node.0 && same_name name i.name

narrower : (node : ℕ) (name : List ℕ) (i : Iface) → of_node node i ≡ false → of_name node name i ≡ false
narrower node name i other = ap (λ (b : Bool). b && same_name name i.name) other

-- THE LISTS, FROM THE LAST INTERFACE ON

pub first_none : (xs : List Iface) (node n : ℕ) → n ≡ length xs → next_on xs node n ≡ length xs
first_none xs node n end = next_none (of_node node) xs n end

-- one interface more at the front is the first of its own node, and changes nothing for others
pub first_more : (xs : List Iface) (first : List ℕ) (k n : ℕ) (x : Iface) → n ≡ k + 1 → k < length xs → x ≡ get_or xs k x → x.node.0 < length first
    → ((node : ℕ) → node < length first → get_or first node 0 ≡ next_on xs node n) → (node : ℕ) → node < length first → get_or (set first x.node.0 k) node 0 ≡ next_on xs node k
first_more xs first k n x one lt is own before node within = elim (cases_eq node x.node.0) [
  | inl same ↦
      let yes : of_node node (get_or xs k x) ≡ true = ap (λ (i : Iface). of_node node i) (sym is) ∙ eq-eqb node x.node.0 same in
      let set_so : get_or (set first x.node.0 k) node 0 ≡ k = ap (λ (m : ℕ). get_or (set first x.node.0 k) m 0) same ∙ get_or-set_same first x.node.0 k 0 own in
      set_so ∙ sym (next_here (of_node node) xs k x lt yes)
  | inr other ↦
      let no : of_node node (get_or xs k x) ≡ false = ap (λ (i : Iface). of_node node i) (sym is) ∙ ne_eqb node x.node.0 other in
      get_or-set_other first x.node.0 node k 0 other ∙ before node within ∙ ap (λ (m : ℕ). next_on xs node m) one ∙ sym (next_later (of_node node) xs k x lt no)
]

-- after it stands what was the first of its node
pub next_more : (xs : List Iface) (nexts : List ℕ) (k n now : ℕ) (x : Iface) → n ≡ k + 1 → k < length xs → x ≡ get_or xs k x → k < length nexts → now ≡ next_on xs x.node.0 n
    → ((i : ℕ) → n ≤ i → i < length xs → get_or nexts i 0 ≡ next_on xs (get_or xs i no_iface).node.0 (i + 1))
    → (i : ℕ) → k ≤ i → i < length xs → get_or (set nexts k now) i 0 ≡ next_on xs (get_or xs i no_iface).node.0 (i + 1)
next_more xs nexts k n now x one lt is own was before i le within = elim (cases_eq i k) [
  | inl same ↦
      let read : x ≡ get_or xs i no_iface = get_or_read xs k x lt is no_iface ∙ ap (λ (m : ℕ). get_or xs m no_iface) (sym same) in
      let set_so : get_or (set nexts k now) i 0 ≡ now = ap (λ (m : ℕ). get_or (set nexts k now) m 0) same ∙ get_or-set_same nexts k now 0 own in
      let next : n ≡ i + 1 = omega (arith, one, same) in
      set_so ∙ was ∙ (λ j. next_on xs (read j).node.0 (next j))
  | inr other ↦ get_or-set_other nexts k i now 0 other ∙ before i (later other) within
]
  where
    later : (i ≡ k → ⊥) → n ≤ i
    later other = omega (arith, one, le, other)

-- ONE INTERFACE OF A NODE AFTER ANOTHER

-- no interface before that number has the name, and at that number there is one of the node, or none at all
pub record IsSought (xs : List Iface) (node : ℕ) (name : List ℕ) (n : ℕ) : Type 0 where
  pub later : position (of_name node name) xs ≡ position_from (of_name node name) n (drop n xs)
  pub here : n < length xs → of_node node (get_or xs n no_iface) ≡ true
  pub within : n ≤ length xs

sought_from : (xs : List Iface) (node : ℕ) (name : List ℕ) (n m : ℕ) → n ≤ length xs → position (of_name node name) xs ≡ position_from (of_name node name) n (drop n xs) → m ≡ next_on xs node n → IsSought xs node name m
sought_from xs node name n m le so is = record {
  later = so ∙ skipped (of_name node name) (of_node node) (narrower node name) xs n ∙ ap (λ (k : ℕ). position_from (of_name node name) k (drop k xs)) (sym is);
  here = λ lt. ap (λ (k : ℕ). of_node node (get_or xs k no_iface)) is ∙ next_passes (of_node node) xs n no_iface (omega (arith, lt, is));
  within = omega (arith, is, next_within (of_node node) xs n le);
}

pub sought_first : (xs : List Iface) (node : ℕ) (name : List ℕ) (m : ℕ) → m ≡ next_on xs node 0 → IsSought xs node name m
sought_first xs node name m is = sought_from xs node name 0 m (omega arith) (sym (from_first (of_name node name) xs 0 refl)) is

pub sought_next : (xs : List Iface) (node : ℕ) (name : List ℕ) (n m : ℕ) → IsSought xs node name n → n < length xs → same_name name (get_or xs n no_iface).name ≡ false
    → m ≡ next_on xs (get_or xs n no_iface).node.0 (n + 1) → IsSought xs node name m
sought_next xs node name n m so lt other is =
    let own : node ≡ (get_or xs n no_iface).node.0 = eqb-true node _ (so.here lt) in
    let no : of_name node name (get_or xs n no_iface) ≡ false = (λ i. so.here lt i && other i) in
    sought_from xs node name (n + 1) m (omega (arith, lt)) (so.later ∙ stands_later (of_name node name) xs n no_iface lt no) (is ∙ ap (λ (k : ℕ). next_on xs k (n + 1)) (sym own))

pub sought_found : (xs : List Iface) (node : ℕ) (name : List ℕ) (n : ℕ) → IsSought xs node name n → n < length xs → same_name name (get_or xs n no_iface).name ≡ true → position (of_name node name) xs ≡ Some n
sought_found xs node name n so lt same =
    so.later ∙ stands_here (of_name node name) xs n no_iface lt (λ i. so.here lt i && same i)

pub sought_none : (xs : List Iface) (node : ℕ) (name : List ℕ) (n : ℕ) → IsSought xs node name n → length xs ≤ n → position (of_name node name) xs ≡ None
sought_none xs node name n so le = so.later ∙ none_behind (of_name node name) xs n le
