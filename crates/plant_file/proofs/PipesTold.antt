-- Tables tell the pipes of a node.
use Rattle.std.proofs.Common.{◌≡◌, ◌<◌, ◌≤◌, ◌+◌, inl, inr, ℕ, suc, Bool, true, false, List, [], ◌∷◌, length, Option, Some, None, nat_cmp, Ordering, Less, refl, sym, ap, ◌∙◌, subst, arith}
use Rattle.std.specs.Prelude.{◌↔◌, ◌==◌, ◌&&◌, nat_eq, nat_le, is_some, slice_get, if◌then◌else◌}
use Rattle.std.specs.Cmp.{ranks, unsigned_ties}
use Rattle.std.specs.List.{filter_map, find, list_all}
use Rattle.std.specs.List.Retain.{IsFiltered, DiffersFromLast}
use Rattle.std.specs.List.Sorted.{IsPermutation, IsSorted}
use Rattle.std.specs.Ordering.{MatchOrdering}
use Rattle.std.specs.Str.{bytes_eq}
use Rattle.std.proofs.lemmas.Bool.{and_parts, and_from, eqb-true, eq-eqb, leb-true, true≢false}
use Rattle.std.proofs.lemmas.Cmp.{nat_cmp_total, nat_eq_equiv}
use Rattle.std.proofs.lemmas.Option.{same_Some}
use Rattle.lab_base.specs.Lists.{Has, Apart}
use Rattle.lab_base.specs.Names.{is_name}
use Rattle.lab_base.proofs.Members.{all_has, found_has, Has-slice_get}
use Rattle.plant.specs.Worlds as worlds
use Rattle.line_text.specs.Rates.{are_held}
use Rattle.plant.specs.Readings.{HasPipe, IsListOf, IsNth, PipesFit, TellsPipe, pipe_of}
use Rattle.plant.specs.declared.pipe_row.PipeRow.{PipeRow}
use Rattle.plant.proofs.Fronts.{nth_of}
use Rattle.plant.proofs.Orders.{numbers}
use Rattle.plant_file.specs.declared.entry.Entry.{Entry}
use Rattle.plant_file.specs.declared.entry.Entry.TheVariants.{Row, Bare, Node, Pipe}
use Rattle.plant_file.specs.Entries.{is_pipe}
use Rattle.plant_file.specs.Holding.{node_in, pipe_or_none}
use Rattle.plant_file.specs.OnDevices.{number_on, numbered}
use Rattle.plant_file.specs.Printable.{are_pipe_ends, is_printable}
use Rattle.plant_file.proofs.SortedLists.{list_of, given_has, has_given}

less : (x y : ℕ) → nat_cmp x y ≡ Less → x < y
less x y is = subst (λ (r : Ordering). MatchOrdering r (x < y) (x ≡ y) (y < x)) is (ranks x y)

-- the number of a pipe, and the pipe of a number
pipe_given : (node : List ℕ) (entry : Entry) (k : ℕ) → number_on node entry ≡ Some k → is_pipe node k entry ≡ true
pipe_given name (Pipe node number from to there back) k is = by (bytes_eq node name) refl is
  where
    by : (b : Bool) → bytes_eq node name ≡ b → (if b then Some number else None) ≡ Some k → (bytes_eq node name && (number == k)) ≡ true
    by true on is = and_from _ _ on (eq-eqb number k (same_Some number k is))
    by false on is = absurd (cc is)
pipe_given name (Row switch port vlan) k is = absurd (cc is)
pipe_given name (Bare node state) k is = absurd (cc is)
pipe_given name (Node node state os) k is = absurd (cc is)

given_pipe : (node : List ℕ) (entry : Entry) (k : ℕ) → is_pipe node k entry ≡ true → number_on node entry ≡ Some k
given_pipe name (Pipe node number from to there back) k is =
    let p = and_parts (bytes_eq node name) (number == k) is in
    ap (λ (b : Bool). let o : Option ℕ = if b then Some number else None in o) p.0 ∙ ap Some (eqb-true number k p.1)
given_pipe name (Row switch port vlan) k is = absurd (cc is)
given_pipe name (Bare node state) k is = absurd (cc is)
given_pipe name (Node node state os) k is = absurd (cc is)

-- a pipe that is found is one
pipe_found : (node : List ℕ) (k : ℕ) (found : Option Entry) → ((entry : Entry) → found ≡ Some entry → is_pipe node k entry ≡ true) → is_some (pipe_or_none found) ≡ is_some found
pipe_found node k None are = refl
pipe_found node k (Some (Pipe own number from to there back)) are = refl
pipe_found node k (Some (Row switch port vlan)) are = absurd (let is = are (Row switch port vlan) refl in cc is)
pipe_found node k (Some (Bare own state)) are = absurd (let is = are (Bare own state) refl in cc is)
pipe_found node k (Some (Node own state os)) are = absurd (let is = are (Node own state os) refl in cc is)

found_is : (node : List ℕ) (k : ℕ) (tables : List Entry) → is_some (pipe_or_none (find (is_pipe node k) tables)) ≡ is_some (find (is_pipe node k) tables)
found_is node k tables = pipe_found node k (find (is_pipe node k) tables) (λ entry is. (found_has (is_pipe node k) tables entry is).1)

find_any : {X : Type 0} (test : X → Bool) (xs : List X) (x : X) → Has xs x → test x ≡ true → is_some (find test xs) ≡ true
find_any test [] x has is = absurd has
find_any {X} test (y ∷ ys) x has is = by (test y) refl (find_any test ys x) has
  where
    by : (b : Bool) → test y ≡ b → (Has ys x → test x ≡ true → is_some (find test ys) ≡ true) → Has (y ∷ ys) x → is_some (if b then Some y else find test ys) ≡ true
    by true at rest has = refl
    by false at rest (inl e) = absurd (true≢false (sym is ∙ ap test (sym e) ∙ at))
    by false at rest (inr has) = rest has is

some_is : {X : Type 0} (o : Option X) → is_some o ≡ true → (x : X) × (o ≡ Some x)
some_is None is = absurd (cc is)
some_is (Some x) is = (x, refl)

pipes_exact : (node : List ℕ) (tables : List Entry) (k : ℕ) → Has (filter_map (number_on node) tables) k ↔ HasPipe (node_in tables node) k
pipes_exact node tables k = (
  (λ has. let g = given_has (number_on node) tables k has in found_is node k tables ∙ find_any (is_pipe node k) tables g.0 g.1 (pipe_given node g.0 k g.2)),
  (λ is.
      let g = some_is (find (is_pipe node k) tables) (sym (found_is node k tables) ∙ is) in
      let at = found_has (is_pipe node k) tables g.0 g.1 in
      has_given (number_on node) tables g.0 k at.0 (given_pipe node g.0 k at.1)),
)

-- THE NUMBERS OF A NODE'S PIPES, sorted and freed of repeats
pub numbers_are : (node : List ℕ) (tables : List Entry) (raw sorted left : List ℕ) → raw ≡ filter_map (number_on node) tables → IsPermutation raw sorted → IsSorted nat_cmp sorted → IsFiltered (DiffersFromLast nat_eq) [] sorted left
    → IsListOf ◌<◌ (HasPipe (node_in tables node)) left
numbers_are node tables raw sorted left is permuted in_order filtered =
    list_of nat_cmp_total nat_eq_equiv unsigned_ties (λ x y. eqb-true x y) ◌<◌ less (HasPipe (node_in tables node)) raw sorted left permuted in_order filtered
    (subst (λ (l : List ℕ). (k : ℕ) → Has l k ↔ HasPipe (node_in tables node) k) (sym is) (pipes_exact node tables))

-- they fit their type
pub pipes_fit : (node : List ℕ) (tables : List Entry) → list_all is_printable tables ≡ true → PipesFit (node_in tables node)
pipes_fit node tables printable k is =
    let g = some_is (find (is_pipe node k) tables) (sym (found_is node k tables) ∙ is) in
    let at = found_has (is_pipe node k) tables g.0 g.1 in
    fits g.0 at.1 (all_has is_printable tables g.0 printable at.0)
  where
    fits : (entry : Entry) → is_pipe node k entry ≡ true → is_printable entry ≡ true → k < 65536
    fits (Pipe own number from to there back) is prints =
        let p = and_parts (bytes_eq own node) (number == k) is in
        let r = and_parts (are_pipe_ends own number from to) (are_held there && are_held back) prints in
        let s = and_parts (is_name own) (nat_le number 65535 && (is_name from && is_name to)) r.0 in
        let t = and_parts (nat_le number 65535) (is_name from && is_name to) s.1 in
        omega (arith, eqb-true number k p.1, leb-true number 65535 t.0)
    fits (Row switch port vlan) is prints = absurd (cc is)
    fits (Bare own state) is prints = absurd (cc is)
    fits (Node own state os) is prints = absurd (cc is)

-- numbers that rise from lo and stay below n are no more than that
few : (lo n : ℕ) (xs : List ℕ) → lo ≤ n → Apart ◌<◌ xs → ((x : ℕ) → Has xs x → (lo ≤ x) × (x < n)) → lo + length xs ≤ n
few lo n [] le rises within = omega (arith, le)
few lo n (x ∷ xs) le rises within =
    let first : (lo ≤ x) × (x < n) = within x (inl refl) in
    let later : suc x + length xs ≤ n = few (suc x) n xs (omega (arith, first.1)) rises.1 (λ y h. (omega (arith, rises.0 y h), (within y (inr h)).1)) in
    omega (arith, first.0, later)

pub numbers_few : (row : worlds.NodeRow) (xs : List ℕ) → IsListOf ◌<◌ (HasPipe row) xs → PipesFit row → length xs ≤ 65536
numbers_few row xs are fit = omega (arith, few 0 65536 xs (omega arith) are.rising (λ x has. (omega arith, fit x ((are.exact x).0 has))))

-- the nth of them, with its pipe
numbered_is : (node : List ℕ) (k : ℕ) (found : Option Entry) → is_some (pipe_or_none found) ≡ true → ((entry : Entry) → found ≡ Some entry → is_pipe node k entry ≡ true)
    → (p : PipeRow) × (numbered found ≡ Some p) × (p.pipe ≡ k) × (pipe_or_none found ≡ Some (pipe_of p))
numbered_is node k None has are = absurd (cc has)
numbered_is node k (Some (Pipe own number from to there back)) has are =
    (record { pipe = number; from = from; to = to; there = there; back = back }, refl, eqb-true number k (and_parts (bytes_eq own node) (number == k) (are (Pipe own number from to there back) refl)).1, refl)
numbered_is node k (Some (Row switch port vlan)) has are = absurd (cc has)
numbered_is node k (Some (Bare own state)) has are = absurd (cc has)
numbered_is node k (Some (Node own state os)) has are = absurd (cc has)

pub pipe_told : (node : List ℕ) (tables : List Entry) (all : List ℕ) (nth k : ℕ) (found : Option PipeRow) → IsListOf ◌<◌ (HasPipe (node_in tables node)) all → slice_get all nth ≡ Some k → found ≡ numbered (find (is_pipe node k) tables)
    → TellsPipe (node_in tables node) nth found
pipe_told node tables all nth k found are at is =
    let row = node_in tables node in
    let has : HasPipe row k = (are.exact k).0 (Has-slice_get all nth k at) in
    let p = numbered_is node k (find (is_pipe node k) tables) has (λ entry e. (found_has (is_pipe node k) tables entry e).1) in
    subst (TellsPipe row nth) (sym (is ∙ p.1)) (
      subst (λ (o : Option ℕ). IsNth ◌<◌ (HasPipe row) nth o) (at ∙ ap Some (sym p.2)) (nth_of ◌<◌ numbers (HasPipe row) all nth are),
      ap row.pipes p.2 ∙ p.3,
    )

pub no_pipe_told : (node : List ℕ) (tables : List Entry) (all : List ℕ) (nth : ℕ) → IsListOf ◌<◌ (HasPipe (node_in tables node)) all → slice_get all nth ≡ None → TellsPipe (node_in tables node) nth None
no_pipe_told node tables all nth are at =
    let row = node_in tables node in
    (subst (λ (o : Option ℕ). IsNth ◌<◌ (HasPipe row) nth o) at (nth_of ◌<◌ numbers (HasPipe row) all nth are), tt)
