-- Tables tell the rows of a switch.
use Rattle.std.proofs.Common.{◌≡◌, ◌<◌, inl, inr, ℕ, Bool, true, false, List, [], Option, Some, None, nat_cmp, Ordering, Less, Equal, Greater, refl, sym, ap, ◌∙◌, subst, arith}
use Rattle.std.specs.Prelude.{◌↔◌, ◌==◌, ◌&&◌, nat_eq, nat_le, option_map, slice_get, if◌then◌else◌}
use Rattle.std.specs.Cmp.{both_tied, ranks, unsigned_ties}
use Rattle.std.specs.List.{filter_map, list_all}
use Rattle.std.specs.List.Retain.{IsFiltered, DiffersFromLast}
use Rattle.std.specs.List.Sorted.{IsPermutation, IsSorted}
use Rattle.std.specs.Ordering.{MatchOrdering, ordering_then}
use Rattle.std.specs.Str.{bytes_eq}
use Rattle.std.proofs.lemmas.Bool.{and_parts, and_from, eqb-true, eq-eqb, leb-true}
use Rattle.std.proofs.lemmas.Cmp.{nat_cmp_total, nat_eq_equiv, on_total, then_total, on_equiv, and_equiv}
use Rattle.std.proofs.lemmas.Option.{same_Some}
use Rattle.lab_base.specs.declared.ids.VlanId.{VlanId}
use Rattle.lab_base.specs.Lists.{Has}
use Rattle.lab_base.specs.Names.{is_name}
use Rattle.lab_base.proofs.Members.{any_has, any_from, all_has}
use Rattle.plant.specs.Readings.{IsBefore, IsEntry, IsListOf, IsNth, RowsFit, TellsRow}
use Rattle.plant.specs.Readings as readings
use Rattle.plant.proofs.Fronts.{nth_of}
use Rattle.plant.proofs.Orders.{entries}
use Rattle.plant_file.specs.declared.entry.Entry.{Entry}
use Rattle.plant_file.specs.declared.entry.Entry.TheVariants.{Row, Bare, Node, Pipe}
use Rattle.plant_file.specs.Entries.{is_row}
use Rattle.plant_file.specs.Holding.{world_in}
use Rattle.plant_file.specs.OnDevices.{pair_on}
use Rattle.plant_file.specs.Printable.{is_printable}
use Rattle.plant_file.proofs.SortedLists.{list_of, given_has, has_given}

abbrev pub pair_cmp : ℕ × ℕ → ℕ × ℕ → Ordering
pair_cmp x y = ordering_then (nat_cmp x.0 y.0) (nat_cmp x.1 y.1)

abbrev pub pair_eq : ℕ × ℕ → ℕ × ℕ → Bool
pair_eq x y = nat_eq x.0 y.0 && nat_eq x.1 y.1

pair_same : (x y : ℕ × ℕ) → pair_eq x y ≡ true → x ≡ y
pair_same x y is = let p = and_parts (nat_eq x.0 y.0) (nat_eq x.1 y.1) is in λ i. (eqb-true x.0 y.0 p.0 i, eqb-true x.1 y.1 p.1 i)

pair_less : (x y : ℕ × ℕ) → pair_cmp x y ≡ Less → IsBefore x y
pair_less x y is = by (nat_cmp x.0 y.0) refl (nat_cmp x.1 y.1) refl is
  where
    by : (a : Ordering) → nat_cmp x.0 y.0 ≡ a → (b : Ordering) → nat_cmp x.1 y.1 ≡ b → ordering_then a b ≡ Less → IsBefore x y
    by Less first b second is = inl (subst (λ (r : Ordering). MatchOrdering r (x.0 < y.0) (x.0 ≡ y.0) (y.0 < x.0)) first (ranks x.0 y.0))
    by Equal first Less second is = inr (
      subst (λ (r : Ordering). MatchOrdering r (x.0 < y.0) (x.0 ≡ y.0) (y.0 < x.0)) first (ranks x.0 y.0),
      subst (λ (r : Ordering). MatchOrdering r (x.1 < y.1) (x.1 ≡ y.1) (y.1 < x.1)) second (ranks x.1 y.1),
    )
    by Equal first Equal second is = absurd (cc is)
    by Equal first Greater second is = absurd (cc is)
    by Greater first b second is = absurd (cc is)

-- the pair of a row, and the row of a pair
row_given : (switch : List ℕ) (entry : Entry) (e : ℕ × ℕ) → pair_on switch entry ≡ Some e → is_row switch e.0 e.1 entry ≡ true
row_given switch (Row own port vlan) e is = by (bytes_eq own switch) refl is
  where
    by : (b : Bool) → bytes_eq own switch ≡ b → (if b then Some (port, vlan.0) else None) ≡ Some e → (bytes_eq own switch && (port == e.0) && (vlan.0 == e.1)) ≡ true
    by true on is = let same = same_Some (port, vlan.0) e is in
        and_from _ _ (and_from _ _ on (eq-eqb port e.0 (ap (λ (p : ℕ × ℕ). p.0) same))) (eq-eqb vlan.0 e.1 (ap (λ (p : ℕ × ℕ). p.1) same))
    by false on is = absurd (cc is)
row_given switch (Bare node state) e is = absurd (cc is)
row_given switch (Node node state os) e is = absurd (cc is)
row_given switch (Pipe node number from to there back) e is = absurd (cc is)

given_row : (switch : List ℕ) (entry : Entry) (e : ℕ × ℕ) → is_row switch e.0 e.1 entry ≡ true → pair_on switch entry ≡ Some e
given_row switch (Row own port vlan) e is =
    let p = and_parts (bytes_eq own switch && (port == e.0)) (vlan.0 == e.1) is in
    let q = and_parts (bytes_eq own switch) (port == e.0) p.0 in
    ap (λ (b : Bool). let o : Option (ℕ × ℕ) = if b then Some (port, vlan.0) else None in o) q.0 ∙ (λ i. Some (eqb-true port e.0 q.1 i, eqb-true vlan.0 e.1 p.1 i))
given_row switch (Bare node state) e is = absurd (cc is)
given_row switch (Node node state os) e is = absurd (cc is)
given_row switch (Pipe node number from to there back) e is = absurd (cc is)

rows_exact : (switch : List ℕ) (tables : List Entry) (e : ℕ × ℕ) → Has (filter_map (pair_on switch) tables) e ↔ IsEntry (world_in tables) switch e
rows_exact switch tables e = (
  (λ has. let g = given_has (pair_on switch) tables e has in any_has (is_row switch e.0 e.1) tables g.0 g.1 (row_given switch g.0 e g.2)),
  (λ is. let g = any_from (is_row switch e.0 e.1) tables is in has_given (pair_on switch) tables g.0 e g.1 (given_row switch g.0 e g.2)),
)

-- THE ROWS OF A SWITCH, sorted and freed of repeats
pub rows_are : (switch : List ℕ) (tables : List Entry) (raw sorted left : List (ℕ × ℕ)) → raw ≡ filter_map (pair_on switch) tables → IsPermutation raw sorted → IsSorted pair_cmp sorted → IsFiltered (DiffersFromLast pair_eq) [] sorted left
    → IsListOf IsBefore (IsEntry (world_in tables) switch) left
rows_are switch tables raw sorted left is permuted in_order filtered =
    list_of (then_total (on_total (λ (p : ℕ × ℕ). p.0) nat_cmp_total) (on_total (λ (p : ℕ × ℕ). p.1) nat_cmp_total))
    (and_equiv (on_equiv (λ (p : ℕ × ℕ). p.0) nat_eq_equiv) (on_equiv (λ (p : ℕ × ℕ). p.1) nat_eq_equiv))
    (λ x y. both_tied _ _ (nat_cmp x.0 y.0) (nat_cmp x.1 y.1) (unsigned_ties x.0 y.0) (unsigned_ties x.1 y.1))
    pair_same IsBefore pair_less (IsEntry (world_in tables) switch) raw sorted left permuted in_order filtered
    (subst (λ (l : List (ℕ × ℕ)). (e : ℕ × ℕ) → Has l e ↔ IsEntry (world_in tables) switch e) (sym is) (rows_exact switch tables))

-- they fit their types
pub rows_fit : (switch : List ℕ) (tables : List Entry) → list_all is_printable tables ≡ true → RowsFit (world_in tables) switch
rows_fit switch tables printable e is = let g = any_from (is_row switch e.0 e.1) tables is in fits g.0 g.2 (all_has is_printable tables g.0 printable g.1)
  where
    fits : (entry : Entry) → is_row switch e.0 e.1 entry ≡ true → is_printable entry ≡ true → (e.0 < 65536) × (e.1 < 65536)
    fits (Row own port vlan) is prints =
        let p = and_parts (bytes_eq own switch && (port == e.0)) (vlan.0 == e.1) is in
        let q = and_parts (bytes_eq own switch) (port == e.0) p.0 in
        let r = and_parts (is_name own) (nat_le port 65535 && nat_le vlan.0 65535) prints in
        let s = and_parts (nat_le port 65535) (nat_le vlan.0 65535) r.1 in
        (omega (arith, eqb-true port e.0 q.1, leb-true port 65535 s.0), omega (arith, eqb-true vlan.0 e.1 p.1, leb-true vlan.0 65535 s.1))
    fits (Bare node state) is prints = absurd (cc is)
    fits (Node node state os) is prints = absurd (cc is)
    fits (Pipe node number from to there back) is prints = absurd (cc is)

-- the nth of them
pub row_told : (switch : List ℕ) (tables : List Entry) (rows : List (ℕ × ℕ)) (nth : ℕ) (found : Option (ℕ × VlanId)) → IsListOf IsBefore (IsEntry (world_in tables) switch) rows → option_map readings.entry_of found ≡ slice_get rows nth
    → TellsRow (world_in tables) switch nth found
row_told switch tables rows nth found are is = subst (λ (o : Option (ℕ × ℕ)). IsNth IsBefore (IsEntry (world_in tables) switch) nth o) (sym is) (nth_of IsBefore entries (IsEntry (world_in tables) switch) rows nth are)
