-- The table of rows after a command.
use Rattle.std.proofs.Common.{◌≡◌, ◌⊎◌, inl, inr, ℕ, zero, suc, ◌<◌, ◌≤◌, Bool, true, false, List, [], ◌∷◌, length, map, Option, Some, None, Ok, Err, refl, sym, ap, ◌∙◌, subst, arith, if◌then◌else◌}
use Rattle.std.specs.Prelude.{◌↔◌, ◌==◌, ◌&&◌, ◌||◌, not, nat_lt, insert, remove, option_map, slice_get}
use Rattle.std.specs.List.{list_all, list_any, cons_option}
use Rattle.std.specs.Str.{bytes_eq}
use Rattle.std.proofs.lemmas.Bool.{and_parts, and_from, or_cases, or_left, or_right, eqb-true, eq-eqb, ltb-true, lt-ltb, true≢false, false≢true}
use Rattle.std.proofs.lemmas.Slice.Eq.{bytes_eq-Decides}
use Rattle.lab_base.specs.declared.ids.VlanId.{VlanId}
use Rattle.lab_base.specs.Lists.{Has, Apart}
use Rattle.lab_base.proofs.Tests.{same_tests}
use Rattle.plant.specs.Events.{Event, Did}
use Rattle.plant.specs.Worlds.{World, is_row, after_op, world_of, world_after}
use Rattle.plant.specs.declared.device.Answer.{Answer}
use Rattle.plant.specs.declared.device.Fault.{Fault}
use Rattle.plant.specs.declared.device.DeviceOp.{DeviceOp}
use Rattle.plant.specs.declared.device.DeviceOp.TheVariants.{Join, Leave}
use Rattle.plant_mem.specs.declared.rows.Row.{Row}
use Rattle.plant_mem.specs.RowTables.{AreRows, are_ordered, entries_on, entry_of, index, is_earlier, is_fit, is_ordered, is_same, joined, left, index_for, placed, row_of}
use Rattle.plant.specs.Readings.{IsBefore, IsEntry, IsListOf, IsNth, TellsRow}
use Rattle.plant.specs.Readings as readings
use Rattle.plant.proofs.Fronts.{nth_of}
use Rattle.plant.proofs.Orders.{entries}

-- a row comes before another one of its switch
abbrev IsEarlier : Row → Row → Type 0
IsEarlier a b = a.switch ≡ b.switch → IsBefore (entry_of a) (entry_of b)

-- the table has the rows that stand, by its elements
record Standing (w : World) (rows : List Row) : Type 0 where
  pub rising : Apart IsEarlier rows
  pub exact : (r : Row) → Has rows r ↔ (w.rows (row_of r) ≡ true)
  pub fit : (r : Row) → Has rows r → (r.port < 65536) × (r.vlan.0 < 65536)

-- the tests of rows
same_is : (a b : Row) → is_same a b ≡ true → a ≡ b
same_is a b is =
    let p = and_parts (bytes_eq a.switch b.switch) ((a.port == b.port) && (a.vlan.0 == b.vlan.0)) is in
    let q = and_parts (a.port == b.port) (a.vlan.0 == b.vlan.0) p.1 in
    λ i. record { switch = (bytes_eq-Decides a.switch b.switch).0 p.0 i; port = eqb-true a.port b.port q.0 i; vlan = record { 0 = eqb-true a.vlan.0 b.vlan.0 q.1 i } }

is_same_as : (a b : Row) → a ≡ b → is_same a b ≡ true
is_same_as a b e = and_from _ _ ((bytes_eq-Decides a.switch b.switch).1 (ap (λ (r : Row). r.switch) e)) (and_from _ _ (eq-eqb a.port b.port (ap (λ (r : Row). r.port) e)) (eq-eqb a.vlan.0 b.vlan.0 (ap (λ (r : Row). r.vlan.0) e)))

earlier_is : (a b : Row) → is_earlier a b ≡ true → (a.switch ≡ b.switch) × IsBefore (entry_of a) (entry_of b)
earlier_is a b is =
    let p = and_parts (bytes_eq a.switch b.switch) (nat_lt a.port b.port || ((a.port == b.port) && nat_lt a.vlan.0 b.vlan.0)) is in (
      (bytes_eq-Decides a.switch b.switch).0 p.0,
      elim (or_cases (nat_lt a.port b.port) ((a.port == b.port) && nat_lt a.vlan.0 b.vlan.0) p.1) [
        | inl h ↦ inl (ltb-true a.port b.port h)
        | inr h ↦ let q = and_parts (a.port == b.port) (nat_lt a.vlan.0 b.vlan.0) h in inr (eqb-true a.port b.port q.0, ltb-true a.vlan.0 b.vlan.0 q.1)
      ],
    )

is_earlier_by : (a b : Row) → a.switch ≡ b.switch → IsBefore (entry_of a) (entry_of b) → is_earlier a b ≡ true
is_earlier_by a b e (inl h) = and_from _ _ ((bytes_eq-Decides a.switch b.switch).1 e) (or_left _ _ (lt-ltb a.port b.port h))
is_earlier_by a b e (inr h) = and_from _ _ ((bytes_eq-Decides a.switch b.switch).1 e) (or_right _ _ (and_from _ _ (eq-eqb a.port b.port h.0) (lt-ltb a.vlan.0 b.vlan.0 h.1)))

-- the row at its place
pub at_place : (row : Row) (rows : List Row) → insert rows (index_for row rows) row ≡ placed row rows
at_place row [] = refl
at_place row (other ∷ rows) = by (is_earlier row other) (at_place row rows)
  where
    by : (test : Bool) → insert rows (index_for row rows) row ≡ placed row rows → insert (other ∷ rows) (if test then 0 else suc (index_for row rows)) row ≡ (if test then row ∷ other ∷ rows else other ∷ placed row rows)
    by true rest = refl
    by false rest = ap (λ (l : List Row). other ∷ l) rest

pub place_within : (row : Row) (rows : List Row) → index_for row rows ≤ length rows
place_within row [] = omega arith
place_within row (other ∷ rows) = by (is_earlier row other) (place_within row rows)
  where
    by : (test : Bool) → index_for row rows ≤ length rows → (if test then 0 else suc (index_for row rows)) ≤ length (other ∷ rows)
    by true rest = omega arith
    by false rest = omega (arith, rest)

has_placed : (row : Row) (rows : List Row) (x : Row) → Has (placed row rows) x → (row ≡ x) ⊎ Has rows x
has_placed row [] x (inl e) = inl e
has_placed row [] x (inr h) = absurd h
has_placed row (other ∷ rows) x h = by (is_earlier row other) (λ g. has_placed row rows x g) h
  where
    by : (test : Bool) → (Has (placed row rows) x → (row ≡ x) ⊎ Has rows x) → Has (if test then row ∷ other ∷ rows else other ∷ placed row rows) x → (row ≡ x) ⊎ Has (other ∷ rows) x
    by true rest (inl e) = inl e
    by true rest (inr g) = inr g
    by false rest (inl e) = inr (inl e)
    by false rest (inr g) = elim (rest g) [ inl e ↦ inl e | inr k ↦ inr (inr k) ]

placed_has : (row : Row) (rows : List Row) (x : Row) → (row ≡ x) ⊎ Has rows x → Has (placed row rows) x
placed_has row [] x (inl e) = inl e
placed_has row [] x (inr h) = absurd h
placed_has row (other ∷ rows) x h = by (is_earlier row other) (λ g. placed_has row rows x g) h
  where
    by : (test : Bool) → ((row ≡ x) ⊎ Has rows x → Has (placed row rows) x) → (row ≡ x) ⊎ Has (other ∷ rows) x → Has (if test then row ∷ other ∷ rows else other ∷ placed row rows) x
    by true rest (inl e) = inl e
    by true rest (inr g) = inr g
    by false rest (inl e) = inr (rest (inl e))
    by false rest (inr (inl e)) = inl e
    by false rest (inr (inr g)) = inr (rest (inr g))

placed_rises : (row : Row) (rows : List Row) → Apart IsEarlier rows → (Has rows row → ⊥) → Apart IsEarlier (placed row rows)
placed_rises row [] r none = ((λ y h. absurd h), tt)
placed_rises row (other ∷ rows) r none = by (is_earlier row other) refl (placed_rises row rows r.1 (λ h. none (inr h)))
  where
    later : is_earlier row other ≡ false → IsEarlier other row
    later isnt e = elim (entries.total (entry_of other) (entry_of row)) [
      | inl h ↦ h
      | inr h ↦ elim h [
        | inl d ↦ absurd (none (inl (λ i. record { switch = e i; port = (d i).0; vlan = record { 0 = (d i).1 } })))
        | inr g ↦ absurd (true≢false (sym (is_earlier_by row other (sym e) g) ∙ isnt))
      ]
    ]

    by : (test : Bool) → is_earlier row other ≡ test → Apart IsEarlier (placed row rows) → Apart IsEarlier (if test then row ∷ other ∷ rows else other ∷ placed row rows)
    by true is behind =
        let first = earlier_is row other is in (
          (λ y h e. elim h [
            | inl d ↦ subst (λ (v : Row). IsBefore (entry_of row) (entry_of v)) d first.1
            | inr g ↦ entries.on (entry_of row) (entry_of other) (entry_of y) first.1 (r.0 y g (sym first.0 ∙ e))
          ]),
          r,
        )
    by false is behind = (
      (λ y h. elim (has_placed row rows y h) [
        | inl e ↦ subst (λ (v : Row). IsEarlier other v) e (later is)
        | inr g ↦ r.0 y g
      ]),
      behind,
    )

-- some row passes the test of being that one, where the table has it
any_same : (row : Row) (rows : List Row) → list_any (is_same row) rows ≡ true → Has rows row
any_same row [] is = absurd (false≢true is)
any_same row (other ∷ rows) is = elim (or_cases (is_same row other) (list_any (is_same row) rows) is) [
  | inl h ↦ inl (sym (same_is row other h))
  | inr h ↦ inr (any_same row rows h)
]

same_any : (row : Row) (rows : List Row) → Has rows row → list_any (is_same row) rows ≡ true
same_any row [] h = absurd h
same_any row (other ∷ rows) (inl e) = or_left _ _ (is_same_as row other (sym e))
same_any row (other ∷ rows) (inr h) = or_right _ _ (same_any row rows h)

-- the table without a row
pub at_index : (row : Row) (rows : List Row) → index row rows < length rows → remove rows (index row rows) ≡ left row rows
at_index row [] lt = absurd (omega (arith, lt))
at_index row (other ∷ rows) lt = by (is_same row other) lt (λ less. at_index row rows less)
  where
    by : (test : Bool) → (if test then 0 else suc (index row rows)) < length (other ∷ rows) → (index row rows < length rows → remove rows (index row rows) ≡ left row rows)
        → remove (other ∷ rows) (if test then 0 else suc (index row rows)) ≡ (if test then rows else other ∷ left row rows)
    by true lt' rest = refl
    by false lt' rest = ap (λ (l : List Row). other ∷ l) (rest (omega (arith, lt')))

pub not_there : (row : Row) (rows : List Row) → length rows ≤ index row rows → left row rows ≡ rows
not_there row [] le = refl
not_there row (other ∷ rows) le = by (is_same row other) le (λ less. not_there row rows less)
  where
    by : (test : Bool) → length (other ∷ rows) ≤ (if test then 0 else suc (index row rows)) → (length rows ≤ index row rows → left row rows ≡ rows) → (if test then rows else other ∷ left row rows) ≡ other ∷ rows
    by true le' rest = absurd (omega (arith, le'))
    by false le' rest = ap (λ (l : List Row). other ∷ l) (rest (omega (arith, le')))

left_has : (row : Row) (rows : List Row) (x : Row) → Has (left row rows) x → Has rows x
left_has row [] x h = absurd h
left_has row (other ∷ rows) x h = by (is_same row other) (λ g. left_has row rows x g) h
  where
    by : (test : Bool) → (Has (left row rows) x → Has rows x) → Has (if test then rows else other ∷ left row rows) x → Has (other ∷ rows) x
    by true rest g = inr g
    by false rest (inl e) = inl e
    by false rest (inr g) = inr (rest g)

left_other : (row : Row) (rows : List Row) → Apart IsEarlier rows → Has (left row rows) row → ⊥
left_other row [] r h = absurd h
left_other row (other ∷ rows) r h = by (is_same row other) refl (λ g. left_other row rows r.1 g) h
  where
    by : (test : Bool) → is_same row other ≡ test → (Has (left row rows) row → ⊥) → Has (if test then rows else other ∷ left row rows) row → ⊥
    by true is rest g = let e = same_is row other is in entries.never (entry_of row) (subst (λ (v : Row). IsBefore (entry_of v) (entry_of row)) (sym e) (r.0 row g (ap (λ (v : Row). v.switch) (sym e))))
    by false is rest (inl e) = true≢false (sym (is_same_as row other (sym e)) ∙ is)
    by false is rest (inr g) = rest g

has_left : (row : Row) (rows : List Row) (x : Row) → Has rows x → (row ≡ x → ⊥) → Has (left row rows) x
has_left row [] x h other_one = absurd h
has_left row (other ∷ rows) x h other_one = by (is_same row other) refl (λ g. has_left row rows x g other_one) h
  where
    by : (test : Bool) → is_same row other ≡ test → (Has rows x → Has (left row rows) x) → Has (other ∷ rows) x → Has (if test then rows else other ∷ left row rows) x
    by true is rest (inl e) = absurd (other_one (same_is row other is ∙ e))
    by true is rest (inr g) = g
    by false is rest (inl e) = inl e
    by false is rest (inr g) = inr (rest g)

left_rises : (row : Row) (rows : List Row) → Apart IsEarlier rows → Apart IsEarlier (left row rows)
left_rises row [] r = tt
left_rises row (other ∷ rows) r = by (is_same row other) (left_rises row rows r.1)
  where
    by : (test : Bool) → Apart IsEarlier (left row rows) → Apart IsEarlier (if test then rows else other ∷ left row rows)
    by true rest = r.1
    by false rest = ((λ y h. r.0 y (left_has row rows y h)), rest)

-- that row, as a test of the world
abbrev row_named : List ℕ → ℕ → VlanId → Row
row_named switch port vlan = record { switch = switch; port = port; vlan = vlan }

is_row_same : (switch : List ℕ) (port : ℕ) (vlan : VlanId) (r : Row) → is_row switch port vlan.0 (row_of r) ≡ true → row_named switch port vlan ≡ r
is_row_same switch port vlan r is =
    let p = and_parts (bytes_eq r.switch switch && (r.port == port)) (r.vlan.0 == vlan.0) is in
    let q = and_parts (bytes_eq r.switch switch) (r.port == port) p.0 in
    λ i. record { switch = sym ((bytes_eq-Decides r.switch switch).0 q.0) i; port = sym (eqb-true r.port port q.1) i; vlan = record { 0 = sym (eqb-true r.vlan.0 vlan.0 p.1) i } }

same_is_row : (switch : List ℕ) (port : ℕ) (vlan : VlanId) (r : Row) → row_named switch port vlan ≡ r → is_row switch port vlan.0 (row_of r) ≡ true
same_is_row switch port vlan r e = and_from _ _ (and_from _ _ ((bytes_eq-Decides r.switch switch).1 (ap (λ (v : Row). v.switch) (sym e))) (eq-eqb r.port port (ap (λ (v : Row). v.port) (sym e)))) (eq-eqb r.vlan.0 vlan.0 (ap (λ (v : Row). v.vlan.0) (sym e)))

not_from : (b : Bool) → (b ≡ true → ⊥) → not b ≡ true
not_from true never = absurd (never refl)
not_from false never = refl

from_not : (b : Bool) → not b ≡ true → (b ≡ true → ⊥)
from_not true is = λ yes. true≢false (sym is)
from_not false is = λ yes. true≢false (sym yes)

-- THE TABLE BY TESTS, and by its elements
all_has : (p : Row → Bool) (rows : List Row) → list_all p rows ≡ true → (x : Row) → Has rows x → p x ≡ true
all_has p [] is x h = absurd h
all_has p (row ∷ rows) is x (inl e) = ap p (sym e) ∙ (and_parts (p row) (list_all p rows) is).0
all_has p (row ∷ rows) is x (inr h) = all_has p rows (and_parts (p row) (list_all p rows) is).1 x h

has_all : (p : Row → Bool) (rows : List Row) → ((x : Row) → Has rows x → p x ≡ true) → list_all p rows ≡ true
has_all p [] each = refl
has_all p (row ∷ rows) each = and_from _ _ (each row (inl refl)) (has_all p rows (λ x h. each x (inr h)))

ordered_is : (a b : Row) → is_ordered a b ≡ true → IsEarlier a b
ordered_is a b is e = elim (or_cases (not (bytes_eq a.switch b.switch)) (is_earlier a b) is) [
  | inl apart ↦ absurd (from_not (bytes_eq a.switch b.switch) apart ((bytes_eq-Decides a.switch b.switch).1 e))
  | inr h ↦ (earlier_is a b h).1
]

is_ordered_by : (a b : Row) → IsEarlier a b → is_ordered a b ≡ true
is_ordered_by a b earlier = by (bytes_eq a.switch b.switch) refl
  where
    by : (test : Bool) → bytes_eq a.switch b.switch ≡ test → is_ordered a b ≡ true
    by true is = or_right _ _ (let e = (bytes_eq-Decides a.switch b.switch).0 is in is_earlier_by a b e (earlier e))
    by false is = or_left _ _ (ap not is)

rising_from : (rows : List Row) → are_ordered rows ≡ true → Apart IsEarlier rows
rising_from [] is = tt
rising_from (row ∷ rows) is =
    let p = and_parts (list_all (is_ordered row) rows) (are_ordered rows) is in
    ((λ y h. ordered_is row y (all_has (is_ordered row) rows p.0 y h)), rising_from rows p.1)

rising_to : (rows : List Row) → Apart IsEarlier rows → are_ordered rows ≡ true
rising_to [] r = refl
rising_to (row ∷ rows) r = and_from _ _ (has_all (is_ordered row) rows (λ y h. is_ordered_by row y (r.0 y h))) (rising_to rows r.1)

standing_of : (w : World) (rows : List Row) → AreRows w rows → Standing w rows
standing_of w rows a = record {
  rising = rising_from rows a.rising;
  exact = λ r. ((λ h. sym (a.exact r) ∙ same_any r rows h), (λ s. any_same r rows (a.exact r ∙ s)));
  fit = λ r h.
      let p = and_parts (nat_lt r.port 65536) (nat_lt r.vlan.0 65536) (all_has is_fit rows a.fit r h) in
      (ltb-true r.port 65536 p.0, ltb-true r.vlan.0 65536 p.1);
}

are_rows : (w : World) (rows : List Row) → Standing w rows → AreRows w rows
are_rows w rows a = record {
  rising = rising_to rows a.rising;
  exact = λ r. same_tests (list_any (is_same r) rows) (w.rows (row_of r)) (λ h. (a.exact r).0 (any_same r rows h)) (λ s. same_any r rows ((a.exact r).1 s));
  fit = has_all is_fit rows (λ r h. let f = a.fit r h in and_from _ _ (lt-ltb r.port 65536 f.0) (lt-ltb r.vlan.0 65536 f.1));
}

-- A ROW MORE, and a row less
standing_joined : (w : World) (rows : List Row) (switch : List ℕ) (port : ℕ) (vlan : VlanId) → port < 65536 → vlan.0 < 65536 → Standing w rows
    → Standing (after_op w (Join switch port vlan)) (joined (row_named switch port vlan) rows)
standing_joined w rows switch port vlan port_fits vlan_fits a = by (list_any (is_same row) rows) refl
  where
    row : Row
    row = row_named switch port vlan

    by : (test : Bool) → list_any (is_same row) rows ≡ test → Standing (after_op w (Join switch port vlan)) (if test then rows else placed row rows)
    by true is = record {
      rising = a.rising;
      exact = λ r. (
        (λ h. or_right _ _ ((a.exact r).0 h)),
        (λ s. elim (or_cases (is_row switch port vlan.0 (row_of r)) (w.rows (row_of r)) s) [
          | inl t ↦ subst (λ (v : Row). Has rows v) (is_row_same switch port vlan r t) (any_same row rows is)
          | inr t ↦ (a.exact r).1 t
        ]),
      );
      fit = a.fit;
    }
    by false is = record {
      rising = placed_rises row rows a.rising (λ h. true≢false (sym (same_any row rows h) ∙ is));
      exact = λ r. (
        (λ h. elim (has_placed row rows r h) [
          | inl e ↦ or_left _ _ (same_is_row switch port vlan r e)
          | inr g ↦ or_right _ _ ((a.exact r).0 g)
        ]),
        (λ s. elim (or_cases (is_row switch port vlan.0 (row_of r)) (w.rows (row_of r)) s) [
          | inl t ↦ placed_has row rows r (inl (is_row_same switch port vlan r t))
          | inr t ↦ placed_has row rows r (inr ((a.exact r).1 t))
        ]),
      );
      fit = λ r h. elim (has_placed row rows r h) [
        | inl e ↦ subst (λ (v : Row). (v.port < 65536) × (v.vlan.0 < 65536)) e (port_fits, vlan_fits)
        | inr g ↦ a.fit r g
      ];
    }

standing_left : (w : World) (rows : List Row) (switch : List ℕ) (port : ℕ) (vlan : VlanId) → Standing w rows
    → Standing (after_op w (Leave switch port vlan)) (left (row_named switch port vlan) rows)
standing_left w rows switch port vlan a = record {
  rising = left_rises row rows a.rising;
  exact = λ r. (
    (λ h. and_from _ _ (not_from (is_row switch port vlan.0 (row_of r)) (λ t. left_other row rows a.rising (subst (λ (v : Row). Has (left row rows) v) (sym (is_row_same switch port vlan r t)) h))) ((a.exact r).0 (left_has row rows r h))),
    (λ s. let p = and_parts (not (is_row switch port vlan.0 (row_of r))) (w.rows (row_of r)) s in
        has_left row rows r ((a.exact r).1 p.1) (λ e. from_not (is_row switch port vlan.0 (row_of r)) p.0 (same_is_row switch port vlan r e))),
  );
  fit = λ r h. a.fit r (left_has row rows r h);
}
  where
    row : Row
    row = row_named switch port vlan

pub rows_joined : (w : World) (rows : List Row) (switch : List ℕ) (port : ℕ) (vlan : VlanId) → port < 65536 → vlan.0 < 65536 → AreRows w rows
    → AreRows (after_op w (Join switch port vlan)) (joined (row_named switch port vlan) rows)
rows_joined w rows switch port vlan p v a = are_rows (after_op w (Join switch port vlan)) _ (standing_joined w rows switch port vlan p v (standing_of w rows a))

pub rows_left : (w : World) (rows : List Row) (switch : List ℕ) (port : ℕ) (vlan : VlanId) → AreRows w rows → AreRows (after_op w (Leave switch port vlan)) (left (row_named switch port vlan) rows)
rows_left w rows switch port vlan a = are_rows (after_op w (Leave switch port vlan)) _ (standing_left w rows switch port vlan (standing_of w rows a))

-- THE ROWS OF A SWITCH are all its entries
module _ (w : World) (switch : List ℕ) where
  on_from : (rows : List Row) (e : ℕ × ℕ) → Has (map readings.entry_of (entries_on switch rows)) e → (r : Row) × Has rows r × (r.switch ≡ switch) × (entry_of r ≡ e)
  on_from [] e h = absurd h
  on_from (row ∷ rows) e h = by (bytes_eq row.switch switch) refl (λ g. on_from rows e g) h
    where
      by : (test : Bool) → bytes_eq row.switch switch ≡ test → (Has (map readings.entry_of (entries_on switch rows)) e → (r : Row) × Has rows r × (r.switch ≡ switch) × (entry_of r ≡ e)) → Has (map readings.entry_of (cons_option (if test then Some (row.port, row.vlan) else None) (entries_on switch rows))) e
          → (r : Row) × Has (row ∷ rows) r × (r.switch ≡ switch) × (entry_of r ≡ e)
      by true is rest (inl d) = (row, inl refl, (bytes_eq-Decides row.switch switch).0 is, d)
      by true is rest (inr g) = let k = rest g in (k.0, inr k.1, k.2, k.3)
      by false is rest g = let k = rest g in (k.0, inr k.1, k.2, k.3)

  on_to : (rows : List Row) (r : Row) → Has rows r → r.switch ≡ switch → Has (map readings.entry_of (entries_on switch rows)) (entry_of r)
  on_to [] r h s = absurd h
  on_to (row ∷ rows) r h s = by (bytes_eq row.switch switch) refl (λ g. on_to rows r g s) h
    where
      by : (test : Bool) → bytes_eq row.switch switch ≡ test → (Has rows r → Has (map readings.entry_of (entries_on switch rows)) (entry_of r)) → Has (row ∷ rows) r → Has (map readings.entry_of (cons_option (if test then Some (row.port, row.vlan) else None) (entries_on switch rows))) (entry_of r)
      by true is rest (inl e) = inl (ap entry_of e)
      by true is rest (inr g) = inr (rest g)
      by false is rest (inl e) = absurd (true≢false (sym ((bytes_eq-Decides row.switch switch).1 (ap (λ (v : Row). v.switch) e ∙ s)) ∙ is))
      by false is rest (inr g) = rest g

  on_rises : (rows : List Row) → Apart IsEarlier rows → Apart IsBefore (map readings.entry_of (entries_on switch rows))
  on_rises [] r = tt
  on_rises (row ∷ rows) r = by (bytes_eq row.switch switch) refl (on_rises rows r.1)
    where
      by : (test : Bool) → bytes_eq row.switch switch ≡ test → Apart IsBefore (map readings.entry_of (entries_on switch rows)) → Apart IsBefore (map readings.entry_of (cons_option (if test then Some (row.port, row.vlan) else None) (entries_on switch rows)))
      by true is rest = (
        (λ e h. let k = on_from rows e h in subst (λ (v : ℕ × ℕ). IsBefore (entry_of row) v) k.3 (r.0 k.0 k.1 ((bytes_eq-Decides row.switch switch).0 is ∙ sym k.2))),
        rest,
      )
      by false is rest = rest

  are_entries : (rows : List Row) → Standing w rows → IsListOf IsBefore (IsEntry w switch) (map readings.entry_of (entries_on switch rows))
  are_entries rows a = record {
    rising = on_rises rows a.rising;
    exact = λ e. (
      (λ h. let k = on_from rows e h in
          subst (λ (v : ℕ × ℕ). IsEntry w switch v) k.3 (subst (λ (s : List ℕ). w.rows (record { switch = s; port = k.0.port; vlan = k.0.vlan.0 }) ≡ true) k.2 ((a.exact k.0).0 k.1))),
      (λ s. on_to rows (record { switch = switch; port = e.0; vlan = record { 0 = e.1 } }) ((a.exact (record { switch = switch; port = e.0; vlan = record { 0 = e.1 } })).1 s) refl),
    );
  }

  fitting_by : (rows : List Row) → Standing w rows → (e : ℕ × ℕ) → IsEntry w switch e → (e.0 < 65536) × (e.1 < 65536)
  fitting_by rows a e s = a.fit (record { switch = switch; port = e.0; vlan = record { 0 = e.1 } }) ((a.exact (record { switch = switch; port = e.0; vlan = record { 0 = e.1 } })).1 s)

-- THE TABLE AFTER A STEP: one that is no command, a command that is done, and one that failed
pub rows_still : (trace trace' : List Event) (rows : List Row) → world_of trace' ≡ world_of trace → AreRows (world_of trace) rows → AreRows (world_of trace') rows
rows_still trace trace' rows is a = subst (λ (w : World). AreRows w rows) (sym is) a

same_rows : (w v : World) (rows : List Row) → ((r : Row) → v.rows (row_of r) ≡ w.rows (row_of r)) → AreRows w rows → AreRows v rows
same_rows w v rows same a = record {
  rising = a.rising;
  exact = λ r. a.exact r ∙ sym (same r);
  fit = a.fit;
}

pub rows_done : (trace trace' : List Event) (rows : List Row) (op : DeviceOp) (answer : Answer) → world_of trace' ≡ world_after (world_of trace) (Did op true (Ok answer)) → AreRows (after_op (world_of trace) op) rows → AreRows (world_of trace') rows
rows_done trace trace' rows op answer is a = subst (λ (w : World). AreRows w rows) (sym is) (same_rows (after_op (world_of trace) op) (world_after (world_of trace) (Did op true (Ok answer))) rows (λ r. refl) a)

pub rows_failed : (trace trace' : List Event) (rows : List Row) (op : DeviceOp) (applied : Bool) (fault : Fault) → world_of trace' ≡ world_after (world_of trace) (Did op applied (Err fault))
    → AreRows (if applied then after_op (world_of trace) op else world_of trace) rows → AreRows (world_of trace') rows
rows_failed trace trace' rows op applied fault is a = subst (λ (w : World). AreRows w rows) (sym is) (by applied a)
  where
    by : (b : Bool) → AreRows (if b then after_op (world_of trace) op else world_of trace) rows → AreRows (world_after (world_of trace) (Did op b (Err fault))) rows
    by true b = same_rows (after_op (world_of trace) op) (world_after (world_of trace) (Did op true (Err fault))) rows (λ r. refl) b
    by false b = same_rows (world_of trace) (world_after (world_of trace) (Did op false (Err fault))) rows (λ r. refl) b

-- the nth of the rows of a switch in the table is the nth that stands
get_mapped : {X Y : Type 0} (f : X → Y) (xs : List X) (n : ℕ) → slice_get (map f xs) n ≡ option_map f (slice_get xs n)
get_mapped f [] n = refl
get_mapped f (x ∷ xs) zero = refl
get_mapped f (x ∷ xs) (suc n) = get_mapped f xs n

pub nth_told : (w : World) (switch : List ℕ) (rows : List Row) → AreRows w rows → (nth : ℕ) (found : Option (ℕ × VlanId)) → found ≡ slice_get (entries_on switch rows) nth → TellsRow w switch nth found
nth_told w switch rows a nth found is =
    subst (λ (o : Option (ℕ × ℕ)). IsNth IsBefore (IsEntry w switch) nth o) (get_mapped readings.entry_of (entries_on switch rows) nth ∙ ap (λ (o : Option (ℕ × VlanId)). option_map readings.entry_of o) (sym is))
    (nth_of IsBefore entries (IsEntry w switch) (map readings.entry_of (entries_on switch rows)) nth (are_entries w switch rows (standing_of w rows a)))

pub fitting : (w : World) (switch : List ℕ) (rows : List Row) → AreRows w rows → (e : ℕ × ℕ) → IsEntry w switch e → (e.0 < 65536) × (e.1 < 65536)
fitting w switch rows a = fitting_by w switch rows (standing_of w rows a)
