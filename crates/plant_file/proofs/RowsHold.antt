-- The rows that tables have after a command.
use Rattle.std.proofs.Common.{◌≡◌, ℕ, Bool, true, false, not, eqb, ◌&&◌, ◌||◌, List, [], ◌∷◌, ◌++◌, Option, Some, None, refl, sym, ap, subst, ◌∙◌}
use Rattle.std.specs.List.{list_any}
use Rattle.std.specs.Str.{bytes_eq}
use Rattle.std.proofs.lemmas.Bool.{and_parts, and_from, eq-eqb, eqb-true}
use Rattle.std.proofs.lemmas.List.Folds.{list_any-append}
use Rattle.lab_base.specs.declared.boot.Boot.{Boot}
use Rattle.lab_base.specs.declared.boot.Boot.TheVariants.{Off, Booting}
use Rattle.lab_base.specs.declared.ids.VlanId.{VlanId}
use Rattle.lab_base.proofs.Bytes.{bytes_same, bytes_self}
use Rattle.plant.specs.declared.device.DeviceOp.{DeviceOp}
use Rattle.plant.specs.declared.device.DeviceOp.TheVariants.{Join, Leave, Shape, Load, Boot as BootIt, Poll, Wipe}
use Rattle.plant.specs.Worlds.{row_after}
use Rattle.plant.specs.Worlds as worlds
use Rattle.plant_file.specs.declared.entry.Entry.{Entry}
use Rattle.plant_file.specs.declared.entry.Entry.TheVariants.{Row, Bare, Node, Pipe}
use Rattle.plant_file.specs.Entries.{is_row, is_node, is_pipe, is_of, state_in, os_in, moved, without, entry_of_node, with_node, after}
use Rattle.plant_file.specs.Holding.{has_row}
use Rattle.plant_file.proofs.Finds.{Test, Apart, Within, any_apart, any_within}

pub row_itself : (switch : List ℕ) (port vlan : ℕ) (row : worlds.Row) → worlds.is_row switch port vlan row ≡ true → row ≡ record { switch = switch; port = port; vlan = vlan }
row_itself switch port vlan row h =
    let a = and_parts (bytes_eq row.switch switch && eqb row.port port) (eqb row.vlan vlan) h in
    let b = and_parts (bytes_eq row.switch switch) (eqb row.port port) a.0 in
    λ i. record { switch = bytes_same row.switch switch b.0 i; port = eqb-true row.port port b.1 i; vlan = eqb-true row.vlan vlan a.1 i }

is_itself : (row : worlds.Row) → worlds.is_row row.switch row.port row.vlan row ≡ true
is_itself row = and_from _ _ (and_from _ _ (bytes_self row.switch) (eq-eqb row.port row.port refl)) (eq-eqb row.vlan row.vlan refl)

abbrev is_of_row : worlds.Row → Test
is_of_row row = is_row row.switch row.port row.vlan

-- an entry that is two rows
one_row : (row other : worlds.Row) (entry : Entry) → is_of_row row entry ≡ true → is_of_row other entry ≡ true → row ≡ other
one_row row other (Row switch port vlan) a b =
    sym (row_itself row.switch row.port row.vlan (record { switch = switch; port = port; vlan = vlan.0 }) a)
    ∙ row_itself other.switch other.port other.vlan (record { switch = switch; port = port; vlan = vlan.0 }) b
one_row row other (Bare node state) a b = absurd (cc a)
one_row row other (Node node state os) a b = absurd (cc a)
one_row row other (Pipe node number from to there back) a b = absurd (cc a)

abbrev the_row : List ℕ → ℕ → VlanId → worlds.Row
the_row switch port vlan = record { switch = switch; port = port; vlan = vlan.0 }

rows_apart : (row other : worlds.Row) → worlds.is_row other.switch other.port other.vlan row ≡ false → Apart (is_of_row row) (is_of_row other)
rows_apart row other differs entry is = by (is_of_row other entry) refl
  where
    by : (b : Bool) → is_of_row other entry ≡ b → b ≡ false
    by false e = refl
    by true e = absurd (
        let never : true ≡ false = sym (ap (λ (r : worlds.Row). worlds.is_row r.switch r.port r.vlan row) (sym (one_row row other entry is e)) ∙ is_itself row) ∙ differs in
        cc never
        )

rows_within : (row other : worlds.Row) → worlds.is_row other.switch other.port other.vlan row ≡ true → Within (is_of_row row) (is_of_row other)
rows_within row other agrees entry is = subst (λ (r : worlds.Row). is_of_row r entry ≡ true) (row_itself other.switch other.port other.vlan row agrees) is

-- the rows after a Leave, and after a Join
left : (row other : worlds.Row) (entries : List Entry) → list_any (is_of_row row) (without (is_of_row other) entries) ≡ (not (worlds.is_row other.switch other.port other.vlan row) && has_row entries row)
left row other entries = by (worlds.is_row other.switch other.port other.vlan row) refl
  where
    by : (b : Bool) → worlds.is_row other.switch other.port other.vlan row ≡ b → list_any (is_of_row row) (without (is_of_row other) entries) ≡ (not b && has_row entries row)
    by true is = any_within (is_of_row row) (is_of_row other) (rows_within row other is) entries
    by false is = any_apart (is_of_row row) (is_of_row other) (rows_apart row other is) entries

or_false : (b : Bool) → (b || (false || false)) ≡ b
or_false true = refl
or_false false = refl

turned : (row other : worlds.Row) → worlds.is_row row.switch row.port row.vlan other ≡ worlds.is_row other.switch other.port other.vlan row
turned row other = by (worlds.is_row row.switch row.port row.vlan other) refl (worlds.is_row other.switch other.port other.vlan row) refl
  where
    by : (a : Bool) → worlds.is_row row.switch row.port row.vlan other ≡ a → (b : Bool) → worlds.is_row other.switch other.port other.vlan row ≡ b → a ≡ b
    by true e true f = refl
    by false e false f = refl
    by true e false f = absurd (
        let never : true ≡ false = sym (is_itself row) ∙ ap (λ (r : worlds.Row). worlds.is_row r.switch r.port r.vlan row) (sym (row_itself row.switch row.port row.vlan other e)) ∙ f in
        cc never
        )
    by false e true f = absurd (
        let never : true ≡ false = sym (is_itself other) ∙ ap (λ (r : worlds.Row). worlds.is_row r.switch r.port r.vlan other) (sym (row_itself other.switch other.port other.vlan row f)) ∙ e in
        cc never
        )

joined : (row : worlds.Row) (switch : List ℕ) (port : ℕ) (vlan : VlanId) (entries : List Entry)
    → list_any (is_of_row row) (without (is_row switch port vlan.0) entries ++ Row switch port vlan ∷ []) ≡ (worlds.is_row switch port vlan.0 row || has_row entries row)
joined row switch port vlan entries =
    let other : worlds.Row = the_row switch port vlan in
    list_any-append (is_of_row row) (without (is_of_row other) entries) (Row switch port vlan ∷ [])
    ∙ (λ i. left row other entries i || (turned row other i || false))
    ∙ by (worlds.is_row switch port vlan.0 row) (has_row entries row)
  where
    by : (a b : Bool) → ((not a && b) || (a || false)) ≡ (a || b)
    by true true = refl
    by true false = refl
    by false true = refl
    by false false = refl

-- entries that aren't rows are put in or taken out
kept : (row : worlds.Row) (q : Test) (entries : List Entry) → Apart (is_of_row row) q → list_any (is_of_row row) (without q entries) ≡ has_row entries row
kept row q entries apart = any_apart (is_of_row row) q apart entries

kept_with : (row : worlds.Row) (q : Test) (entries : List Entry) (entry : Entry) → Apart (is_of_row row) q → is_of_row row entry ≡ false → list_any (is_of_row row) (without q entries ++ entry ∷ []) ≡ has_row entries row
kept_with row q entries entry apart differs =
    list_any-append (is_of_row row) (without q entries) (entry ∷ [])
    ∙ (λ i. kept row q entries apart i || (differs i || false)) ∙ or_false (has_row entries row)

not_node : (row : worlds.Row) (name : List ℕ) → Apart (is_of_row row) (is_node name)
not_node row name (Row switch port vlan) is = refl
not_node row name (Bare node state) is = absurd (cc is)
not_node row name (Node node state os) is = absurd (cc is)
not_node row name (Pipe node number from to there back) is = absurd (cc is)

not_pipe : (row : worlds.Row) (name : List ℕ) (at : ℕ) → Apart (is_of_row row) (is_pipe name at)
not_pipe row name at (Row switch port vlan) is = refl
not_pipe row name at (Bare node state) is = absurd (cc is)
not_pipe row name at (Node node state os) is = absurd (cc is)
not_pipe row name at (Pipe node number from to there back) is = absurd (cc is)

not_of : (row : worlds.Row) (name : List ℕ) → Apart (is_of_row row) (is_of name)
not_of row name (Row switch port vlan) is = refl
not_of row name (Bare node state) is = absurd (cc is)
not_of row name (Node node state os) is = absurd (cc is)
not_of row name (Pipe node number from to there back) is = absurd (cc is)

no_row : (row : worlds.Row) (node : List ℕ) (state : Boot) (os : Option (List ℕ)) → is_of_row row (entry_of_node node state os) ≡ false
no_row row node state None = refl
no_row row node state (Some os) = refl

node_kept : (row : worlds.Row) (node : List ℕ) (state : Boot) (os : Option (List ℕ)) (entries : List Entry) → has_row (with_node node state os entries) row ≡ has_row entries row
node_kept row node state os entries = kept_with row (is_node node) entries (entry_of_node node state os) (not_node row node) (no_row row node state os)

pub rows_hold : (op : DeviceOp) (entries : List Entry) (row : worlds.Row) → has_row (after op entries) row ≡ row_after op row (has_row entries row)
rows_hold (Join switch port vlan) entries row = joined row switch port vlan entries
rows_hold (Leave switch port vlan) entries row = left row (the_row switch port vlan) entries
rows_hold (Shape node number from to there back) entries row = kept_with row (is_pipe node number) entries (Pipe node number from to there back) (not_pipe row node number) refl
rows_hold (Load node os) entries row = node_kept row node Off (Some os) entries
rows_hold (BootIt node) entries row = node_kept row node Booting (os_in node entries) entries
rows_hold (Poll node) entries row = node_kept row node (moved (state_in node entries)) (os_in node entries) entries
rows_hold (Wipe node) entries row = kept row (is_of node) entries (not_of row node)
