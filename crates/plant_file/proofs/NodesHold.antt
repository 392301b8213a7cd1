-- A node by the tables after a command.
use Rattle.std.proofs.Common.{◌≡◌, ℕ, Bool, true, false, cond, eqb, ◌&&◌, List, [], ◌∷◌, ◌++◌, Option, Some, None, Ok, refl, sym, ap, ◌∙◌}
use Rattle.std.specs.List.{find}
use Rattle.std.specs.Str.{bytes_eq}
use Rattle.std.proofs.lemmas.Bool.{and_parts, and_from, eq-eqb, eqb-true, and_right}
use Rattle.lab_base.specs.declared.boot.Boot.{Boot}
use Rattle.lab_base.specs.declared.boot.Boot.TheVariants.{Off, Booting}
use Rattle.lab_base.specs.declared.ids.VlanId.{VlanId}
use Rattle.lab_base.specs.declared.rates.Rates.{Rates}
use Rattle.lab_base.proofs.Bytes.{bytes_same, bytes_self}
use Rattle.lab_base.proofs.Numbers.{not_eqb_turned}
use Rattle.plant.specs.declared.device.DeviceOp.{DeviceOp}
use Rattle.plant.specs.declared.device.DeviceOp.TheVariants.{Join, Leave, Shape, Load, Boot as BootIt, Poll, Wipe}
use Rattle.plant.specs.Worlds.{node_after, node_polled, pipes_with, wiped}
use Rattle.plant.specs.Worlds as worlds
use Rattle.plant_file.specs.declared.entry.Entry.{Entry}
use Rattle.plant_file.specs.declared.entry.Entry.TheVariants.{Row, Bare, Node, Pipe}
use Rattle.plant_file.specs.Entries.{is_row, is_node, is_pipe, is_of, state_or_off, os_or_none, state_in, os_in, moved, without, entry_of_node, with_node, after, answer_of}
use Rattle.plant_file.specs.Holding.{pipe_or_none, node_in, HoldWorlds}
use Rattle.plant_file.proofs.Finds.{Apart, Within, find_apart, find_within, find_missed, find_found, differ}
use Rattle.plant_file.proofs.RowsHold.{rows_hold}

-- a node by what is found of it
abbrev node_by : Option Entry → (ℕ → Option Entry) → worlds.NodeRow
node_by entry pipes = record { os = os_or_none entry; pipes = λ k. pipe_or_none (pipes k); boot = Some (state_or_off entry) }

-- it is as it was where the bytes_same is found
found_same : (name : List ℕ) (new old : List Entry) → find (is_node name) new ≡ find (is_node name) old → ((k : ℕ) → find (is_pipe name k) new ≡ find (is_pipe name k) old) → node_in new name ≡ node_in old name
found_same name new old entry pipes = λ i. node_by (entry i) (λ k. pipes k i)

apart_names : (name node : List ℕ) → bytes_eq name node ≡ false → bytes_eq node name ≡ false
apart_names name node differs = by (bytes_eq node name) refl
  where
    by : (b : Bool) → bytes_eq node name ≡ b → b ≡ false
    by false e = refl
    by true e = absurd (let never : true ≡ false = sym (bytes_self node) ∙ ap (λ (n : List ℕ). bytes_eq n node) (bytes_same node name e) ∙ differs in cc never)

and_false : (a b : Bool) → a ≡ false → (a && b) ≡ false
and_false false b e = refl
and_false true b e = absurd (cc e)

-- ROWS

node_not_row : (name switch : List ℕ) (port vlan : ℕ) → Apart (is_node name) (is_row switch port vlan)
node_not_row name switch port vlan (Row own at id) is = absurd (cc is)
node_not_row name switch port vlan (Bare node state) is = refl
node_not_row name switch port vlan (Node node state os) is = refl
node_not_row name switch port vlan (Pipe node number from to there back) is = refl

pipe_not_row : (name : List ℕ) (k : ℕ) (switch : List ℕ) (port vlan : ℕ) → Apart (is_pipe name k) (is_row switch port vlan)
pipe_not_row name k switch port vlan (Row own at id) is = absurd (cc is)
pipe_not_row name k switch port vlan (Bare node state) is = refl
pipe_not_row name k switch port vlan (Node node state os) is = refl
pipe_not_row name k switch port vlan (Pipe node number from to there back) is = refl

row_left : (name switch : List ℕ) (port vlan : ℕ) (entries : List Entry) → node_in (without (is_row switch port vlan) entries) name ≡ node_in entries name
row_left name switch port vlan entries =
    found_same name (without (is_row switch port vlan) entries) entries
    (find_apart (is_node name) (is_row switch port vlan) (node_not_row name switch port vlan) entries)
    (λ k. find_apart (is_pipe name k) (is_row switch port vlan) (pipe_not_row name k switch port vlan) entries)

row_joined : (name switch : List ℕ) (port : ℕ) (vlan : VlanId) (entries : List Entry) → node_in (after (Join switch port vlan) entries) name ≡ node_in entries name
row_joined name switch port vlan entries =
    let rest = without (is_row switch port vlan.0) entries in
    found_same name (rest ++ Row switch port vlan ∷ []) rest
    (find_missed (is_node name) rest (Row switch port vlan) refl)
    (λ k. find_missed (is_pipe name k) rest (Row switch port vlan) refl)
    ∙ row_left name switch port vlan.0 entries

-- BOOT STATES AND SYSTEMS

node_apart : (name node : List ℕ) → bytes_eq name node ≡ false → Apart (is_node name) (is_node node)
node_apart name node differs (Row switch port vlan) is = absurd (cc is)
node_apart name node differs (Bare own state) is = differ name node own differs is
node_apart name node differs (Node own state os) is = differ name node own differs is
node_apart name node differs (Pipe own number from to there back) is = absurd (cc is)

node_within : (name node : List ℕ) → bytes_eq name node ≡ true → Within (is_node name) (is_node node)
node_within name node agrees (Row switch port vlan) is = absurd (cc is)
node_within name node agrees (Bare own state) is = ap (λ (n : List ℕ). bytes_eq n node) (bytes_same own name is) ∙ agrees
node_within name node agrees (Node own state os) is = ap (λ (n : List ℕ). bytes_eq n node) (bytes_same own name is) ∙ agrees
node_within name node agrees (Pipe own number from to there back) is = absurd (cc is)

pipe_not_node : (name : List ℕ) (k : ℕ) (node : List ℕ) → Apart (is_pipe name k) (is_node node)
pipe_not_node name k node (Row switch port vlan) is = refl
pipe_not_node name k node (Bare own state) is = absurd (cc is)
pipe_not_node name k node (Node own state os) is = absurd (cc is)
pipe_not_node name k node (Pipe own number from to there back) is = refl

abbrev set_if : Bool → Boot → Option (List ℕ) → worlds.NodeRow → worlds.NodeRow
set_if b state os row = cond b (record row { os = os; boot = Some state }) row

is_of_node : (name node : List ℕ) (state : Boot) (os : Option (List ℕ)) → is_node name (entry_of_node node state os) ≡ bytes_eq node name
is_of_node name node state None = refl
is_of_node name node state (Some os) = refl

no_pipe : (name : List ℕ) (k : ℕ) (node : List ℕ) (state : Boot) (os : Option (List ℕ)) → is_pipe name k (entry_of_node node state os) ≡ false
no_pipe name k node state None = refl
no_pipe name k node state (Some os) = refl

by_entry : (node : List ℕ) (state : Boot) (os : Option (List ℕ)) (pipes : ℕ → Option Entry) → node_by (Some (entry_of_node node state os)) pipes ≡ record { os = os; pipes = λ k. pipe_or_none (pipes k); boot = Some state }
by_entry node state None pipes = refl
by_entry node state (Some os) pipes = refl

node_set : (name node : List ℕ) (state : Boot) (os : Option (List ℕ)) (entries : List Entry) → node_in (with_node node state os entries) name ≡ set_if (bytes_eq name node) state os (node_in entries name)
node_set name node state os entries = by (bytes_eq name node) refl
  where
    rest : List Entry
    rest = without (is_node node) entries

    own : Entry
    own = entry_of_node node state os

    pipes : (k : ℕ) → find (is_pipe name k) (rest ++ own ∷ []) ≡ find (is_pipe name k) entries
    pipes k = find_missed (is_pipe name k) rest own (no_pipe name k node state os) ∙ find_apart (is_pipe name k) (is_node node) (pipe_not_node name k node) entries

    by : (b : Bool) → bytes_eq name node ≡ b → node_in (rest ++ own ∷ []) name ≡ set_if b state os (node_in entries name)
    by false differs =
        found_same name (rest ++ own ∷ []) entries
        (find_missed (is_node name) rest own (is_of_node name node state os ∙ apart_names name node differs) ∙ find_apart (is_node name) (is_node node) (node_apart name node differs) entries) pipes
    by true agrees =
        let hit : is_node name own ≡ true = is_of_node name node state os ∙ ap (λ (n : List ℕ). bytes_eq n name) (sym (bytes_same name node agrees)) ∙ bytes_self name in
        let found : find (is_node name) (rest ++ own ∷ []) ≡ Some own = find_found (is_node name) rest own (find_within (is_node name) (is_node node) (node_within name node agrees) entries) hit in
        (λ i. node_by (found i) (λ k. pipes k i)) ∙ by_entry node state os (λ k. find (is_pipe name k) entries)

-- its own OS, set again
own_os : (name node : List ℕ) (state : Boot) (entries : List Entry) → set_if (bytes_eq name node) state (os_in node entries) (node_in entries name) ≡ cond (bytes_eq name node) (record (node_in entries name) { boot = Some state }) (node_in entries name)
own_os name node state entries = by (bytes_eq name node) refl
  where
    by : (b : Bool) → bytes_eq name node ≡ b → set_if b state (os_in node entries) (node_in entries name) ≡ cond b (record (node_in entries name) { boot = Some state }) (node_in entries name)
    by false differs = refl
    by true agrees = ap (λ (n : List ℕ). record (node_in entries name) { os = os_in n entries; boot = Some state }) (sym (bytes_same name node agrees))

-- PIPES

node_not_pipe : (name node : List ℕ) (number : ℕ) → Apart (is_node name) (is_pipe node number)
node_not_pipe name node number (Row switch port vlan) is = refl
node_not_pipe name node number (Bare own state) is = refl
node_not_pipe name node number (Node own state os) is = refl
node_not_pipe name node number (Pipe own at from to there back) is = absurd (cc is)

pipe_apart_name : (name node : List ℕ) (k number : ℕ) → bytes_eq name node ≡ false → Apart (is_pipe name k) (is_pipe node number)
pipe_apart_name name node k number differs (Row switch port vlan) is = refl
pipe_apart_name name node k number differs (Bare own state) is = refl
pipe_apart_name name node k number differs (Node own state os) is = refl
pipe_apart_name name node k number differs (Pipe own at from to there back) is =
    and_false (bytes_eq own node) (eqb at number) (differ name node own differs (and_parts (bytes_eq own name) (eqb at k) is).0)

pipe_apart_number : (name node : List ℕ) (k number : ℕ) → eqb k number ≡ false → Apart (is_pipe name k) (is_pipe node number)
pipe_apart_number name node k number differs (Row switch port vlan) is = refl
pipe_apart_number name node k number differs (Bare own state) is = refl
pipe_apart_number name node k number differs (Node own state os) is = refl
pipe_apart_number name node k number differs (Pipe own at from to there back) is =
    let at_k : at ≡ k = eqb-true at k (and_parts (bytes_eq own name) (eqb at k) is).1 in
    and_right (bytes_eq own node) (eqb at number) (ap (λ (n : ℕ). eqb n number) at_k ∙ differs)

pipe_within : (name node : List ℕ) (k number : ℕ) → bytes_eq name node ≡ true → eqb k number ≡ true → Within (is_pipe name k) (is_pipe node number)
pipe_within name node k number agrees is_k (Row switch port vlan) is = absurd (cc is)
pipe_within name node k number agrees is_k (Bare own state) is = absurd (cc is)
pipe_within name node k number agrees is_k (Node own state os) is = absurd (cc is)
pipe_within name node k number agrees is_k (Pipe own at from to there back) is =
    let parts = and_parts (bytes_eq own name) (eqb at k) is in
    and_from _ _ (ap (λ (n : List ℕ). bytes_eq n node) (bytes_same own name parts.0) ∙ agrees) (ap (λ (n : ℕ). eqb n number) (eqb-true at k parts.1) ∙ is_k)

shaped : (name node : List ℕ) (number : ℕ) (from to : List ℕ) (there back : Rates) (entries : List Entry)
    → node_in (after (Shape node number from to there back) entries) name ≡ node_after (Shape node number from to there back) name (node_in entries name)
shaped name node number from to there back entries = by (bytes_eq name node) refl
  where
    pipe : Entry
    pipe = Pipe node number from to there back

    rest : List Entry
    rest = without (is_pipe node number) entries

    as_row : worlds.PipeRow
    as_row = record { from = from; to = to; there = there; back = back }

    entry : find (is_node name) (rest ++ pipe ∷ []) ≡ find (is_node name) entries
    entry = find_missed (is_node name) rest pipe refl ∙ find_apart (is_node name) (is_pipe node number) (node_not_pipe name node number) entries

    other_pipe : (k : ℕ) → is_pipe name k pipe ≡ false → Apart (is_pipe name k) (is_pipe node number) → find (is_pipe name k) (rest ++ pipe ∷ []) ≡ find (is_pipe name k) entries
    other_pipe k missed apart = find_missed (is_pipe name k) rest pipe missed ∙ find_apart (is_pipe name k) (is_pipe node number) apart entries

    one : (k : ℕ) → bytes_eq name node ≡ true → (b : Bool) → eqb k number ≡ b → pipe_or_none (find (is_pipe name k) (rest ++ pipe ∷ [])) ≡ cond b (Some as_row) (pipe_or_none (find (is_pipe name k) entries))
    one k agrees false differs = ap pipe_or_none (other_pipe k (and_right (bytes_eq node name) (eqb number k) (not_eqb_turned k number differs)) (pipe_apart_number name node k number differs))
    one k agrees true is =
        let hit : is_pipe name k pipe ≡ true = and_from _ _ (ap (λ (n : List ℕ). bytes_eq n name) (sym (bytes_same name node agrees)) ∙ bytes_self name) (eq-eqb number k (sym (eqb-true k number is))) in
        ap pipe_or_none (find_found (is_pipe name k) rest pipe (find_within (is_pipe name k) (is_pipe node number) (pipe_within name node k number agrees is) entries) hit)

    by : (b : Bool) → bytes_eq name node ≡ b → node_in (rest ++ pipe ∷ []) name ≡ cond b (record (node_in entries name) { pipes = pipes_with number as_row (node_in entries name).pipes }) (node_in entries name)
    by false differs =
        found_same name (rest ++ pipe ∷ []) entries entry
        (λ k. other_pipe k (and_false (bytes_eq node name) (eqb number k) (apart_names name node differs)) (pipe_apart_name name node k number differs))
    by true agrees = λ i. record { os = os_or_none (entry i); pipes = λ k. one k agrees (eqb k number) refl i; boot = Some (state_or_off (entry i)) }

-- A WIPE

node_apart_of : (name node : List ℕ) → bytes_eq name node ≡ false → Apart (is_node name) (is_of node)
node_apart_of name node differs (Row switch port vlan) is = refl
node_apart_of name node differs (Bare own state) is = differ name node own differs is
node_apart_of name node differs (Node own state os) is = differ name node own differs is
node_apart_of name node differs (Pipe own number from to there back) is = absurd (cc is)

pipe_apart_of : (name node : List ℕ) (k : ℕ) → bytes_eq name node ≡ false → Apart (is_pipe name k) (is_of node)
pipe_apart_of name node k differs (Row switch port vlan) is = refl
pipe_apart_of name node k differs (Bare own state) is = absurd (cc is)
pipe_apart_of name node k differs (Node own state os) is = absurd (cc is)
pipe_apart_of name node k differs (Pipe own at from to there back) is = differ name node own differs (and_parts (bytes_eq own name) (eqb at k) is).0

node_within_of : (name node : List ℕ) → bytes_eq name node ≡ true → Within (is_node name) (is_of node)
node_within_of name node agrees (Row switch port vlan) is = absurd (cc is)
node_within_of name node agrees (Bare own state) is = ap (λ (n : List ℕ). bytes_eq n node) (bytes_same own name is) ∙ agrees
node_within_of name node agrees (Node own state os) is = ap (λ (n : List ℕ). bytes_eq n node) (bytes_same own name is) ∙ agrees
node_within_of name node agrees (Pipe own number from to there back) is = absurd (cc is)

pipe_within_of : (name node : List ℕ) (k : ℕ) → bytes_eq name node ≡ true → Within (is_pipe name k) (is_of node)
pipe_within_of name node k agrees (Row switch port vlan) is = absurd (cc is)
pipe_within_of name node k agrees (Bare own state) is = absurd (cc is)
pipe_within_of name node k agrees (Node own state os) is = absurd (cc is)
pipe_within_of name node k agrees (Pipe own at from to there back) is = ap (λ (n : List ℕ). bytes_eq n node) (bytes_same own name (and_parts (bytes_eq own name) (eqb at k) is).0) ∙ agrees

node_wiped : (name node : List ℕ) (entries : List Entry) → node_in (without (is_of node) entries) name ≡ cond (bytes_eq name node) wiped (node_in entries name)
node_wiped name node entries = by (bytes_eq name node) refl
  where
    by : (b : Bool) → bytes_eq name node ≡ b → node_in (without (is_of node) entries) name ≡ cond b wiped (node_in entries name)
    by false differs =
        found_same name (without (is_of node) entries) entries
        (find_apart (is_node name) (is_of node) (node_apart_of name node differs) entries)
        (λ k. find_apart (is_pipe name k) (is_of node) (pipe_apart_of name node k differs) entries)
    by true agrees =
        let entry : find (is_node name) (without (is_of node) entries) ≡ None = find_within (is_node name) (is_of node) (node_within_of name node agrees) entries in
        let pipes : (k : ℕ) → find (is_pipe name k) (without (is_of node) entries) ≡ None = λ k. find_within (is_pipe name k) (is_of node) (pipe_within_of name node k agrees) entries in
        λ i. node_by (entry i) (λ k. pipes k i)

-- EACH COMMAND

nodes_hold : (op : DeviceOp) (entries : List Entry) (name : List ℕ) → node_in (after op entries) name ≡ node_polled op (Ok (answer_of op entries)) name (node_after op name (node_in entries name))
nodes_hold (Join switch port vlan) entries name = row_joined name switch port vlan entries
nodes_hold (Leave switch port vlan) entries name = row_left name switch port vlan.0 entries
nodes_hold (Shape node number from to there back) entries name = shaped name node number from to there back entries
nodes_hold (Load node os) entries name = node_set name node Off (Some os) entries
nodes_hold (BootIt node) entries name = node_set name node Booting (os_in node entries) entries ∙ own_os name node Booting entries
nodes_hold (Poll node) entries name = node_set name node (moved (state_in node entries)) (os_in node entries) entries ∙ own_os name node (moved (state_in node entries)) entries
nodes_hold (Wipe node) entries name = node_wiped name node entries

-- THE WHOLE WORLD
pub holds_worlds : HoldWorlds
holds_worlds op entries = λ i. record { rows = λ row. rows_hold op entries row i; node = λ name. nodes_hold op entries name i }
