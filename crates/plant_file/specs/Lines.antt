-- The text of the tables.
use Rattle.std.specs.Prelude.{ℕ, ◌==◌, List, [], ◌∷◌, ◌++◌, length, map, codes, decimal, Result, Ok, Err, if◌then◌else◌}
use Rattle.std.specs.Str.{bytes_eq}
use Rattle.lab_base.specs.Texts.{lines_of}
use Rattle.lab_base.specs.Parts.{name_of, number_from}
use Rattle.lab_base.specs.Kinds.{both_of}
use Rattle.lab_base.specs.declared.boot.Boot.{Boot}
use Rattle.lab_base.specs.declared.boot.Boot.TheVariants.{Off, Shutdown, Booting, TbSetup, IsUp}
use Rattle.lab_base.specs.declared.fault.Kind.{Kind}
use Rattle.lab_base.specs.declared.fault.Kind.TheVariants as kinds
use Rattle.lab_base.specs.declared.fault.TextFault.{TextFault}
use Rattle.lab_base.specs.declared.rates.Rates.{Rates}
use Rattle.line_text.specs.Fields.{field_at}
use Rattle.line_text.specs.Printing.{text_of}
use Rattle.line_text.specs.Rates.{rates_fields, any_rates, both_rates_at}
use Rattle.line_text.specs.Reading.{and_then, read_from}
use Rattle.plant_file.specs.declared.entry.Entry.{Entry}
use Rattle.plant_file.specs.declared.entry.Entry.TheVariants.{Row, Bare, Node, Pipe}

-- PRINTING

abbrev pub boot_word : Boot → List ℕ
boot_word Off = codes "OFF"
boot_word Shutdown = codes "SHUTDOWN"
boot_word Booting = codes "BOOTING"
boot_word TbSetup = codes "TBSETUP"
boot_word IsUp = codes "ISUP"

-- `row SWITCH PORT VLAN`, `node NODE STATE` with the OS after it, `pipe NODE NUMBER FROM TO` with six rates
abbrev pub entry_fields : Entry → List (List ℕ)
entry_fields (Row switch port vlan) = codes "row" ∷ switch ∷ decimal port ∷ decimal vlan.0 ∷ []
entry_fields (Bare node state) = codes "node" ∷ node ∷ boot_word state ∷ []
entry_fields (Node node state os) = codes "node" ∷ node ∷ boot_word state ∷ os ∷ []
entry_fields (Pipe node number from to there back) = codes "pipe" ∷ node ∷ decimal number ∷ from ∷ to ∷ rates_fields there ++ rates_fields back

-- the text of tables
abbrev pub tables_text : List Entry → List ℕ
tables_text entries = text_of (map entry_fields entries)

-- READING

abbrev pub boot_of : List ℕ → Result Boot Kind
boot_of word =
    if bytes_eq word (codes "OFF") then Ok Off
    else if bytes_eq word (codes "SHUTDOWN") then Ok Shutdown
    else if bytes_eq word (codes "BOOTING") then Ok Booting
    else if bytes_eq word (codes "TBSETUP") then Ok TbSetup
    else if bytes_eq word (codes "ISUP") then Ok IsUp
    else Err kinds.Word

abbrev pub as_row : Result (List ℕ × (ℕ × ℕ)) Kind → Result Entry Kind
as_row (Ok (switch, (port, vlan))) = Ok (Row switch port (record { 0 = vlan }))
as_row (Err kind) = Err kind

abbrev pub row_line : List (List ℕ) → Result Entry Kind
row_line fields =
    if length fields == 3
    then as_row (both_of (name_of (field_at fields 0)) (both_of (number_from 0 65535 (field_at fields 1)) (number_from 0 65535 (field_at fields 2))))
    else Err kinds.Fields

abbrev pub as_bare : Result (List ℕ × Boot) Kind → Result Entry Kind
as_bare (Ok (node, state)) = Ok (Bare node state)
as_bare (Err kind) = Err kind

abbrev pub bare_line : List (List ℕ) → Result Entry Kind
bare_line fields = as_bare (both_of (name_of (field_at fields 0)) (boot_of (field_at fields 1)))

abbrev pub as_node : Result (List ℕ × (Boot × List ℕ)) Kind → Result Entry Kind
as_node (Ok (node, (state, os))) = Ok (Node node state os)
as_node (Err kind) = Err kind

abbrev pub loaded_line : List (List ℕ) → Result Entry Kind
loaded_line fields = as_node (both_of (name_of (field_at fields 0)) (both_of (boot_of (field_at fields 1)) (name_of (field_at fields 2))))

-- the OS may be missing
abbrev pub node_line : List (List ℕ) → Result Entry Kind
node_line fields = if length fields == 2 then bare_line fields else if length fields == 3 then loaded_line fields else Err kinds.Fields

abbrev pub as_pipe : Result ((List ℕ × ℕ) × ((List ℕ × List ℕ) × (Rates × Rates))) Kind → Result Entry Kind
as_pipe (Ok ((node, number), ((from, to), (there, back)))) = Ok (Pipe node number from to there back)
as_pipe (Err kind) = Err kind

abbrev pub pipe_line : List (List ℕ) → Result Entry Kind
pipe_line fields =
    if length fields == 10
    then as_pipe (both_of (both_of (name_of (field_at fields 0)) (number_from 0 65535 (field_at fields 1)))
    (both_of (both_of (name_of (field_at fields 2)) (name_of (field_at fields 3))) (both_rates_at any_rates fields 4)))
    else Err kinds.Fields

-- a line by its keyword
abbrev pub keyed : List ℕ → List (List ℕ) → Result Entry Kind
keyed keyword fields =
    if bytes_eq keyword (codes "row") then row_line fields
    else if bytes_eq keyword (codes "node") then node_line fields
    else if bytes_eq keyword (codes "pipe") then pipe_line fields
    else Err kinds.Word

abbrev pub entry_of : List (List ℕ) → Result Entry Kind
entry_of [] = Err kinds.Word
entry_of (keyword ∷ fields) = keyed keyword fields

-- a line after those so far
abbrev pub added : List Entry → List (List ℕ) → Result (List Entry) Kind
added entries fields = and_then (entry_of fields) (λ entry. Ok (entries ++ entry ∷ []))

-- the tables of a text, or the fault of its first line that has one
abbrev pub tables_of_text : List ℕ → Result (List Entry) TextFault
tables_of_text text = read_from added 1 (Ok []) (lines_of text)
