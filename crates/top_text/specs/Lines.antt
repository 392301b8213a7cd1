-- The lines of a top text, by their fields after the keyword.
use Rattle.std.specs.Prelude.{ℕ, ◌==◌, List, length, Option, Some, None, Result, Ok, Err, if◌then◌else◌}
use Rattle.lab_base.specs.Parts.{name_of, number_from}
use Rattle.lab_base.specs.Kinds.{both_of}
use Rattle.lab_base.specs.declared.fault.Kind.{Kind}
use Rattle.lab_base.specs.declared.fault.Kind.TheVariants as kinds
use Rattle.lab_base.specs.declared.rates.Rates.{Rates}
use Rattle.line_text.specs.Addresses.{address_of}
use Rattle.line_text.specs.Fields.{field_at, list_after}
use Rattle.line_text.specs.Pairs.{has_byte, pair_at, numbered}
use Rattle.line_text.specs.Rates.{both_rates_at}
use Rattle.line_text.specs.declared.rates.RateLimits.{RateLimits}
use Rattle.virt_topo.specs.declared.wiring.Class.{Class}

-- PARTS OF LINES

-- the name of an end's virtual node, and its address
abbrev pub End : Type 0
End = List ℕ × Option ℕ

abbrev pub bare : Result (List ℕ) Kind → Result End Kind
bare (Ok name) = Ok (name, None)
bare (Err kind) = Err kind

abbrev pub addressed : Result (List ℕ × ℕ) Kind → Result End Kind
addressed (Ok (name, address)) = Ok (name, Some address)
addressed (Err kind) = Err kind

abbrev pub end_parts : Option (List ℕ × List ℕ) → Result End Kind
end_parts None = Err kinds.Fields
end_parts (Some parts) = addressed (both_of (name_of parts.0) (address_of parts.1))

abbrev pub end_in_field : List ℕ → Result End Kind
end_in_field field = if has_byte 61 field then end_parts (pair_at 61 field) else bare (name_of field)

abbrev pub weight_of : List ℕ → Result (List ℕ × ℕ) Kind
weight_of field = numbered 0 1000000 field

-- the limits of a pipe's rates
abbrev pub pipe_rates : RateLimits
pipe_rates = record { least_kbps = 1; most_kbps = 1000000000; most_micros = 10000000; most_ppm = 1000000 }

-- LINES

abbrev pub as_class : Result (List ℕ × (ℕ × List (List ℕ))) Kind → Result Class Kind
as_class (Ok (name, (weight, types))) = Ok (record { name = name; weight = weight; types = types })
as_class (Err kind) = Err kind

-- `make-vclass NAME WEIGHT TYPE ..`
abbrev pub class_line : List (List ℕ) → Result Class Kind
class_line fields = as_class (both_of (name_of (field_at fields 0)) (both_of (number_from 0 1000000 (field_at fields 1)) (list_after 2 1 8 name_of fields)))

-- a virtual node's name, its type or class, its OS and its desires
abbrev pub NodeRead : Type 0
NodeRead = List ℕ × (List ℕ × (List ℕ × List (List ℕ × ℕ)))

-- `node NAME TYPE OS DESIRE:WEIGHT ..`
abbrev pub node_line : List (List ℕ) → Result NodeRead Kind
node_line fields = both_of (name_of (field_at fields 0)) (both_of (name_of (field_at fields 1)) (both_of (name_of (field_at fields 2)) (list_after 3 0 8 weight_of fields)))

-- `fix-node NODE PLACE`
abbrev pub fix_line : List (List ℕ) → Result (List ℕ × List ℕ) Kind
fix_line fields = if length fields == 2 then both_of (name_of (field_at fields 0)) (name_of (field_at fields 1)) else Err kinds.Fields

-- a segment's name, its owner, its kbps and its ends
abbrev pub LinkRead : Type 0
LinkRead = List ℕ × (List ℕ × (ℕ × List End))

-- `link NAME OWNER KBPS END ..`
abbrev pub link_line : List (List ℕ) → Result LinkRead Kind
link_line fields = both_of (name_of (field_at fields 0)) (both_of (name_of (field_at fields 1)) (both_of (number_from 1 1000000000 (field_at fields 2)) (list_after 3 2 256 end_in_field fields)))

-- a pipe's virtual node, its two ends there, and its rates there and back
abbrev pub PipeRead : Type 0
PipeRead = List ℕ × ((ℕ × ℕ) × (Rates × Rates))

-- `pipe NODE I J KBPS DELAY LOSS KBPS DELAY LOSS`
abbrev pub pipe_line : List (List ℕ) → Result PipeRead Kind
pipe_line fields =
    if length fields == 9
    then both_of (name_of (field_at fields 0)) (both_of (both_of (number_from 0 65535 (field_at fields 1)) (number_from 0 65535 (field_at fields 2)))
    (both_rates_at pipe_rates fields 3))
    else Err kinds.Fields

-- `multiplex SEGMENT`
abbrev pub multiplex_line : List (List ℕ) → Result (List ℕ) Kind
multiplex_line fields = if length fields == 1 then name_of (field_at fields 0) else Err kinds.Fields
