-- The lines of a ptop text, by their fields after the keyword.
use Rattle.std.specs.Prelude.{◌+◌, ℕ, Bool, true, false, ◌&&◌, nat_le, List, [], ◌∷◌, length, take, drop, position, codes, Option, Some, None, is_some, is_ok, Result, Ok, Err, if◌then◌else◌}
use Rattle.lab_base.specs.Kinds.{both_of}
use Rattle.lab_base.specs.Parts.{name_of, number_from, all_of}
use Rattle.lab_base.specs.Names.{same_name}
use Rattle.line_text.specs.Pairs.{has_byte, pair_at, numbered}
use Rattle.lab_base.specs.declared.fault.Kind.{Kind}
use Rattle.lab_base.specs.declared.fault.Kind.TheVariants as kinds
use Rattle.phys_lab.specs.Labs.{Lab}
use Rattle.ptop_text.specs.declared.link.FirstEnd.{FirstEnd}
use Rattle.ptop_text.specs.declared.link.FirstEnd.TheVariants as ends
use Rattle.ptop_text.specs.declared.device.Device.{Device}
use Rattle.ptop_text.specs.declared.device.Device.TheVariants as devices

-- the range of VLAN ids
abbrev pub vlans_line : List (List ℕ) → Result (ℕ × ℕ) Kind
vlans_line (first ∷ last ∷ []) = both_of (number_from 2 4094 first) (number_from 2 4094 last)
vlans_line fields = Err kinds.Fields

-- a type: its name and count, or its name alone, which is count 1; never the word `switch`
abbrev pub is_switch_word : List ℕ → Bool
is_switch_word word = same_name word (codes "switch")

abbrev pub bare_type : List ℕ → Result (List ℕ × ℕ) Kind
bare_type field = if is_switch_word field then Err kinds.Fields else both_of (name_of field) (Ok 1)

abbrev pub counted_type : Option (List ℕ × List ℕ) → Result (List ℕ × ℕ) Kind
counted_type None = Err kinds.Fields
counted_type (Some parts) = if is_switch_word parts.0 then Err kinds.Fields else both_of (name_of parts.0) (number_from 1 1000 parts.1)

abbrev pub type_of : List ℕ → Result (List ℕ × ℕ) Kind
type_of field = if has_byte 58 field then counted_type (pair_at 58 field) else bare_type field

-- a feature and its weight
abbrev pub feature_of : List ℕ → Result (List ℕ × ℕ) Kind
feature_of field = numbered 0 1000000 field

-- 1 to 8 fields
abbrev pub is_list : List (List ℕ) → Bool
is_list fields = nat_le 1 (length fields) && nat_le (length fields) 8

abbrev pub types_of : List (List ℕ) → Result (List (List ℕ × ℕ)) Kind
types_of fields = if is_list fields then all_of type_of (Ok []) fields else Err kinds.Fields

abbrev pub features_of : List (List ℕ) → Result (List (List ℕ × ℕ)) Kind
features_of fields = if is_list fields then all_of feature_of (Ok []) fields else Err kinds.Fields

-- where a field `-` stands alone
abbrev pub dash_in : List (List ℕ) → Option ℕ
dash_in fields = position (λ field. same_name field (codes "-")) fields

-- a node by its name, its types and, after a lone `-`, its features
abbrev pub as_node : Result (List ℕ × (List (List ℕ × ℕ) × List (List ℕ × ℕ))) Kind → Result Device Kind
as_node (Ok (name, (types, features))) = Ok (devices.Node (record { name = name; types = types; features = features }))
as_node (Err kind) = Err kind

abbrev pub node_parts : List ℕ → List (List ℕ) → Option ℕ → Result Device Kind
node_parts name fields None = as_node (both_of (name_of name) (both_of (types_of fields) (Ok [])))
node_parts name fields (Some n) = as_node (both_of (name_of name) (both_of (types_of (take n fields)) (features_of (drop (n + 1) fields))))

-- the word `switch`, alone or with a number of value 1
abbrev pub switch_parts : List ℕ → Option (List ℕ × List ℕ) → Bool
switch_parts field None = is_switch_word field
switch_parts field (Some parts) = is_switch_word parts.0 && is_ok (number_from 1 1 parts.1)

abbrev pub is_switch_field : List ℕ → Bool
is_switch_field field = switch_parts field (pair_at 58 field)

abbrev pub as_switch : Result (List ℕ) Kind → Result Device Kind
as_switch (Ok name) = Ok (devices.Switch name)
as_switch (Err kind) = Err kind

abbrev pub is_switch_line : List (List ℕ) → Bool
is_switch_line (field ∷ []) = is_switch_field field
is_switch_line fields = false

-- a switch or a node
abbrev pub device_line : List (List ℕ) → Result Device Kind
device_line [] = Err kinds.Fields
device_line (name ∷ fields) = if is_switch_line fields then as_switch (name_of name) else node_parts name fields (dash_in fields)

-- what stands after the colon of a link's first end: a port where the part before it is a switch, else an interface
abbrev pub as_port : Result ℕ Kind → Result FirstEnd Kind
as_port (Ok port) = Ok (ends.Port port)
as_port (Err kind) = Err kind

abbrev pub as_iface : Result (List ℕ) Kind → Result FirstEnd Kind
as_iface (Ok name) = Ok (ends.Iface name)
as_iface (Err kind) = Err kind

abbrev pub first_end_in : Bool → List ℕ → Result FirstEnd Kind
first_end_in true field = as_port (number_from 1 4096 field)
first_end_in false field = as_iface (name_of field)

abbrev pub is_switch_of : Lab → Result (List ℕ) Kind → Bool
is_switch_of lab (Ok name) = is_some (position (same_name name) lab.switches)
is_switch_of lab (Err kind) = false

abbrev pub first_parts : Lab → Option (List ℕ × List ℕ) → Result (List ℕ × FirstEnd) Kind
first_parts lab None = Err kinds.Fields
first_parts lab (Some parts) = both_of (name_of parts.0) (first_end_in (is_switch_of lab (name_of parts.0)) parts.1)

abbrev pub first_end : Lab → List ℕ → Result (List ℕ × FirstEnd) Kind
first_end lab field = first_parts lab (pair_at 58 field)

-- a link, its first end, its second end, its speed
abbrev pub LinkRead : Type 0
LinkRead = List ℕ × ((List ℕ × FirstEnd) × ((List ℕ × ℕ) × ℕ))

abbrev pub link_line : Lab → List (List ℕ) → Result LinkRead Kind
link_line lab (link ∷ first ∷ second ∷ kbps ∷ []) =
    both_of (name_of link) (both_of (first_end lab first) (both_of (numbered 1 4096 second) (number_from 1 1000000000 kbps)))
link_line lab fields = Err kinds.Fields
