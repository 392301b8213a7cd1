-- The lines of the range, the switches and the nodes are read again.
use Rattle.std.proofs.Common.{◌≡◌, ℕ, zero, suc, ◌+◌, ◌≤◌, Bool, true, false, not, cond, eqb, ◌&&◌, List, [], ◌∷◌, ◌++◌, length, take, drop, map, Some, None, Ok, Err, refl, sym, ap, ◌∙◌, arith}
use Rattle.std.specs.Prelude.{nat_le, codes, decimal, is_ok}
use Rattle.std.specs.List.{list_all}
use Rattle.std.proofs.lemmas.Bool.{and_from, and_parts, not_from_false, leb-true, le-leb, not-true}
use Rattle.std.proofs.lemmas.List.{append-nil, length-map}
use Rattle.std.proofs.Math.Seq.{take-append_seam}
use Rattle.std.proofs.Math.Bool.{and-false}
use Rattle.lab_base.specs.Names.{is_name, same_name}
use Rattle.lab_base.specs.Kinds.{both_of}
use Rattle.lab_base.specs.Parts.{name_of, number_from, all_of}
use Rattle.lab_base.specs.declared.fault.Kind.TheVariants as kinds
use Rattle.phys_lab.specs.declared.parts.Node.{Node}
use Rattle.phys_lab.specs.declared.fault.LabFault.TheVariants as faults
use Rattle.phys_lab.specs.Faults.{range_fault, is_type, is_feature, is_between}
use Rattle.phys_lab.specs.Kept.{IsWhole}
use Rattle.ptop_text.specs.declared.device.Device.TheVariants as devices
use Rattle.ptop_text.specs.Lines.{vlans_line, is_switch_word, bare_type, counted_type, type_of, feature_of, is_list, types_of, features_of, dash_in, as_node, node_parts, switch_parts, is_switch_field, as_switch, is_switch_line, device_line}
use Rattle.ptop_text.specs.Canonical.{feature_fields}
use Rattle.line_text.specs.Printing.{with_number}
use Rattle.line_text.specs.Pairs.{pair_at}
use Rattle.line_text.proofs.PartsAgain.{position_at, position_none, drop_next, has_again, no_byte_name, numbered_pair, name_again, number_back, numbered_again, all_again, all_has}

-- THE RANGE

pub record IsRange (first last : ℕ) : Type 0 where
  pub low : 2 ≤ first
  pub order : first ≤ last
  pub high : last ≤ 4094

pub range_is : (first last : ℕ) → range_fault first last ≡ None → IsRange first last
range_is first last none = by (nat_le 2 first && (nat_le first last && nat_le last 4094)) refl none
  where
    by : (b : Bool) → (nat_le 2 first && (nat_le first last && nat_le last 4094)) ≡ b → range_fault first last ≡ None → IsRange first last
    by true e none = let p = and_parts _ _ e in let q = and_parts _ _ p.1 in record { low = leb-true _ _ p.0; order = leb-true _ _ q.0; high = leb-true _ _ q.1 }
    by false e none = absurd (let wrong = ap (λ (b : Bool). cond b None (Some faults.Range)) (sym e) ∙ none in cc wrong)

pub range_again : (first last : ℕ) → IsRange first last → vlans_line (decimal first ∷ decimal last ∷ []) ≡ Ok (first, last)
range_again first last is = λ i. both_of (number_back 2 4094 first is.low (omega (arith, is.order, is.high)) (omega arith) i) (number_back 2 4094 last (omega (arith, is.low, is.order)) is.high (omega arith) i)

-- A SWITCH

pub switch_again : (name : List ℕ) → is_name name ≡ true → device_line (name ∷ codes "switch" ∷ []) ≡ Ok (devices.Switch name)
switch_again name h = ap as_switch (name_again name h)

-- A NODE

-- a printed pair is not `-`, and not the word `switch` with 1
no_dash : (name : List ℕ) (n : ℕ) → is_name name ≡ true → same_name (with_number (name, n)) (codes "-") ≡ false
no_dash [] n h = absurd cc
no_dash (b ∷ []) n h = and-false (eqb b 45)
no_dash (b ∷ e ∷ name) n h = and-false (eqb b 45)

pub record IsType (kind : List ℕ × ℕ) : Type 0 where
  pub named : is_name kind.0 ≡ true
  pub low : 1 ≤ kind.1
  pub high : kind.1 ≤ 1000
  pub other : is_switch_word kind.0 ≡ false

pub type_is : (kind : List ℕ × ℕ) → is_type kind ≡ true → IsType kind
type_is kind h =
    let p = and_parts (is_name kind.0) _ h in
    let q = and_parts (is_between 1 1000 kind.1) _ p.1 in
    let r = and_parts (nat_le 1 kind.1) _ q.0 in
    record { named = p.0; low = leb-true _ _ r.0; high = leb-true _ _ r.1; other = not-true _ q.1 }

type_again : (kind : List ℕ × ℕ) → is_type kind ≡ true → type_of (with_number kind) ≡ Ok kind
type_again kind h =
    let is = type_is kind h in
    ap (λ (b : Bool). cond b (counted_type (pair_at 58 (with_number kind))) (bare_type (with_number kind))) (has_again 58 kind.0 (decimal kind.1) (no_byte_name 58 refl kind.0 is.named))
    ∙ ap counted_type (numbered_pair kind.0 kind.1 is.named (omega (arith, is.high)))
    ∙ ap (λ (b : Bool). cond b (Err kinds.Fields) (both_of (name_of kind.0) (number_from 1 1000 (decimal kind.1)))) is.other
    ∙ (λ i. both_of (name_again kind.0 is.named i) (number_back 1 1000 kind.1 is.low is.high (omega arith) i))

feature_again : (feature : List ℕ × ℕ) → is_feature feature ≡ true → feature_of (with_number feature) ≡ Ok feature
feature_again feature h =
    let p = and_parts (is_name feature.0) _ h in
    numbered_again 0 1000000 feature.0 feature.1 p.0 (omega arith) (leb-true _ _ p.1) (omega arith)

no_switch : (kind : List ℕ × ℕ) → is_type kind ≡ true → is_switch_field (with_number kind) ≡ false
no_switch kind h =
    let is = type_is kind h in
    ap (switch_parts (with_number kind)) (numbered_pair kind.0 kind.1 is.named (omega (arith, is.high))) ∙ ap (λ (b : Bool). b && is_ok (number_from 1 1 (decimal kind.1))) is.other

is_listed : (w : List ℕ × ℕ → List ℕ) (xs : List (List ℕ × ℕ)) → 1 ≤ length xs → length xs ≤ 8 → is_list (map w xs) ≡ true
is_listed w xs some few = and_from _ _ (le-leb 1 (length (map w xs)) (omega (arith, length-map xs w))) (le-leb (length (map w xs)) 8 (omega (arith, length-map xs w)))

-- what a node's line has after the name
abbrev behind : List (List ℕ × ℕ) → List (List ℕ × ℕ) → List (List ℕ)
behind types features = map with_number types ++ feature_fields features

no_switch_line : (types features : List (List ℕ × ℕ)) → list_all is_type types ≡ true → is_switch_line (behind types features) ≡ false
no_switch_line [] [] h = refl
no_switch_line [] (f ∷ features) h = by features
  where
    by : (fs : List (List ℕ × ℕ)) → is_switch_line (codes "-" ∷ with_number f ∷ map with_number fs) ≡ false
    by fs = refl
no_switch_line (t ∷ []) [] h = no_switch t (and_parts (is_type t) _ h).0
no_switch_line (t ∷ []) (f ∷ features) h = refl
no_switch_line (t ∷ u ∷ types) features h = refl

no_dashes : (types : List (List ℕ × ℕ)) → list_all is_type types ≡ true → list_all (λ field. not (same_name field (codes "-"))) (map with_number types) ≡ true
no_dashes [] h = refl
no_dashes (t ∷ types) h =
    let p = and_parts (is_type t) (list_all is_type types) h in
    and_from _ _ (not_from_false _ (no_dash t.0 t.1 (type_is t p.0).named)) (no_dashes types p.1)

node_read : (name : List ℕ) (types features : List (List ℕ × ℕ)) → is_name name ≡ true → list_all is_type types ≡ true → list_all is_feature features ≡ true → 1 ≤ length types → length types ≤ 8 → length features ≤ 8
    → node_parts name (behind types features) (dash_in (behind types features)) ≡ Ok (devices.Node (record { name = name; types = types; features = features }))
node_read name types [] named t f some few few_features =
    let types_are : types_of (map with_number types) ≡ Ok types =
    ap (λ (b : Bool). cond b (all_of type_of (Ok []) (map with_number types)) (Err kinds.Fields)) (is_listed with_number types some few)
    ∙ all_again type_of with_number types [] (λ x h. type_again x (all_has is_type types t x h)) in
    let plain : behind types [] ≡ map with_number types = append-nil (map with_number types) in
    let none : dash_in (map with_number types) ≡ None = position_none _ (map with_number types) (no_dashes types t) in
    ap (λ (l : List (List ℕ)). node_parts name l (dash_in l)) plain
    ∙ ap (node_parts name (map with_number types)) none
    ∙ (λ i. as_node (both_of (name_again name named i) (both_of (types_are i) (Ok []))))
node_read name types (x ∷ features) named t f some few few_features =
    let n = length (map with_number types) in
    let types_are : types_of (map with_number types) ≡ Ok types =
    ap (λ (b : Bool). cond b (all_of type_of (Ok []) (map with_number types)) (Err kinds.Fields)) (is_listed with_number types some few)
    ∙ all_again type_of with_number types [] (λ y h. type_again y (all_has is_type types t y h)) in
    let features_are : features_of (map with_number (x ∷ features)) ≡ Ok (x ∷ features) =
    ap (λ (b : Bool). cond b (all_of feature_of (Ok []) (map with_number (x ∷ features))) (Err kinds.Fields)) (is_listed with_number (x ∷ features) (omega arith) few_features)
    ∙ all_again feature_of with_number (x ∷ features) [] (λ y h. feature_again y (all_has is_feature (x ∷ features) f y h)) in
    let dash : dash_in (behind types (x ∷ features)) ≡ Some n = position_at _ (map with_number types) (codes "-") (map with_number (x ∷ features)) (no_dashes types t) refl in
    let front : take n (behind types (x ∷ features)) ≡ map with_number types = take-append_seam (map with_number types) (feature_fields (x ∷ features)) in
    let back : drop (n + 1) (behind types (x ∷ features)) ≡ map with_number (x ∷ features) = drop_next (map with_number types) (codes "-") (map with_number (x ∷ features)) in
    ap (node_parts name (behind types (x ∷ features))) dash
    ∙ (λ i. as_node (both_of (name_of name) (both_of (types_of (front i)) (features_of (back i)))))
    ∙ (λ i. as_node (both_of (name_again name named i) (both_of (types_are i) (features_are i))))

pub node_again : (node : Node) → IsWhole node → device_line (node.name ∷ behind node.types node.features) ≡ Ok (devices.Node node)
node_again node is =
    let p = and_parts (is_name node.name) _ is.ranges in
    let q = and_parts (not (eqb (length node.types) 0)) _ p.1 in
    let r = and_parts (list_all is_type node.types) _ q.1 in
    ap (λ (b : Bool). cond b (as_switch (name_of node.name)) (node_parts node.name (behind node.types node.features) (dash_in (behind node.types node.features)))) (no_switch_line node.types node.features r.0)
    ∙ node_read node.name node.types node.features p.0 r.0 r.1 (some (length node.types) q.0) is.few_types is.few_features
  where
    some : (n : ℕ) → not (eqb n 0) ≡ true → 1 ≤ n
    some zero h = absurd cc
    some (suc n) h = omega arith
