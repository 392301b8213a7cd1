-- The lines of the interfaces and the trunks are read again.
use Rattle.std.proofs.Common.{◌≡◌, ◌≢◌, ℕ, zero, suc, ◌+◌, ◌<◌, ◌≤◌, Bool, true, false, not, cond, ltb, List, [], ◌∷◌, ◌++◌, length, get_or, map, Some, None, Ok, refl, sym, ap, subst, ◌∙◌, arith, inl, inr}
use Rattle.std.specs.Prelude.{decimal, is_some, nat_le}
use Rattle.std.specs.List.{list_all, position, prefix_len}
use Rattle.std.proofs.lemmas.Bool.{and_from, and_parts, not_from_false, leb-true}
use Rattle.std.proofs.lemmas.List.{length-map}
use Rattle.lab_base.specs.Names.{is_name, same_name}
use Rattle.lab_base.specs.Kinds.{both_of}
use Rattle.lab_base.specs.Lists.{Has, AllDiffer}
use Rattle.lab_base.proofs.Members.{Has-map, Apart-left, Apart-right, Apart-across, Has-get_or}
use Rattle.lab_base.proofs.Bytes.{bytes_self, bytes_same}
use Rattle.phys_lab.specs.declared.parts.Node.{Node}
use Rattle.phys_lab.specs.Labs.{Lab}
use Rattle.phys_lab.specs.Faults.{is_port_number, is_speed}
use Rattle.phys_lab.specs.Kept.{IsLab}
use Rattle.ptop_text.specs.declared.link.FirstEnd.TheVariants as ends
use Rattle.ptop_text.specs.Lines.{first_end_in, as_port, as_iface, is_switch_of, first_parts, first_end, link_line}
use Rattle.ptop_text.specs.Adding.{switch_at, node_at}
use Rattle.line_text.specs.Printing.{with_number}
use Rattle.line_text.proofs.PartsAgain.{less, position_none, named_pair, numbered_pair, name_again, number_back, numbered_again}

-- THE PLACE OF A NAME

differs : (a b : List ℕ) → (b ≡ a → ⊥) → same_name a b ≡ false
differs a b ne = by (same_name a b) refl
  where
    by : (t : Bool) → same_name a b ≡ t → t ≡ false
    by false e = refl
    by true e = absurd (ne (sym (bytes_same a b e)))

own_prefix : (names : List (List ℕ)) (i : ℕ) → AllDiffer names → i < length names → prefix_len (λ y. not (same_name (get_or names i []) y)) names ≡ i
own_prefix [] i differ lt = absurd (omega arith)
own_prefix (x ∷ names) zero differ lt = ap (λ (b : Bool). cond (not b) (1 + prefix_len (λ y. not (same_name x y)) names) 0) (bytes_self x)
own_prefix (x ∷ names) (suc i) differ lt =
    let below : i < length names = omega arith in
    let other : same_name (get_or names i []) x ≡ false = differs (get_or names i []) x (differ.0 (get_or names i []) (Has-get_or names i [] below)) in
    let one : 1 + i ≡ suc i = omega arith in
    ap (λ (b : Bool). cond (not b) (1 + prefix_len (λ y. not (same_name (get_or names i []) y)) names) 0) other
    ∙ ap (λ (n : ℕ). 1 + n) (own_prefix names i differ.1 below) ∙ one

pub own_place : (names : List (List ℕ)) (i : ℕ) → AllDiffer names → i < length names → position (same_name (get_or names i [])) names ≡ Some i
own_place names i differ lt =
    let at = own_prefix names i differ lt in
    (λ j. cond (ltb (at j) (length names)) (Some (at j)) None) ∙ ap (λ (b : Bool). cond b (Some i) None) (less i (length names) lt)

pub no_place : (names : List (List ℕ)) (name : List ℕ) → (Has names name → ⊥) → position (same_name name) names ≡ None
no_place names name none = position_none (same_name name) names (all names none)
  where
    all : (ns : List (List ℕ)) → (Has ns name → ⊥) → list_all (λ y. not (same_name name y)) ns ≡ true
    all [] none = refl
    all (n ∷ ns) none = and_from _ _ (not_from_false _ (differs name n (λ e. none (inl e)))) (all ns (λ h. none (inr h)))

-- THE NAMES OF A LAB

abbrev node_names : Lab → List (List ℕ)
node_names lab = map (λ node. node.name) lab.nodes

pub record IsSwitchName (lab : Lab) (i : ℕ) (name : List ℕ) : Type 0 where
  pub named : is_name name ≡ true
  pub at : switch_at lab name ≡ Some i

pub record IsNodeName (lab : Lab) (i : ℕ) (name : List ℕ) : Type 0 where
  pub named : is_name name ≡ true
  pub at : node_at lab name ≡ Some i
  pub no_switch : switch_at lab name ≡ None

pub switch_named : (lab : Lab) (i : ℕ) → IsLab lab → i < length lab.switches → IsSwitchName lab i (get_or lab.switches i [])
switch_named lab i is lt = record {
  named = is.switches (get_or lab.switches i []) (Has-get_or lab.switches i [] lt);
  at = own_place lab.switches i (Apart-left (λ a b. a ≢ b) lab.switches (node_names lab) is.devices_differ) lt;
}

pub node_named : (lab : Lab) (i : ℕ) → IsLab lab → i < length lab.nodes → IsNodeName lab i (get_or (node_names lab) i [])
node_named lab i is lt =
    let name = get_or (node_names lab) i [] in
    let within : i < length (node_names lab) = omega (arith, length-map lab.nodes (λ (node : Node). node.name)) in
    let there : Has (node_names lab) name = Has-get_or (node_names lab) i [] within in
    let node = Has-map (λ (node : Node). node.name) lab.nodes name there in
    record {
      named = subst (λ n. is_name n ≡ true) node.2 (and_parts _ _ (is.nodes node.0 node.1).ranges).0;
      at = own_place (node_names lab) i (Apart-right (λ a b. a ≢ b) lab.switches (node_names lab) is.devices_differ) within;
      no_switch = no_place lab.switches name (λ h. Apart-across (λ a b. a ≢ b) lab.switches (node_names lab) name name is.devices_differ h there refl);
    }

-- QUANTITIES

pub record IsPort (port : ℕ) : Type 0 where
  pub low : 1 ≤ port
  pub high : port ≤ 4096

pub record IsSpeed (kbps : ℕ) : Type 0 where
  pub low : 1 ≤ kbps
  pub high : kbps ≤ 1000000000

pub port_is : (port : ℕ) → is_port_number port ≡ true → IsPort port
port_is port h = let p = and_parts (nat_le 1 port) (nat_le port 4096) h in record { low = leb-true 1 port p.0; high = leb-true port 4096 p.1 }

pub speed_is : (kbps : ℕ) → is_speed kbps ≡ true → IsSpeed kbps
speed_is kbps h = let p = and_parts (nat_le 1 kbps) (nat_le kbps 1000000000) h in record { low = leb-true 1 kbps p.0; high = leb-true kbps 1000000000 p.1 }

-- THE FIELDS OF A LINK

iface_end : (lab : Lab) (i : ℕ) (node name : List ℕ) → IsNodeName lab i node → is_name name ≡ true → first_end lab (node ++ 58 ∷ name) ≡ Ok (node, ends.Iface name)
iface_end lab i node name is named =
    ap (first_parts lab) (named_pair node name is.named named)
    ∙ (λ j. both_of (name_again node is.named j) (first_end_in (is_switch_of lab (name_again node is.named j)) name))
    ∙ (λ j. both_of (Ok node) (first_end_in (is_some (is.no_switch j)) name))
    ∙ (λ j. both_of (Ok node) (as_iface (name_again name named j)))

port_end : (lab : Lab) (i : ℕ) (name : List ℕ) (port : ℕ) → IsSwitchName lab i name → IsPort port → first_end lab (with_number (name, port)) ≡ Ok (name, ends.Port port)
port_end lab i name port is range =
    ap (first_parts lab) (numbered_pair name port is.named (omega (arith, range.high)))
    ∙ (λ j. both_of (name_again name is.named j) (first_end_in (is_switch_of lab (name_again name is.named j)) (decimal port)))
    ∙ (λ j. both_of (Ok name) (first_end_in (is_some (is.at j)) (decimal port)))
    ∙ (λ j. both_of (Ok name) (as_port (number_back 1 4096 port range.low range.high (omega arith) j)))

pub iface_read : (lab : Lab) (n s : ℕ) (link node name switch : List ℕ) (port kbps : ℕ) → is_name link ≡ true → IsNodeName lab n node → is_name name ≡ true → IsSwitchName lab s switch → IsPort port → IsSpeed kbps
    → link_line lab (link ∷ (node ++ 58 ∷ name) ∷ with_number (switch, port) ∷ decimal kbps ∷ []) ≡ Ok (link, ((node, ends.Iface name), ((switch, port), kbps)))
iface_read lab n s link node name switch port kbps linked node_is named switch_is port_in speed =
    λ j. both_of (name_again link linked j) (both_of (iface_end lab n node name node_is named j) (both_of (numbered_again 1 4096 switch port switch_is.named port_in.low port_in.high (omega arith) j) (number_back 1 1000000000 kbps speed.low speed.high (omega arith) j)))

pub trunk_read : (lab : Lab) (a b : ℕ) (link first : List ℕ) (at : ℕ) (second : List ℕ) (to kbps : ℕ) → is_name link ≡ true → IsSwitchName lab a first → IsPort at → IsSwitchName lab b second → IsPort to → IsSpeed kbps
    → link_line lab (link ∷ with_number (first, at) ∷ with_number (second, to) ∷ decimal kbps ∷ []) ≡ Ok (link, ((first, ends.Port at), ((second, to), kbps)))
trunk_read lab a b link first at second to kbps linked first_is at_in second_is to_in speed =
    λ j. both_of (name_again link linked j) (both_of (port_end lab a first at first_is at_in j) (both_of (numbered_again 1 4096 second to second_is.named to_in.low to_in.high (omega arith) j) (number_back 1 1000000000 kbps speed.low speed.high (omega arith) j)))
