-- The places and plugs of a solution text, line after line, are of the lab.
use Rattle.std.proofs.Common.{◌≡◌, ℕ, zero, suc, ◌+◌, ◌<◌, Bool, true, false, cond, List, [], ◌∷◌, length, map, All, Option, Some, None, Result, Ok, Err, refl, sym, ap, subst, ◌∙◌, arith}
use Rattle.std.specs.Prelude.{IfOk, IfSome, option_map, replicate, codes}
use Rattle.std.proofs.lemmas.List.{length-set, length-map, length-replicate}
use Rattle.std.proofs.lemmas.List.Elements.{All-set}
use Rattle.lab_base.specs.Texts.{lines_of}
use Rattle.lab_base.specs.declared.fault.Kind.{Kind}
use Rattle.lab_base.specs.declared.fault.Kind.TheVariants as kinds
use Rattle.lab_base.specs.declared.fault.TextFault.{TextFault}
use Rattle.lab_base.specs.declared.fault.TextRefused.{TextRefused}
use Rattle.lab_base.specs.declared.ids.NodeId.{NodeId}
use Rattle.lab_base.specs.declared.ids.IfaceId.{IfaceId}
use Rattle.lab_base.specs.Names.{same_name}
use Rattle.line_text.specs.Reading.{and_then, read_from}
use Rattle.line_text.specs.Refusals.{Reads}
use Rattle.line_text.proofs.ReadLaws.{lines_keep}
use Rattle.phys_lab.specs.Labs.{Lab}
use Rattle.virt_topo.specs.Ends.{end_nodes}
use Rattle.virt_topo.specs.declared.wiring.Wiring.{Wiring}
use Rattle.virt_topo.specs.declared.mapping.Mapping.{Mapping}
use Rattle.lab_model.specs.Shapes.{Place, IsShaped, has_name, node_at}
use Rattle.top_text.specs.Adding.{virt_named}
use Rattle.solution_text.specs.declared.given.Given.{Given}
use Rattle.solution_text.specs.Solutions.{place_given, plug_given, placed_on, with_place_line, plugged_in, with_plug_line, node_named, iface_named, iface_by, end_named, is_given, place_line, plug_line, line_keyed, line_given, nothing, all_given, mapped, completed, mapping_of_text}
use Rattle.solution_text.proofs.Places.{place_below}

-- what is given names something of the lab, and there is an entry for each virtual node and each end
pub record IsGiven (lab : Lab) (w : Wiring) (given : Given) : Type 0 where
  pub places : length given.places ≡ length w.nodes
  pub plugs : length given.plugs ≡ length (end_nodes w.segments)
  pub in_nodes : All (λ entry. IfSome entry (λ p. p.0.0 < length lab.nodes)) given.places
  pub of_node : All (λ entry. IfSome entry (λ p. has_name (node_at lab p.0).types p.1 ≡ true)) given.places
  pub in_lab : All (λ entry. IfSome entry (λ i. i.0 < length lab.ifaces)) given.plugs

-- STEPS THAT ANSWER OK

gate : {X : Type 0} (a : Bool) (kind : Kind) (rest : Result X Kind) (x : X) → cond a (Err kind) rest ≡ Ok x → rest ≡ Ok x
gate true kind rest x h = absurd (cc h)
gate false kind rest x h = h

then_ok : {A B : Type 0} (r : Result A Kind) (next : A → Result B Kind) (b : B) → and_then r next ≡ Ok b → (a : A) × (next a ≡ Ok b)
then_ok (Ok a) next b h = (a, h)
then_ok (Err kind) next b h = absurd (cc h)

none_of : {X : Type 0} (P : X → Type 0) (n : ℕ) → All (λ entry. IfSome entry P) (replicate n None)
none_of P zero k d lt = absurd (omega arith)
none_of P (suc n) zero d lt = tt
none_of P (suc n) (suc k) d lt = none_of P n k d (omega arith)

module _ (lab : Lab) (w : Wiring) where
  place_kept : (given : Given) (v : ℕ) (node : NodeId) (type : List ℕ) → IsGiven lab w given → node.0 < length lab.nodes → has_name (node_at lab node).types type ≡ true → IsGiven lab w (place_given given v (node, type))
  place_kept given v node type is within has =
      record {
        places = length-set given.places v (Some (node, type)) ∙ is.places;
        plugs = is.plugs;
        in_nodes = All-set (λ entry. IfSome entry (λ p. p.0.0 < length lab.nodes)) given.places v (Some (node, type)) within is.in_nodes;
        of_node = All-set (λ entry. IfSome entry (λ p. has_name (node_at lab p.0).types p.1 ≡ true)) given.places v (Some (node, type)) has is.of_node;
        in_lab = is.in_lab;
      }

  plug_kept : (given : Given) (e : ℕ) (plug : IfaceId) → IsGiven lab w given → plug.0 < length lab.ifaces → IsGiven lab w (plug_given given e plug)
  plug_kept given e plug is within =
      record {
        places = is.places;
        plugs = length-set given.plugs e (Some plug) ∙ is.plugs;
        in_nodes = is.in_nodes;
        of_node = is.of_node;
        in_lab = All-set (λ entry. IfSome entry (λ i. i.0 < length lab.ifaces)) given.plugs e (Some plug) within is.in_lab;
      }

  placed_kept : (given new : Given) (virt node : Option ℕ) (type : List ℕ) → IsGiven lab w given → IfSome node (λ n. n < length lab.nodes) → placed_on lab given virt node type ≡ Ok new → IsGiven lab w new
  placed_kept given new (Some v) (Some n) type is lt h = by (has_name (node_at lab (record { 0 = n })).types type) refl h
    where
      by : (b : Bool) → has_name (node_at lab (record { 0 = n })).types type ≡ b → cond b (Ok (place_given given v (record { 0 = n }, type))) (Err kinds.Unknown) ≡ Ok new → IsGiven lab w new
      by true has h = subst (IsGiven lab w) (cc h) (place_kept given v (record { 0 = n }) type is lt has)
      by false has h = absurd (cc h)
  placed_kept given new (Some v) None type is lt h = absurd (cc h)
  placed_kept given new None (Some n) type is lt h = absurd (cc h)
  placed_kept given new None None type is lt h = absurd (cc h)

  plugged_kept : (given new : Given) (end iface : Option ℕ) → IsGiven lab w given → IfSome iface (λ i. i < length lab.ifaces) → plugged_in given end iface ≡ Ok new → IsGiven lab w new
  plugged_kept given new (Some e) (Some i) is lt h = subst (IsGiven lab w) (cc h) (plug_kept given e (record { 0 = i }) is lt)
  plugged_kept given new (Some e) None is lt h = absurd (cc h)
  plugged_kept given new None (Some i) is lt h = absurd (cc h)
  plugged_kept given new None None is lt h = absurd (cc h)

  node_within : (name : List ℕ) → IfSome (node_named lab name) (λ n. n < length lab.nodes)
  node_within name = place_below (λ n. same_name name n.name) lab.nodes

  iface_within : (name : List ℕ) (node : Option ℕ) → IfSome (iface_by lab name node) (λ i. i < length lab.ifaces)
  iface_within name None = tt
  iface_within name (Some node) = place_below _ lab.ifaces

  keyed_kept : (given new : Given) (keyword : List ℕ) (fields : List (List ℕ)) → IsGiven lab w given → line_keyed lab w given keyword fields ≡ Ok new → IsGiven lab w new
  keyed_kept given new keyword fields is h = by (same_name keyword (codes "node")) (same_name keyword (codes "plug")) h
    where
      by : (a b : Bool) → cond a (and_then (place_line fields) (with_place_line lab w given)) (cond b (and_then (plug_line fields) (with_plug_line lab w given)) (Err kinds.Word)) ≡ Ok new → IsGiven lab w new
      by true b h =
          let read = then_ok (place_line fields) (with_place_line lab w given) new h in
          let on = gate (is_given given.places (virt_named w read.0.0)) _ (placed_on lab given (virt_named w read.0.0) (node_named lab read.0.1.0) read.0.1.1) new read.1 in
          placed_kept given new (virt_named w read.0.0) (node_named lab read.0.1.0) read.0.1.1 is (node_within read.0.1.0) on
      by false true h =
          let read = then_ok (plug_line fields) (with_plug_line lab w given) new h in
          let on = gate (is_given given.plugs (end_named w read.0.0)) _ (plugged_in given (end_named w read.0.0) (iface_named lab read.0.1)) new read.1 in
          plugged_kept given new (end_named w read.0.0) (iface_named lab read.0.1) is (iface_within read.0.1.1 (node_named lab read.0.1.0)) on
      by false false h = absurd (cc h)

  given_kept : (given new : Given) (fields : List (List ℕ)) → IsGiven lab w given → line_given lab w given fields ≡ Ok new → IsGiven lab w new
  given_kept given new [] is h = absurd (cc h)
  given_kept given new (keyword ∷ fields) is h = keyed_kept given new keyword fields is h

  nothing_given : IsGiven lab w (nothing w)
  nothing_given =
      record {
        places = length-replicate (length w.nodes) None;
        plugs = length-replicate (length (end_nodes w.segments)) None;
        in_nodes = none_of (λ p. p.0.0 < length lab.nodes) (length w.nodes);
        of_node = none_of (λ p. has_name (node_at lab p.0).types p.1 ≡ true) (length w.nodes);
        in_lab = none_of (λ i. i.0 < length lab.ifaces) (length (end_nodes w.segments));
      }

-- ENTRIES THAT ARE ALL GIVEN

all_are : {X : Type 0} (entries : List (Option X)) (xs : List X) → all_given entries ≡ Some xs → entries ≡ map (λ x. Some x) xs
all_are {X} [] xs h = let none : ◌≡◌ {A = List X} [] xs = cc h in ap (λ (l : List X). map (λ x. Some x) l) none
all_are (None ∷ entries) xs h = absurd (cc h)
all_are {X} (Some x ∷ entries) xs h = by (all_given entries) refl h (λ ys is. all_are entries ys is)
  where
    by : (o : Option (List X)) → all_given entries ≡ o → option_map (λ ys. x ∷ ys) o ≡ Some xs → ((ys : List X) → all_given entries ≡ Some ys → entries ≡ map (λ y. Some y) ys) → Some x ∷ entries ≡ map (λ y. Some y) xs
    by None is h rest = absurd (cc h)
    by (Some ys) is h rest =
        let whole : x ∷ ys ≡ xs = cc h in
        ap (λ (l : List (Option X)). Some x ∷ l) (rest ys is) ∙ ap (λ (l : List X). map (λ y. Some y) l) whole

given_all : {X : Type 0} (P : X → Type 0) (xs : List X) → All (λ entry. IfSome entry P) (map (λ x. Some x) xs) → All P xs
given_all P [] all k d lt = absurd (omega arith)
given_all P (x ∷ xs) all zero d lt = all 0 (Some d) (omega arith)
given_all P (x ∷ xs) all (suc k) d lt = given_all P xs (λ j e g. all (suc j) e (omega arith)) k d (omega arith)

given_length : {X : Type 0} (entries : List (Option X)) (xs : List X) → all_given entries ≡ Some xs → length xs ≡ length entries
given_length {X} entries xs is = sym (ap length (all_are entries xs is) ∙ length-map xs (λ (x : X). Some x))

given_each : {X : Type 0} (P : X → Type 0) (entries : List (Option X)) (xs : List X) → all_given entries ≡ Some xs → All (λ entry. IfSome entry P) entries → All P xs
given_each {X} P entries xs is all = given_all P xs (subst (λ (l : List (Option X)). All (λ entry. IfSome entry P) l) (all_are entries xs is) all)

module _ (lab : Lab) (w : Wiring) where
  mapped_shaped : (line : ℕ) (given : Given) (m : Mapping) → IsGiven lab w given → mapped line (all_given given.places) (all_given given.plugs) ≡ Ok m → IsShaped lab w m
  mapped_shaped line given m is h = by (all_given given.places) (all_given given.plugs) refl refl h
    where
      by : (ps : Option (List Place)) (qs : Option (List IfaceId)) → all_given given.places ≡ ps → all_given given.plugs ≡ qs → mapped line ps qs ≡ Ok m → IsShaped lab w m
      by (Some places) (Some plugs) p q h =
          let same : record { places = places; plugs = plugs } ≡ m = cc h in
          subst (IsShaped lab w) same (record {
            places = given_length given.places places p ∙ is.places;
            plugs = given_length given.plugs plugs q ∙ is.plugs;
            in_nodes = given_each (λ p. p.0.0 < length lab.nodes) given.places places p is.in_nodes;
            in_lab = given_each (λ i. i.0 < length lab.ifaces) given.plugs plugs q is.in_lab;
            of_node = given_each (λ p. has_name (node_at lab p.0).types p.1 ≡ true) given.places places p is.of_node;
          })
      by (Some places) None p q h = absurd (cc h)
      by None (Some plugs) p q h = absurd (cc h)
      by None None p q h = absurd (cc h)

  completed_shaped : (line : ℕ) (lines : List (List ℕ)) (m : Mapping) → completed line (read_from (line_given lab w) 1 (Ok (nothing w)) lines) ≡ Ok m → IsShaped lab w m
  completed_shaped line lines m h = by (read_from (line_given lab w) 1 (Ok (nothing w)) lines) refl h
    where
      by : (r : Result Given TextFault) → read_from (line_given lab w) 1 (Ok (nothing w)) lines ≡ r → completed line r ≡ Ok m → IsShaped lab w m
      by (Ok given) is h = mapped_shaped line given m (lines_keep (line_given lab w) (IsGiven lab w) (given_kept lab w) 1 (nothing w) given lines (nothing_given lab w) is) h
      by (Err fault) is h = absurd (cc h)

  -- A MAPPING THAT A TEXT GIVES IS SHAPED
  pub text_shaped : (text : List ℕ) (m : Mapping) → mapping_of_text lab w text ≡ Ok m → IsShaped lab w m
  text_shaped text m h = completed_shaped (length (lines_of text) + 1) (lines_of text) m h

  pub answer_shaped : (text : List ℕ) (r : Result Mapping TextRefused) → Reads r (mapping_of_text lab w text) → IfOk r (IsShaped lab w)
  answer_shaped text (Ok m) h = text_shaped text m h
  answer_shaped text (Err refused) h = tt
