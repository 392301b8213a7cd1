-- Mappings of one text have the same names.
use Rattle.std.proofs.Common.{◌≡◌, inl, inr, ℕ, suc, true, Result, Ok, Err, List, [], ◌∷◌, ◌++◌, map, length, get_or, drop, refl, sym, ap, ◌∙◌, subst, arith, append_assoc}
use Rattle.std.specs.List.{zip}
use Rattle.std.proofs.lemmas.List.{append-nil}
use Rattle.std.proofs.lemmas.Option.{same_Some}
use Rattle.lab_base.specs.Names.{is_name}
use Rattle.lab_base.specs.Texts.{lines_of}
use Rattle.lab_base.specs.Lists.{Has}
use Rattle.lab_base.specs.declared.fault.Kind.{Kind}
use Rattle.lab_base.specs.declared.fault.TextFault.{TextFault}
use Rattle.lab_base.specs.declared.ids.IfaceId.{IfaceId}
use Rattle.lab_base.proofs.Members.{Has-append, Has-map}
use Rattle.line_text.specs.Pairs.{pair_at}
use Rattle.line_text.specs.Reading.{read_from}
use Rattle.line_text.specs.Printing.{text_of}
use Rattle.line_text.proofs.PartsAgain.{named_pair}
use Rattle.line_text.proofs.LinesAgain.{IsPrinted, Adds, read_again}
use Rattle.phys_lab.specs.Labs.{Lab}
use Rattle.phys_lab.specs.Kept.{IsLab}
use Rattle.virt_topo.specs.Ends.{end_nodes}
use Rattle.virt_topo.specs.Soundness.{IsSound}
use Rattle.virt_topo.specs.declared.wiring.VirtNode.{VirtNode}
use Rattle.virt_topo.specs.declared.wiring.Wiring.{Wiring}
use Rattle.virt_topo.specs.declared.mapping.Mapping.{Mapping}
use Rattle.lab_model.specs.Shapes.{Place, IsShaped, node_at}
use Rattle.lab_model.specs.Uses.{iface_at}
use Rattle.top_text.specs.Printable.{are_named}
use Rattle.solution_text.specs.CanonicalSolution.{end_keys, place_fields, iface_field, plug_fields, mapping_lines, canonical_solution}
use Rattle.solution_text.proofs.SolutionAgain.{place_printed, plug_printed, plug_names}
use Rattle.lab_grow.proofs.Still.{named_place, named_plug, HasSameNames}

abbrev Lines : Type 0
Lines = List (List (List ℕ))

abbrev collect : Lines → List (List ℕ) → Result Lines Kind
collect s line = Ok (s ++ line ∷ [])

collects : (front rest : Lines) → Adds collect front rest (front ++ rest)
collects front [] = sym (append-nil front)
collects front (x ∷ rest) = (front ++ x ∷ [], refl, subst (λ (l : Lines). Adds collect (front ++ x ∷ []) rest l) (append_assoc front (x ∷ []) rest) (collects (front ++ x ∷ []) rest))

abbrev of_ok : Lines → Result Lines TextFault → Lines
of_ok other (Ok x) = x
of_ok other (Err e) = other

abbrev ArePrinted : Lines → Type 0
ArePrinted lines = (line : List (List ℕ)) → Has lines line → IsPrinted line

-- printed lines of one text are the same
same_lines : (xs ys : Lines) → ArePrinted xs → ArePrinted ys → text_of xs ≡ text_of ys → xs ≡ ys
same_lines xs ys first second same =
    let one = read_again collect 1 [] xs xs first (collects [] xs) in
    let two = read_again collect 1 [] ys ys second (collects [] ys) in
    ap (of_ok []) (sym one ∙ ap (λ (t : List ℕ). read_from collect 1 (Ok []) (lines_of t)) same ∙ two)

-- a key for each end
length_keys : (earlier ends : List ℕ) → length (end_keys earlier ends) ≡ length ends
length_keys earlier [] = refl
length_keys earlier (x ∷ ends) = ap suc (length_keys (earlier ++ x ∷ []) ends)

all_printed : (lab : Lab) (w : Wiring) (m : Mapping) → IsLab lab → IsSound w → are_named w.nodes ≡ true → IsShaped lab w m → ArePrinted (mapping_lines lab w m)
all_printed lab w m lab_is sound named shaped line h = elim (Has-append (map (place_fields lab) (zip w.nodes m.places)) (map (plug_fields lab w) (zip (end_keys [] (end_nodes w.segments)) m.plugs)) line h) [
  | inl a ↦ let at = Has-map (place_fields lab) (zip w.nodes m.places) line a in subst IsPrinted at.2 (place_printed lab w m lab_is sound named shaped at.0 at.1)
  | inr b ↦ let at = Has-map (plug_fields lab w) (zip (end_keys [] (end_nodes w.segments)) m.plugs) line b in subst IsPrinted at.2 (plug_printed lab w m lab_is sound named shaped at.0 at.1)
]

-- the names on the lines of places
places_same : (old new : Lab) (vs : List VirtNode) (ps qs : List Place) (a b : Lines) → length ps ≡ length vs → length qs ≡ length vs
    → map (place_fields old) (zip vs ps) ++ a ≡ map (place_fields new) (zip vs qs) ++ b → (map (named_place old) ps ≡ map (named_place new) qs) × (a ≡ b)
places_same old new [] [] [] a b one two e = (refl, e)
places_same old new [] (p ∷ ps) qs a b one two e = absurd (omega (arith, one))
places_same old new [] [] (q ∷ qs) a b one two e = absurd (omega (arith, two))
places_same old new (v ∷ vs) [] qs a b one two e = absurd (omega (arith, one))
places_same old new (v ∷ vs) (p ∷ ps) [] a b one two e = absurd (omega (arith, two))
places_same old new (v ∷ vs) (p ∷ ps) (q ∷ qs) a b one two e =
    let head : place_fields old (v, p) ≡ place_fields new (v, q) = ap (λ (l : Lines). get_or l 0 []) e in
    let name : (node_at old p.0).name ≡ (node_at new q.0).name = ap (λ (l : List (List ℕ)). get_or l 2 []) head in
    let type : p.1 ≡ q.1 = ap (λ (l : List (List ℕ)). get_or l 3 []) head in
    let more = places_same old new vs ps qs a b (omega (arith, one)) (omega (arith, two)) (ap (λ (l : Lines). drop 1 l) e) in
    ((λ i. (name i, type i) ∷ more.0 i), more.1)

abbrev HasNames : Lab → IfaceId → Type 0
HasNames lab i = (is_name (node_at lab (iface_at lab i).node).name ≡ true) × (is_name (iface_at lab i).name ≡ true)

-- the names on the lines of plugs
plugs_same : (old new : Lab) (w : Wiring) (ks : List (ℕ × ℕ)) (is js : List IfaceId) → length is ≡ length ks → length js ≡ length ks
    → ((z : (ℕ × ℕ) × IfaceId) → Has (zip ks is) z → HasNames old z.1) → ((z : (ℕ × ℕ) × IfaceId) → Has (zip ks js) z → HasNames new z.1)
    → map (plug_fields old w) (zip ks is) ≡ map (plug_fields new w) (zip ks js) → map (named_plug old) is ≡ map (named_plug new) js
plugs_same old new w [] [] [] one two first second e = refl
plugs_same old new w [] (i ∷ is) js one two first second e = absurd (omega (arith, one))
plugs_same old new w [] [] (j ∷ js) one two first second e = absurd (omega (arith, two))
plugs_same old new w (k ∷ ks) [] js one two first second e = absurd (omega (arith, one))
plugs_same old new w (k ∷ ks) (i ∷ is) [] one two first second e = absurd (omega (arith, two))
plugs_same old new w (k ∷ ks) (i ∷ is) (j ∷ js) one two first second e =
    let head : plug_fields old w (k, i) ≡ plug_fields new w (k, j) = ap (λ (l : Lines). get_or l 0 []) e in
    let field : iface_field old i ≡ iface_field new j = ap (λ (l : List (List ℕ)). get_or l 2 []) head in
    let mine = first (k, i) (inl refl) in
    let its = second (k, j) (inl refl) in
    let here = named_pair (node_at old (iface_at old i).node).name (iface_at old i).name mine.0 mine.1 in
    let there = named_pair (node_at new (iface_at new j).node).name (iface_at new j).name its.0 its.1 in
    let pair : named_plug old i ≡ named_plug new j = same_Some (named_plug old i) (named_plug new j) (sym here ∙ ap (pair_at 58) field ∙ there) in
    let more = plugs_same old new w ks is js (omega (arith, one)) (omega (arith, two)) (λ z h. first z (inr h)) (λ z h. second z (inr h)) (ap (λ (l : Lines). drop 1 l) e) in
    (λ x. pair x ∷ more x)

-- MAPPINGS OF ONE TEXT, over two labs, have the same names
pub same_names : (old new : Lab) (w : Wiring) (m n : Mapping) → IsLab old → IsLab new → IsSound w → are_named w.nodes ≡ true → IsShaped old w m → IsShaped new w n
    → canonical_solution new w n ≡ canonical_solution old w m → HasSameNames old new m n
same_names old new w m n old_is new_is sound named shaped its same =
    let keys = end_keys [] (end_nodes w.segments) in
    let lines = same_lines (mapping_lines old w m) (mapping_lines new w n) (all_printed old w m old_is sound named shaped) (all_printed new w n new_is sound named its) (sym same) in
    let first = places_same old new w.nodes m.places n.places (map (plug_fields old w) (zip keys m.plugs)) (map (plug_fields new w) (zip keys n.plugs)) shaped.places its.places lines in
    record {
      places = first.0;
      plugs = plugs_same old new w keys m.plugs n.plugs (shaped.plugs ∙ sym (length_keys [] (end_nodes w.segments))) (its.plugs ∙ sym (length_keys [] (end_nodes w.segments)))
          (λ z h. let p = plug_names old w m old_is sound named shaped z h in (p.node, p.iface))
          (λ z h. let p = plug_names new w n new_is sound named its z h in (p.node, p.iface)) first.1;
    }
