-- The canonical text of a mapping is read as the mapping.
use Rattle.std.proofs.Common.{◌≡◌, ℕ, zero, suc, ◌+◌, ◌<◌, ◌≤◌, Bool, true, false, not, cond, eqb, ◌||◌, List, [], ◌∷◌, ◌++◌, length, get_or, map, set, Option, Some, None, Result, Ok, Err, refl, sym, ap, subst, ◌∙◌, arith, inl, inr, append_assoc, length-append}
use Rattle.std.specs.Prelude.{codes, decimal, is_some, option_map, replicate}
use Rattle.std.specs.List.{list_all, zip}
use Rattle.std.proofs.Math.ListN.{get_or-map}
use Rattle.std.proofs.lemmas.Bool.{and_parts, lt-ltb}
use Rattle.std.proofs.lemmas.List.{append-nil, length-map, map-append, get_or_default}
use Rattle.std.proofs.Math.Seq.{get_or-append_seam, set-append_seam}
use Rattle.lab_base.specs.Names.{is_name, same_name}
use Rattle.lab_base.specs.Kinds.{both_of}
use Rattle.lab_base.specs.Texts.{lines_of}
use Rattle.lab_base.specs.Lists.{Has}
use Rattle.lab_base.specs.declared.fault.Kind.{Kind}
use Rattle.lab_base.specs.declared.fault.Kind.TheVariants as kinds
use Rattle.lab_base.specs.declared.ids.NodeId.{NodeId}
use Rattle.lab_base.specs.declared.ids.IfaceId.{IfaceId}
use Rattle.lab_base.proofs.Members.{Has-append, Has-map, Has-get_or}
use Rattle.lab_base.proofs.Bytes.{bytes_same}
use Rattle.virt_topo.specs.Wirings.{no_virt}
use Rattle.line_text.specs.Reading.{and_then}
use Rattle.line_text.specs.Printing.{with_number}
use Rattle.line_text.proofs.PartsAgain.{IsPlain, plain_name, plain_number, plain_pair, name_again, named_pair, numbered_again}
use Rattle.line_text.proofs.LinesAgain.{IsPrinted, Adds, adds_append, read_again}
use Rattle.line_text.proofs.Plain.{none, more}
use Rattle.phys_lab.specs.Labs.{Lab}
use Rattle.phys_lab.specs.Kept.{IsLab}
use Rattle.phys_lab.specs.declared.parts.Iface.{Iface}
use Rattle.phys_lab.specs.Faults.{is_type}
use Rattle.virt_topo.specs.declared.wiring.VirtNode.{VirtNode}
use Rattle.virt_topo.specs.declared.wiring.Wiring.{Wiring}
use Rattle.virt_topo.specs.declared.mapping.Mapping.{Mapping}
use Rattle.virt_topo.specs.Soundness.{IsSound, end_if, end_of}
use Rattle.virt_topo.specs.Ends.{end_nodes, end_number}
use Rattle.virt_topo.proofs.CableLaws.{limits_of, passes_at}
use Rattle.lab_model.specs.Shapes.{Place, IsShaped, has_name, no_node, node_at}
use Rattle.lab_model.specs.Uses.{no_iface, iface_at}
use Rattle.lab_model.proofs.WiringLaws.{sound_ends}
use Rattle.top_text.specs.Adding.{virt_named}
use Rattle.top_text.specs.Canonical.{virt_name}
use Rattle.top_text.specs.Printable.{are_named}
use Rattle.solution_text.specs.declared.given.Given.{Given}
use Rattle.solution_text.specs.Solutions.{PlaceRead, PlugRead, node_named, iface_on, iface_by, end_by, pair_parts, pair_of, plug_given, place_line, plug_line, with_place, with_place_line, placed_on, place_given, with_plug, with_plug_line, line_given, all_given, nothing, completed, mapped, mapping_of_text}
use Rattle.solution_text.specs.CanonicalSolution.{end_keys, place_fields, iface_field, plug_fields, mapping_lines, canonical_solution}
use Rattle.top_text.proofs.SoundTests.{sound_tests}
use Rattle.top_text.proofs.PipeCount.{ends_of}
use Rattle.solution_text.proofs.EndKeys.{count_few, number_at, keys_length}
use Rattle.solution_text.proofs.OwnNames.{node_own, iface_own}
use Rattle.solution_text.proofs.ZipLaws.{zip_length}
use Rattle.top_text.proofs.OwnPlaces.{virt_own}

-- LINES OF A LIST, WITH WHAT IS STILL TO COME

pub adds_split : {S X : Type 0} (add : S → List (List ℕ) → Result S Kind) (line : X → List (List ℕ)) (state : List X → List X → S) (front rest : List X)
    → ((a : List X) (x : X) (b : List X) → a ++ x ∷ b ≡ front ++ rest → add (state a (x ∷ b)) (line x) ≡ Ok (state (a ++ x ∷ []) b)) → Adds add (state front rest) (map line rest) (state (front ++ rest) [])
adds_split {S} {X} add line state front [] step = ap (λ (l : List X). state l []) (sym (append-nil front))
adds_split {S} {X} add line state front (x ∷ rest) step =
    let whole = append_assoc front (x ∷ []) rest in (
      state (front ++ x ∷ []) rest,
      step front x rest refl,
      subst (λ l. Adds add (state (front ++ x ∷ []) rest) (map line rest) (state l [])) whole (adds_split add line state (front ++ x ∷ []) rest (λ a y b e. step a y b (e ∙ whole))),
    )

-- ENTRIES SO FAR

-- the entries of the first values, and of those still to come
abbrev pub entries : {X Y : Type 0} → (X → Y) → List X → List X → List (Option Y)
entries f front rest = map (λ x. Some (f x)) front ++ map (λ x. None) rest

entry_free : {X Y : Type 0} (f : X → Y) (front : List X) (x : X) (rest : List X) → get_or (entries f front (x ∷ rest)) (length front) None ≡ None
entry_free {X} {Y} f front x rest =
    ap (λ (n : ℕ). get_or (entries f front (x ∷ rest)) n None) (sym (length-map front (λ (x : X). Some (f x))))
    ∙ get_or-append_seam (map (λ x. Some (f x)) front) None (map (λ x. None) rest) None

entry_set : {X Y : Type 0} (f : X → Y) (front : List X) (x : X) (rest : List X) → set (entries f front (x ∷ rest)) (length front) (Some (f x)) ≡ entries f (front ++ x ∷ []) rest
entry_set {X} {Y} f front x rest =
    ap (λ (n : ℕ). set (entries f front (x ∷ rest)) n (Some (f x))) (sym (length-map front (λ (x : X). Some (f x))))
    ∙ set-append_seam (map (λ x. Some (f x)) front) None (map (λ x. None) rest) (Some (f x))
    ∙ sym (append_assoc (map (λ x. Some (f x)) front) (Some (f x) ∷ []) (map (λ x. None) rest))
    ∙ ap (λ (l : List (Option Y)). l ++ map (λ x. None) rest) (sym (map-append (λ x. Some (f x)) front (x ∷ [])))

all_entries : {X Y : Type 0} (f : X → Y) (xs : List X) → all_given (entries f xs []) ≡ Some (map f xs)
all_entries f [] = refl
all_entries {X} {Y} f (x ∷ xs) = ap (λ (o : Option (List Y)). option_map (λ ys. f x ∷ ys) o) (all_entries f xs)

no_entries : {X Y : Type 0} (f : X → Y) (xs : List X) (n : ℕ) → length xs ≡ n → entries f [] xs ≡ replicate n None
no_entries f [] zero e = refl
no_entries f [] (suc n) e = absurd (omega arith)
no_entries f (x ∷ xs) zero e = absurd (omega arith)
no_entries {X} {Y} f (x ∷ xs) (suc n) e = ap (λ (l : List (Option Y)). None ∷ l) (no_entries f xs n (omega arith))

seconds : {X Y : Type 0} (xs : List X) (ys : List Y) → length ys ≡ length xs → map (λ z. z.1) (zip xs ys) ≡ ys
seconds [] [] e = refl
seconds [] (y ∷ ys) e = absurd (omega arith)
seconds (x ∷ xs) [] e = absurd (omega arith)
seconds {X} {Y} (x ∷ xs) (y ∷ ys) e = ap (λ (l : List Y). y ∷ l) (seconds xs ys (omega arith))

-- WHERE A PAIR OF TWO LISTS STANDS

pub record IsPair {X Y : Type 0} (xs : List X) (ys : List Y) (n : ℕ) (z : X × Y) : Type 0 where
  pub first : z.0 ≡ get_or xs n z.0
  pub second : z.1 ≡ get_or ys n z.1
  pub within : n < length xs
  pub beside : n < length ys

pair_at : {X Y : Type 0} (front : List (X × Y)) (z : X × Y) (rest : List (X × Y)) (xs : List X) (ys : List Y) → front ++ z ∷ rest ≡ zip xs ys → IsPair xs ys (length front) z
pair_at [] z rest [] ys e = absurd (cc e)
pair_at [] z rest (x ∷ xs) [] e = absurd (cc e)
pair_at {X} {Y} [] z rest (x ∷ xs) (y ∷ ys) e =
    let same : ◌≡◌ {A = X × Y} z (x, y) = cc e in
    record { first = ap (λ (p : X × Y). p.0) same; second = ap (λ (p : X × Y). p.1) same; within = omega arith; beside = omega arith }
pair_at (f ∷ front) z rest [] ys e = absurd (cc e)
pair_at (f ∷ front) z rest (x ∷ xs) [] e = absurd (cc e)
pair_at {X} {Y} (f ∷ front) z rest (x ∷ xs) (y ∷ ys) e =
    let same : front ++ z ∷ rest ≡ zip xs ys = cc e in
    let p = pair_at front z rest xs ys same in
    record { first = p.first; second = p.second; within = omega (arith, p.within); beside = omega (arith, p.beside) }

-- NAMES THAT ARE PRINTED ARE NAMES

virt_is_name : (nodes : List VirtNode) (i : ℕ) (v : VirtNode) → are_named nodes ≡ true → i < length nodes → v ≡ get_or nodes i v → is_name v.name ≡ true
virt_is_name nodes i v named lt is = passes_at (λ (n : VirtNode). is_name n.name) nodes i v named lt is

node_is_name : (lab : Lab) → IsLab lab → (n : NodeId) → n.0 < length lab.nodes → is_name (node_at lab n).name ≡ true
node_is_name lab is n lt = (and_parts (is_name (node_at lab n).name) _ (is.nodes (node_at lab n) (Has-get_or lab.nodes n.0 no_node lt)).ranges).0

type_is_name : (types : List (List ℕ × ℕ)) (type : List ℕ) → list_all is_type types ≡ true → has_name types type ≡ true → is_name type ≡ true
type_is_name [] type all has = absurd (cc has)
type_is_name (t ∷ types) type all has = by (same_name t.0 type) refl has (λ h. type_is_name types type (and_parts (is_type t) _ all).1 h)
  where
    by : (b : Bool) → same_name t.0 type ≡ b → (b || has_name types type) ≡ true → (has_name types type ≡ true → is_name type ≡ true) → is_name type ≡ true
    by true same has rest = subst (λ (k : List ℕ). is_name k ≡ true) (bytes_same t.0 type same) (and_parts (is_name t.0) _ (and_parts (is_type t) _ all).0).0
    by false same has rest = rest has

place_is_name : (lab : Lab) → IsLab lab → (n : NodeId) (type : List ℕ) → n.0 < length lab.nodes → has_name (node_at lab n).types type ≡ true → is_name type ≡ true
place_is_name lab is n type lt has =
    let whole = (is.nodes (node_at lab n) (Has-get_or lab.nodes n.0 no_node lt)).ranges in
    let some = (and_parts (is_name (node_at lab n).name) _ whole).1 in
    let types = (and_parts (not (eqb (length (node_at lab n).types) 0)) _ some).1 in
    type_is_name (node_at lab n).types type (and_parts (list_all is_type (node_at lab n).types) _ types).0 has

iface_is_name : (lab : Lab) → IsLab lab → (i : IfaceId) → i.0 < length lab.ifaces → is_name (iface_at lab i).name ≡ true
iface_is_name lab is i lt = (and_parts (is_name (iface_at lab i).link) _ (and_parts _ _ (is.ifaces (iface_at lab i) (Has-get_or lab.ifaces i.0 no_iface lt))).0).1

-- PLACES

module _ (lab : Lab) (w : Wiring) (m : Mapping) (lab_is : IsLab lab) (sound : IsSound w) (named : are_named w.nodes ≡ true) (shaped : IsShaped lab w m) where
  pub place_adds : (plugs : List (Option IfaceId)) (front : List (VirtNode × Place)) (z : VirtNode × Place) (rest : List (VirtNode × Place)) → front ++ z ∷ rest ≡ [] ++ zip w.nodes m.places
      → line_given lab w (record { places = entries (λ z. z.1) front (z ∷ rest); plugs = plugs }) (place_fields lab z) ≡ Ok (record { places = entries (λ z. z.1) (front ++ z ∷ []) rest; plugs = plugs })
  place_adds plugs front z rest e =
      let p = pair_at front z rest w.nodes m.places e in
      let node : z.1.0.0 < length lab.nodes = subst (λ (q : Place). q.0.0 < length lab.nodes) (sym p.second) (shaped.in_nodes (length front) z.1 p.beside) in
      let type : has_name (node_at lab z.1.0).types z.1.1 ≡ true = subst (λ (q : Place). has_name (node_at lab q.0).types q.1 ≡ true) (sym p.second) (shaped.of_node (length front) z.1 p.beside) in
      let given : Given = record { places = entries (λ z. z.1) front (z ∷ rest); plugs = plugs } in
      let read : place_line (z.0.name ∷ (node_at lab z.1.0).name ∷ z.1.1 ∷ []) ≡ Ok (z.0.name, ((node_at lab z.1.0).name, z.1.1)) =
      λ j. both_of (name_again z.0.name (virt_is_name w.nodes (length front) z.0 named p.within p.first) j)
      (both_of (name_again (node_at lab z.1.0).name (node_is_name lab lab_is z.1.0 node) j) (name_again z.1.1 (place_is_name lab lab_is z.1.0 z.1.1 node type) j)) in
      ap (λ (r : Result PlaceRead Kind). and_then r (with_place_line lab w given)) read
      ∙ (λ j. with_place lab given (virt_own w sound (length front) z.0 p.within p.first j) (node_own lab lab_is z.1.0 node j) z.1.1)
      ∙ ap (λ (o : Option Place). cond (is_some o) (Err kinds.Twice) (placed_on lab given (Some (length front)) (Some z.1.0.0) z.1.1)) (entry_free (λ (z : VirtNode × Place). z.1) front z rest)
      ∙ ap (λ (b : Bool). cond b (Ok (place_given given (length front) (z.1.0, z.1.1))) (Err kinds.Unknown)) type
      ∙ ap (λ (l : List (Option Place)). Ok (record { places = l; plugs = plugs })) (entry_set (λ (z : VirtNode × Place). z.1) front z rest)

-- PLUGS

pub record IsPlugged (earlier ends : List ℕ) (plugs : List IfaceId) (n : ℕ) (z : (ℕ × ℕ) × IfaceId) : Type 0 where
  pub before : List ℕ
  pub behind : List ℕ
  pub is : ends ≡ before ++ z.0.0 ∷ behind
  pub count : length before ≡ n
  pub number : z.0.1 ≡ ends_of z.0.0 (earlier ++ before)
  pub plug : z.1 ≡ get_or plugs n z.1
  pub beside : n < length plugs

plug_at : (front : List ((ℕ × ℕ) × IfaceId)) (z : (ℕ × ℕ) × IfaceId) (rest : List ((ℕ × ℕ) × IfaceId)) (earlier ends : List ℕ) (plugs : List IfaceId) → front ++ z ∷ rest ≡ zip (end_keys earlier ends) plugs → IsPlugged earlier ends plugs (length front) z
plug_at [] z rest earlier [] plugs e = absurd (cc e)
plug_at [] z rest earlier (v ∷ ends) [] e = absurd (cc e)
plug_at [] z rest earlier (v ∷ ends) (y ∷ plugs) e =
    let same : ◌≡◌ {A = (ℕ × ℕ) × IfaceId} z ((v, ends_of v earlier), y) = cc e in
    let node : z.0.0 ≡ v = ap (λ (p : (ℕ × ℕ) × IfaceId). p.0.0) same in
    record {
      before = [];
      behind = ends;
      is = ap (λ (x : ℕ). x ∷ ends) (sym node);
      count = refl;
      number = ap (λ (p : (ℕ × ℕ) × IfaceId). p.0.1) same ∙ sym (λ i. ends_of (node i) (append-nil earlier i));
      plug = ap (λ (p : (ℕ × ℕ) × IfaceId). p.1) same;
      beside = omega arith;
    }
plug_at (f ∷ front) z rest earlier [] plugs e = absurd (cc e)
plug_at (f ∷ front) z rest earlier (v ∷ ends) [] e = absurd (cc e)
plug_at (f ∷ front) z rest earlier (v ∷ ends) (y ∷ plugs) e =
    let same : front ++ z ∷ rest ≡ zip (end_keys (earlier ++ v ∷ []) ends) plugs = cc e in
    let p = plug_at front z rest (earlier ++ v ∷ []) ends plugs same in
    record {
      before = v ∷ p.before;
      behind = p.behind;
      is = ap (λ (l : List ℕ). v ∷ l) {y = p.before ++ z.0.0 ∷ p.behind} p.is;
      count = ap suc p.count;
      number = p.number ∙ ap (ends_of z.0.0) (append_assoc earlier (v ∷ []) p.before);
      plug = p.plug;
      beside = omega (arith, p.beside);
    }

-- the end after `before` has its number
end_own : (w : Wiring) (before behind : List ℕ) (v : ℕ) → end_nodes w.segments ≡ before ++ v ∷ behind → end_of w v (ends_of v before) ≡ Some (length before)
end_own w before behind v is =
    let number : end_number (end_nodes w.segments) v (ends_of v before) ≡ length before = ap (λ (l : List ℕ). end_number l v (ends_of v before)) is ∙ number_at v before behind in
    let within : length before < length (end_nodes w.segments) = omega (arith, ap length is, length-append before (v ∷ behind)) in
    ap (end_if (length (end_nodes w.segments))) number ∙ ap (λ (b : Bool). cond b (Some (length before)) None) (lt-ltb (length before) (length (end_nodes w.segments)) within)

module _ (lab : Lab) (w : Wiring) (m : Mapping) (lab_is : IsLab lab) (sound : IsSound w) (named : are_named w.nodes ≡ true) (shaped : IsShaped lab w m) where
  pub plug_adds : (places : List (Option Place)) (front : List ((ℕ × ℕ) × IfaceId)) (z : (ℕ × ℕ) × IfaceId) (rest : List ((ℕ × ℕ) × IfaceId)) → front ++ z ∷ rest ≡ [] ++ zip (end_keys [] (end_nodes w.segments)) m.plugs
      → line_given lab w (record { places = places; plugs = entries (λ z. z.1) front (z ∷ rest) }) (plug_fields lab w z) ≡ Ok (record { places = places; plugs = entries (λ z. z.1) (front ++ z ∷ []) rest })
  plug_adds places front z rest e =
      let ends = end_nodes w.segments in
      let p = plug_at front z rest [] ends m.plugs e in
      let v = z.0.0 in
      let n = length p.before in
      let within : n < length ends = omega (arith, ap length p.is, length-append p.before (v ∷ p.behind)) in
      let few : length ends ≤ 4096 = (limits_of w (sound_tests w sound).limits).ends in
      let at : get_or ends n 0 ≡ v = ap (λ (l : List ℕ). get_or l n 0) p.is ∙ get_or-append_seam p.before v p.behind 0 in
      let node : v < length w.nodes = subst (λ (x : ℕ). x < length w.nodes) at (sound_ends w sound n within) in
      let virt : VirtNode = get_or w.nodes v no_virt in
      let virt_is : virt ≡ get_or w.nodes v virt = get_or_default w.nodes v no_virt virt node in
      let name : virt_name w v ≡ virt.name = get_or-map (λ (x : VirtNode). x.name) w.nodes v no_virt in
      let plug : z.1.0 < length lab.ifaces = subst (λ (q : IfaceId). q.0 < length lab.ifaces) (sym p.plug) (shaped.in_lab (length front) z.1 p.beside) in
      let iface = iface_at lab z.1 in
      let on : iface.node.0 < length lab.nodes = subst (λ (q : Iface). q.node.0 < length lab.nodes) (get_or_default lab.ifaces z.1.0 no_iface no_iface plug) (lab_is.linked.nodes z.1.0 no_iface plug) in
      let small : z.0.1 ≤ 65535 = omega (arith, p.number, count_few v p.before, within, few) in
      let printed : is_name virt.name ≡ true = virt_is_name w.nodes v virt named node virt_is in
      let given : Given = record { places = places; plugs = entries (λ z. z.1) front (z ∷ rest) } in
      let own : virt_named w virt.name ≡ Some v = virt_own w sound v virt node virt_is in
      let own_end : end_of w v z.0.1 ≡ Some (length front) = ap (end_of w v) p.number ∙ end_own w p.before p.behind v p.is ∙ ap (λ (k : ℕ). Some k) p.count in
      let own_node : node_named lab (node_at lab iface.node).name ≡ Some iface.node.0 = node_own lab lab_is iface.node on in
      let own_iface : iface_on lab iface.node.0 iface.name ≡ Some z.1.0 = iface_own lab lab_is z.1 plug in
      let read : plug_line (with_number (virt.name, z.0.1) ∷ iface_field lab z.1 ∷ []) ≡ Ok ((virt.name, z.0.1), ((node_at lab iface.node).name, iface.name)) =
      λ j. both_of (numbered_again 0 65535 virt.name z.0.1 printed (omega arith) small (omega arith) j)
      (both_again (node_at lab iface.node).name iface.name (node_is_name lab lab_is iface.node on) (iface_is_name lab lab_is z.1 plug) j) in
      ap (λ (k : List ℕ). and_then (plug_line (with_number (k, z.0.1) ∷ iface_field lab z.1 ∷ [])) (with_plug_line lab w given)) name
      ∙ ap (λ (r : Result PlugRead Kind). and_then r (with_plug_line lab w given)) read
      ∙ (λ j. with_plug given (end_by w z.0.1 (own j)) (iface_by lab iface.name (own_node j)))
      ∙ (λ j. with_plug given (own_end j) (own_iface j))
      ∙ ap (λ (o : Option IfaceId). cond (is_some o) (Err kinds.Twice) (Ok (plug_given given (length front) (record { 0 = z.1.0 })))) (entry_free (λ (z : (ℕ × ℕ) × IfaceId). z.1) front z rest)
      ∙ ap (λ (l : List (Option IfaceId)). Ok (record { places = places; plugs = l })) (entry_set (λ (z : (ℕ × ℕ) × IfaceId). z.1) front z rest)
    where
      both_again : (a b : List ℕ) → is_name a ≡ true → is_name b ≡ true → pair_of (a ++ 58 ∷ b) ≡ Ok (a, b)
      both_again a b x y = ap pair_parts (named_pair a b x y) ∙ (λ j. both_of (name_again a x j) (name_again b y j))

-- NAMES ON A LINE

pub record PlaceNames (lab : Lab) (z : VirtNode × Place) : Type 0 where
  pub virt : is_name z.0.name ≡ true
  pub node : is_name (node_at lab z.1.0).name ≡ true
  pub type : is_name z.1.1 ≡ true

pub record PlugNames (lab : Lab) (w : Wiring) (z : (ℕ × ℕ) × IfaceId) : Type 0 where
  pub virt : is_name (virt_name w z.0.0) ≡ true
  pub few : z.0.1 < 4096
  pub node : is_name (node_at lab (iface_at lab z.1).node).name ≡ true
  pub iface : is_name (iface_at lab z.1).name ≡ true

split : {X : Type 0} (xs : List X) (x : X) → Has xs x → (front : List X) × (rest : List X) × (front ++ x ∷ rest ≡ xs)
split [] x h = absurd h
split {X} (y ∷ xs) x (inl e) = ([], xs, ap (λ (v : X). v ∷ xs) (sym e))
split {X} (y ∷ xs) x (inr h) = let r = split xs x h in (y ∷ r.0, r.1, ap (λ (l : List X). y ∷ l) r.2)

-- WHAT IS PRINTED IS PLAIN

module _ (lab : Lab) (w : Wiring) (m : Mapping) (lab_is : IsLab lab) (sound : IsSound w) (named : are_named w.nodes ≡ true) (shaped : IsShaped lab w m) where
  pub place_names : (z : VirtNode × Place) → Has (zip w.nodes m.places) z → PlaceNames lab z
  place_names z h =
      let at = split (zip w.nodes m.places) z h in
      let p = pair_at at.0 z at.1 w.nodes m.places at.2 in
      let node : z.1.0.0 < length lab.nodes = subst (λ (q : Place). q.0.0 < length lab.nodes) (sym p.second) (shaped.in_nodes (length at.0) z.1 p.beside) in
      let type : has_name (node_at lab z.1.0).types z.1.1 ≡ true = subst (λ (q : Place). has_name (node_at lab q.0).types q.1 ≡ true) (sym p.second) (shaped.of_node (length at.0) z.1 p.beside) in
      record {
        virt = virt_is_name w.nodes (length at.0) z.0 named p.within p.first;
        node = node_is_name lab lab_is z.1.0 node;
        type = place_is_name lab lab_is z.1.0 z.1.1 node type;
      }

  pub plug_names : (z : (ℕ × ℕ) × IfaceId) → Has (zip (end_keys [] (end_nodes w.segments)) m.plugs) z → PlugNames lab w z
  plug_names z h =
      let ends = end_nodes w.segments in
      let at = split (zip (end_keys [] ends) m.plugs) z h in
      let p = plug_at at.0 z at.1 [] ends m.plugs at.2 in
      let v = z.0.0 in
      let n = length p.before in
      let within : n < length ends = omega (arith, ap length p.is, length-append p.before (v ∷ p.behind)) in
      let few : length ends ≤ 4096 = (limits_of w (sound_tests w sound).limits).ends in
      let here : get_or ends n 0 ≡ v = ap (λ (l : List ℕ). get_or l n 0) p.is ∙ get_or-append_seam p.before v p.behind 0 in
      let node : v < length w.nodes = subst (λ (x : ℕ). x < length w.nodes) here (sound_ends w sound n within) in
      let virt : VirtNode = get_or w.nodes v no_virt in
      let name : virt_name w v ≡ virt.name = get_or-map (λ (x : VirtNode). x.name) w.nodes v no_virt in
      let plug : z.1.0 < length lab.ifaces = subst (λ (q : IfaceId). q.0 < length lab.ifaces) (sym p.plug) (shaped.in_lab (length at.0) z.1 p.beside) in
      let on : (iface_at lab z.1).node.0 < length lab.nodes = lab_is.linked.nodes z.1.0 no_iface plug in
      record {
        virt = subst (λ (k : List ℕ). is_name k ≡ true) (sym name) (virt_is_name w.nodes v virt named node (get_or_default w.nodes v no_virt virt node));
        few = omega (arith, p.number, count_few v p.before, within, few);
        node = node_is_name lab lab_is (iface_at lab z.1).node on;
        iface = iface_is_name lab lab_is z.1 plug;
      }

  word_node : IsPlain (codes "node")
  word_node = record { filled = refl; no_blank = refl; no_feed = refl }

  word_plug : IsPlain (codes "plug")
  word_plug = record { filled = refl; no_blank = refl; no_feed = refl }

  mapping_adds : Adds (line_given lab w) (nothing w) (mapping_lines lab w m) (record { places = entries (λ z. z.1) (zip w.nodes m.places) []; plugs = entries (λ z. z.1) (zip (end_keys [] (end_nodes w.segments)) m.plugs) [] })
  mapping_adds =
      let placed = zip w.nodes m.places in
      let plugged = zip (end_keys [] (end_nodes w.segments)) m.plugs in
      let keys : length m.plugs ≡ length (end_keys [] (end_nodes w.segments)) = shaped.plugs ∙ sym (keys_length [] (end_nodes w.segments)) in
      let start : record { places = entries (λ z. z.1) [] placed; plugs = entries (λ z. z.1) [] plugged } ≡ nothing w =
      λ j. record {
        places = no_entries (λ (z : VirtNode × Place). z.1) placed (length w.nodes) (zip_length w.nodes m.places shaped.places) j;
        plugs = no_entries (λ (z : (ℕ × ℕ) × IfaceId). z.1) plugged (length (end_nodes w.segments)) (zip_length (end_keys [] (end_nodes w.segments)) m.plugs keys ∙ keys_length [] (end_nodes w.segments)) j;
      } in
      subst (λ (g : Given). Adds (line_given lab w) g (mapping_lines lab w m) (record { places = entries (λ z. z.1) placed []; plugs = entries (λ z. z.1) plugged [] })) start
      (adds_append (line_given lab w)
      (record { places = entries (λ z. z.1) [] placed; plugs = entries (λ z. z.1) [] plugged })
      (record { places = entries (λ z. z.1) placed []; plugs = entries (λ z. z.1) [] plugged })
      (record { places = entries (λ z. z.1) placed []; plugs = entries (λ z. z.1) plugged [] })
      (map (place_fields lab) placed) (map (plug_fields lab w) plugged)
      (adds_split (line_given lab w) (place_fields lab) (λ a b. record { places = entries (λ z. z.1) a b; plugs = entries (λ z. z.1) [] plugged }) [] placed (place_adds lab w m lab_is sound named shaped (entries (λ z. z.1) [] plugged)))
      (adds_split (line_given lab w) (plug_fields lab w) (λ a b. record { places = entries (λ z. z.1) placed []; plugs = entries (λ z. z.1) a b }) [] plugged (plug_adds lab w m lab_is sound named shaped (entries (λ z. z.1) placed []))))

  pub place_printed : (z : VirtNode × Place) → Has (zip w.nodes m.places) z → IsPrinted (place_fields lab z)
  place_printed z h =
      let is = place_names z h in
      record { kept = refl; plain = (more _ _ word_node (more _ _ (plain_name z.0.name is.virt) (more _ _ (plain_name (node_at lab z.1.0).name is.node) (more _ _ (plain_name z.1.1 is.type) none)))).each }

  pub plug_printed : (z : (ℕ × ℕ) × IfaceId) → Has (zip (end_keys [] (end_nodes w.segments)) m.plugs) z → IsPrinted (plug_fields lab w z)
  plug_printed z h =
      let is = plug_names z h in
      let iface = iface_at lab z.1 in
      record {
        kept = refl;
        plain = (more _ _ word_plug (more _ _ (plain_pair (virt_name w z.0.0) (decimal z.0.1) (plain_name (virt_name w z.0.0) is.virt) (plain_number z.0.1 (omega (arith, is.few))))
            (more _ _ (plain_pair (node_at lab iface.node).name iface.name (plain_name (node_at lab iface.node).name is.node) (plain_name iface.name is.iface)) none))).each;
      }

  mapping_printed : (line : List (List ℕ)) → Has (mapping_lines lab w m) line → IsPrinted line
  mapping_printed line h = elim (Has-append (map (place_fields lab) (zip w.nodes m.places)) (map (plug_fields lab w) (zip (end_keys [] (end_nodes w.segments)) m.plugs)) line h) [
    | inl a ↦ let at = Has-map (place_fields lab) (zip w.nodes m.places) line a in subst IsPrinted at.2 (place_printed at.0 at.1)
    | inr b ↦ let at = Has-map (plug_fields lab w) (zip (end_keys [] (end_nodes w.segments)) m.plugs) line b in subst IsPrinted at.2 (plug_printed at.0 at.1)
  ]

  -- WHAT IS PRINTED IS READ AS THE MAPPING
  pub canonical_again : mapping_of_text lab w (canonical_solution lab w m) ≡ Ok m
  canonical_again =
      let placed = zip w.nodes m.places in
      let plugged = zip (end_keys [] (end_nodes w.segments)) m.plugs in
      let line = length (lines_of (canonical_solution lab w m)) + 1 in
      let keys : length m.plugs ≡ length (end_keys [] (end_nodes w.segments)) = shaped.plugs ∙ sym (keys_length [] (end_nodes w.segments)) in
      ap (completed line) (read_again (line_given lab w) 1 (nothing w) (record { places = entries (λ z. z.1) placed []; plugs = entries (λ z. z.1) plugged [] }) (mapping_lines lab w m) mapping_printed mapping_adds)
      ∙ (λ j. mapped line (all_entries (λ (z : VirtNode × Place). z.1) placed j) (all_entries (λ (z : (ℕ × ℕ) × IfaceId). z.1) plugged j))
      ∙ (λ j. Ok (record { places = seconds w.nodes m.places shaped.places j; plugs = seconds (end_keys [] (end_nodes w.segments)) m.plugs keys j }))
