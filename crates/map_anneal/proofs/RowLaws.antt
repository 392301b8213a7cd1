-- Known moves of a virtual node, before and after a step.
use Rattle.std.proofs.Common.{◌≡◌, ◌<◌, ◌≤◌, ◌∙◌, inl, inr, ℕ, List, length, replicate, get_or, Bool, true, false, ap, sym, subst, arith, get_or-set_same, get_or-set_other}
use Rattle.std.proofs.Math.ListN.{set}
use Rattle.std.proofs.lemmas.Bool.{cases_eq}
use Rattle.std.proofs.lemmas.List.{length-set, length-replicate, get_or-replicate, get_or-map}
use Rattle.std.proofs.lemmas.List.Elements.{Contains-get_or}
use Rattle.virt_topo.specs.declared.mapping.Mapping.{Mapping}
use Rattle.virt_topo.specs.Soundness.{IsSound}
use Rattle.virt_topo.specs.Wirings.{virt_at}
use Rattle.lab_model.specs.Shapes.{Place, IsShaped, node_at, has_name}
use Rattle.lab_model.specs.Rules.{is_member, no_place, number_of, place_at}
use Rattle.node_maps.specs.Marked.{marks_of}
use Rattle.node_maps.specs.Rooms.{room_of}
use Rattle.node_maps.proofs.Assembled.{parts_of_map}
use Rattle.node_maps.proofs.MapLaws.{mapped_is}
use Rattle.map_state.specs.Hosted.{IsFull, hosted_at}
use Rattle.map_state.proofs.StateLaws.{shaped_at}
use Rattle.map_state.proofs.FullLaws.{overfull}
use Rattle.map_state.proofs.HostingLaws.{guest_more}
use Rattle.map_anneal.specs.Sought.{Sought, candidates_at, mapped, price, IsNodeMap, IsNoCheaper}
use Rattle.map_anneal.specs.RuledOut.{IsNoLess, IsRow}
use Rattle.map_anneal.specs.Steps.{KeepsTypes, IsStep}
use Rattle.map_anneal.proofs.StepLaws.{no_less_beside}

-- no less where F6 is not asked is no less
pub no_cheaper : (s : Sought) (m : Mapping) (places : List Place) → IsNoLess s (price s m) places → IsNoCheaper s m (mapped s places)
no_cheaper s m places least other found =
    let parts = parts_of_map s.lab s.free s.wiring places other found in
    let same = (mapped_is s.lab s.free s.wiring places other found).same_places in
    let le = least other.plugs (record { given = parts.given; shared = parts.shared; typed = parts.typed; joined = parts.joined; ids = parts.ids }) in
    subst (λ (l : List Place). price s m ≤ price s (record { places = l; plugs = other.plugs })) (sym same) le

-- a virtual node may not go to a node that is full
pub full_no_less : (s : Sought) (m : Mapping) (v below : ℕ) (p : Place) → IsShaped s.lab s.wiring m → v < length m.places → p.0.0 < length s.lab.nodes → has_name (node_at s.lab p.0).types p.1 ≡ true → IsFull m.places v (room_of s.lab p)
    → IsNoLess s below (set m.places v p)
full_no_less s m v below p shaped lt node typed full plugs kept =
    let there : get_or (set m.places v p) v no_place ≡ p = get_or-set_same m.places v p no_place lt in
    let more = guest_more m.places v p lt full.0 in
    let most = full.1 in
    let on : ◌≡◌ {A = ℕ} (hosted_at (set m.places v p) (get_or (set m.places v p) v no_place).0.0) (hosted_at (set m.places v p) p.0.0) = ap (λ (q : Place). hosted_at (set m.places v p) q.0.0) there in
    let allowed : ◌≡◌ {A = ℕ} (number_of (node_at s.lab (get_or (set m.places v p) v no_place).0).types (get_or (set m.places v p) v no_place).1) (number_of (node_at s.lab p.0).types p.1) = ap (λ (q : Place). number_of (node_at s.lab q.0).types q.1) there in
    let after = shaped_at s.lab s.wiring m v p shaped node typed in
    let within : v < length (set m.places v p) = omega (arith, lt, length-set m.places v p) in
    absurd (overfull s.lab s.wiring (set m.places v p) v after.places within (omega (arith, most, more, on, allowed)) (kept.shared (get_or (set m.places v p) v no_place).0.0 (after.in_nodes v no_place within)))

-- a row with one more note
pub row_noted : (s : Sought) (m : Mapping) (v number : ℕ) (row : List Bool) (known : Bool) → IsRow s m v row → number < length row
    → (known ≡ true → IsNoLess s (price s m) (set m.places v (get_or (candidates_at s v) number no_place))) → IsRow s m v (set row number known)
row_noted s m v number row known is lt least =
    let count = length-set row number known in
    record {
      one_each = count ∙ is.one_each;
      known = λ k k_lt yes. elim (cases_eq k number) [
        | inl same ↦ subst (λ (j : ℕ). IsNoLess s (price s m) (set m.places v (get_or (candidates_at s v) j no_place))) (sym same)
            (least (sym (get_or-set_same row number known false lt) ∙ ap (λ (j : ℕ). get_or (set row number known) j false) (sym same) ∙ yes))
        | inr apart ↦ is.known k (omega (arith, k_lt, count)) (sym (get_or-set_other row number k known false apart) ∙ yes)
      ];
    }

-- two maps and a step from one to the other
pub record AreTwo (s : Sought) (x y : Mapping) : Type 0 where
  pub sound : IsSound s.wiring
  pub first : IsNodeMap s x
  pub second : IsNodeMap s y

-- what is left of a row: of each note that is left, the node that is taken, the one that is left and the class are untouched
pub record IsLeft (s : Sought) (x y : Mapping) (v : ℕ) (nodes : List Bool) (old new : List Bool) : Type 0 where
  pub count : length new ≡ length old
  pub known : (k : ℕ) → k < length old → get_or new k false ≡ true → get_or old k false ≡ true
  pub taken : (k : ℕ) → k < length old → get_or new k false ≡ true → get_or (marks_of nodes (candidates_at s v)) k true ≡ false
  pub here : (k : ℕ) → k < length old → get_or new k false ≡ true → get_or nodes (place_at x v).0.0 true ≡ false
  pub class : (k : ℕ) → k < length old → get_or new k false ≡ true → (c : ℕ) → is_member c (virt_at s.wiring v).asks ≡ true → KeepsTypes s.wiring x y c

-- AFTER A STEP what is left of a row is so of the next map
pub row_after : (s : Sought) (x y : Mapping) (v : ℕ) (nodes : List Bool) (old new : List Bool) → AreTwo s x y → v < length s.wiring.nodes → IsStep s.lab s.wiring x y nodes → IsRow s x v old → IsLeft s x y v nodes old new → IsRow s y v new
row_after s x y v nodes old new two v_in step is left =
    let all = left.count in
    let each = is.one_each in
    record {
      one_each = left.count ∙ is.one_each;
      known = λ k lt yes.
          let k_lt : k < length old = omega (arith, lt, all) in
          let among : k < length (candidates_at s v) = omega (arith, k_lt, each) in
          let p = get_or (candidates_at s v) k no_place in
          let off : get_or nodes p.0.0 true ≡ false =
          sym (get_or-map (λ (q : Place). get_or nodes q.0.0 true) (candidates_at s v) k no_place true among) ∙ left.taken k k_lt yes in
          no_less_beside s x y step.still v p (record {
            sound = two.sound;
            first = two.first;
            second = two.second;
            still_so = step.still_so;
            within = v_in;
            taken = step.aside p.0.0 off;
            left = step.aside (place_at x v).0.0 (left.here k k_lt yes);
            class = left.class k k_lt yes;
          }) (Contains-get_or (candidates_at s v) k no_place among) (is.known k k_lt (left.known k k_lt yes));
    }

-- a row of which nothing is known
pub fresh_row : (s : Sought) (m : Mapping) (v n : ℕ) → n ≡ length (candidates_at s v) → IsRow s m v (replicate n false)
fresh_row s m v n is =
    let count = length-replicate n false in
    record {
      one_each = count ∙ is;
      known = λ k lt yes. absurd (let both : false ≡ true = sym (get_or-replicate n k false false (omega (arith, lt, count))) ∙ yes in cc both);
    }
