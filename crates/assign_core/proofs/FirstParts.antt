-- The parts of a cost by the first places alone: one place more, those of a whole mapping, and a mapping that has them.
use Rattle.std.proofs.Common.{◌≡◌, ◌<◌, ◌≤◌, ◌+◌, ◌∙◌, ◌++◌, ◌∷◌, [], inl, inr, ℕ, zero, suc, List, length, map, get_or, Bool, true, false, cond, eqb, Option, Some, None, refl, sym, ap, subst, arith, length-append, append_assoc}
use Rattle.std.specs.Prelude.{not, ◌&&◌, ◌||◌, nat_le, ◌==◌}
use Rattle.std.specs.List.{list_all, list_any}
use Rattle.std.proofs.lemmas.Bool.{and_parts, cases_eq, ne_eqb}
use Rattle.std.proofs.lemmas.Bool.Decides.{Decides-eqb, nat_tests}
use Rattle.std.proofs.lemmas.List.{append-nil, map-append, get_or_append_left}
use Rattle.std.proofs.lemmas.List.Elements.{All-append, All-cons}
use Rattle.std.proofs.Math.Seq.{get_or-append_seam}
use Rattle.lab_base.specs.Names.{same_name}
use Rattle.lab_base.proofs.Tests.{or_first, or_rest}
use Rattle.phys_lab.specs.Labs.{Lab}
use Rattle.phys_lab.specs.Kept.{IsLab}
use Rattle.virt_topo.specs.declared.fault.WiringFault.{WiringFault}
use Rattle.virt_topo.specs.declared.fault.WiringFault.TheVariants as faults
use Rattle.virt_topo.specs.declared.wiring.Asks.TheVariants.{Plain}
use Rattle.virt_topo.specs.declared.wiring.VirtNode.{VirtNode}
use Rattle.virt_topo.specs.declared.wiring.Wiring.{Wiring}
use Rattle.virt_topo.specs.declared.mapping.Mapping.{Mapping}
use Rattle.virt_topo.specs.Repeats.{stands_again}
use Rattle.virt_topo.specs.Soundness.{IsSound, keeps_limits, limits_node, knows_all, knows_class, has_twice, has_same, has_bad_pipe, asks_class_name}
use Rattle.virt_topo.specs.Wirings.{no_virt}
use Rattle.virt_topo.proofs.CableLaws.{sound_limits}
use Rattle.virt_topo.proofs.MoreLaws.{once_of}
use Rattle.phys_lab.specs.declared.parts.Node.{Node}
use Rattle.lab_model.specs.Shapes.{Place, node_at, has_name}
use Rattle.lab_model.specs.Rules.{no_place}
use Rattle.cost_rule.specs.declared.parts.Parts.{Parts}
use Rattle.cost_rule.specs.declared.rule.RuleNumber.{RuleNumber}
use Rattle.cost_rule.specs.declared.rule.RuleNumber.TheVariants as numbers
use Rattle.cost_rule.specs.Cost.{cost, sum_below, different, same_node, missed, soft_at, node_soft, soft, nodes_in_use}
use Rattle.cost_rule.specs.Parts.{parts_of, cost_of_parts, AreParts}
use Rattle.cost_rule.proofs.Different.{within, new_if}
use Rattle.cost_rule.proofs.PartLaws.{nodes_small, soft_small}
use Rattle.cost_rule.proofs.Sums.{sum_more, sum_same}
use Rattle.cost_rule.proofs.UseLaws.{parts_without_uses}
use Rattle.node_maps.specs.NodeMaps.{ArePlaces}
use Rattle.map_state.specs.Hosted.{hosted_at}
use Rattle.map_state.proofs.HostedNodeLaws.{one_if}
use Rattle.map_state.proofs.HostingLaws.{any_counted, hosted_of}
use Rattle.assign_core.specs.Prefixes.{first_soft, first_parts}

-- NODES IN USE
abbrev nodes_of : List Place → List ℕ
nodes_of places = map (λ (q : Place). q.0.0) places

-- one place more is on a node more where none is there
pub used_more : (places : List Place) (p : Place)
    → different same_node (nodes_of (places ++ p ∷ [])) ≡ different same_node (nodes_of places) + one_if (eqb (hosted_at places p.0.0) 0)
used_more places p =
    let xs = nodes_of places in
    let n = p.0.0 in
    ap (different same_node) (map-append (λ (q : Place). q.0.0) places (p ∷ [])) ∙ within same_node Decides-eqb xs [] n
    ∙ ap (λ (l : List ℕ). different same_node l + new_if (list_any (same_node n) l)) (append-nil xs)
    ∙ ap (λ (k : ℕ). different same_node xs + k) (any_counted n xs ∙ ap (λ (k : ℕ). one_if (eqb k 0)) (sym (hosted_of places n)))

nodes_grow : (places rest : List Place) → different same_node (nodes_of places) ≤ different same_node (nodes_of (places ++ rest))
nodes_grow places [] = subst (λ (l : List Place). different same_node (nodes_of places) ≤ different same_node (nodes_of l)) (sym (append-nil places)) (omega arith)
nodes_grow places (p ∷ rest) =
    let more = used_more places p in
    let later = nodes_grow (places ++ p ∷ []) rest in
    let same : ◌≡◌ {A = ℕ} (different same_node (nodes_of ((places ++ p ∷ []) ++ rest))) (different same_node (nodes_of (places ++ p ∷ rest))) =
    ap (λ (l : List Place). different same_node (nodes_of l)) (append_assoc places (p ∷ []) rest) in
    omega (arith, more, later, same)

-- SOFT
abbrev soft_by : Lab → Wiring → List Place → ℕ → ℕ
soft_by lab w places v = soft_at lab w v (get_or places v no_place).0

pub soft_more : (lab : Lab) (w : Wiring) (places : List Place) (p : Place)
    → first_soft lab w (places ++ p ∷ []) ≡ first_soft lab w places + soft_at lab w (length places) p.0
soft_more lab w places p =
    let n = length places in
    let all = places ++ p ∷ [] in
    let longer : ◌≡◌ {A = ℕ} (sum_below (length all) (soft_by lab w all)) (sum_below (n + 1) (soft_by lab w all)) =
    ap (λ (k : ℕ). sum_below k (soft_by lab w all)) (length-append places (p ∷ [])) in
    let step = sum_more n (soft_by lab w all) in
    let same = sum_same n (soft_by lab w all) (soft_by lab w places) (λ k lt. ap (λ (q : Place). soft_at lab w k q.0) (get_or_append_left places (p ∷ []) no_place k lt)) in
    let last : ◌≡◌ {A = ℕ} (soft_by lab w all n) (soft_at lab w n p.0) = ap (λ (q : Place). soft_at lab w n q.0) (get_or-append_seam places p [] no_place) in
    omega (arith, longer, step, same, last)

sums_grow : (n m : ℕ) (f : ℕ → ℕ) → n ≤ m → sum_below n f ≤ sum_below m f
sums_grow n zero f le =
    let none : n ≡ 0 = omega (arith, le) in
    let same : ◌≡◌ {A = ℕ} (sum_below n f) 0 = ap (λ (k : ℕ). sum_below k f) none in
    omega (arith, same)
sums_grow n (suc m) f le = elim (cases_eq n (suc m)) [
  | inl is ↦ (let same : ◌≡◌ {A = ℕ} (sum_below n f) (sum_below (suc m) f) = ap (λ (k : ℕ). sum_below k f) is in omega (arith, same))
  | inr apart ↦ (let rest = sums_grow n m f (omega (arith, le, apart)) in omega (arith, rest))
]

soft_grows : (lab : Lab) (w : Wiring) (m : Mapping) (places rest : List Place) → m.places ≡ places ++ rest → length places ≤ length w.nodes
    → first_soft lab w places ≤ soft lab w m
soft_grows lab w m places rest is le =
    let n = length places in
    let same = sum_same n (soft_by lab w places) (node_soft lab w m) (λ v lt.
    ap (λ (q : Place). soft_at lab w v q.0) (sym (ap (λ (l : List Place). get_or l v no_place) is ∙ get_or_append_left places rest no_place v lt))) in
    let more = sums_grow n (length w.nodes) (node_soft lab w m) le in
    omega (arith, same, more)

-- A MAPPING THAT BEGINS SO costs at least as much
pub first_below : (number : RuleNumber) (lab : Lab) (w : Wiring) (m : Mapping) (places rest : List Place) → m.places ≡ places ++ rest → length places ≤ length w.nodes
    → cost_of_parts number (first_parts lab w places) ≤ cost number lab w m
unfolding cost cost_of_parts
first_below numbers.Trunk lab w m places rest is le = let less = soft_grows lab w m places rest is le in omega (arith, less)
first_below numbers.Pack lab w m places rest is le =
    let less = soft_grows lab w m places rest is le in
    let fewer = nodes_grow places rest in
    let same : ◌≡◌ {A = ℕ} (nodes_in_use m) (different same_node (nodes_of (places ++ rest))) = ap (λ (l : List Place). different same_node (nodes_of l)) is in
    omega (arith, less, fewer, same)

-- THE FIRST VIRTUAL NODES ALONE, each asking for a type
abbrev plain : VirtNode → VirtNode
plain v = record { name = v.name; asks = Plain []; desires = v.desires; os = v.os; fixed = v.fixed }

abbrev first_nodes : ℕ → List VirtNode → List VirtNode
first_nodes zero vs = []
first_nodes (suc n) [] = []
first_nodes (suc n) (v ∷ vs) = plain v ∷ first_nodes n vs

abbrev first_wiring : ℕ → Wiring → Wiring
first_wiring n w = record { classes = []; nodes = first_nodes n w.nodes; segments = []; pipes = [] }

first_count : (n : ℕ) (vs : List VirtNode) → n ≤ length vs → length (first_nodes n vs) ≡ n
first_count zero vs le = refl
first_count (suc n) [] le = absurd (omega (arith, le))
first_count (suc n) (v ∷ vs) le = ap suc (first_count n vs (omega (arith, le)))

first_desires : (n : ℕ) (vs : List VirtNode) (k : ℕ) → k < n → n ≤ length vs → (get_or (first_nodes n vs) k no_virt).desires ≡ (get_or vs k no_virt).desires
first_desires zero vs k lt le = absurd (omega (arith, lt))
first_desires (suc n) [] k lt le = absurd (omega (arith, le))
first_desires (suc n) (v ∷ vs) zero lt le = refl
first_desires (suc n) (v ∷ vs) (suc k) lt le = first_desires n vs k (omega (arith, lt)) (omega (arith, le))

-- what passes all of them, and what none of them
first_all : (f g : VirtNode → Bool) → ((v : VirtNode) → g v ≡ true → f (plain v) ≡ true) → (n : ℕ) (vs : List VirtNode) → list_all g vs ≡ true → list_all f (first_nodes n vs) ≡ true
first_all f g passes zero vs all = refl
first_all f g passes (suc n) [] all = refl
first_all f g passes (suc n) (v ∷ vs) all =
    let parts = and_parts (g v) (list_all g vs) all in
    (λ j. passes v parts.0 j && first_all f g passes n vs parts.1 j)

first_none : (f g : VirtNode → Bool) → ((v : VirtNode) → g v ≡ false → f (plain v) ≡ false) → (n : ℕ) (vs : List VirtNode) → list_any g vs ≡ false → list_any f (first_nodes n vs) ≡ false
first_none f g fails zero vs none = refl
first_none f g fails (suc n) [] none = refl
first_none f g fails (suc n) (v ∷ vs) none =
    (λ j. fails v (or_first (g v) (list_any g vs) none) j || first_none f g fails n vs (or_rest (g v) (list_any g vs) none) j)

abbrev same_named : VirtNode → VirtNode → Bool
same_named a b = same_name a.name b.name

first_once : (n : ℕ) (vs : List VirtNode) → stands_again same_named vs ≡ false → stands_again same_named (first_nodes n vs) ≡ false
first_once zero vs once = refl
first_once (suc n) [] once = refl
first_once (suc n) (v ∷ vs) once =
    let here = or_first (list_any (same_named v) vs) (stands_again same_named vs) once in
    let later = or_rest (list_any (same_named v) vs) (stands_again same_named vs) once in
    (λ j. first_none (same_named (plain v)) (same_named v) (λ x is. is) n vs here j || first_once n vs later j)

-- THEIR WIRING IS SOUND
later_none : (b : Bool) (f : WiringFault) (rest : Option WiringFault) → cond b (Some f) rest ≡ None → rest ≡ None
later_none true f rest is = absurd (cc is)
later_none false f rest is = is

not_twice : (w : Wiring) → IsSound w → has_twice w ≡ false
not_twice w sound =
    by (has_twice w) (later_none (not (knows_all w)) _ _ (later_none (not (keeps_limits w)) _ _ sound))
  where
    by : (b : Bool) → cond b (Some faults.Twice) (cond (has_same w) (Some faults.Same) (cond (has_bad_pipe w) (Some faults.Pipe) (cond (length w.nodes == 0) (Some faults.Empty) None))) ≡ None → b ≡ false
    by true is = absurd (cc is)
    by false is = refl

keeps_first : (a b : Bool) → a ≡ true → b ≡ true → (true && (a && (true && (true && (true && (b && (true && true))))))) ≡ true
keeps_first a b few limits = (λ j. few j && (limits j && true))

twice_first : (a b c : Bool) → a ≡ false → b ≡ false → c ≡ false → (false || (a || (false || (false || (b || (false || c)))))) ≡ false
twice_first a b c one two three = (λ j. one j || (two j || three j))

faultless : (a b c d : Bool) → a ≡ true → b ≡ true → c ≡ false → d ≡ false
    → cond (not a) (Some faults.Limit) (cond (not b) (Some faults.Unknown) (cond c (Some faults.Twice) (cond d (Some faults.Empty) None))) ≡ None
faultless a b c d ha hb hc hd = (λ j. cond (not (ha j)) (Some faults.Limit) (cond (not (hb j)) (Some faults.Unknown) (cond (hc j) (Some faults.Twice) (cond (hd j) (Some faults.Empty) None))))

first_sound : (w : Wiring) (n : ℕ) → IsSound w → 0 < n → n ≤ length w.nodes → IsSound (first_wiring n w)
first_sound w n sound some le =
    let own = sound_limits w sound in
    let once = once_of w (not_twice w sound) in
    let vs = first_nodes n w.nodes in
    let count = first_count n w.nodes le in
    let few : nat_le (length vs) 256 ≡ true = (let most = own.nodes in let less : length vs ≤ 256 = omega (arith, most, le, count) in grind (arith, nat_tests)) in
    let limits = keeps_first (nat_le (length vs) 256) (list_all limits_node vs) few (first_all limits_node limits_node (λ v is. is) n w.nodes own.each_node) in
    let known : list_all (λ (v : VirtNode). knows_class (first_wiring n w) v.asks) vs ≡ true =
    first_all (λ (v : VirtNode). knows_class (first_wiring n w) v.asks) limits_node (λ v is. refl) n w.nodes own.each_node in
    let names = first_once n w.nodes once.nodes in
    let desires = first_none (λ (v : VirtNode). stands_again (λ (a b : List ℕ × ℕ). same_name a.0 b.0) v.desires) (λ (v : VirtNode). stands_again (λ (a b : List ℕ × ℕ). same_name a.0 b.0) v.desires) (λ v is. is) n w.nodes once.desires in
    let asked : list_any (λ (v : VirtNode). asks_class_name [] v.asks) vs ≡ false =
    first_none (λ (v : VirtNode). asks_class_name [] v.asks) (λ (v : VirtNode). stands_again (λ (a b : List ℕ × ℕ). same_name a.0 b.0) v.desires) (λ v is. refl) n w.nodes once.desires in
    let empty : (length vs == 0) ≡ false = ne_eqb (length vs) 0 (λ e. absurd (omega (arith, e, count, some))) in
    faultless (keeps_limits (first_wiring n w)) (knows_all (first_wiring n w)) (has_twice (first_wiring n w)) (length vs == 0)
    limits (λ j. known j && (true && true))
    (twice_first (stands_again same_named vs) (list_any (λ (v : VirtNode). stands_again (λ (a b : List ℕ × ℕ). same_name a.0 b.0) v.desires) vs) (list_any (λ (v : VirtNode). asks_class_name [] v.asks) vs) names desires asked) empty

-- one place of the lab more
pub placed_more : (lab : Lab) (places : List Place) (p : Place) → ArePlaces lab places → p.0.0 < length lab.nodes → has_name (node_at lab p.0).types p.1 ≡ true
    → ArePlaces lab (places ++ p ∷ [])
placed_more lab places p are node typed =
    let In : Place → Type 0 = λ q. q.0.0 < length lab.nodes in
    let Typed : Place → Type 0 = λ q. has_name (node_at lab q.0).types q.1 ≡ true in
    record {
      in_nodes = All-append In places (p ∷ []) are.in_nodes (All-cons In p [] node (λ k d lt. absurd (omega (arith, lt))));
      of_node = All-append Typed places (p ∷ []) are.of_node (All-cons Typed p [] typed (λ k d lt. absurd (omega (arith, lt))));
    }

-- THE PARTS ARE THOSE OF A MAPPING
pub are_first_parts : (lab : Lab) (w : Wiring) (places : List Place) → IsLab lab → IsSound w → 0 < length places → length places ≤ length w.nodes → ArePlaces lab places
    → AreParts (first_parts lab w places)
are_first_parts lab w places kept sound some le are =
    let n = length places in
    let v = first_wiring n w in
    let m : Mapping = record { places = places; plugs = [] } in
    let count = first_count n w.nodes le in
    let whole : AreParts (parts_of lab v m) = record {
      lab = lab;
      wiring = v;
      mapping = m;
      kept = kept;
      sound = first_sound w n sound some le;
      shaped = record { places = sym count; plugs = refl; in_nodes = are.in_nodes; in_lab = λ k d lt. absurd (omega (arith, lt)); of_node = are.of_node };
      are = refl;
    } in
    let longer : ◌≡◌ {A = ℕ} (sum_below (length v.nodes) (node_soft lab v m)) (sum_below n (node_soft lab v m)) = ap (λ (k : ℕ). sum_below k (node_soft lab v m)) count in
    let each = sum_same n (node_soft lab v m) (soft_by lab w places) (λ k lt.
    ap (λ (d : List (List ℕ × ℕ)). missed d (node_of k).features + missed (node_of k).features d) (first_desires n w.nodes k lt le)) in
    let same : soft lab v m ≡ first_soft lab w places = omega (arith, longer, each) in
    subst (λ (s : ℕ). AreParts (record { uses = 0; nodes = nodes_in_use m; soft = s })) same (parts_without_uses (parts_of lab v m) whole)
  where
    node_of : ℕ → Node
    node_of k = node_at lab (get_or places k no_place).0

-- they are small
pub first_small : (lab : Lab) (w : Wiring) (places : List Place) → IsLab lab → IsSound w → length places ≤ length w.nodes → ArePlaces lab places
    → ((first_parts lab w places).nodes ≤ 256) × ((first_parts lab w places).soft ≤ 1000000000)
first_small lab w [] kept sound le are = (omega arith, omega arith)
first_small lab w (p ∷ places) kept sound le are =
    let parts = are_first_parts lab w (p ∷ places) kept sound (omega arith) le are in
    let nodes = nodes_small parts.lab parts.wiring parts.mapping parts.sound parts.shaped in
    let soft = soft_small parts.lab parts.wiring parts.mapping parts.kept parts.sound parts.shaped in
    let same_nodes = ap (λ (q : Parts). q.nodes) parts.are in
    let same_soft = ap (λ (q : Parts). q.soft) parts.are in
    (omega (arith, nodes, same_nodes), omega (arith, soft, same_soft))
