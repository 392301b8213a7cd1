-- Node maps from what is kept of them.
use Rattle.std.proofs.Common.{◌≡◌, ◌≢◌, ◌<◌, ◌≤◌, ◌+◌, ◌∙◌, ◌∷◌, [], inl, inr, ℕ, zero, suc, List, length, drop, map, filter, get_or, Bool, true, false, cond, eqb, not, nat_le, ◌==◌, ◌&&◌, ◌||◌, Option, Some, None, All, refl, ap, sym, subst, arith}
use Rattle.std.specs.Prelude.{codes, IsTrue, ◌↔◌}
use Rattle.std.specs.List.{list_all, remove, count_by}
use Rattle.std.proofs.Math.ListN.{set}
use Rattle.std.proofs.lemmas.Bool.{and_parts, cases_eq, eq-eqb, eqb-true, ne_eqb}
use Rattle.std.proofs.lemmas.Bool.Decides.{nat_tests}
use Rattle.std.proofs.lemmas.List.{length-map, length-set, get_or-map}
use Rattle.std.proofs.lemmas.List.Elements.{All-cons, All-take, All-drop, All-set, All-append, All-filter}
use Rattle.std.proofs.lemmas.List.Sums.{sum_by-cons}
use Rattle.std.proofs.lemmas.Option.{same_Some}
use Rattle.lab_base.specs.declared.ids.IfaceId.{IfaceId}
use Rattle.phys_lab.specs.declared.free.Free.{Free}
use Rattle.phys_lab.specs.Labs.{Lab}
use Rattle.phys_lab.specs.Kept.{IsLab}
use Rattle.lab_base.specs.Names.{is_name, same_name}
use Rattle.lab_base.proofs.Members.{Has-get_or}
use Rattle.phys_lab.specs.Faults.{is_type}
use Rattle.phys_lab.specs.Sides.{joined}
use Rattle.virt_topo.specs.Soundness.{IsSound}
use Rattle.virt_topo.specs.Cables.{cables}
use Rattle.virt_topo.specs.declared.wiring.Segment.{Segment}
use Rattle.virt_topo.specs.declared.wiring.VirtNode.{VirtNode}
use Rattle.virt_topo.specs.declared.wiring.Wiring.{Wiring}
use Rattle.virt_topo.specs.declared.mapping.Mapping.{Mapping}
use Rattle.virt_topo.proofs.CableLaws.{sound_limits}
use Rattle.lab_model.specs.Shapes.{Place, IsShaped, node_at, no_node, has_name}
use Rattle.lab_model.specs.Uses.{switch_of, no_iface}
use Rattle.lab_model.specs.Rules.{agree, hosted, HostedNode, number_of, no_place, no_cable, cable_at, keeps_f6, keeps_f7, keeps_f8}
use Rattle.lab_model.specs.Feasible.{AllPass}
use Rattle.lab_model.proofs.CutLaws.{cut_is_use}
use Rattle.trunk_sums.specs.declared.made.Change.{Change}
use Rattle.trunk_sums.specs.declared.sums.EndRow.{EndRow}
use Rattle.trunk_sums.specs.declared.sums.Sums.{Sums}
use Rattle.trunk_sums.specs.Remade.{remade, AreChanges}
use Rattle.trunk_sums.specs.Summed.{IsSummed, IsRow}
use Rattle.node_maps.specs.declared.ends.End.{End}
use Rattle.node_maps.specs.NodeMaps.{candidates, IsChoice, ends_of, plugs_from, plugs_of, node_map}
use Rattle.node_maps.specs.Moved.{may_share, has_class_type, AlikeBut}
use Rattle.node_maps.proofs.Assembled.{map_of_parts, parts_of_map, no_map}
use Rattle.node_maps.proofs.EndLists.{on_nodes, same_length}
use Rattle.node_maps.proofs.MapLaws.{mapped_is}
use Rattle.node_maps.proofs.MovedLaws.{shared_all}
use Rattle.node_maps.proofs.Shaped.{plugs_within}
use Rattle.map_state.specs.declared.search.Search.{Search}
use Rattle.map_state.specs.Nodes.{is_on, numbers_of, with_plugs, changes_of, no_row, no_end}
use Rattle.map_state.specs.Tables.{AreAllJoined, IsSearch}
use Rattle.map_state.specs.Hosted.{hosted_at, placed_at}
use Rattle.map_state.specs.States.{IsPlanned, Was}
use Rattle.map_state.proofs.HostingLaws.{guest_left}
use Rattle.map_state.proofs.WhereLaws.{numbers_alike, numbered_ends, with_length, remade_both, remade_where}
use Rattle.node_maps.specs.Indexed.{AreOrdered}
use Rattle.node_maps.proofs.OrderLaws.{ordered}
use Rattle.map_state.proofs.GivenAnew.{count_given, given_anew, filter_placed}

-- F2 where at most one virtual node is on a node
abbrev has_codes : List ℕ → Bool
has_codes name = same_name name (codes "switch")

-- a type's count is 1 at least
some_of : (a b c d : Bool) → a && ((b && c) && d) ≡ true → b ≡ true
some_of a b c d e = (and_parts b c (and_parts (b && c) d (and_parts a ((b && c) && d) e).1).0).0

one_of : (n : ℕ) → nat_le 1 n ≡ true → 1 ≤ n
one_of n e = grind (arith, nat_tests)

type_counts : (p : List ℕ × ℕ) → is_type p ≡ true → 1 ≤ p.1
type_counts p e = one_of p.1 (some_of (is_name p.0) (nat_le 1 p.1) (nat_le p.1 1000) (not (has_codes p.0)) e)

counted_type : (types : List (List ℕ × ℕ)) (name : List ℕ) → list_all is_type types ≡ true → has_name types name ≡ true → 1 ≤ number_of types name
counted_type [] name are has = absurd (cc has)
counted_type (p ∷ types) name are has =
    let parts = and_parts (is_type p) (list_all is_type types) are in
    by_name p types name (same_name p.0 name) refl (type_counts p parts.0) has (λ later. counted_type types name parts.1 later)
  where
    by_name : (p : List ℕ × ℕ) (types : List (List ℕ × ℕ)) (name : List ℕ) (b : Bool) → same_name p.0 name ≡ b → 1 ≤ p.1 → has_name (p ∷ types) name ≡ true
        → (has_name types name ≡ true → 1 ≤ number_of types name) → 1 ≤ cond (same_name p.0 name) p.1 (number_of types name)
    by_name p types name true is one has later = let at : ◌≡◌ {A = ℕ} (cond (same_name p.0 name) p.1 (number_of types name)) p.1 = ap (λ (b : Bool). cond b p.1 (number_of types name)) is in omega (arith, at, one)
    by_name p types name false is one has later =
        let at : ◌≡◌ {A = ℕ} (cond (same_name p.0 name) p.1 (number_of types name)) (number_of types name) = ap (λ (b : Bool). cond b p.1 (number_of types name)) is in
        let rest = later (sym (ap (λ (b : Bool). b || has_name types name) is) ∙ has) in
        omega (arith, at, rest)

one_agrees : (types : List (List ℕ × ℕ)) (gs : List HostedNode) → length gs ≤ 1 → All (λ (g : HostedNode). 1 ≤ number_of types g.0) gs → agree types gs ≡ true
one_agrees types [] few each = refl
one_agrees types (g ∷ []) few each = let one = each 0 g (omega arith) in grind (arith, nat_tests)
one_agrees types (g ∷ h ∷ gs) few each = absurd (omega (arith, few))

guests_each : (On : HostedNode → Type 0) (vs : List VirtNode) (places : List Place) (n : ℕ) → ((k : ℕ) (d : Place) (os : List ℕ) → k < length places → (get_or places k d).0.0 ≡ n → On ((get_or places k d).1, os)) → All On (hosted vs places n)
guests_each On [] places n each = λ k d lt. absurd (omega (arith, lt))
guests_each On (v ∷ vs) [] n each = λ k d lt. absurd (omega (arith, lt))
guests_each On (v ∷ vs) (p ∷ places) n each =
    by (eqb p.0.0 n) refl (guests_each On vs places n (λ k d os lt is. each (suc k) d os (omega (arith, lt)) is))
  where
    by : (b : Bool) → eqb p.0.0 n ≡ b → All On (hosted vs places n) → All On (cond b ((p.1, v.os) ∷ hosted vs places n) (hosted vs places n))
    by true is rest zero d lt = each 0 p v.os (omega arith) (eqb-true p.0.0 n is)
    by true is rest (suc k) d lt = rest k d (omega (arith, lt))
    by false is rest k d lt = rest k d lt

few_hosted : (vs : List VirtNode) (places : List Place) (n : ℕ) → length (hosted vs places n) ≤ hosted_at places n
few_hosted [] places n = omega arith
few_hosted (v ∷ vs) [] n = omega arith
few_hosted (v ∷ vs) (p ∷ places) n =
    let step = sum_by-cons (λ (q : Place). cond (eqb q.0.0 n) 1 0) p places in
    by (eqb p.0.0 n) refl step (few_hosted vs places n)
  where
    by : (b : Bool) → eqb p.0.0 n ≡ b → hosted_at (p ∷ places) n ≡ cond (eqb p.0.0 n) 1 0 + hosted_at places n → length (hosted vs places n) ≤ hosted_at places n
        → length (cond b ((p.1, v.os) ∷ hosted vs places n) (hosted vs places n)) ≤ hosted_at (p ∷ places) n
    by true is step rest = let one : ◌≡◌ {A = ℕ} (cond (eqb p.0.0 n) 1 0) 1 = ap (λ (b : Bool). cond b 1 0) is in omega (arith, step, rest, one)
    by false is step rest = omega (arith, step, rest)

-- one virtual node at least may have a type of a node there
pub counted_at : (lab : Lab) (n : ℕ) (name : List ℕ) → IsLab lab → n < length lab.nodes → has_name (node_at lab (record { 0 = n })).types name ≡ true
    → 1 ≤ number_of (node_at lab (record { 0 = n })).types name
counted_at lab n name is lt has =
    let types = (node_at lab (record { 0 = n })).types in
    let whole = is.nodes (node_at lab (record { 0 = n })) (Has-get_or lab.nodes n no_node lt) in
    let ranges = (and_parts _ _ (and_parts _ _ (and_parts _ _ whole.ranges).1).1).0 in
    counted_type types name ranges has

pub alone_shares : (lab : Lab) (w : Wiring) (m : Mapping) (n : ℕ) → IsLab lab → IsShaped lab w m → n < length lab.nodes → hosted_at m.places n ≤ 1 → may_share lab w m.places n ≡ true
alone_shares lab w m n is shaped lt few =
    let types = (node_at lab (record { 0 = n })).types in
    one_agrees types (hosted w.nodes m.places n) (let count = few_hosted w.nodes m.places n in omega (arith, count, few))
    (guests_each (λ (g : HostedNode). 1 ≤ number_of types g.0) w.nodes m.places n (λ k d os k_lt on.
    counted_at lab n (get_or m.places k d).1 is lt
    (ap (λ (j : ℕ). has_name (node_at lab (record { 0 = j })).types (get_or m.places k d).1) (sym on) ∙ shaped.of_node k d k_lt)))

-- F7 where all switches are joined
pub all_true : {X : Type 0} (p : X → Bool) (xs : List X) → All (λ x. p x ≡ true) xs → list_all p xs ≡ true
all_true p [] each = refl
all_true p (x ∷ xs) each = ap (λ (b : Bool). b && list_all p xs) (each 0 x (omega arith)) ∙ all_true p xs (λ k d lt. each (suc k) d (omega (arith, lt)))

pub each_true : {X : Type 0} (p : X → Bool) (xs : List X) → list_all p xs ≡ true → All (λ x. p x ≡ true) xs
each_true p [] is = λ k d lt. absurd (omega (arith, lt))
each_true p (x ∷ xs) is = let parts = and_parts (p x) (list_all p xs) is in All-cons (λ y. p y ≡ true) x xs parts.0 (each_true p xs parts.1)

cable_in : (P : IfaceId → Type 0) (segments : List Segment) (plugs : List IfaceId) (s : ℕ) → All P plugs → All P (get_or (cables segments plugs) s no_cable).plugs
cable_in P [] plugs s all = λ k d lt. absurd (omega (arith, lt))
cable_in P (x ∷ segments) plugs zero all = All-take P (length x.ends) plugs all
cable_in P (x ∷ segments) plugs (suc s) all = cable_in P segments (drop (length x.ends) plugs) s (All-drop P (length x.ends) plugs all)

pub joined_all : (lab : Lab) (w : Wiring) (m : Mapping) (s : ℕ) → IsLab lab → AreAllJoined lab → IsShaped lab w m → keeps_f7 lab w m s ≡ true
joined_all lab w m s is all shaped =
    let plugs = (cable_at w m s).plugs in
    let within = cable_in (λ i. i.0 < length lab.ifaces) w.segments m.plugs s shaped.in_lab in
    let at : (k : ℕ) (d : IfaceId) → k < length plugs → switch_of lab (get_or plugs k d) < length lab.switches = λ k d lt.
    is.linked.switches (get_or plugs k d).0 no_iface (within k d lt) in
    all_true (λ i. list_all (λ j. joined lab.trunks (switch_of lab i) (switch_of lab j)) plugs) plugs
    (λ k d lt. all_true (λ j. joined lab.trunks (switch_of lab (get_or plugs k d)) (switch_of lab j)) plugs
    (λ j e j_lt. all (switch_of lab (get_or plugs k d)) (switch_of lab (get_or plugs j e)) (at k d lt) (at j e j_lt)))

room_at : (lab : Lab) (free : Free) (w : Wiring) (m : Mapping) (x : Sums) (t : ℕ) → IsSummed lab w m.plugs x → IsShaped lab w m → t < length lab.trunks
    → nat_le (get_or x.uses.items t 0) (get_or free.left t 0) ≡ keeps_f6 lab free w m t
room_at lab free w m x t summed shaped lt = ap (λ (n : ℕ). nat_le n (get_or free.left t 0)) (summed.uses t lt ∙ cut_is_use lab w m t shaped.in_lab)

-- what is known of a mapping whose plugs the rule gave, and whose places differ from those of a node map on two nodes alone
pub record Fresh (lab : Lab) (free : Free) (w : Wiring) (m : Mapping) (a b : ℕ) (last : List Place) (old : List IfaceId) : Type 0 where
  pub kept : IsLab lab
  pub sound : IsSound w
  pub choice : IsChoice (candidates lab free w) m.places
  pub shaped : IsShaped lab w m
  pub first : a < length lab.nodes
  pub second : b < length lab.nodes
  pub mapped : node_map lab free w last ≡ Some (record { places = last; plugs = old })
  pub alike : AlikeBut a b m.places last
  pub given : plugs_of lab w m.places ≡ Some m.plugs

-- what is known of a mapping whose plugs the rule gave, whose nodes are all shared as they may be, and for whose segments there are VLAN ids
pub record Shared (lab : Lab) (free : Free) (w : Wiring) (m : Mapping) : Type 0 where
  pub kept : IsLab lab
  pub sound : IsSound w
  pub choice : IsChoice (candidates lab free w) m.places
  pub shaped : IsShaped lab w m
  pub given : plugs_of lab w m.places ≡ Some m.plugs
  pub shared : AllPass (length lab.nodes) (may_share lab w m.places)
  pub ids : keeps_f8 free w ≡ true

-- F3's words on classes, and F7, of all
pub record Asked (lab : Lab) (w : Wiring) (m : Mapping) : Type 0 where
  pub typed : AllPass (length w.nodes) (has_class_type w m.places)
  pub joined : AllPass (length w.segments) (keeps_f7 lab w m)

-- the uses that are kept tell whether each trunk has room
pub fits_by_sums : (lab : Lab) (free : Free) (w : Wiring) (m : Mapping) (x : Sums) (b : Bool) → IsShaped lab w m → IsSummed lab w m.plugs x
    → (IsTrue b ↔ AllPass (length x.uses.items) (λ t. nat_le (get_or x.uses.items t 0) (get_or free.left t 0)))
    → (IsTrue b ↔ AllPass (length lab.trunks) (keeps_f6 lab free w m))
fits_by_sums lab free w m x b shaped summed room = (
  (λ yes t lt. sym (room_at lab free w m x t summed shaped lt) ∙ room.0 yes t (let count = summed.one_each in omega (arith, lt, count))),
  (λ fits. room.1 (λ t lt. let within : t < length lab.trunks = (let count = summed.one_each in omega (arith, lt, count)) in room_at lab free w m x t summed shaped within ∙ fits t within)),
)

-- THEN ROOM ON THE TRUNKS DECIDES
pub whole_by_room : (lab : Lab) (free : Free) (w : Wiring) (m : Mapping) (b : Bool) → Shared lab free w m → Asked lab w m
    → (IsTrue b ↔ AllPass (length lab.trunks) (keeps_f6 lab free w m))
    → node_map lab free w m.places ≡ cond b (Some m) None
whole_by_room lab free w m true f asked room =
    map_of_parts lab free w m.places m.plugs f.sound f.choice (record {
      given = f.given;
      shared = f.shared;
      typed = asked.typed;
      room = room.0 refl;
      joined = asked.joined;
      ids = f.ids;
    })
whole_by_room lab free w m false f asked room =
    no_map lab free w m.places (λ plugs all.
    let same : plugs ≡ m.plugs = same_Some plugs m.plugs (sym all.given ∙ f.given) in
    let fits : AllPass (length lab.trunks) (keeps_f6 lab free w m) = subst (λ (l : List IfaceId). AllPass (length lab.trunks) (keeps_f6 lab free w (record { places = m.places; plugs = l }))) same all.room in
    let both : false ≡ true = room.1 fits in
    absurd (cc both))

pub kept_by_room : (lab : Lab) (free : Free) (w : Wiring) (m : Mapping) (a b : ℕ) (last : List Place) (old : List IfaceId) (b1 : Bool) → Fresh lab free w m a b last old → Asked lab w m
    → may_share lab w m.places a ≡ true → may_share lab w m.places b ≡ true
    → (IsTrue b1 ↔ AllPass (length lab.trunks) (keeps_f6 lab free w m))
    → node_map lab free w m.places ≡ cond b1 (Some m) None
kept_by_room lab free w m a b last old b1 f asked shares_a shares_b room =
    let before = parts_of_map lab free w last (record { places = last; plugs = old }) f.mapped in
    whole_by_room lab free w m b1 (record {
      kept = f.kept;
      sound = f.sound;
      choice = f.choice;
      shaped = f.shaped;
      given = f.given;
      shared = shared_all lab w m.places last a b f.alike before.shared (record {
        first = shares_a;
        second = shares_b;
        typed = asked.typed;
      });
      ids = before.ids;
    }) asked room

-- where some class or some segment is not as it has to be, that is no node map
pub not_typed : (lab : Lab) (free : Free) (w : Wiring) (places : List Place) (b : Bool) → (IsTrue b ↔ AllPass (length w.nodes) (has_class_type w places)) → b ≡ false → node_map lab free w places ≡ None
not_typed lab free w places b test off =
    no_map lab free w places (λ plugs all.
    let both : false ≡ true = sym off ∙ test.1 all.typed in
    absurd (cc both))

pub not_joined : (lab : Lab) (free : Free) (w : Wiring) (m : Mapping) (b : Bool) → plugs_of lab w m.places ≡ Some m.plugs → (IsTrue b ↔ AllPass (length w.segments) (keeps_f7 lab w m)) → b ≡ false
    → node_map lab free w m.places ≡ None
not_joined lab free w m b given test off =
    no_map lab free w m.places (λ plugs all.
    let same : plugs ≡ m.plugs = same_Some plugs m.plugs (sym all.given ∙ given) in
    let joined : AllPass (length w.segments) (keeps_f7 lab w m) = subst (λ (l : List IfaceId). AllPass (length w.segments) (keeps_f7 lab w (record { places = m.places; plugs = l }))) same all.joined in
    let both : false ≡ true = sym off ∙ test.1 joined in
    absurd (cc both))

-- THE PLUGS THAT ARE PLANNED
pub placed_ends : (x : Search) (places : List Place) → IsSearch x → length places ≡ length x.mapper.wiring.now.nodes → All (λ (e : End). e.node < length places) x.mapper.ends.now
placed_ends x places is count =
    subst (λ (l : List End). All (λ (e : End). e.node < length places) l) (sym is.mapper.ends)
    (subst (λ (n : ℕ). All (λ (e : End). e.node < n) (ends_of x.mapper.wiring.now.segments)) (sym count) (on_nodes x.mapper.wiring.now is.mapper.sound))

pub few_ends : (x : Search) → IsSearch x → length x.mapper.ends.now ≤ 4096
few_ends x is =
    let limits = sound_limits x.mapper.wiring.now is.mapper.sound in
    let few = limits.ends in
    let same = same_length x.mapper.wiring.now.segments in
    let ends = ap length is.mapper.ends in
    omega (arith, few, same, ends)

numbers_within : (n : ℕ) (p : End → Bool) (es : List End) → All (λ (k : ℕ). k < n + length es) (numbers_of n p es)
numbers_within n p [] = λ k d lt. absurd (omega (arith, lt))
numbers_within n p (e ∷ es) = by (p e) (numbers_within (n + 1) p es)
  where
    by : (b : Bool) → All (λ (k : ℕ). k < (n + 1) + length es) (numbers_of (n + 1) p es) → All (λ (k : ℕ). k < n + suc (length es)) (cond b (n ∷ numbers_of (n + 1) p es) (numbers_of (n + 1) p es))
    by true rest zero d lt = omega arith
    by true rest (suc k) d lt = let less = rest k d (omega (arith, lt)) in omega (arith, less)
    by false rest k d lt = let less = rest k d lt in omega (arith, less)

pub numbers_in : (p : End → Bool) (es : List End) → All (λ (k : ℕ). k < length es) (numbers_of 0 p es)
numbers_in p es k d lt = let less = numbers_within 0 p es k d lt in omega (arith, less)

pub changes_each : (On : Change → Type 0) (rows : List EndRow) (numbers : List ℕ) (plugs : List IfaceId)
    → ((j k : ℕ) (d : ℕ) (i : IfaceId) → j < length numbers → k < length plugs → On (record { end = get_or numbers j d; row = get_or rows (get_or numbers j d) no_row; to = get_or plugs k i }))
    → All On (changes_of rows numbers plugs)
changes_each On rows [] plugs each = λ k d lt. absurd (omega (arith, lt))
changes_each On rows (n ∷ numbers) [] each = λ k d lt. absurd (omega (arith, lt))
changes_each On rows (n ∷ numbers) (i ∷ plugs) each =
    All-cons On (record { end = n; row = get_or rows n no_row; to = i }) (changes_of rows numbers plugs) (each 0 0 n i (omega arith) (omega arith))
    (changes_each On rows numbers plugs (λ j l e h j_lt l_lt. each (suc j) (suc l) e h (omega (arith, j_lt)) (omega (arith, l_lt))))

pub own_changes : (x : Search) (places : List Place) (n : ℕ) (plugs : List IfaceId) → IsSearch x → length places ≡ length x.mapper.wiring.now.nodes
    → plugs_from x.mapper.lab.now places (filter (is_on places n) x.mapper.ends.now) ≡ Some plugs
    → AreChanges x.mapper.lab.now x.mapper.wiring.now (changes_of x.table.now.rows.items (numbers_of 0 (is_on places n) x.mapper.ends.now) plugs)
own_changes x places n plugs is count given =
    let rows = x.table.now.rows.items in
    let w = x.mapper.wiring.now in
    let es = x.mapper.ends.now in
    let p = is_on places n in
    let placed = filter_placed p (length places) es (placed_ends x places is count) in
    let are = plugs_within x.mapper.lab.now places (filter p es) plugs placed given in
    let ends = ap length is.mapper.ends in
    let all = is.table.rows.one_each in
    record {
      rows = changes_each (λ c. IsRow w c.end c.row) rows (numbers_of 0 p es) plugs (λ j k d i j_lt k_lt. is.table.rows.each (get_or (numbers_of 0 p es) j d) (let less = numbers_in p es j d j_lt in omega (arith, less, ends, all)));
      within = changes_each (λ c. c.to.0 < length x.mapper.lab.now.ifaces) rows (numbers_of 0 p es) plugs (λ j k d i j_lt k_lt. are.within k i k_lt);
    }

pub planned_changes : (x : Search) (places : List Place) (a b : ℕ) (changes : List Change) → IsSearch x → length places ≡ length x.mapper.wiring.now.nodes → IsPlanned x places a b changes
    → AreChanges x.mapper.lab.now x.mapper.wiring.now changes
planned_changes x places a b changes is count plan =
    let w = x.mapper.wiring.now in
    let lab = x.mapper.lab.now in
    let one = own_changes x places a plan.one is count plan.first in
    let other = own_changes x places b plan.other is count plan.second in
    subst (λ (l : List Change). AreChanges lab w l) (sym plan.noted)
    (record { rows = All-append (λ c. IsRow w c.end c.row) _ _ one.rows other.rows; within = All-append (λ c. c.to.0 < length lab.ifaces) _ _ one.within other.within })

pub planned_plugs : (x : Search) (m : Mapping) (a b : ℕ) (changes : List Change) (last : List Place) → IsSearch x → IsShaped x.mapper.lab.now x.mapper.wiring.now m → IsPlanned x m.places a b changes
    → Was x m.places m.plugs a b last → plugs_of x.mapper.lab.now x.mapper.wiring.now m.places ≡ Some (remade m.plugs changes)
planned_plugs x m a b changes last is shaped plan was =
    let lab = x.mapper.lab.now in
    let w = x.mapper.wiring.now in
    let es = x.mapper.ends.now in
    let rows = x.table.now.rows.items in
    let on_a = is_on m.places a in
    let on_b = is_on m.places b in
    let placed = placed_ends x m.places is shaped.places in
    let first = with_plugs on_a es m.plugs plan.one in
    let count : length m.plugs ≡ length es = (let ends = ap length is.mapper.ends in let same = same_length w.segments in let plugs = shaped.plugs in omega (arith, ends, same, plugs)) in
    let one = count_given lab m.places (filter on_a es) plan.one (filter_placed on_a (length m.places) es placed) plan.first in
    let other = count_given lab m.places (filter on_b es) plan.other (filter_placed on_b (length m.places) es placed) plan.second in
    let whole = mapped_is lab x.mapper.free.now w last (record { places = last; plugs = m.plugs }) was.mapped in
    let old : plugs_from lab last es ≡ Some m.plugs = ap (λ (l : List End). plugs_from lab last l) is.mapper.ends ∙ whole.given in
    let made : remade m.plugs changes ≡ with_plugs on_b es first plan.other =
    ap (λ (l : List Change). remade m.plugs l) plan.noted
    ∙ remade_both m.plugs (changes_of rows (numbers_of 0 on_a es) plan.one) (changes_of rows (numbers_of 0 on_b es) plan.other)
    ∙ ap (λ (l : List IfaceId). remade l (changes_of rows (numbers_of 0 on_b es) plan.other)) (remade_where rows m.plugs plan.one es on_a count one)
    ∙ remade_where rows first plan.other es on_b (with_length on_a es m.plugs plan.one count) other in
    ap (λ (l : List End). plugs_from lab m.places l) (sym is.mapper.ends)
    ∙ given_anew lab es m.places last m.plugs a b plan.one plan.other (record { alike = was.alike; placed = placed; old = old; first = plan.first; second = plan.second })
    ∙ ap Some (sym made)

-- the ends on a node that has no virtual node, or one
none_numbered : (n k : ℕ) (places : List Place) (es : List End) → All (λ (e : End). e.node < length places) es → hosted_at places n ≡ 0 → [] ≡ numbers_of k (is_on places n) es
none_numbered n k places [] placed none = refl
none_numbered n k places (e ∷ es) placed none =
    let left = guest_left places e.node n (placed 0 e (omega arith)) in
    let off : is_on places n e ≡ false = ne_eqb (get_or places e.node no_place).0.0 n (λ is.
    let one : ◌≡◌ {A = ℕ} (cond (eqb (get_or places e.node no_place).0.0 n) 1 0) 1 = ap (λ (b : Bool). cond b 1 0) (eq-eqb (get_or places e.node no_place).0.0 n is) in
    absurd (omega (arith, left, none, one))) in
    none_numbered n (k + 1) places es (λ j d lt. placed (suc j) d (omega (arith, lt))) none
    ∙ ap (λ (b : Bool). cond b (k ∷ numbers_of (k + 1) (is_on places n) es) (numbers_of (k + 1) (is_on places n) es)) (sym off)

pub none_on : (n : ℕ) (places : List Place) (es : List End) → All (λ (e : End). e.node < length places) es → hosted_at places n ≡ 0 → [] ≡ numbers_of 0 (is_on places n) es
none_on n places es placed none = none_numbered n 0 places es placed none

counts_one : (xs : List ℕ) (u n : ℕ) → u < length xs → get_or xs u 0 ≡ n → 1 ≤ count_by (λ (x : ℕ). x == n) xs
counts_one [] u n lt at = absurd (omega (arith, lt))
counts_one (x ∷ xs) zero n lt at =
    let step = sum_by-cons (λ (y : ℕ). cond (eqb y n) 1 0) x xs in
    let one : ◌≡◌ {A = ℕ} (cond (eqb x n) 1 0) 1 = ap (λ (b : Bool). cond b 1 0) (eq-eqb x n at) in
    omega (arith, step, one)
counts_one (x ∷ xs) (suc u) n lt at =
    let step = sum_by-cons (λ (y : ℕ). cond (eqb y n) 1 0) x xs in
    let rest = counts_one xs u n (omega (arith, lt)) at in
    omega (arith, step, rest)

abbrev nodes_of : List Place → List ℕ
nodes_of places = map (λ (q : Place). q.0.0) places

other_stays : (xs : List ℕ) (v u n : ℕ) → v < length xs → u < length xs → u ≢ v → get_or xs u 0 ≡ n → 1 ≤ count_by (λ (x : ℕ). x == n) (remove xs v)
other_stays [] v u n v_lt u_lt ne at = absurd (omega (arith, v_lt))
other_stays (x ∷ xs) zero zero n v_lt u_lt ne at = absurd (ne refl)
other_stays (x ∷ xs) zero (suc u) n v_lt u_lt ne at = counts_one xs u n (omega (arith, u_lt)) at
other_stays (x ∷ xs) (suc v) zero n v_lt u_lt ne at =
    let step = sum_by-cons (λ (y : ℕ). cond (eqb y n) 1 0) x (remove xs v) in
    let one : ◌≡◌ {A = ℕ} (cond (eqb x n) 1 0) 1 = ap (λ (b : Bool). cond b 1 0) (eq-eqb x n at) in
    omega (arith, step, one)
other_stays (x ∷ xs) (suc v) (suc u) n v_lt u_lt ne at =
    let step = sum_by-cons (λ (y : ℕ). cond (eqb y n) 1 0) x (remove xs v) in
    let rest = other_stays xs v u n (omega (arith, v_lt)) (omega (arith, u_lt)) (λ e. ne (ap (λ (k : ℕ). suc k) e)) at in
    omega (arith, step, rest)

pub own_on : (n v : ℕ) (places : List Place) (es : List End) → All (λ (e : End). e.node < length places) es → v < length places → (get_or places v no_place).0.0 ≡ n → hosted_at places n ≡ 1
    → numbers_of 0 (λ e. e.node == v) es ≡ numbers_of 0 (is_on places n) es
own_on n v places es placed lt here one =
    let left = guest_left places v n lt in
    let its : ◌≡◌ {A = ℕ} (cond (eqb (get_or places v no_place).0.0 n) 1 0) 1 = ap (λ (b : Bool). cond b 1 0) (eq-eqb (get_or places v no_place).0.0 n here) in
    numbers_alike 0 (λ (e : End). e.node == v) (is_on places n) es (λ k d k_lt.
    let u = (get_or es k d).node in
    let u_lt = placed k d k_lt in
    elim (cases_eq u v) [
      | inl is ↦ eq-eqb u v is ∙ sym (eq-eqb (get_or places u no_place).0.0 n (ap (λ (j : ℕ). (get_or places j no_place).0.0) is ∙ here))
      | inr apart ↦ ne_eqb u v apart ∙ sym (ne_eqb (get_or places u no_place).0.0 n (λ e.
          let count = length-map places (λ (q : Place). q.0.0) in
          let more = other_stays (nodes_of places) v u n (omega (arith, lt, count)) (omega (arith, u_lt, count)) apart (get_or-map (λ (q : Place). q.0.0) places u no_place 0 u_lt ∙ e) in
          absurd (omega (arith, left, its, one, more))))
    ])

-- what the rule gave the ends that are listed
pub listed_given : (x : Search) (places : List Place) (p : End → Bool) (listed : List ℕ) (o : Option (List IfaceId)) → listed ≡ numbers_of 0 p x.mapper.ends.now
    → plugs_from x.mapper.lab.now places (map (λ k. get_or x.mapper.ends.now k no_end) listed) ≡ o → plugs_from x.mapper.lab.now places (filter p x.mapper.ends.now) ≡ o
listed_given x places p listed o is given =
    let es = x.mapper.ends.now in
    ap (λ (l : List End). plugs_from x.mapper.lab.now places l) (sym (ap (λ (l : List ℕ). map (λ k. get_or es k no_end) l) is ∙ numbered_ends es p no_end)) ∙ given

-- ends in order, some of which are taken
rising_of : (es : List End) → ((j k : ℕ) (d : End) → j ≤ k → k < length es → (get_or es j d).segment ≤ (get_or es k d).segment) → (p : End → Bool)
    → (j k : ℕ) (d : End) → j ≤ k → k < length (filter p es) → (get_or (filter p es) j d).segment ≤ (get_or (filter p es) k d).segment
rising_of [] rising p j k d le lt = absurd (omega (arith, lt))
rising_of (e ∷ es) rising p j k d le lt =
    by (p e) j k le lt (rising_of es (λ a b c le lt. rising (suc a) (suc b) c (omega (arith, le)) (omega (arith, lt))) p)
    (All-filter p (λ (x : End). e.segment ≤ x.segment) es (λ a c less. rising 0 (suc a) c (omega arith) (omega (arith, less))))
  where
    by : (b : Bool) (j k : ℕ) → j ≤ k → k < length (cond b (e ∷ filter p es) (filter p es))
        → ((j k : ℕ) (d : End) → j ≤ k → k < length (filter p es) → (get_or (filter p es) j d).segment ≤ (get_or (filter p es) k d).segment) → All (λ (x : End). e.segment ≤ x.segment) (filter p es)
        → (get_or (cond b (e ∷ filter p es) (filter p es)) j d).segment ≤ (get_or (cond b (e ∷ filter p es) (filter p es)) k d).segment
    by false j k le lt rest first = rest j k d le lt
    by true zero zero le lt rest first = omega arith
    by true zero (suc k) le lt rest first = first k d (omega (arith, lt))
    by true (suc j) zero le lt rest first = absurd (omega (arith, le))
    by true (suc j) (suc k) le lt rest first = rest j k d (omega (arith, le)) (omega (arith, lt))

pub ordered_filter : (p : End → Bool) (es : List End) → AreOrdered es → AreOrdered (filter p es)
ordered_filter p es is = record {
  some = All-filter p (λ (x : End). 1 ≤ x.kbps) es is.some;
  few = All-filter p (λ (x : End). x.segment < 512) es is.few;
  rising = rising_of es is.rising p;
}

pub listed_ordered : (x : Search) (p : End → Bool) (listed : List ℕ) → IsSearch x → listed ≡ numbers_of 0 p x.mapper.ends.now
    → AreOrdered (map (λ k. get_or x.mapper.ends.now k no_end) listed)
listed_ordered x p listed set is =
    let es = x.mapper.ends.now in
    let all : AreOrdered es = subst (λ (l : List End). AreOrdered l) (sym set.mapper.ends) (ordered x.mapper.wiring.now set.mapper.sound) in
    subst (λ (l : List End). AreOrdered l) (sym (ap (λ (l : List ℕ). map (λ k. get_or es k no_end) l) is ∙ numbered_ends es p no_end)) (ordered_filter p es all)

pub listed_count : (x : Search) (places : List Place) (n : ℕ) (listed : List ℕ) (plugs : List IfaceId) → IsSearch x → length places ≡ length x.mapper.wiring.now.nodes → listed ≡ numbers_of 0 (is_on places n) x.mapper.ends.now
    → plugs_from x.mapper.lab.now places (filter (is_on places n) x.mapper.ends.now) ≡ Some plugs → length listed ≡ length plugs
listed_count x places n listed plugs set count is given =
    let es = x.mapper.ends.now in
    let p = is_on places n in
    let one = count_given x.mapper.lab.now places (filter p es) plugs (filter_placed p (length places) es (placed_ends x places set count)) given in
    let ends = ap length (numbered_ends es p no_end) in
    let mapped = length-map (numbers_of 0 p es) (λ (k : ℕ). get_or es k no_end) in
    let same = ap length is in
    omega (arith, one, ends, mapped, same)

pub shaped_at : (lab : Lab) (w : Wiring) (m : Mapping) (v : ℕ) (p : Place) → IsShaped lab w m → p.0.0 < length lab.nodes → has_name (node_at lab p.0).types p.1 ≡ true → IsShaped lab w (placed_at m v p)
shaped_at lab w m v p shaped node typed = record {
  places = length-set m.places v p ∙ shaped.places;
  plugs = shaped.plugs;
  in_nodes = All-set (λ q. q.0.0 < length lab.nodes) m.places v p node shaped.in_nodes;
  in_lab = shaped.in_lab;
  of_node = All-set (λ q. has_name (node_at lab q.0).types q.1 ≡ true) m.places v p typed shaped.of_node;
}
