-- A line added to a wiring without a fault, and to its tables.
use Rattle.std.specs.Prelude.{nat_lt, nat_le, nat_eq, replicate}
use Rattle.std.proofs.Common.{◌≡◌, ℕ, zero, suc, ◌+◌, ◌<◌, ◌≤◌, Bool, true, false, not, cond, eqb, ◌&&◌, ◌||◌, List, [], ◌∷◌, ◌++◌, length, map, get_or, Option, Some, Ok, Err, refl, sym, ap, subst, ◌∙◌, arith, inl, inr, length-append}
use Rattle.std.specs.List.{list_all, list_any, flat_map}
use Rattle.std.proofs.lemmas.Bool.{or_parts, cases_lt, and_right}
use Rattle.std.proofs.lemmas.Bool.Decides.{nat_tests}
use Rattle.std.proofs.lemmas.List.{append-nil, map-append, length-map, get_or_append_left, get_or-append-add, get_or_default}
use Rattle.std.proofs.lemmas.Grind.{flat_map-append}
use Rattle.std.proofs.Math.Bool.{or-false}
use Rattle.lab_base.specs.declared.fault.Kind.TheVariants as kinds
use Rattle.lab_base.specs.Names.{same_name}
use Rattle.lab_base.proofs.Numbers.{not_eqb_turned}
use Rattle.virt_topo.specs.declared.wiring.Class.{Class}
use Rattle.virt_topo.specs.declared.wiring.VirtNode.{VirtNode}
use Rattle.virt_topo.specs.declared.wiring.VirtEnd.{VirtEnd}
use Rattle.virt_topo.specs.declared.wiring.Segment.{Segment}
use Rattle.virt_topo.specs.declared.wiring.Pipe.{Pipe}
use Rattle.virt_topo.specs.declared.wiring.Wiring.{Wiring}
use Rattle.virt_topo.specs.Ends.{end_nodes, end_number, pipe_from, pipe_to}
use Rattle.virt_topo.specs.Owners.{at_ends}
use Rattle.virt_topo.specs.Repeats.{stands_again}
use Rattle.virt_topo.specs.Soundness.{limits_class, limits_node, limits_segment, limits_pipe, knows_class, knows_node, knows_all, is_end, is_bad_pipe, shares_end, same_address, all_ends, asks_class_name}
use Rattle.virt_topo.specs.Topos.{asks_type}
use Rattle.virt_topo.proofs.CableLaws.{limits_of}
use Rattle.virt_topo.proofs.EndLaws.{nodes_of}
use Rattle.virt_topo.proofs.MoreLaws as more
use Rattle.top_text.specs.declared.tables.Tables.{Tables}
use Rattle.top_text.specs.Adding.{kept, with_class, with_segment, with_pipe, with_place, with_multiplexed, marked, segment_at, asks_of}
use Rattle.top_text.specs.Tables.{AreTables, addresses_of, same_end, ends_of_pipe, segments_on, segment_of_end, joins, is_apart, judged}
use Rattle.top_text.proofs.KeptLaws.{tests_of, sound_of}
use Rattle.top_text.proofs.PartLaws.{unfixed, part_kept}
use Rattle.top_text.proofs.TableLaws.{judged_kept, name_there, asks_known, asks_apart, same_addresses, addresses_more, none_on, none_past, shares_by_ends, of_one}
use Rattle.top_text.proofs.SegmentLaws.{of_number, segments_on_more, is_end_on, segment_on, segment_below, ends_there, joins_kept, joins_none}
use Rattle.top_text.proofs.MarkLaws.{map_set, kept_alike, set_alike, count_alike, names_alike, ends_alike, nodes_alike, segments_on_alike, joins_alike, bad_multiplexed}

-- CLASSES

pub class_judged : (w : Wiring) (t : Tables) (c : Class) (twice within : Bool) → kept w ≡ Ok w → AreTables w t
    → twice ≡ (list_any (same_name c.name) t.classes.keys || (stands_again same_name c.types || list_any (λ v. asks_type c.name v.asks) w.nodes))
    → within ≡ (nat_lt (length w.classes) 64 && limits_class c)
    → judged (record { twice = twice; known = true; same = false; bad_pipe = false; within = within }) (with_class w c) ≡ kept (with_class w c)
class_judged w t c twice within is tables twice_is within_is =
    let tests = tests_of w is in
    judged_kept (with_class w c) (record { twice = twice; known = true; same = false; bad_pipe = false; within = within })
    (more.twice_with_class w c tests.twice ∙ sym (twice_is ∙ ap (λ (b : Bool). b || (stands_again same_name c.types || list_any (λ v. asks_type c.name v.asks) w.nodes)) (name_there (λ (d : Class). d.name) t.classes.keys w.classes c.name tables.classes)))
    (more.known_with_class w c tests.known)
    tests.same
    tests.pipes
    (more.limits_with_class w c tests.limits ∙ sym within_is)

-- VIRTUAL NODES

pub node_judged : (w : Wiring) (t : Tables) (n : VirtNode) (name : List ℕ) (twice within : Bool) → kept w ≡ Ok w → AreTables w t → n.asks ≡ asks_of w name
    → twice ≡ (list_any (same_name n.name) t.nodes.keys || stands_again (λ a b. same_name a.0 b.0) n.desires)
    → within ≡ (nat_lt (length w.nodes) 256 && limits_node n)
    → judged (record { twice = twice; known = true; same = false; bad_pipe = false; within = within }) (record w { nodes = w.nodes ++ n ∷ [] }) ≡ kept (record w { nodes = w.nodes ++ n ∷ [] })
node_judged w t n name twice within is tables asks twice_is within_is =
    let tests = tests_of w is in
    let apart : asks_class_name w.classes n.asks ≡ false = ap (λ a. asks_class_name w.classes a) asks ∙ asks_apart w name in
    let known : knows_class w n.asks ≡ true = ap (λ a. knows_class w a) asks ∙ asks_known w name in
    let desires = stands_again (λ a b. same_name a.0 b.0) n.desires in
    judged_kept (record w { nodes = w.nodes ++ n ∷ [] }) (record { twice = twice; known = true; same = false; bad_pipe = false; within = within })
    (more.twice_with_node w n tests.twice ∙ ap (λ (b : Bool). list_any (λ v. same_name n.name v.name) w.nodes || (desires || b)) apart ∙ ap (λ (b : Bool). list_any (λ v. same_name n.name v.name) w.nodes || b) (or-false desires)
    ∙ sym (twice_is ∙ ap (λ (b : Bool). b || desires) (name_there (λ (v : VirtNode). v.name) t.nodes.keys w.nodes n.name tables.nodes)))
    (more.known_with_node w n tests.known ∙ known)
    tests.same
    tests.pipes
    (more.limits_with_node w n tests.limits ∙ sym within_is)

-- SEGMENTS

pub segment_judged : (w : Wiring) (s : Segment) (names : List (List ℕ)) (ends : ℕ) (again twice known same within : Bool) → kept w ≡ Ok w
    → names ≡ map (λ t. t.name) w.segments → ends ≡ length (end_nodes w.segments) → again ≡ stands_again same_address (all_ends w.segments ++ s.ends)
    → twice ≡ (list_any (same_name s.name) names || again)
    → known ≡ list_all (λ e. nat_lt e.node (length w.nodes)) s.ends
    → same ≡ stands_again (λ a b. eqb a.node b.node) s.ends
    → within ≡ (nat_lt (length w.segments) 512 && (nat_le (ends + length s.ends) 4096 && limits_segment s))
    → judged (record { twice = twice; known = known; same = same; bad_pipe = false; within = within }) (with_segment w s) ≡ kept (with_segment w s)
segment_judged w s names ends again twice known same within is names_are ends_are again_is twice_is known_is same_is within_is =
    let tests = tests_of w is in
    judged_kept (with_segment w s) (record { twice = twice; known = known; same = same; bad_pipe = false; within = within })
    (more.twice_with_segment w s tests.twice ∙ sym (twice_is ∙ (λ i. name_there (λ (t : Segment). t.name) names w.segments s.name names_are i || again_is i)))
    (more.known_with_segment w s tests.known ∙ sym known_is)
    (more.same_with_segment w s tests.same ∙ sym same_is)
    (more.bad_with_segment w s tests.known tests.pipes)
    (more.limits_with_segment w s tests.limits ∙ sym (within_is ∙ ap (λ (n : ℕ). nat_lt (length w.segments) 512 && (nat_le (n + length s.ends) 4096 && limits_segment s)) ends_are))

-- PIPES

-- the segments that are kept of any number
numbers_all : (w : Wiring) (t : Tables) → knows_all w ≡ true → AreTables w t → (v : ℕ) → get_or t.on_node.items v [] ≡ segments_on w.segments v
numbers_all w t known tables v = elim (cases_lt v (length w.nodes)) [
  | inl below ↦ tables.on_node v below
  | inr above ↦ past t.on_node.items v (omega (arith, tables.each_node, above)) ∙ sym (none_past w.segments (length w.nodes) v (omega (arith, above)) (more.known_of w known).nodes)
]
  where
    past : (xs : List (List ℕ)) (i : ℕ) → length xs ≤ i → get_or xs i [] ≡ []
    past [] i le = refl
    past (x ∷ xs) zero le = absurd (omega arith)
    past (x ∷ xs) (suc i) le = past xs i (omega arith)

pub few_segments : (w : Wiring) → kept w ≡ Ok w → length w.segments ≤ 65535
few_segments w is = omega (arith, (limits_of w (tests_of w is).limits).segments)

-- the segment of a pipe's end, by the table
segment_there : (w : Wiring) (t : Tables) (v k : ℕ) → kept w ≡ Ok w → AreTables w t → get_or (get_or t.on_node.items v []) k 65535 ≡ segment_of_end w (end_number (end_nodes w.segments) v k)
segment_there w t v k is tables = ap (λ (l : List ℕ). get_or l k 65535) (numbers_all w t (tests_of w is).known tables v) ∙ sym (segment_on w.segments v k)

-- what the tables say of a pipe's ends
apart_by_table : (w : Wiring) (t : Tables) (p : Pipe) → kept w ≡ Ok w → AreTables w t → is_apart w (get_or t.on_node.items p.node []) p ≡ is_bad_pipe w p
apart_by_table w t p is tables =
    let few = few_segments w is in
    (λ i. eqb p.from p.to || (not (same_name (segment_at w (segment_there w t p.node p.from is tables i)).owner (segment_at w (segment_there w t p.node p.to is tables i)).owner)
    || ((segment_at w (segment_there w t p.node p.from is tables i)).multiplexed || (segment_at w (segment_there w t p.node p.to is tables i)).multiplexed)))
    ∙ sym (λ i. eqb p.from p.to || (not (same_name (of_number (λ s. s.owner) w (pipe_from w p) few i) (of_number (λ s. s.owner) w (pipe_to w p) few i))
    || (of_number (λ s. s.multiplexed) w (pipe_from w p) few i || of_number (λ s. s.multiplexed) w (pipe_to w p) few i)))

pub pipe_judged : (w : Wiring) (t : Tables) (p : Pipe) (known bad within : Bool) → kept w ≡ Ok w → AreTables w t
    → known ≡ ((nat_lt p.node (length t.on_node.items) && nat_lt p.from (length (get_or t.on_node.items p.node []))) && (nat_lt p.node (length t.on_node.items) && nat_lt p.to (length (get_or t.on_node.items p.node []))))
    → bad ≡ (is_apart w (get_or t.on_node.items p.node []) p || (list_any (same_end (p.node, p.from)) t.piped.keys || list_any (same_end (p.node, p.to)) t.piped.keys))
    → within ≡ limits_pipe p
    → judged (record { twice = false; known = known; same = false; bad_pipe = bad; within = within }) (with_pipe w p) ≡ kept (with_pipe w p)
pipe_judged w t p known bad within is tables known_is bad_is within_is =
    let tests = tests_of w is in
    let own = numbers_all w t tests.known tables p.node in
    let from : nat_lt p.from (length (get_or t.on_node.items p.node [])) ≡ is_end w p.node p.from = ap (λ (l : List ℕ). nat_lt p.from (length l)) own ∙ sym (is_end_on w.segments p.node p.from) in
    let to : nat_lt p.to (length (get_or t.on_node.items p.node [])) ≡ is_end w p.node p.to = ap (λ (l : List ℕ). nat_lt p.to (length l)) own ∙ sym (is_end_on w.segments p.node p.to) in
    let node : nat_lt p.node (length t.on_node.items) ≡ knows_node w p.node = ap (λ (n : ℕ). nat_lt p.node n) tables.each_node in
    judged_kept (with_pipe w p) (record { twice = false; known = known; same = false; bad_pipe = bad; within = within })
    tests.twice
    (more.known_with_pipe w p tests.known ∙ sym (known_is ∙ (λ i. (node i && from i) && (node i && to i)) ∙ one_node (knows_node w p.node) (is_end w p.node p.from) (is_end w p.node p.to)))
    tests.same
    (more.bad_with_pipe w p tests.pipes
    ∙ sym (bad_is ∙ (λ i. apart_by_table w t p is tables i || (list_any (same_end (p.node, p.from)) (tables.piped i) || list_any (same_end (p.node, p.to)) (tables.piped i))) ∙ ap (λ (b : Bool). is_bad_pipe w p || b) (sym (shares_by_ends p w.pipes))))
    (more.limits_with_pipe w p tests.limits ∙ sym within_is)
  where
    one_node : (n a b : Bool) → ((n && a) && (n && b)) ≡ (n && (a && b))
    one_node true a b = refl
    one_node false a b = refl

-- KEYS

pub names_more : {X : Type 0} (name_of : X → List ℕ) (keys new : List (List ℕ)) (xs : List X) (x : X) → keys ≡ map name_of xs → new ≡ keys ++ name_of x ∷ [] → new ≡ map name_of (xs ++ x ∷ [])
names_more name_of keys new xs x is now = now ∙ ap (λ (l : List (List ℕ)). l ++ name_of x ∷ []) is ∙ sym (map-append name_of xs (x ∷ []))

-- a line that is taken had a new name
pub new_class : (w : Wiring) (t : Tables) (c : Class) → kept w ≡ Ok w → AreTables w t → kept (with_class w c) ≡ Ok (with_class w c) → list_any (same_name c.name) t.classes.keys ≡ false
new_class w t c was tables is =
    name_there (λ (d : Class). d.name) t.classes.keys w.classes c.name tables.classes
    ∙ (or_parts (list_any (λ d. same_name c.name d.name) w.classes) _ (sym (more.twice_with_class w c (tests_of w was).twice) ∙ (tests_of (with_class w c) is).twice)).0

pub new_node : (w : Wiring) (t : Tables) (n : VirtNode) → kept w ≡ Ok w → AreTables w t → kept (record w { nodes = w.nodes ++ n ∷ [] }) ≡ Ok (record w { nodes = w.nodes ++ n ∷ [] }) → list_any (same_name n.name) t.nodes.keys ≡ false
new_node w t n was tables is =
    name_there (λ (v : VirtNode). v.name) t.nodes.keys w.nodes n.name tables.nodes
    ∙ (or_parts (list_any (λ v. same_name n.name v.name) w.nodes) _ (sym (more.twice_with_node w n (tests_of w was).twice) ∙ (tests_of (record w { nodes = w.nodes ++ n ∷ [] }) is).twice)).0

pub new_segment : (w : Wiring) (names : List (List ℕ)) (s : Segment) → kept w ≡ Ok w → names ≡ map (λ t. t.name) w.segments → kept (with_segment w s) ≡ Ok (with_segment w s) → list_any (same_name s.name) names ≡ false
new_segment w names s was are is =
    name_there (λ (t : Segment). t.name) names w.segments s.name are
    ∙ (or_parts (list_any (λ t. same_name s.name t.name) w.segments) _ (sym (more.twice_with_segment w s (tests_of w was).twice) ∙ (tests_of (with_segment w s) is).twice)).0

pub new_addresses : (w : Wiring) (t : Tables) (s : Segment) → kept w ≡ Ok w → AreTables w t → kept (with_segment w s) ≡ Ok (with_segment w s) → stands_again nat_eq (t.addresses.keys ++ addresses_of s.ends) ≡ false
new_addresses w t s was tables is =
    sym (again_by_table w t s tables)
    ∙ (or_parts (list_any (λ t. same_name s.name t.name) w.segments) (stands_again same_address (all_ends w.segments ++ s.ends)) (sym (more.twice_with_segment w s (tests_of w was).twice) ∙ (tests_of (with_segment w s) is).twice)).1
  where
    again_by_table : (w : Wiring) (t : Tables) (s : Segment) → AreTables w t → stands_again same_address (all_ends w.segments ++ s.ends) ≡ stands_again nat_eq (t.addresses.keys ++ addresses_of s.ends)
    again_by_table w t s tables = same_addresses (all_ends w.segments ++ s.ends) ∙ ap (λ (l : List ℕ). stands_again nat_eq l) (addresses_more (all_ends w.segments) s.ends ∙ ap (λ (l : List ℕ). l ++ addresses_of s.ends) (sym tables.addresses))

-- addresses stand once so far, and whether they do with a segment more
pub once_so_far : (w : Wiring) (keys : List ℕ) → kept w ≡ Ok w → keys ≡ addresses_of (all_ends w.segments) → stands_again nat_eq keys ≡ false
once_so_far w keys is are = ap (λ (l : List ℕ). stands_again nat_eq l) are ∙ sym (same_addresses (all_ends w.segments)) ∙ (more.once_of w (tests_of w is).twice).addresses

pub again_with : (w : Wiring) (keys : List ℕ) (ends : List VirtEnd) → keys ≡ addresses_of (all_ends w.segments) → stands_again nat_eq (keys ++ addresses_of ends) ≡ stands_again same_address (all_ends w.segments ++ ends)
again_with w keys ends are = sym (same_addresses (all_ends w.segments ++ ends) ∙ ap (λ (l : List ℕ). stands_again nat_eq l) (addresses_more (all_ends w.segments) ends ∙ ap (λ (l : List ℕ). l ++ addresses_of ends) (sym are)))

pub addresses_with : (w : Wiring) (s : Segment) (keys new : List ℕ) → keys ≡ addresses_of (all_ends w.segments) → new ≡ keys ++ addresses_of s.ends → new ≡ addresses_of (all_ends (w.segments ++ s ∷ []))
addresses_with w s keys new are now =
    now ∙ ap (λ (l : List ℕ). l ++ addresses_of s.ends) are ∙ sym (addresses_more (all_ends w.segments) s.ends)
    ∙ ap addresses_of (sym (flat_map-append (λ (x : Segment). x.ends) w.segments (s ∷ []) ∙ ap (λ (l : List VirtEnd). all_ends w.segments ++ l) (append-nil s.ends)))

-- a virtual node more, which has no end
pub numbers_with_node : (w : Wiring) (t : Tables) (n : VirtNode) (new : List (List ℕ)) → kept w ≡ Ok w → AreTables w t → new ≡ t.on_node.items ++ [] ∷ []
    → (v : ℕ) → v < length (w.nodes ++ n ∷ []) → get_or new v [] ≡ segments_on w.segments v
numbers_with_node w t n new is tables now v lt =
    ap (λ (l : List (List ℕ)). get_or l v []) now ∙ elim (cases_lt v (length w.nodes)) [
      | inl below ↦ get_or_append_left t.on_node.items ([] ∷ []) [] v (omega (arith, tables.each_node, below)) ∙ tables.on_node v below
      | inr above ↦
          let last : v ≡ length t.on_node.items + 0 = omega (arith, tables.each_node, above, lt, length-append w.nodes (n ∷ [])) in
          let whole : length w.nodes ≡ v = omega (arith, above, lt, length-append w.nodes (n ∷ [])) in
          ap (λ (k : ℕ). get_or (t.on_node.items ++ [] ∷ []) k []) last ∙ get_or-append-add t.on_node.items ([] ∷ []) 0 [] ∙ sym (ap (λ (k : ℕ). segments_on w.segments k) (sym whole) ∙ none_on w.segments (length w.nodes) (more.known_of w (tests_of w is).known).nodes)
    ]

-- a segment more
pub numbers_with_segment : (w : Wiring) (s : Segment) (old new : List (List ℕ)) → ((v : ℕ) → v < length w.nodes → get_or old v [] ≡ segments_on w.segments v)
    → length old ≡ length w.nodes
    → ((v : ℕ) → v < length old → get_or new v [] ≡ get_or old v [] ++ at_ends v (nodes_of s.ends) (of_one (length w.segments) s.ends))
    → (v : ℕ) → v < length w.nodes → get_or new v [] ≡ segments_on (w.segments ++ s ∷ []) v
numbers_with_segment w s old new were count now v lt =
    now v (omega (arith, count, lt)) ∙ (λ i. were v lt i ++ at_ends v (nodes_of s.ends) (repeated s.ends i)) ∙ sym (segments_on_more w.segments s v)
  where
    repeated : (ends : List VirtEnd) → of_one (length w.segments) ends ≡ replicate (length ends) (length w.segments)
    repeated [] = refl
    repeated (e ∷ ends) = ap (λ (l : List ℕ). length w.segments ∷ l) (repeated ends)

pub joined_with_segment : (w : Wiring) (t : Tables) (s : Segment) (new : List Bool) → kept w ≡ Ok w → AreTables w t → new ≡ t.joined.items ++ false ∷ []
    → (n : ℕ) → n < length (w.segments ++ s ∷ []) → get_or new n false ≡ list_any (joins (with_segment w s) n) w.pipes
joined_with_segment w t s new is tables now n lt =
    let known = (more.known_of w (tests_of w is).known).pipes in
    ap (λ (l : List Bool). get_or l n false) now ∙ elim (cases_lt n (length w.segments)) [
      | inl below ↦ get_or_append_left t.joined.items (false ∷ []) false n (omega (arith, tables.each_segment, below)) ∙ tables.joined n below ∙ sym (joins_kept w s n w.pipes known)
      | inr above ↦
          let last : n ≡ length t.joined.items + 0 = omega (arith, tables.each_segment, above, lt, length-append w.segments (s ∷ [])) in
          let whole : n ≡ length w.segments = omega (arith, above, lt, length-append w.segments (s ∷ [])) in
          ap (λ (k : ℕ). get_or (t.joined.items ++ false ∷ []) k false) last ∙ get_or-append-add t.joined.items (false ∷ []) 0 false
          ∙ sym (ap (λ (k : ℕ). list_any (joins (with_segment w s) k) w.pipes) whole ∙ joins_none w s w.pipes known)
    ]

-- the segments of the ends of a pipe that is taken
pub record PipedSegments (w : Wiring) (t : Tables) (p : Pipe) : Type 0 where
  pub from : get_or (get_or t.on_node.items p.node []) p.from 65535 ≡ segment_of_end w (pipe_from w p)
  pub to : get_or (get_or t.on_node.items p.node []) p.to 65535 ≡ segment_of_end w (pipe_to w p)
  pub from_there : segment_of_end w (pipe_from w p) < length w.segments
  pub to_there : segment_of_end w (pipe_to w p) < length w.segments

pub piped_segments : (w : Wiring) (t : Tables) (p : Pipe) → kept w ≡ Ok w → AreTables w t → kept (with_pipe w p) ≡ Ok (with_pipe w p) → PipedSegments w t p
piped_segments w t p was tables is =
    let there = ends_there w p (sym (more.known_with_pipe w p (tests_of w was).known) ∙ (tests_of (with_pipe w p) is).known) in
    record {
      from = segment_there w t p.node p.from was tables;
      to = segment_there w t p.node p.to was tables;
      from_there = segment_below w p.node p.from there.from;
      to_there = segment_below w p.node p.to there.to;
    }

-- the ends of a pipe are new, and differ
pub new_ends : (w : Wiring) (t : Tables) (p : Pipe) → kept w ≡ Ok w → AreTables w t → kept (with_pipe w p) ≡ Ok (with_pipe w p)
    → (list_any (same_end (p.node, p.from)) t.piped.keys ≡ false) × (list_any (same_end (p.node, p.to)) (t.piped.keys ++ (p.node, p.from) ∷ []) ≡ false)
new_ends w t p was tables is =
    let bad = or_parts (is_bad_pipe w p) (list_any (shares_end p) w.pipes) (sym (more.bad_with_pipe w p (tests_of w was).pipes) ∙ (tests_of (with_pipe w p) is).pipes) in
    let apart = (or_parts (eqb p.from p.to) _ bad.0).0 in
    let free = or_parts (list_any (same_end (p.node, p.from)) (flat_map ends_of_pipe w.pipes)) (list_any (same_end (p.node, p.to)) (flat_map ends_of_pipe w.pipes)) (sym (shares_by_ends p w.pipes) ∙ bad.1) in
    let first : list_any (same_end (p.node, p.from)) t.piped.keys ≡ false = ap (λ l. list_any (same_end (p.node, p.from)) l) tables.piped ∙ free.0 in
    let second : list_any (same_end (p.node, p.to)) t.piped.keys ≡ false = ap (λ l. list_any (same_end (p.node, p.to)) l) tables.piped ∙ free.1 in
    let other : same_end (p.node, p.to) (p.node, p.from) ≡ false = and_right (eqb p.node p.node) (eqb p.to p.from) (not_eqb_turned p.from p.to apart) in
    (first, more.any_more (same_end (p.node, p.to)) t.piped.keys (p.node, p.from) second ∙ other)

pub piped_with : (w : Wiring) (p : Pipe) (keys first second : List (ℕ × ℕ)) → keys ≡ flat_map ends_of_pipe w.pipes → first ≡ keys ++ (p.node, p.from) ∷ [] → second ≡ first ++ (p.node, p.to) ∷ []
    → second ≡ flat_map ends_of_pipe (w.pipes ++ p ∷ [])
piped_with w p keys first second are one two =
    two ∙ ap (λ l. l ++ (p.node, p.to) ∷ []) (one ∙ ap (λ l. l ++ (p.node, p.from) ∷ []) are)
    ∙ joined (flat_map ends_of_pipe w.pipes) (p.node, p.from) (p.node, p.to)
    ∙ sym (flat_map-append ends_of_pipe w.pipes (p ∷ []))
  where
    joined : (xs : List (ℕ × ℕ)) (a b : ℕ × ℕ) → (xs ++ a ∷ []) ++ b ∷ [] ≡ xs ++ a ∷ b ∷ []
    joined [] a b = refl
    joined (x ∷ xs) a b = ap (λ l. x ∷ l) (joined xs a b)

-- FIXED PLACES

pub placed_names : (w : Wiring) (v : ℕ) (place : List ℕ) → v < length w.nodes → map (λ (n : VirtNode). n.name) (with_place w v place).nodes ≡ map (λ (n : VirtNode). n.name) w.nodes
placed_names w v place lt = map_set (λ (n : VirtNode). n.name) w.nodes v _ _ refl lt

pub placed_count : (w : Wiring) (v : ℕ) (place : List ℕ) → v < length w.nodes → length (with_place w v place).nodes ≡ length w.nodes
placed_count w v place lt = sym (length-map (with_place w v place).nodes (λ (n : VirtNode). n.name)) ∙ ap length (placed_names w v place lt) ∙ length-map w.nodes (λ (n : VirtNode). n.name)

-- a fixed place has no fault
pub placed_kept : (w : Wiring) (v : ℕ) (place : List ℕ) → kept w ≡ Ok w → v < length w.nodes → kept (with_place w v place) ≡ Ok (with_place w v place)
placed_kept w v place is lt =
    part_kept w (with_place w v place) (sound_of w is (some (length w.nodes) v lt)) (record {
      more_classes = [];
      classes = sym (append-nil w.classes);
      more_nodes = [];
      nodes = sym (append-nil (map unfixed (with_place w v place).nodes) ∙ map_set unfixed w.nodes v _ _ refl lt);
      more_segments = [];
      segments = sym (append-nil w.segments);
      more_pipes = [];
      pipes = sym (append-nil w.pipes);
      asked = inr refl;
      ended = inr (placed_count w v place lt);
      piped = inr (placed_count w v place lt, refl);
    })
  where
    some : (n v : ℕ) → v < n → eqb n 0 ≡ false
    some n v lt = grind (arith, nat_tests)

pub placed_tables : (w new : Wiring) (t : Tables) (v : ℕ) (place : List ℕ) → AreTables w t → v < length w.nodes → new ≡ with_place w v place → AreTables new t
placed_tables w new t v place is lt now =
    subst (λ (u : Wiring). AreTables u t) (sym now) (record {
      classes = is.classes;
      nodes = is.nodes ∙ sym (placed_names w v place lt);
      segments = is.segments;
      addresses = is.addresses;
      piped = is.piped;
      ends = is.ends;
      each_node = is.each_node ∙ sym (placed_count w v place lt);
      on_node = λ n below. is.on_node n (omega (arith, placed_count w v place lt, below));
      each_segment = is.each_segment;
      joined = is.joined;
    })

-- MULTIPLEXED SEGMENTS

-- a segment is multiplexed where no pipe joins an end of it
pub marked_kept : (w : Wiring) (t : Tables) (s : ℕ) → kept w ≡ Ok w → AreTables w t → s < length w.segments
    → kept (with_multiplexed w s) ≡ cond (get_or t.joined.items s false) (Err kinds.Pipe) (Ok (with_multiplexed w s))
marked_kept w t s is tables lt =
    kept_alike w (with_multiplexed w s).segments is (set_alike w s lt)
    ∙ ap (λ (b : Bool). cond b (Err kinds.Pipe) (Ok (with_multiplexed w s))) (bad_multiplexed w s lt (few_segments w is) (tests_of w is).pipes ∙ sym (tables.joined s lt))

-- a line of a segment that no earlier line marks
pub marked_judged : (w : Wiring) (t : Tables) (named : Option ℕ) (s : ℕ) (marks joined : Bool) → named ≡ Some s → marks ≡ (segment_at w s).multiplexed → marks ≡ false
    → joined ≡ get_or t.joined.items s joined → kept w ≡ Ok w → AreTables w t → s < length w.segments
    → (marked w named ≡ kept (with_multiplexed w s)) × (kept (with_multiplexed w s) ≡ cond joined (Err kinds.Pipe) (Ok (with_multiplexed w s)))
marked_judged w t named s marks joined is flag plain at was tables lt =
    let there : get_or t.joined.items s false ≡ joined = sym (at ∙ get_or_default t.joined.items s joined false (omega (arith, tables.each_segment, lt))) in (
      ap (marked w) is ∙ ap (λ (b : Bool). cond b (Err kinds.Twice) (kept (with_multiplexed w s))) (sym flag ∙ plain),
      marked_kept w t s was tables lt ∙ ap (λ (b : Bool). cond b (Err kinds.Pipe) (Ok (with_multiplexed w s))) there,
    )

pub marked_tables : (w new : Wiring) (t : Tables) (s : ℕ) → AreTables w t → s < length w.segments → new ≡ with_multiplexed w s → AreTables new t
marked_tables w new t s is lt now =
    let more = (with_multiplexed w s).segments in
    let alike = set_alike w s lt in
    subst (λ (u : Wiring). AreTables u t) (sym now) (record {
      classes = is.classes;
      nodes = is.nodes;
      segments = is.segments ∙ sym (names_alike more w.segments alike);
      addresses = is.addresses ∙ ap addresses_of (sym (ends_alike more w.segments alike));
      piped = is.piped;
      ends = is.ends ∙ ap (λ (l : List ℕ). length l) (sym (nodes_alike more w.segments alike));
      each_node = is.each_node;
      on_node = λ v below. is.on_node v below ∙ sym (segments_on_alike more w.segments v alike);
      each_segment = is.each_segment ∙ sym (count_alike more w.segments alike);
      joined = λ n below. is.joined n (omega (arith, count_alike more w.segments alike, below)) ∙ sym (joins_alike w more n alike);
    })
