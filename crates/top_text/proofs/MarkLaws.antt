-- Wirings that differ alone in which segments are multiplexed.
use Rattle.std.specs.Prelude.{nat_le, nat_lt}
use Rattle.std.proofs.Common.{◌≡◌, ℕ, zero, suc, ◌+◌, ◌<◌, ◌≤◌, Bool, true, false, not, cond, eqb, ◌&&◌, ◌||◌, List, [], ◌∷◌, ◌++◌, length, map, get_or, Ok, Err, refl, sym, ap, ◌∙◌, arith, inl, inr}
use Rattle.std.specs.List.{list_all, list_any, flat_map}
use Rattle.std.proofs.Math.ListN.{set}
use Rattle.std.proofs.lemmas.Bool.{or_parts, cases_eq}
use Rattle.std.proofs.lemmas.Bool.Decides.{nat_tests}
use Rattle.std.proofs.lemmas.List.{length-map, get_or-set_same, get_or-set_other}
use Rattle.std.proofs.lemmas.List.Folds.{list_all-map}
use Rattle.std.specs.Prelude.{replicate}
use Rattle.std.proofs.Math.Bool.{or-false}
use Rattle.lab_base.specs.declared.fault.Kind.TheVariants as kinds
use Rattle.lab_base.proofs.Members.{any_map}
use Rattle.lab_base.specs.Names.{same_name}
use Rattle.virt_topo.specs.declared.wiring.Segment.{Segment}
use Rattle.virt_topo.specs.declared.wiring.Pipe.{Pipe}
use Rattle.virt_topo.specs.declared.wiring.Wiring.{Wiring}
use Rattle.virt_topo.specs.Ends.{end_nodes, end_owners, end_number, pipe_from, pipe_to}
use Rattle.virt_topo.specs.Repeats.{stands_again}
use Rattle.virt_topo.specs.Soundness.{keeps_limits, knows_class, knows_all, has_twice, has_same, has_bad_pipe, is_bad_pipe, shares_end, owner_at, multiplexed_at, same_address, all_ends, asks_class_name, limits_class, limits_node, limits_segment, limits_pipe}
use Rattle.top_text.specs.Adding.{kept, no_segment, segment_at, with_multiplexed}
use Rattle.top_text.specs.Tables.{numbers_from, segments_on, segment_of_end, joins}
use Rattle.top_text.proofs.KeptLaws.{tests_of}
use Rattle.top_text.proofs.PartLaws.{once_map}
use Rattle.top_text.proofs.SegmentLaws.{of_number}

-- a segment before it is read whether it is multiplexed
abbrev pub unmarked : Segment → Segment
unmarked s = record s { multiplexed = false }

-- segments that differ alone in which of them are multiplexed
abbrev pub AreAlike : List Segment → List Segment → Type 0
AreAlike l m = map unmarked l ≡ map unmarked m

flat_unmarked : {X : Type 0} (g : Segment → List X) (l : List Segment) → flat_map (λ s. g (unmarked s)) l ≡ flat_map g (map unmarked l)
flat_unmarked g [] = refl
flat_unmarked {X} g (s ∷ l) = ap (λ (r : List X). g (unmarked s) ++ r) (flat_unmarked g l)

flat_alike : {X : Type 0} (g : Segment → List X) (l m : List Segment) → AreAlike l m → flat_map (λ s. g (unmarked s)) l ≡ flat_map (λ s. g (unmarked s)) m
flat_alike g l m is = flat_unmarked g l ∙ ap (flat_map g) is ∙ sym (flat_unmarked g m)

all_alike : (test : Segment → Bool) (l m : List Segment) → AreAlike l m → list_all (λ s. test (unmarked s)) l ≡ list_all (λ s. test (unmarked s)) m
all_alike test l m is = sym (list_all-map test unmarked l) ∙ ap (list_all test) is ∙ list_all-map test unmarked m

any_alike : (test : Segment → Bool) (l m : List Segment) → AreAlike l m → list_any (λ s. test (unmarked s)) l ≡ list_any (λ s. test (unmarked s)) m
any_alike test l m is = sym (any_map test unmarked l) ∙ ap (list_any test) is ∙ any_map test unmarked m

names_again : (l m : List Segment) → AreAlike l m → stands_again (λ a b. same_name a.name b.name) l ≡ stands_again (λ a b. same_name a.name b.name) m
names_again l m is =
    sym (once_map (λ (a b : Segment). same_name a.name b.name) unmarked l) ∙ ap (stands_again (λ a b. same_name a.name b.name)) is ∙ once_map (λ (a b : Segment). same_name a.name b.name) unmarked m

pub count_alike : (l m : List Segment) → AreAlike l m → length l ≡ length m
count_alike l m is = sym (length-map l unmarked) ∙ ap length is ∙ length-map m unmarked

pub names_alike : (l m : List Segment) → AreAlike l m → map (λ (s : Segment). s.name) l ≡ map (λ (s : Segment). s.name) m
names_alike l m is = by l ∙ ap (map (λ (s : Segment). s.name)) is ∙ sym (by m)
  where
    by : (l : List Segment) → map (λ (s : Segment). s.name) l ≡ map (λ (s : Segment). s.name) (map unmarked l)
    by [] = refl
    by (s ∷ l) = ap (λ (r : List (List ℕ)). s.name ∷ r) (by l)

pub nodes_alike : (l m : List Segment) → AreAlike l m → end_nodes l ≡ end_nodes m
nodes_alike l m is = flat_alike (λ s. map (λ e. e.node) s.ends) l m is

owners_alike : (l m : List Segment) → AreAlike l m → end_owners l ≡ end_owners m
owners_alike l m is = flat_alike (λ s. replicate (length s.ends) s.owner) l m is

pub ends_alike : (l m : List Segment) → AreAlike l m → all_ends l ≡ all_ends m
ends_alike l m is = flat_alike (λ s. s.ends) l m is

pub numbers_alike : (l m : List Segment) → AreAlike l m → numbers_from 0 l ≡ numbers_from 0 m
numbers_alike l m is = sym (by 0 l) ∙ ap (numbers_from 0) is ∙ by 0 m
  where
    by : (n : ℕ) (l : List Segment) → numbers_from n (map unmarked l) ≡ numbers_from n l
    by n [] = refl
    by n (s ∷ l) = ap (λ (r : List ℕ). replicate (length s.ends) n ++ r) (by (n + 1) l)

-- the tests of such a wiring, but for pipes, say what they said
pub kept_alike : (w : Wiring) (l : List Segment) → kept w ≡ Ok w → AreAlike l w.segments
    → kept (record w { segments = l }) ≡ cond (has_bad_pipe (record w { segments = l })) (Err kinds.Pipe) (Ok (record w { segments = l }))
kept_alike w l was is =
    ap (λ (b : Bool). cond b (Err kinds.Twice) (cond (not (knows_all v)) (Err kinds.Unknown) (cond (has_same v) (Err kinds.Same) (cond (has_bad_pipe v) (Err kinds.Pipe) (cond (not (keeps_limits v)) (Err kinds.Limit) (Ok v)))))) twice
    ∙ ap (λ (b : Bool). cond (not b) (Err kinds.Unknown) (cond (has_same v) (Err kinds.Same) (cond (has_bad_pipe v) (Err kinds.Pipe) (cond (not (keeps_limits v)) (Err kinds.Limit) (Ok v))))) known
    ∙ ap (λ (b : Bool). cond b (Err kinds.Same) (cond (has_bad_pipe v) (Err kinds.Pipe) (cond (not (keeps_limits v)) (Err kinds.Limit) (Ok v)))) same
    ∙ ap (λ (b : Bool). cond (has_bad_pipe v) (Err kinds.Pipe) (cond (not b) (Err kinds.Limit) (Ok v))) limits
  where
    v : Wiring
    v = record w { segments = l }

    ends : end_nodes l ≡ end_nodes w.segments
    ends = nodes_alike l w.segments is

    twice : has_twice v ≡ false
    twice =
        (λ i. stands_again (λ a b. same_name a.name b.name) w.classes
        || (stands_again (λ a b. same_name a.name b.name) w.nodes
        || (names_again l w.segments is i
        || (list_any (λ c. stands_again same_name c.types) w.classes
        || (list_any (λ v. stands_again (λ a b. same_name a.0 b.0) v.desires) w.nodes
        || (stands_again same_address (ends_alike l w.segments is i)
        || list_any (λ v. asks_class_name w.classes v.asks) w.nodes))))))
        ∙ (tests_of w was).twice

    known : knows_all v ≡ true
    known =
        (λ i. list_all (λ v. knows_class w v.asks) w.nodes
        && (all_alike (λ s. list_all (λ e. nat_lt e.node (length w.nodes)) s.ends) l w.segments is i
        && list_all (λ q. nat_lt q.node (length w.nodes) && (nat_lt (end_number (ends i) q.node q.from) (length (ends i)) && nat_lt (end_number (ends i) q.node q.to) (length (ends i)))) w.pipes))
        ∙ (tests_of w was).known

    same : has_same v ≡ false
    same = any_alike (λ s. stands_again (λ a b. eqb a.node b.node) s.ends) l w.segments is ∙ (tests_of w was).same

    limits : keeps_limits v ≡ true
    limits =
        (λ i. nat_le (length w.classes) 64
        && (nat_le (length w.nodes) 256
        && (nat_le (count_alike l w.segments is i) 512
        && (nat_le (length (ends i)) 4096
        && (list_all limits_class w.classes
        && (list_all limits_node w.nodes
        && (all_alike limits_segment l w.segments is i
        && list_all limits_pipe w.pipes)))))))
        ∙ (tests_of w was).limits

-- A SEGMENT THAT IS MULTIPLEXED

pub map_set : {X Y : Type 0} (f : X → Y) (xs : List X) (i : ℕ) (y d : X) → f y ≡ f (get_or xs i d) → i < length xs → map f (set xs i y) ≡ map f xs
map_set f [] i y d same lt = absurd (omega (arith, lt))
map_set f (x ∷ xs) zero y d same lt = λ j. same j ∷ map f xs
map_set f (x ∷ xs) (suc i) y d same lt = ap (λ l. f x ∷ l) (map_set f xs i y d same (omega (arith, lt)))

pub set_alike : (w : Wiring) (s : ℕ) → s < length w.segments → AreAlike (with_multiplexed w s).segments w.segments
set_alike w s lt = map_set unmarked w.segments s _ no_segment refl lt

same_eqb : (a b : ℕ) → a ≡ b → eqb a b ≡ true
same_eqb a b e = grind (arith, nat_tests)

other_eqb : (a b : ℕ) → (a ≡ b → ⊥) → eqb a b ≡ false
other_eqb a b e = grind (arith, nat_tests)

module _ (w : Wiring) (s : ℕ) (lt : s < length w.segments) (few : length w.segments ≤ 65535) where
  abbrev pub with : Wiring
  with = with_multiplexed w s

  alike : AreAlike with.segments w.segments
  alike = set_alike w s lt

  marked_at : (n : ℕ) → (segment_at with n).multiplexed ≡ (eqb n s || (segment_at w n).multiplexed)
  marked_at n = elim (cases_eq n s) [
    | inl same ↦
        let set_to : Segment = record (segment_at w s) { multiplexed = true } in
        let here : get_or (set w.segments s set_to) n no_segment ≡ set_to = ap (λ (k : ℕ). get_or (set w.segments s set_to) k no_segment) same ∙ get_or-set_same w.segments s set_to no_segment lt in
        ap (λ (x : Segment). x.multiplexed) here ∙ sym (ap (λ (b : Bool). b || (segment_at w n).multiplexed) (same_eqb n s same))
    | inr other ↦
        ap (λ (x : Segment). x.multiplexed) (get_or-set_other w.segments s n (record (segment_at w s) { multiplexed = true }) no_segment other) ∙ sym (ap (λ (b : Bool). b || (segment_at w n).multiplexed) (other_eqb n s other))
  ]

  flag_at : (e : ℕ) → multiplexed_at with e ≡ (eqb (segment_of_end w e) s || multiplexed_at w e)
  flag_at e =
      of_number (λ s. s.multiplexed) with e (omega (arith, few, count_alike with.segments w.segments alike))
      ∙ ap (λ (l : List ℕ). (segment_at with (get_or l e 65535)).multiplexed) (numbers_alike with.segments w.segments alike)
      ∙ marked_at (segment_of_end w e)
      ∙ ap (λ (b : Bool). eqb (segment_of_end w e) s || b) (sym (of_number (λ s. s.multiplexed) w e few))

  one_flag : (v k : ℕ) → multiplexed_at w (end_number (end_nodes w.segments) v k) ≡ false → multiplexed_at with (end_number (end_nodes with.segments) v k) ≡ eqb (segment_of_end w (end_number (end_nodes w.segments) v k)) s
  one_flag v k plain =
      let e = end_number (end_nodes w.segments) v k in
      ap (λ (l : List ℕ). multiplexed_at with (end_number l v k)) (nodes_alike with.segments w.segments alike) ∙ flag_at e ∙ ap (λ (b : Bool). eqb (segment_of_end w e) s || b) plain ∙ or-false (eqb (segment_of_end w e) s)

  one_pipe : (p : Pipe) → is_bad_pipe w p ≡ false → is_bad_pipe with p ≡ joins w s p
  one_pipe p good =
      let a = or_parts (eqb p.from p.to) _ good in
      let b = or_parts (not (same_name (owner_at w (pipe_from w p)) (owner_at w (pipe_to w p)))) _ a.1 in
      let d = or_parts (multiplexed_at w (pipe_from w p)) (multiplexed_at w (pipe_to w p)) b.1 in
      let owners = owners_alike with.segments w.segments alike in
      let nodes = nodes_alike with.segments w.segments alike in
      let apart : not (same_name (owner_at with (pipe_from with p)) (owner_at with (pipe_to with p))) ≡ false =
      (λ i. not (same_name (get_or (owners i) (end_number (nodes i) p.node p.from) []) (get_or (owners i) (end_number (nodes i) p.node p.to) []))) ∙ b.0 in
      λ i. a.0 i || (apart i || (one_flag p.node p.from d.0 i || one_flag p.node p.to d.1 i))

  -- such a wiring has a bad pipe exactly where a pipe joins an end of the segment
  pub bad_multiplexed : has_bad_pipe w ≡ false → has_bad_pipe with ≡ list_any (joins w s) w.pipes
  bad_multiplexed none =
      let parts = or_parts (list_any (is_bad_pipe w) w.pipes) (stands_again shares_end w.pipes) none in
      (λ i. each w.pipes parts.0 i || parts.1 i) ∙ or-false (list_any (joins w s) w.pipes)
    where
      each : (pipes : List Pipe) → list_any (is_bad_pipe w) pipes ≡ false → list_any (is_bad_pipe with) pipes ≡ list_any (joins w s) pipes
      each [] h = refl
      each (p ∷ pipes) h = let parts = or_parts (is_bad_pipe w p) (list_any (is_bad_pipe w) pipes) h in λ i. one_pipe p parts.0 i || each pipes parts.1 i

-- which segments pipes join, of such a wiring
pub joins_alike : (w : Wiring) (l : List Segment) (s : ℕ) → AreAlike l w.segments → list_any (joins (record w { segments = l }) s) w.pipes ≡ list_any (joins w s) w.pipes
joins_alike w l s is =
    let nodes = nodes_alike l w.segments is in
    let numbers = numbers_alike l w.segments is in
    λ i. list_any (λ p. eqb (get_or (numbers i) (end_number (nodes i) p.node p.from) 65535) s || eqb (get_or (numbers i) (end_number (nodes i) p.node p.to) 65535) s) w.pipes

pub segments_on_alike : (l m : List Segment) (v : ℕ) → AreAlike l m → segments_on l v ≡ segments_on m v
segments_on_alike l m v is =
    let nodes = nodes_alike l m is in
    let numbers = numbers_alike l m is in
    λ i. Rattle.virt_topo.specs.Owners.at_ends v (nodes i) (numbers i)
