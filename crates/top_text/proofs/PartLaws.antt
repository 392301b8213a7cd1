-- A part of a sound wiring, as it is while its lines are read, has no fault.
use Rattle.std.proofs.Common.{◌≡◌, ◌⊎◌, ℕ, ◌≤◌, Bool, true, false, not, cond, eqb, ◌&&◌, ◌||◌, List, [], ◌∷◌, ◌++◌, length, map, None, Ok, Err, refl, sym, ap, ◌∙◌, arith, inl, inr, length-append}
use Rattle.std.specs.Prelude.{nat_lt}
use Rattle.std.specs.List.{list_all, list_any}
use Rattle.std.proofs.lemmas.Bool.{and_parts, and_from, or_parts, or_from, le-leb}
use Rattle.std.proofs.lemmas.List.{length-map}
use Rattle.std.proofs.lemmas.List.Folds.{list_all-append, list_any-append, list_all-map}
use Rattle.std.proofs.lemmas.Grind.{flat_map-append}
use Rattle.lab_base.specs.declared.fault.Kind.TheVariants as kinds
use Rattle.lab_base.proofs.Members.{any_map}
use Rattle.lab_base.specs.Names.{same_name}
use Rattle.virt_topo.specs.declared.wiring.Class.{Class}
use Rattle.virt_topo.specs.declared.wiring.VirtNode.{VirtNode}
use Rattle.virt_topo.specs.declared.wiring.VirtEnd.{VirtEnd}
use Rattle.virt_topo.specs.declared.wiring.Segment.{Segment}
use Rattle.virt_topo.specs.declared.wiring.Pipe.{Pipe}
use Rattle.virt_topo.specs.declared.wiring.Wiring.{Wiring}
use Rattle.virt_topo.specs.Ends.{end_nodes, end_number}
use Rattle.virt_topo.specs.Repeats.{stands_again}
use Rattle.virt_topo.specs.Soundness.{IsSound, limits_class, limits_node, limits_segment, limits_pipe, keeps_limits, knows_class, knows_pipe, knows_all, same_address, all_ends, asks_class_name, has_twice, has_same, is_bad_pipe, shares_end, has_bad_pipe}
use Rattle.virt_topo.proofs.CableLaws.{limits_of}
use Rattle.top_text.specs.Adding.{kept}
use Rattle.top_text.proofs.SoundTests.{sound_tests}

-- a virtual node before its fixed place is read
abbrev pub unfixed : VirtNode → VirtNode
unfixed v = record v { fixed = None }

-- some first classes, virtual nodes, segments and pipes of a wiring, each kind after those that it names
pub record IsPart (w p : Wiring) : Type 0 where
  pub more_classes : List Class
  pub classes : w.classes ≡ p.classes ++ more_classes
  pub more_nodes : List VirtNode
  pub nodes : map unfixed w.nodes ≡ map unfixed p.nodes ++ more_nodes
  pub more_segments : List Segment
  pub segments : w.segments ≡ p.segments ++ more_segments
  pub more_pipes : List Pipe
  pub pipes : w.pipes ≡ p.pipes ++ more_pipes
  pub asked : (p.nodes ≡ []) ⊎ (p.classes ≡ w.classes)
  pub ended : (p.segments ≡ []) ⊎ (length p.nodes ≡ length w.nodes)
  pub piped : (p.pipes ≡ []) ⊎ ((length p.nodes ≡ length w.nodes) × (p.segments ≡ w.segments))

-- THE FIRST ONES OF A LIST

all_front : {X : Type 0} (test : X → Bool) (whole front rest : List X) → whole ≡ front ++ rest → list_all test whole ≡ true → list_all test front ≡ true
all_front test whole front rest is all = (and_parts (list_all test front) (list_all test rest) (sym (list_all-append test front rest) ∙ sym (ap (list_all test) is) ∙ all)).0

none_front : {X : Type 0} (test : X → Bool) (whole front rest : List X) → whole ≡ front ++ rest → list_any test whole ≡ false → list_any test front ≡ false
none_front test whole front rest is none = (or_parts (list_any test front) (list_any test rest) (sym (list_any-append test front rest) ∙ sym (ap (list_any test) is) ∙ none)).0

once_left : {X : Type 0} (same : X → X → Bool) (front rest : List X) → stands_again same (front ++ rest) ≡ false → stands_again same front ≡ false
once_left same [] rest once = refl
once_left same (x ∷ front) rest once =
    let parts = or_parts (list_any (same x) (front ++ rest)) (stands_again same (front ++ rest)) once in
    or_from _ _ (none_front (same x) (front ++ rest) front rest refl parts.0) (once_left same front rest parts.1)

once_front : {X : Type 0} (same : X → X → Bool) (whole front rest : List X) → whole ≡ front ++ rest → stands_again same whole ≡ false → stands_again same front ≡ false
once_front same whole front rest is once = once_left same front rest (sym (ap (stands_again same) is) ∙ once)

pub once_map : {X Y : Type 0} (same : Y → Y → Bool) (f : X → Y) (xs : List X) → stands_again same (map f xs) ≡ stands_again (λ a b. same (f a) (f b)) xs
once_map same f [] = refl
once_map same f (x ∷ xs) = λ i. any_map (same (f x)) f xs i || once_map same f xs i

few_front : {X : Type 0} (whole front rest : List X) → whole ≡ front ++ rest → length front ≤ length whole
few_front {X} whole front rest is = omega (arith, ap (λ (l : List X). length l) is, length-append front rest)

module _ (w p : Wiring) (sound : IsSound w) (part : IsPart w p) where
  -- a test of virtual nodes that doesn't look at fixed places
  all_nodes : (test : VirtNode → Bool) → list_all (λ v. test (unfixed v)) w.nodes ≡ true → list_all (λ v. test (unfixed v)) p.nodes ≡ true
  all_nodes test all =
      sym (list_all-map test unfixed p.nodes) ∙ all_front test (map unfixed w.nodes) (map unfixed p.nodes) part.more_nodes part.nodes (list_all-map test unfixed w.nodes ∙ all)

  none_nodes : (test : VirtNode → Bool) → list_any (λ v. test (unfixed v)) w.nodes ≡ false → list_any (λ v. test (unfixed v)) p.nodes ≡ false
  none_nodes test none =
      sym (any_map test unfixed p.nodes) ∙ none_front test (map unfixed w.nodes) (map unfixed p.nodes) part.more_nodes part.nodes (any_map test unfixed w.nodes ∙ none)

  nodes_few : length p.nodes ≤ length w.nodes
  nodes_few = omega (arith, few_front (map unfixed w.nodes) (map unfixed p.nodes) part.more_nodes part.nodes, length-map w.nodes unfixed, length-map p.nodes unfixed)

  ends_few : length (end_nodes p.segments) ≤ length (end_nodes w.segments)
  ends_few = few_front (end_nodes w.segments) (end_nodes p.segments) (end_nodes part.more_segments) (ap end_nodes part.segments ∙ flat_map-append (λ (s : Segment). map (λ (e : VirtEnd). e.node) s.ends) p.segments part.more_segments)

  limits_kept : keeps_limits p ≡ true
  limits_kept =
      let limits = limits_of w (sound_tests w sound).limits in
      and_from _ _ (le-leb (length p.classes) 64 (omega (arith, few_front w.classes p.classes part.more_classes part.classes, limits.classes)))
      (and_from _ _ (le-leb (length p.nodes) 256 (omega (arith, nodes_few, limits.nodes)))
      (and_from _ _ (le-leb (length p.segments) 512 (omega (arith, few_front w.segments p.segments part.more_segments part.segments, limits.segments)))
      (and_from _ _ (le-leb (length (end_nodes p.segments)) 4096 (omega (arith, ends_few, limits.ends)))
      (and_from _ _ (all_front limits_class w.classes p.classes part.more_classes part.classes limits.each_class)
      (and_from _ _ (all_nodes limits_node limits.each_node)
      (and_from _ _ (all_front limits_segment w.segments p.segments part.more_segments part.segments limits.each_segment)
      (all_front limits_pipe w.pipes p.pipes part.more_pipes part.pipes limits.each_pipe)))))))

  twice_kept : has_twice p ≡ false
  twice_kept =
      let a = or_parts (stands_again (λ a b. same_name a.name b.name) w.classes) _ (sound_tests w sound).twice in
      let b = or_parts (stands_again (λ a b. same_name a.name b.name) w.nodes) _ a.1 in
      let c = or_parts (stands_again (λ a b. same_name a.name b.name) w.segments) _ b.1 in
      let d = or_parts (list_any (λ c. stands_again same_name c.types) w.classes) _ c.1 in
      let e = or_parts (list_any (λ v. stands_again (λ a b. same_name a.0 b.0) v.desires) w.nodes) _ d.1 in
      let f = or_parts (stands_again same_address (all_ends w.segments)) (list_any (λ v. asks_class_name w.classes v.asks) w.nodes) e.1 in
      or_from _ _ (once_front (λ a b. same_name a.name b.name) w.classes p.classes part.more_classes part.classes a.0)
      (or_from _ _ (sym (once_map (λ (a b : VirtNode). same_name a.name b.name) unfixed p.nodes) ∙ once_front (λ a b. same_name a.name b.name) (map unfixed w.nodes) (map unfixed p.nodes) part.more_nodes part.nodes (once_map (λ (a b : VirtNode). same_name a.name b.name) unfixed w.nodes ∙ b.0))
      (or_from _ _ (once_front (λ a b. same_name a.name b.name) w.segments p.segments part.more_segments part.segments c.0)
      (or_from _ _ (none_front (λ c. stands_again same_name c.types) w.classes p.classes part.more_classes part.classes d.0)
      (or_from _ _ (none_nodes (λ v. stands_again (λ a b. same_name a.0 b.0) v.desires) e.0)
      (or_from _ _ (once_front same_address (all_ends w.segments) (all_ends p.segments) (all_ends part.more_segments) (ap all_ends part.segments ∙ flat_map-append (λ (s : Segment). s.ends) p.segments part.more_segments) f.0)
      (asked part.asked f.1))))))
    where
      asked : (p.nodes ≡ []) ⊎ (p.classes ≡ w.classes) → list_any (λ v. asks_class_name w.classes v.asks) w.nodes ≡ false → list_any (λ v. asks_class_name p.classes v.asks) p.nodes ≡ false
      asked (inl none) h = ap (λ (l : List VirtNode). list_any (λ v. asks_class_name p.classes v.asks) l) none
      asked (inr same) h = ap (λ (l : List Class). list_any (λ v. asks_class_name l v.asks) p.nodes) same ∙ none_nodes (λ v. asks_class_name w.classes v.asks) h

  known_kept : knows_all p ≡ true
  known_kept =
      let a = and_parts (list_all (λ v. knows_class w v.asks) w.nodes) _ (sound_tests w sound).known in
      let b = and_parts (list_all (λ s. list_all (λ e. nat_lt e.node (length w.nodes)) s.ends) w.segments) (list_all (knows_pipe w) w.pipes) a.1 in
      and_from _ _ (asked part.asked a.0) (and_from _ _ (ended part.ended (all_front (λ s. list_all (λ e. nat_lt e.node (length w.nodes)) s.ends) w.segments p.segments part.more_segments part.segments b.0)) (piped part.piped (all_front (knows_pipe w) w.pipes p.pipes part.more_pipes part.pipes b.1)))
    where
      asked : (p.nodes ≡ []) ⊎ (p.classes ≡ w.classes) → list_all (λ v. knows_class w v.asks) w.nodes ≡ true → list_all (λ v. knows_class p v.asks) p.nodes ≡ true
      asked (inl none) h = ap (λ (l : List VirtNode). list_all (λ v. knows_class p v.asks) l) none
      asked (inr same) h = ap (λ (l : List Class). list_all (λ v. knows_class (record w { classes = l }) v.asks) p.nodes) same ∙ all_nodes (λ v. knows_class w v.asks) h

      ended : (p.segments ≡ []) ⊎ (length p.nodes ≡ length w.nodes) → list_all (λ s. list_all (λ e. nat_lt e.node (length w.nodes)) s.ends) p.segments ≡ true → list_all (λ s. list_all (λ e. nat_lt e.node (length p.nodes)) s.ends) p.segments ≡ true
      ended (inl none) h = ap (λ (l : List Segment). list_all (λ s. list_all (λ e. nat_lt e.node (length p.nodes)) s.ends) l) none
      ended (inr same) h = ap (λ (n : ℕ). list_all (λ s. list_all (λ e. nat_lt e.node n) s.ends) p.segments) same ∙ h

      piped : (p.pipes ≡ []) ⊎ ((length p.nodes ≡ length w.nodes) × (p.segments ≡ w.segments)) → list_all (knows_pipe w) p.pipes ≡ true → list_all (knows_pipe p) p.pipes ≡ true
      piped (inl none) h = ap (λ (l : List Pipe). list_all (knows_pipe p) l) none
      piped (inr same) h =
          ap (λ (n : ℕ). list_all (λ q. nat_lt q.node n && (nat_lt (end_number (end_nodes p.segments) q.node q.from) (length (end_nodes p.segments)) && nat_lt (end_number (end_nodes p.segments) q.node q.to) (length (end_nodes p.segments)))) p.pipes) same.0
          ∙ ap (λ (l : List Segment). list_all (λ q. nat_lt q.node (length w.nodes) && (nat_lt (end_number (end_nodes l) q.node q.from) (length (end_nodes l)) && nat_lt (end_number (end_nodes l) q.node q.to) (length (end_nodes l)))) p.pipes) same.1
          ∙ h

  same_kept : has_same p ≡ false
  same_kept = none_front (λ s. stands_again (λ a b. eqb a.node b.node) s.ends) w.segments p.segments part.more_segments part.segments (sound_tests w sound).same

  pipes_kept : has_bad_pipe p ≡ false
  pipes_kept =
      let a = or_parts (list_any (is_bad_pipe w) w.pipes) (stands_again shares_end w.pipes) (sound_tests w sound).pipes in
      or_from _ _ (piped part.piped (none_front (is_bad_pipe w) w.pipes p.pipes part.more_pipes part.pipes a.0)) (once_front shares_end w.pipes p.pipes part.more_pipes part.pipes a.1)
    where
      piped : (p.pipes ≡ []) ⊎ ((length p.nodes ≡ length w.nodes) × (p.segments ≡ w.segments)) → list_any (is_bad_pipe w) p.pipes ≡ false → list_any (is_bad_pipe p) p.pipes ≡ false
      piped (inl none) h = ap (λ (l : List Pipe). list_any (is_bad_pipe p) l) none
      piped (inr same) h = ap (λ (l : List Segment). list_any (is_bad_pipe (record w { segments = l })) p.pipes) same.1 ∙ h

  -- A PART HAS NO FAULT
  pub part_kept : kept p ≡ Ok p
  part_kept =
      ap (λ (b : Bool). cond b (Err kinds.Twice) (cond (not (knows_all p)) (Err kinds.Unknown) (cond (has_same p) (Err kinds.Same) (cond (has_bad_pipe p) (Err kinds.Pipe) (cond (not (keeps_limits p)) (Err kinds.Limit) (Ok p)))))) twice_kept
      ∙ ap (λ (b : Bool). cond (not b) (Err kinds.Unknown) (cond (has_same p) (Err kinds.Same) (cond (has_bad_pipe p) (Err kinds.Pipe) (cond (not (keeps_limits p)) (Err kinds.Limit) (Ok p))))) known_kept
      ∙ ap (λ (b : Bool). cond b (Err kinds.Same) (cond (has_bad_pipe p) (Err kinds.Pipe) (cond (not (keeps_limits p)) (Err kinds.Limit) (Ok p)))) same_kept
      ∙ ap (λ (b : Bool). cond b (Err kinds.Pipe) (cond (not (keeps_limits p)) (Err kinds.Limit) (Ok p))) pipes_kept
      ∙ ap (λ (b : Bool). cond (not b) (Err kinds.Limit) (Ok p)) limits_kept
