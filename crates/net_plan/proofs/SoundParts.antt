-- The parts of an expansion keep what a sound wiring keeps.
use Rattle.std.specs.Prelude.{nat_eq, codes, ◌&&◌, ◌||◌, not, ◌==◌, slice_index_or}
use Rattle.std.proofs.Common.{◌≡◌, inl, inr, ℕ, ◌+◌, ◌<◌, ◌≤◌, Bool, true, false, cond, eqb, List, [], ◌∷◌, ◌++◌, length, map, sum_by, refl, sym, ap, subst, ◌∙◌, arith}
use Rattle.std.specs.List.{list_all, list_any, flat_map, enumerate_from, range_with_len}
use Rattle.std.proofs.lemmas.Bool.{and_from, lt-ltb, eqb-true, ne_eqb}
use Rattle.lab_base.specs.Lists.{Has, AllDiffer}
use Rattle.lab_base.proofs.Members.{Has-map, Has-mapped, Has-append, Has-flat_map, all_has, all_from, none_from}
use Rattle.lab_base.specs.Names.{same_name}
use Rattle.lab_base.proofs.Bytes.{bytes_self}
use Rattle.virt_topo.specs.declared.wiring.Asks.{Asks}
use Rattle.virt_topo.specs.declared.wiring.Asks.TheVariants.{Plain, Class as InClass}
use Rattle.virt_topo.specs.declared.wiring.VirtNode.{VirtNode}
use Rattle.virt_topo.specs.declared.wiring.VirtEnd.{VirtEnd}
use Rattle.virt_topo.specs.declared.wiring.Segment.{Segment}
use Rattle.virt_topo.specs.declared.wiring.Pipe.{Pipe}
use Rattle.virt_topo.specs.declared.topo.AskedNode.{AskedNode}
use Rattle.virt_topo.specs.declared.topo.AskedLink.{AskedLink}
use Rattle.virt_topo.specs.Ends.{end_nodes, end_owners, end_multiplexed, end_number, pipe_from, pipe_to}
use Rattle.virt_topo.specs.Repeats.{stands_again}
use Rattle.virt_topo.specs.Soundness.{knows_class, knows_node, is_end, knows_pipe, knows_all, has_same, owner_at, multiplexed_at, is_bad_pipe, shares_end, has_bad_pipe}
use Rattle.virt_topo.specs.Topos.{Topo, knows_asked}
use Rattle.net_plan.specs.Parts.{is_shaped, asked_node, delay_node, delay_nodes, member_node_name, delays, part, delay_end, member_segment, lan_segments, link_segments, segments_of, pipes_of}
use Rattle.net_plan.specs.Expansion.{numbered, wired}
use Rattle.net_plan.proofs.Apart.{once-differ, range-differ}
use Rattle.net_plan.proofs.Counts.{two_ends}
use Rattle.net_plan.proofs.LimitLaws.{length-nodes}
use Rattle.net_plan.proofs.Numbering.{IsDelayOf, within, one_link, all_pipes, pipe_ends, pipe_shaped, pipe_delay, has_owner, has_alone, part_end, all_twice, both_ends, owner_is, alone_is}
use Rattle.net_plan.proofs.PartNames.{numbered-link}
use Rattle.net_plan.proofs.Ready.{IsReady}

-- WHICH VIRTUAL NODES THERE ARE

delay_is : (l : AskedLink) (v : VirtNode) → Has (delay_nodes l) v → (name : List ℕ) × (delay_node name ≡ v)
delay_is l v h = by (is_shaped l.rates) l.lan h
  where
    by : (shaped lan : Bool) → Has (cond shaped (cond lan (map (λ i. delay_node (member_node_name l i)) (range_with_len 1 (length l.ends))) (delay_node (l.name ++ codes ".d") ∷ [])) []) v → (name : List ℕ) × (delay_node name ≡ v)
    by true true g = let r = Has-map (λ i. delay_node (member_node_name l i)) (range_with_len 1 (length l.ends)) v g in (member_node_name l r.0, r.2)
    by true false (inl e) = (l.name ++ codes ".d", e)
    by true false (inr g) = absurd g
    by false lan g = absurd g

-- what asked nodes and delay nodes pass, all nodes pass
pub each_node : (p : VirtNode → Bool) (b : Bool) (t : Topo) (links : List AskedLink) → ((n : AskedNode) → Has t.nodes n → p (asked_node n) ≡ b) → ((name : List ℕ) → p (delay_node name) ≡ b)
    → (v : VirtNode) → Has (wired t links).nodes v → p v ≡ b
each_node p b t links asked delayed v h = elim (Has-append (map asked_node t.nodes) (flat_map delay_nodes links) v h) [
  | inl g ↦ let n = Has-map asked_node t.nodes v g in subst (λ u. p u ≡ b) n.2 (asked n.0 n.1)
  | inr g ↦
      let l = Has-flat_map delay_nodes links v g in
      let d = delay_is l.0 v l.2 in
      subst (λ u. p u ≡ b) d.1 (delayed d.0)
]

-- WHAT NUMBERS NAME

asks_known : (t : Topo) (links : List AskedLink) (asks : Asks) → knows_asked t asks ≡ true → knows_class (wired t links) asks ≡ true
asks_known t links (Plain type) h = refl
asks_known t links (InClass c) h = h

-- an end of a segment is on a node
node_known : (t : Topo) (links : List AskedLink) → IsReady t links → (s : Segment) (e : VirtEnd) → Has (wired t links).segments s → Has s.ends e → e.node < length t.nodes + sum_by delays links
node_known t links r s e h g =
    let p = Has-flat_map segments_of (numbered (length t.nodes) links) s h in
    let inside = within (length t.nodes) links p.0 p.1 in
    elim (part_end p.0 s e p.2 g) [
      | inl k ↦ omega (arith, r.ends p.0.1 e (numbered-link (length t.nodes) links p.0 p.1) k)
      | inr d ↦ omega (arith, d.1, inside.1)
    ]

-- what is known of a pipe
record IsPlaced (t : Topo) (links : List AskedLink) (pipe : Pipe) : Type 0 where
  from : pipe.from ≡ 0
  to : pipe.to ≡ 1
  node : pipe.node < length t.nodes + sum_by delays links
  first : end_number (end_nodes (wired t links).segments) pipe.node 0 < length (end_nodes (wired t links).segments)
  second : end_number (end_nodes (wired t links).segments) pipe.node 1 < length (end_nodes (wired t links).segments)
  same : slice_index_or (end_owners (wired t links).segments) (end_number (end_nodes (wired t links).segments) pipe.node 0) []
      ≡ slice_index_or (end_owners (wired t links).segments) (end_number (end_nodes (wired t links).segments) pipe.node 1) []
  alone : (k : ℕ) → end_number (end_nodes (wired t links).segments) pipe.node k < length (end_nodes (wired t links).segments)
      → slice_index_or (end_multiplexed (wired t links).segments) (end_number (end_nodes (wired t links).segments) pipe.node k) false ≡ false

placed : (t : Topo) (links : List AskedLink) → IsReady t links → (pipe : Pipe) → Has (wired t links).pipes pipe → IsPlaced t links pipe
placed t links r pipe h =
    let n = length t.nodes in
    let segments = (wired t links).segments in
    let p = Has-flat_map pipes_of (numbered n links) pipe h in
    let ends = pipe_ends p.0 pipe p.2 in
    let is : IsDelayOf p.0 pipe.node = pipe_delay p.0 pipe p.2 in
    let inside = within n links p.0 p.1 in
    let two = both_ends (end_nodes segments) pipe.node (all_twice n links p.0 pipe.node (λ l g. two_ends l (r.expandable l g)) p.1 is) in
    -- each segment with an end on the delay node is of the pipe's link or LAN
    let own : (s : Segment) (e : VirtEnd) → Has segments s → Has s.ends e → e.node ≡ pipe.node → Has (segments_of p.0) s = λ s e g k same.
    let q = Has-flat_map segments_of (numbered n links) s g in
    elim (part_end q.0 s e q.2 k) [
      | inl asked ↦ absurd (omega (arith, r.ends q.0.1 e (numbered-link n links q.0 q.1) asked, same, is.0, inside.0))
      | inr d ↦
          let other : IsDelayOf q.0 pipe.node = (omega (arith, d.0, same), omega (arith, d.1, same)) in
          subst (λ (x : ℕ × AskedLink). Has (segments_of x) s) (one_link n links q.0 p.0 pipe.node q.1 p.1 other is) q.2
    ] in
    let owner : (k : ℕ) → end_number (end_nodes segments) pipe.node k < length (end_nodes segments) → slice_index_or (end_owners segments) (end_number (end_nodes segments) pipe.node k) [] ≡ p.0.1.name = λ k lt.
    owner_is segments pipe.node k p.0.1.name (λ s e g h same. has_owner p.0 s (own s e g h same)) lt in
    record {
      from = ends.0;
      to = ends.1;
      node = omega (arith, is.1, inside.1);
      first = two.0;
      second = two.1;
      same = owner 0 two.0 ∙ sym (owner 1 two.1);
      alone = λ k lt. alone_is segments pipe.node k (λ s e g h same. has_alone p.0 s (pipe_shaped p.0 pipe p.2) (own s e g h same)) lt;
    }

pub all_known : (t : Topo) (links : List AskedLink) → IsReady t links → knows_all (wired t links) ≡ true
all_known t links r =
    let w = wired t links in
    and_from _ _ (all_from (λ v. knows_class w v.asks) w.nodes (each_node (λ v. knows_class w v.asks) true t links (λ n h. asks_known t links n.asks (all_has (λ n. knows_asked t n.asks) t.nodes n r.topo.asks h)) (λ name. refl)))
    (and_from _ _ (all_from (λ s. list_all (λ e. knows_node w e.node) s.ends) w.segments (λ s h. all_from (λ e. knows_node w e.node) s.ends (λ e g. lt-ltb e.node (length w.nodes) (omega (arith, count, node_known t links r s e h g)))))
    (all_from (knows_pipe w) w.pipes (λ pipe h.
    let is = placed t links r pipe h in
    and_from _ _ (lt-ltb pipe.node (length w.nodes) (omega (arith, count, is.node)))
    (and_from _ _
    (ap (is_end w pipe.node) is.from ∙ lt-ltb _ _ is.first)
    (ap (is_end w pipe.node) is.to ∙ lt-ltb _ _ is.second)))))
  where
    count : length (wired t links).nodes ≡ length t.nodes + sum_by delays links
    count = length-nodes t links

-- PIPES

pub no_bad_pipe : (t : Topo) (links : List AskedLink) → IsReady t links → has_bad_pipe (wired t links) ≡ false
no_bad_pipe t links r = λ i. alone i || apart i
  where
    alone : list_any (is_bad_pipe (wired t links)) (wired t links).pipes ≡ false
    alone = none_from (is_bad_pipe (wired t links)) (wired t links).pipes (λ pipe h.
        let w = wired t links in
        let is = placed t links r pipe h in
        let owners : owner_at w (pipe_from w pipe) ≡ owner_at w (pipe_to w pipe) =
        ap (λ (k : ℕ). owner_at w (end_number (end_nodes w.segments) pipe.node k)) is.from ∙ is.same ∙ ap (λ (k : ℕ). owner_at w (end_number (end_nodes w.segments) pipe.node k)) (sym is.to) in
        let one : same_name (owner_at w (pipe_from w pipe)) (owner_at w (pipe_to w pipe)) ≡ true = ap (λ (o : List ℕ). same_name o (owner_at w (pipe_to w pipe))) owners ∙ bytes_self (owner_at w (pipe_to w pipe)) in
        let at : ℕ → Bool = λ k. multiplexed_at w (end_number (end_nodes w.segments) pipe.node k) in
        let first : multiplexed_at w (pipe_from w pipe) ≡ false = ap at is.from ∙ is.alone 0 is.first in
        let second : multiplexed_at w (pipe_to w pipe) ≡ false = ap at is.to ∙ is.alone 1 is.second in
        λ i. eqb (is.from i) (is.to i) || (not (one i) || (first i || second i)))

    apart : stands_again shares_end (wired t links).pipes ≡ false
    apart = by (wired t links).pipes (subst AllDiffer (sym (all_pipes (length t.nodes) links)) (range-differ (length t.nodes) (sum_by delays links)))
      where
        by : (pipes : List Pipe) → AllDiffer (map (λ p. p.node) pipes) → stands_again shares_end pipes ≡ false
        by [] differ = refl
        by (p ∷ pipes) differ =
            let head : list_any (shares_end p) pipes ≡ false = none_from (shares_end p) pipes (λ q h.
            let other : eqb p.node q.node ≡ false = ne_eqb p.node q.node (differ.0 q.node (Has-mapped (λ p. p.node) pipes q h)) in
            ap (λ (b : Bool). b && ((p.from == q.from) || ((p.from == q.to) || ((p.to == q.from) || (p.to == q.to))))) other) in
            λ i. head i || by pipes differ.1 i

-- NODES OF A SEGMENT

member_nodes : (l : AskedLink) (first n : ℕ) (most : ℕ) (ends : List VirtEnd) (s : Segment) → most ≤ first → ((e : VirtEnd) → Has ends e → e.node < most) → Has (map (member_segment l first) (enumerate_from n ends)) s → AllDiffer (map (λ e. e.node) s.ends)
member_nodes l first n most [] s low all h = absurd h
member_nodes l first n most (e ∷ ends) s low all (inl is) =
    subst (λ (x : Segment). AllDiffer (map (λ d. d.node) x.ends)) is
    ((λ x h same. elim h [ inl d ↦ absurd (omega (arith, d, same, all e (inl refl))) | inr g ↦ g ]), ((λ x h. absurd h), tt))
member_nodes l first n most (e ∷ ends) s low all (inr h) = member_nodes l first (n + 1) most ends s low (λ d g. all d (inr g)) h

hub_nodes : (is : List ℕ) → map (λ e. e.node) (map delay_end is) ≡ is
hub_nodes [] = refl
hub_nodes (i ∷ is) = ap (λ (js : List ℕ). i ∷ js) (hub_nodes is)

segment_nodes : (p : ℕ × AskedLink) (most : ℕ) (s : Segment) → most ≤ p.0 → ((e : VirtEnd) → Has p.1.ends e → e.node < most) → AllDiffer (map (λ e. e.node) p.1.ends) → Has (segments_of p) s → AllDiffer (map (λ e. e.node) s.ends)
segment_nodes (first, l) most s low all differ h = by (is_shaped l.rates) l.lan h
  where
    two : (ends : List VirtEnd) → ((e : VirtEnd) → Has ends e → e.node < most) → Has (link_segments l first ends) s → AllDiffer (map (λ e. e.node) s.ends)
    two [] each k = absurd k
    two (a ∷ []) each k = absurd k
    two (a ∷ b ∷ []) each (inl is) =
        subst (λ (x : Segment). AllDiffer (map (λ d. d.node) x.ends)) is
        ((λ x g same. elim g [ inl d ↦ absurd (omega (arith, d, same, low, each a (inl refl))) | inr k ↦ k ]), ((λ x g. absurd g), tt))
    two (a ∷ b ∷ []) each (inr (inl is)) =
        subst (λ (x : Segment). AllDiffer (map (λ d. d.node) x.ends)) is
        ((λ x g same. elim g [ inl d ↦ absurd (omega (arith, d, same, low, each b (inr (inl refl)))) | inr k ↦ k ]), ((λ x g. absurd g), tt))
    two (a ∷ b ∷ []) each (inr (inr k)) = absurd k
    two (a ∷ b ∷ c ∷ ends) each k = absurd k

    by : (shaped lan : Bool) → Has (cond shaped (cond lan (lan_segments l first) (link_segments l first l.ends)) (part l l.name l.ends ∷ [])) s → AllDiffer (map (λ e. e.node) s.ends)
    by true true k = elim (Has-append (map (member_segment l first) (enumerate_from 0 l.ends)) (part l l.name (map delay_end (range_with_len first (length l.ends))) ∷ []) s k) [
      | inl j ↦ member_nodes l first 0 most l.ends s low all j
      | inr j ↦ elim j [
        | inl is ↦ subst (λ (x : Segment). AllDiffer (map (λ d. d.node) x.ends)) is (subst AllDiffer (sym (hub_nodes (range_with_len first (length l.ends)))) (range-differ first (length l.ends)))
        | inr i ↦ absurd i
      ]
    ]
    by true false k = two l.ends all k
    by false lan (inl is) = subst (λ (x : Segment). AllDiffer (map (λ d. d.node) x.ends)) is differ
    by false lan (inr k) = absurd k

pub none_same : (t : Topo) (links : List AskedLink) → IsReady t links → has_same (wired t links) ≡ false
none_same t links r = none_from (λ s. stands_again (λ a b. eqb a.node b.node) s.ends) (wired t links).segments (λ s h.
    let n = length t.nodes in
    let p = Has-flat_map segments_of (numbered n links) s h in
    let link = numbered-link n links p.0 p.1 in
    once-differ nat_eq eqb-true (λ e. e.node) s.ends (segment_nodes p.0 n s (within n links p.0 p.1).0 (λ e g. r.ends p.0.1 e link g) (r.members p.0.1 link) p.2))
