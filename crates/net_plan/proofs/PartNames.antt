-- The names of the parts of links and LANs differ.
use Rattle.std.specs.Prelude.{codes, decimal}
use Rattle.std.proofs.Common.{◌≡◌, ◌≢◌, ◌⊎◌, inl, inr, ℕ, ◌+◌, ◌≤◌, Bool, true, false, cond, List, [], ◌∷◌, ◌++◌, length, map, get_or, refl, sym, ap, subst, ◌∙◌, arith, length-append}
use Rattle.std.specs.List.{flat_map, enumerate_from, range_with_len}
use Rattle.std.proofs.lemmas.List.{append_cancel_left, map-append}
use Rattle.lab_base.specs.Lists.{Has, AllDiffer}
use Rattle.lab_base.proofs.Members.{Has-map, Has-append, Has-flat_map}
use Rattle.virt_topo.specs.declared.wiring.VirtEnd.{VirtEnd}
use Rattle.virt_topo.specs.declared.topo.AskedNode.{AskedNode}
use Rattle.virt_topo.specs.declared.topo.AskedLink.{AskedLink}
use Rattle.virt_topo.specs.Topos.{Topo, IsAskedName}
use Rattle.net_plan.specs.Parts.{is_shaped, asked_node, delays, delay_nodes, delay_node, member_node_name, part, delay_end, member_segment, lan_segments, link_segments, segments_of}
use Rattle.net_plan.specs.Expansion.{numbered, wired}
use Rattle.net_plan.proofs.Apart.{differ-append, differ-flat, differ-map, Has-range, range-differ}
use Rattle.net_plan.proofs.Marks.{IsDotless, decimal_no_dot, decimal_same, last_dot, asked_apart}

pub map-flat_map : {X Y Z : Type 0} (g : Y → Z) (f : X → List Y) (xs : List X) → map g (flat_map f xs) ≡ flat_map (λ x. map g (f x)) xs
map-flat_map g f [] = refl
map-flat_map g f (x ∷ xs) = map-append g (f x) (flat_map f xs) ∙ ap (λ l. map g (f x) ++ l) (map-flat_map g f xs)

-- a link's name, a dot, and a mark that begins with that byte
pub record IsMarked (byte : ℕ) (link name : List ℕ) : Type 0 where
  pub rest : List ℕ
  pub dotless : IsDotless (byte ∷ rest)
  pub is : name ≡ link ++ 46 ∷ byte ∷ rest

-- two links with one marked name are one
pub marked_same : (b c : ℕ) (link other name : List ℕ) → IsMarked b link name → IsMarked c other name → (link ≡ other) × (b ≡ c)
marked_same b c link other name one two =
    let r = last_dot link other (b ∷ one.rest) (c ∷ two.rest) one.dotless two.dotless (sym one.is ∙ two.is) in
    (r.0, cc r.1)

-- DELAY NODES

abbrev pub node_names : AskedLink → List (List ℕ)
node_names l = map (λ v. v.name) (delay_nodes l)

abbrev pub one_name : AskedLink → List ℕ
one_name l = l.name ++ codes ".d"

numbered_name : (l : AskedLink) (is : List ℕ) → map (λ v. v.name) (map (λ i. delay_node (member_node_name l i)) is) ≡ map (member_node_name l) is
numbered_name l [] = refl
numbered_name l (i ∷ is) = ap (λ (ns : List (List ℕ)). member_node_name l i ∷ ns) (numbered_name l is)

-- by cases: none, one, or one for each member
pub node_names-by : (l : AskedLink) → node_names l ≡ cond (is_shaped l.rates) (cond l.lan (map (member_node_name l) (range_with_len 1 (length l.ends))) (one_name l ∷ [])) []
node_names-by l = by (is_shaped l.rates) l.lan
  where
    by : (shaped lan : Bool) → map (λ v. v.name) (cond shaped (cond lan (map (λ i. delay_node (member_node_name l i)) (range_with_len 1 (length l.ends))) (delay_node (one_name l) ∷ [])) []) ≡ cond shaped (cond lan (map (member_node_name l) (range_with_len 1 (length l.ends))) (one_name l ∷ [])) []
    by true true = numbered_name l (range_with_len 1 (length l.ends))
    by true false = refl
    by false lan = refl

pub node_marked : (l : AskedLink) (name : List ℕ) → Has (node_names l) name → IsMarked 100 l.name name
node_marked l name h = by (is_shaped l.rates) l.lan (subst (λ ns. Has ns name) (node_names-by l) h)
  where
    by : (shaped lan : Bool) → Has (cond shaped (cond lan (map (member_node_name l) (range_with_len 1 (length l.ends))) (one_name l ∷ [])) []) name → IsMarked 100 l.name name
    by true true g = let r = Has-map (member_node_name l) (range_with_len 1 (length l.ends)) name g in record { rest = decimal r.0; dotless = decimal_no_dot r.0; is = sym r.2 }
    by true false (inl e) = record { rest = []; dotless = refl; is = sym e }
    by true false (inr g) = absurd g
    by false lan g = absurd g

-- marks with two numbers differ
pub numbered_differ : (link : List ℕ) (byte a n : ℕ) → a + n ≤ 1000 → AllDiffer (map (λ i. link ++ (46 ∷ byte ∷ decimal i)) (range_with_len a n))
numbered_differ link byte a n few = differ-map (λ i. link ++ (46 ∷ byte ∷ decimal i)) (range_with_len a n) same (range-differ a n)
  where
    same : (i j : ℕ) → Has (range_with_len a n) i → Has (range_with_len a n) j → link ++ (46 ∷ byte ∷ decimal i) ≡ link ++ (46 ∷ byte ∷ decimal j) → i ≡ j
    same i j h g e =
        let rest : 46 ∷ byte ∷ decimal i ≡ 46 ∷ byte ∷ decimal j = append_cancel_left link (46 ∷ byte ∷ decimal i) (46 ∷ byte ∷ decimal j) e in
        let digits : decimal i ≡ decimal j = cc rest in
        decimal_same i j (omega (arith, (Has-range a n i h).1)) (omega (arith, (Has-range a n j g).1)) digits

node_names-differ : (l : AskedLink) → length l.ends ≤ 254 → AllDiffer (node_names l)
node_names-differ l few = subst AllDiffer (sym (node_names-by l)) (by (is_shaped l.rates) l.lan)
  where
    by : (shaped lan : Bool) → AllDiffer (cond shaped (cond lan (map (member_node_name l) (range_with_len 1 (length l.ends))) (one_name l ∷ [])) [])
    by true true = numbered_differ l.name 100 1 (length l.ends) (omega arith)
    by true false = (λ x h. absurd h, tt)
    by false lan = tt

asked_names : (nodes : List AskedNode) → map (λ v. v.name) (map asked_node nodes) ≡ map (λ n. n.name) nodes
asked_names [] = refl
asked_names (n ∷ nodes) = ap (λ (ns : List (List ℕ)). n.name ∷ ns) (asked_names nodes)

-- what is known of the names of nodes and links
pub record AreNamed (nodes : List AskedNode) (links : List AskedLink) : Type 0 where
  pub nodes_differ : AllDiffer (map (λ n. n.name) nodes)
  pub links_differ : AllDiffer (map (λ l. l.name) links)
  pub node : (n : AskedNode) → Has nodes n → IsAskedName (codes "tb.n") n.name
  pub link : (l : AskedLink) → Has links l → IsAskedName (codes "tb.l") l.name
  pub few : (l : AskedLink) → Has links l → length l.ends ≤ 254

pub all_nodes_differ : (t : Topo) (links : List AskedLink) → AreNamed t.nodes links → AllDiffer (map (λ v. v.name) (wired t links).nodes)
all_nodes_differ t links are =
    subst AllDiffer (sym whole) (differ-append (map (λ n. n.name) t.nodes) (flat_map node_names links) are.nodes_differ delayed across)
  where
    whole : map (λ v. v.name) (map asked_node t.nodes ++ flat_map delay_nodes links) ≡ map (λ n. n.name) t.nodes ++ flat_map node_names links
    whole =
        map-append (λ v. v.name) (map asked_node t.nodes) (flat_map delay_nodes links)
        ∙ (λ i. asked_names t.nodes i ++ map-flat_map (λ v. v.name) delay_nodes links i)

    delayed : AllDiffer (flat_map node_names links)
    delayed = differ-flat (λ l. l.name) node_names links are.links_differ (λ l h. node_names-differ l (are.few l h)) (λ l m v h g a b. (marked_same 100 100 l.name m.name v (node_marked l v a) (node_marked m v b)).0)

    across : (name : List ℕ) → Has (map (λ n. n.name) t.nodes) name → Has (flat_map node_names links) name → ⊥
    across name h g =
        let n = Has-map (λ n. n.name) t.nodes name h in
        let l = Has-flat_map node_names links name g in
        let mark = node_marked l.0 name l.2 in
        let other : 100 ≢ 110 = λ e. omega (arith, e) in
        asked_apart 110 100 n.0.name l.0.name mark.rest (are.node n.0 n.1) (are.link l.0 l.1) mark.dotless other (n.2 ∙ mark.is)

-- SEGMENTS

abbrev pub segment_names : (ℕ × AskedLink) → List (List ℕ)
segment_names p = map (λ s. s.name) (segments_of p)

-- a segment has its link's name, or that with a mark of `0`, `1` or `m`
pub IsPartName : List ℕ → List ℕ → Type 0
IsPartName link name = (name ≡ link) ⊎ ((byte : ℕ) × (byte ≢ 108) × IsMarked byte link name)

member_names : (l : AskedLink) (first n : ℕ) (ends : List VirtEnd) → map (λ s. s.name) (map (member_segment l first) (enumerate_from n ends)) ≡ map (λ i. l.name ++ (46 ∷ 109 ∷ decimal i)) (range_with_len (n + 1) (length ends))
member_names l first n [] = refl
member_names l first n (e ∷ ends) = ap (λ (ns : List (List ℕ)). (l.name ++ (46 ∷ 109 ∷ decimal (n + 1))) ∷ ns) (member_names l first (n + 1) ends)

lan_names : (l : AskedLink) (first : ℕ) → map (λ s. s.name) (lan_segments l first) ≡ map (λ i. l.name ++ (46 ∷ 109 ∷ decimal i)) (range_with_len 1 (length l.ends)) ++ l.name ∷ []
lan_names l first =
    map-append (λ s. s.name) (map (member_segment l first) (enumerate_from 0 l.ends)) (part l l.name (map delay_end (range_with_len first (length l.ends))) ∷ [])
    ∙ ap (λ (ns : List (List ℕ)). ns ++ l.name ∷ []) (member_names l first 0 l.ends)

part_name : (p : ℕ × AskedLink) (name : List ℕ) → Has (segment_names p) name → IsPartName p.1.name name
unfolding IsPartName
part_name (first, l) name h = by (is_shaped l.rates) l.lan h
  where
    two : (ends : List VirtEnd) → Has (map (λ s. s.name) (link_segments l first ends)) name → IsPartName l.name name
    two [] g = absurd g
    two (a ∷ []) g = absurd g
    two (a ∷ b ∷ []) (inl e) = inr (48, (λ d. omega (arith, d)), record { rest = []; dotless = refl; is = sym e })
    two (a ∷ b ∷ []) (inr (inl e)) = inr (49, (λ d. omega (arith, d)), record { rest = []; dotless = refl; is = sym e })
    two (a ∷ b ∷ []) (inr (inr g)) = absurd g
    two (a ∷ b ∷ c ∷ ends) g = absurd g

    many : Has (map (λ i. l.name ++ (46 ∷ 109 ∷ decimal i)) (range_with_len 1 (length l.ends)) ++ l.name ∷ []) name → IsPartName l.name name
    many g = elim (Has-append (map (λ i. l.name ++ (46 ∷ 109 ∷ decimal i)) (range_with_len 1 (length l.ends))) (l.name ∷ []) name g) [
      | inl k ↦ let r = Has-map (λ i. l.name ++ (46 ∷ 109 ∷ decimal i)) (range_with_len 1 (length l.ends)) name k in inr (109, (λ d. omega (arith, d)), record { rest = decimal r.0; dotless = decimal_no_dot r.0; is = sym r.2 })
      | inr k ↦ elim k [ inl e ↦ inl (sym e) | inr j ↦ absurd j ]
    ]

    by : (shaped lan : Bool) → Has (map (λ s. s.name) (cond shaped (cond lan (lan_segments l first) (link_segments l first l.ends)) (part l l.name l.ends ∷ []))) name → IsPartName l.name name
    by true true g = many (subst (λ ns. Has ns name) (lan_names l first) g)
    by true false g = two l.ends g
    by false lan (inl e) = inl (sym e)
    by false lan (inr g) = absurd g

longer : (link mark : List ℕ) → link ≡ link ++ 46 ∷ mark → ⊥
longer link mark e = let len = ap (λ (l : List ℕ). length l) e in absurd (omega (arith, len, length-append link (46 ∷ mark)))

own_names-differ : (p : ℕ × AskedLink) → length p.1.ends ≤ 254 → AllDiffer (segment_names p)
own_names-differ (first, l) few = by (is_shaped l.rates) l.lan
  where
    two : (ends : List VirtEnd) → AllDiffer (map (λ s. s.name) (link_segments l first ends))
    two [] = tt
    two (a ∷ []) = tt
    two (a ∷ b ∷ []) =
        let ne : l.name ++ codes ".0" ≢ l.name ++ codes ".1" = λ e. let byte : 48 ≡ 49 = ap (λ (m : List ℕ). get_or m 1 0) (append_cancel_left l.name (codes ".0") (codes ".1") e) in omega (arith, byte) in
        ((λ x h e. elim h [ inl d ↦ ne (e ∙ sym d) | inr g ↦ g ]), (λ x h. absurd h, tt))
    two (a ∷ b ∷ c ∷ ends) = tt

    many : AllDiffer (map (λ i. l.name ++ (46 ∷ 109 ∷ decimal i)) (range_with_len 1 (length l.ends)) ++ l.name ∷ [])
    many =
        differ-append (map (λ i. l.name ++ (46 ∷ 109 ∷ decimal i)) (range_with_len 1 (length l.ends))) (l.name ∷ []) (numbered_differ l.name 109 1 (length l.ends) (omega arith)) (λ x h. absurd h, tt)
        (λ x h g. let r = Has-map (λ i. l.name ++ (46 ∷ 109 ∷ decimal i)) (range_with_len 1 (length l.ends)) x h in elim g [ inl e ↦ longer l.name (109 ∷ decimal r.0) (e ∙ sym r.2) | inr k ↦ k ])

    by : (shaped lan : Bool) → AllDiffer (map (λ s. s.name) (cond shaped (cond lan (lan_segments l first) (link_segments l first l.ends)) (part l l.name l.ends ∷ [])))
    by true true = subst AllDiffer (sym (lan_names l first)) many
    by true false = two l.ends
    by false lan = (λ x h. absurd h, tt)

pub numbered-names : (first : ℕ) (links : List AskedLink) → map (λ p. p.1.name) (numbered first links) ≡ map (λ l. l.name) links
numbered-names first [] = refl
numbered-names first (l ∷ links) = ap (λ (ns : List (List ℕ)). l.name ∷ ns) (numbered-names (first + delays l) links)

pub numbered-link : (first : ℕ) (links : List AskedLink) (p : ℕ × AskedLink) → Has (numbered first links) p → Has links p.1
numbered-link first [] p h = absurd h
numbered-link first (l ∷ links) p (inl e) = inl (ap (λ (q : ℕ × AskedLink). q.1) e)
numbered-link first (l ∷ links) p (inr h) = inr (numbered-link (first + delays l) links p h)

pub all_segments_differ : (t : Topo) (links : List AskedLink) → AreNamed t.nodes links → AllDiffer (map (λ s. s.name) (wired t links).segments)
unfolding IsPartName
all_segments_differ t links are =
    subst AllDiffer (sym (map-flat_map (λ s. s.name) segments_of pairs))
    (differ-flat (λ p. p.1.name) segment_names pairs (subst AllDiffer (sym (numbered-names n links)) are.links_differ) (λ p h. own_names-differ p (are.few p.1 (numbered-link n links p h))) common)
  where
    n : ℕ
    n = length t.nodes

    pairs : List (ℕ × AskedLink)
    pairs = numbered (length t.nodes) links

    apart : (p q : ℕ × AskedLink) (v : List ℕ) → Has links p.1 → Has links q.1 → v ≡ p.1.name → (byte : ℕ) × (byte ≢ 108) × IsMarked byte q.1.name v → ⊥
    apart p q v h g is mark = asked_apart 108 mark.0 p.1.name q.1.name mark.2.rest (are.link p.1 h) (are.link q.1 g) mark.2.dotless mark.1 (sym is ∙ mark.2.is)

    common : (p q : ℕ × AskedLink) (v : List ℕ) → Has pairs p → Has pairs q → Has (segment_names p) v → Has (segment_names q) v → p.1.name ≡ q.1.name
    common p q v h g a b =
        let hp = numbered-link (length t.nodes) links p h in
        let hq = numbered-link (length t.nodes) links q g in
        elim (part_name p v a) [
          | inl e ↦ elim (part_name q v b) [
            | inl d ↦ sym e ∙ d
            | inr mark ↦ absurd (apart p q v hp hq e mark)
          ]
          | inr mark ↦ elim (part_name q v b) [
            | inl d ↦ absurd (apart q p v hq hp d mark)
            | inr other ↦ (marked_same mark.0 other.0 p.1.name q.1.name v mark.2 other.2).0
          ]
        ]
