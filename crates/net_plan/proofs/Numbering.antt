-- The numbers of delay nodes, and what ends and pipes they have.
use Rattle.std.specs.Prelude.{not, ◌&&◌, replicate, slice_index_or}
use Rattle.std.proofs.Common.{◌≡◌, ◌≢◌, ◌⊎◌, inl, inr, ℕ, suc, ◌+◌, ◌-◌, ◌<◌, ◌≤◌, Bool, true, false, cond, eqb, List, [], ◌∷◌, ◌++◌, length, map, get_or, sum_by, append_assoc, refl, sym, ap, subst, ◌∙◌, arith}
use Rattle.std.specs.List.{flat_map, enumerate_from, range_with_len}
use Rattle.std.proofs.lemmas.Bool.{eqb-true, eq-eqb, ne_eqb, cases_eq}
use Rattle.std.proofs.lemmas.List.{map-append}
use Rattle.std.proofs.lemmas.List.Sums.{sum_by-cons}
use Rattle.std.proofs.lemmas.Grind.{flat_map-append}
use Rattle.lab_base.specs.Lists.{Has}
use Rattle.lab_base.specs.declared.rates.Rates.{Rates}
use Rattle.lab_base.proofs.Members.{Has-map, Has-mapped, Has-append, Has-left, Has-right, Has-flat_map}
use Rattle.virt_topo.specs.declared.wiring.VirtEnd.{VirtEnd}
use Rattle.virt_topo.specs.declared.wiring.Segment.{Segment}
use Rattle.virt_topo.specs.declared.wiring.Pipe.{Pipe}
use Rattle.virt_topo.specs.declared.topo.AskedLink.{AskedLink}
use Rattle.virt_topo.specs.Ends.{end_nodes, end_owners, end_multiplexed, end_number}
use Rattle.net_plan.specs.Parts.{is_shaped, delays, part, delay_end, member_segment, lan_segments, link_segments, segments_of, link_pipe, lan_pipe, pipes_of}
use Rattle.net_plan.specs.Expansion.{numbered}
use Rattle.net_plan.proofs.Apart.{Has-range, range-Has, range-append}

-- NUMBERS

-- a delay node of a link or LAN, numbered from the first on
abbrev pub IsDelayOf : (ℕ × AskedLink) → ℕ → Type 0
IsDelayOf p v = (p.0 ≤ v) × (v < p.0 + delays p.1)

pub within : (first : ℕ) (links : List AskedLink) (p : ℕ × AskedLink) → Has (numbered first links) p → (first ≤ p.0) × (p.0 + delays p.1 ≤ first + sum_by delays links)
within first [] p h = absurd h
within first (l ∷ links) p (inl e) =
    let number = ap (λ (q : ℕ × AskedLink). q.0) e in
    let own = ap (λ (q : ℕ × AskedLink). delays q.1) e in
    let more = sum_by-cons delays l links in
    (omega (arith, number), omega (arith, number, own, more))
within first (l ∷ links) p (inr h) =
    let r = within (first + delays l) links p h in
    let more = sum_by-cons delays l links in
    (omega (arith, r.0), omega (arith, r.1, more))

-- two links or LANs with one delay node are one
pub one_link : (first : ℕ) (links : List AskedLink) (p q : ℕ × AskedLink) (v : ℕ) → Has (numbered first links) p → Has (numbered first links) q → IsDelayOf p v → IsDelayOf q v → p ≡ q
one_link first [] p q v h g a b = absurd h
one_link first (l ∷ links) p q v (inl e) (inl d) a b = sym e ∙ d
one_link first (l ∷ links) p q v (inl e) (inr g) a b =
    let number = ap (λ (r : ℕ × AskedLink). r.0) e in
    let own = ap (λ (r : ℕ × AskedLink). delays r.1) e in
    absurd (omega (arith, number, own, (within (first + delays l) links q g).0, a.1, b.0))
one_link first (l ∷ links) p q v (inr h) (inl d) a b =
    let number = ap (λ (r : ℕ × AskedLink). r.0) d in
    let own = ap (λ (r : ℕ × AskedLink). delays r.1) d in
    absurd (omega (arith, number, own, (within (first + delays l) links p h).0, b.1, a.0))
one_link first (l ∷ links) p q v (inr h) (inr g) a b = one_link (first + delays l) links p q v h g a b

-- PIPES, ONE FOR EACH DELAY NODE

pipe_nodes : (rates : Rates) (is : List ℕ) → map (λ p. p.node) (map (lan_pipe rates) is) ≡ is
pipe_nodes rates [] = refl
pipe_nodes rates (i ∷ is) = ap (λ (js : List ℕ). i ∷ js) (pipe_nodes rates is)

own_pipes : (first : ℕ) (l : AskedLink) → map (λ p. p.node) (pipes_of (first, l)) ≡ range_with_len first (delays l)
own_pipes first l = by (is_shaped l.rates) l.lan
  where
    by : (shaped lan : Bool) → map (λ p. p.node) (cond shaped (cond lan (map (lan_pipe l.rates) (range_with_len first (length l.ends))) (link_pipe l.rates first ∷ [])) []) ≡ range_with_len first (cond shaped (cond lan (length l.ends) 1) 0)
    by true true = pipe_nodes l.rates (range_with_len first (length l.ends))
    by true false = refl
    by false lan = refl

pub all_pipes : (first : ℕ) (links : List AskedLink) → map (λ p. p.node) (flat_map pipes_of (numbered first links)) ≡ range_with_len first (sum_by delays links)
all_pipes first [] = refl
all_pipes first (l ∷ links) =
    map-append (λ p. p.node) (pipes_of (first, l)) (flat_map pipes_of (numbered (first + delays l) links))
    ∙ (λ i. own_pipes first l i ++ all_pipes (first + delays l) links i)
    ∙ sym (range-append first (delays l) (sum_by delays links))
    ∙ ap (range_with_len first) (sym (sum_by-cons delays l links))

-- each pipe joins ends 0 and 1 of a delay node
pub pipe_ends : (p : ℕ × AskedLink) (pipe : Pipe) → Has (pipes_of p) pipe → (pipe.from ≡ 0) × (pipe.to ≡ 1)
pipe_ends (first, l) pipe h = by (is_shaped l.rates) l.lan h
  where
    by : (shaped lan : Bool) → Has (cond shaped (cond lan (map (lan_pipe l.rates) (range_with_len first (length l.ends))) (link_pipe l.rates first ∷ [])) []) pipe → (pipe.from ≡ 0) × (pipe.to ≡ 1)
    by true true g =
        let r = Has-map (lan_pipe l.rates) (range_with_len first (length l.ends)) pipe g in
        (ap (λ (p : Pipe). p.from) (sym r.2), ap (λ (p : Pipe). p.to) (sym r.2))
    by true false (inl e) = (ap (λ (p : Pipe). p.from) (sym e), ap (λ (p : Pipe). p.to) (sym e))
    by true false (inr g) = absurd g
    by false lan g = absurd g

-- a link or LAN with a pipe is shaped
pub pipe_shaped : (p : ℕ × AskedLink) (pipe : Pipe) → Has (pipes_of p) pipe → is_shaped p.1.rates ≡ true
pipe_shaped (first, l) pipe h = by (is_shaped l.rates) refl h
  where
    by : (shaped : Bool) → is_shaped l.rates ≡ shaped → Has (cond shaped (cond l.lan (map (lan_pipe l.rates) (range_with_len first (length l.ends))) (link_pipe l.rates first ∷ [])) []) pipe → is_shaped l.rates ≡ true
    by true is g = is
    by false is g = absurd g

pub pipe_delay : (p : ℕ × AskedLink) (pipe : Pipe) → Has (pipes_of p) pipe → IsDelayOf p pipe.node
pipe_delay (first, l) pipe h = Has-range first (delays l) pipe.node (subst (λ ns. Has ns pipe.node) (own_pipes first l) (Has-mapped (λ p. p.node) (pipes_of (first, l)) pipe h))

-- ENDS

-- what each segment of a link or LAN is made with, those have that stand for it
part_has : {X : Type 0} (f : Segment → X) (x : X) (p : ℕ × AskedLink) (s : Segment) → ((name : List ℕ) (ends : List VirtEnd) → f (part p.1 name ends) ≡ x) → Has (segments_of p) s → f s ≡ x
part_has {X} f x (first, l) s made h = by (is_shaped l.rates) l.lan h
  where
    one : (name : List ℕ) (ends : List VirtEnd) → part l name ends ≡ s → f s ≡ x
    one name ends e = ap f (sym e) ∙ made name ends

    two : (ends : List VirtEnd) → Has (link_segments l first ends) s → f s ≡ x
    two [] g = absurd g
    two (a ∷ []) g = absurd g
    two (a ∷ b ∷ []) (inl e) = one _ _ e
    two (a ∷ b ∷ []) (inr (inl e)) = one _ _ e
    two (a ∷ b ∷ []) (inr (inr g)) = absurd g
    two (a ∷ b ∷ c ∷ ends) g = absurd g

    by : (shaped lan : Bool) → Has (cond shaped (cond lan (lan_segments l first) (link_segments l first l.ends)) (part l l.name l.ends ∷ [])) s → f s ≡ x
    by true true g = elim (Has-append (map (member_segment l first) (enumerate_from 0 l.ends)) (part l l.name (map delay_end (range_with_len first (length l.ends))) ∷ []) s g) [
      | inl k ↦ let r = Has-map (member_segment l first) (enumerate_from 0 l.ends) s k in one _ _ r.2
      | inr k ↦ elim k [ inl e ↦ one _ _ e | inr j ↦ absurd j ]
    ]
    by true false g = two l.ends g
    by false lan (inl e) = one _ _ e
    by false lan (inr g) = absurd g

pub has_owner : (p : ℕ × AskedLink) (s : Segment) → Has (segments_of p) s → s.owner ≡ p.1.name
has_owner p s h = part_has (λ (t : Segment). t.owner) p.1.name p s (λ name ends. refl) h

-- a segment of a shaped link or LAN is not multiplexed
pub has_alone : (p : ℕ × AskedLink) (s : Segment) → is_shaped p.1.rates ≡ true → Has (segments_of p) s → s.multiplexed ≡ false
has_alone p s shaped h = part_has (λ (t : Segment). t.multiplexed) false p s (λ name ends. ap (λ (b : Bool). not b && p.1.multiplexed) shaped) h

numbered_has : (n : ℕ) (ends : List VirtEnd) (q : ℕ × VirtEnd) → Has (enumerate_from n ends) q → Has ends q.1 × (n ≤ q.0) × (q.0 < n + length ends)
numbered_has n [] q h = absurd h
numbered_has n (e ∷ ends) q (inl is) =
    let number = ap (λ (r : ℕ × VirtEnd). r.0) is in
    (inl (ap (λ (r : ℕ × VirtEnd). r.1) is), omega (arith, number), omega (arith, number))
numbered_has n (e ∷ ends) q (inr h) = let r = numbered_has (n + 1) ends q h in (inr r.0, omega (arith, r.1), omega (arith, r.2))

-- an end is one of these, or its node is one of so many from the first on
abbrev IsEndOf : VirtEnd → ℕ → ℕ → List VirtEnd → Type 0
IsEndOf e first count ends = Has ends e ⊎ ((first ≤ e.node) × (e.node < first + count))

-- an end of a segment is one of the link or LAN, or one of its delay nodes
pub part_end : (p : ℕ × AskedLink) (s : Segment) (e : VirtEnd) → Has (segments_of p) s → Has s.ends e → Has p.1.ends e ⊎ IsDelayOf p e.node
part_end (first, l) s e h g = by (is_shaped l.rates) l.lan h
  where
    two : (ends : List VirtEnd) → Has (link_segments l first ends) s → IsEndOf e first 1 ends
    two [] k = absurd k
    two (a ∷ []) k = absurd k
    two (a ∷ b ∷ []) (inl is) = elim (subst (λ (x : Segment). Has x.ends e) (sym is) g) [
      | inl d ↦ inl (inl d)
      | inr j ↦ elim j [ inl d ↦ let node = ap (λ (x : VirtEnd). x.node) d in inr (omega (arith, node), omega (arith, node)) | inr i ↦ absurd i ]
    ]
    two (a ∷ b ∷ []) (inr (inl is)) = elim (subst (λ (x : Segment). Has x.ends e) (sym is) g) [
      | inl d ↦ let node = ap (λ (x : VirtEnd). x.node) d in inr (omega (arith, node), omega (arith, node))
      | inr j ↦ elim j [ inl d ↦ inl (inr (inl d)) | inr i ↦ absurd i ]
    ]
    two (a ∷ b ∷ []) (inr (inr k)) = absurd k
    two (a ∷ b ∷ c ∷ ends) k = absurd k

    many : Has (lan_segments l first) s → IsEndOf e first (length l.ends) l.ends
    many k = elim (Has-append (map (member_segment l first) (enumerate_from 0 l.ends)) (part l l.name (map delay_end (range_with_len first (length l.ends))) ∷ []) s k) [
      | inl j ↦
          let r = Has-map (member_segment l first) (enumerate_from 0 l.ends) s j in
          let q = numbered_has 0 l.ends r.0 r.1 in
          elim (subst (λ (x : Segment). Has x.ends e) (sym r.2) g) [
            | inl d ↦ inl (subst (Has l.ends) d q.0)
            | inr i ↦ elim i [ inl d ↦ let node = ap (λ (x : VirtEnd). x.node) d in inr (omega (arith, node), omega (arith, node, q.2)) | inr x ↦ absurd x ]
          ]
      | inr j ↦ elim j [
        | inl is ↦
            let r = Has-map delay_end (range_with_len first (length l.ends)) e (subst (λ (x : Segment). Has x.ends e) (sym is) g) in
            let range = Has-range first (length l.ends) r.0 r.1 in
            let node = ap (λ (x : VirtEnd). x.node) r.2 in
            inr (omega (arith, node, range.0), omega (arith, node, range.1))
        | inr i ↦ absurd i
      ]
    ]

    by : (shaped lan : Bool) → Has (cond shaped (cond lan (lan_segments l first) (link_segments l first l.ends)) (part l l.name l.ends ∷ [])) s → IsEndOf e first (cond shaped (cond lan (length l.ends) 1) 0) l.ends
    by true true k = many k
    by true false k = two l.ends k
    by false lan (inl d) = inl (subst (λ (x : Segment). Has x.ends e) (sym d) g)
    by false lan (inr k) = absurd k

-- A DELAY NODE HAS TWO ENDS

pub record Twice (nodes : List ℕ) (v : ℕ) : Type 0 where
  pub front : List ℕ
  pub back : List ℕ
  pub whole : nodes ≡ front ++ back
  pub first : Has front v
  pub second : Has back v

members_have : (l : AskedLink) (first n j : ℕ) (ends : List VirtEnd) → n ≤ j → j < n + length ends → Has (end_nodes (map (member_segment l first) (enumerate_from n ends))) (first + j)
members_have l first n j [] low high = absurd (omega arith)
members_have l first n j (e ∷ ends) low high =
    elim (cases_eq n j) [
      | inl same ↦ inr (inl (ap (λ (i : ℕ). first + i) same))
      | inr ne ↦ inr (inr (members_have l first (n + 1) j ends (omega (arith, low, ne)) (omega (arith, high))))
    ]

pub own_twice : (p : ℕ × AskedLink) (v : ℕ) → (p.1.lan ≡ false → length p.1.ends ≡ 2) → IsDelayOf p v → Twice (end_nodes (segments_of p)) v
own_twice (first, l) v two_ends is = by (is_shaped l.rates) l.lan two_ends is.1
  where
    two : (ends : List VirtEnd) → length ends ≡ 2 → v < first + 1 → Twice (end_nodes (link_segments l first ends)) v
    two [] len lt = absurd (omega (arith, len))
    two (a ∷ []) len lt = absurd (omega (arith, len))
    two (a ∷ b ∷ []) len lt =
        let same : first ≡ v = omega (arith, is.0, lt) in
        record { front = a.node ∷ first ∷ []; back = first ∷ b.node ∷ []; whole = refl; first = inr (inl same); second = inl same }
    two (a ∷ b ∷ c ∷ ends) len lt = absurd (omega (arith, len))

    many : v < first + length l.ends → Twice (end_nodes (lan_segments l first)) v
    many lt =
        let members = map (member_segment l first) (enumerate_from 0 l.ends) in
        let hub = part l l.name (map delay_end (range_with_len first (length l.ends))) in
        let place : first + (v - first) ≡ v = omega (arith, is.0) in
        record {
          front = end_nodes members;
          back = map (λ e. e.node) (map delay_end (range_with_len first (length l.ends))) ++ [];
          whole = flat_map-append (λ s. map (λ e. e.node) s.ends) members (hub ∷ []);
          first = subst (Has (end_nodes members)) place (members_have l first 0 (v - first) l.ends (omega arith) (omega (arith, lt, is.0)));
          second = Has-left (map (λ e. e.node) (map delay_end (range_with_len first (length l.ends)))) [] v
              (Has-mapped (λ e. e.node) (map delay_end (range_with_len first (length l.ends))) (delay_end v) (Has-mapped delay_end (range_with_len first (length l.ends)) v (range-Has first (length l.ends) v is.0 lt)));
        }

    by : (shaped lan : Bool) → (lan ≡ false → length l.ends ≡ 2) → v < first + cond shaped (cond lan (length l.ends) 1) 0 → Twice (end_nodes (cond shaped (cond lan (lan_segments l first) (link_segments l first l.ends)) (part l l.name l.ends ∷ []))) v
    by true true len lt = many lt
    by true false len lt = two l.ends (len refl) lt
    by false lan len lt = absurd (omega (arith, is.0, lt))

nodes-append : (xs ys : List Segment) → end_nodes (xs ++ ys) ≡ end_nodes xs ++ end_nodes ys
nodes-append xs ys = flat_map-append (λ s. map (λ e. e.node) s.ends) xs ys

pub all_twice : (first : ℕ) (links : List AskedLink) (p : ℕ × AskedLink) (v : ℕ) → ((l : AskedLink) → Has links l → l.lan ≡ false → length l.ends ≡ 2) → Has (numbered first links) p → IsDelayOf p v
    → Twice (end_nodes (flat_map segments_of (numbered first links))) v
all_twice first [] p v two h is = absurd h
all_twice first (l ∷ links) p v two (inl e) is =
    let rest = flat_map segments_of (numbered (first + delays l) links) in
    let t = own_twice (first, l) v (two l (inl refl)) (subst (λ q. IsDelayOf q v) (sym e) is) in
    record {
      front = t.front;
      back = t.back ++ end_nodes rest;
      whole = nodes-append (segments_of (first, l)) rest ∙ ap (λ (ns : List ℕ). ns ++ end_nodes rest) t.whole ∙ append_assoc t.front t.back (end_nodes rest);
      first = t.first;
      second = Has-left t.back (end_nodes rest) v t.second;
    }
all_twice first (l ∷ links) p v two (inr h) is =
    let own = segments_of (first, l) in
    let rest = flat_map segments_of (numbered (first + delays l) links) in
    let t = all_twice (first + delays l) links p v (λ m g. two m (inr g)) h is in
    record {
      front = end_nodes own ++ t.front;
      back = t.back;
      whole = nodes-append own rest ∙ ap (λ (ns : List ℕ). end_nodes own ++ ns) t.whole ∙ sym (append_assoc (end_nodes own) t.front t.back);
      first = Has-right (end_nodes own) t.front v t.first;
      second = t.second;
    }

-- ENDS 0 AND 1 STAND THERE

first_end : (nodes : List ℕ) (v : ℕ) → Has nodes v → end_number nodes v 0 < length nodes
first_end [] v h = absurd h
first_end (x ∷ xs) v h = elim (cases_eq x v) [
  | inl same ↦ let test : eqb x v ≡ true = eq-eqb x v same in rw test (omega arith)
  | inr ne ↦
      let test : eqb x v ≡ false = ne_eqb x v ne in
      let rest : end_number xs v 0 < length xs = first_end xs v (later h ne) in
      rw test (omega (arith, rest))
]
  where
    later : Has (x ∷ xs) v → x ≢ v → Has xs v
    later (inl e) ne = absurd (ne e)
    later (inr g) ne = g

second_end : (xs ys : List ℕ) (v : ℕ) → Has xs v → Has ys v → end_number (xs ++ ys) v 1 < length (xs ++ ys)
second_end [] ys v h g = absurd h
second_end (x ∷ xs) ys v h g = elim (cases_eq x v) [
  | inl same ↦
      let test : eqb x v ≡ true = eq-eqb x v same in
      let rest : end_number (xs ++ ys) v 0 < length (xs ++ ys) = first_end (xs ++ ys) v (Has-right xs ys v g) in
      rw test (omega (arith, rest))
  | inr ne ↦
      let test : eqb x v ≡ false = ne_eqb x v ne in
      let rest : end_number (xs ++ ys) v 1 < length (xs ++ ys) = second_end xs ys v (later h ne) g in
      rw test (omega (arith, rest))
]
  where
    later : Has (x ∷ xs) v → x ≢ v → Has xs v
    later (inl e) ne = absurd (ne e)
    later (inr k) ne = k

pub both_ends : (nodes : List ℕ) (v : ℕ) → Twice nodes v → (end_number nodes v 0 < length nodes) × (end_number nodes v 1 < length nodes)
both_ends nodes v t =
    let P : List ℕ → Type 0 = λ l. (end_number l v 0 < length l) × (end_number l v 1 < length l) in
    subst P (sym t.whole) (first_end (t.front ++ t.back) v (Has-left t.front t.back v t.first), second_end t.front t.back v t.first t.second)

-- OWNERS AND FLAGS

-- by end what its segment has
abbrev labels : {X : Type 0} → (Segment → X) → List Segment → List X
labels f segments = flat_map (λ s. replicate (length s.ends) (f s)) segments

abbrev pairs_of : {X : Type 0} → (Segment → X) → List Segment → List (ℕ × X)
pairs_of f segments = flat_map (λ s. map (λ e. (e.node, f s)) s.ends) segments

module _ {X : Type 0} (f : Segment → X) where
  pair_nodes : (segments : List Segment) → map (λ q. q.0) (pairs_of f segments) ≡ end_nodes segments
  pair_nodes [] = refl
  pair_nodes (s ∷ segments) = map-append (λ q. q.0) (map (λ e. (e.node, f s)) s.ends) (pairs_of f segments) ∙ (λ i. one s.ends i ++ pair_nodes segments i)
    where
      one : (ends : List VirtEnd) → map {A = ℕ × X} {B = ℕ} (λ q. q.0) (map (λ e. (e.node, f s)) ends) ≡ map (λ e. e.node) ends
      one [] = refl
      one (e ∷ ends) = ap (λ (ns : List ℕ). e.node ∷ ns) (one ends)

  pair_labels : (segments : List Segment) → map (λ q. q.1) (pairs_of f segments) ≡ labels f segments
  pair_labels [] = refl
  pair_labels (s ∷ segments) = map-append (λ q. q.1) (map (λ e. (e.node, f s)) s.ends) (pairs_of f segments) ∙ (λ i. one s.ends i ++ pair_labels segments i)
    where
      one : (ends : List VirtEnd) → map {A = ℕ × X} {B = X} (λ q. q.1) (map (λ e. (e.node, f s)) ends) ≡ replicate (length ends) (f s)
      one [] = refl
      one (e ∷ ends) = ap (λ (xs : List X). f s ∷ xs) (one ends)

-- the label at a number, if it is one of the ends
abbrev IsLabelAt : {X : Type 0} → List (ℕ × X) → X → X → ℕ → Type 0
IsLabelAt {X} pairs d x n = n < length (map {A = ℕ × X} {B = ℕ} (λ r. r.0) pairs) → get_or (map {A = ℕ × X} {B = X} (λ r. r.1) pairs) n d ≡ x

label_found : {X : Type 0} (pairs : List (ℕ × X)) (v k : ℕ) (d x : X) → ((q : ℕ × X) → Has pairs q → q.0 ≡ v → q.1 ≡ x)
    → end_number (map (λ q. q.0) pairs) v k < length (map (λ q. q.0) pairs) → get_or (map (λ q. q.1) pairs) (end_number (map (λ q. q.0) pairs) v k) d ≡ x
label_found {X} [] v k d x all lt = absurd (omega arith)
label_found {X} (q ∷ pairs) v k d x all lt =
    by (eqb q.0 v) (eqb k 0) refl (label_found pairs v (k - 1) d x (λ r h. all r (inr h))) (label_found pairs v k d x (λ r h. all r (inr h))) lt
  where
    next : (n : ℕ) → IsLabelAt pairs d x n → n + 1 < suc (length (map {A = ℕ × X} {B = ℕ} (λ r. r.0) pairs)) → get_or (q.1 ∷ map {A = ℕ × X} {B = X} (λ r. r.1) pairs) (n + 1) d ≡ x
    next n found lt =
        let up : n + 1 ≡ suc n = omega arith in
        ap (λ (i : ℕ). get_or (q.1 ∷ map {A = ℕ × X} {B = X} (λ r. r.1) pairs) i d) up ∙ found (omega (arith, lt))

    by : (a b : Bool) → eqb q.0 v ≡ a → IsLabelAt pairs d x (end_number (map (λ r. r.0) pairs) v (k - 1)) → IsLabelAt pairs d x (end_number (map (λ r. r.0) pairs) v k)
        → cond a (cond b 0 (end_number (map (λ r. r.0) pairs) v (k - 1) + 1)) (end_number (map (λ r. r.0) pairs) v k + 1) < suc (length (map (λ r. r.0) pairs))
        → get_or (q.1 ∷ map (λ r. r.1) pairs) (cond a (cond b 0 (end_number (map (λ r. r.0) pairs) v (k - 1) + 1)) (end_number (map (λ r. r.0) pairs) v k + 1)) d ≡ x
    by true true is one same lt = all q (inl refl) (eqb-true q.0 v is)
    by true false is one same lt = next (end_number (map (λ r. r.0) pairs) v (k - 1)) one lt
    by false b is one same lt = next (end_number (map (λ r. r.0) pairs) v k) same lt

-- what each end of a node has, whose segments have it all
label_is : {X : Type 0} (f : Segment → X) (d : X) (segments : List Segment) (v k : ℕ) (x : X) → ((s : Segment) (e : VirtEnd) → Has segments s → Has s.ends e → e.node ≡ v → f s ≡ x)
    → end_number (end_nodes segments) v k < length (end_nodes segments) → get_or (labels f segments) (end_number (end_nodes segments) v k) d ≡ x
label_is {X} f d segments v k x all lt =
    let P : List ℕ → List X → Type 0 = λ nodes xs. end_number nodes v k < length nodes → get_or xs (end_number nodes v k) d ≡ x in
    subst (λ xs. P (end_nodes segments) xs) (pair_labels f segments) (subst (λ nodes. P nodes (map (λ q. q.1) (pairs_of f segments))) (pair_nodes f segments) (label_found (pairs_of f segments) v k d x each)) lt
  where
    each : (q : ℕ × X) → Has (pairs_of f segments) q → q.0 ≡ v → q.1 ≡ x
    each q h is =
        let s = Has-flat_map (λ t. map (λ e. (e.node, f t)) t.ends) segments q h in
        let e = Has-map (λ d. (d.node, f s.0)) s.0.ends q s.2 in
        let node : e.0.node ≡ q.0 = ap (λ (r : ℕ × X). r.0) e.2 in
        let label : f s.0 ≡ q.1 = ap (λ (r : ℕ × X). r.1) e.2 in
        sym label ∙ all s.0 e.0 s.1 e.1 (node ∙ is)

pub owner_is : (segments : List Segment) (v k : ℕ) (name : List ℕ) → ((s : Segment) (e : VirtEnd) → Has segments s → Has s.ends e → e.node ≡ v → s.owner ≡ name)
    → end_number (end_nodes segments) v k < length (end_nodes segments) → slice_index_or (end_owners segments) (end_number (end_nodes segments) v k) [] ≡ name
owner_is segments v k name all lt = label_is (λ (s : Segment). s.owner) [] segments v k name all lt

pub alone_is : (segments : List Segment) (v k : ℕ) → ((s : Segment) (e : VirtEnd) → Has segments s → Has s.ends e → e.node ≡ v → s.multiplexed ≡ false)
    → end_number (end_nodes segments) v k < length (end_nodes segments) → slice_index_or (end_multiplexed segments) (end_number (end_nodes segments) v k) false ≡ false
alone_is segments v k all lt = label_is (λ (s : Segment). s.multiplexed) false segments v k false all lt
