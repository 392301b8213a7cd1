-- The segments of ends, by number.
use Rattle.std.specs.Prelude.{nat_lt, replicate}
use Rattle.std.proofs.Common.{◌≡◌, ℕ, suc, ◌+◌, ◌-◌, ◌<◌, ◌≤◌, Bool, true, false, eqb, ◌||◌, List, [], ◌∷◌, ◌++◌, length, get_or, refl, sym, ap, ◌∙◌, arith, inl, inr, append_assoc, length-append}
use Rattle.std.specs.List.{list_all, list_any, flat_map}
use Rattle.std.proofs.Math.ListN.{set}
use Rattle.std.proofs.lemmas.Bool.{and_parts, cases_lt, cases_eq, ltb-true}
use Rattle.std.proofs.lemmas.Bool.Decides.{nat_tests}
use Rattle.std.proofs.lemmas.List.{append-nil, length-map, length-replicate, length-set, get_or_append_left, get_or-set_same, get_or-set_other}
use Rattle.std.proofs.lemmas.List.Folds.{list_any-append}
use Rattle.std.proofs.Math.Bool.{or-false, or-true}
use Rattle.virt_topo.specs.declared.wiring.Segment.{Segment}
use Rattle.virt_topo.specs.declared.wiring.Pipe.{Pipe}
use Rattle.virt_topo.specs.declared.wiring.Wiring.{Wiring}
use Rattle.virt_topo.specs.Ends.{end_nodes, end_number, pipe_from, pipe_to}
use Rattle.virt_topo.specs.Owners.{at_ends}
use Rattle.virt_topo.specs.Soundness.{knows_node, knows_pipe, is_end}
use Rattle.virt_topo.proofs.EndLaws.{nodes_of, owner_here, owner_past}
use Rattle.virt_topo.proofs.MoreEnds.{nodes_more, number_more, is_end_at, value_at_end, at_ends-append}
use Rattle.top_text.specs.Adding.{no_segment, segment_at, with_segment, with_pipe}
use Rattle.top_text.specs.Tables.{numbers_from, segments_on, segment_of_end, joins}

-- NUMBERS

pub length-numbers : (n : ℕ) (segments : List Segment) → length (numbers_from n segments) ≡ length (end_nodes segments)
length-numbers n [] = refl
length-numbers n (s ∷ segments) =
    let rest = length-numbers (n + 1) segments in
    let left = length-append (replicate (length s.ends) n) (numbers_from (n + 1) segments) in
    let right = length-append (nodes_of s.ends) (end_nodes segments) in
    omega (arith, left, right, rest, length-replicate (length s.ends) n, length-map s.ends (λ e. e.node))

numbers_more : (n : ℕ) (segments : List Segment) (s : Segment) → numbers_from n (segments ++ s ∷ []) ≡ numbers_from n segments ++ replicate (length s.ends) (n + length segments)
numbers_more n [] s =
    let same : n ≡ n + 0 = omega arith in
    append-nil (replicate (length s.ends) n) ∙ ap (λ (k : ℕ). replicate (length s.ends) k) same
numbers_more n (t ∷ segments) s =
    let own = replicate (length t.ends) n in
    let rest = numbers_from (n + 1) segments in
    let next : n + 1 + length segments ≡ n + suc (length segments) = omega arith in
    ap (λ (l : List ℕ). own ++ l) (numbers_more (n + 1) segments s)
    ∙ sym (append_assoc own rest (replicate (length s.ends) (n + 1 + length segments)))
    ∙ ap (λ (k : ℕ). (own ++ rest) ++ replicate (length s.ends) k) next

numbers_last : (segments : List Segment) (s : Segment) → numbers_from 0 (segments ++ s ∷ []) ≡ numbers_from 0 segments ++ replicate (length s.ends) (length segments)
numbers_last segments s =
    let same : 0 + length segments ≡ length segments = omega arith in
    numbers_more 0 segments s ∙ ap (λ (k : ℕ). numbers_from 0 segments ++ replicate (length s.ends) k) same

numbers_low : (n d : ℕ) (segments : List Segment) (e : ℕ) → n + length segments ≤ d → n ≤ get_or (numbers_from n segments) e d
numbers_low n d [] e le = omega (arith, le)
numbers_low n d (s ∷ segments) e le = elim (cases_lt e (length s.ends)) [
  | inl lt ↦ omega (arith, owner_here (length s.ends) e n d (numbers_from (n + 1) segments) lt)
  | inr ge ↦
      let past = owner_past (length s.ends) e n d (numbers_from (n + 1) segments) ge in
      let rest = numbers_low (n + 1) d segments (e - length s.ends) (omega (arith, le)) in
      omega (arith, past, rest)
]

numbers_high : (n d : ℕ) (segments : List Segment) (e : ℕ) → e < length (end_nodes segments) → get_or (numbers_from n segments) e d < n + length segments
numbers_high n d [] e lt = absurd (omega (arith, lt))
numbers_high n d (s ∷ segments) e lt = elim (cases_lt e (length s.ends)) [
  | inl here ↦ omega (arith, owner_here (length s.ends) e n d (numbers_from (n + 1) segments) here)
  | inr ge ↦
      let past = owner_past (length s.ends) e n d (numbers_from (n + 1) segments) ge in
      let count = length-append (nodes_of s.ends) (end_nodes segments) in
      let rest = numbers_high (n + 1) d segments (e - length s.ends) (omega (arith, lt, ge, count, length-map s.ends (λ e. e.node))) in
      omega (arith, past, rest)
]

-- what an end has of its segment, by the segment's number
by_number : {X : Type 0} (f : Segment → X) (n d : ℕ) (segments : List Segment) (none : Segment) (e m : ℕ) → n + length segments ≤ d → get_or (numbers_from n segments) e d ≡ n + m
    → get_or (flat_map (λ s. replicate (length s.ends) (f s)) segments) e (f none) ≡ f (get_or segments m none)
by_number f n d [] none e m le is = refl
by_number {X} f n d (s ∷ segments) none e m le is = elim (cases_lt e (length s.ends)) [
  | inl lt ↦
      let first : m ≡ 0 = omega (arith, is, owner_here (length s.ends) e n d (numbers_from (n + 1) segments) lt) in
      owner_here (length s.ends) e (f s) (f none) (flat_map (λ s. replicate (length s.ends) (f s)) segments) lt ∙ ap (λ (i : ℕ). f (get_or (s ∷ segments) i none)) (sym first)
  | inr ge ↦
      let past = owner_past (length s.ends) e n d (numbers_from (n + 1) segments) ge in
      let low = numbers_low (n + 1) d segments (e - length s.ends) (omega (arith, le)) in
      let next : m ≡ suc (m - 1) = omega (arith, is, past, low) in
      owner_past (length s.ends) e (f s) (f none) (flat_map (λ s. replicate (length s.ends) (f s)) segments) ge
      ∙ by_number f (n + 1) d segments none (e - length s.ends) (m - 1) (omega (arith, le)) (omega (arith, is, past, low))
      ∙ ap (λ (i : ℕ). f (get_or (s ∷ segments) i none)) (sym next)
]

pub of_number : {X : Type 0} (f : Segment → X) (w : Wiring) (e : ℕ) → length w.segments ≤ 65535
    → get_or (flat_map (λ s. replicate (length s.ends) (f s)) w.segments) e (f no_segment) ≡ f (segment_at w (segment_of_end w e))
of_number f w e few = by_number f 0 65535 w.segments no_segment e (segment_of_end w e) (omega (arith, few)) (omega arith)

-- BY VIRTUAL NODE

-- the segments of ends with a segment more
pub segments_on_more : (segments : List Segment) (s : Segment) (v : ℕ) → segments_on (segments ++ s ∷ []) v ≡ segments_on segments v ++ at_ends v (nodes_of s.ends) (replicate (length s.ends) (length segments))
segments_on_more segments s v =
    (λ i. at_ends v (nodes_more segments s i) (numbers_last segments s i)) ∙ at_ends-append v (end_nodes segments) (numbers_from 0 segments) (nodes_of s.ends) (replicate (length s.ends) (length segments)) (sym (length-numbers 0 segments))

pub is_end_on : (segments : List Segment) (v k : ℕ) → nat_lt (end_number (end_nodes segments) v k) (length (end_nodes segments)) ≡ nat_lt k (length (segments_on segments v))
is_end_on segments v k = is_end_at (end_nodes segments) (numbers_from 0 segments) v k (sym (length-numbers 0 segments))

pub segment_on : (segments : List Segment) (v k : ℕ) → get_or (numbers_from 0 segments) (end_number (end_nodes segments) v k) 65535 ≡ get_or (segments_on segments v) k 65535
segment_on segments v k = value_at_end (end_nodes segments) (numbers_from 0 segments) v k 65535 (sym (length-numbers 0 segments))

-- SEGMENTS THAT PIPES JOIN

-- the segment of an end that is there
pub segment_below : (w : Wiring) (v k : ℕ) → is_end w v k ≡ true → segment_of_end w (end_number (end_nodes w.segments) v k) < length w.segments
segment_below w v k is =
    let high = numbers_high 0 65535 w.segments (end_number (end_nodes w.segments) v k) (ltb-true (end_number (end_nodes w.segments) v k) (length (end_nodes w.segments)) is) in
    omega (arith, high)

segment_kept : (w : Wiring) (s : Segment) (v k : ℕ) → is_end w v k ≡ true
    → segment_of_end (with_segment w s) (end_number (end_nodes (w.segments ++ s ∷ [])) v k) ≡ segment_of_end w (end_number (end_nodes w.segments) v k)
segment_kept w s v k is =
    let there = ltb-true (end_number (end_nodes w.segments) v k) (length (end_nodes w.segments)) is in
    let number : end_number (end_nodes (w.segments ++ s ∷ [])) v k ≡ end_number (end_nodes w.segments) v k = ap (λ (l : List ℕ). end_number l v k) (nodes_more w.segments s) ∙ number_more (end_nodes w.segments) (nodes_of s.ends) v k there in
    (λ i. get_or (numbers_last w.segments s i) (number i) 65535)
    ∙ get_or_append_left (numbers_from 0 w.segments) (replicate (length s.ends) (length w.segments)) 65535 (end_number (end_nodes w.segments) v k) (omega (arith, there, length-numbers 0 w.segments))

pub record EndsThere (w : Wiring) (p : Pipe) : Type 0 where
  pub from : is_end w p.node p.from ≡ true
  pub to : is_end w p.node p.to ≡ true

pub ends_there : (w : Wiring) (p : Pipe) → knows_pipe w p ≡ true → EndsThere w p
ends_there w p h =
    let a = and_parts (knows_node w p.node) _ h in
    let b = and_parts (is_end w p.node p.from) (is_end w p.node p.to) a.1 in
    record { from = b.0; to = b.1 }

-- a segment more is not joined, and changes nothing of the others
pub joins_kept : (w : Wiring) (s : Segment) (n : ℕ) (pipes : List Pipe) → list_all (knows_pipe w) pipes ≡ true → list_any (joins (with_segment w s) n) pipes ≡ list_any (joins w n) pipes
joins_kept w s n [] known = refl
joins_kept w s n (p ∷ pipes) known =
    let parts = and_parts (knows_pipe w p) (list_all (knows_pipe w) pipes) known in
    let there = ends_there w p parts.0 in
    λ i. (eqb (segment_kept w s p.node p.from there.from i) n || eqb (segment_kept w s p.node p.to there.to i) n) || joins_kept w s n pipes parts.1 i

below_not : (a b : ℕ) → a < b → eqb a b ≡ false
below_not a b lt = grind (arith, nat_tests)

pub joins_none : (w : Wiring) (s : Segment) (pipes : List Pipe) → list_all (knows_pipe w) pipes ≡ true → list_any (joins (with_segment w s) (length w.segments)) pipes ≡ false
joins_none w s pipes known = joins_kept w s (length w.segments) pipes known ∙ none pipes known
  where
    none : (pipes : List Pipe) → list_all (knows_pipe w) pipes ≡ true → list_any (joins w (length w.segments)) pipes ≡ false
    none [] known = refl
    none (p ∷ pipes) known =
        let parts = and_parts (knows_pipe w p) (list_all (knows_pipe w) pipes) known in
        let there = ends_there w p parts.0 in
        λ i. (below_not (segment_of_end w (pipe_from w p)) (length w.segments) (segment_below w p.node p.from there.from) i || below_not (segment_of_end w (pipe_to w p)) (length w.segments) (segment_below w p.node p.to there.to) i) || none pipes parts.1 i

same_eqb : (a b : ℕ) → a ≡ b → eqb b a ≡ true
same_eqb a b e = grind (arith, nat_tests)

other_eqb : (a b : ℕ) → (a ≡ b → ⊥) → eqb b a ≡ false
other_eqb a b e = grind (arith, nat_tests)

or_three : (a b c : Bool) → ((a || b) || c) ≡ (a || (b || c))
or_three true b c = refl
or_three false b c = refl

set_true : (xs : List Bool) (a n : ℕ) → a < length xs → get_or (set xs a true) n false ≡ (get_or xs n false || eqb a n)
set_true xs a n lt = elim (cases_eq n a) [
  | inl same ↦
      let here : get_or (set xs a true) n false ≡ true = ap (λ (k : ℕ). get_or (set xs a true) k false) same ∙ get_or-set_same xs a true false lt in
      here ∙ sym (ap (λ (b : Bool). get_or xs n false || b) (same_eqb n a same) ∙ or-true (get_or xs n false))
  | inr other ↦ get_or-set_other xs a n true false other ∙ sym (ap (λ (b : Bool). get_or xs n false || b) (other_eqb n a other) ∙ or-false (get_or xs n false))
]

-- with a pipe more
pub joined_with : (w : Wiring) (p : Pipe) (old new : List Bool) → length old ≡ length w.segments → ((s : ℕ) → s < length w.segments → get_or old s false ≡ list_any (joins w s) w.pipes)
    → segment_of_end w (pipe_from w p) < length w.segments → segment_of_end w (pipe_to w p) < length w.segments
    → new ≡ set (set old (segment_of_end w (pipe_from w p)) true) (segment_of_end w (pipe_to w p)) true
    → (s : ℕ) → s < length w.segments → get_or new s false ≡ list_any (joins (with_pipe w p) s) (w.pipes ++ p ∷ [])
joined_with w p old new count were from to now s lt =
    let a = segment_of_end w (pipe_from w p) in
    let b = segment_of_end w (pipe_to w p) in
    ap (λ (l : List Bool). get_or l s false) now
    ∙ set_true (set old a true) b s (omega (arith, to, count, length-set old a true))
    ∙ ap (λ (x : Bool). x || eqb b s) (set_true old a s (omega (arith, from, count)) ∙ ap (λ (x : Bool). x || eqb a s) (were s lt))
    ∙ or_three (list_any (joins w s) w.pipes) (eqb a s) (eqb b s)
    ∙ ap (λ (x : Bool). list_any (joins w s) w.pipes || x) (sym (or-false (eqb a s || eqb b s)))
    ∙ sym (list_any-append (joins w s) w.pipes (p ∷ []))
