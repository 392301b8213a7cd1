-- A trunk that no mapping can fill: F6 holds there.
use Rattle.std.proofs.Common.{◌≡◌, ◌≤◌, ◌+◌, ◌-◌, ◌*◌, ◌∷◌, [], ℕ, zero, suc, min, true, nat_le, List, length, take, drop, get_or, arith}
use Rattle.std.proofs.lemmas.Bool.Decides.{nat_tests}
use Rattle.std.proofs.lemmas.List.Sums.{sum_by-cons}
use Rattle.lab_base.specs.declared.ids.IfaceId.{IfaceId}
use Rattle.phys_lab.specs.declared.free.Free.{Free}
use Rattle.phys_lab.specs.Labs.{Lab}
use Rattle.virt_topo.specs.declared.wiring.Segment.{Segment}
use Rattle.virt_topo.specs.declared.wiring.Wiring.{Wiring}
use Rattle.virt_topo.specs.declared.mapping.Mapping.{Mapping}
use Rattle.virt_topo.specs.Cables.{Cable, cables}
use Rattle.lab_model.specs.Feasible.{AllPass}
use Rattle.lab_model.specs.Uses.{on_first, use_of, trunk_use}
use Rattle.lab_model.specs.Rules.{keeps_f6}
use Rattle.map_state.specs.Spare.{most_of, AreSpare}

-- what a cable uses of trunk t
abbrev cable_share : Lab → ℕ → Cable → ℕ
cable_share lab t c = min (on_first lab t c) (length c.plugs - on_first lab t c) * c.segment.kbps

taken_few : (n : ℕ) (xs : List IfaceId) → length (take n xs) ≤ n
taken_few zero xs = omega arith
taken_few (suc n) [] = omega arith
taken_few (suc n) (x ∷ xs) = let rest = taken_few n xs in omega (arith, rest)

least_half : (k n m : ℕ) → n ≤ m → min k (n - k) + min k (n - k) ≤ m
least_half k n m le = omega (arith, le)

half_share : (lab : Lab) (t : ℕ) (s : Segment) (plugs : List IfaceId) → length plugs ≤ length s.ends
    → cable_share lab t (record { segment = s; plugs = plugs }) + cable_share lab t (record { segment = s; plugs = plugs }) ≤ length s.ends * s.kbps
half_share lab t s plugs le = twice (min k (length plugs - k)) s.kbps (length s.ends) (least_half k (length plugs) (length s.ends) le)
  where
    k : ℕ
    k = on_first lab t (record { segment = s; plugs = plugs })

    twice : (a b c : ℕ) → a + a ≤ c → a * b + a * b ≤ c * b
    twice a zero c le = omega arith
    twice a (suc b) c le = let rest = twice a b c le in omega (arith, rest, le)

most_used : (lab : Lab) (t : ℕ) (segments : List Segment) (plugs : List IfaceId)
    → trunk_use lab t (cables segments plugs) + trunk_use lab t (cables segments plugs) ≤ most_of segments
most_used lab t [] plugs = omega arith
most_used lab t (s ∷ segments) plugs =
    let n = length s.ends in
    let here = half_share lab t s (take n plugs) (taken_few n plugs) in
    let rest = most_used lab t segments (drop n plugs) in
    let one = sum_by-cons (cable_share lab t) (record { segment = s; plugs = take n plugs }) (cables segments (drop n plugs)) in
    let other = sum_by-cons (λ (x : Segment). length x.ends * x.kbps) s segments in
    omega (arith, here, rest, one, other)

of_le : (m n : ℕ) → m ≤ n → nat_le m n ≡ true
of_le m n e = grind (arith, nat_tests)

-- F6 HOLDS OF EACH MAPPING
pub spare_keeps : (lab : Lab) (free : Free) (w : Wiring) (m : Mapping) → AreSpare lab free w → AllPass (length lab.trunks) (keeps_f6 lab free w m)
spare_keeps lab free w m enough = λ t lt.
    let most = most_used lab t w.segments m.plugs in
    of_le (use_of lab w m t) (get_or free.left t 0) (omega (arith, most, enough.each t lt))
