-- The ends of a sound wiring are in order.
use Rattle.std.proofs.Common.{◌≡◌, ◌≤◌, ◌<◌, ◌+◌, ◌∷◌, [], ◌++◌, ℕ, suc, zero, List, length, get_or, map, All, arith}
use Rattle.std.specs.Prelude.{true, not}
use Rattle.std.specs.List.{list_all}
use Rattle.std.proofs.lemmas.Bool.{and_parts, not-false}
use Rattle.std.proofs.lemmas.List.Elements.{All-append, All-map}
use Rattle.lab_base.proofs.Tests.{not_faulty}
use Rattle.virt_topo.specs.declared.wiring.Segment.{Segment}
use Rattle.virt_topo.specs.declared.wiring.VirtEnd.{VirtEnd}
use Rattle.virt_topo.specs.declared.wiring.Wiring.{Wiring}
use Rattle.virt_topo.specs.Soundness.{IsSound, keeps_limits, limits_segment}
use Rattle.virt_topo.proofs.CableLaws.{limits_of, segment_limits}
use Rattle.node_maps.specs.declared.ends.End.{End}
use Rattle.node_maps.specs.NodeMaps.{segment_end, ends_from, ends_of}
use Rattle.node_maps.specs.Indexed.{AreOrdered}

-- each end of segments that are numbered from n on is of one of these
pub from_on : (n : ℕ) (segments : List Segment) → All (λ (e : End). n ≤ e.segment) (ends_from n segments)
from_on n [] = λ k d lt. absurd (omega (arith, lt))
from_on n (s ∷ segments) =
    All-append (λ (e : End). n ≤ e.segment) (map (segment_end n s) s.ends) (ends_from (n + 1) segments)
    (All-map (λ (e : End). n ≤ e.segment) (segment_end n s) s.ends (λ k d lt. omega arith))
    (λ k d lt. let later = from_on (n + 1) segments k d lt in omega (arith, later))

pub few_on : (n : ℕ) (segments : List Segment) → All (λ (e : End). e.segment < n + length segments) (ends_from n segments)
few_on n [] = λ k d lt. absurd (omega (arith, lt))
few_on n (s ∷ segments) =
    All-append (λ (e : End). e.segment < n + length (s ∷ segments)) (map (segment_end n s) s.ends) (ends_from (n + 1) segments)
    (All-map (λ (e : End). e.segment < n + length (s ∷ segments)) (segment_end n s) s.ends (λ k d lt. omega arith))
    (λ k d lt. let later = few_on (n + 1) segments k d lt in omega (arith, later))

rising_in : (n : ℕ) (s : Segment) (es : List VirtEnd) (rest : List End) → All (λ (e : End). n ≤ e.segment) rest
    → ((j k : ℕ) (d : End) → j ≤ k → k < length rest → (get_or rest j d).segment ≤ (get_or rest k d).segment)
    → (j k : ℕ) (d : End) → j ≤ k → k < length (map (segment_end n s) es ++ rest) → (get_or (map (segment_end n s) es ++ rest) j d).segment ≤ (get_or (map (segment_end n s) es ++ rest) k d).segment
rising_in n s [] rest on rising j k d le lt = rising j k d le lt
rising_in n s (e ∷ es) rest on rising zero zero d le lt = omega arith
rising_in n s (e ∷ es) rest on rising zero (suc k) d le lt = all_on n s es rest on k d (omega (arith, lt))
  where
    all_on : (n : ℕ) (s : Segment) (es : List VirtEnd) (rest : List End) → All (λ (e : End). n ≤ e.segment) rest → All (λ (e : End). n ≤ e.segment) (map (segment_end n s) es ++ rest)
    all_on n s es rest on = All-append (λ (e : End). n ≤ e.segment) (map (segment_end n s) es) rest (All-map (λ (e : End). n ≤ e.segment) (segment_end n s) es (λ k d lt. omega arith)) on
rising_in n s (e ∷ es) rest on rising (suc j) zero d le lt = absurd (omega (arith, le))
rising_in n s (e ∷ es) rest on rising (suc j) (suc k) d le lt = rising_in n s es rest on rising j k d (omega (arith, le)) (omega (arith, lt))

pub rising_from : (n : ℕ) (segments : List Segment) (j k : ℕ) (d : End) → j ≤ k → k < length (ends_from n segments) → (get_or (ends_from n segments) j d).segment ≤ (get_or (ends_from n segments) k d).segment
rising_from n [] j k d le lt = absurd (omega (arith, lt))
rising_from n (s ∷ segments) j k d le lt =
    rising_in n s s.ends (ends_from (n + 1) segments) (λ m b less. let later = from_on (n + 1) segments m b less in omega (arith, later)) (rising_from (n + 1) segments) j k d le lt

pub some_from : (n : ℕ) (segments : List Segment) → list_all limits_segment segments ≡ true → All (λ (e : End). 1 ≤ e.kbps) (ends_from n segments)
some_from n [] h = λ k d lt. absurd (omega (arith, lt))
some_from n (s ∷ segments) h =
    let parts = and_parts (limits_segment s) (list_all limits_segment segments) h in
    let some = (segment_limits s parts.0).some in
    All-append (λ (e : End). 1 ≤ e.kbps) (map (segment_end n s) s.ends) (ends_from (n + 1) segments)
    (All-map (λ (e : End). 1 ≤ e.kbps) (segment_end n s) s.ends (λ k d lt. some))
    (some_from (n + 1) segments parts.1)

pub ordered : (w : Wiring) → IsSound w → AreOrdered (ends_of w.segments)
ordered w sound =
    let limits = limits_of w (not-false _ (not_faulty (not (keeps_limits w)) _ _ sound)) in
    let count = limits.segments in
    record {
      some = some_from 0 w.segments limits.each_segment;
      few = λ k d lt. let below = few_on 0 w.segments k d lt in omega (arith, below, count);
      rising = λ j k d le lt. rising_from 0 w.segments j k d le lt;
    }
