-- The use of a cut by cables is at most the sum of all that their ends could send.
use Rattle.std.proofs.Common.{◌≡◌, ℕ, zero, suc, ◌+◌, ◌-◌, ◌*◌, ◌<◌, ◌≤◌, Bool, true, List, [], ◌∷◌, length, take, drop, get_or, min, refl, ap, ◌∙◌, arith, not}
use Rattle.std.specs.List.{list_all}
use Rattle.std.proofs.Math.Nat.{mul-le-mul_left, mul-le-mul_right}
use Rattle.std.proofs.lemmas.Bool.{and_parts, leb-true, not-false}
use Rattle.std.proofs.lemmas.List.Sums.{sum_by-cons}
use Rattle.std.proofs.lemmas.List.{drop_all}
use Rattle.std.proofs.lemmas.Grind.{common_steps}
use Rattle.lab_base.specs.declared.ids.IfaceId.{IfaceId}
use Rattle.lab_base.proofs.Lists.{item_at}
use Rattle.lab_base.proofs.Tests.{not_faulty}
use Rattle.virt_topo.specs.declared.wiring.Segment.{Segment}
use Rattle.virt_topo.specs.declared.wiring.Wiring.{Wiring}
use Rattle.virt_topo.specs.Ends.{end_nodes}
use Rattle.virt_topo.specs.Cables.{Cable, cables, plugs_on, cable_use, cut_use}
use Rattle.virt_topo.specs.Soundness.{is_address, keeps_limits, limits_class, limits_node, limits_segment, limits_pipe, IsSound}
use Rattle.virt_topo.proofs.EndLaws.{ends_from}

-- the limits of a wiring, one by one
pub record Limits (w : Wiring) : Type 0 where
  pub classes : length w.classes ≤ 64
  pub nodes : length w.nodes ≤ 256
  pub segments : length w.segments ≤ 512
  pub ends : length (end_nodes w.segments) ≤ 4096
  pub each_class : list_all limits_class w.classes ≡ true
  pub each_node : list_all limits_node w.nodes ≡ true
  pub each_segment : list_all limits_segment w.segments ≡ true
  pub each_pipe : list_all limits_pipe w.pipes ≡ true

pub limits_of : (w : Wiring) → keeps_limits w ≡ true → Limits w
limits_of w h =
    let a = and_parts _ _ h in
    let b = and_parts _ _ a.1 in
    let d = and_parts _ _ b.1 in
    let e = and_parts _ _ d.1 in
    let f = and_parts _ _ e.1 in
    let g = and_parts _ _ f.1 in
    let i = and_parts _ _ g.1 in
    record {
      classes = leb-true _ _ a.0;
      nodes = leb-true _ _ b.0;
      segments = leb-true _ _ d.0;
      ends = leb-true _ _ e.0;
      each_class = f.0;
      each_node = g.0;
      each_segment = i.0;
      each_pipe = i.1;
    }

-- a segment within the limits
pub record SegmentLimits (s : Segment) : Type 0 where
  pub some : 1 ≤ s.kbps
  pub slow : s.kbps ≤ 1000000000
  pub two : 2 ≤ length s.ends
  pub few : length s.ends ≤ 256
  pub addresses : list_all (λ e. is_address e.address) s.ends ≡ true

pub segment_limits : (s : Segment) → limits_segment s ≡ true → SegmentLimits s
segment_limits s h =
    let a = and_parts _ _ h in
    let b = and_parts _ _ a.0 in
    let d = and_parts _ _ a.1 in
    let e = and_parts _ _ d.0 in
    record { some = leb-true _ _ b.0; slow = leb-true _ _ b.1; two = leb-true _ _ e.0; few = leb-true _ _ e.1; addresses = d.1 }

-- what all elements pass, the one at i passes
pub passes_at : {X : Type 0} (p : X → Bool) (xs : List X) (i : ℕ) (x : X) → list_all p xs ≡ true → i < length xs → x ≡ get_or xs i x → p x ≡ true
passes_at p [] i x all lt is = absurd (omega arith)
passes_at p (y ∷ ys) zero x all lt is = ap p is ∙ (and_parts _ _ all).0
passes_at p (y ∷ ys) (suc i) x all lt is = passes_at p ys i x (and_parts _ _ all).1 (omega arith) is

pub all_after : {X : Type 0} (p : X → Bool) (xs : List X) (i : ℕ) → list_all p xs ≡ true → list_all p (drop i xs) ≡ true
all_after p [] zero all = all
all_after p [] (suc i) all = all
all_after p (y ∷ ys) zero all = all
all_after p (y ∷ ys) (suc i) all = all_after p ys i (and_parts _ _ all).1

pub cable_bound : (side : List Bool) (c : Cable) (n : ℕ) → length c.plugs ≤ n → c.segment.kbps ≤ 1000000000 → cable_use side c ≤ n * 1000000000
cable_bound side c n few slow =
    let on = plugs_on side c.plugs in
    let fewer : min on (length c.plugs - on) ≤ n = omega arith in
    let left = mul-le-mul_right c.segment.kbps fewer in
    let right = mul-le-mul_left n slow in
    omega (arith, left, right)

pub use_bound : (side : List Bool) (segments : List Segment) (plugs : List IfaceId) → list_all limits_segment segments ≡ true
    → cut_use side (cables segments plugs) ≤ length (end_nodes segments) * 1000000000
use_bound side [] plugs all = omega arith
use_bound side (s ∷ segments) plugs all =
    let parts = and_parts _ _ all in
    let limits = segment_limits s parts.0 in
    let short : length (take (length s.ends) plugs) ≤ length s.ends = grind (arith, common_steps) in
    let own = cable_bound side (record { segment = s; plugs = take (length s.ends) plugs }) (length s.ends) short limits.slow in
    let later = use_bound side segments (drop (length s.ends) plugs) parts.1 in
    let sum = sum_by-cons (cable_use side) (record { segment = s; plugs = take (length s.ends) plugs }) (cables segments (drop (length s.ends) plugs)) in
    let ends = ends_from (s ∷ segments) 0 s (omega arith) refl in
    omega (arith, own, later, sum, ends)

-- the cable at i, and those after it
pub use_from : (side : List Bool) (segments : List Segment) (i : ℕ) (s : Segment) (plugs : List IfaceId) → i < length segments → s ≡ get_or segments i s
    → cut_use side (cables (drop i segments) plugs) ≡ cable_use side (record { segment = s; plugs = take (length s.ends) plugs }) + cut_use side (cables (drop (i + 1) segments) (drop (length s.ends) plugs))
use_from side segments i s plugs lt is =
    ap (λ (l : List Segment). cut_use side (cables l plugs)) (item_at segments i s lt is)
    ∙ sum_by-cons (cable_use side) (record { segment = s; plugs = take (length s.ends) plugs }) (cables (drop (i + 1) segments) (drop (length s.ends) plugs))

pub no_use : (side : List Bool) (segments : List Segment) (i : ℕ) (plugs : List IfaceId) → length segments ≤ i → cut_use side (cables (drop i segments) plugs) ≡ 0
no_use side segments i plugs le = ap (λ (l : List Segment). cut_use side (cables l plugs)) (drop_all i segments le)

-- each segment of a wiring within the limits
pub own_limits : (w : Wiring) (segments : List Segment) (i : ℕ) (s : Segment) → segments ≡ w.segments → keeps_limits w ≡ true → i < length segments → s ≡ get_or segments i s → SegmentLimits s
own_limits w segments i s same limits lt is =
    segment_limits s (passes_at limits_segment segments i s (ap (λ (l : List Segment). list_all limits_segment l) same ∙ (limits_of w limits).each_segment) lt is)

pub whole_bound : (side : List Bool) (w : Wiring) (plugs : List IfaceId) → keeps_limits w ≡ true → cut_use side (cables w.segments plugs) ≤ 4096 * 1000000000
whole_bound side w plugs limits =
    let own = limits_of w limits in
    omega (arith, use_bound side w.segments plugs own.each_segment, own.ends)

-- A SOUND WIRING keeps its limits
pub sound_keeps : (w : Wiring) → IsSound w → keeps_limits w ≡ true
sound_keeps w sound = not-false _ (not_faulty (not (keeps_limits w)) _ _ sound)

pub sound_limits : (w : Wiring) → IsSound w → Limits w
sound_limits w sound = limits_of w (sound_keeps w sound)

pub length-cables : (segments : List Segment) (plugs : List IfaceId) → length (cables segments plugs) ≡ length segments
length-cables [] plugs = refl
length-cables (s ∷ segments) plugs = ap suc (length-cables segments (drop (length s.ends) plugs))
