-- The cables of a mapping, one after another.
use Rattle.std.proofs.Common.{◌≡◌, ℕ, suc, ◌+◌, ◌<◌, List, ◌∷◌, length, take, drop, get_or, sym, ap, ◌∙◌, arith}
use Rattle.std.proofs.Math.Seq.{drop-cons}
use Rattle.std.proofs.lemmas.List.{get_or_default}
use Rattle.lab_base.specs.declared.ids.IfaceId.{IfaceId}
use Rattle.virt_topo.specs.declared.wiring.Segment.{Segment}
use Rattle.virt_topo.specs.declared.wiring.Wiring.{Wiring}
use Rattle.virt_topo.specs.declared.mapping.Mapping.{Mapping}
use Rattle.virt_topo.specs.Ends.{end_nodes}
use Rattle.virt_topo.specs.Cables.{Cable, cables}
use Rattle.virt_topo.proofs.EndLaws.{ends_from}
use Rattle.virt_topo.proofs.CableLaws.{length-cables}
use Rattle.lab_model.specs.Rules.{no_cable, cable_at}

-- the cable of the segment at i, and those after it
pub record IsAt (segments : List Segment) (plugs rest : List IfaceId) (i : ℕ) (d : Segment) (e : Cable) : Type 0 where
  pub here : (get_or (cables segments plugs) i e).plugs ≡ take (length (get_or segments i d).ends) rest
  pub behind : drop (i + 1) (cables segments plugs) ≡ cables (drop (i + 1) segments) (drop (length (get_or segments i d).ends) rest)

first_and_rest : (cs : List Cable) (c : Cable) (i : ℕ) (e : Cable) (more : List Cable) → drop i cs ≡ c ∷ more → i < length cs → (get_or cs i e ≡ c) × (drop (suc i) cs ≡ more)
first_and_rest cs c i e more is lt =
    let both : get_or cs i e ∷ drop (suc i) cs ≡ c ∷ more = sym (drop-cons cs i e lt) ∙ is in
    (cc both, cc both)

pub cable_step : (segments : List Segment) (plugs rest : List IfaceId) (i : ℕ) (d : Segment) (e : Cable) → i < length segments
    → drop i (cables segments plugs) ≡ cables (drop i segments) rest → IsAt segments plugs rest i d e
cable_step segments plugs rest i d e lt is =
    let next : suc i ≡ i + 1 = omega arith in
    let s = get_or segments i d in
    let split : drop i segments ≡ s ∷ drop (suc i) segments = drop-cons segments i d lt in
    let now : drop i (cables segments plugs) ≡ record { segment = s; plugs = take (length s.ends) rest } ∷ cables (drop (suc i) segments) (drop (length s.ends) rest) = is ∙ ap (λ (l : List Segment). cables l rest) split in
    let parts = first_and_rest (cables segments plugs) (record { segment = s; plugs = take (length s.ends) rest }) i e (cables (drop (suc i) segments) (drop (length s.ends) rest)) now (omega (arith, length-cables segments plugs)) in
    record {
      here = ap (λ (c : Cable). c.plugs) parts.0;
      behind = (λ j. drop (sym next j) (cables segments plugs)) ∙ parts.1 ∙ (λ j. cables (drop (next j) segments) (drop (length s.ends) rest));
    }

pub ends_at : (segments : List Segment) (i : ℕ) (d : Segment) → i < length segments
    → length (end_nodes (drop i segments)) ≡ length (get_or segments i d).ends + length (end_nodes (drop (i + 1) segments))
ends_at segments i d lt = ends_from segments i (get_or segments i d) lt (get_or_default segments i d (get_or segments i d) lt)

-- the plugs of the segment at i are these, and those of the segments after it are the others
pub record IsCut (w : Wiring) (m : Mapping) (i len : ℕ) (own later : List IfaceId) : Type 0 where
  pub here : own ≡ (cable_at w m i).plugs
  pub behind : drop (i + 1) (cables w.segments m.plugs) ≡ cables (drop (i + 1) w.segments) later
  pub ends : length (end_nodes (drop i w.segments)) ≡ len + length (end_nodes (drop (i + 1) w.segments))

pub cut_at : (w : Wiring) (m : Mapping) (segments : List Segment) (i len : ℕ) (d : Segment) (rest own later : List IfaceId) → segments ≡ w.segments → i < length segments
    → len ≡ length (get_or segments i d).ends → own ≡ take len rest → later ≡ drop len rest
    → drop i (cables w.segments m.plugs) ≡ cables (drop i w.segments) rest → IsCut w m i len own later
cut_at w m segments i len d rest own later same lt ends front back is =
    let within : i < length w.segments = omega (arith, lt, ap length same) in
    let count : len ≡ length (get_or w.segments i d).ends = ends ∙ ap (λ (l : List Segment). length (get_or l i d).ends) same in
    let step = cable_step w.segments m.plugs rest i d no_cable within is in
    record {
      here = front ∙ ap (λ (n : ℕ). take n rest) count ∙ sym step.here;
      behind = step.behind ∙ ap (λ (l : List IfaceId). cables (drop (i + 1) w.segments) l) (sym (back ∙ ap (λ (n : ℕ). drop n rest) count));
      ends = ends_at w.segments i d within ∙ ap (λ (n : ℕ). n + length (end_nodes (drop (i + 1) w.segments))) (sym count);
    }
