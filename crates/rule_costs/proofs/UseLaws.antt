-- The uses of all trunks by cables, one after another.
use Rattle.std.proofs.Common.{◌≡◌, ◌+◌, ◌<◌, ◌∙◌, ℕ, List, Bool, length, take, drop, get_or, true, eqb, All, sym, ap}
use Rattle.std.specs.Bool.{Decides}
use Rattle.std.specs.Cmp.Lexicographic.{pointwise}
use Rattle.std.proofs.lemmas.Bool.Decides.{Decides-eqb}
use Rattle.std.proofs.lemmas.Slice.Eq.{slice_eq-Decides}
use Rattle.lab_base.specs.declared.ids.IfaceId.{IfaceId}
use Rattle.phys_lab.specs.Labs.{Lab}
use Rattle.phys_lab.specs.Forests.{first_side_of}
use Rattle.virt_topo.specs.declared.wiring.Segment.{Segment}
use Rattle.virt_topo.specs.declared.wiring.Wiring.{Wiring}
use Rattle.virt_topo.specs.declared.mapping.Mapping.{Mapping}
use Rattle.virt_topo.specs.Cables.{cables, cable_use, cut_use}
use Rattle.virt_topo.proofs.CableLaws.{use_from}
use Rattle.lab_model.specs.Uses.{use_of}
use Rattle.lab_model.proofs.CutLaws.{cut_is_use}
use Rattle.cost_rule.specs.Cost.{trunk_uses}
use Rattle.cost_rule.proofs.Sums.{sum_same, sum_plus}
use Rattle.rule_costs.specs.Uses.{uses_of, uses_of_all}

abbrev side : Lab → ℕ → List Bool
side lab t = first_side_of lab.ifaces lab.trunks t

-- the cable at i, and those after it
uses_from : (lab : Lab) (segments : List Segment) (i : ℕ) (s : Segment) (plugs : List IfaceId) → i < length segments → s ≡ get_or segments i s
    → uses_of_all lab (cables (drop i segments) plugs)
    ≡ uses_of lab (record { segment = s; plugs = take (length s.ends) plugs }) + uses_of_all lab (cables (drop (i + 1) segments) (drop (length s.ends) plugs))
uses_from lab segments i s plugs lt is =
    let own : ℕ → ℕ = λ t. cable_use (side lab t) (record { segment = s; plugs = take (length s.ends) plugs }) in
    let later : ℕ → ℕ = λ t. cut_use (side lab t) (cables (drop (i + 1) segments) (drop (length s.ends) plugs)) in
    sum_same (length lab.trunks) (λ t. cut_use (side lab t) (cables (drop i segments) plugs)) (λ t. own t + later t) (λ t t_lt. use_from (side lab t) segments i s plugs lt is)
    ∙ sum_plus (length lab.trunks) own later

-- the same, where its plugs are split off
pub uses_split : (lab : Lab) (segments : List Segment) (i : ℕ) (s : Segment) (n : ℕ) (plugs own later : List IfaceId) → i < length segments → s ≡ get_or segments i s
    → n ≡ length s.ends → own ≡ take n plugs → later ≡ drop n plugs
    → uses_of_all lab (cables (drop i segments) plugs) ≡ uses_of lab (record { segment = s; plugs = own }) + uses_of_all lab (cables (drop (i + 1) segments) later)
uses_split lab segments i s n plugs own later lt is count front back =
    let first : take (length s.ends) plugs ≡ own = ap (λ (k : ℕ). take k plugs) (sym count) ∙ sym front in
    let rest : drop (length s.ends) plugs ≡ later = ap (λ (k : ℕ). drop k plugs) (sym count) ∙ sym back in
    uses_from lab segments i s plugs lt is ∙ (λ j. uses_of lab (record { segment = s; plugs = first j }) + uses_of_all lab (cables (drop (i + 1) segments) (rest j)))

-- two lists of plugs that are told apart by their numbers
pub plugs_same : (old new : List IfaceId) (r : Bool) → r ≡ pointwise (λ a b. eqb a.0 b.0) old new → r ≡ true → old ≡ new
plugs_same old new r is equal = (slice_eq-Decides one old new r is).0 equal
  where
    one : (a b : IfaceId) → Decides (eqb a.0 b.0) (a ≡ b)
    one a b = (λ e. ap (λ (n : ℕ). record { 0 = n }) ((Decides-eqb a.0 b.0).0 e), λ e. (Decides-eqb a.0 b.0).1 (ap (λ (i : IfaceId). i.0) e))

pub uses_whole : (lab : Lab) (w : Wiring) (m : Mapping) → All (λ i. i.0 < length lab.ifaces) m.plugs → uses_of_all lab (cables w.segments m.plugs) ≡ trunk_uses lab w m
uses_whole lab w m in_lab =
    sum_same (length lab.trunks) (λ t. cut_use (side lab t) (cables w.segments m.plugs)) (use_of lab w m) (λ t lt. cut_is_use lab w m t in_lab)
