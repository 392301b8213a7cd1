-- The cables of segments, one after another.
use Rattle.std.proofs.Common.{◌≡◌, ◌<◌, ◌+◌, ◌∙◌, ◌∷◌, ℕ, suc, List, length, take, drop, get_or, ap, sym, arith, drop-cons}
use Rattle.lab_base.specs.declared.ids.IfaceId.{IfaceId}
use Rattle.lab_base.proofs.Lists.{item_at}
use Rattle.virt_topo.specs.declared.wiring.Segment.{Segment}
use Rattle.virt_topo.specs.Cables.{Cable, cables}
use Rattle.virt_topo.proofs.CableLaws.{length-cables}
use Rattle.trunk_sums.specs.Summed.{no_cable, own_plugs}

-- the plugs of segment n, and the cables after it, where the cables from n on are those of the rest of the plugs
pub record Next (segments : List Segment) (plugs rest : List IfaceId) (n : ℕ) (s : Segment) : Type 0 where
  pub own : take (length s.ends) rest ≡ own_plugs segments plugs n
  pub later : cables (drop (n + 1) segments) (drop (length s.ends) rest) ≡ drop (n + 1) (cables segments plugs)

first_of : (c d : Cable) (cs ds : List Cable) → c ∷ cs ≡ d ∷ ds → c ≡ d
first_of c d cs ds e = cc e

rest_of : (c d : Cable) (cs ds : List Cable) → c ∷ cs ≡ d ∷ ds → cs ≡ ds
rest_of c d cs ds e = cc e

pub next_is : (segments : List Segment) (plugs rest : List IfaceId) (n : ℕ) (s : Segment) → n < length segments → s ≡ get_or segments n s
    → cables (drop n segments) rest ≡ drop n (cables segments plugs) → Next segments plugs rest n s
next_is segments plugs rest n s lt is same =
    let all = cables segments plugs in
    let step : suc n ≡ n + 1 = omega arith in
    let here : drop n all ≡ get_or all n no_cable ∷ drop (n + 1) all =
    drop-cons all n no_cable (omega (arith, lt, length-cables segments plugs)) ∙ ap (λ (k : ℕ). get_or all n no_cable ∷ drop k all) step in
    let both : cables (s ∷ drop (n + 1) segments) rest ≡ get_or all n no_cable ∷ drop (n + 1) all =
    ap (λ (l : List Segment). cables l rest) (sym (item_at segments n s lt is)) ∙ same ∙ here in
    record {
      own = ap (λ (c : Cable). c.plugs) (first_of _ _ _ _ both);
      later = rest_of _ _ _ _ both;
    }
