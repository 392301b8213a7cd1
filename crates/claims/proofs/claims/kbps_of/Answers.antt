use Rattle.std.proofs.Common.{◌≡◌, ◌<◌, ◌+◌, ◌∙◌, ◌++◌, ◌∷◌, [], ℕ, List, length, map, take, get_or, ap, sym}
use Rattle.std.proofs.lemmas.List.{map_more}
use Rattle.phys_lab.specs.declared.parts.Trunk.{Trunk}
use Rattle.claims.proofs.claims.kbps_of.Goals as goal

kbps_more : (trunks : List Trunk) (n : ℕ) (x : Trunk) (old new : List ℕ) → n < length trunks → x ≡ get_or trunks n x → old ≡ map (λ t. t.kbps) (take n trunks) → new ≡ old ++ x.kbps ∷ []
    → new ≡ map (λ t. t.kbps) (take (n + 1) trunks)
kbps_more trunks n x old new lt is before pushed = pushed ∙ (λ j. before j ++ ap (λ (t : Trunk). t.kbps) is j ∷ []) ∙ sym (map_more (λ (t : Trunk). t.kbps) trunks n x lt)

pub loop-trunk-preserved : goal.loop-trunk-preserved
loop-trunk-preserved c = kbps_more c.args.trunks.now c.loop-trunk.trunk-index c.trunk-item.result _ _ c.loop-trunk-test.true c.trunk-item.is c.loop-trunk.invariant c.in_ok-push.ensures.items
