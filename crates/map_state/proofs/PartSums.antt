-- The sum of the uses is that of the parts.
use Rattle.std.proofs.Common.{◌≡◌, ℕ, zero, suc, length, refl, arith}
use Rattle.phys_lab.specs.Labs.{Lab}
use Rattle.virt_topo.specs.declared.wiring.Wiring.{Wiring}
use Rattle.virt_topo.specs.declared.mapping.Mapping.{Mapping}
use Rattle.lab_model.specs.Shapes.{IsShaped}
use Rattle.lab_model.proofs.CutLaws.{cut_is_use}
use Rattle.trunk_sums.specs.Totals.{sum_below as totals_below, used_of_all}
use Rattle.cost_rule.specs.Cost.{sum_below, trunk_uses}

same_sums : (n : ℕ) (f g : ℕ → ℕ) → ((k : ℕ) → f k ≡ g k) → totals_below n f ≡ sum_below n g
same_sums zero f g same = refl
same_sums (suc n) f g same = let rest = same_sums n f g same in let last = same n in omega (arith, rest, last)

pub uses_are : (lab : Lab) (w : Wiring) (m : Mapping) → IsShaped lab w m → used_of_all lab w m.plugs ≡ trunk_uses lab w m
uses_are lab w m shaped = same_sums (length lab.trunks) _ _ (λ t. cut_is_use lab w m t shaped.in_lab)
