-- The sum of the uses of all trunks.
use Rattle.std.specs.Prelude.{◌+◌, ℕ, zero, suc, List, length}
use Rattle.lab_base.specs.declared.ids.IfaceId.{IfaceId}
use Rattle.phys_lab.specs.Labs.{Lab}
use Rattle.virt_topo.specs.declared.wiring.Wiring.{Wiring}
use Rattle.trunk_sums.specs.Summed.{used}

-- the sum of f over the numbers below n
abbrev pub sum_below : ℕ → (ℕ → ℕ) → ℕ
sum_below zero f = 0
sum_below (suc n) f = sum_below n f + f n

-- what the segments with these plugs use of all trunks, counted anew
abbrev pub used_of_all : Lab → Wiring → List IfaceId → ℕ
used_of_all lab w plugs = sum_below (length lab.trunks) (used lab w plugs)
