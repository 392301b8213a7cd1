-- The sums of `incr`.
use Rattle.std.proofs.Common.{◌≡◌, ℕ, ℤ, List, Result, Ok, Err, refl, subst}
use Rattle.lab_base.specs.declared.fault.Kind.{Kind}
use Rattle.tcl_eval.specs.Numbers.{number_of}
use Rattle.tcl_eval.specs.Settings.{IsSum, number_in}

-- the variable isn't set
pub sum_unread : (old : Result (List ℕ) Kind) (step : Result ℤ Kind) (k : Kind) → Err k ≡ old → IsSum (number_in old) step (Err k)
sum_unread old step k e = subst (λ (x : Result (List ℕ) Kind). IsSum (number_in x) step (Err k)) e refl

-- it has this value
pub sum_read : (old : Result (List ℕ) Kind) (v : List ℕ) (given step number r : Result ℤ Kind) → Ok v ≡ old → number ≡ number_of v → given ≡ step
    → IsSum number given r → IsSum (number_in old) step r
sum_read old v given step number r e is same h =
    subst (λ (x : Result (List ℕ) Kind). IsSum (number_in x) step r) e (subst (λ (x : Result ℤ Kind). IsSum x step r) is (subst (λ (x : Result ℤ Kind). IsSum number x r) same h))
