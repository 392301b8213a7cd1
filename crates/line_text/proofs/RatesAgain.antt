-- Rates that are printed are plain fields, and are read again within their limits.
use Rattle.std.proofs.Common.{◌≡◌, ℕ, ◌≤◌, ◌<◌, ◌^◌, ◌-◌, true, List, ◌++◌, Ok, arith}
use Rattle.std.specs.Prelude.{decimal, nat_le}
use Rattle.std.proofs.lemmas.Bool.{and_parts, leb-true}
use Rattle.lab_base.specs.Kinds.{both_of}
use Rattle.lab_base.specs.declared.rates.Rates.{Rates}
use Rattle.line_text.specs.declared.rates.RateLimits.{RateLimits}
use Rattle.line_text.specs.Rates.{rates_fields, are_held, any_rates, as_rates, rates_of}
use Rattle.line_text.proofs.PartsAgain.{number_back, plain_number}
use Rattle.line_text.proofs.Plain.{ArePlain, more}

-- limits that the program can hold
pub record HoldLimits (l : RateLimits) : Type 0 where
  pub kbps : l.most_kbps < 2 ^ 64
  pub micros : l.most_micros < 2 ^ 32
  pub ppm : l.most_ppm < 2 ^ 32

-- the rates are within the limits
pub record AreWithin (l : RateLimits) (r : Rates) : Type 0 where
  pub some : l.least_kbps ≤ r.kbps
  pub slow : r.kbps ≤ l.most_kbps
  pub late : r.micros ≤ l.most_micros
  pub lost : r.ppm ≤ l.most_ppm

pub held_within : (r : Rates) → are_held r ≡ true → AreWithin any_rates r
held_within r h =
    let a = and_parts (nat_le r.kbps (2 ^ 64 - 1)) _ h in
    let b = and_parts (nat_le r.micros (2 ^ 32 - 1)) (nat_le r.ppm (2 ^ 32 - 1)) a.1 in
    record { some = omega arith; slow = leb-true r.kbps (2 ^ 64 - 1) a.0; late = leb-true r.micros (2 ^ 32 - 1) b.0; lost = leb-true r.ppm (2 ^ 32 - 1) b.1 }

pub rates_again : (l : RateLimits) (r : Rates) → HoldLimits l → AreWithin l r → rates_of l (decimal r.kbps) (decimal r.micros) (decimal r.ppm) ≡ Ok r
rates_again l r held within =
    let late : l.most_micros < 2 ^ 64 = omega (arith, held.micros) in
    let lost : l.most_ppm < 2 ^ 64 = omega (arith, held.ppm) in
    λ j. as_rates (both_of (number_back l.least_kbps l.most_kbps r.kbps within.some within.slow held.kbps j)
    (both_of (number_back 0 l.most_micros r.micros (omega arith) within.late late j) (number_back 0 l.most_ppm r.ppm (omega arith) within.lost lost j)))

pub rates_plain : (l : RateLimits) (r : Rates) (rest : List (List ℕ)) → HoldLimits l → AreWithin l r → ArePlain rest → ArePlain (rates_fields r ++ rest)
rates_plain l r rest held within others =
    let kbps : r.kbps < 2 ^ 64 = omega (arith, held.kbps, within.slow) in
    let micros : r.micros < 2 ^ 64 = omega (arith, held.micros, within.late) in
    let ppm : r.ppm < 2 ^ 64 = omega (arith, held.ppm, within.lost) in
    more _ _ (plain_number r.kbps kbps) (more _ _ (plain_number r.micros micros) (more _ _ (plain_number r.ppm ppm) others))
