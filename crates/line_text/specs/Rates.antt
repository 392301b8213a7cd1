-- Rates as three fields: bandwidth, delay and loss.
use Rattle.std.specs.Prelude.{ℕ, ◌+◌, ◌-◌, ◌^◌, Bool, ◌&&◌, nat_le, List, [], ◌∷◌, decimal, Result, Ok, Err}
use Rattle.lab_base.specs.Parts.{number_from}
use Rattle.lab_base.specs.Kinds.{both_of}
use Rattle.lab_base.specs.declared.fault.Kind.{Kind}
use Rattle.lab_base.specs.declared.rates.Rates.{Rates}
use Rattle.line_text.specs.Fields.{field_at}
use Rattle.line_text.specs.declared.rates.RateLimits.{RateLimits}

-- PRINTING

abbrev pub rates_fields : Rates → List (List ℕ)
rates_fields rates = decimal rates.kbps ∷ decimal rates.micros ∷ decimal rates.ppm ∷ []

-- numbers that the program can hold
abbrev pub are_held : Rates → Bool
are_held r = nat_le r.kbps (2 ^ 64 - 1) && (nat_le r.micros (2 ^ 32 - 1) && nat_le r.ppm (2 ^ 32 - 1))

-- READING

-- the limits of rates of any such numbers
abbrev pub any_rates : RateLimits
any_rates = record { least_kbps = 0; most_kbps = 2 ^ 64 - 1; most_micros = 2 ^ 32 - 1; most_ppm = 2 ^ 32 - 1 }

abbrev pub as_rates : Result (ℕ × (ℕ × ℕ)) Kind → Result Rates Kind
as_rates (Ok (kbps, (micros, ppm))) = Ok (record { kbps = kbps; micros = micros; ppm = ppm })
as_rates (Err kind) = Err kind

-- the rates of three fields, within limits
abbrev pub rates_of : RateLimits → List ℕ → List ℕ → List ℕ → Result Rates Kind
rates_of limits kbps micros ppm =
    as_rates (both_of (number_from limits.least_kbps limits.most_kbps kbps)
    (both_of (number_from 0 limits.most_micros micros) (number_from 0 limits.most_ppm ppm)))

-- the rates of a line's fields from number n on
abbrev pub rates_at : RateLimits → List (List ℕ) → ℕ → Result Rates Kind
rates_at limits fields n = rates_of limits (field_at fields n) (field_at fields (n + 1)) (field_at fields (n + 2))

-- those there, and after them those back
abbrev pub both_rates_at : RateLimits → List (List ℕ) → ℕ → Result (Rates × Rates) Kind
both_rates_at limits fields n = both_of (rates_at limits fields n) (rates_at limits fields (n + 3))
