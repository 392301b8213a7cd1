-- The claims on a lab, after one is set and after a move has ended.
use Rattle.std.specs.Prelude.{ℕ, Bool, List, Option, Some, None, if◌then◌else◌}
use Rattle.claims.specs.declared.claim.Claim.{Claim}
use Rattle.claims.specs.Held.{Held}
use Rattle.claims.specs.Adding.{with_claim, without, narrowed}
use Rattle.lab_state.specs.declared.claimed_lab.ClaimedLab.{ClaimedLab}

-- the lab with other claims
abbrev pub with_claims : ClaimedLab → Held → ClaimedLab
with_claims claimed_lab held = record { lab = claimed_lab.lab; claims = held }

-- with the claim of an experiment
abbrev pub noted : List ℕ → Claim → Option ClaimedLab → Option ClaimedLab
noted exp claim None = None
noted exp claim (Some claimed_lab) = Some (with_claims claimed_lab (with_claim exp claim claimed_lab.claims))

-- with one side of the claim of an experiment that stands, or without it
abbrev pub kept_side : Bool → List ℕ → Bool → Held → Held
kept_side stands exp commit held = if stands then narrowed exp commit held else without exp held

abbrev pub settled : Bool → List ℕ → Bool → Option ClaimedLab → Option ClaimedLab
settled stands exp commit None = None
settled stands exp commit (Some claimed_lab) = Some (with_claims claimed_lab (kept_side stands exp commit claimed_lab.claims))
