use Rattle.std.specs.Prelude.{◌==◌, not, option_map}
use Rattle.std.specs.Option.{ok_or}
use Rattle.std.proofs.Common.{◌≡◌, Bool, true, false, cond, Option, Some, None, Ok, Err, length, refl, ap, subst}
use Rattle.virt_topo.specs.declared.wiring.Wiring.{Wiring}
use Rattle.virt_topo.specs.Soundness.{keeps_limits, IsSound}
use Rattle.net_plan.specs.declared.fault.PlanFault.TheVariants as faults
use Rattle.net_plan.specs.Addresses.{has_bad_address, addressed}
use Rattle.net_plan.specs.Expansion.{wired, expansion}
use Rattle.net_plan.proofs.Framing.{map_some}
use Rattle.net_plan.proofs.Ready.{ready}
use Rattle.net_plan.proofs.SoundOnce.{sound}
use Rattle.net_plan.proofs.laws.expansions_are_sound.Goals as goal

-- an Ok says that no test failed
all_well : (fits empty bad : Bool) (made : Option Wiring) (w : Wiring) → cond (not fits) (Err faults.Limit) (cond empty (Err faults.Empty) (cond bad (Err faults.Address) (ok_or made faults.Subnet))) ≡ Ok w
    → (fits ≡ true) × (empty ≡ false) × (bad ≡ false) × (made ≡ Some w)
all_well false empty bad made w e = absurd (cc e)
all_well true true bad made w e = absurd (cc e)
all_well true false true made w e = absurd (cc e)
all_well true false false None w e = absurd (cc e)
all_well true false false (Some v) w e = let same : v ≡ w = cc e in (refl, refl, refl, ap (λ (u : Wiring). Some u) same)

pub returns : goal.returns
unfolding expansion
returns c = λ t w is e.
    let well = all_well (keeps_limits (wired t t.links)) (length t.nodes == 0) (has_bad_address t.links) (option_map (wired t) (addressed t.links)) w e in
    let made = map_some (wired t) (addressed t.links) w well.3 in
    subst IsSound made.2 (sound t made.0 (ready t made.0 is well.0 well.2 made.1) well.1)
