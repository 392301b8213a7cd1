use Rattle.std.specs.Prelude.{◌==◌}
use Rattle.std.specs.Option.{ok_or}
use Rattle.std.proofs.Common.{◌≡◌, ◌+◌, Bool, true, false, cond, Option, Some, None, Ok, Err, List, length, sum_by, refl, subst, sym, ap, ◌∙◌}
use Rattle.std.proofs.lemmas.Bool.{and_parts, leb-true}
use Rattle.virt_topo.specs.declared.topo.AskedNode.{AskedNode}
use Rattle.virt_topo.specs.declared.topo.AskedLink.{AskedLink}
use Rattle.virt_topo.specs.Soundness.{keeps_limits, IsSound}
use Rattle.virt_topo.specs.Topos.{Topo, IsTopo}
use Rattle.net_plan.specs.declared.fault.PlanFault.TheVariants as faults
use Rattle.net_plan.specs.Addresses.{has_bad_address, addressed}
use Rattle.net_plan.specs.Expansion.{wired}
use Rattle.net_plan.specs.Parts.{delays}
use Rattle.net_plan.proofs.LimitLaws.{keeps-few}
use Rattle.net_plan.proofs.Ready.{IsReady, ready}
use Rattle.net_plan.proofs.SoundOnce.{sound}
use Rattle.net_plan.proofs.expansion.expand.Goals as goal

-- an Ok says that no test failed
all_well : (bad : Bool) (given : Option (List AskedLink)) (links : List AskedLink) → cond bad (Err faults.Address) (ok_or given faults.Subnet) ≡ Ok links → (bad ≡ false) × (given ≡ Some links)
all_well true given links e = absurd (cc e)
all_well false None links e = absurd (cc e)
all_well false (Some ls) links e = let same : ls ≡ links = cc e in (refl, ap (λ (l : List AskedLink). Some l) same)

are_ready : (t : Topo) (asked given made : List AskedLink) → IsTopo t → true ≡ keeps_limits (wired t t.links) → asked ≡ t.links
    → cond (has_bad_address asked) (Err faults.Address) (ok_or (addressed asked) faults.Subnet) ≡ Ok given → made ≡ given → IsReady t made
are_ready t asked given made is limits same found copied =
    let well = all_well (has_bad_address asked) (addressed asked) given found in
    subst (IsReady t) (sym copied) (ready t given is (sym limits) (ap has_bad_address (sym same) ∙ well.0) (ap addressed (sym same) ∙ well.1))

pub wired-requires-clause-links : goal.wired-requires-clause-links
wired-requires-clause-links c =
    (are_ready c.args.topo.now c.links.result.now c.in_ok-links.links c.as_slice.result.now c.nodes.ensures.topo c.if-not-fits.ensures c.links.ensures c.in_ok-links.ensures c.as_slice.ensures).expandable

pub wired-requires-clause-few : goal.wired-requires-clause-few
wired-requires-clause-few c =
    let t = c.args.topo.now in
    let links = c.as_slice.result.now in
    let r = are_ready t c.links.result.now c.in_ok-links.links links c.nodes.ensures.topo c.if-not-fits.ensures c.links.ensures c.in_ok-links.ensures c.as_slice.ensures in
    leb-true (length t.nodes + sum_by delays links) 256 (and_parts _ _ (sym (keeps-few t links r.topo r.expandable) ∙ r.limits)).0

pub returns-clause-sound : goal.returns-clause-sound
returns-clause-sound c =
    let t = c.args.topo.now in
    let links = c.as_slice.result.now in
    let r = are_ready t c.links.result.now c.in_ok-links.links links c.nodes.ensures.topo c.if-not-fits.ensures c.links.ensures c.in_ok-links.ensures c.as_slice.ensures in
    let some : (length t.nodes == 0) ≡ false = ap (λ (ns : List AskedNode). length ns == 0) (sym c.nodes.ensures.nodes) ∙ sym c.if-is_empty.ensures in
    subst IsSound (sym c.in_ok-wired.ensures) (sound t links r some)
