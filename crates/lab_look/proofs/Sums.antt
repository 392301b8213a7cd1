-- The kbps that are claimed of a trunk.
use Rattle.std.specs.Prelude.{sum_by}
use Rattle.std.proofs.Common.{◌≡◌, ℕ, ◌+◌, ◌-◌, ◌<◌, ◌≤◌, Option, Some, None, length-append, List, length, get_or, refl, ap, ◌∙◌, arith}
use Rattle.std.proofs.lemmas.List.{length-map, get_or-map}
use Rattle.lab_base.specs.Lists.{Has}
use Rattle.lab_base.specs.declared.ids.VlanId.{VlanId}
use Rattle.phys_lab.specs.Labs.{Lab}
use Rattle.phys_lab.specs.Sides.{trunk_at, no_trunk}
use Rattle.phys_lab.specs.declared.parts.Trunk.{Trunk}
use Rattle.virt_topo.specs.declared.experiment.Experiment.{Experiment}
use Rattle.virt_topo.specs.declared.mapping.Mapped.{Mapped}
use Rattle.virt_topo.specs.Soundness.{IsSound}
use Rattle.virt_topo.proofs.CableLaws.{limits_of, sound_keeps}
use Rattle.lab_model.specs.Claims.{Which, Old, New, claimed, tags_of, claimed_use}
use Rattle.lab_seen.specs.Claimed.{ids_claimed}
use Rattle.claims.specs.Held.{Held, use_by}
use Rattle.claims.specs.Experiments.{ClaimsOf}
use Rattle.claims.proofs.OthersLeave.{used_by, named_apart}
use Rattle.records_model.specs.Labs.{LabState, Sane}

pub claimed_of_trunk : (lab : Lab) (s : LabState) (held : Held) (t : ℕ) → Sane s → ClaimsOf lab s.experiments held → t < length lab.trunks → use_by t held.entries ≡ sum_by (claimed_use lab t) s.experiments
claimed_of_trunk lab s held t sane of_es inside =
    used_by lab held.entries s.experiments t inside (record { once = of_es.once; known = of_es.known; claims = of_es.claims; names = named_apart s.experiments sane.names })

-- what is not left of it is what all experiments claim
pub used_is : (lab : Lab) (s : LabState) (held : Held) (t left kbps : ℕ) → Sane s → ClaimsOf lab s.experiments held → t < length lab.trunks → left + use_by t held.entries ≡ get_or held.kbps t 0 → kbps ≡ (trunk_at lab.trunks t).kbps
    → (left ≤ kbps) × (kbps - left ≡ sum_by (claimed_use lab t) s.experiments)
used_is lab s held t left kbps sane of_es inside left_is kbps_is =
    let all : get_or held.kbps t 0 ≡ (get_or lab.trunks t no_trunk).kbps = ap (λ (l : List ℕ). get_or l t 0) of_es.kbps ∙ get_or-map (λ (x : Trunk). x.kbps) lab.trunks t no_trunk 0 inside in
    let claimed : use_by t held.entries ≡ sum_by (claimed_use lab t) s.experiments = claimed_of_trunk lab s held t sane of_es inside in
    (omega (arith, left_is, kbps_is, all), omega (arith, left_is, kbps_is, all, claimed))

-- ---- how many VLAN ids an experiment claims

tags_few : (o : Option Mapped) → ((m : Mapped) → o ≡ Some m → (length m.tags ≡ length m.wiring.segments) × IsSound m.wiring) → length (tags_of o) ≤ 512
tags_few None fits = omega arith
tags_few (Some m) fits =
    let own = fits m refl in
    omega (arith, length-map m.tags (λ (tag : VlanId). tag.0), own.0, (limits_of m.wiring (sound_keeps m.wiring own.1)).segments)

pub few_ids : (s : LabState) (e : Experiment) → Sane s → Has s.experiments e → ids_claimed e ≤ 1024
few_ids s e sane among =
    let side : (which : Which) (m : Mapped) → claimed e which ≡ Some m → (length m.tags ≡ length m.wiring.segments) × IsSound m.wiring
    = λ which m is. let suits = sane.holding.fits e which m among is in (suits.tags, suits.sound) in
    omega (arith, length-append (tags_of (claimed e Old)) (tags_of (claimed e New)), tags_few (claimed e Old) (λ m is. side Old m is), tags_few (claimed e New) (λ m is. side New m is))
