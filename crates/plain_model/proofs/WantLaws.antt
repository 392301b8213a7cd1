-- The rows that mappings want, one segment after another.
use Rattle.std.proofs.Common.{◌≡◌, ◌+◌, Option, Result, Ok, Err, OnOk, List, ◌∷◌, ◌++◌, map, length, take, drop, refl, sym, ap, arith, ◌∙◌, append_assoc}
use Rattle.lab_base.specs.declared.ids.IfaceId.{IfaceId}
use Rattle.lab_base.specs.declared.ids.VlanId.{VlanId}
use Rattle.phys_lab.specs.Labs.{Lab}
use Rattle.virt_topo.specs.declared.wiring.Segment.{Segment}
use Rattle.virt_topo.specs.declared.mapping.Mapping.{Mapping}
use Rattle.virt_topo.specs.declared.mapping.Mapped.{Mapped}
use Rattle.virt_topo.specs.declared.experiment.Experiment.{Experiment}
use Rattle.virt_topo.specs.declared.experiment.Phase.TheVariants.{In, Moving}
use Rattle.virt_topo.specs.Cables.{cables}
use Rattle.virt_topo.specs.Ends.{end_nodes}
use Rattle.virt_topo.proofs.EndLaws.{ends_from}
use Rattle.lab_model.specs.Wants.{Owned, cable_rows, owned_rows, rows_of}
use Rattle.lab_model.specs.Claims.{Old, New, claimed_in}
use Rattle.lab_model.specs.Courses.{rows_from}
use Rattle.plain_model.specs.Isolation.{Wanted, wanted_by}
use Rattle.plain_model.specs.WantedRows.{cable, of_link, owned_as}

pub on_ok : {X E P Q : Type 0} (r : Result X E) → OnOk r P → (P → Q) → OnOk r Q
on_ok (Ok x) p f = f p
on_ok (Err e) p f = tt

-- the ends of a segment, and those of the segments after it
pub ends_of : (s : Segment) (segments : List Segment) → length (end_nodes (s ∷ segments)) ≡ length s.ends + length (end_nodes segments)
ends_of s segments = ends_from (s ∷ segments) 0 s (omega arith) refl

-- a segment's rows, and those of the segments after it
pub cables_pushed : (lab : Lab) (s : Segment) (segments : List Segment) (plugs front back : List IfaceId) (tag : VlanId) (tags : List VlanId) (old mid new : List Owned)
    → front ≡ take (length s.ends) plugs → back ≡ drop (length s.ends) plugs
    → mid ≡ old ++ map (of_link s.owner) (cable_rows lab tag.0 (cable s front))
    → new ≡ mid ++ owned_rows lab (cables segments back) tags
    → new ≡ old ++ owned_rows lab (cables (s ∷ segments) plugs) (tag ∷ tags)
cables_pushed lab s segments plugs front back tag tags old mid new before behind one two =
    let own = map (of_link s.owner) (cable_rows lab tag.0 (cable s (take (length s.ends) plugs))) in
    two ∙ (λ i. one i ++ owned_rows lab (cables segments (behind i)) tags)
    ∙ (λ i. (old ++ map (of_link s.owner) (cable_rows lab tag.0 (cable s (before i)))) ++ owned_rows lab (cables segments (drop (length s.ends) plugs)) tags)
    ∙ append_assoc old own (owned_rows lab (cables segments (drop (length s.ends) plugs)) tags)

-- the rows of an experiment that is in, and of one that moves
pub in_pushed : (lab : Lab) (e : Experiment) (mapping : Mapping) (tags listed : List VlanId) (rows : List Owned) (old new : List Wanted) → e.phase ≡ In mapping tags → listed ≡ tags
    → rows ≡ rows_of lab (record { wiring = e.wiring; mapping = mapping; tags = listed })
    → new ≡ old ++ map (owned_as e.name New) rows
    → new ≡ old ++ (wanted_by lab e Old ++ wanted_by lab e New)
in_pushed lab e mapping tags listed rows old new is same all one =
    one ∙ ap (λ l. old ++ map (owned_as e.name New) l) all
    ∙ ap (λ l. old ++ map (owned_as e.name New) (rows_of lab (record { wiring = e.wiring; mapping = mapping; tags = l }))) same
    ∙ ap (λ p. old ++ (map (owned_as e.name Old) (rows_from lab (claimed_in e.wiring p Old)) ++ map (owned_as e.name New) (rows_from lab (claimed_in e.wiring p New)))) (sym is)

pub moving_pushed : (lab : Lab) (e : Experiment) (o n : Option Mapped) (old mid new : List Wanted) → e.phase ≡ Moving o n
    → mid ≡ old ++ map (owned_as e.name Old) (rows_from lab o) → new ≡ mid ++ map (owned_as e.name New) (rows_from lab n)
    → new ≡ old ++ (wanted_by lab e Old ++ wanted_by lab e New)
moving_pushed lab e o n old mid new is one two =
    two ∙ ap (λ l. l ++ map (owned_as e.name New) (rows_from lab n)) one ∙ append_assoc old _ _
    ∙ ap (λ p. old ++ (map (owned_as e.name Old) (rows_from lab (claimed_in e.wiring p Old)) ++ map (owned_as e.name New) (rows_from lab (claimed_in e.wiring p New)))) (sym is)
