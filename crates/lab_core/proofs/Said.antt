-- The world, and the lab that an image stands for.
use Rattle.std.proofs.Common.{◌≡◌, List, ℕ, subst}
use Rattle.plant.specs.Disks.{ArePossible}
use Rattle.plant.specs.Events.{Event}
use Rattle.plant.specs.Worlds.{world_of}
use Rattle.lab_model.specs.Sound.{Keeps, Standing}
use Rattle.journal_model.specs.Journals.{journal_length}
use Rattle.records_model.specs.Appends.{standing}
use Rattle.records_model.specs.Labs.{LabState}
use Rattle.records_model.specs.Works.{IsSound}
use Rattle.swap_turns.proofs.Sounds.{at_end}
use Rattle.swap_turns.proofs.Stood.{stood_once}
use Rattle.lab_state.specs.Texts.{the_texts}
use Rattle.lab_state.proofs.Canonical.{texts_once}
use Rattle.lab_core.specs.Moments.{StandForLab}
use Rattle.lab_core.specs.Said.{IsAsSaid}

pub as_said : (trace : List Event) (a b : List ℕ) (s : LabState) → IsSound the_texts trace → ArePossible trace a b → StandForLab a b s → IsAsSaid (world_of trace) s
as_said trace a b s sound possible stand =
    let found = at_end the_texts trace sound a b possible in
    let f = found.1 in
    let same : f.state ≡ s = stood_once the_texts a b f.state s texts_once (record { records = f.records; read = f.read; lab_of = f.lab_of }) stand in
    let kept = subst (λ (u : LabState). Keeps (world_of trace) (standing u (journal_length a b f.records))) same (subst (λ (x : Standing). Keeps (world_of trace) x) f.is found.2) in
    record { holding = kept.holding; isolated = kept.isolated; cabled = kept.cabled }
