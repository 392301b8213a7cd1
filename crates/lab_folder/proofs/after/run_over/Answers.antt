use Rattle.std.proofs.Common.{◌≡◌, sym, ap}
use Rattle.records_model.specs.Works.{IsSound}
use Rattle.lab_state.specs.Texts.{the_texts}
use Rattle.lab_model.specs.Cabled.{Cabled}
use Rattle.lab_model.specs.Holding.{Holding}
use Rattle.lab_model.specs.Isolated.{Isolated}
use Rattle.lab_top.specs.Headline.{AtEachMoment}
use Rattle.folder.specs.Folders.{past_of}
use Rattle.plant_file.specs.Lab.{seen_by}
use Rattle.lab_folder.proofs.Past.{left_after, so_after}
use Rattle.lab_folder.proofs.after.run_over.Goals as goal

pub returns-clause-isolated : goal.returns-clause-isolated
returns-clause-isolated g c =
    let told = g.F.Folder.told in
    let first = c.over-plant.result in
    let last = c.labctl-status.new.plant in
    so_after (AtEachMoment Isolated) (told c.args.folder) (told c.into_folder-folder.result) c.labctl-status.ensures.run.0 (seen_by (told first.folder) (g.F.Folder.is_stopped first.folder) first.faults)
    (seen_by (told last.folder) (g.F.Folder.is_stopped last.folder) last.faults) (ap (λ f. past_of (told f)) c.over-plant.ensures.folder) (ap (λ f. past_of (told f)) (sym c.into_folder-folder.ensures.folder)) c.labctl-status.ensures.run.1.told c.requires
    c.labctl-status.ensures.isolated

pub returns-clause-holding : goal.returns-clause-holding
returns-clause-holding g c =
    let told = g.F.Folder.told in
    let first = c.over-plant.result in
    let last = c.labctl-status.new.plant in
    so_after (AtEachMoment (λ lab es w. Holding lab es)) (told c.args.folder) (told c.into_folder-folder.result) c.labctl-status.ensures.run.0 (seen_by (told first.folder) (g.F.Folder.is_stopped first.folder) first.faults)
    (seen_by (told last.folder) (g.F.Folder.is_stopped last.folder) last.faults) (ap (λ f. past_of (told f)) c.over-plant.ensures.folder) (ap (λ f. past_of (told f)) (sym c.into_folder-folder.ensures.folder)) c.labctl-status.ensures.run.1.told c.requires
    c.labctl-status.ensures.holding

pub returns-clause-cabled : goal.returns-clause-cabled
returns-clause-cabled g c =
    let told = g.F.Folder.told in
    let first = c.over-plant.result in
    let last = c.labctl-status.new.plant in
    so_after (AtEachMoment Cabled) (told c.args.folder) (told c.into_folder-folder.result) c.labctl-status.ensures.run.0 (seen_by (told first.folder) (g.F.Folder.is_stopped first.folder) first.faults)
    (seen_by (told last.folder) (g.F.Folder.is_stopped last.folder) last.faults) (ap (λ f. past_of (told f)) c.over-plant.ensures.folder) (ap (λ f. past_of (told f)) (sym c.into_folder-folder.ensures.folder)) c.labctl-status.ensures.run.1.told c.requires
    c.labctl-status.ensures.cabled

pub returns-clause-left : goal.returns-clause-left
returns-clause-left g c =
    let told = g.F.Folder.told in
    let first = c.over-plant.result in
    let last = c.labctl-status.new.plant in
    left_after (told c.into_folder-folder.result) c.into_folder-folder.ensures.keeps
    (so_after (IsSound the_texts) (told c.args.folder) (told c.into_folder-folder.result) c.labctl-status.ensures.run.0 (seen_by (told first.folder) (g.F.Folder.is_stopped first.folder) first.faults)
    (seen_by (told last.folder) (g.F.Folder.is_stopped last.folder) last.faults) (ap (λ f. past_of (told f)) c.over-plant.ensures.folder) (ap (λ f. past_of (told f)) (sym c.into_folder-folder.ensures.folder)) c.labctl-status.ensures.run.1.told c.requires
    c.labctl-status.ensures.sound)

pub over-plant-requires : goal.over-plant-requires
over-plant-requires g c = λ h some. (c.requires h some).keeps
