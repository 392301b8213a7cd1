use Rattle.folder_rows.proofs.limits.plant_over.Goals as goal

pub over-requires : goal.over-requires
over-requires g c = λ h some. (c.requires h some).keeps
