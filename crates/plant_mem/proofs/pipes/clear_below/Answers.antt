use Rattle.plant_mem.proofs.pipes.clear_below.Goals as goal

pub clear-requires : goal.clear-requires
clear-requires c = record { rise = c.loop-number.invariant.rise }
