use Rattle.std.proofs.Common.{◌≡◌, ℕ, ◌+◌, ◌-◌, ap, sym, ◌∙◌, arith}
use Rattle.plant_mem.specs.Knows.{pipes_below, pipe_count}
use Rattle.plant_mem.specs.MemLab.{told_of}
use Rattle.plant.specs.Worlds.{world_of}
use Rattle.plant_mem.proofs.Counts.{none_above}
use Rattle.plant_mem.proofs.mem.MemLab.pipe_count.Goals as goal

pub returns : goal.returns
unfolding pipe_count
returns c =
    let pipes = ((world_of (told_of c.args.self.now).trace).node c.args.node.now).pipes in
    let end = c.pipes_end.result in
    let all : 65536 ≡ (65536 - end) + end = omega (arith, c.pipes_end.ensures.bound) in
    c.pipes_below.ensures ∙ sym (none_above (65536 - end) end pipes (c.pipes_end.ensures.free c.args.node.now)) ∙ ap (λ (n : ℕ). pipes_below n pipes) (sym all)
