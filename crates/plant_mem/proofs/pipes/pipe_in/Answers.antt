use Rattle.std.proofs.Common.{sym}
use Rattle.plant_mem.proofs.PipeLaws.{pipe_found, pipe_not_found}
use Rattle.plant_mem.proofs.pipes.pipe_in.Goals as goal

pub returns-in-Ok : goal.returns-in-Ok
returns-in-Ok c = sym (pipe_found c.args.pipes.now c.requires c.args.node.now c.args.number c.in-Ok.at c.index-pipes-at.result c.in-Ok.ensures.bound c.in-Ok.ensures.place)

pub returns-in-Err : goal.returns-in-Err
returns-in-Err c = sym (pipe_not_found c.args.pipes.now c.requires c.args.node.now c.args.number c.in-Err.field-0 c.in-Err.ensures.place)
