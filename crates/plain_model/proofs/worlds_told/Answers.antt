use Rattle.plain_model.proofs.RowLaws.{world_told, row_told, os_told, boot_told, pipe_told}
use Rattle.plain_model.proofs.worlds_told.Goals as goal

pub returns-clause-world : goal.returns-clause-world
returns-clause-world c = λ trace. world_told trace

pub returns-clause-rows : goal.returns-clause-rows
returns-clause-rows c = λ row commands. row_told row commands

pub returns-clause-os : goal.returns-clause-os
returns-clause-os c = λ name commands. os_told name commands

pub returns-clause-boot : goal.returns-clause-boot
returns-clause-boot c = λ name commands. boot_told name commands

pub returns-clause-pipes : goal.returns-clause-pipes
returns-clause-pipes c = λ name k commands. pipe_told name k commands
