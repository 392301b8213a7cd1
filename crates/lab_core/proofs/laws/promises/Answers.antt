use Rattle.lab_core.proofs.FoundMaps.{found_shaped}
use Rattle.lab_core.proofs.Promised.{serves_keeps}
use Rattle.lab_core.proofs.PromiseRuns.{keeps_promises}
use Rattle.lab_core.proofs.laws.promises.Goals as goal

pub returns-clause-served : goal.returns-clause-served
returns-clause-served c = λ rule moment text trace set s opens to own after served sane serves is open_now. serves_keeps c.left_nodes.ensures rule moment text trace set s opens own after served to sane is open_now serves

pub returns-clause-part : goal.returns-clause-part
returns-clause-part c = λ rule moment text base trace s u opens to start at own sane judged past calm. keeps_promises c.left_nodes.ensures found_shaped rule moment base trace s opens text start at own u to sane judged past calm
