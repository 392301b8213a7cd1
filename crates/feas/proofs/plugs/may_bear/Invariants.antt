use Rattle.std.proofs.Common.{◌≡◌}
use Rattle.std.specs.Prelude.{zip}
use Rattle.lab_model.specs.Rules.{loads_on, may_bear}
use Rattle.feas.proofs.LoadLists.{later_on, left_to}
use Rattle.feas.proofs.plugs.may_bear.Given as goal

abbrev pub invariant-loop-end : goal.invariant-loop-end
invariant-loop-end l = may_bear l.kbps (loads_on l.plug.0 (zip l.loads l.plugs)) l.load ≡ left_to l.load (later_on l.plug.0 l.loads l.plugs l.end) l.left
