use Rattle.std.proofs.Common.{◌≡◌, drop, []}
use Rattle.lab_base.specs.Texts.{views}
use Rattle.ns_build.specs.Checks.{each}
use Rattle.ns_build.specs.Commands.{with_end}
use Rattle.ns_build.proofs.network.Network.joined_ends.Given as goal

abbrev pub invariant-loop-element : goal.invariant-loop-element
invariant-loop-element l = each (with_end l.self) l.ends (views (drop l.element-index l.elements)) ≡ each (with_end l.self) [] (views l.elements)
