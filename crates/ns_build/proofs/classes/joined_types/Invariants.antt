use Rattle.std.proofs.Common.{◌≡◌, drop, []}
use Rattle.lab_base.specs.Texts.{views}
use Rattle.ns_build.specs.Checks.{each}
use Rattle.ns_build.specs.Settings.{with_type}
use Rattle.ns_build.proofs.classes.joined_types.Given as goal

abbrev pub invariant-loop-element : goal.invariant-loop-element
invariant-loop-element l = each with_type l.types (views (drop l.element-index l.elements)) ≡ each with_type [] (views l.elements)
