use Rattle.std.proofs.Common.{◌≡◌, ◌<◌, true}
use Rattle.map_anneal.specs.Steps.{IsStaying}
use Rattle.map_anneal.proofs.step.has_two.Given as goal

abbrev pub invariant-loop-virt : goal.invariant-loop-virt
invariant-loop-virt l = record {
  one : l.found ≡ true → IsStaying l.wiring l.last l.next l.class l.kind l._first;
  before : l.found ≡ true → l._first < l.virt;
}
