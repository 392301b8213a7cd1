use Rattle.std.proofs.Common.{◌≡◌, [], length, drop}
use Rattle.map_state.specs.Placings.{IsPlacing}
use Rattle.assign_core.specs.Bests.{IsPartial}
use Rattle.assign_core.specs.Exact.{first_fit_from}
use Rattle.assign_core.proofs.first.place_all.Given as goal

abbrev pub invariant-loop-virt : goal.invariant-loop-virt
invariant-loop-virt l = record {
  placing : IsPlacing l.search l.placing;
  partial : IsPartial l.search.candidates.now l.placing.places.items;
  count : length l.placing.places.items ≡ l._virt;
  rest : first_fit_from l.search.mapper.lab.now l.search.mapper.wiring.now l.placing.places.items (drop l._virt l.search.candidates.now)
      ≡ first_fit_from l.search.mapper.lab.now l.search.mapper.wiring.now [] l.search.candidates.now;
}
