use Rattle.std.proofs.Common.{◌≡◌, [], length, drop, get_or}
use Rattle.std.specs.List.{find}
use Rattle.map_state.specs.Placings.{IsPlacing}
use Rattle.assign_core.specs.Exact.{fits_next}
use Rattle.assign_core.proofs.first.first_fitting.Given as goal

abbrev pub invariant-loop-number : goal.invariant-loop-number
invariant-loop-number l = record {
  placing : IsPlacing l.search l.placing;
  same : l.placing.places.items ≡ l.initial.placing.places.items;
  first : find (λ p. fits_next l.search.mapper.lab.now l.search.mapper.wiring.now l.initial.placing.places.items p)
      (drop l.number (get_or l.search.candidates.now (length l.initial.placing.places.items) []))
      ≡ find (λ p. fits_next l.search.mapper.lab.now l.search.mapper.wiring.now l.initial.placing.places.items p)
      (get_or l.search.candidates.now (length l.initial.placing.places.items) []);
}
