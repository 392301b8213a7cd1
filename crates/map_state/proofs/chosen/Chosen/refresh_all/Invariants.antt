use Rattle.std.proofs.Common.{◌≡◌, ◌<◌, ℕ, true, false, None, get_or}
use Rattle.lab_model.specs.Rules.{no_place}
use Rattle.map_state.specs.Chosen.{IsChosen}
use Rattle.map_state.proofs.chosen.Chosen.refresh_all.Given as goal

abbrev pub invariant-loop-virt : goal.invariant-loop-virt
invariant-loop-virt l = record {
  chosen : IsChosen l.search l.self;
  rest : l.self.state.sums ≡ None → l.initial.self.state.sums ≡ None;
  places : l.self.state.mapping.places ≡ l.initial.self.state.mapping.places;
  fresh : (v : ℕ) → v < l.virt → get_or l.self.unserved.items (get_or l.initial.self.state.mapping.places v no_place).0.0 true ≡ false;
}
