use Rattle.std.proofs.Common.{◌≡◌, ◌<◌, ℕ, true, false, get_or}
use Rattle.map_state.specs.Nodes.{no_end}
use Rattle.map_anneal.specs.Steps.{StaysAt}
use Rattle.map_anneal.proofs.step.still_segments.Given as goal

abbrev pub invariant-loop-number : goal.invariant-loop-number
invariant-loop-number l =
    (e : ℕ) → e < l.number → get_or l.still.items (get_or l.search.mapper.ends.now e no_end).segment false ≡ true → StaysAt l.search.mapper.lab.now l.last l.next e
