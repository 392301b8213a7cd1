use Rattle.std.proofs.Common.{refl}
use Rattle.map_state.proofs.StateLaws.{joined_all}
use Rattle.map_state.proofs.state.MapState.is_joined.Goals as goal

pub returns-then-search : goal.returns-then-search
returns-then-search c =
    let x = c.args.search.now in
    (λ is s lt. joined_all x.mapper.lab.now x.mapper.wiring.now c.args.self.now.mapping s c.range-kept.ensures.lab (c.requires.search.table.joined.0 c.if-search.true) c.requires.state.shaped, λ all. refl)
