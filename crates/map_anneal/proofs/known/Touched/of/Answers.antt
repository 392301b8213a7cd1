use Rattle.map_anneal.specs.Searches.{sought_of}
use Rattle.map_anneal.proofs.Prices.{map_shaped}
use Rattle.map_anneal.proofs.known.Touched.of.Goals as goal

pub touched_virts-requires-clause-last : goal.touched_virts-requires-clause-last
touched_virts-requires-clause-last g c = (map_shaped (sought_of c.args.search.now c.args._rule.now.number) c.args.last.now c.requires.search.mapper.sound c.requires.last).places

pub touched_virts-requires-clause-next : goal.touched_virts-requires-clause-next
touched_virts-requires-clause-next g c = (map_shaped (sought_of c.args.search.now c.args._rule.now.number) c.args.next.now c.requires.search.mapper.sound c.requires.next).places
