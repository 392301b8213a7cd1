use Rattle.std.proofs.Common.{rules}
use Rattle.std.proofs.lemmas.List.Sorted.{answers_always}
use Rattle.plant_mem.specs.Pipes.{key_of}
use Rattle.plant_mem.proofs.pipes.place_of.Goals as goal

-- the closure gives the name and the number of an entry
pub returns-clause-place : goal.returns-clause-place
returns-clause-place c = c.binary_search_by_key.ensures.position key_of (answers_always _ _ _ (λ f a r g called. search rules))
