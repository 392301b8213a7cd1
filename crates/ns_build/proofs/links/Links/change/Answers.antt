use Rattle.std.proofs.Common.{arith}
use Rattle.std.specs.Prelude.{nat_eq}
use Rattle.indexmap.specs.IndexMap.{get}
use Rattle.ns_build.proofs.PlaceLaws.{link_set, link_same, places_set}
use Rattle.ns_build.proofs.links.Links.change.Goals as goal

pub invariant_of-self : goal.invariant_of-self
invariant_of-self c =
    places_set c.self.inside.list.items (get nat_eq c.self.inside.places) c.args.change c.args.index c.index_mut.result.now _ (omega (arith, c.len.ensures)) c.index_mut.ensures.value c.change_link.ensures c.self.invariant

pub returns-then-index-len : goal.returns-then-index-len
returns-then-index-len c =
    link_set _ _ c.args.change c.args.index c.index_mut.result.now _ c.self.view_is (omega (arith, c.len.ensures)) c.index_mut.ensures.value c.change_link.ensures

pub returns-else-index-len : goal.returns-else-index-len
returns-else-index-len c = link_same _ _ c.args.change c.args.index c.self.view_is (omega (arith, c.len.ensures))
