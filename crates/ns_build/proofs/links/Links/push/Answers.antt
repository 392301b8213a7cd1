use Rattle.std.proofs.Common.{List, ◌++◌, ◌∷◌, [], length, ap, arith, ◌∙◌}
use Rattle.std.specs.Prelude.{nat_eq}
use Rattle.std.specs.Map.{lookup}
use Rattle.indexmap.specs.IndexMap.{get}
use Rattle.virt_topo.specs.declared.topo.AskedLink.{AskedLink}
use Rattle.ns_build.proofs.PlaceLaws.{places_more}
use Rattle.ns_build.proofs.links.Links.push.Goals as goal

pub invariant_of-self-2 : goal.invariant_of-self-2
invariant_of-self-2 c =
    places_more c.self.inside.list.items c.push_reserved.new.self.items c.args.link c.as_slice.result.now c.len-2.result (get nat_eq c.self.inside.places) (get nat_eq c.reserve-2.new.self) (get nat_eq c.note_ends.new.places) c.self.invariant
    (λ v. ap (lookup (nat_eq v)) c.reserve-2.ensures.entries) c.note_ends.ensures c.as_slice.ensures (omega (arith, c.len-2.ensures, ap (λ (l : List AskedLink). length l) c.reserve.ensures.items))
    (c.push_reserved.ensures.items ∙ ap (λ (l : List AskedLink). l ++ c.args.link ∷ []) c.reserve.ensures.items)
