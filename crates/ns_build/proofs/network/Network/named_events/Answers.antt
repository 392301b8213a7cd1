use Rattle.std.proofs.Common.{List, get_or, ap, subst, ◌∙◌}
use Rattle.lab_base.specs.Lists.{Has}
use Rattle.lab_base.proofs.Members.{Has-at}
use Rattle.net_plan.proofs.ListLaws.{own_item}
use Rattle.ns_events.specs.declared.event.What.TheVariants.{Down}
use Rattle.ns_build.specs.declared.task.Planned.{Planned}
use Rattle.ns_build.specs.Networks.{Network}
use Rattle.ns_build.proofs.network.Network.named_events.Goals as goal

pub named_event-requires : goal.named_event-requires
named_event-requires c =
    let none : Planned = record { at = 0; index = 0; what = Down; line = 0 } in
    let items = c.deref-event-items.result.now in
    let i = c.loop-event.event-index in
    let e = get_or items i none in
    let here : Has items e = Has-at items i e c.loop-event-test.true (own_item items i none c.loop-event-test.true) in
    c.requires e (subst (λ (es : List Planned). Has es e) (c.deref-event-items.ensures.value ∙ ap (λ (n : Network). n.events) c.self.view_is) here)
