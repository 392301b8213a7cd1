use Rattle.std.proofs.Common.{◌∙◌, ◌++◌, ◌∷◌, ◌≡◌, [], List, get_or, map, take, ap, sym}
use Rattle.std.proofs.lemmas.List.{map_push, take_all, take_more}
use Rattle.phys_lab.specs.declared.parts.Iface.{Iface}
use Rattle.trunk_sums.proofs.table.switches_of.Goals as goal

pub loop-iface-preserved : goal.loop-iface-preserved
loop-iface-preserved c =
    let ifaces = c.ifaces-iface-items.result.now in
    let k = c.loop-iface.iface-index in
    let x : Iface = c.iface-item.result in
    let is : x ≡ get_or ifaces k x = c.iface-item.is in
    c.in_ok-push.ensures.items ∙ (λ j. c.loop-iface.invariant j ++ (is j).switch ∷ [])
    ∙ sym (map_push (λ (i : Iface). i.switch) (take k ifaces) (get_or ifaces k x))
    ∙ ap (λ (l : List Iface). map (λ i. i.switch) l) (sym (take_more ifaces k x c.loop-iface-test.true))

pub returns : goal.returns
returns c =
    c.loop-iface.invariant
    ∙ ap (λ (l : List Iface). map (λ i. i.switch) l) (take_all c.loop-iface.iface-index c.ifaces-iface-items.result.now c.loop-iface-test.false ∙ c.ifaces-iface-items.ensures.list)
