use Rattle.std.proofs.Common.{◌≡◌, ◌∙◌, ap, Option, List, ℕ, if◌then◌else◌}
use Rattle.std.specs.Str.{bytes_eq}
use Rattle.plant_mem.specs.Boots.{os_in}
use Rattle.plant_mem.specs.declared.nodes.NodeState.{NodeState}
use Rattle.plant_mem.proofs.NodeLaws.{kept}
use Rattle.plant_mem.proofs.nodes.set_state.Goals as goal

pub returns-clause-oses : goal.returns-clause-oses
returns-clause-oses c name =
    let nodes = c.args.nodes.now.items in
    let os : c.os_in-os.result ≡ os_in c.args.node.now nodes = c.os_in-os.ensures ∙ ap (λ (l : List NodeState). os_in c.args.node.now l) c.deref.ensures.value in
    c.set.ensures.oses name
    ∙ ap (λ (o : Option (List ℕ)). if bytes_eq c.args.node.now name then o else os_in name nodes) os
    ∙ kept (λ n. os_in n nodes) c.args.node.now name
