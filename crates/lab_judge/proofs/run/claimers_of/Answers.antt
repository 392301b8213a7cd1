use Rattle.std.specs.List.{range_with_len}
use Rattle.std.proofs.Common.{◌≡◌, ℕ, List, Option, IfOk, length, map, sym, ap, ◌∙◌, subst, arith}
use Rattle.lab_base.specs.Lists.{listed}
use Rattle.phys_lab.specs.Labs.{Lab}
use Rattle.phys_lab.specs.declared.parts.Node.{Node}
use Rattle.records_model.specs.Labs.{lab_in}
use Rattle.claims.specs.Held.{claim_nodes, owner_of}
use Rattle.lab_judge.specs.Serving.{claimers_of}
use Rattle.lab_tasks.proofs.JudgeSwap.{is_none_not}
use Rattle.lab_judge.proofs.JudgeRun.{owners_claim}
use Rattle.lab_judge.proofs.run.claimers_of.Goals as goal

pub owners_of-requires-clause-few : goal.owners_of-requires-clause-few
owners_of-requires-clause-few c =
    omega (arith, ap (λ (l : List Node). length l) c.nodes.ensures, ap (λ (o : Option Lab). length (lab_in o).nodes) c.requires, c.lab-kept.ensures.sane.is_lab.few_nodes)

pub owners_of-requires-clause-of_lab : goal.owners_of-requires-clause-of_lab
owners_of-requires-clause-of_lab c =
    omega (arith, ap (λ (l : List Node). length l) c.nodes.ensures, ap (λ (o : Option Lab). length (lab_in o).nodes) c.requires, c.in-Some.ensures.claims.nodes)

pub unreachable-requires : goal.unreachable-requires
unreachable-requires c = is_none_not c.args.state.now.state.lab c.args.lab.now (sym c.in-None.ensures.some) c.requires

pub returns : goal.returns
returns c =
    let s = c.args.state.now.state in
    let held = c.in-Some.claims.now in
    let sane = c.lab-kept.ensures.sane in
    let alone = λ (n : ℕ). c.owners.ensures (lab_in s.lab) s.experiments held n sane.holding sane.names c.in-Some.ensures.claims in
    let same : map (λ n. listed (owner_of claim_nodes held.entries n)) (range_with_len 0 (length c.nodes.result.now)) ≡ claimers_of (length c.args.lab.now.nodes) s.experiments =
    owners_claim (lab_in s.lab) s.experiments held.entries alone (length c.nodes.result.now) ∙ ap (λ (l : List Node). claimers_of (length l) s.experiments) c.nodes.ensures in
    subst (λ (l : List (List (List ℕ))). IfOk c.owners_of.result (λ by_node. by_node ≡ l)) same c.owners_of.ensures
