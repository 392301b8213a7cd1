use Rattle.std.proofs.Common.{◌∷◌, ◌++◌, [], List, ap, append_assoc, ◌∙◌}
use Rattle.std.specs.Prelude.{replicate}
use Rattle.virt_topo.specs.declared.loads.Load.{Load}
use Rattle.virt_topo.specs.Loads.{load_of}
use Rattle.virt_topo.proofs.LoadLaws.{replicate-push}
use Rattle.virt_topo.proofs.loads.push_loads.Goals as goal

pub loop-end-preserved : goal.loop-end-preserved
loop-end-preserved c =
    let old = c.args.listed.now.items in
    let x = load_of c.args.number c.args.segment.now in
    c.in_ok-push.ensures.items ∙ ap (λ (l : List Load). l ++ x ∷ []) c.loop-end.invariant
    ∙ append_assoc old (replicate c.loop-end._end x) (x ∷ [])
    ∙ ap (λ (l : List Load). old ++ l) (replicate-push c.loop-end._end x)
