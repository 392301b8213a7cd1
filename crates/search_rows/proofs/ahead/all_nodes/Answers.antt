use Rattle.std.proofs.Common.{◌∷◌, [], List, inl, inr, sym, ap, subst, arith}
use Rattle.std.proofs.lemmas.Grind.{common_steps}
use Rattle.lab_base.specs.declared.ids.NodeId.{NodeId}
use Rattle.lab_base.specs.Lists.{Has, AllDiffer}
use Rattle.lab_base.proofs.Members.{Has-append}
use Rattle.phys_lab.proofs.KeptLaws.{at_end}
use Rattle.search_rows.proofs.ahead.all_nodes.Goals as goal

pub loop-n-preserved : goal.loop-n-preserved
loop-n-preserved c =
    let before = c.loop-n.invariant in
    let node : NodeId = record { 0 = c.loop-n.n } in
    let items = c.in_ok-push.ensures.items in
    record {
      below = λ other h. elim (Has-append c.loop-n.nodes.items (node ∷ []) other (subst (λ (l : List NodeId). Has l other) items h)) [
        | inl a ↦ omega (arith, before.below other a)
        | inr b ↦ elim b [ inl e ↦ omega (arith, ap (λ (v : NodeId). v.0) e) | inr none ↦ absurd none ]
      ];
      differ = subst (λ (l : List NodeId). AllDiffer l) (sym items) (at_end c.loop-n.nodes.items node before.differ (λ h. absurd (omega (arith, before.below node h))));
      of_lab = grind (arith, common_steps);
    }
