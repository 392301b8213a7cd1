use Rattle.std.proofs.Common.{Result, subst}
use Rattle.lab_base.specs.declared.fault.Kind.{Kind}
use Rattle.virt_topo.specs.declared.wiring.Wiring.{Wiring}
use Rattle.line_text.specs.Refusals.{Takes}
use Rattle.std.proofs.Common.{◌≡◌, List, eqb, length, arith, ◌∙◌, ap}
use Rattle.std.specs.Prelude.{nat_lt}
use Rattle.std.specs.List.{list_all}
use Rattle.virt_topo.specs.declared.wiring.VirtEnd.{VirtEnd}
use Rattle.virt_topo.specs.Repeats.{stands_again}
use Rattle.top_text.specs.Adding.{with_segment}
use Rattle.top_text.proofs.KeptLaws.{few_ends}
use Rattle.top_text.proofs.AddedLaws.{segment_judged}
use Rattle.top_text.proofs.so_far.SoFar.check_segment.Goals as goal

pub segment_fits-requires-clause-ends : goal.segment_fits-requires-clause-ends
segment_fits-requires-clause-ends c = omega (arith, few_ends c.args.self.now.wiring c.requires.kept, c.requires.ends)

pub returns : goal.returns
returns c =
    let w = c.args.self.now.wiring in
    let more = with_segment w c.args.segment.now in
    let known : c.knows_ends.result ≡ list_all (λ e. nat_lt e.node (length w.nodes)) c.args.segment.now.ends = c.knows_ends.ensures ∙ (λ i. list_all (λ e. nat_lt e.node (c.len.ensures i)) (c.as_slice.ensures i)) in
    let same : c.repeat_node_of.result ≡ stands_again (λ a b. eqb a.node b.node) c.args.segment.now.ends = c.repeat_node_of.ensures ∙ ap (λ (l : List VirtEnd). stands_again (λ a b. eqb a.node b.node) l) c.as_slice-2.ensures in
    subst (λ (r : Result Wiring Kind). Takes c.judge.result more r) (segment_judged w c.args.segment.now c.args.self.now.tables.segments.keys c.args.self.now.tables.ends c.args.again _ _ _ _ c.requires.kept c.requires.names c.requires.ends c.requires.again c.segment_repeats.ensures known same c.segment_fits.ensures) (c.judge.ensures more)
