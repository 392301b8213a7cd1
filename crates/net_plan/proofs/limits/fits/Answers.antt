use Rattle.std.proofs.Common.{◌≡◌, ◌+◌, List, length, sum_by, subst, sym, ap, ◌∙◌}
use Rattle.std.specs.Prelude.{◌&&◌, nat_le}
use Rattle.virt_topo.specs.declared.topo.AskedNode.{AskedNode}
use Rattle.virt_topo.specs.declared.topo.AskedLink.{AskedLink}
use Rattle.virt_topo.specs.Ends.{end_nodes}
use Rattle.virt_topo.specs.Topos.{Topo, IsTopo}
use Rattle.net_plan.specs.Parts.{AreExpandable, delays, segments_of}
use Rattle.net_plan.proofs.LimitLaws.{expandable, keeps-few}
use Rattle.net_plan.proofs.limits.fits.Goals as goal

same_links : (t : Topo) (links : List AskedLink) → IsTopo t → links ≡ t.links → AreExpandable links
same_links t links is same = subst AreExpandable (sym same) (expandable t is)

pub count_delays-requires-clause-expandable : goal.count_delays-requires-clause-expandable
count_delays-requires-clause-expandable c = same_links c.args.topo.now c.links-links.result.now c.nodes-asked.ensures.topo c.links-links.ensures

pub count_segments-requires-clause-expandable : goal.count_segments-requires-clause-expandable
count_segments-requires-clause-expandable c = same_links c.args.topo.now c.links-links.result.now c.nodes-asked.ensures.topo c.links-links.ensures

pub count_ends-requires-clause-expandable : goal.count_ends-requires-clause-expandable
count_ends-requires-clause-expandable c = same_links c.args.topo.now c.links-links.result.now c.nodes-asked.ensures.topo c.links-links.ensures

pub returns : goal.returns
returns c =
    let is = c.nodes-asked.ensures.topo in
    let links = c.links-links.ensures in
    let nodes = ap (λ (l : List AskedNode). length l) c.nodes-asked.ensures.nodes in
    let delayed = c.count_delays.ensures.count ∙ ap (sum_by delays) links in
    let segments = c.count_segments.ensures ∙ ap (sum_by (λ l. length (segments_of (0, l)))) links in
    let ends = c.count_ends.ensures ∙ ap (sum_by (λ l. length (end_nodes (segments_of (0, l))))) links in
    c.are_few.ensures ∙ (λ i. nat_le (nodes i + delayed i) 256 && (nat_le (segments i) 512 && nat_le (ends i) 4096)) ∙ sym (keeps-few c.args.topo.now c.args.topo.now.links is (expandable c.args.topo.now is))
