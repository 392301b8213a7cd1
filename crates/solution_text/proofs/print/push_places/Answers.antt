use Rattle.std.proofs.Common.{◌≡◌, List, map, take, ◌++◌, ap, ◌∙◌, arith}
use Rattle.std.specs.List.{zip}
use Rattle.std.proofs.lemmas.List.{take_all}
use Rattle.lab_base.specs.Names.{is_name}
use Rattle.line_text.specs.Printing.{text_of}
use Rattle.line_text.proofs.PrintLaws.{text_more}
use Rattle.virt_topo.specs.declared.wiring.VirtNode.{VirtNode}
use Rattle.lab_model.specs.Shapes.{Place}
use Rattle.solution_text.specs.CanonicalSolution.{place_fields}
use Rattle.solution_text.proofs.ZipLaws.{zip_length, zip_at}
use Rattle.line_text.proofs.ListLaws.{all_next}
use Rattle.solution_text.proofs.print.push_places.Goals as goal

pub loop-virt-preserved : goal.loop-virt-preserved
loop-virt-preserved c =
    let nodes = c.args.nodes.now in
    let places = c.args.places.now in
    let i = c.loop-virt.virt in
    let virt = c.index-nodes-virt.result in
    let place = c.index-places-virt.result in
    record {
      text = text_more (place_fields c.args.lab.now) (zip nodes places) i (virt, place) c.args.text.now c.loop-virt.text c.push_place.new.text
          (omega (arith, zip_length nodes places c.requires.places))
          (zip_at nodes places i virt place c.requires.places c.loop-virt-test.true c.index-nodes-virt.is c.index-places-virt.is)
          c.loop-virt.invariant.text c.in_ok-push_place.ensures.text;
      named = all_next (λ (v : VirtNode). is_name v.name) nodes i virt c.loop-virt-test.true c.index-nodes-virt.is c.loop-virt.invariant.named c.in_ok-push_place.ensures.named;
    }

pub returns-clause-text : goal.returns-clause-text
returns-clause-text c =
    let nodes = c.args.nodes.now in
    let places = c.args.places.now in
    let all : take c.loop-virt.virt (zip nodes places) ≡ zip nodes places = take_all _ _ (omega (arith, zip_length nodes places c.requires.places)) in
    c.loop-virt.invariant.text ∙ ap (λ (l : List (VirtNode × Place)). c.args.text.now ++ text_of (map (place_fields c.args.lab.now) l)) all
