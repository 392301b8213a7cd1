use Rattle.std.proofs.Common.{◌≡◌, ℕ, ◌+◌, List, Ok, take, drop, Bor, sym, ap, ◌∙◌}
use Rattle.lab_base.specs.Texts.{views}
use Rattle.lab_base.specs.Parts.{name_of}
use Rattle.lab_base.specs.Kinds.{both_of}
use Rattle.ptop_text.specs.Lines.{as_node, types_of, features_of, node_parts}
use Rattle.line_text.proofs.SliceLaws.{views-take, views-drop, whole_drop}
use Rattle.ptop_text.proofs.device.node_parts.Goals as goal

pub returns-in_ok-features-in-Some : goal.returns-in_ok-features-in-Some
returns-in_ok-features-in-Some c =
    let t : c.in_ok-types-in-Some.types ≡ types_of (take c.in-Some.at (views c.args.fields.now)) =
    c.in_ok-types-in-Some.ensures ∙ ap types_of (views-take c.in-Some.at c.args.fields.now) in
    let f : c.in_ok-features-in-Some.features ≡ features_of (drop (c.in-Some.at + 1) (views c.args.fields.now)) =
    c.in_ok-features-in-Some.ensures ∙ ap (λ (l : List (Bor (List ℕ))). features_of (views l)) (whole_drop (c.in-Some.at + 1) c.args.fields.now) ∙ ap features_of (views-drop (c.in-Some.at + 1) c.args.fields.now) in
    c.node_of.ensures ∙ (λ i. as_node (both_of (name_of c.args.name.now) (both_of (t i) (f i)))) ∙ sym (ap (node_parts c.args.name.now (views c.args.fields.now)) c.in-Some.is)

pub returns-in_ok-types-in-None : goal.returns-in_ok-types-in-None
returns-in_ok-types-in-None c =
    c.node_of-in-None.ensures
    ∙ (λ i. as_node (both_of (name_of c.args.name.now) (both_of (c.in_ok-types-in-None.ensures i) (Ok (c.new.ensures i)))))
    ∙ sym (ap (node_parts c.args.name.now (views c.args.fields.now)) c.in-None.is)
