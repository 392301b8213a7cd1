use Rattle.std.proofs.Common.{◌<◌, List, ℕ, length, ap, subst, ◌∙◌}
use Rattle.std.specs.Prelude.{IfSome}
use Rattle.std.specs.List.{position}
use Rattle.std.proofs.lemmas.List.{length-map}
use Rattle.lab_base.specs.Names.{same_name}
use Rattle.line_text.proofs.SliceLaws.{position-map}
use Rattle.virt_topo.specs.declared.wiring.Segment.{Segment}
use Rattle.top_text.proofs.so_far.SoFar.segment_named.Goals as goal

pub returns-clause-place : goal.returns-clause-place
returns-clause-place c =
    c.segment_named.ensures.place ∙ ap (λ (l : List (List ℕ)). position (same_name c.args.name) l) c.requires.tables.segments
    ∙ position-map (same_name c.args.name) (λ (s : Segment). s.name) c.args.self.now.wiring.segments

pub returns-clause-within : goal.returns-clause-within
returns-clause-within c =
    subst (λ (n : ℕ). IfSome c.segment_named.result (λ s. s < n)) (ap (λ (l : List (List ℕ)). length l) c.requires.tables.segments ∙ length-map c.args.self.now.wiring.segments (λ (s : Segment). s.name)) c.segment_named.ensures.within
