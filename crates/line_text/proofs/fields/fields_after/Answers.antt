use Rattle.std.proofs.Common.{List, ℕ, Bor, ap, ◌∙◌}
use Rattle.lab_base.specs.Texts.{views}
use Rattle.line_text.proofs.SliceLaws.{views-drop, whole_drop}
use Rattle.line_text.proofs.fields.fields_after.Goals as goal

pub returns : goal.returns
returns c = ap (λ (l : List (Bor (List ℕ))). views l) (whole_drop c.args.n c.args.fields.now) ∙ views-drop c.args.n c.args.fields.now
