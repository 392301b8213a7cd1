use Rattle.std.proofs.Common.{◌∙◌, sym}
use Rattle.std.specs.Prelude.{codes}
use Rattle.lab_base.specs.Names.{same_name}
use Rattle.line_text.proofs.SliceLaws.{position-map}
use Rattle.ptop_text.proofs.device.dash_in.Goals as goal

pub returns : goal.returns
returns c = c.dash_at.ensures ∙ sym (position-map (λ field. same_name field (codes "-")) (λ s. s.now) c.args.fields.now)
