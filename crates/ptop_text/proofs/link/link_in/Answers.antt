use Rattle.std.proofs.Common.{sym, ap, ◌∙◌, arith}
use Rattle.lab_base.specs.Texts.{views}
use Rattle.ptop_text.specs.Lines.{link_line}
use Rattle.line_text.proofs.SliceLaws.{length-views}
use Rattle.ptop_text.proofs.Arities.{other_links, four}
use Rattle.ptop_text.proofs.link.link_in.Goals as goal

pub returns-in-len1 : goal.returns-in-len1
returns-in-len1 c = sym (other_links c.args.lab.now (views c.args.fields.now) (λ e. omega (arith, length-views c.args.fields.now)))

pub returns-in-len2 : goal.returns-in-len2
returns-in-len2 c = sym (other_links c.args.lab.now (views c.args.fields.now) (λ e. omega (arith, length-views c.args.fields.now)))

pub returns-in-len3 : goal.returns-in-len3
returns-in-len3 c = sym (other_links c.args.lab.now (views c.args.fields.now) (λ e. omega (arith, length-views c.args.fields.now)))

pub returns-in-len4 : goal.returns-in-len4
returns-in-len4 c = c.link_of.ensures ∙ ap (link_line c.args.lab.now) (four c.args.fields.now _ _ _ _ (omega arith))

pub returns-in-len5-up : goal.returns-in-len5-up
returns-in-len5-up c = sym (other_links c.args.lab.now (views c.args.fields.now) (λ e. omega (arith, length-views c.args.fields.now)))
