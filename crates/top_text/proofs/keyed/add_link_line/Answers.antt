use Rattle.std.proofs.Common.{sym, ◌∙◌}
use Rattle.lab_base.specs.Texts.{views}
use Rattle.top_text.proofs.KeptLaws.{few_in_link}
use Rattle.top_text.proofs.keyed.add_link_line.Goals as goal

pub add_link-requires-clause-few : goal.add_link-requires-clause-few
add_link-requires-clause-few c = few_in_link (views c.args.fields.now) c.in_ok-link.link (sym c.in_ok-link_in.ensures ∙ c.in_ok-link.was)
