use Rattle.std.proofs.Common.{List, subst}
use Rattle.lab_base.specs.Lists.{Has}
use Rattle.journal_rec.specs.declared.record.Found.{Found}
use Rattle.lab_look.proofs.Looking.{are_records}
use Rattle.lab_look.proofs.report.standing_on.Goals as goal

pub stands_beside-requires : goal.stands_beside-requires
stands_beside-requires c =
    λ f h. are_records c.args.a.now c.args.b.now c.args.side c.args.walked c.requires.1.rs c.requires.1.stands f (subst (λ (l : List Found). Has l f) c.as_slice.ensures h)
