use Rattle.std.proofs.Common.{sym, ap, ◌∙◌}
use Rattle.journal_rec.specs.declared.record.Found.{Found}
use Rattle.lab_grow.specs.Reasons.{exp_of}
use Rattle.lab_grow.proofs.Sticking.{entry_at}
use Rattle.lab_grow.proofs.reasons.stuck_at.Goals as goal

pub returns : goal.returns
returns c =
    let f = c.index-found-index.result in
    let told = c.exp_of-exp.ensures ∙ ap (λ (x : Found). exp_of x.entry) (sym c.index-found-index.is) in
    (f.entry, entry_at c.args.found.now c.args.index f c.requires.index c.index-found-index.is, told)
