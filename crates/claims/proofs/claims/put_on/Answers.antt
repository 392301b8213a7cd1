use Rattle.std.proofs.Common.{List, sym, subst}
use Rattle.claims.specs.declared.claim.Entry.{Entry}
use Rattle.claims.specs.Kept.{Keeps}
use Rattle.claims.proofs.Fits.{fits_tables}
use Rattle.claims.proofs.Standing.{put_kept}
use Rattle.claims.proofs.claims.put_on.Goals as goal

pub note-requires-clause-fits : goal.note-requires-clause-fits
note-requires-clause-fits c = let k = c.requires.kept in fits_tables c.args.range k.0 c.args.entries.now.items c.args.tables.now c.args.claim k.1 k.2.within

pub returns-clause-kept : goal.returns-clause-kept
returns-clause-kept c = λ kbps keeps may.
    let n = c.note.ensures in
    subst (λ (es : List Entry). Keeps c.args.range kbps es c.note.new.tables) (sym c.push_reserved.ensures.items)
    (put_kept c.args.range kbps c.args.entries.now.items c.args.tables.now c.note.new.tables keeps n.nodes_len n.ids_len n.used_len c.args.exp c.args.claim may n.nodes n.ids n.used)
