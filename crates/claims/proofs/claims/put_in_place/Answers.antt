use Rattle.std.proofs.Common.{List, sym, subst}
use Rattle.claims.specs.declared.claim.Entry.{Entry}
use Rattle.claims.specs.Kept.{MayStand, held_in}
use Rattle.claims.proofs.Standing.{may_stand}
use Rattle.claims.proofs.claims.put_in_place.Goals as goal

pub put_on-requires-clause-kept : goal.put_on-requires-clause-kept
put_on-requires-clause-kept c =
    let t = c.take_off in
    let k = c.requires.kept in
    let may = may_stand c.args.range k.0 c.args.entries.now.items c.args.tables.now t.new.tables c.args.exp c.args.claim k.1 t.ensures.nodes k.2 in (
      k.0,
      t.ensures.kept k.0 k.1,
      subst (λ (l : List Entry). MayStand (held_in c.args.range k.0 l t.new.tables) c.args.exp c.args.claim) (sym t.ensures.entries) may,
    )

pub returns-clause-kept : goal.returns-clause-kept
returns-clause-kept c = λ kbps kept may_add.
    let t = c.take_off in
    let may = may_stand c.args.range kbps c.args.entries.now.items c.args.tables.now t.new.tables c.args.exp c.args.claim kept t.ensures.nodes may_add in
    c.put_on.ensures.kept kbps (t.ensures.kept kbps kept) (subst (λ (l : List Entry). MayStand (held_in c.args.range kbps l t.new.tables) c.args.exp c.args.claim) (sym t.ensures.entries) may)
