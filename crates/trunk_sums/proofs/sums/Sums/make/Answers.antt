use Rattle.std.proofs.Common.{◌≡◌, ◌<◌, ◌∙◌, List, length, get_or, All, ap, sym, subst, arith}
use Rattle.std.proofs.Math.ListN.{set}
use Rattle.std.proofs.lemmas.List.{length-set}
use Rattle.lab_base.specs.declared.ids.IfaceId.{IfaceId}
use Rattle.trunk_sums.specs.declared.made.Change.{Change}
use Rattle.trunk_sums.proofs.RemadeLaws.{remade_more, all_set}
use Rattle.trunk_sums.proofs.sums.Sums.make.Goals as goal

pub replug-requires-clause-row : goal.replug-requires-clause-row
replug-requires-clause-row c = c.requires.changes.rows c.loop-change.change-index (record { end = 0; row = record { segment = 0; ends = 0; kbps = 0 }; to = record { 0 = 0 } }) c.loop-change-test.true

pub replug-requires-clause-to : goal.replug-requires-clause-to
replug-requires-clause-to c = c.requires.changes.within c.loop-change.change-index (record { end = 0; row = record { segment = 0; ends = 0; kbps = 0 }; to = record { 0 = 0 } }) c.loop-change-test.true

pub loop-change-preserved : goal.loop-change-preserved
loop-change-preserved c =
    let cs = c.args.changes.now in
    let k = c.loop-change.change-index in
    let x : Change = get_or cs k (record { end = 0; row = record { segment = 0; ends = 0; kbps = 0 }; to = record { 0 = 0 } }) in
    let inv = c.loop-change.invariant in
    let old = c.loop-change.plugs.items in
    let made : c.replug.new.plugs.items ≡ set old x.end x.to = c.replug.ensures.plugs in
    record {
      plugs = made ∙ ap (λ (l : List IfaceId). set l x.end x.to) inv.plugs ∙ sym (remade_more c.args.plugs.now.items cs k (record { end = 0; row = record { segment = 0; ends = 0; kbps = 0 }; to = record { 0 = 0 } }) c.loop-change-test.true);
      plugged = ap (λ (l : List IfaceId). length l) made ∙ length-set old x.end x.to ∙ inv.plugged;
      in_lab = subst (λ (l : List IfaceId). All (λ i. i.0 < length c.args.lab.now.ifaces) l) (sym made) (all_set (length c.args.lab.now.ifaces) old x.end x.to inv.in_lab (c.requires.changes.within k (record { end = 0; row = record { segment = 0; ends = 0; kbps = 0 }; to = record { 0 = 0 } }) c.loop-change-test.true));
      summed = c.replug.ensures.summed;
    }
