use Rattle.std.proofs.Common.{◌≡◌, ◌<◌, ◌∙◌, ◌++◌, ◌∷◌, [], List, length, get_or, All, ap, sym, subst, arith}
use Rattle.std.proofs.Math.ListN.{set}
use Rattle.std.proofs.lemmas.List.{length-set, get_or_read, take_all}
use Rattle.std.proofs.lemmas.List.Elements.{All-append, All-cons}
use Rattle.lab_base.specs.declared.ids.IfaceId.{IfaceId}
use Rattle.trunk_sums.specs.declared.made.Change.{Change}
use Rattle.trunk_sums.specs.Summed.{IsRow}
use Rattle.trunk_sums.specs.Remade.{AreChanges, remade}
use Rattle.trunk_sums.proofs.Replugged.{in_ends}
use Rattle.trunk_sums.proofs.SummedLaws.{is_in}
use Rattle.trunk_sums.proofs.RemadeLaws.{remade_more, all_set}
use Rattle.map_state.specs.Reverted.{reverted}
use Rattle.map_state.proofs.ListSteps.{reverted_more}
use Rattle.map_state.proofs.remake.remake.Goals as goal

abbrev none : Change
none = record { end = 0; row = record { segment = 0; ends = 0; kbps = 0 }; to = record { 0 = 0 } }

pub index-requires : goal.index-requires
index-requires c =
    let w = c.args.wiring.now in
    let x : Change = get_or c.args.changes.now c.loop-change.change-index none in
    let row = c.requires.changes.rows c.loop-change.change-index none c.loop-change-test.true in
    let in_all = in_ends w.segments x.row.segment x.end (is_in w x.end x.row row) in
    omega (arith, in_all, c.requires.plugged, c.loop-change.invariant.plugged)

pub loop-change-preserved : goal.loop-change-preserved
loop-change-preserved c =
    let w = c.args.wiring.now in
    let lab = c.args.lab.now in
    let cs = c.args.changes.now in
    let k = c.loop-change.change-index in
    let x : Change = get_or cs k none in
    let inv = c.loop-change.invariant in
    let old = c.loop-change.plugs.items in
    let made : c.replug.new.plugs.items ≡ set old x.end x.to = c.replug.ensures.plugs in
    let row = c.requires.changes.rows k none c.loop-change-test.true in
    let in_all = in_ends w.segments x.row.segment x.end (is_in w x.end x.row row) in
    let lt : x.end < length old = omega (arith, in_all, c.requires.plugged, inv.plugged) in
    let was : IfaceId = get_or old x.end (record { 0 = 0 }) in
    let noted : c.note_back.new.back.items ≡ c.loop-change.back.items ++ record { end = x.end; row = x.row; to = was } ∷ [] =
    c.in_ok-note_back.ensures ∙ ap (λ (i : IfaceId). c.loop-change.back.items ++ record { end = x.end; row = x.row; to = i } ∷ []) (get_or_read old x.end c.index.result.now lt c.index.ensures (record { 0 = 0 })) in
    record {
      plugs = made ∙ ap (λ (l : List IfaceId). set l x.end x.to) inv.plugs ∙ sym (remade_more c.args.plugs.now.items cs k none c.loop-change-test.true);
      plugged = ap (λ (l : List IfaceId). length l) made ∙ length-set old x.end x.to ∙ inv.plugged;
      in_lab = subst (λ (l : List IfaceId). All (λ i. i.0 < length lab.ifaces) l) (sym made) (all_set (length lab.ifaces) old x.end x.to inv.in_lab (c.requires.changes.within k none c.loop-change-test.true));
      summed = c.replug.ensures.summed;
      rest = λ none. inv.rest (c.replug.ensures.rest none);
      back = (λ j. reverted (made j) (noted j)) ∙ reverted_more old c.loop-change.back.items x.end x.row x.to (record { 0 = 0 }) ∙ inv.back;
      backward = subst (λ (l : List Change). AreChanges lab w l) (sym noted) (record {
        rows = All-append (λ y. IsRow w y.end y.row) c.loop-change.back.items _ inv.backward.rows (All-cons (λ y. IsRow w y.end y.row) _ [] row (λ j d j_lt. absurd (omega (arith, j_lt))));
        within = All-append (λ y. y.to.0 < length lab.ifaces) c.loop-change.back.items _ inv.backward.within (All-cons (λ y. y.to.0 < length lab.ifaces) _ [] (inv.in_lab x.end (record { 0 = 0 }) lt) (λ j d j_lt. absurd (omega (arith, j_lt))));
      });
    }

pub replug-requires-clause-plugged : goal.replug-requires-clause-plugged
replug-requires-clause-plugged c = c.loop-change.invariant.plugged ∙ c.requires.plugged

pub replug-requires-clause-in_lab : goal.replug-requires-clause-in_lab
replug-requires-clause-in_lab c = c.loop-change.invariant.in_lab

pub replug-requires-clause-table : goal.replug-requires-clause-table
replug-requires-clause-table c = c.requires.table

pub replug-requires-clause-changes : goal.replug-requires-clause-changes
replug-requires-clause-changes c =
    let lab = c.args.lab.now in
    let w = c.args.wiring.now in
    let k = c.loop-change.change-index in
    let row = c.requires.changes.rows k none c.loop-change-test.true in
    let within = c.requires.changes.within k none c.loop-change-test.true in
    record {
      rows = All-cons (λ y. IsRow w y.end y.row) _ [] row (λ j d j_lt. absurd (omega (arith, j_lt)));
      within = All-cons (λ y. y.to.0 < length lab.ifaces) _ [] within (λ j d j_lt. absurd (omega (arith, j_lt)));
    }

pub replug-requires-clause-summed : goal.replug-requires-clause-summed
replug-requires-clause-summed c = c.loop-change.invariant.summed

pub returns-clause-plugs : goal.returns-clause-plugs
returns-clause-plugs c = c.loop-change.invariant.plugs ∙ ap (λ (l : List Change). remade c.args.plugs.now.items l) (take_all c.loop-change.change-index c.args.changes.now c.loop-change-test.false)

pub returns-clause-plugged : goal.returns-clause-plugged
returns-clause-plugged c = c.loop-change.invariant.plugged

pub returns-clause-in_lab : goal.returns-clause-in_lab
returns-clause-in_lab c = c.loop-change.invariant.in_lab

pub returns-clause-summed : goal.returns-clause-summed
returns-clause-summed c = c.loop-change.invariant.summed

pub returns-clause-back : goal.returns-clause-back
returns-clause-back c = c.loop-change.invariant.back

pub returns-clause-backward : goal.returns-clause-backward
returns-clause-backward c = c.loop-change.invariant.backward
