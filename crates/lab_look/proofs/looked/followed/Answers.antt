use Rattle.std.proofs.Common.{◌≡◌, Some, List, length, map, subst, ap, arith}
use Rattle.std.specs.Prelude.{slice_get}
use Rattle.lab_base.specs.Lists.{Has}
use Rattle.journal_rec.specs.declared.record.Found.{Found}
use Rattle.records_model.specs.Labs.{at_first, StopsAt, LabOf}
use Rattle.lab_state.specs.Texts.{the_texts}
use Rattle.lab_state.specs.Replays.{records_of}
use Rattle.lab_look.proofs.Looking.{are_records, has_lab, wrong_within, has_wrong}
use Rattle.lab_look.proofs.looked.followed.Goals as goal

pub replay-requires : goal.replay-requires
replay-requires c = λ f h. are_records c.args.a.now c.args.b.now c.args.side c.args.walked c.requires.0 c.requires.1 f (subst (λ (l : List Found). Has l f) c.as_slice.ensures h)

pub returns-in-Ok : goal.returns-in-Ok
returns-in-Ok c =
    has_lab c.args.a.now c.args.b.now c.args.side c.args.walked c.requires.0 c.in-Ok.state.state c.requires.1 (subst (λ (l : List Found). LabOf the_texts (records_of l) c.in-Ok.state.state) c.as_slice.ensures c.in-Ok.ensures.ok)

pub gate_of-at-requires : goal.gate_of-at-requires
gate_of-at-requires c =
    let stops = rw c.in-Err-Bad.field-0-is at c.in-Err-Bad.ensures.bad in
    let here = subst (λ (l : List Found). StopsAt the_texts at_first (records_of l) c.in-Err-Bad.index) c.as_slice.ensures stops in
    omega (arith, wrong_within c.args.a.now c.args.b.now c.args.side c.args.walked c.requires.0 c.in-Err-Bad.index c.requires.1 here, ap length c.as_slice-in-Err-Bad.ensures)

pub returns-in-Err-Bad : goal.returns-in-Err-Bad
returns-in-Err-Bad c =
    let stops = rw c.in-Err-Bad.field-0-is at c.in-Err-Bad.ensures.bad in
    let here = subst (λ (l : List Found). StopsAt the_texts at_first (records_of l) c.in-Err-Bad.index) c.as_slice.ensures stops in
    let place = subst (λ (l : List Found). slice_get (map (λ (f : Found). f.at) l) c.in-Err-Bad.index ≡ Some c.gate_of-at.result) c.as_slice-in-Err-Bad.ensures c.gate_of-at.ensures in
    has_wrong c.args.a.now c.args.b.now c.args.side c.args.walked c.requires.0 c.in-Err-Bad.index c.gate_of-at.result c.requires.1 here place
