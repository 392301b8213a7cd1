use Rattle.std.proofs.Common.{◌≡◌, ◌<◌, ◌++◌, List, ap, sym, subst, ◌∙◌, arith, length, take}
use Rattle.std.proofs.lemmas.List.{take_all}
use Rattle.lab_audit.specs.declared.wanted.Wanted.{Wanted}
use Rattle.lab_audit.specs.Lines.{AreAllWanted}
use Rattle.lab_audit.specs.Wants.{all_wanted, wanted_by}
use Rattle.lab_audit.proofs.AllWanted.{are_all, wanted_more}
use Rattle.lab_audit.proofs.Owners.{some_at}
use Rattle.lab_audit.proofs.gather.wanted_of.Goals as goal

pub loop-number-preserved : goal.loop-number-preserved
loop-number-preserved c =
    let lab = c.args.lab.now in
    let es = c.args.state.now.state.experiments in
    let n = c.loop-number.number in
    let lt : n < length es = omega arith in
    let e = some_at es n lt in
    c.in_ok-push_nth.ensures e.0 e.1 ∙ ap (λ (l : List Wanted). l ++ wanted_by lab e.0) c.loop-number.invariant ∙ sym (wanted_more lab es n e.0 e.1)

pub returns : goal.returns
returns c =
    let lab = c.args.lab.now in
    let es = c.args.state.now.state.experiments in
    let all : take c.loop-number.number es ≡ es = take_all c.loop-number.number es (omega arith) in
    subst (λ (l : List Wanted). AreAllWanted lab es l) (sym (c.loop-number.invariant ∙ ap (all_wanted lab) all)) (are_all lab es)
