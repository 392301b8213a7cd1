use Rattle.std.proofs.Common.{◌≡◌, ◌++◌, ◌∷◌, [], take, map, ap, sym, ◌∙◌, arith}
use Rattle.std.proofs.lemmas.List.{map-append, take_all}
use Rattle.lab_base.proofs.Members.{Has-slice_get}
use Rattle.lab_base.proofs.Lists.{length_past}
use Rattle.lab_look.specs.Seen.{exp_of}
use Rattle.lab_look.proofs.Firsts.{take_at_place}
use Rattle.lab_look.proofs.Sums.{few_ids}
use Rattle.lab_look.proofs.seen.exps_of.Goals as goal

pub exp_of-requires-clause-ids : goal.exp_of-requires-clause-ids
exp_of-requires-clause-ids c =
    let es = c.args.state.now.state.experiments in
    omega (arith, few_ids c.args.state.now.state c.in-Some.own.now c.requires.sane (Has-slice_get es c.loop-number.number c.in-Some.own.now (sym c.in-Some.ensures)))

pub loop-number-preserved : goal.loop-number-preserved
loop-number-preserved c =
    let es = c.args.state.now.state.experiments in
    let number = c.loop-number.number in
    let f = exp_of c.args.lab.now in
    let pushed : c.push.new.self ≡ c.loop-number.exps ++ c.exp_of.result ∷ [] = c.in_ok-push-in-Some.ensures.ok in
    pushed ∙ (λ i. c.loop-number.invariant i ++ c.exp_of.ensures i ∷ []) ∙ sym (ap (map f) (take_at_place es number c.in-Some.own.now (sym c.in-Some.ensures)) ∙ map-append f (take number es) (c.in-Some.own.now ∷ []))

pub returns-in-None : goal.returns-in-None
returns-in-None c =
    let es = c.args.state.now.state.experiments in
    c.loop-number.invariant ∙ ap (map (exp_of c.args.lab.now)) (take_all c.loop-number.number es (length_past es c.loop-number.number (sym c.in-None.ensures)))
