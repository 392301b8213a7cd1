use Rattle.std.proofs.Common.{◌∙◌, sym, ap, subst, rules, Ok}
use Rattle.swap_txn.specs.States.{Progress, stage_of}
use Rattle.swap_txn.specs.Views.{left_of, IsSeenBy}
use Rattle.swap_txn.proofs.Watching.{send_up, send_again, send_err, watch_polled}
use Rattle.swap_txn.proofs.sending.Sending.see.Goals as goal

pub returns-in-Ok-true-clause-goes : goal.returns-in-Ok-true-clause-goes
returns-in-Ok-true-clause-goes c =
    let i = c.self.inside in
    let old = c.args.self.now.left in
    let e = c.see.ensures in
    let w = c.in-Some.watched in
    let boots = ap (λ (v : Progress). stage_of v.plan old) c.self.view_is ∙ c.requires.boots in
    let some = sym c.take.ensures.value ∙ c.in-Some.is in
    let up = c.in-Ok-true.is ∙ ap (λ x. Ok x) c.in-Ok-true.field-0-test in
    let seen = watch_polled w c.see.new.self c.args.state c.see.result (search rules) e.told e.node e.last e.polls e.anew in
    send_up i.commands i.stage i.at i.watched old w c.see.new.self c.args.state c.self.invariant (ap (λ (v : Progress). v.left) c.self.view_is) boots some
    (subst (λ r. IsSeenBy w c.args.state r c.see.new.self) up seen) _ (ap (λ w. left_of i.commands c.from_node-self-inside.result i.at w) c.take.ensures.after ∙ c.from_node-self-inside.ensures.left)

pub returns-in-Ok-false-clause-goes : goal.returns-in-Ok-false-clause-goes
returns-in-Ok-false-clause-goes c =
    let i = c.self.inside in
    let old = c.args.self.now.left in
    let e = c.see.ensures in
    let w = c.in-Some.watched in
    let boots = ap (λ (v : Progress). stage_of v.plan old) c.self.view_is ∙ c.requires.boots in
    let some = sym c.take.ensures.value ∙ c.in-Some.is in
    let again = c.in-Ok-false.is ∙ ap (λ x. Ok x) c.in-Ok-false.field-0-test in
    let seen = watch_polled w c.see.new.self c.args.state c.see.result (search rules) e.told e.node e.last e.polls e.anew in
    send_again i.commands i.stage i.at i.watched old w c.see.new.self c.args.state c.self.invariant (ap (λ (v : Progress). v.left) c.self.view_is) boots some
    (subst (λ r. IsSeenBy w c.args.state r c.see.new.self) again seen)

pub returns-in-Err-clause-goes : goal.returns-in-Err-clause-goes
returns-in-Err-clause-goes c =
    let i = c.self.inside in
    let old = c.args.self.now.left in
    let e = c.see.ensures in
    let w = c.in-Some.watched in
    let boots = ap (λ (v : Progress). stage_of v.plan old) c.self.view_is ∙ c.requires.boots in
    let some = sym c.take.ensures.value ∙ c.in-Some.is in
    let seen = watch_polled w c.see.new.self c.args.state c.see.result (search rules) e.told e.node e.last e.polls e.anew in
    send_err i.commands i.stage i.at i.watched old w c.see.new.self c.args.state c.self.invariant (ap (λ (v : Progress). v.left) c.self.view_is) boots some
    c.in-Err.what (subst (λ r. IsSeenBy w c.args.state r c.see.new.self) c.in-Err.is seen)
