use Rattle.std.proofs.Common.{◌∙◌, List, ℕ, []}
use Rattle.lab_gen.proofs.Counting.{grown, summary_is}
use Rattle.lab_gen.proofs.tally.Tally.summary.Goals as goal

pub returns : goal.returns
returns c = λ replies is.
    let none : List ℕ = [] in
    let a = grown _ _ none _ c.new-text.ensures c.in_ok-push_count.ensures in
    let b = grown _ _ _ _ a c.in_ok-push_count-2.ensures in
    let d = grown _ _ _ _ b c.in_ok-push_count-3.ensures in
    let e = grown _ _ _ _ d c.in_ok-push_count-4.ensures in
    let f = grown _ _ _ _ e c.in_ok-push_count-5.ensures in
    let g = grown _ _ _ _ f c.in_ok-push_count-6.ensures in
    let h = grown _ _ _ _ g c.in_ok-push_count-7.ensures in
    grown _ _ _ _ h c.in_ok-push_count-8.ensures ∙ summary_is c.args.seed c.args.self.now replies is
