use Rattle.std.proofs.Common.{◌≡◌, ℕ, suc, ◌-◌, ◌<◌, length, take, sym, ap, ◌∙◌, subst, arith}
use Rattle.std.proofs.lemmas.Bool.{false≢true}
use Rattle.journal_rec.specs.declared.record.Found.{Found}
use Rattle.lab_state.specs.Replays.{records_of}
use Rattle.lab_look.specs.Beside.{is_end, IsBegunBy}
use Rattle.lab_look.proofs.Beginning.{Tried, begun_at, lost_at, none_before, none_behind, tried_next}
use Rattle.lab_look.proofs.Ends.{has_front}
use Rattle.lab_look.proofs.beside.begun_or_lost.Goals.{then-count-eq0-via-then-count-eq0, then-count-eq0-via-else-count-eq0+then-not-is_end}
use Rattle.lab_look.proofs.beside.begun_or_lost.Goals as goal

pub is_begun_by-requires : goal.is_begun_by-requires
is_begun_by-requires c = λ f h. c.requires.records f (has_front c.args.found.now c.fronts.count f h)

pub returns-then-branch : goal.returns-then-branch
returns-then-branch c =
    begun_at c.args.live.now c.args.other.now c.args.found.now c.fronts.count c.requires.ahead c.fronts.invariant (c.in_ok-is_begun_by.ensures.0 c.if-branch.true)

pub returns-then-count-eq0 : goal.returns-then-count-eq0
returns-then-count-eq0 c =
    let fs = c.args.found.now in
    let count = c.fronts.count in
    let never : IsBegunBy c.args.live.now c.args.other.now (records_of (take count fs)) → ⊥ = λ by. false≢true (sym c.if-branch.false ∙ c.in_ok-is_begun_by.ensures.1 by) in
    let lost = lost_at c.args.live.now c.args.other.now fs count c.requires.ahead c.fronts.invariant never in
    elim c.then-count-eq0.branch [
      | then-count-eq0-via-then-count-eq0 w ↦ lost (none_before fs count w.if-count-eq0.true)
      | then-count-eq0-via-else-count-eq0+then-not-is_end w ↦
          let f = w.index-found-count.result in
          let inside : count - 1 < length fs = omega (arith, w.if-count-eq0.false, c.fronts.invariant.within) in
          lost (λ n less all. none_behind fs (count - 1) f inside w.index-found-count.is (ap (λ (x : Found). is_end x.entry) w.index-found-count.is ∙ sym w.is_end.ensures ∙ w.if-not-is_end.true) n (omega (arith, less)) all)
    ]

pub fronts-preserved : goal.fronts-preserved
fronts-preserved c =
    let live = c.args.live.now in
    let other = c.args.other.now in
    let fs = c.args.found.now in
    let count = c.fronts.count in
    let step : count ≡ suc (count - 1) = omega (arith, c.if-count-eq0.false) in
    let never : IsBegunBy live other (records_of (take (suc (count - 1)) fs)) → ⊥ =
    λ by. false≢true (sym c.if-branch.false ∙ c.in_ok-is_begun_by.ensures.1 (subst (λ (n : ℕ). IsBegunBy live other (records_of (take n fs))) (sym step) by)) in
    tried_next live other fs (count - 1) c.index-found-count.result c.index-found-count.is (ap (λ (x : Found). is_end x.entry) c.index-found-count.is ∙ sym c.is_end.ensures ∙ c.if-not-is_end.false) never
    (subst (λ (n : ℕ). Tried live other fs n) step c.fronts.invariant)
