use Rattle.std.proofs.Common.{◌≡◌, ◌+◌, ◌*◌, ◌∙◌, inl, inr, ℕ, get_or, sym, subst, arith, get_or-set_same}
use Rattle.std.proofs.lemmas.List.{get_or_default, get_or-set_other}
use Rattle.trunk_sums.specs.declared.gains.Gains.{Gains}
use Rattle.trunk_sums.specs.Gains.{IsGain, no_gains}
use Rattle.trunk_sums.proofs.sums.Sums.mark_moved.Goals as goal

pub returns-then-is_link-clause-own : goal.returns-then-is_link-clause-own
returns-then-is_link-clause-own c = λ k t lt known k_le on_le from_le moved crossed.
    let row = c.args.row in
    let x = c.args.self.now in
    let g : Gains = c.index.result.now in
    let after : Gains = c.of_link.result in
    let on = get_or x.counts.items (64 * row.segment + t) 0 in
    let two : ◌≡◌ {A = ℕ} row.ends 2 = c.is_link.ensures c.if-is_link.true in
    let read : g ≡ get_or x.gains.items row.segment no_gains = c.index.ensures ∙ get_or_default x.gains.items row.segment g no_gains c.requires.row in
    let before : IsGain 2 k t g = subst (λ (y : Gains). IsGain 2 k t y) (sym read) (subst (λ (m : ℕ). IsGain m k t (get_or x.gains.items row.segment no_gains)) two known) in
    let own : IsGain row.ends on t after = subst (λ (m : ℕ). IsGain m on t after) (sym two) (c.of_link.ensures k on t before (omega (arith, k_le, two)) (omega (arith, on_le, two)) from_le moved) in
    subst (λ (y : Gains). IsGain row.ends on t y) (sym (get_or-set_same x.gains.items row.segment after no_gains c.requires.row)) own

pub returns-then-is_link-clause-others : goal.returns-then-is_link-clause-others
returns-then-is_link-clause-others c = λ s apart. get_or-set_other c.args.self.now.gains.items c.args.row.segment s c.of_link.result no_gains apart

pub returns-clause-own : goal.returns-clause-own
returns-clause-own c = λ k t lt known k_le on_le from_le moved crossed.
    let row = c.args.row in
    let x = c.args.self.now in
    c.mark.ensures.own t lt (elim crossed [
      | inl same ↦ inl (subst (λ (n : ℕ). IsGain row.ends n t (get_or x.gains.items row.segment no_gains)) (sym same) known)
      | inr some ↦ inr some
    ])
