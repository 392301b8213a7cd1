use Rattle.std.proofs.Common.{◌≡◌, ◌<◌, ◌∙◌, ℕ, Bool, cond, inl, inr, length, ap, sym, subst, arith}
use Rattle.std.specs.Int.{bit_at}
use Rattle.std.proofs.lemmas.Bool.{cases_lt}
use Rattle.std.proofs.lemmas.Nat.Bits.{bit_at-zero}
use Rattle.phys_lab.proofs.TrunkCount.{few_trunks}
use Rattle.trunk_sums.specs.Between.{on_side}
use Rattle.trunk_sums.proofs.table.sides_at.Goals as goal

pub overflow_cast-trunk : goal.overflow_cast-trunk
overflow_cast-trunk c = omega (arith, few_trunks c.args.lab.now c.range-kept.ensures.lab, c.loop-number-test.true, ap length c.trunks-number-end.ensures.list)

pub with_bit-sides-requires : goal.with_bit-sides-requires
with_bit-sides-requires c = omega (arith, few_trunks c.args.lab.now c.range-kept.ensures.lab, c.loop-number-test.true, ap length c.trunks-number-end.ensures.list)

pub loop-number-init : goal.loop-number-init
loop-number-init c = record {
  each = λ t lt. absurd (omega (arith, lt));
  none = λ t from lt. bit_at-zero t;
}

pub loop-number-preserved : goal.loop-number-preserved
loop-number-preserved c =
    let few = few_trunks c.args.lab.now c.range-kept.ensures.lab in
    let n = c.loop-number.number in
    let word = c.with_bit-sides.result in
    let inv = c.loop-number.invariant in
    let here : n < 64 = omega (arith, few, c.loop-number-test.true, ap length c.trunks-number-end.ensures.list) in
    let own : bit_at word n ≡ on_side c.args.lab.now n c.args.switch.0 = c.with_bit-sides.ensures.own ∙ ap (λ (b : Bool). cond b 1 0) c.side.ensures.test in
    record {
      each = λ t lt. elim (cases_lt t n) [
        | inl below ↦ c.with_bit-sides.ensures.others t (omega (arith, below, here)) (λ e. absurd (omega (arith, e, below))) ∙ inv.each t below
        | inr above ↦ (let same : t ≡ n = omega (arith, above, lt) in subst (λ (k : ℕ). bit_at word k ≡ on_side c.args.lab.now k c.args.switch.0) (sym same) own)
      ];
      none = λ t from lt. c.with_bit-sides.ensures.others t lt (λ e. absurd (omega (arith, e, from))) ∙ inv.none t (omega (arith, from)) lt;
    }
