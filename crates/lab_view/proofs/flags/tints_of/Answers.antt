use Rattle.std.proofs.Common.{rules, ◌≡◌, ℕ, Bool, cond, List, [], ◌∷◌, ◌++◌, map, ap, sym, ◌∙◌, arith}
use Rattle.std.specs.List.{range_with_len}
use Rattle.std.proofs.lemmas.List.FromFn.{map-range_with_len_more}
use Rattle.lab_view.specs.Flags.{tint_of, are_few, tint_in}
use Rattle.lab_view.proofs.flags.tints_of.Goals as goal

pub loop-machine-preserved : goal.loop-machine-preserved
loop-machine-preserved c =
    let v = c.args.view.now in
    let n = c.loop-machine.machine in
    let pushed : c.push.new.self ≡ c.loop-machine.tints ++ c.tint_by.result ∷ [] = search rules in
    let tint : c.tint_by.result ≡ tint_in v n =
    c.tint_by.ensures ∙ ap (λ (b : Bool). cond b c.loop-machine.count (tint_of n)) c.loop-machine.invariant.few ∙ ap (λ (k : ℕ). cond (are_few v) k (tint_of n)) c.loop-machine.invariant.count in
    record {
      few = c.loop-machine.invariant.few;
      count = c.firsts_up_to-count.ensures;
      tints =
          pushed ∙ ap (λ (l : List ℕ). l ++ c.tint_by.result ∷ []) c.loop-machine.invariant.tints ∙ ap (λ (t : ℕ). map (tint_in v) (range_with_len 0 n) ++ t ∷ []) tint
          ∙ sym (map-range_with_len_more (tint_in v) 0 n n (omega arith));
    }
