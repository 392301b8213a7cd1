use Rattle.std.proofs.Common.{rules, ◌≡◌, ◌+◌, ◌∷◌, [], ◌++◌, ◌∙◌, List, length, get_or, ap, sym, arith}
use Rattle.std.proofs.lemmas.List.FromFn.{map-range_with_len_more, length-map-range_with_len, get_or-map-range_with_len}
use Rattle.lab_picture.specs.declared.geometry.Bounds.{Bounds}
use Rattle.lab_layout.specs.Laid.{stacked, all_stacked}
use Rattle.lab_layout.proofs.apart.column.Goals as goal

pub loop-number-preserved : goal.loop-number-preserved
loop-number-preserved c =
    let n = c.loop-number.number in
    let pushed : c.push.new.self ≡ c.loop-number.cells ++ stacked n ∷ [] = search rules in
    let whole : c.push.new.self ≡ all_stacked (n + 1) =
    pushed ∙ ap (λ (l : List Bounds). l ++ stacked n ∷ []) c.loop-number.invariant.cells ∙ sym (map-range_with_len_more stacked 0 n n (omega arith)) in
    record {
      len = ap (λ (l : List Bounds). length l) whole ∙ length-map-range_with_len stacked 0 (n + 1);
      cells = whole;
      at = λ k d within. ap (λ (l : List Bounds). get_or l k d) whole ∙ get_or-map-range_with_len stacked 0 (n + 1) k k d within (omega arith);
    }
