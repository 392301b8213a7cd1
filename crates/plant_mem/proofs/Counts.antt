-- Numbers without a pipe.
use Rattle.std.proofs.Common.{◌≡◌, ℕ, zero, suc, ◌+◌, ◌≤◌, Option, None, ap, ◌∙◌, arith, if◌then◌else◌}
use Rattle.std.specs.Prelude.{is_some}
use Rattle.plant_mem.specs.Knows.{pipes_below}
use Rattle.plant.specs.Worlds.{PipeRow}

-- numbers without a pipe don't count
pub none_above : (more n : ℕ) (pipes : ℕ → Option PipeRow) → ((k : ℕ) → n ≤ k → pipes k ≡ None) → pipes_below (more + n) pipes ≡ pipes_below n pipes
none_above zero n pipes none = let start : 0 + n ≡ n = omega arith in ap (λ (k : ℕ). pipes_below k pipes) start
none_above (suc more) n pipes none =
    let next : suc more + n ≡ suc (more + n) = omega arith in
    let last : pipes_below (suc (more + n)) pipes ≡ pipes_below (more + n) pipes + 0 = ap (λ (o : Option PipeRow). pipes_below (more + n) pipes + (if is_some o then 1 else 0)) (none (more + n) (omega arith)) in
    let stays : pipes_below (more + n) pipes + 0 ≡ pipes_below (more + n) pipes = omega arith in
    ap (λ (k : ℕ). pipes_below k pipes) next ∙ last ∙ stays ∙ none_above more n pipes none
