-- The step of a loop over numbers that adds a text for each.
use Rattle.std.specs.List.{flat_map, range_with_len}
use Rattle.std.proofs.Common.{◌≡◌, ℕ, ◌+◌, List, [], ◌++◌, ap, sym, ◌∙◌}
use Rattle.std.proofs.lemmas.List.{flat_map_more}
use Rattle.lab_base.proofs.Lists.{range_push}

-- one number more
pub counted_more : (f : ℕ → List (List ℕ)) (n : ℕ) → flat_map f (range_with_len 0 (n + 1)) ≡ flat_map f (range_with_len 0 n) ++ f n
counted_more f n = ap (λ (xs : List ℕ). flat_map f xs) (range_push n) ∙ sym (flat_map_more f [] (range_with_len 0 n) n)
