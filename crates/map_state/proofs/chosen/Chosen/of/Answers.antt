use Rattle.std.proofs.Common.{◌≡◌, ℕ, zero, suc, true, length, replicate, get_or, refl, sym, ap, ◌∙◌, true≢false}
use Rattle.std.specs.Prelude.{slice_index_or}
use Rattle.std.proofs.lemmas.List.{length-replicate}
use Rattle.map_state.proofs.chosen.Chosen.of.Goals as goal

-- each node is unserved
all_true : (k n : ℕ) → get_or (replicate k true) n true ≡ true
all_true zero n = refl
all_true (suc k) zero = refl
all_true (suc k) (suc n) = all_true k n

pub returns-clause-chosen : goal.returns-clause-chosen
returns-clause-chosen c =
    let all : c.in_ok-unserved.unserved.items ≡ replicate (length c.args.search.now.mapper.lab.now.nodes) true =
    c.in_ok-unserved.ensures.items_if_clones_equal (λ y e. e) ∙ ap (λ k. replicate k true) (ap length c.nodes.ensures) in
    let unserved : (n : ℕ) → slice_index_or c.in_ok-unserved.unserved.items n true ≡ true = λ n. ap (λ l. get_or l n true) all ∙ all_true _ n in
    record {
      state = c.in_ok-state.ensures.state;
      one_each = ap length all ∙ length-replicate _ true;
      served = λ n e. absurd (true≢false (sym (unserved n) ∙ e));
    }
