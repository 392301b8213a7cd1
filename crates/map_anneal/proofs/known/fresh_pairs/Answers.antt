use Rattle.std.proofs.Common.{◌≡◌, ◌<◌, ◌+◌, ◌++◌, ◌∷◌, ◌∙◌, inl, inr, ℕ, Bool, List, [], length, get_or, ap, sym, subst, arith}
use Rattle.std.proofs.lemmas.Bool.{cases_eq}
use Rattle.std.proofs.lemmas.List.{get_or_append_left, get_or_push, length_push}
use Rattle.lab_model.specs.Shapes.{Place}
use Rattle.map_anneal.specs.Searches.{sought_of}
use Rattle.map_anneal.specs.RuledOut.{IsPairs}
use Rattle.map_anneal.proofs.PairLaws.{fresh_pairs}
use Rattle.map_anneal.proofs.known.fresh_pairs.Goals as goal

-- one row more
one_pushed : (P : ℕ → List Bool → Type 0) (rows : List (List Bool)) (virt : ℕ) (new : List Bool) → length rows ≡ virt → ((v : ℕ) → v < virt → P v (get_or rows v [])) → P virt new
    → (v : ℕ) → v < virt + 1 → P v (get_or (rows ++ new ∷ []) v [])
one_pushed P rows virt new count done here v less = elim (cases_eq v virt) [
  | inl is ↦ subst (λ (k : ℕ). P k (get_or (rows ++ new ∷ []) k [])) (sym is) (subst (P virt) (sym (get_or_push rows new [] virt count)) here)
  | inr apart ↦ subst (P v) (sym (get_or_append_left rows (new ∷ []) [] v (omega (arith, less, apart, count)))) (done v (omega (arith, less, apart)))
]

pub loop-virt-preserved : goal.loop-virt-preserved
loop-virt-preserved g c =
    let s = sought_of c.args.search.now c.args._rule.now.number in
    let m = c.args._start.now in
    let v = c.loop-virt._virt in
    let was = c.loop-virt.invariant in
    let rows = c.loop-virt.pairs.items in
    let new = c.in_ok-fresh.fresh in
    let all = c.len-count.ensures ∙ ap (λ (l : List (List Place)). length l) c.requires.listed in
    let is : IsPairs s m v new = subst (IsPairs s m v) (sym c.in_ok-fresh.ensures) (fresh_pairs s m v c.len-count.result all) in
    let pushed = c.in_ok-push.ensures.items in
    record {
      count = ap (λ (l : List (List Bool)). length l) pushed ∙ length_push rows new ∙ ap (λ (n : ℕ). n + 1) was.count;
      each = subst (λ (l : List (List Bool)). (k : ℕ) → k < v + 1 → IsPairs s m k (get_or l k [])) (sym pushed) (one_pushed (λ k r. IsPairs s m k r) rows v new was.count was.each is);
    }
