use Rattle.std.proofs.Common.{◌≡◌, ◌<◌, ◌+◌, ◌++◌, ◌∷◌, ◌∙◌, inl, inr, ℕ, Bool, List, [], length, get_or, ap, sym, subst, arith}
use Rattle.std.proofs.lemmas.Bool.{cases_eq}
use Rattle.std.proofs.lemmas.List.{get_or_append_left, get_or_push, length_push}
use Rattle.lab_model.specs.Shapes.{Place}
use Rattle.map_anneal.specs.Sought.{candidates_at}
use Rattle.map_anneal.specs.Searches.{sought_of}
use Rattle.map_anneal.specs.RuledOut.{IsRow}
use Rattle.map_anneal.proofs.RowLaws.{fresh_row}
use Rattle.map_anneal.proofs.known.fresh_rows.Goals as goal

-- one row more
one_pushed : (P : ℕ → List Bool → Type 0) (rows : List (List Bool)) (virt : ℕ) (new : List Bool) → length rows ≡ virt → ((v : ℕ) → v < virt → P v (get_or rows v [])) → P virt new
    → (v : ℕ) → v < virt + 1 → P v (get_or (rows ++ new ∷ []) v [])
one_pushed P rows virt new count done here v less = elim (cases_eq v virt) [
  | inl is ↦ subst (λ (k : ℕ). P k (get_or (rows ++ new ∷ []) k [])) (sym is) (subst (P virt) (sym (get_or_push rows new [] virt count)) here)
  | inr apart ↦ subst (P v) (sym (get_or_append_left rows (new ∷ []) [] v (omega (arith, less, apart, count)))) (done v (omega (arith, less, apart)))
]

pub loop-virt-preserved : goal.loop-virt-preserved
loop-virt-preserved g c =
    let s = sought_of c.args.search.now c.args._rule.now.number in
    let m = c.args._start.now in
    let v = c.loop-virt.virt in
    let was = c.loop-virt.invariant in
    let rows = c.loop-virt.rows.items in
    let new = c.in_ok-row.row in
    let count : ◌≡◌ {A = ℕ} c.count.result (length (candidates_at s v)) = c.count.ensures ∙ ap (λ (l : List (List Place)). length (get_or l v [])) c.requires.listed in
    let is : IsRow s m v new = subst (IsRow s m v) (sym c.in_ok-row.ensures) (fresh_row s m v c.count.result count) in
    let pushed = c.in_ok-push.ensures.items in
    record {
      count = ap (λ (l : List (List Bool)). length l) pushed ∙ length_push rows new ∙ ap (λ (n : ℕ). n + 1) was.count;
      each = subst (λ (l : List (List Bool)). (k : ℕ) → k < v + 1 → IsRow s m k (get_or l k [])) (sym pushed) (one_pushed (λ k r. IsRow s m k r) rows v new was.count was.each is);
    }
