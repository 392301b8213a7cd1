use Rattle.std.proofs.Common.{◌≡◌, ◌<◌, ◌∙◌, ◌+◌, ◌++◌, ◌∷◌, [], inl, inr, ℕ, List, length, get_or, ap, sym, arith}
use Rattle.std.proofs.lemmas.Bool.{cases_lt}
use Rattle.std.proofs.lemmas.List.{get_or_push, get_or_append_left, length_push}
use Rattle.trunk_sums.specs.Summed.{used}
use Rattle.trunk_sums.proofs.start.uses_of.Goals as goal

-- one use more
more : (f : ℕ → ℕ) (uses : List ℕ) (k x : ℕ) → length uses ≡ k → ((t : ℕ) → t < k → get_or uses t 0 ≡ f t) → x ≡ f k → (t : ℕ) → t < k + 1 → get_or (uses ++ x ∷ []) t 0 ≡ f t
more f uses k x count each is t lt = elim (cases_lt t k) [
  | inl below ↦ get_or_append_left uses (x ∷ []) 0 t (omega (arith, below, count)) ∙ each t below
  | inr above ↦ (let here : t ≡ k = omega (arith, above, lt) in get_or_push uses x 0 t (count ∙ sym here) ∙ is ∙ ap f (sym here))
]

pub loop-trunk-preserved : goal.loop-trunk-preserved
loop-trunk-preserved c =
    let uses = c.loop-trunk.uses.items in
    let f : ℕ → ℕ = used c.args.lab.now c.args.wiring.now c.args.mapping.now.plugs in
    record {
      one_each = ap length c.in_ok-push.ensures.items ∙ length_push uses c.use_of.result ∙ ap (λ (n : ℕ). n + 1) c.loop-trunk.invariant.one_each;
      each = λ t lt. ap (λ (l : List ℕ). get_or l t 0) c.in_ok-push.ensures.items ∙ more f uses c.loop-trunk.trunk c.use_of.result c.loop-trunk.invariant.one_each c.loop-trunk.invariant.each c.use_of.ensures t lt;
    }
