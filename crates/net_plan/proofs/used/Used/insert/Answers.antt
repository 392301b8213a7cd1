use Rattle.std.proofs.Common.{◌≡◌, ℕ, Bool, List, [], ◌∷◌, eqb, true, false, cond, refl, sym, ap, ◌∙◌, arith}
use Rattle.std.specs.Prelude.{◌||◌, nat_eq}
use Rattle.std.specs.List.{list_any}
use Rattle.std.specs.Ordering.{nat_cmp, is_eq}
use Rattle.std.specs.BTreeMap.{is_at}
use Rattle.std.proofs.lemmas.Grind.{common_steps}
use Rattle.net_plan.specs.Addresses.{uses, taken}
use Rattle.net_plan.proofs.used.Used.insert.Goals as goal

same_test : (a b : ℕ) → is_eq (nat_cmp a b) ≡ nat_eq a b
same_test a b = grind (arith, common_steps)

same_any : (a : ℕ) (keys : List ℕ) → list_any (is_at (nat_cmp a)) keys ≡ uses keys a
same_any a [] = refl
same_any a (k ∷ keys) = λ i. same_test a k i || same_any a keys i

one_or : (a b : Bool) → cond a true b ≡ (a || b)
one_or a b = elim a as (λ v. cond v true b ≡ (v || b)) [ true ↦ refl | false ↦ refl ]

pub returns-clause-used : goal.returns-clause-used
returns-clause-used c =
    let more = c.in_ok-free.ensures.updates in
    let at : (q : ℕ) → uses c.insert.new.self.keys q ≡ taken (uses c.args.self.now) c.args.address q =
    λ q. sym (same_any q c.insert.new.self.keys) ∙ more.0 q ∙ (λ i. cond (same_test c.args.address q i) true (same_any q c.self.inside.addresses.keys i)) ∙ one_or (eqb c.args.address q) (uses c.self.inside.addresses.keys q) ∙ ap (λ (l : List ℕ). taken (uses l) c.args.address q) c.self.view_is in
    λ i q. at q i
