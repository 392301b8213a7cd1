-- Items of lists, and words that are put into a list.
use Rattle.std.proofs.Common.{◌≡◌, ◌⊎◌, inr, ℕ, ◌+◌, ◌<◌, ◌≤◌, List, [], ◌∷◌, ◌++◌, length, get_or, drop, refl, sym, ap, subst, ◌∙◌, Result, Ok, Err, IfErr}
use Rattle.std.proofs.lemmas.List.{drop_all, append-nil}
use Rattle.lab_base.specs.declared.fault.Kind.{Kind}
use Rattle.lab_base.specs.declared.fault.Kind.TheVariants as kinds
use Rattle.lab_base.proofs.Lists.{item_at}
use Rattle.tcl_eval.specs.declared.halts.Halt.{Halt}
use Rattle.tcl_eval.specs.declared.halts.Halt.TheVariants.{Fault, Memory}
use Rattle.tcl_eval.specs.Forms.{with_element, listed_on, after_each, joined_by}

-- words one after another
pub joined_none : (ws : List (List ℕ)) → after_each [] ws ≡ joined_by [] ws
joined_none [] = refl
joined_none (w ∷ ws) = refl

pub appended_is : (all value : List ℕ) (ws : List (List ℕ)) (i : ℕ) → length ws ≤ i → all ++ after_each [] (drop i ws) ≡ value ++ after_each [] ws
    → all ≡ value ++ joined_by [] ws
appended_is all value ws i past is =
    let none : after_each [] (drop i ws) ≡ [] = ap (λ (rest : List (List ℕ)). after_each [] rest) (drop_all i ws past) in
    sym (append-nil all) ∙ ap (λ (rest : List ℕ). all ++ rest) (sym none) ∙ is ∙ ap (λ (rest : List ℕ). value ++ rest) (joined_none ws)

-- what a value that is too long ends by
pub long_or : (y : Result (List ℕ) Halt) (v : List ℕ) → IfErr y (λ halt. (halt ≡ Fault kinds.Long) × (65536 < length v))
    → IfErr y (λ halt. (halt ≡ Memory) ⊎ ((halt ≡ Fault kinds.Long) × (65536 < length v)))
long_or (Ok v) w h = tt
long_or (Err e) w h = inr h

pub failed_on : (k : Kind) (ws : List (List ℕ)) → listed_on (Err k) ws ≡ Err k
failed_on k [] = refl
failed_on k (w ∷ ws) = refl

-- a word that can't be put into the list
pub listed_fails : (list : List ℕ) (ws : List (List ℕ)) (i : ℕ) (w : List ℕ) (k : Kind) → i < length ws → w ≡ get_or ws i w
    → Err k ≡ with_element list w → Err k ≡ listed_on (Ok list) (drop i ws)
listed_fails list ws i w k here is e =
    let next : drop i ws ≡ w ∷ drop (i + 1) ws = item_at ws i w here is in
    let fails : Err k ≡ listed_on (Ok list) (w ∷ drop (i + 1) ws) =
    subst (λ (r : Result (List ℕ) Kind). Err k ≡ listed_on r (drop (i + 1) ws)) e (sym (failed_on k (drop (i + 1) ws))) in
    fails ∙ ap (λ (xs : List (List ℕ)). listed_on (Ok list) xs) (sym next)
