-- Virtual nodes that must have one type.
use Rattle.std.proofs.Common.{◌≡◌, ◌<◌, ◌+◌, ◌∙◌, ◌∷◌, ◌++◌, [], ℕ, zero, suc, List, length, get_or, true, false, All, ap, sym, arith, below_more}
use Rattle.std.proofs.lemmas.Bool.{cond-true, cond-false}
use Rattle.std.proofs.lemmas.List.Elements.{All-cons}
use Rattle.virt_topo.specs.declared.wiring.VirtNode.{VirtNode}
use Rattle.virt_topo.specs.declared.wiring.Wiring.{Wiring}
use Rattle.virt_topo.specs.Wirings.{no_virt}
use Rattle.lab_model.specs.Shapes.{Place}
use Rattle.lab_model.specs.Rules.{first_type, is_member, no_place}
use Rattle.lab_model.specs.Feasible.{AllPass}
use Rattle.node_maps.specs.Moved.{has_class_type}
use Rattle.map_state.specs.declared.ties.Tie.{Tie}
use Rattle.map_state.specs.Ties.{IsTie, have_one_type}

-- the type of a class's first member
pub first_at : (c : ℕ) (vs : List VirtNode) (places : List Place) (n : ℕ) → n < length vs → length places ≡ length vs → ((k : ℕ) → k < n → is_member c (get_or vs k no_virt).asks ≡ false)
    → is_member c (get_or vs n no_virt).asks ≡ true → first_type c vs places ≡ (get_or places n no_place).1
first_at c [] places n lt count none is = absurd (omega (arith, lt))
first_at c (v ∷ vs) [] n lt count none is = absurd (omega (arith, count))
first_at c (v ∷ vs) (p ∷ places) zero lt count none is = cond-true (is_member c v.asks) p.1 (first_type c vs places) is
first_at c (v ∷ vs) (p ∷ places) (suc n) lt count none is =
    cond-false (is_member c v.asks) p.1 (first_type c vs places) (none 0 (omega arith))
    ∙ first_at c vs places n (omega (arith, lt)) (omega (arith, count)) (λ k k_lt. none (suc k) (omega (arith, k_lt))) is

-- each of these, and the last one
front : {X : Type 0} (On : X → Type 0) (xs : List X) (x : X) → All On (xs ++ x ∷ []) → All On xs
front On [] x all = λ k d lt. absurd (omega (arith, lt))
front On (y ∷ xs) x all = All-cons On y xs (all 0 y (omega arith)) (front On xs x (λ k d lt. all (suc k) d (omega (arith, lt))))

last : {X : Type 0} (On : X → Type 0) (xs : List X) (x : X) → All On (xs ++ x ∷ []) → On x
last On [] x all = all 0 x (omega arith)
last On (y ∷ xs) x all = last On xs x (λ k d lt. all (suc k) d (omega (arith, lt)))

-- the ties of one virtual node more
pub tied_more : (w : Wiring) (ties : List Tie) (t : Tie) (v : ℕ) → IsTie w t → t.member ≡ v
    → ((places : List Place) → length places ≡ length w.nodes → All (λ (s : Tie). have_one_type places s ≡ true) ties → AllPass v (has_class_type w places))
    → (places : List Place) → length places ≡ length w.nodes → All (λ (s : Tie). have_one_type places s ≡ true) (ties ++ t ∷ []) → AllPass (v + 1) (has_class_type w places)
tied_more w ties t v tie is before places count all =
    let on = λ (s : Tie). have_one_type places s ≡ true in
    below_more _ _ (before places count (front on ties t all)) (ap (λ (k : ℕ). has_class_type w places k) (sym is) ∙ tie.typed places count ∙ last on ties t all)
