-- Trunks stay a forest when one is added whose switches are apart, and the front of a forest is one.
use Rattle.std.proofs.Common.{◌≡◌, ℕ, zero, suc, ◌<◌, Bool, true, false, ◌||◌, ◌&&◌, List, [], ◌∷◌, ◌++◌, length, remove, refl, sym, ap, subst, ◌∙◌, arith, inl, inr, true≢false, length-append}
use Rattle.std.proofs.lemmas.Bool.{or_cases, and_parts, cases_lt}
use Rattle.std.proofs.lemmas.List.{append-nil, get_or_append_left}
use Rattle.lab_base.specs.Lists.{Has}
use Rattle.lab_base.proofs.Members.{Has-left}
use Rattle.phys_lab.specs.declared.parts.Trunk.{Trunk}
use Rattle.phys_lab.specs.Sides.{joined, no_trunk, trunk_at, on_first_side, IsForest}
use Rattle.phys_lab.proofs.SideLaws.{joined_through, joined_back, trunk_joins}
use Rattle.phys_lab.proofs.ForestLaws.{joined_within, joined-push}

pub others_of : (trunks : List Trunk) (n : ℕ) (t : Trunk) → Has (remove trunks n) t → Has trunks t
others_of [] zero t h = h
others_of [] (suc n) t h = h
others_of (u ∷ trunks) zero t h = inr h
others_of (u ∷ trunks) (suc n) t (inl e) = inl e
others_of (u ∷ trunks) (suc n) t (inr h) = inr (others_of trunks n t h)

pub trunk_there : (trunks : List Trunk) (n : ℕ) → n < length trunks → Has trunks (trunk_at trunks n)
trunk_there [] n lt = absurd (omega arith)
trunk_there (u ∷ trunks) zero lt = inl refl
trunk_there (u ∷ trunks) (suc n) lt = inr (trunk_there trunks n (omega arith))

pub remove-append : (xs ys : List Trunk) (n : ℕ) → n < length xs → remove (xs ++ ys) n ≡ remove xs n ++ ys
remove-append [] ys n lt = absurd (omega arith)
remove-append (x ∷ xs) ys zero lt = refl
remove-append (x ∷ xs) ys (suc n) lt = ap (λ (l : List Trunk). x ∷ l) (remove-append xs ys n (omega arith))

pub remove_next : (xs ys : List Trunk) (t : Trunk) → remove (xs ++ t ∷ ys) (length xs) ≡ xs ++ ys
remove_next [] ys t = refl
remove_next (x ∷ xs) ys t = ap (λ (l : List Trunk). x ∷ l) (remove_next xs ys t)

pub trunk_next : (xs ys : List Trunk) (t : Trunk) → trunk_at (xs ++ t ∷ ys) (length xs) ≡ t
trunk_next [] ys t = refl
trunk_next (x ∷ xs) ys t = trunk_next xs ys t

no_way : (x y z u v : Bool) → x ≡ false → (y ≡ true → z ≡ true → ⊥) → (u ≡ true → v ≡ true → ⊥) → (x || (y && z) || (u && v)) ≡ false
no_way x y z u v first across back = by ((x || (y && z)) || (u && v)) refl
  where
    by : (b : Bool) → ((x || (y && z)) || (u && v)) ≡ b → b ≡ false
    by false e = refl
    by true e = elim (or_cases _ _ e) [
      | inl l ↦ elim (or_cases _ _ l) [ inl h ↦ absurd (true≢false (sym h ∙ first)) | inr h ↦ let p = and_parts _ _ h in absurd (across p.0 p.1) ]
      | inr r ↦ let p = and_parts _ _ r in absurd (back p.0 p.1)
    ]

pub forest_push : (trunks : List Trunk) (t : Trunk) → IsForest trunks → joined trunks t.first.0.0 t.second.0.0 ≡ false → IsForest (trunks ++ t ∷ [])
forest_push trunks t forest apart n lt = elim (cases_lt n (length trunks)) [
  | inl below ↦ old n below
  | inr above ↦
      let last : length trunks ≡ n = omega (arith, length-append trunks (t ∷ [])) in
      subst (λ k. on_first_side (trunks ++ t ∷ []) k (trunk_at (trunks ++ t ∷ []) k).second.0.0 ≡ false) last new
]
  where
    new : on_first_side (trunks ++ t ∷ []) (length trunks) (trunk_at (trunks ++ t ∷ []) (length trunks)).second.0.0 ≡ false
    new =
        (λ i. joined (remove_next trunks [] t i) (trunk_next trunks [] t i).first.0.0 (trunk_next trunks [] t i).second.0.0)
        ∙ ap (λ (l : List Trunk). joined l t.first.0.0 t.second.0.0) (append-nil trunks) ∙ apart

    old : (n : ℕ) → n < length trunks → on_first_side (trunks ++ t ∷ []) n (trunk_at (trunks ++ t ∷ []) n).second.0.0 ≡ false
    old n below =
        let at : trunk_at (trunks ++ t ∷ []) n ≡ trunk_at trunks n = get_or_append_left trunks (t ∷ []) no_trunk n below in
        let rest : remove (trunks ++ t ∷ []) n ≡ remove trunks n ++ t ∷ [] = remove-append trunks (t ∷ []) n below in
        let u = trunk_at trunks n in
        let all : (x y : ℕ) → joined (remove trunks n) x y ≡ true → joined trunks x y ≡ true = λ x y. joined_within (remove trunks n) trunks x y (others_of trunks n) in
        let joins : joined trunks u.first.0.0 u.second.0.0 ≡ true = trunk_joins trunks u (trunk_there trunks n below) in
        let never : joined trunks t.first.0.0 t.second.0.0 ≡ true → ⊥ = λ h. true≢false (sym h ∙ apart) in
        (λ i. joined (rest i) (at i).first.0.0 (at i).second.0.0)
        ∙ joined-push (remove trunks n) t u.first.0.0 u.second.0.0
        ∙ no_way (joined (remove trunks n) u.first.0.0 u.second.0.0) (joined (remove trunks n) u.first.0.0 t.first.0.0) (joined (remove trunks n) t.second.0.0 u.second.0.0) (joined (remove trunks n) u.first.0.0 t.second.0.0) (joined (remove trunks n) t.first.0.0 u.second.0.0)
        (forest n below)
        (λ x y. never (joined_through trunks _ u.first.0.0 _ (joined_back trunks _ _ (all _ _ x)) (joined_through trunks _ u.second.0.0 _ joins (joined_back trunks _ _ (all _ _ y)))))
        (λ x y. never (joined_through trunks _ u.second.0.0 _ (all _ _ y) (joined_through trunks _ u.first.0.0 _ (joined_back trunks _ _ joins) (all _ _ x))))

-- a trunk after the front of a forest joins switches that the front keeps apart
pub next_apart : (front rest : List Trunk) (t : Trunk) → IsForest (front ++ t ∷ rest) → joined front t.first.0.0 t.second.0.0 ≡ false
next_apart front rest t forest = by (joined front t.first.0.0 t.second.0.0) refl
  where
    whole : joined (front ++ rest) t.first.0.0 t.second.0.0 ≡ false
    whole =
        sym (λ i. joined (remove_next front rest t i) (trunk_next front rest t i).first.0.0 (trunk_next front rest t i).second.0.0)
        ∙ forest (length front) (omega (arith, length-append front (t ∷ rest)))

    by : (b : Bool) → joined front t.first.0.0 t.second.0.0 ≡ b → b ≡ false
    by false e = refl
    by true e = absurd (true≢false (sym (joined_within front (front ++ rest) _ _ (λ u h. Has-left front rest u h) e) ∙ whole))
