-- A lab stays one when a part without a fault is added.
use Rattle.std.proofs.Common.{◌≡◌, ◌≢◌, ℕ, Bool, true, false, ◌||◌, List, [], ◌∷◌, ◌++◌, refl, sym, subst, ◌∙◌, inl, inr, true≢false}
use Rattle.std.specs.List.{list_any}
use Rattle.std.proofs.lemmas.Bool.{or_left, and_parts, and_from, eqb-true, eq-eqb}
use Rattle.std.proofs.lemmas.List.{append-nil}
use Rattle.lab_base.specs.declared.ids.SwitchId.{SwitchId}
use Rattle.lab_base.specs.declared.ids.NodeId.{NodeId}
use Rattle.lab_base.specs.Lists.{Has, AllDiffer}
use Rattle.lab_base.proofs.Members.{Has-append, Has-left, Has-right}
use Rattle.lab_base.proofs.Tests.{or_rest}
use Rattle.lab_base.proofs.Bytes.{bytes_self, bytes_same}
use Rattle.phys_lab.specs.Keys.{same_iface, same_port}

-- DIFFERENT ELEMENTS

pub insert : {X : Type 0} (xs ys : List X) (x : X) → AllDiffer (xs ++ ys) → (Has xs x → ⊥) → (Has ys x → ⊥) → AllDiffer ((xs ++ x ∷ []) ++ ys)
insert [] ys x differ not_left not_right = (λ y h e. not_right (subst (λ v. Has ys v) (sym e) h), differ)
insert {X} (z ∷ xs) ys x differ not_left not_right = (first, insert xs ys x differ.1 (λ h. not_left (inr h)) not_right)
  where
    first : (y : X) → Has ((xs ++ x ∷ []) ++ ys) y → z ≢ y
    first y h = elim (Has-append (xs ++ x ∷ []) ys y h) [
      | inl a ↦ elim (Has-append xs (x ∷ []) y a) [
        | inl b ↦ differ.0 y (Has-left xs ys y b)
        | inr b ↦ elim b [ inl e ↦ (λ g. not_left (inl (g ∙ sym e))) | inr d ↦ absurd d ]
      ]
      | inr a ↦ differ.0 y (Has-right xs ys y a)
    ]

pub at_end : {X : Type 0} (xs : List X) (x : X) → AllDiffer xs → (Has xs x → ⊥) → AllDiffer (xs ++ x ∷ [])
at_end xs x differ other =
    subst (λ l. AllDiffer l) (append-nil (xs ++ x ∷ [])) (insert xs [] x (subst (λ l. AllDiffer l) (sym (append-nil xs)) differ) other (λ h. h))

-- TESTS AND ELEMENTS

pub none_has : {X : Type 0} (same : X → X → Bool) → ((x : X) → same x x ≡ true) → (xs : List X) (x : X) → list_any (same x) xs ≡ false → Has xs x → ⊥
none_has same one [] x none h = h
none_has same one (y ∷ xs) x none (inl e) = true≢false (sym (or_left (same x y) (list_any (same x) xs) (subst (λ v. same x v ≡ true) (sym e) (one x))) ∙ none)
none_has same one (y ∷ xs) x none (inr h) = none_has same one xs x (or_rest (same x y) (list_any (same x) xs) none) h

pub none_any : {X : Type 0} (same : X → X → Bool) → ((x y : X) → same x y ≡ true → x ≡ y) → (xs : List X) (x : X) → (Has xs x → ⊥) → list_any (same x) xs ≡ false
none_any same sound [] x none = refl
none_any same sound (y ∷ xs) x none = both (same x y) (λ e. none (inl (sym (sound x y e)))) (none_any same sound xs x (λ h. none (inr h)))
  where
    both : (a : Bool) → (a ≡ true → ⊥) → list_any (same x) xs ≡ false → (a || list_any (same x) xs) ≡ false
    both true never rest = absurd (never refl)
    both false never rest = rest

pub same_iface-self : (x : NodeId × List ℕ) → same_iface x x ≡ true
same_iface-self x = and_from _ _ (eq-eqb x.0.0 x.0.0 refl) (bytes_self x.1)

pub same_iface-true : (x y : NodeId × List ℕ) → same_iface x y ≡ true → x ≡ y
same_iface-true x y e =
    let p = and_parts _ _ e in
    λ i. (record { 0 = eqb-true x.0.0 y.0.0 p.0 i }, bytes_same x.1 y.1 p.1 i)

pub same_port-self : (x : SwitchId × ℕ) → same_port x x ≡ true
same_port-self x = and_from _ _ (eq-eqb x.0.0 x.0.0 refl) (eq-eqb x.1 x.1 refl)

pub same_port-true : (x y : SwitchId × ℕ) → same_port x y ≡ true → x ≡ y
same_port-true x y e =
    let p = and_parts _ _ e in
    λ i. (record { 0 = eqb-true x.0.0 y.0.0 p.0 i }, eqb-true x.1 y.1 p.1 i)
