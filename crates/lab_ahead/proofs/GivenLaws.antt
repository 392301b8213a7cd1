-- The giving that owners are.
use Rattle.std.proofs.Common.{◌≡◌, ◌<◌, ◌+◌, ℕ, zero, suc, eqb, List, [], ◌∷◌, ◌++◌, length, map, drop, get_or, count_by, Option, Some, None, refl, sym, ap, ◌∙◌, subst, inl, inr, arith}
use Rattle.lab_base.specs.Lists.{Has, AllDiffer}
use Rattle.lab_base.specs.declared.ids.NodeId.{NodeId}
use Rattle.lab_ahead.specs.SearchTrees.{given_of, held, is_of, owner_at}
use Rattle.lab_ahead.proofs.Counting.{count-cons, one_if}

-- the node, if it is given to a need
abbrev pub pair_of : NodeId → Option ℕ → List (NodeId × ℕ)
pair_of node None = []
pair_of node (Some n) = (node, n) ∷ []

pub given_at : (left : List NodeId) (owners : List (Option ℕ)) (i : ℕ) (d : NodeId) → i < length left → i < length owners
    → given_of (drop i left) (drop i owners) ≡ pair_of (get_or left i d) (owner_at owners i) ++ given_of (drop (i + 1) left) (drop (i + 1) owners)
given_at [] owners i d lt _ = absurd (omega arith)
given_at (node ∷ left) [] i d lt le = absurd (omega arith)
given_at (node ∷ left) (None ∷ owners) zero d lt le = refl
given_at (node ∷ left) (Some n ∷ owners) zero d lt le = refl
given_at (node ∷ left) (o ∷ owners) (suc i) d lt le = later (given_at left owners i d (omega arith) (omega arith))
  where
    later : given_of (drop i left) (drop i owners) ≡ pair_of (get_or left i d) (owner_at owners i) ++ given_of (drop (i + 1) left) (drop (i + 1) owners)
        → given_of (drop i left) (drop i owners) ≡ pair_of (get_or left i d) (owner_at owners i) ++ given_of (drop (suc i + 1) (node ∷ left)) (drop (suc i + 1) (o ∷ owners))
    later e = let number : suc i + 1 ≡ suc (i + 1) = omega arith in
        e ∙ ap (λ (k : ℕ). pair_of (get_or left i d) (owner_at owners i) ++ given_of (drop k (node ∷ left)) (drop k (o ∷ owners))) (sym number)

-- whatever holds of each node and its owner
pub each_given : (P : NodeId → ℕ → Type 0) (left : List NodeId) (owners : List (Option ℕ)) (d : NodeId)
    → ((i n : ℕ) → i < length left → owner_at owners i ≡ Some n → P (get_or left i d) n) → (g : NodeId × ℕ) → Has (given_of left owners) g → P g.0 g.1
each_given P [] owners d each g h = absurd h
each_given P (node ∷ left) [] d each g h = absurd h
each_given P (node ∷ left) (None ∷ owners) d each g h = each_given P left owners d (λ i n lt e. each (suc i) n (omega arith) e) g h
each_given P (node ∷ left) (Some m ∷ owners) d each g (inl e) = subst (λ (p : NodeId × ℕ). P p.0 p.1) e (each zero m (omega arith) refl)
each_given P (node ∷ left) (Some m ∷ owners) d each g (inr h) = each_given P left owners d (λ i n lt e. each (suc i) n (omega arith) e) g h

pub given_left : (left : List NodeId) (owners : List (Option ℕ)) (node : NodeId) → Has (map (λ (g : NodeId × ℕ). g.0) (given_of left owners)) node → Has left node
given_left [] owners node h = absurd h
given_left (x ∷ left) [] node h = absurd h
given_left (x ∷ left) (None ∷ owners) node h = inr (given_left left owners node h)
given_left (x ∷ left) (Some m ∷ owners) node (inl e) = inl e
given_left (x ∷ left) (Some m ∷ owners) node (inr h) = inr (given_left left owners node h)

pub given_once : (left : List NodeId) (owners : List (Option ℕ)) → AllDiffer left → AllDiffer (map (λ (g : NodeId × ℕ). g.0) (given_of left owners))
given_once [] owners differ = tt
given_once (x ∷ left) [] differ = tt
given_once (x ∷ left) (None ∷ owners) differ = given_once left owners differ.1
given_once (x ∷ left) (Some m ∷ owners) differ = (λ y h. differ.0 y (given_left left owners y h), given_once left owners differ.1)

none_here : (n : ℕ) (owners : List (Option ℕ)) → held (None ∷ owners) n ≡ held owners n
none_here n owners = omega (arith, count-cons (is_of n) None owners)

pub given_count : (left : List NodeId) (owners : List (Option ℕ)) (n : ℕ) → length owners ≡ length left → count_by (λ (g : NodeId × ℕ). eqb g.1 n) (given_of left owners) ≡ held owners n
given_count [] [] n same = refl
given_count [] (o ∷ owners) n same = absurd (omega arith)
given_count (x ∷ left) [] n same = absurd (omega arith)
given_count (x ∷ left) (None ∷ owners) n same = given_count left owners n (omega arith) ∙ sym (none_here n owners)
given_count (x ∷ left) (Some m ∷ owners) n same =
    count-cons (λ (g : NodeId × ℕ). eqb g.1 n) (x, m) (given_of left owners) ∙ ap (λ (k : ℕ). one_if (eqb m n) + k) (given_count left owners n (omega arith)) ∙ sym (count-cons (is_of n) (Some m) owners)

-- no owner
pub none_from : (o : Option ℕ) → ((n : ℕ) → o ≡ Some n → ⊥) → o ≡ None
none_from None never = refl
none_from (Some n) never = absurd (never n refl)
