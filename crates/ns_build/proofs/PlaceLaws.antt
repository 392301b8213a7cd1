-- The links and LANs by the nodes that are on them, where one more stands or one is changed.
use Rattle.std.specs.Prelude.{count_by}
use Rattle.std.proofs.Common.{◌≡◌, ℕ, zero, suc, ◌+◌, ◌<◌, ◌≤◌, Bool, true, false, not, cond, ltb, eqb, ◌||◌, List, [], ◌∷◌, ◌++◌, length, map, take, get_or, Option, Some, None, refl, sym, ap, ◌∙◌, arith}
use Rattle.std.specs.List.{list_any, position, prefix_len}
use Rattle.std.proofs.Math.ListN.{set}
use Rattle.std.proofs.lemmas.Bool.Decides.{nat_tests}
use Rattle.std.proofs.lemmas.List.Folds.{list_any-append}
use Rattle.std.proofs.lemmas.List.Sums.{sum_by-cons}
use Rattle.std.proofs.Math.Bool.{or-false}
use Rattle.lab_base.proofs.Tests.{or_nested}
use Rattle.lab_base.proofs.Numbers.{ltb_start, ltb_next}
use Rattle.virt_topo.specs.declared.wiring.VirtEnd.{VirtEnd}
use Rattle.virt_topo.specs.declared.topo.AskedLink.{AskedLink}
use Rattle.ns_build.specs.declared.task.LinkChange.{LinkChange}
use Rattle.ns_build.specs.declared.task.LinkChange.TheVariants as links
use Rattle.ns_build.specs.Networks.{has_end, is_on, addressed, link_with, changed_at}
use Rattle.ns_build.specs.Places.{one_of, place_of, noted}
use Rattle.ns_build.proofs.Changing.{changed-set, changed-none}

-- noting a node again at one index says no more
pub noted_again : (index : ℕ) (o : Option (Option ℕ)) → noted index (Some (noted index o)) ≡ noted index o
noted_again index None = same (eqb index index) (itself index)
  where
    itself : (n : ℕ) → eqb n n ≡ true
    itself n = grind (arith, nat_tests)

    same : (b : Bool) → b ≡ true → cond b (Some index) None ≡ Some index
    same b is = ap (λ (c : Bool). cond c (Some index) None) is
noted_again index (Some None) = refl
noted_again index (Some (Some other)) = by (eqb other index)
  where
    itself : (n : ℕ) → eqb n n ≡ true
    itself n = grind (arith, nat_tests)

    by : (b : Bool) → noted index (Some (cond b (Some index) None)) ≡ cond b (Some index) None
    by true = ap (λ (c : Bool). cond c (Some index) None) (itself index)
    by false = refl

end_more : (v : ℕ) (ends : List VirtEnd) (i : ℕ) (e d : VirtEnd) → i < length ends → e ≡ get_or ends i d → has_end v (take (i + 1) ends) ≡ (has_end v (take i ends) || eqb e.node v)
end_more v [] i e d lt is = absurd (omega arith)
end_more v (f ∷ ends) zero e d lt is = or-false (eqb f.node v) ∙ ap (λ (x : VirtEnd). eqb x.node v) (sym is)
end_more v (f ∷ ends) (suc i) e d lt is = ap (λ (n : ℕ). has_end v (take n (f ∷ ends))) next ∙ ap (λ (b : Bool). eqb f.node v || b) (end_more v ends i e d (omega arith) is) ∙ or_nested (eqb f.node v) (has_end v (take i ends)) (eqb e.node v)
  where
    next : suc i + 1 ≡ suc (i + 1)
    next = omega arith

-- one end more is noted
pub note_next : (index : ℕ) (old now new : ℕ → Option (Option ℕ)) (ends : List VirtEnd) (i : ℕ) (e d : VirtEnd) → i < length ends → e ≡ get_or ends i d
    → ((v : ℕ) → now v ≡ cond (has_end v (take i ends)) (Some (noted index (old v))) (old v))
    → ((v : ℕ) → new v ≡ cond (eqb e.node v) (Some (noted index (now e.node))) (now v))
    → (v : ℕ) → new v ≡ cond (has_end v (take (i + 1) ends)) (Some (noted index (old v))) (old v)
note_next index old now new ends i e d lt is were are v =
    are v ∙ by (eqb e.node v) refl (has_end v (take i ends)) refl ∙ sym (ap (λ (b : Bool). cond b (Some (noted index (old v))) (old v)) (end_more v ends i e d lt is))
  where
    same : (a b : ℕ) → eqb a b ≡ true → a ≡ b
    same a b h = grind (arith, nat_tests)

    by : (a : Bool) → eqb e.node v ≡ a → (h : Bool) → has_end v (take i ends) ≡ h
        → cond a (Some (noted index (now e.node))) (now v) ≡ cond (has_end v (take i ends) || eqb e.node v) (Some (noted index (old v))) (old v)
    by true at true has =
        ap (λ (n : ℕ). Some (noted index (now n))) (same e.node v at)
        ∙ ap (λ (o : Option (Option ℕ)). Some (noted index o)) (were v ∙ ap (λ (b : Bool). cond b (Some (noted index (old v))) (old v)) has)
        ∙ ap (λ (o : Option ℕ). Some o) (noted_again index (old v))
        ∙ sym (ap (λ (b : Bool). cond (b || eqb e.node v) (Some (noted index (old v))) (old v)) has)
    by true at false none =
        ap (λ (n : ℕ). Some (noted index (now n))) (same e.node v at)
        ∙ ap (λ (o : Option (Option ℕ)). Some (noted index o)) (were v ∙ ap (λ (b : Bool). cond b (Some (noted index (old v))) (old v)) none)
        ∙ sym (λ i. cond (none i || at i) (Some (noted index (old v))) (old v))
    by false at true has = were v ∙ (λ i. cond (has i) (Some (noted index (old v))) (old v)) ∙ sym (λ i. cond (has i || at i) (Some (noted index (old v))) (old v))
    by false at false none = were v ∙ (λ i. cond (none i) (Some (noted index (old v))) (old v)) ∙ sym (λ i. cond (none i || at i) (Some (noted index (old v))) (old v))

-- COUNTS AND FIRST PLACES, ONE MORE

module _ {X : Type 0} (test : X → Bool) where
  -- none, one, several: with the index of the first
  abbrev seen : ℕ → List X → Option (Option ℕ)
  seen k [] = None
  seen k (x ∷ xs) = cond (test x) (Some (cond (list_any test xs) None (Some k))) (seen (suc k) xs)

  seen_more : (k : ℕ) (xs : List X) (x : X) → test x ≡ true → seen k (xs ++ x ∷ []) ≡ Some (noted (k + length xs) (seen k xs))
  seen_more k [] x is =
      let none : k ≡ k + 0 = omega arith in
      ap (λ (b : Bool). cond b (Some (Some k)) None) is ∙ ap (λ (n : ℕ). Some (Some n)) none
  seen_more k (y ∷ xs) x is = by (test y) (list_any test xs) (list_any-append test xs (x ∷ []) ∙ ap (λ (b : Bool). list_any test xs || (b || false)) is) (seen_more (suc k) xs x is)
    where
      next : suc k + length xs ≡ k + suc (length xs)
      next = omega arith

      other : eqb k (k + suc (length xs)) ≡ false
      other = not_equal k (length xs)
        where
          not_equal : (a b : ℕ) → eqb a (a + suc b) ≡ false
          not_equal a b = grind (arith, nat_tests)

      by : (a b : Bool) → list_any test (xs ++ x ∷ []) ≡ (b || true) → seen (suc k) (xs ++ x ∷ []) ≡ Some (noted (suc k + length xs) (seen (suc k) xs))
          → cond a (Some (cond (list_any test (xs ++ x ∷ [])) None (Some k))) (seen (suc k) (xs ++ x ∷ [])) ≡ Some (noted (k + suc (length xs)) (cond a (Some (cond b None (Some k))) (seen (suc k) xs)))
      by true true any later = ap (λ (c : Bool). Some (cond c None (Some k))) any
      by true false any later = ap (λ (c : Bool). Some (cond c None (Some k))) any ∙ ap (λ (c : Bool). Some (cond c (Some (k + suc (length xs))) None)) (sym other)
      by false b any later = later ∙ ap (λ (n : ℕ). Some (noted n (seen (suc k) xs))) next

  seen_not : (k : ℕ) (xs : List X) (x : X) → test x ≡ false → seen k (xs ++ x ∷ []) ≡ seen k xs
  seen_not k [] x is = ap (λ (b : Bool). cond b (Some (Some k)) None) is
  seen_not k (y ∷ xs) x is =
      let any : list_any test (xs ++ x ∷ []) ≡ list_any test xs = list_any-append test xs (x ∷ []) ∙ ap (λ (b : Bool). list_any test xs || (b || false)) is ∙ or-false (list_any test xs) in
      λ i. cond (test y) (Some (cond (any i) None (Some k))) (seen_not (suc k) xs x is i)

  count_more : (b : Bool) (x : X) (xs : List X) → test x ≡ b → count_by test (x ∷ xs) ≡ cond b 1 0 + count_by test xs
  count_more b x xs is = sum_by-cons (λ y. cond (test y) 1 0) x xs ∙ ap (λ (c : Bool). cond c 1 0 + count_by test xs) is

  -- the count and the first index say it
  count_none : (xs : List X) → list_any test xs ≡ false → count_by test xs ≡ 0
  count_none [] none = refl
  count_none (x ∷ xs) none = by (test x) refl none (λ later. count_none xs later)
    where
      by : (b : Bool) → test x ≡ b → (b || list_any test xs) ≡ false → (list_any test xs ≡ false → count_by test xs ≡ 0) → count_by test (x ∷ xs) ≡ 0
      by true is none rest = absurd (cc none)
      by false is none rest = omega (arith, count_more false x xs is, rest none)

  count_some : (xs : List X) → list_any test xs ≡ true → 1 ≤ count_by test xs
  count_some [] some = absurd (cc some)
  count_some (x ∷ xs) some = by (test x) refl some (λ later. count_some xs later)
    where
      by : (b : Bool) → test x ≡ b → (b || list_any test xs) ≡ true → (list_any test xs ≡ true → 1 ≤ count_by test xs) → 1 ≤ count_by test (x ∷ xs)
      by true is some rest = omega (arith, count_more true x xs is)
      by false is some rest = omega (arith, count_more false x xs is, rest some)

  abbrev first : List X → ℕ
  first xs = prefix_len (λ y. not (test y)) xs

  seen_is : (k : ℕ) (xs : List X) → one_of (count_by test xs) (cond (ltb (first xs) (length xs)) (Some (k + first xs)) None) ≡ seen k xs
  seen_is k [] = refl
  seen_is k (x ∷ xs) = by (test x) refl (list_any test xs) refl (seen_is (suc k) xs)
    where
      one : (n : ℕ) (index : Option ℕ) → n ≡ 1 → one_of n index ≡ Some index
      one n index is = ap (λ (c : ℕ). one_of c index) is

      several : (n : ℕ) (index : Option ℕ) → 2 ≤ n → one_of n index ≡ Some None
      several n index le = (λ i. cond (zero_not i) None (cond (one_not i) (Some index) (Some None)))
        where
          zero_not : eqb n 0 ≡ false
          zero_not = past n le
            where
              past : (n : ℕ) → 2 ≤ n → eqb n 0 ≡ false
              past n le = grind (arith, nat_tests)

          one_not : eqb n 1 ≡ false
          one_not = past n le
            where
              past : (n : ℕ) → 2 ≤ n → eqb n 1 ≡ false
              past n le = grind (arith, nat_tests)

      index_is : (b : Bool) → test x ≡ b → cond (ltb (first (x ∷ xs)) (length (x ∷ xs))) (Some (k + first (x ∷ xs))) None ≡ cond b (Some k) (cond (ltb (first xs) (length xs)) (Some (suc k + first xs)) None)
      index_is true is =
          let none : k + 0 ≡ k = omega arith in
          let here : first (x ∷ xs) ≡ 0 = ap (λ (c : Bool). cond (not c) (1 + first xs) 0) is in
          (λ i. cond (ltb (here i) (suc (length xs))) (Some (k + here i)) None) ∙ ap (λ (c : Bool). cond c (Some (k + 0)) None) (ltb_start (length xs)) ∙ ap (λ (n : ℕ). Some n) none
      index_is false is =
          let past : first (x ∷ xs) ≡ 1 + first xs = ap (λ (c : Bool). cond (not c) (1 + first xs) 0) is in
          let sum : k + (1 + first xs) ≡ suc k + first xs = omega arith in
          (λ i. cond (ltb (past i) (suc (length xs))) (Some (k + past i)) None) ∙ (λ i. cond (ltb_next (first xs) (length xs) i) (Some (sum i)) None)

      by : (b : Bool) → test x ≡ b → (c : Bool) → list_any test xs ≡ c → one_of (count_by test xs) (cond (ltb (first xs) (length xs)) (Some (suc k + first xs)) None) ≡ seen (suc k) xs
          → one_of (count_by test (x ∷ xs)) (cond (ltb (first (x ∷ xs)) (length (x ∷ xs))) (Some (k + first (x ∷ xs))) None) ≡ seen k (x ∷ xs)
      by true is true some rest =
          several (count_by test (x ∷ xs)) _ (omega (arith, count_more true x xs is, count_some xs some))
          ∙ sym (ap (λ (b : Bool). cond b (Some (cond (list_any test xs) None (Some k))) (seen (suc k) xs)) is ∙ ap (λ (b : Bool). Some (cond b None (Some k))) some)
      by true is false none rest =
          one (count_by test (x ∷ xs)) _ (omega (arith, count_more true x xs is, count_none xs none))
          ∙ ap (λ (o : Option ℕ). Some o) (index_is true is)
          ∙ sym (ap (λ (b : Bool). cond b (Some (cond (list_any test xs) None (Some k))) (seen (suc k) xs)) is ∙ ap (λ (b : Bool). Some (cond b None (Some k))) none)
      by false is c any rest =
          let same : count_by test (x ∷ xs) ≡ count_by test xs = omega (arith, count_more false x xs is) in
          (λ i. one_of (same i) (index_is false is i)) ∙ rest ∙ sym (ap (λ (b : Bool). cond b (Some (cond (list_any test xs) None (Some k))) (seen (suc k) xs)) is)

seen_index : (links : List AskedLink) (v : ℕ) → place_of links v ≡ seen (is_on v) 0 links
seen_index links v =
    let none : first (is_on v) links ≡ 0 + first (is_on v) links = omega arith in
    ap (λ (n : ℕ). one_of (count_by (is_on v) links) (cond (ltb (first (is_on v) links) (length links)) (Some n) None)) none ∙ seen_is (is_on v) 0 links

-- one link or LAN more
pub place_more : (links : List AskedLink) (l : AskedLink) (v : ℕ) → cond (is_on v l) (Some (noted (length links) (place_of links v))) (place_of links v) ≡ place_of (links ++ l ∷ []) v
place_more links l v = by (is_on v l) refl
  where
    by : (b : Bool) → is_on v l ≡ b → cond b (Some (noted (length links) (place_of links v))) (place_of links v) ≡ place_of (links ++ l ∷ []) v
    by true is =
        let count : length links ≡ 0 + length links = omega arith in
        (λ i. Some (noted (count i) (seen_index links v i))) ∙ sym (seen_more (is_on v) 0 links l is) ∙ sym (seen_index (links ++ l ∷ []) v)
    by false is = seen_index links v ∙ sym (seen_not (is_on v) 0 links l is) ∙ sym (seen_index (links ++ l ∷ []) v)

-- CHANGES

on_addressed : (v node ip : ℕ) (ends : List VirtEnd) → has_end v (map (addressed node ip) ends) ≡ has_end v ends
on_addressed v node ip [] = refl
on_addressed v node ip (e ∷ ends) = by (eqb e.node node) (on_addressed v node ip ends)
  where
    by : (b : Bool) → has_end v (map (addressed node ip) ends) ≡ has_end v ends → (eqb (cond b (record e { address = Some ip }) e).node v || has_end v (map (addressed node ip) ends)) ≡ (eqb e.node v || has_end v ends)
    by true is = ap (λ (r : Bool). eqb e.node v || r) is
    by false is = ap (λ (r : Bool). eqb e.node v || r) is

on_changed : (v : ℕ) (change : LinkChange) (l : AskedLink) → is_on v (link_with change l) ≡ is_on v l
on_changed v (links.Name name) l = refl
on_changed v (links.Loss ppm) l = refl
on_changed v (links.Multiplexed multiplexed) l = refl
on_changed v (links.Address node ip) l = on_addressed v node ip l.ends

any_changed : (v : ℕ) (change : LinkChange) (index : ℕ) (ls : List AskedLink) → list_any (is_on v) (changed_at (link_with change) index ls) ≡ list_any (is_on v) ls
any_changed v change index [] = refl
any_changed v change zero (l ∷ ls) = ap (λ (b : Bool). b || list_any (is_on v) ls) (on_changed v change l)
any_changed v change (suc index) (l ∷ ls) = ap (λ (b : Bool). is_on v l || b) (any_changed v change index ls)

seen_changed : (v k : ℕ) (change : LinkChange) (index : ℕ) (ls : List AskedLink) → seen (is_on v) k (changed_at (link_with change) index ls) ≡ seen (is_on v) k ls
seen_changed v k change index [] = refl
seen_changed v k change zero (l ∷ ls) = ap (λ (b : Bool). cond b (Some (cond (list_any (is_on v) ls) None (Some k))) (seen (is_on v) (suc k) ls)) (on_changed v change l)
seen_changed v k change (suc index) (l ∷ ls) = λ i. cond (is_on v l) (Some (cond (any_changed v change index ls i) None (Some k))) (seen_changed v (suc k) change index ls i)

pub place_changed : (links : List AskedLink) (change : LinkChange) (index v : ℕ) → place_of (changed_at (link_with change) index links) v ≡ place_of links v
place_changed links change index v = seen_index (changed_at (link_with change) index links) v ∙ seen_changed v 0 change index links ∙ sym (seen_index links v)

pub link_set : (xs now : List AskedLink) (change : LinkChange) (index : ℕ) (x y : AskedLink) → xs ≡ now → index < length xs → x ≡ get_or xs index x → y ≡ link_with change x → set xs index y ≡ changed_at (link_with change) index now
link_set xs now change index x y same lt element new =
    ap (λ (l : AskedLink). set xs index l) new ∙ sym (changed-set (link_with change) index xs x lt element) ∙ ap (λ (ls : List AskedLink). changed_at (link_with change) index ls) same

pub places_set : (xs : List AskedLink) (places : ℕ → Option (Option ℕ)) (change : LinkChange) (index : ℕ) (x y : AskedLink) → index < length xs → x ≡ get_or xs index x → y ≡ link_with change x
    → ((v : ℕ) → places v ≡ place_of xs v) → (v : ℕ) → places v ≡ place_of (set xs index y) v
places_set xs places change index x y lt element new are v =
    are v ∙ sym (place_changed xs change index v) ∙ ap (λ (ls : List AskedLink). place_of ls v) (sym (link_set xs xs change index x y refl lt element new))

pub link_same : (xs now : List AskedLink) (change : LinkChange) (index : ℕ) → xs ≡ now → length xs ≤ index → now ≡ changed_at (link_with change) index now
link_same xs now change index same le = sym (changed-none (link_with change) index now (omega (arith, le, ap (λ (l : List AskedLink). length l) same)))

-- what a table says of the only one
pub only_place : (links : List AskedLink) (v : ℕ) (index : Option ℕ) → place_of links v ≡ Some index → index ≡ cond (eqb (count_by (is_on v) links) 1) (position (is_on v) links) None
only_place links v index is = by (eqb (count_by (is_on v) links) 0) refl (eqb (count_by (is_on v) links) 1) refl is
  where
    by : (a : Bool) → eqb (count_by (is_on v) links) 0 ≡ a → (b : Bool) → eqb (count_by (is_on v) links) 1 ≡ b
        → cond a None (cond b (Some (position (is_on v) links)) (Some None)) ≡ Some index → index ≡ cond b (position (is_on v) links) None
    by true none b one h = absurd (cc h)
    by false none true one h = sym (cc h)
    by false none false one h = sym (cc h)

pub no_place : (links : List AskedLink) (v : ℕ) → place_of links v ≡ None → None ≡ cond (eqb (count_by (is_on v) links) 1) (position (is_on v) links) None
no_place links v is = by (eqb (count_by (is_on v) links) 0) refl (eqb (count_by (is_on v) links) 1) refl is
  where
    apart : (n : ℕ) → eqb n 0 ≡ true → eqb n 1 ≡ true → ⊥
    apart n a b = grind (arith, nat_tests)

    by : (a : Bool) → eqb (count_by (is_on v) links) 0 ≡ a → (b : Bool) → eqb (count_by (is_on v) links) 1 ≡ b
        → cond a None (cond b (Some (position (is_on v) links)) (Some None)) ≡ None → None ≡ cond b (position (is_on v) links) None
    by true none true one h = absurd (apart (count_by (is_on v) links) none one)
    by true none false one h = refl
    by false none true one h = absurd (cc h)
    by false none false one h = absurd (cc h)

-- a table with one more, from one that had the others
pub places_more : (xs ys : List AskedLink) (l : AskedLink) (ends : List VirtEnd) (index : ℕ) (old now new : ℕ → Option (Option ℕ)) → ((v : ℕ) → old v ≡ place_of xs v) → ((v : ℕ) → now v ≡ old v)
    → ((v : ℕ) → new v ≡ cond (has_end v ends) (Some (noted index (now v))) (now v)) → ends ≡ l.ends → index ≡ length xs → ys ≡ xs ++ l ∷ [] → (v : ℕ) → new v ≡ place_of ys v
places_more xs ys l ends index old now new were same are own last more v =
    let was : now v ≡ place_of xs v = same v ∙ were v in
    are v ∙ (λ i. cond (has_end v (own i)) (Some (noted (last i) (was i))) (was i)) ∙ place_more xs l v ∙ ap (λ (ls : List AskedLink). place_of ls v) (sym more)
