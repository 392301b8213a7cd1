-- Lists of fields have as many values as fields.
use Rattle.std.proofs.Common.{◌≡◌, ℕ, ◌+◌, ◌≤◌, ◌<◌, Bool, true, false, cond, List, [], ◌∷◌, ◌++◌, length, take, drop, get_or, Result, Ok, Err, refl, sym, ap, ◌∙◌, arith, length-append, length-drop}
use Rattle.std.specs.List.{list_all}
use Rattle.std.proofs.lemmas.Bool.{and_from, and_parts, leb-true}
use Rattle.std.proofs.lemmas.List.{take_more}
use Rattle.std.proofs.lemmas.List.Folds.{list_all-append}
use Rattle.lab_base.specs.Kinds.{both_of}
use Rattle.lab_base.specs.Parts.{all_of, joined_to}
use Rattle.lab_base.specs.declared.fault.Kind.{Kind}
use Rattle.lab_base.specs.declared.fault.Kind.TheVariants as kinds
use Rattle.line_text.specs.Fields.{counts, list_after}

-- two parts that are read are each read
pub both_read : {A B : Type 0} (a : Result A Kind) (b : Result B Kind) (x : A) (y : B) → both_of a b ≡ Ok (x, y) → (a ≡ Ok x) × (b ≡ Ok y)
both_read {A} {B} (Ok a) (Ok b) x y h = let pair : ◌≡◌ {A = A × B} (a, b) (x, y) = cc h in (ap (λ (p : A × B). Ok p.0) pair, ap (λ (p : A × B). Ok p.1) pair)
both_read (Ok a) (Err k) x y h = absurd (cc h)
both_read (Err k) (Ok b) x y h = absurd (cc h)
both_read (Err k) (Err l) x y h = absurd (cc h)

-- one value more
record IsJoined {X : Type 0} (so_far : Result (List X) Kind) (xs : List X) : Type 0 where
  pub front : List X
  pub is : so_far ≡ Ok front
  pub count : length xs ≡ length front + 1

joined : {X : Type 0} (so_far : Result (List X) Kind) (next : Result X Kind) (xs : List X) → joined_to (both_of so_far next) ≡ Ok xs → IsJoined so_far xs
joined {X} (Ok ys) (Ok y) xs h = let same : ys ++ y ∷ [] ≡ xs = cc h in record { front = ys; is = refl; count = ap (λ (l : List X). length l) (sym same) ∙ length-append ys (y ∷ []) }
joined (Ok ys) (Err k) xs h = absurd (cc h)
joined (Err k) (Ok y) xs h = absurd (cc h)
joined (Err k) (Err l) xs h = absurd (cc h)

record IsRead {X : Type 0} (so_far : Result (List X) Kind) (fields : List (List ℕ)) (xs : List X) : Type 0 where
  pub front : List X
  pub is : so_far ≡ Ok front
  pub count : length xs ≡ length front + length fields

all_read : {X : Type 0} (read : List ℕ → Result X Kind) (so_far : Result (List X) Kind) (fields : List (List ℕ)) (xs : List X) → all_of read so_far fields ≡ Ok xs → IsRead so_far fields xs
all_read read so_far [] xs h = record { front = xs; is = h; count = omega arith }
all_read read so_far (field ∷ fields) xs h =
    let later = all_read read (joined_to (both_of so_far (read field))) fields xs h in
    let now = joined so_far (read field) later.front later.is in
    record { front = now.front; is = now.is; count = omega (arith, later.count, now.count) }

-- a list of at most so many values
pub list_few : {X : Type 0} (n least most : ℕ) (read : List ℕ → Result X Kind) (fields : List (List ℕ)) (xs : List X) → list_after n least most read fields ≡ Ok xs → length xs ≤ most
list_few {X} n least most read fields xs h = by (counts (n + least) (n + most) fields) refl h
  where
    by : (b : Bool) → counts (n + least) (n + most) fields ≡ b → cond b (all_of read (Ok []) (drop n fields)) (Err kinds.Fields) ≡ Ok xs → length xs ≤ most
    by false is h = absurd (cc h)
    by true is h =
        let all = all_read read (Ok []) (drop n fields) xs h in
        let empty : ◌≡◌ {A = List X} [] all.front = cc (all.is) in
        let none : length all.front ≡ 0 = ap (λ (l : List X). length l) (sym empty) in
        let parts = and_parts _ _ is in
        let fits : length fields ≤ n + most = leb-true (length fields) (n + most) parts.1 in
        omega (arith, all.count, none, length-drop n fields, fits)

-- one element more that passes a test
pub all_next : {X : Type 0} (p : X → Bool) (xs : List X) (i : ℕ) (x : X) → i < length xs → x ≡ get_or xs i x → list_all p (take i xs) ≡ true → p x ≡ true → list_all p (take (i + 1) xs) ≡ true
all_next p xs i x lt is all here =
    ap (list_all p) (take_more xs i x lt)
    ∙ list_all-append p (take i xs) (get_or xs i x ∷ [])
    ∙ and_from _ _ all (and_from _ _ (sym (ap p is) ∙ here) refl)
