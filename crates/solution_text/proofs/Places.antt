-- The places of keys in a list, from its end on.
use Rattle.std.proofs.Common.{◌≡◌, ℕ, ◌+◌, ◌<◌, ◌≤◌, Bool, true, false, not, cond, ltb, List, length, drop, get_or, Option, Some, None, Result, Ok, Err, refl, sym, ap, ◌∙◌, arith}
use Rattle.std.specs.Prelude.{IfOk, IfSome}
use Rattle.std.specs.List.{position, position_from, prefix_len}
use Rattle.std.proofs.lemmas.Bool.Decides.{nat_tests}
use Rattle.std.proofs.lemmas.List.{drop_more, drop_all}
use Rattle.std.proofs.lemmas.Iterator.Adapters.{position_from-zero}

pub none_behind : {K : Type 0} (p : K → Bool) (keys : List K) (n : ℕ) → length keys ≤ n → position_from p n (drop n keys) ≡ None
none_behind {K} p keys n le = ap (λ (l : List K). position_from p n l) (drop_all n keys le)

pub one_before : {K : Type 0} (p : K → Bool) (keys : List K) (n m : ℕ) (key : K) (test : Bool) (old new : Option ℕ) → n ≡ m + 1 → m < length keys → key ≡ get_or keys m key → test ≡ p key
    → old ≡ position_from p n (drop n keys) → new ≡ cond test (Some m) old → new ≡ position_from p m (drop m keys)
one_before {K} p keys n m key test old new next lt is same was now =
    let front : position_from p m (drop m keys) ≡ cond (p (get_or keys m key)) (Some m) (position_from p (m + 1) (drop (m + 1) keys)) =
    ap (λ (l : List K). position_from p m l) (drop_more keys m key lt) in
    now
    ∙ (λ i. cond (same i) (Some m) (was i))
    ∙ (λ i. cond (p (is i)) (Some m) (position_from p (next i) (drop (next i) keys)))
    ∙ sym front

pub from_first : {K : Type 0} (p : K → Bool) (keys : List K) (n : ℕ) → n ≡ 0 → position_from p n (drop n keys) ≡ position p keys
from_first {K} p keys n none = ap (λ (k : ℕ). position_from p k (drop k keys)) none ∙ sym (position_from-zero p keys)

-- what an Ok answer keeps gives what it is to keep
pub also : {X E : Type 0} (r : Result X E) {P Q : X → Type 0} → IfOk r P → ((x : X) → P x → Q x) → IfOk r Q
also (Ok x) h more = more x h
also (Err e) h more = tt

pub also_some : {X : Type 0} (o : Option X) {P Q : X → Type 0} → IfSome o P → ((x : X) → P x → Q x) → IfSome o Q
also_some (Some x) h more = more x h
also_some None h more = tt

pub place_below : {K : Type 0} (p : K → Bool) (keys : List K) → IfSome (position p keys) (λ n. n < length keys)
place_below p keys = by (ltb (prefix_len (λ x. not (p x)) keys) (length keys)) refl
  where
    by : (b : Bool) → ltb (prefix_len (λ x. not (p x)) keys) (length keys) ≡ b → IfSome (cond b (Some (prefix_len (λ x. not (p x)) keys)) None) (λ n. n < length keys)
    by true e = grind (arith, nat_tests, e)
    by false e = tt
