-- Parts of tests, and values that may be missing.
use Rattle.std.proofs.Common.{◌≡◌, Bool, true, false, ◌||◌, ◌&&◌, Option, Some, None, is_none, IfSome, Result, Ok, Err, refl, sym, if◌then◌else◌}
use Rattle.std.specs.Prelude.{OnOk, IsErrOf, IsTrue, ◌↔◌}

-- PARTS OF A TEST

pub or_first : (a b : Bool) → (a || b) ≡ false → a ≡ false
or_first true b h = h
or_first false b h = refl

pub or_rest : (a b : Bool) → (a || b) ≡ false → b ≡ false
or_rest true b h = absurd (cc h)
or_rest false b h = h

pub and_first : (a b : Bool) → (a && b) ≡ true → a ≡ true
and_first true b h = refl
and_first false b h = h

pub and_rest : (a b : Bool) → (a && b) ≡ true → b ≡ true
and_rest true b h = h
and_rest false b h = absurd (cc h)

pub or_swapped : (a b c : Bool) → (a || (b || c)) ≡ (b || (a || c))
or_swapped true true c = refl
or_swapped true false c = refl
or_swapped false b c = refl

pub or_nested : (a b c : Bool) → (a || (b || c)) ≡ ((a || b) || c)
or_nested true b c = refl
or_nested false b c = refl

-- two tests are one where each gives the other
pub same_tests : (a b : Bool) → (a ≡ true → b ≡ true) → (b ≡ true → a ≡ true) → a ≡ b
same_tests true b there back = sym (there refl)
same_tests false true there back = back refl
same_tests false false there back = refl

pub never_both : {X : Type 0} (b : Bool) → b ≡ true → b ≡ false → X
never_both true yes' no' = absurd (cc no')
never_both false yes' no' = absurd (cc yes')

-- where no fault is found, the first one is none
pub not_faulty : {X : Type 0} (faulty : Bool) (fault : X) (later : Option X) → (if faulty then Some fault else later) ≡ None → faulty ≡ false
not_faulty true fault later e = absurd (cc e)
not_faulty false fault later e = refl

-- VALUES THAT MAY BE MISSING

pub none_is : {X : Type 0} (o : Option X) → is_none o ≡ true → o ≡ None
none_is None h = refl
none_is (Some x) h = absurd (cc h)

pub some_all : {X : Type 0} (o : Option X) (P : X → Type 0) → ((x : X) → P x) → IfSome o P
some_all None P each = tt
some_all (Some x) P each = each x

pub some_weaker : {X : Type 0} (o : Option X) (P Q : X → Type 0) → ((x : X) → P x → Q x) → IfSome o P → IfSome o Q
some_weaker None P Q f h = tt
some_weaker (Some x) P Q f h = f x h

pub ok_weaker : {T E P Q : Type 0} → (result : Result T E) → (P → Q) → OnOk result P → OnOk result Q
ok_weaker (Ok value) f p = f p
ok_weaker (Err fault) f p = tt

-- an answer that isn't the error that a test tells
pub no_error : {X E : Type 0} (x : X) (fault : E) (b : Bool) → IsErrOf (Ok x) fault ↔ IsTrue b → b ≡ false
no_error x fault false told = refl
no_error x fault true told = absurd (let never : Ok x ≡ Err fault = told.1 refl in cc never)
