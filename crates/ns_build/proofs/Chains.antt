-- Chains of checks, each of which passed.
use Rattle.std.proofs.Common.{◌≡◌, ℕ, ◌<◌, Bool, true, false, cond, List, [], ◌∷◌, length, drop, Option, Some, None, Result, Ok, Err, refl, subst, arith}
use Rattle.std.specs.Prelude.{nat_lt, nat_eq, ◌&&◌, decimal}
use Rattle.std.specs.List.{starts_with}
use Rattle.std.proofs.lemmas.Bool.{ltb-true}
use Rattle.lab_base.specs.Numbers.{number_of}
use Rattle.lab_base.specs.declared.fault.Kind.{Kind}
use Rattle.lab_base.specs.Names.{same_name}
use Rattle.lab_base.proofs.Tests.{and_first}
use Rattle.ns_build.specs.Words.{index_below, index_in}
use Rattle.ns_build.specs.Checks.{◌>>=◌, each, need, refuse}

-- a fault, and a value
abbrev pub fault_of : (A : Type 0) → Kind → Result A Kind
fault_of A kind = Err kind

abbrev pub okay : {A : Type 0} → A → Result A Kind
okay x = Ok x

pub then_ok : {A B : Type 0} (r : Result A Kind) (f : A → Result B Kind) (y : B) → (r >>= f) ≡ Ok y → (x : A) × (r ≡ Ok x) × (f x ≡ Ok y)
then_ok (Ok x) f y h = (x, refl, h)
then_ok {A} {B} (Err kind) f y h = absurd (let e : fault_of B kind ≡ Ok y = h in cc)

pub need_ok : {A : Type 0} (kind : Kind) (o : Option A) (x : A) → need kind o ≡ Ok x → o ≡ Some x
need_ok kind (Some y) x h = cc
need_ok {A} kind None x h = absurd (let e : fault_of A kind ≡ Ok x = h in cc)

pub refuse_ok : (kind : Kind) (b : Bool) (u : Unit {0}) → refuse kind b ≡ Ok u → b ≡ false
refuse_ok kind true u h = absurd (let e : fault_of (Unit {0}) kind ≡ Ok u = h in cc)
refuse_ok kind false u h = refl

pub ok_is : {A : Type 0} (x y : A) → okay x ≡ Ok y → x ≡ y
ok_is x y h = cc

-- what the first keeps and each word keeps, the last keeps
pub each_keeps : {X : Type 0} (P : X → Type 0) (add : X → List ℕ → Result X Kind) → ((x : X) (word : List ℕ) (y : X) → P x → add x word ≡ Ok y → P y)
    → (words : List (List ℕ)) (x y : X) → P x → each add x words ≡ Ok y → P y
each_keeps P add step [] x y p h = subst P (ok_is x y h) p
each_keeps P add step (word ∷ words) x y p h =
    let t = then_ok (add x word) (λ more. each add more words) y h in
    each_keeps P add step words t.0 y (step x word t.0 p t.1) t.2

-- an index that a word stands for is below the count
below_is : (count : ℕ) (digits : List ℕ) (o : Option ℕ) (index : ℕ) → index_below count digits o ≡ Some index → index < count
below_is count digits None index h = absurd (let e : None ≡ Some index = h in cc)
below_is count digits (Some number) index h = by (nat_lt number count && same_name digits (decimal number)) refl h
  where
    by : (t : Bool) → (nat_lt number count && same_name digits (decimal number)) ≡ t → cond t (Some number) None ≡ Some index → index < count
    by true test e = let same : number ≡ index = cc in let less : number < count = ltb-true number count (and_first (nat_lt number count) (same_name digits (decimal number)) test) in omega arith
    by false test e = absurd (let none : None ≡ Some index = e in cc)

pub index_is_below : (mark : List ℕ) (count : ℕ) (word : List ℕ) (index : ℕ) → index_in mark count word ≡ Some index → index < count
index_is_below mark count word index h = by (starts_with nat_eq word mark) h
  where
    by : (t : Bool) → cond t (index_below count (drop (length mark) word) (number_of 65534 (drop (length mark) word))) None ≡ Some index → index < count
    by true e = below_is count (drop (length mark) word) (number_of 65534 (drop (length mark) word)) index e
    by false e = absurd (let none : None ≡ Some index = e in cc)
