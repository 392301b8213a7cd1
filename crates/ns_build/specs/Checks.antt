-- The checks of a command: each gives a value, or the fault of the command.
use Rattle.std.specs.Prelude.{ℕ, ◌==◌, Bool, true, false, not, List, [], ◌∷◌, length, codes, Option, Some, None, Result, Ok, Err, slice_index_or, if◌then◌else◌}
use Rattle.lab_base.specs.Names.{is_name, same_name}
use Rattle.lab_base.specs.declared.fault.Kind.{Kind}
use Rattle.lab_base.specs.declared.fault.Kind.TheVariants as kinds
use Rattle.ns_words.specs.Values.{bandwidth_of, delay_of, loss_of}
use Rattle.ns_words.specs.Addresses.{address_of}
use Rattle.ns_words.specs.Objects.{object_name_of}

-- the first fault counts
infixl 10 ◌>>=◌
abbrev pub ◌>>=◌ : {A B : Type 0} → Result A Kind → (A → Result B Kind) → Result B Kind
(Ok x) >>= f = f x
(Err kind) >>= f = Err kind

-- the words of a list one after another
abbrev pub each : {X : Type 0} → (X → List ℕ → Result X Kind) → X → List (List ℕ) → Result X Kind
each add x [] = Ok x
each add x (word ∷ words) = add x word >>= (λ more. each add more words)

-- the fault where there is no value
abbrev pub need : {A : Type 0} → Kind → Option A → Result A Kind
need kind None = Err kind
need kind (Some x) = Ok x

-- the fault where this is so
abbrev pub refuse : Kind → Bool → Result (Unit {0}) Kind
refuse kind b = if b then Err kind else Ok tt

-- the word at an index, the first being 0
abbrev pub word_at : List (List ℕ) → ℕ → List ℕ
word_at words index = slice_index_or words index []

-- there are so many words
abbrev pub counted : ℕ → List (List ℕ) → Result (Unit {0}) Kind
counted count words = refuse kinds.Arity (not (length words == count))

-- what a word has to be
unfoldable pub name_in : List ℕ → Result (List ℕ) Kind
name_in word = refuse kinds.Name (not (is_name word)) >>= (λ form. Ok word)

unfoldable pub bandwidth_in : List ℕ → Result ℕ Kind
bandwidth_in word = need kinds.Bandwidth (bandwidth_of word)

unfoldable pub delay_in : List ℕ → Result ℕ Kind
delay_in word = need kinds.Delay (delay_of word)

unfoldable pub loss_in : List ℕ → Result ℕ Kind
loss_in word = need kinds.Loss (loss_of word)

-- `0` or `1`
unfoldable pub flag_in : List ℕ → Result Bool Kind
flag_in word = if same_name word (codes "0") then Ok false else (if same_name word (codes "1") then Ok true else Err kinds.Number)

unfoldable pub address_in : List ℕ → Result ℕ Kind
address_in word = need kinds.Ip (address_of word)

unfoldable pub object_name_in : List ℕ → Result (List ℕ) Kind
object_name_in variable = need kinds.Name (object_name_of variable)
