-- A line at the front of what is pending.
use Rattle.std.proofs.Common.{◌≡◌, ℕ, ◌+◌, ◌<◌, ◌≤◌, List, [], ◌∷◌, ◌++◌, length, take, drop, Option, None, Some, Vec, vec_len, sym, ◌∙◌, ap, arith, take-append-drop}
use Rattle.std.specs.Prelude.{slice_index}
use Rattle.std.specs.Io.KnownBytes.{prepend_known, IsAtEnd}
use Rattle.std.proofs.lemmas.List.{take_more, take_all, drop_all, length-take, take-take, length-take-le}
use Rattle.std.specs.declared.alloc.Global.{Global}
use Rattle.lab_io.specs.Feeds.{NoFeed, EndedLine, LastLine, without_return}
use Rattle.lab_io.proofs.Known.{prepend_known-append}

-- what is taken from the front goes before what stays
pub front : (n : ℕ) (pending : List ℕ) (left : Option (List ℕ)) → prepend_known pending left ≡ prepend_known (take n pending) (prepend_known (drop n pending) left)
front n pending left = ap (λ (l : List ℕ). prepend_known l left) (sym (take-append-drop n pending)) ∙ sym (prepend_known-append (take n pending) (drop n pending) left)

pub ended : (pending text : List ℕ) (at end : ℕ) → at < length pending → NoFeed (take at pending) → slice_index pending at ≡ 10 → end ≤ length (take at pending) → take end (take at pending) ≡ without_return (take at pending)
    → text ≡ take end pending → EndedLine (take (at + 1) pending) text
ended pending text at end lt none feed short cut is = (
  take at pending,
  take_more pending at 0 lt ∙ ap (λ (b : ℕ). take at pending ++ b ∷ []) feed,
  none,
  is ∙ sym (take-take end at pending (omega (arith, length-take-le at pending (omega arith)))) ∙ cut,
)

-- a last line is all that is left
pub at_end : (pending : List ℕ) (left : Option (List ℕ)) → IsAtEnd left → IsAtEnd (prepend_known (drop (length pending) pending) left)
at_end pending None end = tt
at_end pending (Some xs) end = ap (λ (l : List ℕ). l ++ xs) (drop_all (length pending) pending (omega arith)) ∙ end

-- the text of an ended line is not longer than what stands before the line feed
pub text_short : (pending text : List ℕ) (end : ℕ) → text ≡ take end pending → end ≤ 4096 → length text ≤ 4096
text_short pending text end is short = omega (arith, ap length is, length-take end pending)

pub last_line : (pending text : List ℕ) → NoFeed pending → 0 < length pending → text ≡ take (length pending) pending → LastLine pending text
last_line pending text none some is = (sym (is ∙ take_all (length pending) pending (omega arith)), none, some)

pub cut_len : (front : List ℕ) (end : ℕ) → end ≤ length front → take end front ≡ without_return front → 4096 < end → 4096 < length (without_return front)
cut_len front end le is long = omega (arith, ap length is, length-take-le end front le)

pub all_front : (pending : List ℕ) (left : Option (List ℕ)) → prepend_known pending left ≡ prepend_known pending (prepend_known (drop (length pending) pending) left)
all_front pending left = front (length pending) pending left ∙ ap (λ (l : List ℕ). prepend_known l (prepend_known (drop (length pending) pending) left)) (take_all (length pending) pending (omega arith))

pub length_items : (v : Vec ℕ Global) → length v.items ≡ vec_len v
length_items v = sym v.ok.0

-- the line with its line feed
pub with_feed : (pending : List ℕ) (at : ℕ) → at < length pending → slice_index pending at ≡ 10 → take (at + 1) pending ≡ take at pending ++ 10 ∷ []
with_feed pending at lt feed = take_more pending at 0 lt ∙ ap (λ (b : ℕ). take at pending ++ b ∷ []) feed

pub length_front : (pending : List ℕ) (at : ℕ) → at < length pending → length (take (at + 1) pending) ≡ at + 1
length_front pending at lt = length-take-le (at + 1) pending (omega arith)
