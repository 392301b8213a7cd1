-- The first word of a text, by the place where it ends.
use Rattle.std.specs.Prelude.{position, if◌then◌else◌}
use Rattle.std.specs.List.{position_or_len, prefix_len}
use Rattle.std.proofs.Common.{◌≡◌, ◌+◌, ℕ, suc, Bool, true, false, cond, not, nat_lt, List, [], ◌∷◌, length, take, Some, None, refl, ap, ◌∙◌, arith}
use Rattle.std.proofs.lemmas.Bool.{ltb-false}
use Rattle.std.proofs.lemmas.List.{take_all}
use Rattle.lab_gen.specs.Summary.{ends_word, first_word}

word_is : (text : List ℕ) → first_word text ≡ take (position_or_len ends_word text) text
word_is [] = refl
word_is (b ∷ text) = by (ends_word b) (word_is text)
  where
    by : (e : Bool) → first_word text ≡ take (position_or_len ends_word text) text → (if e then [] else b ∷ first_word text) ≡ take (cond (not e) (1 + prefix_len (λ x. not (ends_word x)) text) 0) (b ∷ text)
    by true rest = refl
    by false rest =
        let n = position_or_len ends_word text in
        let next : suc n ≡ 1 + n = omega arith in ap (λ l. b ∷ l) rest ∙ ap (λ k. take k (b ∷ text)) next

module _ (text : List ℕ) where
  abbrev at : ℕ
  at = position_or_len ends_word text

  found : (b : Bool) (n : ℕ) → cond b (Some at) None ≡ Some n → at ≡ n
  found true n is = cc is
  found false n is = absurd (cc is)

  pub word_before : (n : ℕ) → position ends_word text ≡ Some n → first_word text ≡ take n text
  word_before n is = word_is text ∙ ap (λ k. take k text) (found (nat_lt at (length text)) n is)

  pub word_whole : position ends_word text ≡ None → first_word text ≡ text
  word_whole is = by (nat_lt at (length text)) refl is
    where
      by : (b : Bool) → nat_lt at (length text) ≡ b → cond b (Some at) None ≡ None → first_word text ≡ text
      by true h is = absurd (cc is)
      by false h is = word_is text ∙ take_all at text (ltb-false at (length text) h)
