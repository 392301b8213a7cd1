-- The number after `--gen`.
use Rattle.std.proofs.Common.{◌≡◌, ◌∙◌, ℕ, Bool, true, false, List, Option, Some, None, Result, Ok, Err, refl, sym, ap, arith}
use Rattle.std.specs.Prelude.{if◌then◌else◌}
use Rattle.std.specs.Str.Parse.{ParsesUnsigned, digits_value, without_leading_plus}
use Rattle.clap.specs.Matches.{TriesOne}
use Rattle.clap.specs.ValueTests.{accepts}
use Rattle.clap.specs.declared.builder.value_parser.ValueParser.TheVariants as vp
use Rattle.clap.proofs.ValueTestLemmas.{accepts-Accepts, Accepts-accepts}
use Rattle.lab_words.specs.Words.{number_if, number_named}

module _ {E : Type 0} (gives : List ℕ → Result ℕ E → Type 0) (parses : (text : List ℕ) (r : Result ℕ E) → gives text r → ParsesUnsigned 64 10 text r) where
  -- a number is read
  read : (text : List ℕ) (n : ℕ) → gives text (Ok n) → number_named text ≡ Some n
  read text n given =
      let p = parses text (Ok n) given in
      let test : accepts false (vp.Unsigned 0 18446744073709551615) text ≡ true = Accepts-accepts false (vp.Unsigned 0 18446744073709551615) text (p.0.0, p.0.1, omega arith, omega (arith, p.0.1)) in
      ap (λ b. if b then Some (digits_value 10 (without_leading_plus text)) else None) test ∙ ap (λ (v : ℕ). let o : Option ℕ = Some v in o) (sym p.1)

  -- what stands there is no number
  unread : (text : List ℕ) (fault : E) → gives text (Err fault) → number_named text ≡ None
  unread text fault given = by (accepts false (vp.Unsigned 0 18446744073709551615) text) refl
    where
      by : (b : Bool) → accepts false (vp.Unsigned 0 18446744073709551615) text ≡ b → (if b then Some (digits_value 10 (without_leading_plus text)) else None) ≡ None
      by true is = let a = accepts-Accepts false (vp.Unsigned 0 18446744073709551615) text is in absurd (parses text (Err fault) given (a.0, a.1))
      by false is = refl

  pub number_by : (found : Option (List ℕ)) (r : Result (Option ℕ) E) (number : Option ℕ) → r ≡ Ok number → (found ≡ None → r ≡ Ok None) → ((text : List ℕ) → found ≡ Some text → TriesOne gives text r) → Some number ≡ number_if found
  number_by None r number is none some = let same : number ≡ None = cc (is, none refl) in ap (λ (o : Option ℕ). let p : Option (Option ℕ) = Some o in p) same
  number_by (Some text) r number is none some = by number (rw is at some text refl)
    where
      by : (number : Option ℕ) → TriesOne gives text (Ok number) → Some number ≡ number_if (Some text)
      by None h = absurd h
      by (Some n) h = rw (read text n h) refl

  pub no_number : (found : Option (List ℕ)) (r : Result (Option ℕ) E) (fault : E) → r ≡ Err fault → (found ≡ None → r ≡ Ok None) → ((text : List ℕ) → found ≡ Some text → TriesOne gives text r) → None ≡ number_if found
  no_number None r fault is none some = absurd (cc (is, none refl))
  no_number (Some text) r fault is none some = let h = rw is at some text refl in rw (unread text fault h) refl
