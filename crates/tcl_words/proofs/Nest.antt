-- The rules of `Passes` at tokens and sizes that are given by equations, and the stack of what is open.
use Rattle.std.proofs.Common.{◌≡◌, ℕ, ◌+◌, ◌<◌, ◌⊎◌, inl, inr, List, [], ◌∷◌, Result, Ok, Err, false, length, drop, slice_index, refl, sym, subst}
use Rattle.tcl_words.specs.declared.flaw.Flaw.{Flaw}
use Rattle.tcl_words.specs.declared.frame.BracketState.{BracketState}
use Rattle.tcl_words.specs.declared.frame.BracketState.TheVariants.{Start, Between, Inside, AfterQuote, AfterBrace}
use Rattle.tcl_words.specs.declared.frame.Frame.{Frame}
use Rattle.tcl_words.specs.declared.frame.Frame.TheVariants.{Bracket}
use Rattle.tcl_words.specs.declared.frame.Step.TheVariants.{Goes, Opens}
use Rattle.tcl_words.specs.declared.tokens.Token.{Token}
use Rattle.tcl_words.specs.Tokens.{token_of, token_size, blank_of, comment_from}
use Rattle.tcl_words.specs.Passes.{after_blank, IsBefore, GoesOn, IsPlain, Passes, plain, blank, comment, Leads}

-- a place that is none of the others
pub is_before : (bracket_state : BracketState) → (bracket_state ≡ AfterQuote → ⊥) → (bracket_state ≡ AfterBrace → ⊥) → (bracket_state ≡ Inside → ⊥) → IsBefore bracket_state
is_before Start a b c = tt
is_before Between a b c = tt
is_before Inside a b c = absurd (c refl)
is_before AfterQuote a b c = absurd (a refl)
is_before AfterBrace a b c = absurd (b refl)

module _ (t : List ℕ) where
  pub plain_at : (f g : Frame) (i : ℕ) (k : Token) (o : Result ℕ Flaw) → GoesOn t f i g → k ≡ token_of (drop i t) → IsPlain k
      → Passes t g (i + token_size k) o → Passes t f i o
  plain_at f g i k o on is p rest =
      plain f g i o on (subst IsPlain is p) (subst (λ (k : Token). Passes t g (i + token_size k) o) is rest)

  pub blank_at : (p : ℕ) (bracket_state : BracketState) (i n : ℕ) (o : Result ℕ Flaw) → n ≡ blank_of (drop i t) → 0 < n
      → Passes t (Bracket p (after_blank bracket_state)) (i + n) o → Passes t (Bracket p bracket_state) i o
  blank_at p bracket_state i n o is some rest =
      blank p bracket_state i o (subst (λ (n : ℕ). 0 < n) is some) (subst (λ (n : ℕ). Passes t (Bracket p (after_blank bracket_state)) (i + n) o) is rest)

  pub comment_on : (p : ℕ) (bracket_state : BracketState) (i n : ℕ) (o : Result ℕ Flaw) → bracket_state ≡ Start → i < length t → slice_index t i ≡ 35 → n ≡ comment_from false (drop i t)
      → Passes t (Bracket p Start) (i + n) o → Passes t (Bracket p bracket_state) i o
  comment_on p bracket_state i n o start here byte is rest =
      subst (λ (s : BracketState). Passes t (Bracket p s) i o) (sym start)
      (comment p i o here byte (subst (λ (n : ℕ). Passes t (Bracket p Start) (i + n) o) is rest))

  -- The outer frames are open, the innermost first. In the inner one the text goes on to this end of them all.
  abbrev pub Finishes : List Frame → Frame → ℕ → Result ℕ Flaw → Type 0
  Finishes [] f i o = Passes t f i o
  Finishes (g ∷ gs) f i o =
      ((m : ℕ) × Passes t f i (Ok m) × Finishes gs g m o) ⊎ ((e : Flaw) × Passes t f i (Err e) × (o ≡ Err e))

  pub goes_on : (gs : List Frame) (f g : Frame) (i j : ℕ) (o : Result ℕ Flaw) → Leads t f i (Goes g j) → Finishes gs g j o → Finishes gs f i o
  goes_on [] f g i j o leads h = leads o h
  goes_on (k ∷ gs) f g i j o leads h =
      elim h [ inl x ↦ inl (x.0, leads (Ok x.0) x.1, x.2) | inr x ↦ inr (x.0, leads (Err x.0) x.1, x.2) ]

  pub opens : (gs : List Frame) (f inner g : Frame) (i j : ℕ) (o : Result ℕ Flaw) → Leads t f i (Opens inner j g)
      → Finishes (g ∷ gs) inner j o → Finishes gs f i o
  opens [] f inner g i j o leads h =
      elim h [ inl x ↦ leads.0 x.0 o x.1 x.2 | inr x ↦ subst (λ (o : Result ℕ Flaw). Passes t f i o) (sym x.2) (leads.1 x.0 x.1) ]
  opens (k ∷ gs) f inner g i j o leads h =
      elim h [
        | inl x ↦ elim x.2 [ inl y ↦ inl (y.0, leads.0 x.0 (Ok y.0) x.1 y.1, y.2) | inr y ↦ inr (y.0, leads.0 x.0 (Err y.0) x.1 y.1, y.2) ]
        | inr x ↦ inr (x.0, leads.1 x.0 x.1, x.2)
      ]

  pub closes : (gs : List Frame) (f g : Frame) (i j : ℕ) (o : Result ℕ Flaw) → Passes t f i (Ok j) → Finishes gs g j o → Finishes (g ∷ gs) f i o
  closes gs f g i j o p h = inl (j, p, h)

  pub fails : (gs : List Frame) (f : Frame) (i : ℕ) (e : Flaw) → Passes t f i (Err e) → Finishes gs f i (Err e)
  fails [] f i e p = p
  fails (g ∷ gs) f i e p = inr (e, p, refl)
