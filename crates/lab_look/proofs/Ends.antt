-- Records that end moves, at the back of others; those at the front.
use Rattle.std.specs.List.{list_all}
use Rattle.std.proofs.Common.{◌≡◌, inl, inr, ℕ, zero, suc, ◌<◌, ◌≤◌, true, false, List, [], ◌∷◌, length, take, drop, get_or, sym, ap, ◌∙◌, arith}
use Rattle.std.proofs.lemmas.Bool.{false≢true, and_parts, and_from}
use Rattle.lab_base.specs.Lists.{Has}
use Rattle.journal_rec.specs.declared.record.Found.{Found}
use Rattle.lab_state.specs.Replays.{records_of}
use Rattle.lab_look.specs.Beside.{is_end}

-- one more
pub one_more : (fs : List Found) (n : ℕ) (f : Found) → n < length fs → f ≡ get_or fs n f → is_end f.entry ≡ true → list_all is_end (drop (suc n) (records_of fs)) ≡ true
    → list_all is_end (drop n (records_of fs)) ≡ true
one_more [] n f inside is end all = absurd (omega (arith, inside))
one_more (g ∷ fs) zero f inside is end all = and_from _ _ (ap (λ (x : Found). is_end x.entry) (sym is) ∙ end) all
one_more (g ∷ fs) (suc n) f inside is end all = one_more fs n f (omega (arith, inside)) is end all

-- no more, where the record before them is none
pub no_more_ends : (fs : List Found) (n k : ℕ) (f : Found) → k < length fs → f ≡ get_or fs k f → is_end f.entry ≡ false → n ≤ k
    → list_all is_end (drop n (records_of fs)) ≡ true → ⊥
no_more_ends [] n k f inside is none le all = absurd (omega (arith, inside))
no_more_ends (g ∷ fs) zero zero f inside is none le all = absurd (false≢true (sym none ∙ ap (λ (x : Found). is_end x.entry) is ∙ (and_parts _ _ all).0))
no_more_ends (g ∷ fs) zero (suc k) f inside is none le all = no_more_ends fs zero k f (omega (arith, inside)) is none (omega arith) (and_parts _ _ all).1
no_more_ends (g ∷ fs) (suc n) zero f inside is none le all = absurd (omega (arith, le))
no_more_ends (g ∷ fs) (suc n) (suc k) f inside is none le all = no_more_ends fs n k f (omega (arith, inside)) is none (omega (arith, le)) all

pub has_front : (fs : List Found) (n : ℕ) (f : Found) → Has (take n fs) f → Has fs f
has_front fs zero f h = absurd h
has_front [] (suc n) f h = absurd h
has_front (g ∷ fs) (suc n) f (inl is) = inl is
has_front (g ∷ fs) (suc n) f (inr more) = inr (has_front fs n f more)
