-- A unit of bandwidth is found by its letter.
use Rattle.std.proofs.Common.{◌≡◌, ℕ, ◌≤◌, Bool, true, false, cond, eqb, ◌||◌, List, [], ◌∷◌, length, drop, get_or, Option, Some, None, refl, sym, ap, subst, ◌∙◌, arith}
use Rattle.std.specs.Prelude.{codes}
use Rattle.std.proofs.lemmas.Bool.{eqb-true}
use Rattle.lab_base.specs.Names.{same_name}
use Rattle.ns_words.specs.Quantities.{rate_units}
use Rattle.ns_words.specs.Values.{scale_of}
use Rattle.ns_words.specs.Letters.{letter_scale, ended}

-- the three endings, one after another
one_of : (a b c : Bool) (scale : ℕ) → cond (a || (b || c)) (Some scale) None ≡ cond a (Some scale) (cond b (Some scale) (cond c (Some scale) None))
one_of true b c scale = refl
one_of false true c scale = refl
one_of false false true scale = refl
one_of false false false scale = refl

endings : (ending : List ℕ) (scale : ℕ) → ended ending scale ≡ cond (same_name ending []) (Some scale) (cond (same_name ending (codes "b")) (Some scale) (cond (same_name ending (codes "bps")) (Some scale) None))
endings ending scale = one_of (same_name ending []) (same_name ending (codes "b")) (same_name ending (codes "bps")) scale

-- a letter that is known
abbrev Finds : ℕ → Type 0
Finds c = (ending : List ℕ) (scale : ℕ) → letter_scale c ≡ Some scale → ended ending scale ≡ scale_of rate_units (c ∷ ending)

known : (c of : ℕ) → letter_scale c ≡ Some of → ((ending : List ℕ) → ended ending of ≡ scale_of rate_units (c ∷ ending)) → Finds c
known c of is finds ending scale h = let same : scale ≡ of = cc in ap (ended ending) same ∙ finds ending

pub by_letter : (c : ℕ) → Finds c
by_letter c = by (eqb c 107) (eqb c 75) (eqb c 109) (eqb c 77) (eqb c 103) (eqb c 71) refl refl refl refl refl refl
  where
    at : (k : ℕ) → eqb c k ≡ true → Finds k → Finds c
    at k is finds = subst Finds (sym (eqb-true c k is)) finds

    by : (k K m M g G : Bool) → eqb c 107 ≡ k → eqb c 75 ≡ K → eqb c 109 ≡ m → eqb c 77 ≡ M → eqb c 103 ≡ g → eqb c 71 ≡ G → Finds c
    by true K m M g G is h2 h3 h4 h5 h6 = at 107 is (known 107 1000 refl (λ ending. endings ending 1000))
    by false true m M g G h1 is h3 h4 h5 h6 = at 75 is (known 75 1000 refl (λ ending. endings ending 1000))
    by false false true M g G h1 h2 is h4 h5 h6 = at 109 is (known 109 1000000 refl (λ ending. endings ending 1000000))
    by false false false true g G h1 h2 h3 is h5 h6 = at 77 is (known 77 1000000 refl (λ ending. endings ending 1000000))
    by false false false false true G h1 h2 h3 h4 is h6 = at 103 is (known 103 1000000000 refl (λ ending. endings ending 1000000000))
    by false false false false false true h1 h2 h3 h4 h5 is = at 71 is (known 71 1000000000 refl (λ ending. endings ending 1000000000))
    by false false false false false false h1 h2 h3 h4 h5 h6 = λ ending scale h. absurd (let none : None ≡ Some scale = rw (h1, h2, h3, h4, h5, h6) at h in cc)

-- the first byte of a unit and those after it
pub by_first : (unit ending : List ℕ) (found r : Option ℕ) (scale : ℕ) → 1 ≤ length unit → found ≡ letter_scale (get_or unit 0 0) → found ≡ Some scale → ending ≡ drop 1 unit
    → r ≡ ended ending scale → r ≡ scale_of rate_units unit
by_first [] ending found r scale some letter is rest value = absurd (omega arith)
by_first (c ∷ unit) ending found r scale some letter is rest value = value ∙ ap (λ (e : List ℕ). ended e scale) rest ∙ by_letter c unit scale (sym letter ∙ is)
