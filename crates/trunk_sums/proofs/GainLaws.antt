-- The ends that count of a segment, of which a plug goes elsewhere.
use Rattle.std.proofs.Common.{◌≡◌, ◌≤◌, ◌+◌, ◌-◌, ◌%◌, ◌∙◌, ℕ, zero, suc, min, max, refl, ap, sym, subst, arith}
use Rattle.trunk_sums.specs.declared.gains.Gains.{Gains}
use Rattle.std.specs.Int.{bit_at}
use Rattle.trunk_sums.specs.Counts.{lesser}
use Rattle.trunk_sums.specs.Gains.{IsGain}

-- a plug goes from a side to a side, x and y of which are the first one, and z tells whether they differ: k plugs are there before, and q after
pub lesser_after : (m k q x y z t add take : ℕ) (g : Gains) → IsGain m k t g → x ≤ 1 → y ≤ 1 → x ≤ k → q + x ≡ k + y → z ≡ (x + y) % 2
    → add ≡ max (min (min y z) (bit_at g.onto_adds t)) (min (min x z) (bit_at g.off_adds t))
    → take ≡ max (min (min y z) (bit_at g.onto_takes t)) (min (min x z) (bit_at g.off_takes t))
    → lesser m q + take ≡ lesser m k + add
lesser_after m k q zero zero z t add take g is x_le y_le some moved apart adds takes =
    let same : q ≡ k = omega (arith, moved) in
    let counts : ◌≡◌ {A = ℕ} (lesser m q) (lesser m k) = ap (λ (n : ℕ). lesser m n) same in
    omega (arith, counts, apart, adds, takes)
lesser_after m k q (suc zero) (suc zero) z t add take g is x_le y_le some moved apart adds takes =
    let same : q ≡ k = omega (arith, moved) in
    let counts : ◌≡◌ {A = ℕ} (lesser m q) (lesser m k) = ap (λ (n : ℕ). lesser m n) same in
    omega (arith, counts, apart, adds, takes)
lesser_after m k q zero (suc zero) z t add take g is x_le y_le some moved apart adds takes =
    let same : q ≡ k + 1 = omega (arith, moved) in
    let counts : ◌≡◌ {A = ℕ} (lesser m q) (lesser m (k + 1)) = ap (λ (n : ℕ). lesser m n) same in
    let more = is.onto_adds in
    let less = is.onto_takes in
    omega (arith, counts, apart, adds, takes, more, less)
lesser_after m k q (suc zero) zero z t add take g is x_le y_le some moved apart adds takes =
    let same : q ≡ k - 1 = omega (arith, moved) in
    let counts : ◌≡◌ {A = ℕ} (lesser m q) (lesser m (k - 1)) = ap (λ (n : ℕ). lesser m n) same in
    let more = is.off_adds in
    let less = is.off_takes in
    omega (arith, counts, apart, adds, takes, more, less)
lesser_after m k q (suc (suc x)) y z t add take g is x_le y_le some moved apart adds takes = absurd (omega (arith, x_le))
lesser_after m k q x (suc (suc y)) z t add take g is x_le y_le some moved apart adds takes = absurd (omega (arith, y_le))

-- what a plug more of a link adds to the ends that count, k of whose plugs are on the first side of a trunk, what it takes, and what a plug less adds
abbrev pub none_at : ℕ → ℕ
none_at k = lesser 2 (k + 1) - lesser 2 k

abbrev pub one_at : ℕ → ℕ
one_at k = lesser 2 k - lesser 2 (k + 1)

abbrev pub both_at : ℕ → ℕ
both_at k = lesser 2 (k - 1) - lesser 2 k

-- the same once a plug went from side x to side y, where z tells whether these differ
abbrev pub none_after : (n o x z : ℕ) → ℕ
none_after n o x z = max ((n + min n z) % 2) (min o (min x z))

abbrev pub one_after : (n o b x y z : ℕ) → ℕ
one_after n o b x y z = max (max ((o + min o z) % 2) (min n (min y z))) (min b (min x z))

abbrev pub both_after : (o b y z : ℕ) → ℕ
both_after o b y z = max ((b + min b z) % 2) (min o (min y z))

-- what is known of a link, k of whose plugs are on the first side of a trunk: a plug less takes what one more takes
pub record Link (k n o b : ℕ) : Type 0 where
  pub none : n ≡ none_at k
  pub one : o ≡ one_at k
  pub both : b ≡ both_at k
  pub too : o ≡ lesser 2 k - lesser 2 (k - 1)

-- each way in which a plug of a link may go
ways : (k x y : ℕ) → k ≤ 2 → x ≤ 1 → y ≤ 1 → x ≤ k → k + y ≤ 2 + x
    → Link (k + y - x) (none_after (none_at k) (one_at k) x ((x + y) % 2)) (one_after (none_at k) (one_at k) (both_at k) x y ((x + y) % 2)) (both_after (one_at k) (both_at k) y ((x + y) % 2))
ways zero zero zero k_le x_le y_le some within = record { none = refl; one = refl; both = refl; too = refl }
ways zero zero (suc zero) k_le x_le y_le some within = record { none = refl; one = refl; both = refl; too = refl }
ways (suc zero) zero zero k_le x_le y_le some within = record { none = refl; one = refl; both = refl; too = refl }
ways (suc zero) zero (suc zero) k_le x_le y_le some within = record { none = refl; one = refl; both = refl; too = refl }
ways (suc zero) (suc zero) zero k_le x_le y_le some within = record { none = refl; one = refl; both = refl; too = refl }
ways (suc zero) (suc zero) (suc zero) k_le x_le y_le some within = record { none = refl; one = refl; both = refl; too = refl }
ways (suc (suc zero)) zero zero k_le x_le y_le some within = record { none = refl; one = refl; both = refl; too = refl }
ways (suc (suc zero)) (suc zero) zero k_le x_le y_le some within = record { none = refl; one = refl; both = refl; too = refl }
ways (suc (suc zero)) (suc zero) (suc zero) k_le x_le y_le some within = record { none = refl; one = refl; both = refl; too = refl }
ways zero (suc x) y k_le x_le y_le some within = absurd (omega (arith, some))
ways (suc (suc zero)) zero (suc zero) k_le x_le y_le some within = absurd (omega (arith, within))
ways k x (suc (suc y)) k_le x_le y_le some within = absurd (omega (arith, y_le))
ways k (suc (suc x)) y k_le x_le y_le some within = absurd (omega (arith, x_le))
ways (suc (suc (suc k))) x y k_le x_le y_le some within = absurd (omega (arith, k_le))

-- a plug of a link goes from a side to a side: k plugs are on the first one before, and q after
pub link_after : (k q x y z n o b none one both : ℕ) → k ≤ 2 → q ≤ 2 → x ≤ 1 → y ≤ 1 → x ≤ k → q + x ≡ k + y → z ≡ (x + y) % 2
    → n ≡ none_at k → o ≡ one_at k → b ≡ both_at k
    → none ≡ none_after n o x z → one ≡ one_after n o b x y z → both ≡ both_after o b y z
    → Link q none one both
link_after k q x y z n o b none one both k_le q_le x_le y_le some moved apart n_is o_is b_is nones ones boths =
    let law = ways k x y k_le x_le y_le some (omega (arith, q_le, moved)) in
    let is : q ≡ k + y - x = omega (arith, moved) in
    let none_is = nones ∙ (λ i. none_after (n_is i) (o_is i) x (apart i)) in
    let one_is = ones ∙ (λ i. one_after (n_is i) (o_is i) (b_is i) x y (apart i)) in
    let both_is = boths ∙ (λ i. both_after (o_is i) (b_is i) y (apart i)) in
    subst (λ (j : ℕ). Link j none one both) (sym is) (record { none = none_is ∙ law.none; one = one_is ∙ law.one; both = both_is ∙ law.both; too = one_is ∙ law.too })
