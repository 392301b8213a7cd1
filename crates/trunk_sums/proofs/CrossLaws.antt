-- The steps of a row of counts.
use Rattle.std.proofs.Common.{◌≡◌, ◌≢◌, ◌<◌, ◌≤◌, ◌+◌, ◌-◌, ◌∙◌, ℕ, Bool, true, false, cond, eqb, not, ◌&&◌, List, length, take, get_or, refl, ap, arith}
use Rattle.std.proofs.lemmas.Bool.{eq-eqb, ne_eqb}
use Rattle.std.proofs.lemmas.List.Sums.{sum_by_more, sum_by_more_le}
use Rattle.trunk_sums.specs.declared.crossing.Crossing.{Crossing}
use Rattle.trunk_sums.specs.Crossed.{ups, downs}
use Rattle.trunk_sums.specs.Counts.{after}

-- 1 where the crossing is of trunk t and onto its first side; off it
abbrev pub up : ℕ → Crossing → ℕ
up t c = cond (eqb c.trunk t && c.onto) 1 0

abbrev pub down : ℕ → Crossing → ℕ
down t c = cond (eqb c.trunk t && not c.onto) 1 0

pub ups_more : (t : ℕ) (cs : List Crossing) (i : ℕ) (d : Crossing) → i < length cs → ups t (take (i + 1) cs) ≡ ups t (take i cs) + up t (get_or cs i d)
ups_more t cs i d lt = sum_by_more (up t) cs i d lt

pub downs_more : (t : ℕ) (cs : List Crossing) (i : ℕ) (d : Crossing) → i < length cs → downs t (take (i + 1) cs) ≡ downs t (take i cs) + down t (get_or cs i d)
downs_more t cs i d lt = sum_by_more (down t) cs i d lt

pub ups_within : (t : ℕ) (cs : List Crossing) (i : ℕ) (d : Crossing) → i < length cs → ups t (take i cs) + up t (get_or cs i d) ≤ ups t cs
ups_within t cs i d lt = sum_by_more_le (up t) cs i d lt

pub downs_within : (t : ℕ) (cs : List Crossing) (i : ℕ) (d : Crossing) → i < length cs → downs t (take i cs) + down t (get_or cs i d) ≤ downs t cs
downs_within t cs i d lt = sum_by_more_le (down t) cs i d lt

-- of another trunk
pub up_other : (t : ℕ) (c : Crossing) → c.trunk ≢ t → up t c ≡ 0
up_other t c ne = ap (λ (b : Bool). cond (b && c.onto) 1 0) (ne_eqb c.trunk t ne)

pub down_other : (t : ℕ) (c : Crossing) → c.trunk ≢ t → down t c ≡ 0
down_other t c ne = ap (λ (b : Bool). cond (b && not c.onto) 1 0) (ne_eqb c.trunk t ne)

-- of this one
pub up_this : (c : Crossing) → up c.trunk c ≡ cond c.onto 1 0
up_this c = ap (λ (b : Bool). cond (b && c.onto) 1 0) (eq-eqb c.trunk c.trunk refl)

pub down_this : (c : Crossing) → down c.trunk c ≡ cond (not c.onto) 1 0
down_this c = ap (λ (b : Bool). cond (b && not c.onto) 1 0) (eq-eqb c.trunk c.trunk refl)

-- the count of the trunk that is crossed
pub crossed_row : (c : Crossing) (now before ds us : ℕ) → now + ds ≡ before + us → (c.onto ≡ false → 0 < now)
    → after c.onto now + (ds + down c.trunk c) ≡ before + (us + up c.trunk c)
crossed_row c now before ds us e some = by c.onto refl
  where
    by : (b : Bool) → c.onto ≡ b → after c.onto now + (ds + down c.trunk c) ≡ before + (us + up c.trunk c)
    by true is =
        let next : ◌≡◌ {A = ℕ} (after c.onto now) (now + 1) = ap (λ (x : Bool). after x now) is in
        let u : ◌≡◌ {A = ℕ} (up c.trunk c) 1 = up_this c ∙ ap (λ (x : Bool). cond x 1 0) is in
        let v : ◌≡◌ {A = ℕ} (down c.trunk c) 0 = down_this c ∙ ap (λ (x : Bool). cond (not x) 1 0) is in
        omega (arith, next, u, v, e)
    by false is =
        let next : ◌≡◌ {A = ℕ} (after c.onto now) (now - 1) = ap (λ (x : Bool). after x now) is in
        let u : ◌≡◌ {A = ℕ} (up c.trunk c) 0 = up_this c ∙ ap (λ (x : Bool). cond x 1 0) is in
        let v : ◌≡◌ {A = ℕ} (down c.trunk c) 1 = down_this c ∙ ap (λ (x : Bool). cond (not x) 1 0) is in
        let more = some is in
        omega (arith, next, u, v, e, more)
