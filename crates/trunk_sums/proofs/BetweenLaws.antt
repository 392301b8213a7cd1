-- One trunk more between two switches.
use Rattle.std.proofs.Common.{◌≡◌, ◌≢◌, ◌<◌, ◌≤◌, ◌+◌, ◌∙◌, ◌++◌, ◌∷◌, [], inl, inr, ℕ, suc, Bool, true, false, cond, List, length, map, get_or, All, refl, ap, sym, subst, arith}
use Rattle.std.proofs.lemmas.Bool.{cases_lt}
use Rattle.std.proofs.lemmas.List.{length-append, get_or-map}
use Rattle.std.proofs.lemmas.List.Sums.{sum_by-append, sum_by-cons}
use Rattle.std.proofs.lemmas.List.Elements.{All-cons, All-append}
use Rattle.phys_lab.specs.Labs.{Lab}
use Rattle.phys_lab.specs.Sides.{on_first_side}
use Rattle.trunk_sums.specs.declared.crossing.Crossing.{Crossing}
use Rattle.lab_base.specs.declared.ids.IfaceId.{IfaceId}
use Rattle.lab_base.specs.declared.ids.SwitchId.{SwitchId}
use Rattle.phys_lab.specs.declared.parts.Iface.{Iface}
use Rattle.trunk_sums.specs.Crossed.{ups, downs, is_on, side_of, AreCrossed}
use Rattle.trunk_sums.specs.Between.{on_side, crossing_of, no_iface, AreBetween}
use Rattle.trunk_sums.proofs.CrossLaws.{up, down, up_other, down_other, up_this, down_this}

-- crossings of trunks below n are not of trunk n
none_up : (t : ℕ) (cs : List Crossing) → All (λ c. c.trunk < t) cs → ups t cs ≡ 0
none_up t [] within = refl
none_up t (c ∷ cs) within =
    let below : c.trunk < t = within 0 c (omega arith) in
    let first = up_other t c (λ e. absurd (omega (arith, e, below))) in
    let rest = none_up t cs (λ k d lt. within (suc k) d (omega (arith, lt))) in
    let sum = sum_by-cons (up t) c cs in
    omega (arith, first, rest, sum)

none_down : (t : ℕ) (cs : List Crossing) → All (λ c. c.trunk < t) cs → downs t cs ≡ 0
none_down t [] within = refl
none_down t (c ∷ cs) within =
    let below : c.trunk < t = within 0 c (omega arith) in
    let first = down_other t c (λ e. absurd (omega (arith, e, below))) in
    let rest = none_down t cs (λ k d lt. within (suc k) d (omega (arith, lt))) in
    let sum = sum_by-cons (down t) c cs in
    omega (arith, first, rest, sum)

-- what is said of one trunk
pub record One (a b u d : ℕ) : Type 0 where
  pub each : a + u ≡ b + d
  pub gone : d ≤ a
  pub come : u + a ≤ 1

own : (n : ℕ) (x y : Bool) → One (cond x 1 0) (cond y 1 0) (ups n (crossing_of x y n)) (downs n (crossing_of x y n))
own n true true = record { each = omega arith; gone = omega arith; come = omega arith }
own n false false = record { each = omega arith; gone = omega arith; come = omega arith }
own n true false =
    let c : Crossing = record { trunk = n; onto = false } in
    let u = up_this c in
    let d = down_this c in
    let us = sum_by-cons (up n) c [] in
    let ds = sum_by-cons (down n) c [] in
    record { each = omega (arith, u, d, us, ds); gone = omega (arith, d, ds); come = omega (arith, u, us) }
own n false true =
    let c : Crossing = record { trunk = n; onto = true } in
    let u = up_this c in
    let d = down_this c in
    let us = sum_by-cons (up n) c [] in
    let ds = sum_by-cons (down n) c [] in
    record { each = omega (arith, u, d, us, ds); gone = omega (arith, d, ds); come = omega (arith, u, us) }

other_up : (t n : ℕ) (x y : Bool) → n ≢ t → ups t (crossing_of x y n) ≡ 0
other_up t n true true ne = refl
other_up t n false false ne = refl
other_up t n true false ne = (let c : Crossing = record { trunk = n; onto = false } in let u = up_other t c ne in let us = sum_by-cons (up t) c [] in omega (arith, u, us))
other_up t n false true ne = (let c : Crossing = record { trunk = n; onto = true } in let u = up_other t c ne in let us = sum_by-cons (up t) c [] in omega (arith, u, us))

other_down : (t n : ℕ) (x y : Bool) → n ≢ t → downs t (crossing_of x y n) ≡ 0
other_down t n true true ne = refl
other_down t n false false ne = refl
other_down t n true false ne = (let c : Crossing = record { trunk = n; onto = false } in let u = down_other t c ne in let us = sum_by-cons (down t) c [] in omega (arith, u, us))
other_down t n false true ne = (let c : Crossing = record { trunk = n; onto = true } in let u = down_other t c ne in let us = sum_by-cons (down t) c [] in omega (arith, u, us))

short : (x y : Bool) (n : ℕ) → length (crossing_of x y n) ≤ 1
short true true n = omega arith
short false false n = omega arith
short true false n = omega arith
short false true n = omega arith

below : (x y : Bool) (n : ℕ) → All (λ c. c.trunk < n + 1) (crossing_of x y n)
below true true n = λ k d lt. absurd (omega (arith, lt))
below false false n = λ k d lt. absurd (omega (arith, lt))
below true false n = All-cons (λ c. c.trunk < n + 1) (record { trunk = n; onto = false }) [] (omega arith) (λ k d lt. absurd (omega (arith, lt)))
below false true n = All-cons (λ c. c.trunk < n + 1) (record { trunk = n; onto = true }) [] (omega arith) (λ k d lt. absurd (omega (arith, lt)))

pub between_more : (lab : Lab) (a b n : ℕ) (x y : Bool) (cs : List Crossing) → AreBetween lab a b n cs → x ≡ on_first_side lab.trunks n a → y ≡ on_first_side lab.trunks n b
    → AreBetween lab a b (n + 1) (cs ++ crossing_of x y n)
between_more lab a b n x y cs h is_x is_y =
    let here = crossing_of x y n in
    let one : One (on_side lab n a) (on_side lab n b) (ups n here) (downs n here) =
    subst (λ (u : Bool). One (cond u 1 0) (on_side lab n b) (ups n here) (downs n here)) is_x
    (subst (λ (u : Bool). One (cond x 1 0) (cond u 1 0) (ups n here) (downs n here)) is_y (own n x y)) in
    let us : (t : ℕ) → ups t (cs ++ here) ≡ ups t cs + ups t here = λ t. sum_by-append (up t) cs here in
    let ds : (t : ℕ) → downs t (cs ++ here) ≡ downs t cs + downs t here = λ t. sum_by-append (down t) cs here in
    let all : (t : ℕ) → t < n + 1 → One (on_side lab t a) (on_side lab t b) (ups t (cs ++ here)) (downs t (cs ++ here)) = λ t lt. elim (cases_lt t n) [
      | inl less ↦ (
          let ne : n ≢ t = λ e. absurd (omega (arith, e, less)) in
          let u0 = other_up t n x y ne in
          let d0 = other_down t n x y ne in
          let u = us t in
          let d = ds t in
          let each = h.each t less in
          let gone = h.gone t less in
          let come = h.come t less in
          record { each = omega (arith, u0, d0, u, d, each); gone = omega (arith, d0, d, gone); come = omega (arith, u0, u, come) })
      | inr more ↦ (
          let same : n ≡ t = omega (arith, more, lt) in
          let u0 = none_up n cs h.within in
          let d0 = none_down n cs h.within in
          let u = us n in
          let d = ds n in
          let at : One (on_side lab n a) (on_side lab n b) (ups n (cs ++ here)) (downs n (cs ++ here)) = record { each = omega (arith, u0, d0, u, d, one.each); gone = omega (arith, d0, d, one.gone); come = omega (arith, u0, u, one.come) } in
          subst (λ (k : ℕ). One (on_side lab k a) (on_side lab k b) (ups k (cs ++ here)) (downs k (cs ++ here))) same at)
    ] in
    record {
      within = All-append (λ c. c.trunk < n + 1) cs here (λ k d lt. (let old = h.within k d lt in omega (arith, old))) (below x y n);
      few = (let len = length-append cs here in let s = short x y n in let few = h.few in omega (arith, len, s, few));
      each = λ t lt. (all t lt).each;
      gone = λ t lt. (all t lt).gone;
      come = λ t lt. (all t lt).come;
    }

pub between_none : (lab : Lab) (a b : ℕ) → AreBetween lab a b 0 []
between_none lab a b = record {
  within = λ k d lt. absurd (omega (arith, lt));
  few = omega arith;
  each = λ t lt. absurd (omega (arith, lt));
  gone = λ t lt. absurd (omega (arith, lt));
  come = λ t lt. absurd (omega (arith, lt));
}

-- the side of an interface is that of its switch
pub side_is : (lab : Lab) (t : ℕ) (i : IfaceId) → i.0 < length lab.ifaces → is_on (side_of lab t) i ≡ on_side lab t (get_or lab.ifaces i.0 no_iface).switch.0
side_is lab t i lt = ap (λ (b : Bool). cond b 1 0) (get_or-map (λ (x : Iface). on_first_side lab.trunks t x.switch.0) lab.ifaces i.0 no_iface false lt)

-- what is between the switches of two interfaces is what a plug crosses
pub crossed_of : (lab : Lab) (i j : IfaceId) (a b : ℕ) (cs : List Crossing) → i.0 < length lab.ifaces → j.0 < length lab.ifaces
    → a ≡ (get_or lab.ifaces i.0 no_iface).switch.0 → b ≡ (get_or lab.ifaces j.0 no_iface).switch.0
    → AreBetween lab a b (length lab.trunks) cs → AreCrossed lab i j cs
crossed_of lab i j a b cs i_lt j_lt is_a is_b h =
    let from : (t : ℕ) → is_on (side_of lab t) i ≡ on_side lab t a = λ t. side_is lab t i i_lt ∙ ap (λ (s : ℕ). on_side lab t s) (sym is_a) in
    let to : (t : ℕ) → is_on (side_of lab t) j ≡ on_side lab t b = λ t. side_is lab t j j_lt ∙ ap (λ (s : ℕ). on_side lab t s) (sym is_b) in
    record {
      within = h.within;
      few = h.few;
      each = λ t lt. (let x = from t in let y = to t in let z = h.each t lt in omega (arith, x, y, z));
      gone = λ t lt. (let x = from t in let z = h.gone t lt in omega (arith, x, z));
      come = λ t lt. (let x = from t in let z = h.come t lt in omega (arith, x, z));
    }

-- the switch of an interface, read from a table of them
pub switch_read : (lab : Lab) (switches : List SwitchId) (i : ℕ) (d : SwitchId) → switches ≡ map (λ iface. iface.switch) lab.ifaces → i < length lab.ifaces → get_or switches i d ≡ (get_or lab.ifaces i no_iface).switch
switch_read lab switches i d same lt = ap (λ (l : List SwitchId). get_or l i d) same ∙ get_or-map (λ (iface : Iface). iface.switch) lab.ifaces i no_iface d lt
