use Rattle.std.proofs.Common.{◌≡◌, ◌≤◌, ◌/◌, ◌∙◌, ℕ, List, get_or, Bool, true, false, cond, eqb, ◌&&◌, refl, ap, sym, arith}
use Rattle.std.specs.Prelude.{nat_lt}
use Rattle.std.proofs.lemmas.Bool.{eq-eqb, lt-ltb, ne_eqb}
use Rattle.std.proofs.lemmas.Bool.Decides.{nat_tests}
use Rattle.std.proofs.lemmas.List.{get_or_default}
use Rattle.virt_topo.specs.declared.limits.TheConstants.{MAX_TYPES}
use Rattle.virt_topo.specs.declared.wiring.Class.{Class}
use Rattle.virt_topo.specs.Wirings.{virt_at}
use Rattle.lab_model.specs.Rules.{class_at, no_class, place_at}
use Rattle.map_state.specs.Hosted.{placed_at}
use Rattle.map_state.proofs.MemberLaws.{uncounted, counted}
use Rattle.map_state.proofs.members.Members.last_soft.Goals as goal
use Rattle.map_state.proofs.members.Members.last_soft.Goals.{else-weight-lt1000-via-then-weight-lt1000+else-index-eq1, else-weight-lt1000-via-else-weight-lt1000}

heavy : (n : ℕ) → 1000 ≤ n → nat_lt n 1000 ≡ false
heavy n more = grind (arith, nat_tests)

never : (b : Bool) (n : ℕ) → cond (b && false) n 0 ≡ 0
never true n = refl
never false n = refl

pub returns-then-index-eq1-clause-is : goal.returns-then-index-eq1-clause-is
returns-then-index-eq1-clause-is c = λ p other.
    let w = c.args.wiring.now in
    let x = c.args.self.now in
    let n = c.in-Some.place in
    let at = counted w c.args._mapping.now x c.args.virt n c.requires.sound c.requires.counted c.requires.virt c.requires.placed (sym c.counted.ensures ∙ c.in-Some.is) in
    let d : Class = c.index-as_slice-place.result in
    let weight : ◌≡◌ {A = ℕ} (get_or c.as_slice.result.now (n / MAX_TYPES) d).weight (class_at w (n / MAX_TYPES)).weight =
    ap (λ (l : List Class). (get_or l (n / MAX_TYPES) d).weight) c.as_slice.ensures ∙ ap (λ (y : Class). y.weight) (get_or_default w.classes (n / MAX_TYPES) d no_class at.class) in
    let light : nat_lt (class_at w (n / MAX_TYPES)).weight 1000 ≡ true = lt-ltb _ _ (let less = c.if-weight-lt1000.true in omega (arith, less, weight)) in
    let count : ◌≡◌ {A = ℕ} c.index.result.now (get_or x.counts.items n 0) = c.index.ensures ∙ get_or_default x.counts.items n c.index.result.now 0 at.within in
    let one : eqb (get_or x.counts.items n 0) 1 ≡ true = eq-eqb _ _ (sym count ∙ c.if-index-eq1.true) in
    weight ∙ sym (at.left p other ∙ (λ j. cond (light j && one j) (class_at w (n / MAX_TYPES)).weight 0))

pub returns-else-weight-lt1000-clause-is : goal.returns-else-weight-lt1000-clause-is
returns-else-weight-lt1000-clause-is c = λ p other.
    let w = c.args.wiring.now in
    let x = c.args.self.now in
    let n = c.in-Some.place in
    let at = counted w c.args._mapping.now x c.args.virt n c.requires.sound c.requires.counted c.requires.virt c.requires.placed (sym c.counted.ensures ∙ c.in-Some.is) in
    let own = (class_at w (n / MAX_TYPES)).weight in
    let d : Class = c.index-as_slice-place.result in
    let weight : ◌≡◌ {A = ℕ} (get_or c.as_slice.result.now (n / MAX_TYPES) d).weight own =
    ap (λ (l : List Class). (get_or l (n / MAX_TYPES) d).weight) c.as_slice.ensures ∙ ap (λ (y : Class). y.weight) (get_or_default w.classes (n / MAX_TYPES) d no_class at.class) in
    elim c.else-weight-lt1000.branch [
      | else-weight-lt1000-via-then-weight-lt1000+else-index-eq1 s ↦
          let count : ◌≡◌ {A = ℕ} s.index.result.now (get_or x.counts.items n 0) = s.index.ensures ∙ get_or_default x.counts.items n s.index.result.now 0 at.within in
          let more : eqb (get_or x.counts.items n 0) 1 ≡ false = ne_eqb _ _ (λ is. s.if-index-eq1.false (count ∙ is)) in
          sym (at.left p other ∙ ap (λ (b : Bool). cond (nat_lt own 1000 && b) own 0) more ∙ never (nat_lt own 1000) own)
      | else-weight-lt1000-via-else-weight-lt1000 s ↦
          let must : nat_lt own 1000 ≡ false = heavy own (let many = s.if-weight-lt1000.false in omega (arith, many, weight)) in
          sym (at.left p other ∙ ap (λ (b : Bool). cond (b && eqb (get_or x.counts.items n 0) 1) own 0) must)
    ]

pub returns-in-None-clause-is : goal.returns-in-None-clause-is
returns-in-None-clause-is c = λ p other.
    let w = c.args.wiring.now in
    let m = c.args._mapping.now in
    let v = c.args.virt in
    let none = sym (c.requires.counted.own v c.requires.virt) ∙ sym c.counted.ensures ∙ c.in-None.is in
    sym (uncounted w (placed_at m v p) (virt_at w v).asks (place_at m v).1 c.requires.asked none)
