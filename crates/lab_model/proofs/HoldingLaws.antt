-- Holding after a record: one experiment claims something else.
use Rattle.std.specs.List.{flat_map, sum_by}
use Rattle.std.proofs.Common.{◌≡◌, ◌≢◌, ◌⊎◌, inl, inr, ℕ, ◌+◌, ◌<◌, ◌≤◌, Some, List, [], ◌∷◌, ◌++◌, length, refl, sym, ap, ◌∙◌, subst, arith, zero-add}
use Rattle.std.proofs.lemmas.List.Sums.{sum_by-append}
use Rattle.lab_base.specs.Lists.{Has, Apart, AllDiffer}
use Rattle.lab_base.proofs.Members.{Has-flat_map, Has-flat_mapped, Apart-left, Apart-right, Apart-across, Apart-append}
use Rattle.phys_lab.specs.Sides.{trunk_at}
use Rattle.phys_lab.specs.Labs.{Lab}
use Rattle.virt_topo.specs.declared.experiment.Experiment.{Experiment}
use Rattle.virt_topo.specs.declared.mapping.Mapped.{Mapped}
use Rattle.lab_model.specs.Claims.{Which, claimed, Claims, claimed_tags, claimed_use}
use Rattle.lab_model.specs.Holding.{Suits, Holding}
use Rattle.lab_model.proofs.Records.{Has_mid, Has_other}

pub apart_replace : {X : Type 0} (R : X → X → Type 0) (a b : List X) (e f : X) → Apart R (a ++ e ∷ b) → ((y : X) → Has a y → R y f) → ((y : X) → Has b y → R f y) → Apart R (a ++ f ∷ b)
apart_replace R [] b e f apart before after = (after, apart.1)
apart_replace R (z ∷ a) b e f apart before after = (
  λ y h. elim (Has_mid a b f y h) [
    | inl same ↦ subst (λ v. R z v) same (before z (inl refl))
    | inr other ↦ apart.0 y (Has_other a b e y other)
  ],
  apart_replace R a b e f apart.1 (λ y h. before y (inr h)) after,
)

pub flat_replace : {X Y : Type 0} (g : X → List Y) (a b : List X) (e f : X) → AllDiffer (flat_map g (a ++ e ∷ b)) → AllDiffer (g f) → ((v : Y) (y : X) → Has (g f) v → Has a y ⊎ Has b y → Has (g y) v → ⊥) → AllDiffer (flat_map g (a ++ f ∷ b))
flat_replace g [] b e f differ own free = Apart-append (λ p q. p ≢ q) (g f) (flat_map g b) own (Apart-right (λ p q. p ≢ q) (g e) (flat_map g b) differ)
    (λ v u h k same. let r = Has-flat_map g b u k in free v r.0 h (inr r.1) (subst (λ x. Has (g r.0) x) (sym same) r.2))
flat_replace g (z ∷ a) b e f differ own free = Apart-append (λ p q. p ≢ q) (g z) (flat_map g (a ++ f ∷ b))
    (Apart-left (λ p q. p ≢ q) (g z) (flat_map g (a ++ e ∷ b)) differ)
    (flat_replace g a b e f (Apart-right (λ p q. p ≢ q) (g z) (flat_map g (a ++ e ∷ b)) differ) own (λ v y h o k. free v y h (elim o [ inl p ↦ inl (inr p) | inr q ↦ inr q ]) k))
    (λ v u h k same.
    let r = Has-flat_map g (a ++ f ∷ b) u k in
    elim (Has_mid a b f r.0 r.1) [
      | inl is ↦ free v z (subst (λ x. Has (g x) v) (sym is) (subst (λ x. Has (g r.0) x) (sym same) r.2)) (inl (inl refl)) h
      | inr other ↦ Apart-across (λ p q. p ≢ q) (g z) (flat_map g (a ++ e ∷ b)) v u differ h (Has-flat_mapped g (a ++ e ∷ b) r.0 u (Has_other a b e r.0 other) r.2) same
    ])

pub add_swap : (x y z : ℕ) → x + (y + z) ≡ y + (x + z)
add_swap x y z = omega arith

-- what a record's check gives: the new claim is free beside the others'
pub record Takes (lab : Lab) (a b : List Experiment) (f : Experiment) : Type 0 where
  pub fits : (which : Which) (m : Mapped) → claimed f which ≡ Some m → Suits lab m
  pub nodes : (y : Experiment) (name : List ℕ) → Has a y ⊎ Has b y → Claims lab f name → Claims lab y name → ⊥
  pub trunks : (t : ℕ) → t < length lab.trunks → claimed_use lab t f + (sum_by (claimed_use lab t) a + sum_by (claimed_use lab t) b) ≤ (trunk_at lab.trunks t).kbps
  pub differ : AllDiffer (claimed_tags f)
  pub free : (v : ℕ) (y : Experiment) → Has (claimed_tags f) v → Has a y ⊎ Has b y → Has (claimed_tags y) v → ⊥
  pub in_range : (v : ℕ) → Has (claimed_tags f) v → (lab.range.0 ≤ v) × (v ≤ lab.range.1)

pub holding_replaced : (lab : Lab) (a b : List Experiment) (e f : Experiment) → Holding lab (a ++ e ∷ b) → Takes lab a b f → Holding lab (a ++ f ∷ b)
holding_replaced lab a b e f holding takes = record {
  fits = λ g which m in_g is. elim (Has_mid a b f g in_g) [
    | inl same ↦ takes.fits which m (subst (λ x. claimed x which ≡ Some m) (sym same) is)
    | inr other ↦ holding.fits g which m (Has_other a b e g other) is
  ];
  nodes = apart_replace (λ x y. (name : List ℕ) → Claims lab x name → Claims lab y name → ⊥) a b e f holding.nodes
      (λ y h name of_y of_f. takes.nodes y name (inl h) of_f of_y) (λ y h name of_f of_y. takes.nodes y name (inr h) of_f of_y);
  trunks = λ t within.
      let first : sum_by (claimed_use lab t) (f ∷ b) ≡ claimed_use lab t f + sum_by (claimed_use lab t) b = sum_by-append (claimed_use lab t) (f ∷ []) b ∙ ap (λ n. n + sum_by (claimed_use lab t) b) (zero-add (claimed_use lab t f)) in
      let all = sum_by-append (claimed_use lab t) a (f ∷ b) in
      let room = takes.trunks t within in
      subst (λ n. n ≤ (trunk_at lab.trunks t).kbps) (sym (all ∙ ap (λ n. sum_by (claimed_use lab t) a + n) first)) (subst (λ n. n ≤ (trunk_at lab.trunks t).kbps) (add_swap (claimed_use lab t f) (sum_by (claimed_use lab t) a) (sum_by (claimed_use lab t) b)) room);
  tags = flat_replace claimed_tags a b e f holding.tags takes.differ takes.free;
  in_range = λ v h. let r = Has-flat_map claimed_tags (a ++ f ∷ b) v h in elim (Has_mid a b f r.0 r.1) [
    | inl same ↦ takes.in_range v (subst (λ x. Has (claimed_tags x) v) (sym same) r.2)
    | inr other ↦ holding.in_range v (Has-flat_mapped claimed_tags (a ++ e ∷ b) r.0 v (Has_other a b e r.0 other) r.2)
  ];
}
