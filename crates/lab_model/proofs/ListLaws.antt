-- Experiments that claim nothing come and go.
use Rattle.std.specs.List.{flat_map, sum_by}
use Rattle.std.proofs.Common.{◌≡◌, inl, inr, ℕ, ◌+◌, ◌≤◌, None, List, [], ◌∷◌, ◌++◌, refl, sym, ap, ◌∙◌, subst, zero-add}
use Rattle.std.proofs.lemmas.List.Sums.{sum_by-append}
use Rattle.lab_base.specs.Lists.{Has, Apart, AllDiffer}
use Rattle.lab_base.proofs.Members.{Has-append, Has-either}
use Rattle.phys_lab.specs.Labs.{Lab}
use Rattle.virt_topo.specs.declared.experiment.Experiment.{Experiment}
use Rattle.virt_topo.specs.declared.experiment.Phase.TheVariants.{Out}
use Rattle.plant.specs.Worlds.{World}
use Rattle.lab_model.specs.Claims.{Which, Old, New, claimed, claimed_in, Claims, claimed_tags, claimed_use, use_in, tags_of, IsOf}
use Rattle.lab_model.specs.Holding.{Holding}
use Rattle.lab_model.specs.Cabled.{CabledPhase}
use Rattle.lab_model.specs.Parts.{Part, Parts}
use Rattle.lab_model.proofs.Records.{Has_mid, Has_other}

pub apart_drop : {X : Type 0} (R : X → X → Type 0) (a b : List X) (e : X) → Apart R (a ++ e ∷ b) → Apart R (a ++ b)
apart_drop R [] b e h = h.1
apart_drop R (x ∷ a) b e h = (λ y g. h.0 y (Has_other a b e y (Has-append a b y g)), apart_drop R a b e h.1)

pub apart_add : {X : Type 0} (R : X → X → Type 0) (a b : List X) (e : X) → Apart R (a ++ b) → ((y : X) → Has a y → R y e) → ((y : X) → Has b y → R e y) → Apart R (a ++ e ∷ b)
apart_add R [] b e h before after = (after, h)
apart_add R (x ∷ a) b e h before after = (
  λ y g. elim (Has_mid a b e y g) [
    | inl same ↦ subst (λ v. R x v) same (before x (inl refl))
    | inr other ↦ h.0 y (Has-either a b y other)
  ],
  apart_add R a b e h.1 (λ y g. before y (inr g)) after,
)

-- the lists of the elements without one that has none
pub flat_none : {X Y : Type 0} (f : X → List Y) (a b : List X) (e : X) → f e ≡ [] → flat_map f (a ++ e ∷ b) ≡ flat_map f (a ++ b)
flat_none f [] b e none = ap (λ l. l ++ flat_map f b) none
flat_none f (x ∷ a) b e none = ap (λ l. f x ++ l) (flat_none f a b e none)

pub sum_none : {X : Type 0} (f : X → ℕ) (a b : List X) (e : X) → f e ≡ 0 → sum_by f (a ++ e ∷ b) ≡ sum_by f (a ++ b)
sum_none f a b e none =
    let first : sum_by f (e ∷ b) ≡ sum_by f b = sum_by-append f (e ∷ []) b ∙ ap (λ n. n + sum_by f b) (zero-add (f e) ∙ none) ∙ zero-add (sum_by f b) in
    sum_by-append f a (e ∷ b) ∙ ap (λ n. sum_by f a + n) first ∙ sym (sum_by-append f a b)

module _ (lab : Lab) (a b : List Experiment) (e : Experiment) (out : e.phase ≡ Out) where
  nothing : (which : Which) → claimed e which ≡ None
  nothing which = ap (λ p. claimed_in e.wiring p which) out

  no_tags : claimed_tags e ≡ []
  no_tags = (λ i. tags_of (nothing Old i) ++ tags_of (nothing New i))

  no_use : (t : ℕ) → claimed_use lab t e ≡ 0
  no_use t = ap (λ p. Rattle.std.proofs.Common.max (use_in lab t (claimed_in e.wiring p Old)) (use_in lab t (claimed_in e.wiring p New))) out

  pub no_claim : (name : List ℕ) → Claims lab e name → ⊥
  no_claim name c = cc (c.is, nothing c.which)

  pub holding_drop : Holding lab (a ++ e ∷ b) → Holding lab (a ++ b)
  holding_drop h = record {
    fits = λ g which m in_g is. h.fits g which m (Has_other a b e g (Has-append a b g in_g)) is;
    nodes = apart_drop _ a b e h.nodes;
    trunks = λ t within. subst (λ n. n ≤ (Rattle.phys_lab.specs.Sides.trunk_at lab.trunks t).kbps) (sum_none (claimed_use lab t) a b e (no_use t)) (h.trunks t within);
    tags = subst (λ l. AllDiffer l) (flat_none claimed_tags a b e no_tags) h.tags;
    in_range = λ v g. h.in_range v (subst (λ l. Has l v) (sym (flat_none claimed_tags a b e no_tags)) g);
  }

  pub holding_add : Holding lab (a ++ b) → Holding lab (a ++ e ∷ b)
  holding_add h = record {
    fits = λ g which m in_g is. elim (Has_mid a b e g in_g) [
      | inl same ↦ let none : claimed g which ≡ None = subst (λ x. claimed x which ≡ None) same (nothing which) in absurd (cc (is, none))
      | inr other ↦ h.fits g which m (Has-either a b g other) is
    ];
    nodes = apart_add _ a b e h.nodes (λ y g name c d. no_claim name d) (λ y g name c d. no_claim name c);
    trunks = λ t within. subst (λ n. n ≤ (Rattle.phys_lab.specs.Sides.trunk_at lab.trunks t).kbps) (sym (sum_none (claimed_use lab t) a b e (no_use t))) (h.trunks t within);
    tags = subst (λ l. AllDiffer l) (sym (flat_none claimed_tags a b e no_tags)) h.tags;
    in_range = λ v g. h.in_range v (subst (λ l. Has l v) (flat_none claimed_tags a b e no_tags) g);
  }

  out_wants : (row : Rattle.plant.specs.Worlds.Row) → IsOf lab e row → ⊥
  out_wants row of_e = let w = of_e.2 in let none = nothing of_e.0 in cc (w.is, none)

  pub parts_drop : (w : World) → Parts lab (a ++ e ∷ b) w → Parts lab (a ++ b) w
  parts_drop w p = record {
    wanted = λ row is. let by = p.wanted row is in elim (Has_mid a b e by.0 by.1) [
      | inl same ↦ absurd (out_wants row (subst (λ x. IsOf lab x row) (sym same) by.2))
      | inr other ↦ (by.0, Has-either a b by.0 other, by.2)
    ];
    free = λ name none. p.free name (λ g in_g c. elim (Has_mid a b e g in_g) [
      | inl same ↦ no_claim name (subst (λ x. Claims lab x name) (sym same) c)
      | inr other ↦ none g (Has-either a b g other) c
    ]);
    each = λ g in_g. p.each g (Has_other a b e g (Has-append a b g in_g));
  }

  pub parts_add : (w : World) → Parts lab (a ++ b) w → Parts lab (a ++ e ∷ b) w
  parts_add w p = record {
    wanted = λ row is. let by = p.wanted row is in (by.0, Has_other a b e by.0 (Has-append a b by.0 by.1), by.2);
    free = λ name none. p.free name (λ g in_g c. none g (Has_other a b e g (Has-append a b g in_g)) c);
    each = λ g in_g. elim (Has_mid a b e g in_g) [
      | inl same ↦ subst (λ x. Part lab w x) same (record {
        apart = λ p q which link which' link' reach wants wants'. absurd (out_wants p (which, link, wants));
        phase = subst (λ p. CabledPhase lab w e p) (sym out) tt;
      })
      | inr other ↦ p.each g (Has-either a b g other)
    ];
  }
