-- A record of one experiment, and the parts: its experiment is in another phase, and the world is the same.
use Rattle.std.specs.List.{flat_map}
use Rattle.std.proofs.Common.{◌≡◌, ◌≢◌, ◌⊎◌, inl, inr, ℕ, Option, Some, None, List, [], ◌∷◌, ◌++◌, refl, sym, ◌∙◌, subst}
use Rattle.std.proofs.lemmas.Bool.{cases_Bool, true≢false}
use Rattle.lab_base.specs.Lists.{Has, Apart, AllDiffer}
use Rattle.lab_base.proofs.Members.{Has-append, Has-left, Has-right, Has-flat_mapped, Apart-right, Apart-across}
use Rattle.phys_lab.specs.Labs.{Lab}
use Rattle.virt_topo.specs.declared.experiment.Experiment.{Experiment}
use Rattle.virt_topo.specs.declared.mapping.Mapped.{Mapped}
use Rattle.plant.specs.Worlds.{Row, World, wiped}
use Rattle.lab_model.specs.Claims.{Which, Old, New, claimed, Places, Claims, claimed_tags, IsOf, places_it}
use Rattle.lab_model.specs.Holding.{Holding}
use Rattle.lab_model.specs.Isolated.{IsRow}
use Rattle.lab_model.specs.Cabled.{AllWanted, FreeWiped, SameNode}
use Rattle.lab_model.specs.Parts.{Part, Parts}
use Rattle.lab_model.proofs.PartLaws.{wants_tag}
use Rattle.lab_model.proofs.Kept.{places_it_from, Places_from}

-- the element in the middle and another one
pub apart_mid : {X : Type 0} (R : X → X → Type 0) (a b : List X) (x y : X) → Apart R (a ++ x ∷ b) → Has a y ⊎ Has b y → R x y ⊎ R y x
apart_mid R [] b x y apart (inl h) = absurd h
apart_mid R [] b x y apart (inr h) = inl (apart.0 y h)
apart_mid R (z ∷ a) b x y apart (inl (inl e)) = inr (subst (λ v. R v x) e (apart.0 x (Has-right a (x ∷ b) x (inl refl))))
apart_mid R (z ∷ a) b x y apart (inl (inr h)) = apart_mid R a b x y apart.1 (inl h)
apart_mid R (z ∷ a) b x y apart (inr h) = apart_mid R a b x y apart.1 (inr h)

pub flat_mid : {X Y : Type 0} (f : X → List Y) (a b : List X) (x y : X) (v : Y) → AllDiffer (flat_map f (a ++ x ∷ b)) → Has a y ⊎ Has b y → Has (f x) v → Has (f y) v → ⊥
flat_mid f [] b x y v differ (inl h) of_x of_y = h
flat_mid f [] b x y v differ (inr h) of_x of_y = Apart-across (λ p q. p ≢ q) (f x) (flat_map f b) v v differ of_x (Has-flat_mapped f b y v h of_y) refl
flat_mid f (z ∷ a) b x y v differ (inl (inl e)) of_x of_y =
    Apart-across (λ p q. p ≢ q) (f z) (flat_map f (a ++ x ∷ b)) v v differ (subst (λ u. Has (f u) v) (sym e) of_y) (Has-flat_mapped f (a ++ x ∷ b) x v (Has-right a (x ∷ b) x (inl refl)) of_x) refl
flat_mid f (z ∷ a) b x y v differ (inl (inr h)) of_x of_y = flat_mid f a b x y v (Apart-right (λ p q. p ≢ q) (f z) (flat_map f (a ++ x ∷ b)) differ) (inl h) of_x of_y
flat_mid f (z ∷ a) b x y v differ (inr h) of_x of_y = flat_mid f a b x y v (Apart-right (λ p q. p ≢ q) (f z) (flat_map f (a ++ x ∷ b)) differ) (inr h) of_x of_y

-- an element is the one in the middle or another one
pub Has_mid : {X : Type 0} (a b : List X) (x y : X) → Has (a ++ x ∷ b) y → (x ≡ y) ⊎ (Has a y ⊎ Has b y)
Has_mid a b x y h = elim (Has-append a (x ∷ b) y h) [ inl p ↦ inr (inl p) | inr q ↦ elim q [ inl e ↦ inl e | inr r ↦ inr (inr r) ] ]

pub Has_other : {X : Type 0} (a b : List X) (x y : X) → Has a y ⊎ Has b y → Has (a ++ x ∷ b) y
Has_other a b x y (inl p) = Has-left a (x ∷ b) y p
Has_other a b x y (inr q) = Has-right a (x ∷ b) y (inr q)

-- whether an experiment claims a node
pub claims_or_not : (lab : Lab) (e : Experiment) (name : List ℕ) → Claims lab e name ⊎ (Claims lab e name → ⊥)
claims_or_not lab e name = both (by Old (claimed e Old) refl) (by New (claimed e New) refl)
  where
    by : (which : Which) (o : Option Mapped) → claimed e which ≡ o → Claims lab e name ⊎ ((m : Mapped) → claimed e which ≡ Some m → Places lab m name → ⊥)
    by which None is = inr (λ m is' placed. cc)
    by which (Some m) is = elim (cases_Bool (places_it lab m name)) [
      | inl there ↦ inl (record { which = which; mapped = m; is = is; placed = Places_from lab m name there })
      | inr absent ↦ inr (λ n is' placed. let same : n ≡ m = cc in true≢false (sym (places_it_from lab m name (subst (λ x. Places lab x name) same placed)) ∙ absent))
    ]

    both : Claims lab e name ⊎ ((m : Mapped) → claimed e Old ≡ Some m → Places lab m name → ⊥) → Claims lab e name ⊎ ((m : Mapped) → claimed e New ≡ Some m → Places lab m name → ⊥) → Claims lab e name ⊎ (Claims lab e name → ⊥)
    both (inl c) x = inl c
    both (inr p) (inl c) = inl c
    both (inr p) (inr q) = inr (λ c. pick c.which c.mapped c.is c.placed p q)
      where
        pick : (which : Which) (m : Mapped) → claimed e which ≡ Some m → Places lab m name → ((m : Mapped) → claimed e Old ≡ Some m → Places lab m name → ⊥) → ((m : Mapped) → claimed e New ≡ Some m → Places lab m name → ⊥) → ⊥
        pick Old m is placed p q = p m is placed
        pick New m is placed p q = q m is placed

module _ (lab : Lab) (a b : List Experiment) (e f : Experiment) (w : World) where
  -- ONE EXPERIMENT IN ANOTHER PHASE: what of it stands is wanted still, and what is no longer claimed is wiped.
  pub replaced : Parts lab (a ++ e ∷ b) w → ((row : Row) → IsOf lab e row → IsRow w row → IsOf lab f row)
      → ((name : List ℕ) → Claims lab e name → (Claims lab f name → ⊥) → SameNode (w.node name) wiped) → Part lab w f → Parts lab (a ++ f ∷ b) w
  replaced parts rows nodes part = record {
    wanted = λ row is. let by = parts.wanted row is in elim (Has_mid a b e by.0 by.1) [
      | inl same ↦ (f, Has-right a (f ∷ b) f (inl refl), rows row (subst (λ x. IsOf lab x row) (sym same) by.2) is)
      | inr other ↦ (by.0, Has_other a b f by.0 other, by.2)
    ];
    free = λ name unclaimed. elim (claims_or_not lab e name) [
      | inl claims ↦ nodes name claims (unclaimed f (Has-right a (f ∷ b) f (inl refl)))
      | inr claims_not ↦ parts.free name (λ g in_g claims. elim (Has_mid a b e g in_g) [
        | inl same ↦ claims_not (subst (λ x. Claims lab x name) (sym same) claims)
        | inr other ↦ unclaimed g (Has_other a b f g other) claims
      ])
    ];
    each = λ g in_g. elim (Has_mid a b f g in_g) [
      | inl same ↦ subst (λ x. Part lab w x) same part
      | inr other ↦ parts.each g (Has_other a b e g other)
    ];
  }

  -- rows and nodes that the experiment claims newly are free
  pub new_rows : Holding lab (a ++ f ∷ b) → AllWanted lab (a ++ e ∷ b) w → (row : Row) → IsOf lab f row → IsRow w row → IsOf lab e row
  new_rows holding wanted row of_f is = let by = wanted row is in elim (Has_mid a b e by.0 by.1) [
    | inl same ↦ subst (λ x. IsOf lab x row) (sym same) by.2
    | inr other ↦ absurd (flat_mid claimed_tags a b f by.0 row.vlan holding.tags other (wants_tag lab f row of_f.0 of_f.1 of_f.2) (wants_tag lab by.0 row by.2.0 by.2.1 by.2.2))
  ]

  pub new_nodes : Holding lab (a ++ f ∷ b) → FreeWiped lab (a ++ e ∷ b) w → (name : List ℕ) → Claims lab f name → (Claims lab e name → ⊥) → SameNode (w.node name) wiped
  new_nodes holding free name claims claims_not = free name (λ g in_g claims_g. elim (Has_mid a b e g in_g) [
    | inl same ↦ claims_not (subst (λ x. Claims lab x name) (sym same) claims_g)
    | inr other ↦ elim (apart_mid (λ x y. (n : List ℕ) → Claims lab x n → Claims lab y n → ⊥) a b f g holding.nodes other) [ inl r ↦ r name claims claims_g | inr r ↦ r name claims_g claims ]
  ])
