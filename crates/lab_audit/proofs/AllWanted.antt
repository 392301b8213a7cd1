-- The rows that are gathered are all that experiments want.
use Rattle.std.proofs.Common.{◌≡◌, inl, inr, ℕ, zero, suc, ◌+◌, Bool, true, false, List, [], ◌∷◌, ◌++◌, map, Option, Some, None, refl, sym, ap, ◌∙◌, subst, take, add-one, append-nil, append_assoc}
use Rattle.std.proofs.lemmas.Bool.{false≢true}
use Rattle.std.specs.Prelude.{IfSome, slice_get}
use Rattle.lab_base.specs.Lists.{Has}
use Rattle.lab_base.proofs.Members.{Has-append, Has-left, Has-right, Has-map, Has-mapped, Has-flat_map, Has-flat_mapped}
use Rattle.phys_lab.specs.Labs.{Lab}
use Rattle.virt_topo.specs.declared.experiment.Experiment.{Experiment}
use Rattle.virt_topo.specs.declared.experiment.Phase.{Phase}
use Rattle.virt_topo.specs.declared.experiment.Phase.TheVariants.{Out, In, Moving}
use Rattle.lab_base.specs.declared.ids.VlanId.{VlanId}
use Rattle.virt_topo.specs.declared.mapping.Mapped.{Mapped}
use Rattle.virt_topo.specs.declared.mapping.Mapping.{Mapping}
use Rattle.virt_topo.specs.declared.wiring.Wiring.{Wiring}
use Rattle.plant.specs.Worlds.{Row}
use Rattle.lab_model.specs.Claims.{Which, Old, New, claimed, claimed_in}
use Rattle.lab_model.specs.Holding.{Suits}
use Rattle.lab_model.specs.Wants.{Owned, rows_of}
use Rattle.lab_audit.specs.declared.wanted.Wanted.{Wanted}
use Rattle.lab_audit.specs.Diff.{standing_in}
use Rattle.lab_audit.specs.Lines.{AreAllWanted}
use Rattle.lab_audit.specs.Wants.{rows_as, rows_if, wanted_in, wanted_by, all_wanted}

module _ (lab : Lab) where
  -- the rows of a mapping, with their owners
  listed : (m : Mapped) (stands : Bool) (row : Row) (link : List ℕ) → Has (rows_of lab m) (record { row = row; owner = link }) → Has (rows_as lab stands m) (record { row = row; stands = stands })
  listed m stands row link h =
      let rows = map (λ (o : Owned). o.row) (rows_of lab m) in
      Has-mapped (λ (r : Row). record { row = r; stands = stands }) rows row (Has-mapped (λ (o : Owned). o.row) (rows_of lab m) (record { row = row; owner = link }) h)

  owned : (m : Mapped) (stands : Bool) (x : Wanted) → Has (rows_as lab stands m) x → (stands ≡ x.stands) × ((link : List ℕ) × Has (rows_of lab m) (record { row = x.row; owner = link }))
  owned m stands x h =
      let a = Has-map (λ (r : Row). record { row = r; stands = stands }) (map (λ (o : Owned). o.row) (rows_of lab m)) x h in
      let b = Has-map (λ (o : Owned). o.row) (rows_of lab m) a.0 a.1 in
      let same : b.0.row ≡ x.row = b.2 ∙ ap (λ (v : Wanted). v.row) a.2 in
      (ap (λ (v : Wanted). v.stands) a.2, (b.0.owner, subst (λ (r : Row). Has (rows_of lab m) (record { row = r; owner = b.0.owner })) same b.1))

  listed_if : (o : Option Mapped) (m : Mapped) (row : Row) (link : List ℕ) → o ≡ Some m → Has (rows_of lab m) (record { row = row; owner = link }) → Has (rows_if lab o) (record { row = row; stands = false })
  listed_if o m row link is h = subst (λ (v : Option Mapped). Has (rows_if lab v) (record { row = row; stands = false })) (sym is) (listed m false row link h)

  owned_if : (o : Option Mapped) (x : Wanted) → Has (rows_if lab o) x → (false ≡ x.stands) × ((m : Mapped) × (o ≡ Some m) × ((link : List ℕ) × Has (rows_of lab m) (record { row = x.row; owner = link })))
  owned_if None x h = absurd h
  owned_if (Some m) x h = let w = owned m false x h in (w.0, (m, refl, w.1))

  -- what an experiment wants that stands in the lab
  stands_in : (wiring : Wiring) (phase : Phase) (m : Mapped) (row : Row) (link : List ℕ) → standing_in wiring phase ≡ Some m → Has (rows_of lab m) (record { row = row; owner = link }) → Has (wanted_in lab wiring phase) (record { row = row; stands = true })
  stands_in wiring Out m row link is h = absurd cc
  stands_in wiring (In mapping tags) m row link is h = subst (λ (o : Option Mapped). Of o) (sym is) (listed m true row link h)
    where
      Of : Option Mapped → Type 0
      Of None = Unit {0}
      Of (Some n) = Has (rows_as lab true n) (record { row = row; stands = true })
  stands_in wiring (Moving old new) m row link is h = absurd cc

  in_stands : (wiring : Wiring) (phase : Phase) (row : Row) → Has (wanted_in lab wiring phase) (record { row = row; stands = true }) → (m : Mapped) × (standing_in wiring phase ≡ Some m) × ((link : List ℕ) × Has (rows_of lab m) (record { row = row; owner = link }))
  in_stands wiring Out row h = absurd h
  in_stands wiring (In mapping tags) row h = (record { wiring = wiring; mapping = mapping; tags = tags }, refl, (owned (record { wiring = wiring; mapping = mapping; tags = tags }) true (record { row = row; stands = true }) h).1)
  in_stands wiring (Moving old new) row h = elim (Has-append (rows_if lab old) (rows_if lab new) (record { row = row; stands = true }) h) [
    | inl g ↦ absurd (false≢true (owned_if old _ g).0)
    | inr g ↦ absurd (false≢true (owned_if new _ g).0)
  ]

  -- what an experiment claims
  claims_in : (wiring : Wiring) (phase : Phase) (which : Which) (m : Mapped) (row : Row) (link : List ℕ) → claimed_in wiring phase which ≡ Some m → Has (rows_of lab m) (record { row = row; owner = link }) → (stands : Bool) × Has (wanted_in lab wiring phase) (record { row = row; stands = stands })
  claims_in wiring Out which m row link is h = absurd cc
  claims_in wiring (In mapping tags) Old m row link is h = absurd cc
  claims_in wiring (In mapping tags) New m row link is h = (true, stands_in wiring (In mapping tags) m row link is h)
  claims_in wiring (Moving old new) Old m row link is h = (false, Has-left (rows_if lab old) (rows_if lab new) _ (listed_if old m row link is h))
  claims_in wiring (Moving old new) New m row link is h = (false, Has-right (rows_if lab old) (rows_if lab new) _ (listed_if new m row link is h))

  in_claims : (wiring : Wiring) (phase : Phase) (x : Wanted) → Has (wanted_in lab wiring phase) x → (which : Which) × ((m : Mapped) × (claimed_in wiring phase which ≡ Some m) × ((link : List ℕ) × Has (rows_of lab m) (record { row = x.row; owner = link })))
  in_claims wiring Out x h = absurd h
  in_claims wiring (In mapping tags) x h = (New, (record { wiring = wiring; mapping = mapping; tags = tags }, refl, (owned (record { wiring = wiring; mapping = mapping; tags = tags }) true x h).1))
  in_claims wiring (Moving old new) x h = elim (Has-append (rows_if lab old) (rows_if lab new) x h) [
    | inl g ↦ (Old, (owned_if old x g).1)
    | inr g ↦ (New, (owned_if new x g).1)
  ]

  pub are_all : (es : List Experiment) → AreAllWanted lab es (all_wanted lab es)
  are_all es = record {
    stands = λ row. (
      (λ i. Has-flat_mapped (wanted_by lab) es i.by (record { row = row; stands = true }) i.listed (stands_in i.by.wiring i.by.phase i.mapped row i.link i.stands i.wants)),
      (λ h.
          let f = Has-flat_map (wanted_by lab) es (record { row = row; stands = true }) h in
          let k = in_stands f.0.wiring f.0.phase row f.2 in
          record { by = f.0; listed = f.1; mapped = k.0; stands = k.1; link = k.2.0; wants = k.2.1 }),
    );
    claimed = λ row. (
      (λ i.
          let o = i.2 in
          let k = claims_in i.0.wiring i.0.phase o.0 o.2.mapped row o.1 o.2.is o.2.row_of in
          (k.0, Has-flat_mapped (wanted_by lab) es i.0 (record { row = row; stands = k.0 }) i.1 k.1)),
      (λ h.
          let f = Has-flat_map (wanted_by lab) es (record { row = row; stands = h.0 }) h.1 in
          let k = in_claims f.0.wiring f.0.phase (record { row = row; stands = h.0 }) f.2 in
          (f.0, f.1, (k.0, k.1.2.0, record { mapped = k.1.0; is = k.1.1; row_of = k.1.2.1 }))),
    );
  }

  -- the mappings of an experiment suit the lab, where all that it claims do
  module _ (e : Experiment) (suits : (which : Which) (m : Mapped) → claimed e which ≡ Some m → Suits lab m) where
    pub suits_standing : (mapping : Mapping) (tags : List VlanId) → e.phase ≡ In mapping tags → Suits lab (record { wiring = e.wiring; mapping = mapping; tags = tags })
    suits_standing mapping tags is = suits New (record { wiring = e.wiring; mapping = mapping; tags = tags }) (ap (λ (p : Phase). claimed_in e.wiring p New) is)

    pub suits_old : (old new : Option Mapped) → e.phase ≡ Moving old new → IfSome old (Suits lab)
    suits_old None new is = tt
    suits_old (Some m) new is = suits Old m (ap (λ (p : Phase). claimed_in e.wiring p Old) is)

    pub suits_new : (old new : Option Mapped) → e.phase ≡ Moving old new → IfSome new (Suits lab)
    suits_new old None is = tt
    suits_new old (Some m) is = suits New m (ap (λ (p : Phase). claimed_in e.wiring p New) is)

-- what one experiment more wants
pub wanted_more : (lab : Lab) (es : List Experiment) (n : ℕ) (e : Experiment) → slice_get es n ≡ Some e → all_wanted lab (take (n + 1) es) ≡ all_wanted lab (take n es) ++ wanted_by lab e
wanted_more lab es n e at = ap (λ (k : ℕ). all_wanted lab (take k es)) (add-one n) ∙ more es n at
  where
    more : (es : List Experiment) (n : ℕ) → slice_get es n ≡ Some e → all_wanted lab (take (suc n) es) ≡ all_wanted lab (take n es) ++ wanted_by lab e
    more [] n at = absurd (cc at)
    more (x ∷ es) zero at = let same : x ≡ e = cc at in append-nil (wanted_by lab x) ∙ ap (wanted_by lab) same
    more (x ∷ es) (suc n) at = ap (λ (l : List Wanted). wanted_by lab x ++ l) (more es n at) ∙ sym (append_assoc (wanted_by lab x) (all_wanted lab (take n es)) (wanted_by lab e))
