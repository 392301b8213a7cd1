-- Begin, Commit and Abort keep the parts.
use Rattle.std.proofs.Common.{◌≡◌, inl, inr, ℕ, true, Option, Some, None, slice_get, List, ◌∷◌, ◌++◌, refl, sym, ap, ◌∙◌, subst}
use Rattle.std.proofs.lemmas.Bool.{and_parts, false≢true}
use Rattle.std.proofs.lemmas.Slice.Eq.{bytes_eq-Decides}
use Rattle.lab_base.specs.Lists.{Has, AllDiffer}
use Rattle.lab_base.proofs.Members.{Has-right, flat-each}
use Rattle.lab_base.specs.declared.ids.VlanId.{VlanId}
use Rattle.phys_lab.specs.Labs.{Lab}
use Rattle.phys_lab.specs.Kept.{IsLab}
use Rattle.virt_topo.specs.declared.experiment.Experiment.{Experiment}
use Rattle.virt_topo.specs.declared.mapping.Mapped.{Mapped}
use Rattle.virt_topo.specs.declared.mapping.Mapping.{Mapping}
use Rattle.virt_topo.specs.declared.experiment.Phase.TheVariants.{Out, In, Moving}
use Rattle.plant.specs.Worlds.{Row, NodeRow, World, wiped}
use Rattle.lab_model.specs.Wants.{rows_of, node_row_of}
use Rattle.lab_model.specs.Claims.{Which, Old, New, claimed, claimed_in, Places, Claims, claimed_tags, IsOf}
use Rattle.lab_model.specs.Kept.{is_kept, same_os}
use Rattle.lab_model.specs.Holding.{Holding}
use Rattle.lab_model.specs.Isolated.{IsRow}
use Rattle.lab_model.specs.Cabled.{SameNode, CabledPhase}
use Rattle.lab_model.specs.Parts.{Parts}
use Rattle.lab_model.proofs.OneSided.{one_sided_apart}
use Rattle.lab_model.proofs.Moves.{part_of_one_side}
use Rattle.lab_model.proofs.Kept.{Places_from, kept_pipes}
use Rattle.lab_model.proofs.Records.{replaced, new_rows, new_nodes, claims_or_not}

pub same_os-true : (x y : Option (List ℕ)) → same_os x y ≡ true → x ≡ y
same_os-true None None h = refl
same_os-true (Some x) (Some y) h = ap (λ n. Some n) ((bytes_eq-Decides x y).0 h)
same_os-true None (Some y) h = absurd (false≢true h)
same_os-true (Some x) None h = absurd (false≢true h)

-- a kept node is wanted alike
pub kept_alike : (lab : Lab) (x y : Mapped) (name : List ℕ) (n : NodeRow) → is_kept lab (Some x) (Some y) name ≡ true → SameNode n (node_row_of lab x name) → SameNode n (node_row_of lab y name)
kept_alike lab x y name n kept same = record {
  os = same.os ∙ same_os-true _ _ (and_parts _ _ (and_parts _ _ kept).0).1;
  pipes = λ k. same.pipes k ∙ ap (λ l. slice_get l k) (kept_pipes lab x y name kept);
  boot = same.boot;
}

pub kept_alike_back : (lab : Lab) (x y : Mapped) (name : List ℕ) (n : NodeRow) → is_kept lab (Some x) (Some y) name ≡ true → SameNode n (node_row_of lab y name) → SameNode n (node_row_of lab x name)
kept_alike_back lab x y name n kept same = record {
  os = same.os ∙ sym (same_os-true _ _ (and_parts _ _ (and_parts _ _ kept).0).1);
  pipes = λ k. same.pipes k ∙ sym (ap (λ l. slice_get l k) (kept_pipes lab x y name kept));
  boot = same.boot;
}

-- an experiment that is Out claims nothing
out_wants : (lab : Lab) (e : Experiment) (row : Row) → e.phase ≡ Out → IsOf lab e row → ⊥
out_wants lab e row out of_e = let none : claimed e of_e.0 ≡ None = ap (λ p. claimed_in e.wiring p of_e.0) out in let w = of_e.2 in cc (w.is, none)

out_claims : (lab : Lab) (e : Experiment) (name : List ℕ) → e.phase ≡ Out → Claims lab e name → ⊥
out_claims lab e name out c = let none : claimed e c.which ≡ None = ap (λ p. claimed_in e.wiring p c.which) out in cc (c.is, none)

-- an experiment that is In claims one mapping, as its new one
in_only : (e : Experiment) (mapping : Mapping) (tags : List VlanId) (which : Which) (m n : Mapped) → e.phase ≡ In mapping tags → claimed e which ≡ Some m → claimed e New ≡ Some n → m ≡ n
in_only e mapping tags New m n inside is is_new = cc
in_only e mapping tags Old m n inside is is_new = let none : claimed e Old ≡ None = ap (λ p. claimed_in e.wiring p Old) inside in cc

module _ (lab : Lab) (a b : List Experiment) (e f : Experiment) (w : World) (is_lab : IsLab lab) (holding : Holding lab (a ++ f ∷ b)) where
  f_in : Has (a ++ f ∷ b) f
  f_in = Has-right a (f ∷ b) f (inl refl)

  f_tags : AllDiffer (claimed_tags f)
  f_tags = flat-each claimed_tags (a ++ f ∷ b) f holding.tags f_in

  -- Begin of a swap-in
  pub begin_in : (m : Mapped) → e.phase ≡ Out → f.phase ≡ Moving None (Some m) → Parts lab (a ++ e ∷ b) w → Parts lab (a ++ f ∷ b) w
  begin_in m out moving parts =
      let mine : claimed f New ≡ Some m = ap (λ p. claimed_in f.wiring p New) moving in
      replaced lab a b e f w parts
      (λ row of_e is. absurd (out_wants lab e row out of_e))
      (λ name claims claims_not. absurd (out_claims lab e name out claims))
      (part_of_one_side lab f None (Some m) moving w New m is_lab (holding.fits f New m f_in mine) mine f_tags
      (λ n name claims is kept. absurd (false≢true kept))
      (record {
        rows = λ row of_f is. absurd (out_wants lab e row out (new_rows lab a b e f w holding parts.wanted row of_f is));
        pipes = λ name k row claims stands. let free = (new_nodes lab a b e f w holding parts.free name claims (λ c. out_claims lab e name out c)).pipes k in absurd (cc (free, stands));
      }))

  -- Begin of a swap-out or a change
  pub begin_from : (mapping : Mapping) (tags : List VlanId) (new : Option Mapped) → e.phase ≡ In mapping tags → f.phase ≡ Moving (Some (record { wiring = e.wiring; mapping = mapping; tags = tags })) new → Parts lab (a ++ e ∷ b) w → Parts lab (a ++ f ∷ b) w
  begin_from mapping tags new inside moving parts =
      let m : Mapped = record { wiring = e.wiring; mapping = mapping; tags = tags } in
      let was : claimed e New ≡ Some m = ap (λ p. claimed_in e.wiring p New) inside in
      let mine : claimed f Old ≡ Some m = ap (λ p. claimed_in f.wiring p Old) moving in
      let cabled : CabledPhase lab w e (In mapping tags) = subst (λ p. CabledPhase lab w e p) inside (parts.each e (Has-right a (e ∷ b) e (inl refl))).phase in
      let only : (row : Row) → IsOf lab e row → (link : List ℕ) × Has (rows_of lab m) (record { row = row; owner = link }) = λ row of_e. let x = of_e.2 in
      (of_e.1, subst (λ n. Has (rows_of lab n) (record { row = row; owner = of_e.1 })) (in_only e mapping tags of_e.0 x.mapped m inside x.is was) x.row_of) in
      let placed : (name : List ℕ) → Claims lab e name → Places lab m name = λ name c. subst (λ n. Places lab n name) (in_only e mapping tags c.which c.mapped m inside c.is was) c.placed in
      replaced lab a b e f w parts
      (λ row of_e is. let x = only row of_e in (Old, x.0, record { mapped = m; is = mine; row_of = x.1 }))
      (λ name claims claims_not. absurd (claims_not (record { which = Old; mapped = m; is = mine; placed = placed name claims })))
      (part_of_one_side lab f (Some m) new moving w Old m is_lab (holding.fits f Old m f_in mine) mine f_tags
      (λ n name claims is kept.
      let kept' : is_kept lab (Some m) (Some n) name ≡ true = subst (λ o. is_kept lab (Some m) o name ≡ true) is kept in
      kept_alike lab m n name (w.node name) kept' (cabled.1 name (Places_from lab m name (and_parts _ _ (and_parts _ _ (and_parts _ _ kept').0).0).0)))
      (record {
        rows = λ row of_f is. only row (new_rows lab a b e f w holding parts.wanted row of_f is);
        pipes = λ name k row claims stands. elim (claims_or_not lab e name) [
          | inl c ↦ sym ((cabled.1 name (placed name c)).pipes k) ∙ stands
          | inr c ↦ let free = (new_nodes lab a b e f w holding parts.free name claims c).pipes k in absurd (cc (free, stands))
        ];
      }))

  -- Commit or Abort that ends In: what stands is exactly what that mapping wants, and the other nodes are wiped.
  pub end_in : (mapping : Mapping) (tags : List VlanId) → f.phase ≡ In mapping tags
      → (let m : Mapped = record { wiring = f.wiring; mapping = mapping; tags = tags } in
      ((row : Row) → IsOf lab e row → IsRow w row → (link : List ℕ) × Has (rows_of lab m) (record { row = row; owner = link }))
      → ((row : Row) (link : List ℕ) → Has (rows_of lab m) (record { row = row; owner = link }) → IsRow w row)
      → ((name : List ℕ) → Places lab m name → SameNode (w.node name) (node_row_of lab m name))
      → ((name : List ℕ) → Claims lab e name → (Places lab m name → ⊥) → SameNode (w.node name) wiped)
      → Parts lab (a ++ e ∷ b) w → Parts lab (a ++ f ∷ b) w)
  end_in mapping tags inside only stand exact others parts =
      let m : Mapped = record { wiring = f.wiring; mapping = mapping; tags = tags } in
      let mine : claimed f New ≡ Some m = ap (λ p. claimed_in f.wiring p New) inside in
      replaced lab a b e f w parts
      (λ row of_e is. let x = only row of_e is in (New, x.0, record { mapped = m; is = mine; row_of = x.1 }))
      (λ name claims claims_not. others name claims (λ placed. claims_not (record { which = New; mapped = m; is = mine; placed = placed })))
      (record {
        apart = one_sided_apart lab w f New m is_lab (holding.fits f New m f_in mine) mine f_tags (record {
          rows = λ row of_f is. let x = of_f.2 in (of_f.1, subst (λ n. Has (rows_of lab n) (record { row = row; owner = of_f.1 })) (in_only f mapping tags of_f.0 x.mapped m inside x.is mine) x.row_of);
          pipes = λ name k row claims stands. sym ((exact name (subst (λ n. Places lab n name) (in_only f mapping tags claims.which claims.mapped m inside claims.is mine) claims.placed)).pipes k) ∙ stands;
        });
        phase = subst (λ p. CabledPhase lab w f p) (sym inside) (stand, exact);
      })

  -- Commit or Abort that ends Out: nothing stands.
  pub end_out : f.phase ≡ Out → ((row : Row) → IsOf lab e row → IsRow w row → ⊥) → ((name : List ℕ) → Claims lab e name → SameNode (w.node name) wiped) → Parts lab (a ++ e ∷ b) w → Parts lab (a ++ f ∷ b) w
  end_out out gone clean parts = replaced lab a b e f w parts
      (λ row of_e is. absurd (gone row of_e is))
      (λ name claims claims_not. clean name claims)
      (record {
        apart = λ p q which link which' link' reach wants wants'. absurd (out_wants lab f p out (which, link, wants));
        phase = subst (λ p. CabledPhase lab w f p) (sym out) tt;
      })
