-- The invariants of a move, phase by phase.
use Rattle.std.proofs.Common.{◌≡◌, ◌⊎◌, inl, inr, ℕ, Bool, true, false, Option, Some, None, slice_get, Result, Ok, List, [], ◌∷◌, refl, sym, ap, ◌∙◌, subst}
use Rattle.std.proofs.lemmas.Bool.{cases_Bool, true≢false, false≢true}
use Rattle.lab_base.specs.Lists.{Has, AllDiffer}
use Rattle.phys_lab.specs.Labs.{Lab}
use Rattle.phys_lab.specs.Kept.{IsLab}
use Rattle.virt_topo.specs.declared.experiment.Experiment.{Experiment}
use Rattle.virt_topo.specs.declared.mapping.Mapped.{Mapped}
use Rattle.virt_topo.specs.declared.experiment.Phase.TheVariants.{Moving}
use Rattle.plant.specs.Worlds.{Row, PipeRow, World}
use Rattle.plant.specs.declared.device.Answer.{Answer}
use Rattle.plant.specs.declared.device.Answer.TheVariants.{Done}
use Rattle.plant.specs.declared.device.Fault.{Fault}
use Rattle.plant.specs.declared.device.DeviceOp.{DeviceOp}
use Rattle.plant.specs.declared.device.DeviceOp.TheVariants.{Wipe}
use Rattle.lab_model.specs.Leavings.{did, OneSided}
use Rattle.lab_model.specs.Wants.{rows_of, pipes_on, node_row_of}
use Rattle.lab_model.specs.Claims.{Which, Old, New, claimed, claimed_in, Wants, Places, Claims, claimed_tags}
use Rattle.lab_model.specs.Kept.{is_kept}
use Rattle.lab_model.specs.Holding.{Suits}
use Rattle.lab_model.specs.Isolated.{IsRow}
use Rattle.lab_model.specs.Cabled.{SameNode, WantsPipe, CabledPhase}
use Rattle.lab_model.specs.Parts.{Part}
use Rattle.lab_model.specs.Courses.{op_node, op_join, op_pipe, leave}
use Rattle.lab_model.proofs.Steps.{did_node}
use Rattle.lab_model.proofs.OneSided.{one_sided_apart}
use Rattle.lab_model.proofs.CourseLaws.{row_came, pipe_came, shrinks}
use Rattle.lab_model.proofs.Clearing.{done, left_after, stood_before}
use Rattle.lab_model.proofs.Kept.{pipe_placed, kept_pipes}

abbrev pub other : Which → Which
other Old = New
other New = Old

pub one_of : (from which : Which) → (which ≡ from) ⊎ (which ≡ other from)
one_of Old Old = inl refl
one_of Old New = inr refl
one_of New Old = inr refl
one_of New New = inl refl

module _ (lab : Lab) (e : Experiment) (old new : Option Mapped) (moving : e.phase ≡ Moving old new) where
  pub claims_old : claimed e Old ≡ old
  claims_old = ap (λ p. claimed_in e.wiring p Old) moving

  pub claims_new : claimed e New ≡ new
  claims_new = ap (λ p. claimed_in e.wiring p New) moving

  -- kept nodes have exactly their wanted row
  abbrev pub KeptExact : World → Type 0
  KeptExact w = (m : Mapped) (name : List ℕ) → Claims lab e name → new ≡ Some m → is_kept lab old new name ≡ true → SameNode (w.node name) (node_row_of lab m name)

  -- the command goes to no kept node
  abbrev pub SparesKept : DeviceOp → Type 0
  SparesKept op = (name : List ℕ) → op_node op ≡ Some name → is_kept lab old new name ≡ false

  pub kept_after : (w : World) (op : DeviceOp) (applied : Bool) (answer : Result Answer Fault) → SparesKept op → KeptExact w → KeptExact (did w op applied answer)
  kept_after w op applied answer spares exact m name claims is kept =
      subst (λ n. SameNode n (node_row_of lab m name)) (sym (did_node w op applied answer name (λ goes. true≢false (sym kept ∙ spares name goes)))) (exact m name claims is kept)

  pub phase_of : (w : World) → Part lab w e → CabledPhase lab w e (Moving old new)
  phase_of w part = subst (λ p. CabledPhase lab w e p) moving part.phase

  -- WHILE CLEARING: a command that adds nothing and spares kept nodes keeps the part.
  pub part_shrinks : (w : World) (op : DeviceOp) (applied : Bool) (answer : Result Answer Fault) → op_join op ≡ None → op_pipe op ≡ None → SparesKept op → Part lab w e → Part lab (did w op applied answer) e
  part_shrinks w op applied answer no_row no_pipe spares part = record {
    apart = λ p q which link which' link' reach wants wants'.
        part.apart p q which link which' link'
        ((reach.0.0, elim (row_came w op applied answer p reach.0.1) [ inl was ↦ was | inr came ↦ absurd (cc (came, no_row)) ]), (reach.1.0, shrinks lab w e op applied answer no_row no_pipe p reach.1.0 q reach.1.1))
        wants wants';
    phase = subst (λ p. CabledPhase lab (did w op applied answer) e p) (sym moving) (
      kept_after w op applied answer spares (phase_of w part).0,
      λ name k row claims not_kept stands. (phase_of w part).1 name k row claims not_kept
          (elim (pipe_came w op applied answer name k row stands) [ inl was ↦ was | inr came ↦ absurd (cc (came, no_pipe)) ]),
    );
  }

  -- WHILE BUILDING: rows and pipes of one mapping alone, and exact kept nodes, are a part.
  pub part_of_one_side : (w : World) (which : Which) (m : Mapped) → IsLab lab → Suits lab m → claimed e which ≡ Some m → AllDiffer (claimed_tags e) → KeptExact w → OneSided lab w e m → Part lab w e
  part_of_one_side w which m is_lab suits mine differ exact sided = record {
    apart = one_sided_apart lab w e which m is_lab suits mine differ sided;
    phase = subst (λ p. CabledPhase lab w e p) (sym moving) (exact, λ name k row claims not_kept stands. wanted which mine name k row (sided.pipes name k row claims stands));
  }
    where
      wanted : (which : Which) → claimed e which ≡ Some m → (name : List ℕ) (k : ℕ) (row : PipeRow) → slice_get (pipes_on lab m name) k ≡ Some row → WantsPipe lab old name k row ⊎ WantsPipe lab new name k row
      wanted Old is name k row has = inl (subst (λ o. WantsPipe lab o name k row) (sym is ∙ claims_old) has)
      wanted New is name k row has = inr (subst (λ o. WantsPipe lab o name k row) (sym is ∙ claims_new) has)

  -- FROM CLEARING TO BUILDING: after the whole clearing only the other mapping's rows and pipes stand.
  -- `from` is the mapping that is cleared, and its other one is built.
  pub record Cleared (from : Which) (ops : List DeviceOp) : Type 0 where
    pub adds_none : (op : DeviceOp) → Has ops op → (op_join op ≡ None) × (op_pipe op ≡ None)
    pub leaves : (n : Mapped) (row : Row) (link : List ℕ) → claimed e from ≡ Some n → Has (rows_of lab n) (record { row = row; owner = link }) → Has ops (leave (record { row = row; owner = link }))
    pub wipes : (n : Mapped) (name : List ℕ) → claimed e from ≡ Some n → Places lab n name → is_kept lab old new name ≡ false → Has ops (Wipe name)

  pub spared : (ops : List DeviceOp) (w : World) → ((op : DeviceOp) → Has ops op → SparesKept op) → KeptExact w → KeptExact (done w ops)
  spared [] w spares exact = exact
  spared (op ∷ ops) w spares exact = spared ops (did w op true (Ok Done)) (λ p h. spares p (inr h)) (kept_after w op true (Ok Done) (spares op (inl refl)) exact)

  rows_after : (w : World) (from to : Which) (m : Mapped) (ops : List DeviceOp) → Cleared from ops → claimed e to ≡ Some m → (row : Row) → (which : Which) → (link : List ℕ) → Wants lab e row which link → (which ≡ from) ⊎ (which ≡ to) → IsRow (done w ops) row → (l : List ℕ) × Has (rows_of lab m) (record { row = row; owner = l })
  rows_after w from to m ops cleared mine row which link wants (inl is) stands =
      absurd (left_after ops w (record { row = row; owner = link }) (λ op h. (cleared.adds_none op h).0) (inr (cleared.leaves wants.mapped row link (subst (λ x. claimed e x ≡ Some wants.mapped) is wants.is) wants.row_of)) stands)
  rows_after w from to m ops cleared mine row which link wants (inr is) stands =
      let same : wants.mapped ≡ m = let there = subst (λ x. claimed e x ≡ Some wants.mapped) is wants.is in cc in
      (link, subst (λ n. Has (rows_of lab n) (record { row = row; owner = link })) same wants.row_of)

  -- a kept node has the pipes that either mapping wants there
  kept_wants : (to : Which) (o p : Option Mapped) (m : Mapped) (name : List ℕ) (k : ℕ) (row : PipeRow) → claimed e to ≡ Some m → old ≡ o → new ≡ p → is_kept lab o p name ≡ true
      → (w : World) → KeptExact w → Claims lab e name → (w.node name).pipes k ≡ Some row → slice_get (pipes_on lab m name) k ≡ Some row
  kept_wants to None p m name k row mine is_old is_new kept w exact claims stands = absurd (false≢true kept)
  kept_wants to (Some a) None m name k row mine is_old is_new kept w exact claims stands = absurd (false≢true kept)
  kept_wants New (Some a) (Some b) m name k row mine is_old is_new kept w exact claims stands =
      let same : b ≡ m = let there = sym claims_new ∙ mine in cc in
      subst (λ n. slice_get (pipes_on lab n name) k ≡ Some row) same
      (sym ((exact b name claims is_new (ap (λ o. is_kept lab o new name) is_old ∙ ap (λ o. is_kept lab (Some a) o name) is_new ∙ kept)).pipes k) ∙ stands)
  kept_wants Old (Some a) (Some b) m name k row mine is_old is_new kept w exact claims stands =
      let same : a ≡ m = let there = sym claims_old ∙ mine in cc in
      subst (λ n. slice_get (pipes_on lab n name) k ≡ Some row) same
      (subst (λ l. slice_get l k ≡ Some row) (sym (kept_pipes lab a b name kept))
      (sym ((exact b name claims is_new (ap (λ o. is_kept lab o new name) is_old ∙ ap (λ o. is_kept lab (Some a) o name) is_new ∙ kept)).pipes k) ∙ stands))

  pub cleared_one_side : (w : World) (from : Which) (m : Mapped) (ops : List DeviceOp) → claimed e (other from) ≡ Some m → ((n : Mapped) → claimed e from ≡ Some n → Suits lab n)
      → Cleared from ops → ((op : DeviceOp) → Has ops op → SparesKept op) → Part lab w e → OneSided lab (done w ops) e m
  cleared_one_side w from m ops mine suits cleared spares part = record {
    rows = λ row of_e stands. rows_after w from (other from) m ops cleared mine row of_e.0 of_e.1 of_e.2 (one_of from of_e.0) stands;
    pipes = λ name k row claims stands. elim (cases_Bool (is_kept lab old new name)) [
      | inl kept ↦ kept_wants (other from) old new m name k row mine refl refl kept (done w ops) (spared ops w spares (phase_of w part).0) claims stands
      | inr not_kept ↦
          let before = stood_before ops w name k row (λ op h. (cleared.adds_none op h).1) stands in
          stays from name k row not_kept mine suits cleared before.1 ((phase_of w part).1 name k row claims not_kept before.0)
    ];
  }
    where
      gone : (from : Which) (o : Option Mapped) (name : List ℕ) (k : ℕ) (row : PipeRow) → claimed e from ≡ o → ((n : Mapped) → claimed e from ≡ Some n → Suits lab n) → Cleared from ops → is_kept lab old new name ≡ false → WantsPipe lab o name k row → Has ops (Wipe name)
      gone from None name k row is suits cleared not_kept wants = absurd wants
      gone from (Some n) name k row is suits cleared not_kept wants = cleared.wipes n name is (pipe_placed lab n name k row (suits n is) wants) not_kept

      stays : (from : Which) (name : List ℕ) (k : ℕ) (row : PipeRow) → is_kept lab old new name ≡ false → claimed e (other from) ≡ Some m → ((n : Mapped) → claimed e from ≡ Some n → Suits lab n) → Cleared from ops
          → (Has ops (Wipe name) → ⊥) → WantsPipe lab old name k row ⊎ WantsPipe lab new name k row → slice_get (pipes_on lab m name) k ≡ Some row
      stays Old name k row not_kept mine suits cleared unwiped (inl of_old) = absurd (unwiped (gone Old old name k row claims_old suits cleared not_kept of_old))
      stays Old name k row not_kept mine suits cleared unwiped (inr of_new) = subst (λ o. WantsPipe lab o name k row) (sym claims_new ∙ mine) of_new
      stays New name k row not_kept mine suits cleared unwiped (inl of_old) = subst (λ o. WantsPipe lab o name k row) (sym claims_old ∙ mine) of_old
      stays New name k row not_kept mine suits cleared unwiped (inr of_new) = absurd (unwiped (gone New new name k row claims_new suits cleared not_kept of_new))
