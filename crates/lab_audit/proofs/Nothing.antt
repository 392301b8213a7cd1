-- A cabled lab differs in nothing.
use Rattle.std.proofs.Common.{◌≡◌, inl, inr, ℕ, true, List, [], ◌∷◌, ◌++◌, Option, Some, None, refl, ap, ◌∙◌, subst}
use Rattle.std.specs.Prelude.{is_some}
use Rattle.lab_base.specs.Lists.{Has}
use Rattle.phys_lab.specs.Labs.{Lab}
use Rattle.virt_topo.specs.declared.experiment.Experiment.{Experiment}
use Rattle.virt_topo.specs.declared.experiment.Phase.{Phase}
use Rattle.virt_topo.specs.declared.experiment.Phase.TheVariants.{Out, In, Moving}
use Rattle.virt_topo.specs.declared.mapping.Mapped.{Mapped}
use Rattle.plant.specs.Worlds.{Row, World}
use Rattle.lab_model.specs.Cabled.{Cabled, CabledPhase, SameNode}
use Rattle.lab_model.specs.Claims.{Places}
use Rattle.lab_model.specs.Courses.{node_names}
use Rattle.lab_model.specs.Wants.{rows_of, node_row_of}
use Rattle.script_text.specs.declared.reply.AuditLine.{AuditLine}
use Rattle.script_text.specs.declared.reply.AuditLine.TheVariants.{Lacks, Strange, Node}
use Rattle.lab_audit.specs.Diff.{standing_in, Tells, AreLines, AreLinesOf, Differs, Held, Free, AreDiffering, IsDiff, IsKnown}

-- what stands of an experiment that is in
stands : (lab : Lab) (w : World) (e : Experiment) (phase : Phase) (m : Mapped) → CabledPhase lab w e phase → standing_in e.wiring phase ≡ Some m
    → ((row : Row) (link : List ℕ) → Has (rows_of lab m) (record { row = row; owner = link }) → w.rows row ≡ true) × ((name : List ℕ) → Places lab m name → SameNode (w.node name) (node_row_of lab m name))
stands lab w e Out m c is = absurd (cc is)
stands lab w e (In mapping tags) m c is = subst (λ (o : Option Mapped). Of o) is c
  where
    Of : Option Mapped → Type 0
    Of None = Unit {0}
    Of (Some n) = ((row : Row) (link : List ℕ) → Has (rows_of lab n) (record { row = row; owner = link }) → w.rows row ≡ true) × ((name : List ℕ) → Places lab n name → SameNode (w.node name) (node_row_of lab n name))
stands lab w e (Moving old new) m c is = absurd (cc is)

module _ (lab : Lab) (es : List Experiment) (w : World) (c : Cabled lab es w) where
  no_line : (switch : List ℕ) (line : AuditLine) → Tells lab es w switch line → ⊥
  no_line switch (Lacks named port vlan) t =
      let is = (stands lab w t.1.by t.1.by.phase t.1.mapped (c.phases t.1.by t.1.listed) t.1.stands).0 _ t.1.link t.1.wants in
      cc (is, t.2)
  no_line switch (Strange named port vlan) t = t.2 (c.wanted _ t.1)
  no_line switch (Node node) t = t

  no_lines : (switch : List ℕ) (lines : List AuditLine) → AreLinesOf lab es w switch lines → lines ≡ []
  no_lines switch [] l = refl
  no_lines switch (line ∷ lines) l = absurd (no_line switch line ((l.exact line).0 (inl refl)))

  no_lines_at_all : (switches : List (List ℕ)) (lines : List AuditLine) → AreLines lab es w switches lines → lines ≡ []
  no_lines_at_all [] lines l = l
  no_lines_at_all (switch ∷ switches) lines l =
      let own = no_lines switch l.0 l.2 in
      let rest = no_lines_at_all switches l.1 l.3 in
      l.4 ∙ (λ i. own i ++ rest i)

  as_wanted : (name : List ℕ) → Differs lab es w name → ⊥
  as_wanted name (Held e m listed is placed other) = other ((stands lab w e e.phase m (c.phases e listed) is).1 name placed)
  as_wanted name (Free none other) = other (c.free name none)

  no_nodes : (names : List (List ℕ)) (lines : List AuditLine) → AreDiffering lab es w names lines → lines ≡ []
  no_nodes [] lines d = d
  no_nodes (name ∷ names) lines (inl d) = absurd (as_wanted name d.0)
  no_nodes (name ∷ names) lines (inr d) = no_nodes names lines d.1

  pub nothing : (report : List AuditLine) → IsDiff lab es w report → report ≡ []
  nothing report d =
      let lines = no_lines_at_all lab.switches d.lines d.switches in
      let nodes = no_nodes (node_names lab) d.nodes d.differing in
      d.are ∙ (λ i. lines i ++ nodes i)

  pub known : IsKnown lab es w
  known name has (inl (e, listed, (m, is, placed))) = ap is_some ((stands lab w e e.phase m (c.phases e listed) is).1 name placed).boot
  known name has (inr none) = ap is_some (c.free name none).boot
