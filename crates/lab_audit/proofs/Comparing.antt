-- Lines of a switch more, and of a node more.
use Rattle.std.proofs.Common.{◌≡◌, inl, inr, ℕ, zero, suc, ◌+◌, ◌<◌, Bool, true, false, List, [], ◌∷◌, ◌++◌, get_or, length, map, take, refl, sym, ap, ◌∙◌, arith, add-one, append_assoc, append-nil}
use Rattle.std.specs.Prelude.{◌↔◌}
use Rattle.std.proofs.lemmas.Bool.{false≢true}
use Rattle.lab_base.specs.Lists.{Has}
use Rattle.lab_base.proofs.Members.{Has-append}
use Rattle.phys_lab.specs.Labs.{Lab}
use Rattle.phys_lab.specs.declared.parts.Node.{Node as PhysNode}
use Rattle.virt_topo.specs.declared.experiment.Experiment.{Experiment}
use Rattle.plant.specs.Worlds.{World}
use Rattle.lab_model.specs.Courses.{node_names}
use Rattle.lab_model.specs.Shapes.{no_node as no_node_there}
use Rattle.lab_model.specs.Wants.{node_name}
use Rattle.script_text.specs.declared.reply.AuditLine.{AuditLine}
use Rattle.script_text.specs.declared.reply.AuditLine.TheVariants.{Node}
use Rattle.lab_audit.specs.Diff.{AreLines, AreLinesOf, AreDiffering, Differs, IsDiff, TellsSwitches}
use Rattle.lab_audit.specs.Nodes.{line_if}

module _ (lab : Lab) (es : List Experiment) (w : World) where
  pub lines_more : (switches : List (List ℕ)) (switch : List ℕ) (lines own : List AuditLine) → AreLines lab es w switches lines → AreLinesOf lab es w switch own → AreLines lab es w (switches ++ switch ∷ []) (lines ++ own)
  lines_more [] switch lines own none of = (own, [], of, refl, ap (λ (l : List AuditLine). l ++ own) none ∙ sym (append-nil own))
  lines_more (first ∷ switches) switch lines own l of =
      (l.0, l.1 ++ own, l.2, lines_more switches switch l.1 own l.3 of, ap (λ (ls : List AuditLine). ls ++ own) l.4 ∙ append_assoc l.0 l.1 own)

  pub differing_more : (names : List (List ℕ)) (name : List ℕ) (lines own : List AuditLine) → AreDiffering lab es w names lines → AreDiffering lab es w (name ∷ []) own → AreDiffering lab es w (names ++ name ∷ []) (lines ++ own)
  differing_more [] name lines own none of = by none
    where
      by : lines ≡ [] → AreDiffering lab es w (name ∷ []) (lines ++ own)
      by e = elim of [
        | inl d ↦ inl (d.0, (d.1.0, d.1.1, ap (λ (l : List AuditLine). l ++ own) e ∙ d.1.2))
        | inr d ↦ inr (d.0, ap (λ (l : List AuditLine). l ++ own) e ∙ d.1)
      ]
  differing_more (first ∷ names) name lines own (inl d) of =
      inl (d.0, (d.1.0 ++ own, differing_more names name d.1.0 own d.1.1 of, ap (λ (l : List AuditLine). l ++ own) d.1.2))
  differing_more (first ∷ names) name lines own (inr d) of = inr (d.0, differing_more names name lines own d.1 of)

  pub one_node : (name : List ℕ) → Differs lab es w name → AreDiffering lab es w (name ∷ []) (Node name ∷ [])
  one_node name d = inl (d, ([], refl, refl))

  pub no_node : (name : List ℕ) → (Differs lab es w name → ⊥) → AreDiffering lab es w (name ∷ []) []
  no_node name never = inr (never, refl)

  pub own_line : (differs : Bool) (name : List ℕ) → (differs ≡ true) ↔ Differs lab es w name → AreDiffering lab es w (name ∷ []) (line_if differs name)
  own_line true name is = one_node name (is.0 refl)
  own_line false name is = no_node name (λ d. false≢true (is.1 d))

-- the name of one node more
pub names_more : (lab : Lab) (n : ℕ) → n < length lab.nodes → take (n + 1) (node_names lab) ≡ take n (node_names lab) ++ node_name lab (record { 0 = n }) ∷ []
names_more lab n lt = ap (λ (k : ℕ). take k (node_names lab)) (add-one n) ∙ more lab.nodes n lt
  where
    more : (nodes : List PhysNode) (n : ℕ) → n < length nodes → take (suc n) (map (λ (x : PhysNode). x.name) nodes) ≡ take n (map (λ (x : PhysNode). x.name) nodes) ++ (get_or nodes n no_node_there).name ∷ []
    more [] n lt = absurd (omega (arith, lt))
    more (x ∷ nodes) zero lt = refl
    more (x ∷ nodes) (suc n) lt = ap (λ (l : List (List ℕ)). x.name ∷ l) (more nodes n (omega (arith, lt)))

pub has_name : (lab : Lab) (n : ℕ) → n < length lab.nodes → Has (node_names lab) (node_name lab (record { 0 = n }))
has_name lab n lt = more lab.nodes n lt
  where
    more : (nodes : List PhysNode) (n : ℕ) → n < length nodes → Has (map (λ (x : PhysNode). x.name) nodes) (get_or nodes n no_node_there).name
    more [] n lt = absurd (omega (arith, lt))
    more (x ∷ nodes) zero lt = inl refl
    more (x ∷ nodes) (suc n) lt = inr (more nodes n (omega (arith, lt)))

-- lines of nodes, and one more
abbrev pub AreOfNodes : List AuditLine → Type 0
AreOfNodes lines = (line : AuditLine) → Has lines line → (name : List ℕ) × (line ≡ Node name)

pub of_nodes_more : (lines own : List AuditLine) → AreOfNodes lines → AreOfNodes own → AreOfNodes (lines ++ own)
of_nodes_more lines own a b line h = elim (Has-append lines own line h) [ inl g ↦ a line g | inr g ↦ b line g ]

pub of_node : (differs : Bool) (name : List ℕ) → AreOfNodes (line_if differs name)
of_node true name line (inl e) = (name, sym e)
of_node true name line (inr h) = absurd h
of_node false name line h = absurd h

-- ALL LINES OF A REPORT
pub is_diff : (lab : Lab) (es : List Experiment) (w : World) (lines nodes : List AuditLine) → AreLines lab es w lab.switches lines → AreDiffering lab es w (node_names lab) nodes → IsDiff lab es w (lines ++ nodes)
is_diff lab es w lines nodes l n = record { lines = lines; nodes = nodes; switches = l; differing = n; are = refl }

pub tells_switches : (lab : Lab) (es : List Experiment) (w : World) (lines nodes : List AuditLine) → AreLines lab es w lab.switches lines → AreOfNodes nodes → TellsSwitches lab es w (lines ++ nodes)
tells_switches lab es w lines nodes l n = record { lines = lines; nodes = nodes; switches = l; of_nodes = n; are = refl }
