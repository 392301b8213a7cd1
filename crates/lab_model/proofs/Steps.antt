-- A step of one experiment keeps the parts of all others.
use Rattle.std.specs.Str.{bytes_eq}
use Rattle.std.proofs.Common.{◌≡◌, ◌≢◌, ◌⊎◌, inl, inr, ℕ, Bool, true, false, ◌&&◌, ◌||◌, not, Option, Some, Result, List, [], ◌∷◌, refl, sym, ap, ◌∙◌, subst, cond}
use Rattle.std.proofs.lemmas.Bool.{cases_Bool, and_parts, eqb-true, or_cases}
use Rattle.std.proofs.lemmas.Slice.Eq.{bytes_eq-Decides}
use Rattle.lab_base.specs.Lists.{Has}
use Rattle.phys_lab.specs.Labs.{Lab}
use Rattle.phys_lab.specs.Kept.{IsLab}
use Rattle.virt_topo.specs.declared.experiment.Experiment.{Experiment}
use Rattle.virt_topo.specs.declared.mapping.Mapped.{Mapped}
use Rattle.virt_topo.specs.declared.experiment.Phase.{Phase}
use Rattle.virt_topo.specs.declared.experiment.Phase.TheVariants.{Out, In, Moving}
use Rattle.plant.specs.Worlds.{Row, PipeRow, NodeRow, World, wiped, is_row, row_after, node_after, node_polled}
use Rattle.plant.specs.declared.device.Answer.{Answer}
use Rattle.plant.specs.declared.device.Fault.{Fault}
use Rattle.plant.specs.declared.device.DeviceOp.{DeviceOp}
use Rattle.plant.specs.declared.device.DeviceOp.TheVariants.{Join, Leave, Shape, Load, Boot as BootIt, Poll, Wipe}
use Rattle.lab_model.specs.Leavings.{did, SameFor}
use Rattle.lab_model.specs.Claims.{New, claimed, Claims, claimed_in, IsOf}
use Rattle.lab_model.specs.Reach.{Next, by_switch, by_trunk, by_pipe, LeadsOn}
use Rattle.lab_model.specs.Holding.{Holding}
use Rattle.lab_model.specs.Isolated.{IsRow, IsPipe}
use Rattle.lab_model.specs.Cabled.{SameNode, CabledPhase}
use Rattle.lab_model.specs.Parts.{Part, Parts}
use Rattle.lab_model.specs.Courses.{op_row, op_node, IsCommandOf}
use Rattle.lab_model.proofs.PartLaws.{same_vlan, same_node}

pub is_row-true : (switch : List ℕ) (port vlan : ℕ) (row : Row) → is_row switch port vlan row ≡ true → ◌≡◌ {A = Row} (record { switch = switch; port = port; vlan = vlan }) row
is_row-true switch port vlan row h =
    let both = and_parts _ _ h in
    let first = and_parts _ _ both.0 in
    let s = (bytes_eq-Decides row.switch switch).0 first.0 in
    let p = eqb-true row.port port first.1 in
    let v = eqb-true row.vlan vlan both.1 in
    sym (λ i. record { switch = s i; port = p i; vlan = v i })

-- a row that the command does not name stays
pub row_elsewhere : (op : DeviceOp) (row : Row) (had : Bool) → (op_row op ≡ Some row → ⊥) → row_after op row had ≡ had
row_elsewhere (Join switch port vlan) row had apart = elim (cases_Bool (is_row switch port vlan.0 row)) [
  | inl is ↦ absurd (apart (ap (λ r. Some r) (is_row-true switch port vlan.0 row is)))
  | inr is_not ↦ ap (λ b. b || had) is_not
]
row_elsewhere (Leave switch port vlan) row had apart = elim (cases_Bool (is_row switch port vlan.0 row)) [
  | inl is ↦ absurd (apart (ap (λ r. Some r) (is_row-true switch port vlan.0 row is)))
  | inr is_not ↦ ap (λ b. not b && had) is_not
]
row_elsewhere (Shape node number from to there back) row had apart = refl
row_elsewhere (Load node os) row had apart = refl
row_elsewhere (BootIt node) row had apart = refl
row_elsewhere (Poll node) row had apart = refl
row_elsewhere (Wipe node) row had apart = refl

other_name : {X : Type 0} (name node : List ℕ) (x y : X) → (◌≡◌ {A = Option (List ℕ)} (Some node) (Some name) → ⊥) → cond (bytes_eq name node) x y ≡ y
other_name name node x y apart = elim (cases_Bool (bytes_eq name node)) [
  | inl is ↦ absurd (apart (ap (λ n. Some n) (sym ((bytes_eq-Decides name node).0 is))))
  | inr is_not ↦ ap (λ b. cond b x y) is_not
]

pub node_elsewhere : (op : DeviceOp) (name : List ℕ) (had : NodeRow) → (op_node op ≡ Some name → ⊥) → node_after op name had ≡ had
node_elsewhere (Join switch port vlan) name had apart = refl
node_elsewhere (Leave switch port vlan) name had apart = refl
node_elsewhere (Shape node number from to there back) name had apart = other_name name node _ had apart
node_elsewhere (Load node os) name had apart = other_name name node _ had apart
node_elsewhere (BootIt node) name had apart = other_name name node _ had apart
node_elsewhere (Poll node) name had apart = refl
node_elsewhere (Wipe node) name had apart = other_name name node _ had apart

pub polled_elsewhere : (op : DeviceOp) (answer : Result Answer Fault) (name : List ℕ) (had : NodeRow) → (op_node op ≡ Some name → ⊥) → node_polled op answer name had ≡ had
polled_elsewhere (Poll node) answer name had apart = other_name name node _ had apart
polled_elsewhere (Join switch port vlan) answer name had apart = refl
polled_elsewhere (Leave switch port vlan) answer name had apart = refl
polled_elsewhere (Shape node number from to there back) answer name had apart = refl
polled_elsewhere (Load node os) answer name had apart = refl
polled_elsewhere (BootIt node) answer name had apart = refl
polled_elsewhere (Wipe node) answer name had apart = refl

pub did_row : (w : World) (op : DeviceOp) (applied : Bool) (answer : Result Answer Fault) (row : Row) → (op_row op ≡ Some row → ⊥) → (did w op applied answer).rows row ≡ w.rows row
did_row w op true answer row apart = row_elsewhere op row (w.rows row) apart
did_row w op false answer row apart = refl

pub did_node : (w : World) (op : DeviceOp) (applied : Bool) (answer : Result Answer Fault) (name : List ℕ) → (op_node op ≡ Some name → ⊥) → (did w op applied answer).node name ≡ w.node name
did_node w op true answer name apart = polled_elsewhere op answer name (node_after op name (w.node name)) apart ∙ node_elsewhere op name (w.node name) apart
did_node w op false answer name apart = polled_elsewhere op answer name (w.node name) apart

module _ (lab : Lab) (v w : World) (e : Experiment) (same : SameFor lab e v w) where
  pipe_back : (name : List ℕ) (row : PipeRow) → Claims lab e name → IsPipe w name row → IsPipe v name row
  pipe_back name row claims stands = subst (λ n. (k : ℕ) × (n.pipes k ≡ Some row)) (same.nodes name claims) stands

  next_back : (p q : Row) → Next lab (λ name row. Claims lab e name × IsPipe w name row) p q → Next lab (λ name row. Claims lab e name × IsPipe v name row) p q
  next_back p q (by_switch vlan switch) = by_switch vlan switch
  next_back p q (by_trunk t in_lab vlan ends) = by_trunk t in_lab vlan ends
  next_back p q (by_pipe node row stands ends) = by_pipe node row (stands.0, pipe_back node row stands.0 stands.1) ends

  leads_back : (p : Row) (path : List Row) (q : Row) → LeadsOn lab (λ name row. Claims lab e name × IsPipe w name row) (λ row. IsOf lab e row × IsRow w row) p path q
      → LeadsOn lab (λ name row. Claims lab e name × IsPipe v name row) (λ row. IsOf lab e row × IsRow v row) p path q
  leads_back p [] q leads = leads
  leads_back p (mid ∷ path) q leads = ((leads.0.0, sym (same.rows mid leads.0.0) ∙ leads.0.1), next_back p mid leads.1, leads_back mid path q leads.2)

  same_for_node : (name : List ℕ) (n : NodeRow) → Claims lab e name → SameNode (v.node name) n → SameNode (w.node name) n
  same_for_node name n claims alike = subst (λ r. SameNode r n) (sym (same.nodes name claims)) alike

  -- so the part stays
  pub part_same : Part lab v e → Part lab w e
  part_same part = record {
    apart = λ p q which link which' link' reach wants wants'.
        part.apart p q which link which' link' ((reach.0.0, sym (same.rows p reach.0.0) ∙ reach.0.1), (reach.1.0, leads_back p reach.1.0 q reach.1.1)) wants wants';
    phase = phase_same e.phase refl part.phase;
  }
    where
      phase_same : (phase : Phase) → e.phase ≡ phase → CabledPhase lab v e phase → CabledPhase lab w e phase
      phase_same Out is cabled = tt
      phase_same (In mapping tags) is cabled =
          let m : Mapped = record { wiring = e.wiring; mapping = mapping; tags = tags } in
          let mine : claimed e New ≡ Some m = ap (λ p. claimed_in e.wiring p New) is in (
            λ row link wanted. same.rows row (New, link, record { mapped = m; is = mine; row_of = wanted }) ∙ cabled.0 row link wanted,
            λ name placed. same_for_node name _ (record { which = New; mapped = m; is = mine; placed = placed }) (cabled.1 name placed),
          )
      phase_same (Moving old new) is cabled = (
        λ m name claims is_new kept. same_for_node name _ claims (cabled.0 m name claims is_new kept),
        λ name k row claims not_kept stands. cabled.1 name k row claims not_kept (subst (λ n. n.pipes k ≡ Some row) (same.nodes name claims) stands),
      )

-- A command of one experiment changes nothing of another.
pub others_same : (lab : Lab) (es : List Experiment) → IsLab lab → Holding lab es → (w : World) (e f : Experiment) (op : DeviceOp) (applied : Bool) (answer : Result Answer Fault)
    → Has es e → Has es f → e ≢ f → IsCommandOf lab f op → SameFor lab e w (did w op applied answer)
others_same lab es is_lab holding w e f op applied answer in_e in_f differ of_f = record {
  rows = λ row of_e. did_row w op applied answer row (λ is. differ (same_vlan lab es is_lab holding e f row row in_e in_f of_e (of_f.row row is) refl));
  nodes = λ name claims. did_node w op applied answer name (λ is. differ (same_node lab es is_lab holding e f name in_e in_f claims (of_f.node name is)));
}

-- Join alone adds a row
row_from : (w : World) (op : DeviceOp) (applied : Bool) (answer : Result Answer Fault) (row : Row) → (did w op applied answer).rows row ≡ true → (w.rows row ≡ true) ⊎ (op_row op ≡ Some row)
row_from w (Join switch port vlan) true answer row is = elim (or_cases (is_row switch port vlan.0 row) (w.rows row) is) [
  | inl a ↦ inr (ap (λ r. Some r) (is_row-true switch port vlan.0 row a))
  | inr b ↦ inl b
]
row_from w (Leave switch port vlan) true answer row is = inl (and_parts _ _ is).1
row_from w (Shape node number from to there back) true answer row is = inl is
row_from w (Load node os) true answer row is = inl is
row_from w (BootIt node) true answer row is = inl is
row_from w (Poll node) true answer row is = inl is
row_from w (Wipe node) true answer row is = inl is
row_from w op false answer row is = inl is

-- A command of one experiment keeps the parts of all others, and what is wanted and free.
pub parts_after : (lab : Lab) (es : List Experiment) → IsLab lab → Holding lab es → (w : World) (f : Experiment) (op : DeviceOp) (applied : Bool) (answer : Result Answer Fault)
    → Parts lab es w → Has es f → IsCommandOf lab f op
    → ((e : Experiment) → Has es e → (e ≡ f) ⊎ (e ≢ f))
    → Part lab (did w op applied answer) f → Parts lab es (did w op applied answer)
parts_after lab es is_lab holding w f op applied answer parts in_f of_f either part = record {
  wanted = λ row is. elim (row_from w op applied answer row is) [ inl old ↦ parts.wanted row old | inr new ↦ (f, in_f, of_f.row row new) ];
  free = λ name unclaimed. subst (λ n. SameNode n wiped) (sym (did_node w op applied answer name (λ is. unclaimed f in_f (of_f.node name is)))) (parts.free name unclaimed);
  each = λ e in_e. elim (either e in_e) [
    | inl is ↦ subst (λ x. Part lab (did w op applied answer) x) (sym is) part
    | inr differ ↦ part_same lab w (did w op applied answer) e (others_same lab es is_lab holding w e f op applied answer in_e in_f differ of_f) (parts.each e in_e)
  ];
}
