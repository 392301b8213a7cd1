-- The part of an experiment along its courses.
use Rattle.std.specs.Str.{bytes_eq}
use Rattle.std.proofs.Common.{◌≡◌, ◌⊎◌, inl, inr, ℕ, Bool, true, false, cond, eqb, Option, Some, None, slice_get, Result, List, [], ◌∷◌, refl, sym, ap, ◌∙◌}
use Rattle.std.proofs.lemmas.Bool.{cases_Bool, and_parts, eqb-true, or_cases}
use Rattle.std.proofs.lemmas.Slice.Eq.{bytes_eq-Decides}
use Rattle.lab_base.specs.Lists.{Has}
use Rattle.phys_lab.specs.Labs.{Lab}
use Rattle.virt_topo.specs.declared.experiment.Experiment.{Experiment}
use Rattle.virt_topo.specs.declared.mapping.Mapped.{Mapped}
use Rattle.plant.specs.Worlds.{Row, PipeRow, NodeRow, World, wiped, is_row, node_after, node_polled, pipes_with}
use Rattle.plant.specs.declared.device.Answer.{Answer}
use Rattle.plant.specs.declared.device.Fault.{Fault}
use Rattle.plant.specs.declared.device.DeviceOp.{DeviceOp}
use Rattle.plant.specs.declared.device.DeviceOp.TheVariants.{Join, Leave, Shape, Load, Boot as BootIt, Poll, Wipe}
use Rattle.lab_model.specs.Leavings.{did, OneSided}
use Rattle.lab_model.specs.Wants.{rows_of, pipes_on}
use Rattle.lab_model.specs.Claims.{Claims, IsOf}
use Rattle.lab_model.specs.Reach.{Next, by_switch, by_trunk, by_pipe, LeadsOn}
use Rattle.lab_model.specs.Isolated.{IsRow, IsPipe}
use Rattle.lab_model.specs.Courses.{op_join, op_pipe}
use Rattle.lab_model.proofs.Steps.{is_row-true}

-- a row after the command was there or is joined
pub row_came : (w : World) (op : DeviceOp) (applied : Bool) (answer : Result Answer Fault) (row : Row) → IsRow (did w op applied answer) row → IsRow w row ⊎ (op_join op ≡ Some row)
row_came w (Join switch port vlan) true answer row is = elim (or_cases (is_row switch port vlan.0 row) (w.rows row) is) [
  | inl a ↦ inr (ap (λ r. Some r) (is_row-true switch port vlan.0 row a))
  | inr b ↦ inl b
]
row_came w (Leave switch port vlan) true answer row is = inl (and_parts _ _ is).1
row_came w (Shape node number from to there back) true answer row is = inl is
row_came w (Load node os) true answer row is = inl is
row_came w (BootIt node) true answer row is = inl is
row_came w (Poll node) true answer row is = inl is
row_came w (Wipe node) true answer row is = inl is
row_came w op false answer row is = inl is

-- a pipe of a node row that was changed at a name, or not, was there where the change keeps the pipes
kept_pipes : (b : Bool) (new old : NodeRow) (k : ℕ) (row : PipeRow) → (new.pipes k ≡ Some row → old.pipes k ≡ Some row) → (cond b new old).pipes k ≡ Some row → old.pipes k ≡ Some row
kept_pipes true new old k row keeps is = keeps is
kept_pipes false new old k row keeps is = is

shaped : (name node : List ℕ) (number : ℕ) (new : PipeRow) (old : NodeRow) (k : ℕ) (row : PipeRow) (b : Bool) → bytes_eq name node ≡ b
    → (cond b (record old { pipes = pipes_with number new old.pipes }) old).pipes k ≡ Some row
    → (old.pipes k ≡ Some row) ⊎ (◌≡◌ {A = Option (List ℕ × ℕ × PipeRow)} (Some (node, number, new)) (Some (name, k, row)))
shaped name node number new old k row false other is = inl is
shaped name node number new old k row true same is = elim (cases_Bool (eqb k number)) [
  | inl here ↦
      let e : Some new ≡ Some row = sym (ap (λ b. cond b (Some new) (old.pipes k)) here) ∙ is in
      let n : node ≡ name = sym ((bytes_eq-Decides name node).0 same) in
      let p : new ≡ row = cc in
      let at : number ≡ k = sym (eqb-true k number here) in
      inr (λ i. Some (n i, at i, p i))
  | inr there ↦ inl (sym (ap (λ b. cond b (Some new) (old.pipes k)) there) ∙ is)
]

polled_pipes : (op : DeviceOp) (answer : Result Answer Fault) (name : List ℕ) (old : NodeRow) (k : ℕ) (row : PipeRow) → (node_polled op answer name old).pipes k ≡ Some row → old.pipes k ≡ Some row
polled_pipes (Poll node) answer name old k row is = kept_pipes (bytes_eq name node) _ old k row (λ h. h) is
polled_pipes (Join switch port vlan) answer name old k row is = is
polled_pipes (Leave switch port vlan) answer name old k row is = is
polled_pipes (Shape node number from to there back) answer name old k row is = is
polled_pipes (Load node os) answer name old k row is = is
polled_pipes (BootIt node) answer name old k row is = is
polled_pipes (Wipe node) answer name old k row is = is

op_pipes : (op : DeviceOp) (name : List ℕ) (old : NodeRow) (k : ℕ) (row : PipeRow) → (node_after op name old).pipes k ≡ Some row → (old.pipes k ≡ Some row) ⊎ (op_pipe op ≡ Some (name, k, row))
op_pipes (Shape node number from to there back) name old k row is = shaped name node number (record { from = from; to = to; there = there; back = back }) old k row (bytes_eq name node) refl is
op_pipes (Load node os) name old k row is = inl (kept_pipes (bytes_eq name node) _ old k row (λ h. h) is)
op_pipes (BootIt node) name old k row is = inl (kept_pipes (bytes_eq name node) _ old k row (λ h. h) is)
op_pipes (Wipe node) name old k row is = inl (kept_pipes (bytes_eq name node) wiped old k row (λ h. cc) is)
op_pipes (Poll node) name old k row is = inl is
op_pipes (Join switch port vlan) name old k row is = inl is
op_pipes (Leave switch port vlan) name old k row is = inl is

-- a pipe after the command was there or is set by it
pub pipe_came : (w : World) (op : DeviceOp) (applied : Bool) (answer : Result Answer Fault) (name : List ℕ) (k : ℕ) (row : PipeRow) → ((did w op applied answer).node name).pipes k ≡ Some row → ((w.node name).pipes k ≡ Some row) ⊎ (op_pipe op ≡ Some (name, k, row))
pipe_came w op true answer name k row is = op_pipes op name (w.node name) k row (polled_pipes op answer name (node_after op name (w.node name)) k row is)
pipe_came w op false answer name k row is = inl (polled_pipes op answer name (w.node name) k row is)

-- what the command adds is wanted by the mapping
pub record AddsOnly (lab : Lab) (m : Mapped) (op : DeviceOp) : Type 0 where
  pub row : (row : Row) → op_join op ≡ Some row → (link : List ℕ) × Has (rows_of lab m) (record { row = row; owner = link })
  pub pipe : (name : List ℕ) (k : ℕ) (row : PipeRow) → op_pipe op ≡ Some (name, k, row) → slice_get (pipes_on lab m name) k ≡ Some row

-- what stands stays of one mapping, whether the command is applied or not, and whatever it answers
pub sided_after : (lab : Lab) (w : World) (e : Experiment) (m : Mapped) (op : DeviceOp) (applied : Bool) (answer : Result Answer Fault) → OneSided lab w e m → AddsOnly lab m op → OneSided lab (did w op applied answer) e m
sided_after lab w e m op applied answer sided adds = record {
  rows = λ row of_e is. elim (row_came w op applied answer row is) [ inl old ↦ sided.rows row of_e old | inr new ↦ adds.row row new ];
  pipes = λ name k row claims is. elim (pipe_came w op applied answer name k row is) [ inl old ↦ sided.pipes name k row claims old | inr new ↦ adds.pipe name k row new ];
}

-- A command that adds nothing only shrinks what reaches what.
pub shrinks : (lab : Lab) (w : World) (e : Experiment) (op : DeviceOp) (applied : Bool) (answer : Result Answer Fault) → op_join op ≡ None → op_pipe op ≡ None
    → (p : Row) (path : List Row) (q : Row)
    → LeadsOn lab (λ name row. Claims lab e name × IsPipe (did w op applied answer) name row) (λ row. IsOf lab e row × IsRow (did w op applied answer) row) p path q
    → LeadsOn lab (λ name row. Claims lab e name × IsPipe w name row) (λ row. IsOf lab e row × IsRow w row) p path q
shrinks lab w e op applied answer no_row no_pipe p [] q leads = leads
shrinks lab w e op applied answer no_row no_pipe p (mid ∷ path) q leads = (
  (leads.0.0, elim (row_came w op applied answer mid leads.0.1) [ inl old ↦ old | inr new ↦ absurd (cc (new, no_row)) ]),
  back leads.1,
  shrinks lab w e op applied answer no_row no_pipe mid path q leads.2,
)
  where
    back : Next lab (λ name row. Claims lab e name × IsPipe (did w op applied answer) name row) p mid → Next lab (λ name row. Claims lab e name × IsPipe w name row) p mid
    back (by_switch vlan switch) = by_switch vlan switch
    back (by_trunk t in_lab vlan ends) = by_trunk t in_lab vlan ends
    back (by_pipe node row stands ends) = by_pipe node row (stands.0, (stands.1.0, elim (pipe_came w op applied answer node stands.1.0 row stands.1.1) [ inl old ↦ old | inr new ↦ absurd (cc (new, no_pipe)) ])) ends
