-- After cabling and loading, the rows stand and the nodes have their OS and pipes.
use Rattle.std.specs.Str.{bytes_eq}
use Rattle.std.specs.Option.{unwrap_or}
use Rattle.std.proofs.Common.{◌≡◌, ◌⊎◌, inl, inr, ℕ, Bool, true, false, cond, eqb, Option, Some, None, slice_get, Result, Ok, List, [], ◌∷◌, ◌++◌, length, map, refl, sym, ap, ◌∙◌, subst, arith}
use Rattle.std.proofs.lemmas.Bool.{cases_Bool, eqb-true, eq-eqb, true≢false}
use Rattle.std.proofs.lemmas.Slice.Eq.{bytes_eq-Decides}
use Rattle.lab_base.specs.Lists.{Has}
use Rattle.lab_base.specs.declared.ids.NodeId.{NodeId}
use Rattle.lab_base.specs.declared.boot.Boot.TheVariants.{Off}
use Rattle.phys_lab.specs.Labs.{Lab}
use Rattle.virt_topo.specs.declared.wiring.VirtNode.{VirtNode}
use Rattle.virt_topo.specs.declared.mapping.Mapped.{Mapped}
use Rattle.plant.specs.Worlds.{PipeRow, NodeRow, World, node_after, node_polled, pipes_with}
use Rattle.plant.specs.declared.device.Answer.{Answer}
use Rattle.plant.specs.declared.device.Answer.TheVariants.{Done}
use Rattle.plant.specs.declared.device.Fault.{Fault}
use Rattle.plant.specs.declared.device.DeviceOp.{DeviceOp}
use Rattle.plant.specs.declared.device.DeviceOp.TheVariants.{Join, Leave, Shape, Load, Boot as BootIt, Poll, Wipe}
use Rattle.lab_model.specs.Leavings.{did}
use Rattle.lab_model.specs.Wants.{node_name, pipes_on, os_on}
use Rattle.lab_model.specs.Courses.{shape}
use Rattle.lab_model.proofs.CourseLaws.{AddsOnly}
use Rattle.lab_model.proofs.Clearing.{done}

pub done-append : (xs ys : List DeviceOp) (w : World) → done w (xs ++ ys) ≡ done (done w xs) ys
done-append [] ys w = refl
done-append (x ∷ xs) ys w = done-append xs ys (did w x true (Ok Done))

-- the node that the command wipes, and what it loads
abbrev pub op_wipe : DeviceOp → Option (List ℕ)
op_wipe (Wipe node) = Some node
op_wipe op = None

abbrev pub op_load : DeviceOp → Option (List ℕ × List ℕ)
op_load (Load node os) = Some (node, os)
op_load op = None

pub same_pipes : (b : Bool) (new old : NodeRow) (k : ℕ) (row : PipeRow) → (old.pipes k ≡ Some row → new.pipes k ≡ Some row) → old.pipes k ≡ Some row → (cond b new old).pipes k ≡ Some row
same_pipes true new old k row keeps is = keeps is
same_pipes false new old k row keeps is = is

pub polled_keeps : (op : DeviceOp) (answer : Result Answer Fault) (name : List ℕ) (old : NodeRow) (k : ℕ) (row : PipeRow) → old.pipes k ≡ Some row → (node_polled op answer name old).pipes k ≡ Some row
polled_keeps (Poll node) answer name old k row is = same_pipes (bytes_eq name node) _ old k row (λ h. h) is
polled_keeps (Join switch port vlan) answer name old k row is = is
polled_keeps (Leave switch port vlan) answer name old k row is = is
polled_keeps (Shape node number from to there back) answer name old k row is = is
polled_keeps (Load node os) answer name old k row is = is
polled_keeps (BootIt node) answer name old k row is = is
polled_keeps (Wipe node) answer name old k row is = is

module _ (lab : Lab) (m : Mapped) where
  pub after_keeps : (op : DeviceOp) (name : List ℕ) (old : NodeRow) (k : ℕ) (row : PipeRow) → AddsOnly lab m op → op_wipe op ≡ None → slice_get (pipes_on lab m name) k ≡ Some row → old.pipes k ≡ Some row → (node_after op name old).pipes k ≡ Some row
  after_keeps (Join switch port vlan) name old k row adds none wanted is = is
  after_keeps (Leave switch port vlan) name old k row adds none wanted is = is
  after_keeps (Load node os) name old k row adds none wanted is = same_pipes (bytes_eq name node) _ old k row (λ h. h) is
  after_keeps (BootIt node) name old k row adds none wanted is = same_pipes (bytes_eq name node) _ old k row (λ h. h) is
  after_keeps (Poll node) name old k row adds none wanted is = is
  after_keeps (Wipe node) name old k row adds none wanted is = absurd (cc none)
  after_keeps (Shape node number from to there back) name old k row adds none wanted is = elim (cases_Bool (bytes_eq name node)) [
    | inl same ↦ elim (cases_Bool (eqb k number)) [
      | inl here ↦
          let new : PipeRow = record { from = from; to = to; there = there; back = back } in
          let n : name ≡ node = (bytes_eq-Decides name node).0 same in
          let s : slice_get (pipes_on lab m node) number ≡ Some new = adds.pipe node number new refl in
          let t : slice_get (pipes_on lab m name) k ≡ Some new = subst (λ x. slice_get (pipes_on lab m x) k ≡ Some new) (sym n) (subst (λ x. slice_get (pipes_on lab m node) x ≡ Some new) (sym (eqb-true k number here)) s) in
          subst (λ b. (cond b (record old { pipes = pipes_with number new old.pipes }) old).pipes k ≡ Some row) (sym same)
          (subst (λ b. cond b (Some new) (old.pipes k) ≡ Some row) (sym here) (sym t ∙ wanted))
      | inr there' ↦
          subst (λ b. (cond b (record old { pipes = pipes_with number (record { from = from; to = to; there = there; back = back }) old.pipes }) old).pipes k ≡ Some row) (sym same)
          (subst (λ b. cond b (Some (record { from = from; to = to; there = there; back = back })) (old.pipes k) ≡ Some row) (sym there') is)
    ]
    | inr other ↦ subst (λ b. (cond b (record old { pipes = pipes_with number (record { from = from; to = to; there = there; back = back }) old.pipes }) old).pipes k ≡ Some row) (sym other) is
  ]

  shape_sets : (name : List ℕ) (k : ℕ) (row : PipeRow) (old : NodeRow) → (node_after (shape name (k, row)) name old).pipes k ≡ Some row
  shape_sets name k row old =
      subst (λ b. (cond b (record old { pipes = pipes_with k row old.pipes }) old).pipes k ≡ Some row) (sym ((bytes_eq-Decides name name).1 refl))
      (subst (λ b. cond b (Some row) (old.pipes k) ≡ Some row) (sym (eq-eqb k k refl)) refl)

  -- a wanted pipe that stands, or that one of the commands sets, stands afterwards
  pub shaped_after : (ops : List DeviceOp) (w : World) (name : List ℕ) (k : ℕ) (row : PipeRow) → ((op : DeviceOp) → Has ops op → AddsOnly lab m op × (op_wipe op ≡ None)) → slice_get (pipes_on lab m name) k ≡ Some row
      → ((w.node name).pipes k ≡ Some row) ⊎ Has ops (shape name (k, row)) → ((done w ops).node name).pipes k ≡ Some row
  shaped_after [] w name k row adds wanted (inl there) = there
  shaped_after [] w name k row adds wanted (inr h) = absurd h
  shaped_after (op ∷ ops) w name k row adds wanted (inl there) = shaped_after ops (did w op true (Ok Done)) name k row (λ p h. adds p (inr h)) wanted
      (inl (polled_keeps op (Ok Done) name (node_after op name (w.node name)) k row (after_keeps op name (w.node name) k row (adds op (inl refl)).0 (adds op (inl refl)).1 wanted there)))
  shaped_after (op ∷ ops) w name k row adds wanted (inr (inl same)) = shaped_after ops (did w op true (Ok Done)) name k row (λ p h. adds p (inr h)) wanted
      (inl (polled_keeps op (Ok Done) name (node_after op name (w.node name)) k row (subst (λ p. (node_after p name (w.node name)).pipes k ≡ Some row) (sym same) (shape_sets name k row (w.node name)))))
  shaped_after (op ∷ ops) w name k row adds wanted (inr (inr h)) = shaped_after ops (did w op true (Ok Done)) name k row (λ p g. adds p (inr g)) wanted (inr h)

same_os_cond : (b : Bool) (new old : NodeRow) (os : List ℕ) → (old.os ≡ Some os → new.os ≡ Some os) → old.os ≡ Some os → (cond b new old).os ≡ Some os
same_os_cond true new old os keeps is = keeps is
same_os_cond false new old os keeps is = is

-- the OS of a node stays, where a command that loads it loads that OS
pub os_keeps : (op : DeviceOp) (answer : Result Answer Fault) (name os : List ℕ) (old : NodeRow) → op_wipe op ≡ None → ((other : List ℕ) → op_load op ≡ Some (name, other) → other ≡ os) → old.os ≡ Some os → (node_polled op answer name (node_after op name old)).os ≡ Some os
os_keeps (Join switch port vlan) answer name os old none same is = is
os_keeps (Leave switch port vlan) answer name os old none same is = is
os_keeps (Shape node number from to there back) answer name os old none same is = same_os_cond (bytes_eq name node) _ old os (λ h. h) is
os_keeps (BootIt node) answer name os old none same is = same_os_cond (bytes_eq name node) _ old os (λ h. h) is
os_keeps (Poll node) answer name os old none same is = same_os_cond (bytes_eq name node) _ old os (λ h. h) is
os_keeps (Wipe node) answer name os old none same is = absurd (cc none)
os_keeps (Load node other) answer name os old none same is = elim (cases_Bool (bytes_eq name node)) [
  | inl here ↦
      let n : name ≡ node = (bytes_eq-Decides name node).0 here in
      subst (λ b. (cond b (record old { os = Some other; boot = Some Off }) old).os ≡ Some os) (sym here) (ap (λ x. Some x) (same other (λ i. Some (sym n i, other))))
  | inr away ↦ subst (λ b. (cond b (record old { os = Some other; boot = Some Off }) old).os ≡ Some os) (sym away) is
]

load_sets : (name os : List ℕ) (old : NodeRow) → (node_after (Load name os) name old).os ≡ Some os
load_sets name os old = subst (λ b. (cond b (record old { os = Some os; boot = Some Off }) old).os ≡ Some os) (sym ((bytes_eq-Decides name name).1 refl)) refl

pub loaded_after : (ops : List DeviceOp) (w : World) (name os : List ℕ) → ((op : DeviceOp) → Has ops op → (op_wipe op ≡ None) × ((other : List ℕ) → op_load op ≡ Some (name, other) → other ≡ os))
    → ((w.node name).os ≡ Some os) ⊎ Has ops (Load name os) → ((done w ops).node name).os ≡ Some os
loaded_after [] w name os fits (inl there) = there
loaded_after [] w name os fits (inr h) = absurd h
loaded_after (op ∷ ops) w name os fits (inl there) = loaded_after ops (did w op true (Ok Done)) name os (λ p h. fits p (inr h)) (inl (os_keeps op (Ok Done) name os (w.node name) (fits op (inl refl)).0 (fits op (inl refl)).1 there))
loaded_after (op ∷ ops) w name os fits (inr (inl same)) = loaded_after ops (did w op true (Ok Done)) name os (λ p h. fits p (inr h))
    (inl (subst (λ p. (node_polled p (Ok Done) name (node_after p name (w.node name))).os ≡ Some os) (sym same) (load_sets name os (w.node name))))
loaded_after (op ∷ ops) w name os fits (inr (inr h)) = loaded_after ops (did w op true (Ok Done)) name os (λ p g. fits p (inr g)) (inr h)

-- a placed node is wanted with an OS
pub os_placed : (lab : Lab) (vs : List VirtNode) (ps : List (NodeId × List ℕ)) (name : List ℕ) → length ps ≡ length vs → Has (map (λ p. node_name lab p.0) ps) name → os_on lab vs ps name ≡ Some (unwrap_or (os_on lab vs ps name) [])
os_placed lab [] [] name same h = absurd h
os_placed lab [] (p ∷ ps) name same h = absurd (omega arith)
os_placed lab (v ∷ vs) [] name same h = absurd h
os_placed lab (v ∷ vs) (p ∷ ps) name same h = elim (cases_Bool (bytes_eq (node_name lab p.0) name)) [
  | inl is ↦ subst (λ b. cond b (Some v.os) (os_on lab vs ps name) ≡ Some (unwrap_or (cond b (Some v.os) (os_on lab vs ps name)) [])) (sym is) refl
  | inr is ↦
      let further : Has (map (λ q. node_name lab q.0) ps) name = elim h [ inl e ↦ absurd (true≢false (sym ((bytes_eq-Decides (node_name lab p.0) name).1 e) ∙ is)) | inr g ↦ g ] in
      subst (λ b. cond b (Some v.os) (os_on lab vs ps name) ≡ Some (unwrap_or (cond b (Some v.os) (os_on lab vs ps name)) [])) (sym is) (os_placed lab vs ps name (omega arith) further)
]
