-- The rows and the pipes that stand after commands.
use Rattle.std.proofs.Common.{◌≡◌, ◌⊎◌, inl, inr, ℕ, Bool, true, false, if◌then◌else◌, Option, Some, None, List, [], ◌∷◌, fold, refl, sym, ap, ◌∙◌, subst}
use Rattle.std.proofs.lemmas.Option.{same_Some}
use Rattle.lab_base.specs.Lists.{Has}
use Rattle.lab_base.proofs.Members.{Has-flat_map, Has-flat_mapped}
use Rattle.plant.specs.declared.device.DeviceOp.{DeviceOp}
use Rattle.plant.specs.declared.device.DeviceOp.TheVariants.{Join, Leave, Shape, Load, Boot as BootIt, Poll, Wipe}
use Rattle.plant.specs.Worlds.{Row, PipeRow, World, blank}
use Rattle.lab_model.specs.Isolated.{IsRow, IsPipe}
use Rattle.lab_model.specs.Courses.{op_join, op_pipe}
use Rattle.lab_model.proofs.CourseLaws.{row_came, pipe_came}
use Rattle.plain_model.specs.declared.world.Sent.{Sent}
use Rattle.plain_model.specs.Isolation.{PipeEnds, IsSeen}
use Rattle.plain_model.specs.Rows.{sent_to, world_sent, has_row, node_sent, pipe_then, row_seen, rows_by, rows_of, pipe_seen, pipes_by, pipes_of}
use Rattle.plain_model.proofs.RowLaws.{row_told, pipe_told}

-- a row that stands was there, or some command joined it; and a pipe
pub rows_came : (xs : List Sent) (w : World) (p : Row) → IsRow (fold sent_to w xs) p → IsRow w p ⊎ ((s : Sent) × Has xs s × (op_join s.op ≡ Some p))
rows_came [] w p is = inl is
rows_came (s ∷ xs) w p is = elim (rows_came xs (sent_to w s) p is) [
  | inl here ↦ elim (row_came w s.op s.applied s.answer p here) [ inl was ↦ inl was | inr came ↦ inr (s, inl refl, came) ]
  | inr later ↦ inr (later.0, inr later.1, later.2)
]

pub pipes_came : (xs : List Sent) (w : World) (name : List ℕ) (k : ℕ) (row : PipeRow) → ((fold sent_to w xs).node name).pipes k ≡ Some row
    → ((w.node name).pipes k ≡ Some row) ⊎ ((s : Sent) × Has xs s × (op_pipe s.op ≡ Some (name, k, row)))
pipes_came [] w name k row is = inl is
pipes_came (s ∷ xs) w name k row is = elim (pipes_came xs (sent_to w s) name k row is) [
  | inl here ↦ elim (pipe_came w s.op s.applied s.answer name k row here) [ inl was ↦ inl was | inr came ↦ inr (s, inl refl, came) ]
  | inr later ↦ inr (later.0, inr later.1, later.2)
]

module _ (commands : List Sent) where
  seen_row : (p : Row) → has_row commands p ≡ true → Has (row_seen commands p) p
  seen_row p t = subst (λ b. Has (if b then p ∷ [] else []) p) (sym t) (inl refl)

  row_by : (op : DeviceOp) (p : Row) → op_join op ≡ Some p → has_row commands p ≡ true → Has (rows_by commands op) p
  row_by (Join switch port vlan) p is t = let same : record { switch = switch; port = port; vlan = vlan.0 } ≡ p = cc is in subst (λ r. Has (row_seen commands r) p) (sym same) (seen_row p t)
  row_by (Leave switch port vlan) p is t = absurd (cc is)
  row_by (Shape node number from to there back) p is t = absurd (cc is)
  row_by (Load node os) p is t = absurd (cc is)
  row_by (BootIt node) p is t = absurd (cc is)
  row_by (Poll node) p is t = absurd (cc is)
  row_by (Wipe node) p is t = absurd (cc is)

  row_from : (r p : Row) (b : Bool) → has_row commands r ≡ b → Has (if b then r ∷ [] else []) p → has_row commands p ≡ true
  row_from r p true t (inl same) = subst (λ x. has_row commands x ≡ true) same t
  row_from r p true t (inr h) = absurd h
  row_from r p false t h = absurd h

  by_row : (op : DeviceOp) (p : Row) → Has (rows_by commands op) p → has_row commands p ≡ true
  by_row (Join switch port vlan) p h = row_from (record { switch = switch; port = port; vlan = vlan.0 }) p (has_row commands (record { switch = switch; port = port; vlan = vlan.0 })) refl h
  by_row (Leave switch port vlan) p h = absurd h
  by_row (Shape node number from to there back) p h = absurd h
  by_row (Load node os) p h = absurd h
  by_row (BootIt node) p h = absurd h
  by_row (Poll node) p h = absurd h
  by_row (Wipe node) p h = absurd h

  pub rows_there : (p : Row) → IsRow (world_sent commands) p → Has (rows_of commands commands) p
  rows_there p is = elim (rows_came commands blank p is) [
    | inl never ↦ absurd (cc never)
    | inr came ↦ Has-flat_mapped (λ s. rows_by commands s.op) commands came.0 p came.1 (row_by came.0.op p came.2 (sym (row_told p commands) ∙ is))
  ]

  pub rows_stand : (p : Row) → Has (rows_of commands commands) p → IsRow (world_sent commands) p
  rows_stand p h = let s = Has-flat_map (λ s. rows_by commands s.op) commands p h in row_told p commands ∙ by_row s.0.op p s.2

  pipe_by : (op : DeviceOp) (name : List ℕ) (k : ℕ) (row : PipeRow) → op_pipe op ≡ Some (name, k, row) → (node_sent commands name).pipes k ≡ Some row
      → Has (pipes_by commands op) (record { node = name; from = row.from; to = row.to })
  pipe_by (Shape node number from to there back) name k row is at =
      let key = same_Some (node, number, record { from = from; to = to; there = there; back = back }) (name, k, row) is in
      let same : node ≡ name = ap (λ x. x.0) key in
      let count : number ≡ k = ap (λ x. x.1) key in
      let left : fold (pipe_then name k) None commands ≡ Some row = sym (pipe_told name k commands) ∙ at in
      subst (λ o. Has (pipe_seen node o) (record { node = name; from = row.from; to = row.to })) (sym ((λ i. fold (pipe_then (same i) (count i)) None commands) ∙ left)) (inl (λ i. record { node = same i; from = row.from; to = row.to }))
  pipe_by (Join switch port vlan) name k row is at = absurd (cc is)
  pipe_by (Leave switch port vlan) name k row is at = absurd (cc is)
  pipe_by (Load node os) name k row is at = absurd (cc is)
  pipe_by (BootIt node) name k row is at = absurd (cc is)
  pipe_by (Poll node) name k row is at = absurd (cc is)
  pipe_by (Wipe node) name k row is at = absurd (cc is)

  abbrev Stands : PipeEnds → Type 0
  Stands p = (pipe : PipeRow) × IsPipe (world_sent commands) p.node pipe × (pipe.from ≡ p.from) × (pipe.to ≡ p.to)

  seen_from : (node : List ℕ) (k : ℕ) (p : PipeEnds) (o : Option PipeRow) → (node_sent commands node).pipes k ≡ o → Has (pipe_seen node o) p → Stands p
  seen_from node k p None at h = absurd h
  seen_from node k p (Some pipe) at (inl is) = subst Stands is (pipe, (k, at), refl, refl)
  seen_from node k p (Some pipe) at (inr h) = absurd h

  by_pipe : (op : DeviceOp) (p : PipeEnds) → Has (pipes_by commands op) p → Stands p
  by_pipe (Shape node number from to there back) p h = seen_from node number p (fold (pipe_then node number) None commands) (pipe_told node number commands) h
  by_pipe (Join switch port vlan) p h = absurd h
  by_pipe (Leave switch port vlan) p h = absurd h
  by_pipe (Load node os) p h = absurd h
  by_pipe (BootIt node) p h = absurd h
  by_pipe (Poll node) p h = absurd h
  by_pipe (Wipe node) p h = absurd h

  -- THE LISTS ARE what stands
  pub all_seen : IsSeen (world_sent commands) (rows_of commands commands) (pipes_of commands commands)
  all_seen = record {
    rows_there = rows_there;
    rows_stand = rows_stand;
    pipes_there = λ name pipe is. elim (pipes_came commands blank name is.0 pipe is.1) [
      | inl never ↦ absurd (cc never)
      | inr came ↦ Has-flat_mapped (λ s. pipes_by commands s.op) commands came.0 (record { node = name; from = pipe.from; to = pipe.to }) came.1 (pipe_by came.0.op name is.0 pipe came.2 is.1)
    ];
    pipes_stand = λ p h. let s = Has-flat_map (λ s. pipes_by commands s.op) commands p h in by_pipe s.0.op p s.2;
  }
