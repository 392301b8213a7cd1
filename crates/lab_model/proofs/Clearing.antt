-- The world after a whole list of acknowledged commands.
use Rattle.std.proofs.Common.{◌≡◌, ◌⊎◌, inl, inr, ℕ, Bool, true, false, ◌&&◌, not, cond, Some, None, Ok, List, [], ◌∷◌, refl, sym, ap, ◌∙◌, subst}
use Rattle.std.proofs.lemmas.Bool.{and_from, or_left, eq-eqb, true≢false}
use Rattle.std.proofs.lemmas.Slice.Eq.{bytes_eq-Decides}
use Rattle.lab_base.specs.Lists.{Has}
use Rattle.plant.specs.Worlds.{Row, PipeRow, World, wiped, is_row, row_after, node_after, node_polled}
use Rattle.plant.specs.declared.device.Answer.TheVariants.{Done}
use Rattle.plant.specs.declared.device.DeviceOp.{DeviceOp}
use Rattle.plant.specs.declared.device.DeviceOp.TheVariants.{Wipe}
use Rattle.lab_model.specs.Leavings.{did}
use Rattle.lab_model.specs.Wants.{Owned}
use Rattle.lab_model.specs.Isolated.{IsRow}
use Rattle.lab_model.specs.Courses.{op_join, op_pipe, join, leave}
use Rattle.lab_model.proofs.CourseLaws.{row_came, pipe_came}

-- the world after these commands, each applied and answered Done
abbrev pub done : World → List DeviceOp → World
done w [] = w
done w (op ∷ ops) = done (did w op true (Ok Done)) ops

pub is_row-refl : (row : Row) → is_row row.switch row.port row.vlan row ≡ true
is_row-refl row = and_from _ _ (and_from _ _ ((bytes_eq-Decides row.switch row.switch).1 refl) (eq-eqb row.port row.port refl)) (eq-eqb row.vlan row.vlan refl)

-- what adds nothing
pub record AddsNone (op : DeviceOp) : Type 0 where
  pub row : op_join op ≡ None
  pub pipe : op_pipe op ≡ None

-- a row that was not there, or that one of the commands leaves, is not there afterwards
pub left_after : (ops : List DeviceOp) (w : World) (o : Owned) → ((op : DeviceOp) → Has ops op → op_join op ≡ None) → (IsRow w o.row → ⊥) ⊎ Has ops (leave o) → IsRow (done w ops) o.row → ⊥
left_after [] w o none (inl absent) is = absent is
left_after [] w o none (inr h) is = h
left_after (op ∷ ops) w o none (inl absent) is = left_after ops (did w op true (Ok Done)) o (λ p h. none p (inr h)) (inl (λ now. elim (row_came w op true (Ok Done) o.row now) [ inl old ↦ absent old | inr new ↦ cc (new, none op (inl refl)) ])) is
left_after (op ∷ ops) w o none (inr (inl same)) is =
    let gone : (did w op true (Ok Done)).rows o.row ≡ false = ap (λ p. row_after p o.row (w.rows o.row)) same ∙ ap (λ b. not b && w.rows o.row) (is_row-refl o.row) in
    left_after ops (did w op true (Ok Done)) o (λ p h. none p (inr h)) (inl (λ now. true≢false (sym now ∙ gone))) is
left_after (op ∷ ops) w o none (inr (inr h)) is = left_after ops (did w op true (Ok Done)) o (λ p g. none p (inr g)) (inr h) is

-- a pipe that stands after commands that set none stood before, and none of them wiped its node
pub stood_before : (ops : List DeviceOp) (w : World) (name : List ℕ) (k : ℕ) (row : PipeRow) → ((op : DeviceOp) → Has ops op → op_pipe op ≡ None) → ((done w ops).node name).pipes k ≡ Some row → ((w.node name).pipes k ≡ Some row) × (Has ops (Wipe name) → ⊥)
stood_before [] w name k row none is = (is, λ h. h)
stood_before (op ∷ ops) w name k row none is =
    let later = stood_before ops (did w op true (Ok Done)) name k row (λ p h. none p (inr h)) is in (
      elim (pipe_came w op true (Ok Done) name k row later.0) [ inl old ↦ old | inr new ↦ absurd (cc (new, none op (inl refl))) ],
      λ h. elim h [
        | inl same ↦
            let blank : (did w op true (Ok Done)).node name ≡ wiped = ap (λ p. node_polled p (Ok Done) name (node_after p name (w.node name))) same ∙ ap (λ b. cond b wiped (w.node name)) ((bytes_eq-Decides name name).1 refl) in
            let stands : wiped.pipes k ≡ Some row = subst (λ n. n.pipes k ≡ Some row) blank later.0 in
            cc stands
        | inr more ↦ later.1 more
      ],
    )

-- a row that was there, or that one of the commands joins, is there afterwards, where none leaves a row
pub joined_after : (ops : List DeviceOp) (w : World) (o : Owned) → ((op : DeviceOp) → Has ops op → (row : Row) → (had : Bool) → had ≡ true → row_after op row had ≡ true) → (IsRow w o.row) ⊎ Has ops (join o) → IsRow (done w ops) o.row
joined_after [] w o keeps (inl there) = there
joined_after [] w o keeps (inr h) = absurd h
joined_after (op ∷ ops) w o keeps (inl there) = joined_after ops (did w op true (Ok Done)) o (λ p h. keeps p (inr h)) (inl (keeps op (inl refl) o.row (w.rows o.row) there))
joined_after (op ∷ ops) w o keeps (inr (inl same)) =
    let came : (did w op true (Ok Done)).rows o.row ≡ true = ap (λ p. row_after p o.row (w.rows o.row)) same ∙ or_left _ (w.rows o.row) (is_row-refl o.row) in
    joined_after ops (did w op true (Ok Done)) o (λ p h. keeps p (inr h)) (inl came)
joined_after (op ∷ ops) w o keeps (inr (inr h)) = joined_after ops (did w op true (Ok Done)) o (λ p g. keeps p (inr g)) (inr h)
