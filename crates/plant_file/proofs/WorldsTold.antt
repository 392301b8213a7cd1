-- A world in which all is known tells all that one tells which knows less.
use Rattle.std.proofs.Common.{◌≡◌, ℕ, Bool, true, List, Option, Some, sym, ap, ◌∙◌, subst}
use Rattle.std.specs.Prelude.{◌<◌, length, is_some, option_map, IfSome}
use Rattle.lab_base.specs.declared.ids.VlanId.{VlanId}
use Rattle.plant.specs.Worlds.{World}
use Rattle.plant.specs.Worlds as worlds
use Rattle.plant.specs.declared.device.NodeRow as declared
use Rattle.plant.specs.Readings.{HasPipe, IsBefore, IsListOf, IsNth, PipesFit, RowsFit, TellsNode, TellsPipe, TellsRow, pipe_of}
use Rattle.plant.specs.Readings as readings
use Rattle.plant.specs.declared.pipe_row.PipeRow.{PipeRow}
use Rattle.plant_file.specs.Standing.{IsKnown}

module _ (all known : World) (is : IsKnown all known) where
  same_rows : all.rows ≡ known.rows
  same_rows = λ i row. sym (is.rows row) i

  same_pipes : (name : List ℕ) → (all.node name).pipes ≡ (known.node name).pipes
  same_pipes name = λ i k. sym (is.pipes name k) i

  pub row_known : (switch : List ℕ) (nth : ℕ) (found : Option (ℕ × VlanId)) → TellsRow all switch nth found → TellsRow known switch nth found
  row_known switch nth found told =
      subst (λ (rows : worlds.Row → Bool). IsNth IsBefore (λ (e : ℕ × ℕ). rows (record { switch = switch; port = e.0; vlan = e.1 }) ≡ true) nth (option_map readings.entry_of found)) same_rows told

  pub rows_fit_known : (switch : List ℕ) → RowsFit all switch → RowsFit known switch
  rows_fit_known switch fit = λ e has. fit e (sym (is.rows (record { switch = switch; port = e.0; vlan = e.1 })) ∙ has)

  pub node_known : (name : List ℕ) (told : declared.NodeRow) → TellsNode (all.node name) told → TellsNode (known.node name) told
  node_known name told t = record {
    os = t.os ∙ sym (is.os name);
    state = λ state at. t.state state (is.boot name state at);
    pipes = subst (λ (pipes : ℕ → Option worlds.PipeRow). (all : List ℕ) × IsListOf ◌<◌ (λ (k : ℕ). is_some (pipes k) ≡ true) all × (length all ≡ told.pipes)) (same_pipes name) t.pipes;
  }

  pub pipe_known : (name : List ℕ) (nth : ℕ) (found : Option PipeRow) → TellsPipe (all.node name) nth found → TellsPipe (known.node name) nth found
  pipe_known name nth found told =
      subst (λ (pipes : ℕ → Option worlds.PipeRow). IsNth ◌<◌ (λ (k : ℕ). is_some (pipes k) ≡ true) nth (option_map (λ (p : PipeRow). p.pipe) found) × IfSome found (λ p. pipes p.pipe ≡ Some (pipe_of p))) (same_pipes name) told

  pub pipes_fit_known : (name : List ℕ) → PipesFit (all.node name) → PipesFit (known.node name)
  pipes_fit_known name fit = λ k has. fit k (ap is_some (sym (is.pipes name k)) ∙ has)
