-- Knowledge of the devices after a command.
use Rattle.std.proofs.Common.{◌≡◌, ℕ, Bool, true, false, List, Option, Some, None, Result, Ok, Err, refl, sym, ap, subst, if◌then◌else◌}
use Rattle.std.specs.Str.{bytes_eq}
use Rattle.lab_base.specs.declared.boot.Boot.{Boot}
use Rattle.lab_base.specs.declared.boot.Boot.TheVariants.{Off, Booting}
use Rattle.plant.specs.declared.device.Answer.{Answer}
use Rattle.plant.specs.declared.device.DeviceOp.{DeviceOp}
use Rattle.plant.specs.declared.device.DeviceOp.TheVariants.{Join, Leave, Shape, Load, Boot as BootIt, Poll, Wipe}
use Rattle.plant.specs.declared.device.Fault.{Fault}
use Rattle.plant.specs.Events.{Did}
use Rattle.plant.specs.Worlds.{World, NodeRow, PipeRow, wiped, pipes_with, row_after, node_after, node_polled, told, world_after}
use Rattle.plant_file.specs.declared.entry.Entry.{Entry}
use Rattle.plant_file.specs.Entries.{after, answer_of}
use Rattle.plant_file.specs.Holding.{world_in}
use Rattle.plant_file.specs.Standing.{IsKnown}
use Rattle.plant_file.proofs.NodesHold.{holds_worlds}

-- ONE NODE

record IsKnownNode (all known : NodeRow) : Type 0 where
  os : known.os ≡ all.os
  pipes : (k : ℕ) → known.pipes k ≡ all.pipes k
  boot : (state : Boot) → known.boot ≡ Some state → all.boot ≡ Some state

same_node : (row : NodeRow) → IsKnownNode row row
same_node row = record { os = refl; pipes = λ k. refl; boot = λ state is. is }

choose : (test : Bool) (a b c d : NodeRow) → IsKnownNode a b → IsKnownNode c d → IsKnownNode (if test then a else c) (if test then b else d)
choose true a b c d one other = one
choose false a b c d one other = other

loaded : (all known : NodeRow) (os : List ℕ) → IsKnownNode all known → IsKnownNode (record all { os = Some os; boot = Some Off }) (record known { os = Some os; boot = Some Off })
loaded all known os h = record { os = refl; pipes = h.pipes; boot = λ state is. is }

booted : (all known : NodeRow) (boot : Option Boot) → IsKnownNode all known → IsKnownNode (record all { boot = boot }) (record known { boot = boot })
booted all known boot h = record { os = h.os; pipes = h.pipes; boot = λ state is. is }

opened : (all known : NodeRow) → IsKnownNode all known → IsKnownNode all (record known { boot = None })
opened all known h = record { os = h.os; pipes = h.pipes; boot = λ state is. absurd (cc is) }

shaped : (all known : NodeRow) (number : ℕ) (pipe : PipeRow) → IsKnownNode all known → IsKnownNode (record all { pipes = pipes_with number pipe all.pipes }) (record known { pipes = pipes_with number pipe known.pipes })
shaped all known number pipe h = record { os = h.os; pipes = λ k. λ i. pipes_with number pipe (λ n. h.pipes n i) k; boot = h.boot }

-- a command that is applied
node_op : (op : DeviceOp) (name : List ℕ) (all known : NodeRow) → IsKnownNode all known → IsKnownNode (node_after op name all) (node_after op name known)
node_op (Join switch port vlan) name all known h = h
node_op (Leave switch port vlan) name all known h = h
node_op (Shape node pipe from to there back) name all known h = choose (bytes_eq name node) _ _ _ _ (shaped all known pipe (record { from = from; to = to; there = there; back = back }) h) h
node_op (Load node os) name all known h = choose (bytes_eq name node) _ _ _ _ (loaded all known os h) h
node_op (BootIt node) name all known h = choose (bytes_eq name node) _ _ _ _ (booted all known (Some Booting) h) h
node_op (Poll node) name all known h = h
node_op (Wipe node) name all known h = choose (bytes_eq name node) _ _ _ _ (same_node wiped) h

-- its answer, which both have, or which only one has
node_answer : (op : DeviceOp) (answer : Result Answer Fault) (name : List ℕ) (all known : NodeRow) → IsKnownNode all known → IsKnownNode (node_polled op answer name all) (node_polled op answer name known)
node_answer (Join switch port vlan) answer name all known h = h
node_answer (Leave switch port vlan) answer name all known h = h
node_answer (Shape node pipe from to there back) answer name all known h = h
node_answer (Load node os) answer name all known h = h
node_answer (BootIt node) answer name all known h = h
node_answer (Poll node) answer name all known h = choose (bytes_eq name node) _ _ _ _ (booted all known (told answer) h) h
node_answer (Wipe node) answer name all known h = h

node_failed : (op : DeviceOp) (answer : Result Answer Fault) (fault : Fault) (name : List ℕ) (all known : NodeRow) → IsKnownNode all known → IsKnownNode (node_polled op answer name all) (node_polled op (Err fault) name known)
node_failed (Join switch port vlan) answer fault name all known h = h
node_failed (Leave switch port vlan) answer fault name all known h = h
node_failed (Shape node pipe from to there back) answer fault name all known h = h
node_failed (Load node os) answer fault name all known h = h
node_failed (BootIt node) answer fault name all known h = h
node_failed (Poll node) answer fault name all known h = choose (bytes_eq name node) _ _ _ _ (record { os = h.os; pipes = h.pipes; boot = λ state is. absurd (cc is) }) h
node_failed (Wipe node) answer fault name all known h = h

node_missed : (op : DeviceOp) (fault : Fault) (name : List ℕ) (all known : NodeRow) → IsKnownNode all known → IsKnownNode all (node_polled op (Err fault) name known)
node_missed (Join switch port vlan) fault name all known h = h
node_missed (Leave switch port vlan) fault name all known h = h
node_missed (Shape node pipe from to there back) fault name all known h = h
node_missed (Load node os) fault name all known h = h
node_missed (BootIt node) fault name all known h = h
node_missed (Poll node) fault name all known h = by (bytes_eq name node)
  where
    by : (test : Bool) → IsKnownNode all (if test then record known { boot = told (Err fault) } else known)
    by true = opened all known h
    by false = h
node_missed (Wipe node) fault name all known h = h

-- THE WHOLE WORLD

node_of : (all known : World) → IsKnown all known → (name : List ℕ) → IsKnownNode (all.node name) (known.node name)
node_of all known h name = record { os = h.os name; pipes = h.pipes name; boot = h.boot name }

of_nodes : (all known : World) → ((row : _) → known.rows row ≡ all.rows row) → ((name : List ℕ) → IsKnownNode (all.node name) (known.node name)) → IsKnown all known
of_nodes all known rows nodes = record { rows = rows; os = λ name. (nodes name).os; pipes = λ name. (nodes name).pipes; boot = λ name. (nodes name).boot }

abbrev done_world : World → DeviceOp → List Entry → World
done_world w op entries = world_after w (Did op true (Ok (answer_of op entries)))

done_known : (op : DeviceOp) (entries : List Entry) (all known : World) → IsKnown all known → IsKnown (done_world all op entries) (done_world known op entries)
done_known op entries all known h = of_nodes _ _ (λ row. ap (row_after op row) (h.rows row))
    (λ name. node_answer op (Ok (answer_of op entries)) name _ _ (node_op op name (all.node name) (known.node name) (node_of all known h name)))

failed_known : (op : DeviceOp) (entries : List Entry) (fault : Fault) (all known : World) → IsKnown all known → IsKnown (done_world all op entries) (world_after known (Did op true (Err fault)))
failed_known op entries fault all known h = of_nodes _ _ (λ row. ap (row_after op row) (h.rows row))
    (λ name. node_failed op (Ok (answer_of op entries)) fault name _ _ (node_op op name (all.node name) (known.node name) (node_of all known h name)))

missed_known : (op : DeviceOp) (fault : Fault) (all known : World) → IsKnown all known → IsKnown all (world_after known (Did op false (Err fault)))
missed_known op fault all known h = of_nodes all _ h.rows (λ name. node_missed op fault name (all.node name) (known.node name) (node_of all known h name))

-- TABLES AFTER A COMMAND STAND FOR THE WORLD AFTER IT

pub tables_done : (op : DeviceOp) (entries : List Entry) (w : World) → IsKnown (world_in entries) w → IsKnown (world_in (after op entries)) (world_after w (Did op true (Ok (answer_of op entries))))
tables_done op entries w h = subst (λ (v : World). IsKnown v (done_world w op entries)) (sym (holds_worlds op entries)) (done_known op entries (world_in entries) w h)

pub tables_failed : (op : DeviceOp) (entries : List Entry) (fault : Fault) (w : World) → IsKnown (world_in entries) w → IsKnown (world_in (after op entries)) (world_after w (Did op true (Err fault)))
tables_failed op entries fault w h = subst (λ (v : World). IsKnown v (world_after w (Did op true (Err fault)))) (sym (holds_worlds op entries)) (failed_known op entries fault (world_in entries) w h)

pub tables_missed : (op : DeviceOp) (entries : List Entry) (fault : Fault) (w : World) → IsKnown (world_in entries) w → IsKnown (world_in entries) (world_after w (Did op false (Err fault)))
tables_missed op entries fault w h = missed_known op fault (world_in entries) w h
