-- The world of a trace is what its commands leave.
use Rattle.std.proofs.Common.{◌≡◌, ℕ, Bool, true, false, ◌==◌, Option, Some, None, Result, if◌then◌else◌, List, [], ◌∷◌, fold, refl, ap, ◌∙◌}
use Rattle.std.specs.Str.{bytes_eq}
use Rattle.lab_base.specs.declared.boot.Boot.TheVariants.{Off, Booting}
use Rattle.plant.specs.declared.device.DeviceOp.{DeviceOp}
use Rattle.plant.specs.declared.device.DeviceOp.TheVariants.{Join, Leave, Shape, Load, Boot as BootIt, Poll, Wipe}
use Rattle.plant.specs.declared.device.Answer.{Answer}
use Rattle.plant.specs.declared.device.Fault.{Fault}
use Rattle.plant.specs.Events.{Event, Wrote, Synced, Cut, Missed, Did, Restarted, Unread}
use Rattle.plant.specs.Worlds.{Row, PipeRow, NodeRow, World, wiped, blank, row_after, node_after, node_polled, pipes_with, told, world_after, world_of}
use Rattle.plain_model.specs.declared.world.Sent.{Sent}
use Rattle.plain_model.specs.Rows.{commands_of, sent_to, world_sent, row_then, has_row, os_then, boot_then, pipe_then, node_sent}

-- only commands change the world
world_fold : (events : List Event) (w : World) → fold world_after w events ≡ fold sent_to w (commands_of events)
world_fold [] w = refl
world_fold (Did op applied answer ∷ events) w = world_fold events (world_after w (Did op applied answer))
world_fold (Wrote side at bytes ∷ events) w = world_fold events w
world_fold (Synced side ∷ events) w = world_fold events w
world_fold (Cut side size ∷ events) w = world_fold events w
world_fold (Missed side ∷ events) w = world_fold events w
world_fold (Restarted a b ∷ events) w = world_fold events w
world_fold (Unread device ∷ events) w = world_fold events w

pub world_told : (trace : List Event) → world_of trace ≡ world_sent (commands_of trace)
world_told trace = world_fold trace blank

-- a part of the world after commands is what they leave of it
parts_fold : {X : Type 0} (part : World → X) (step : X → Sent → X) → ((w : World) (sent : Sent) → part (sent_to w sent) ≡ step (part w) sent)
    → (commands : List Sent) (w : World) → part (fold sent_to w commands) ≡ fold step (part w) commands
parts_fold part step each [] w = refl
parts_fold part step each (sent ∷ commands) w = parts_fold part step each commands (sent_to w sent) ∙ ap (λ x. fold step x commands) (each w sent)

row_case : (row : Row) (w : World) (op : DeviceOp) (applied : Bool) (answer : Result Answer Fault) → (world_after w (Did op applied answer)).rows row ≡ (if applied then row_after op row (w.rows row) else w.rows row)
row_case row w op true answer = refl
row_case row w op false answer = refl

node_case : (name : List ℕ) (w : World) (op : DeviceOp) (applied : Bool) (answer : Result Answer Fault) → (world_after w (Did op applied answer)).node name ≡ node_polled op answer name (if applied then node_after op name (w.node name) else w.node name)
node_case name w op true answer = refl
node_case name w op false answer = refl

pub row_told : (row : Row) (commands : List Sent) → (world_sent commands).rows row ≡ has_row commands row
row_told row commands = parts_fold (λ w. w.rows row) (row_then row) (λ w sent. row_case row w sent.op sent.applied sent.answer) commands blank

-- a part of a node depends on nothing else of it
module _ (name : List ℕ) (r s : NodeRow) (e : r.os ≡ s.os) where
  os_pick : (t : Bool) (a b : NodeRow) → a.os ≡ b.os → (if t then a else r).os ≡ (if t then b else s).os
  os_pick true a b same = same
  os_pick false a b same = e

  os_after : (op : DeviceOp) → (node_after op name r).os ≡ (node_after op name s).os
  os_after (Join switch port vlan) = e
  os_after (Leave switch port vlan) = e
  os_after (Poll node) = e
  os_after (Shape node number from to there back) = os_pick (bytes_eq name node) (record r { pipes = pipes_with number (record { from = from; to = to; there = there; back = back }) r.pipes }) (record s { pipes = pipes_with number (record { from = from; to = to; there = there; back = back }) s.pipes }) e
  os_after (Load node os) = os_pick (bytes_eq name node) (record r { os = Some os; boot = Some Off }) (record s { os = Some os; boot = Some Off }) refl
  os_after (BootIt node) = os_pick (bytes_eq name node) (record r { boot = Some Booting }) (record s { boot = Some Booting }) e
  os_after (Wipe node) = os_pick (bytes_eq name node) wiped wiped refl

  os_applied : (op : DeviceOp) (applied : Bool) → (if applied then node_after op name r else r).os ≡ (if applied then node_after op name s else s).os
  os_applied op true = os_after op
  os_applied op false = e

os_polled : (name : List ℕ) (r s : NodeRow) → r.os ≡ s.os → (op : DeviceOp) (answer : Result Answer Fault) → (node_polled op answer name r).os ≡ (node_polled op answer name s).os
os_polled name r s e (Join switch port vlan) answer = e
os_polled name r s e (Leave switch port vlan) answer = e
os_polled name r s e (Shape node number from to there back) answer = e
os_polled name r s e (Load node os) answer = e
os_polled name r s e (BootIt node) answer = e
os_polled name r s e (Wipe node) answer = e
os_polled name r s e (Poll node) answer = os_pick name r s e (bytes_eq name node) (record r { boot = told answer }) (record s { boot = told answer }) e

module _ (name : List ℕ) (r s : NodeRow) (e : r.boot ≡ s.boot) where
  boot_pick : (t : Bool) (a b : NodeRow) → a.boot ≡ b.boot → (if t then a else r).boot ≡ (if t then b else s).boot
  boot_pick true a b same = same
  boot_pick false a b same = e

  boot_after : (op : DeviceOp) → (node_after op name r).boot ≡ (node_after op name s).boot
  boot_after (Join switch port vlan) = e
  boot_after (Leave switch port vlan) = e
  boot_after (Poll node) = e
  boot_after (Shape node number from to there back) = boot_pick (bytes_eq name node) (record r { pipes = pipes_with number (record { from = from; to = to; there = there; back = back }) r.pipes }) (record s { pipes = pipes_with number (record { from = from; to = to; there = there; back = back }) s.pipes }) e
  boot_after (Load node os) = boot_pick (bytes_eq name node) (record r { os = Some os; boot = Some Off }) (record s { os = Some os; boot = Some Off }) refl
  boot_after (BootIt node) = boot_pick (bytes_eq name node) (record r { boot = Some Booting }) (record s { boot = Some Booting }) refl
  boot_after (Wipe node) = boot_pick (bytes_eq name node) wiped wiped refl

  boot_applied : (op : DeviceOp) (applied : Bool) → (if applied then node_after op name r else r).boot ≡ (if applied then node_after op name s else s).boot
  boot_applied op true = boot_after op
  boot_applied op false = e

boot_polled : (name : List ℕ) (r s : NodeRow) → r.boot ≡ s.boot → (op : DeviceOp) (answer : Result Answer Fault) → (node_polled op answer name r).boot ≡ (node_polled op answer name s).boot
boot_polled name r s e (Join switch port vlan) answer = e
boot_polled name r s e (Leave switch port vlan) answer = e
boot_polled name r s e (Shape node number from to there back) answer = e
boot_polled name r s e (Load node os) answer = e
boot_polled name r s e (BootIt node) answer = e
boot_polled name r s e (Wipe node) answer = e
boot_polled name r s e (Poll node) answer = boot_pick name r s e (bytes_eq name node) (record r { boot = told answer }) (record s { boot = told answer }) refl

module _ (name : List ℕ) (k : ℕ) (r s : NodeRow) (e : r.pipes k ≡ s.pipes k) where
  pipe_pick : (t : Bool) (a b : NodeRow) → a.pipes k ≡ b.pipes k → (if t then a else r).pipes k ≡ (if t then b else s).pipes k
  pipe_pick true a b same = same
  pipe_pick false a b same = e

  pipe_after : (op : DeviceOp) → (node_after op name r).pipes k ≡ (node_after op name s).pipes k
  pipe_after (Join switch port vlan) = e
  pipe_after (Leave switch port vlan) = e
  pipe_after (Poll node) = e
  pipe_after (Shape node number from to there back) = pipe_pick (bytes_eq name node) (record r { pipes = pipes_with number (record { from = from; to = to; there = there; back = back }) r.pipes }) (record s { pipes = pipes_with number (record { from = from; to = to; there = there; back = back }) s.pipes }) (ap (λ (o : Option PipeRow). if k == number then Some (record { from = from; to = to; there = there; back = back }) else o) e)
  pipe_after (Load node os) = pipe_pick (bytes_eq name node) (record r { os = Some os; boot = Some Off }) (record s { os = Some os; boot = Some Off }) e
  pipe_after (BootIt node) = pipe_pick (bytes_eq name node) (record r { boot = Some Booting }) (record s { boot = Some Booting }) e
  pipe_after (Wipe node) = pipe_pick (bytes_eq name node) wiped wiped refl

  pipe_applied : (op : DeviceOp) (applied : Bool) → (if applied then node_after op name r else r).pipes k ≡ (if applied then node_after op name s else s).pipes k
  pipe_applied op true = pipe_after op
  pipe_applied op false = e

pipe_polled : (name : List ℕ) (k : ℕ) (r s : NodeRow) → r.pipes k ≡ s.pipes k → (op : DeviceOp) (answer : Result Answer Fault) → (node_polled op answer name r).pipes k ≡ (node_polled op answer name s).pipes k
pipe_polled name k r s e (Join switch port vlan) answer = e
pipe_polled name k r s e (Leave switch port vlan) answer = e
pipe_polled name k r s e (Shape node number from to there back) answer = e
pipe_polled name k r s e (Load node os) answer = e
pipe_polled name k r s e (BootIt node) answer = e
pipe_polled name k r s e (Wipe node) answer = e
pipe_polled name k r s e (Poll node) answer = pipe_pick name k r s e (bytes_eq name node) (record r { boot = told answer }) (record s { boot = told answer }) e

pub os_told : (name : List ℕ) (commands : List Sent) → (node_sent commands name).os ≡ fold (os_then name) (wiped.os) commands
os_told name commands = parts_fold (λ w. (w.node name).os) (os_then name) (λ w sent.
    ap (λ (n : NodeRow). n.os) (node_case name w sent.op sent.applied sent.answer)
    ∙ os_polled name _ _ (os_applied name (w.node name) (record { os = (w.node name).os; pipes = λ j. None; boot = None }) refl sent.op sent.applied) sent.op sent.answer) commands blank

pub boot_told : (name : List ℕ) (commands : List Sent) → (node_sent commands name).boot ≡ fold (boot_then name) (wiped.boot) commands
boot_told name commands = parts_fold (λ w. (w.node name).boot) (boot_then name) (λ w sent.
    ap (λ (n : NodeRow). n.boot) (node_case name w sent.op sent.applied sent.answer)
    ∙ boot_polled name _ _ (boot_applied name (w.node name) (record { os = None; pipes = λ j. None; boot = (w.node name).boot }) refl sent.op sent.applied) sent.op sent.answer) commands blank

pub pipe_told : (name : List ℕ) (k : ℕ) (commands : List Sent) → (node_sent commands name).pipes k ≡ fold (pipe_then name k) (wiped.pipes k) commands
pipe_told name k commands = parts_fold (λ w. (w.node name).pipes k) (pipe_then name k) (λ w sent.
    ap (λ (n : NodeRow). n.pipes k) (node_case name w sent.op sent.applied sent.answer)
    ∙ pipe_polled name k _ _ (pipe_applied name k (w.node name) (record { os = None; pipes = λ j. (w.node name).pipes k; boot = None }) refl sent.op sent.applied) sent.op sent.answer) commands blank
