-- The states of a swap, as contracts see them.
use Rattle.std.specs.Prelude.{ℕ, Bool, ◌+◌, nat_lt, true, false, if◌then◌else◌, List, [], length, Option, Some, None, is_some}
use Rattle.lab_base.specs.declared.what.What.{What}
use Rattle.journal_rec.specs.declared.record.Record.{Record}
use Rattle.journal_rec.specs.declared.record.Record.TheVariants.{Commit, Abort}
use Rattle.journal_rec.specs.declared.record.Way.{Way}
use Rattle.journal_rec.specs.declared.record.Way.TheVariants.{In, Out, Change, Change2}
use Rattle.lab_model.specs.Courses.{Plan, Left, Watch, whole}
use Rattle.swap_txn.specs.declared.stage.Stage.{Stage}
use Rattle.swap_txn.specs.declared.stage.Stage.TheVariants.{Clear, Cable, Load, Boot, Done}

-- a course: all its commands, and what is left of them
pub record Progress : Type 0 where
  pub plan : Plan
  pub left : Left

-- the way back of a swap: its commands, and whether the experiment is in afterwards
pub record Undo : Type 0 where
  pub plan : Plan
  pub inside : Bool

-- A SWAP WITH WORK LEFT: its commands, what is left of them, whether Commit ends it or else Abort, whether the experiment is in afterwards, the trouble that began it, and the way back that trouble begins
pub record View : Type 0 where
  pub exp : List ℕ
  pub plan : Plan
  pub left : Left
  pub commit : Bool
  pub inside : Bool
  pub why : Option What
  pub undo : Option Undo

-- a swap that isn't begun: the bytes of its Begin behind their gate, and the swap
pub record Plans : Type 0 where
  pub begin : List ℕ
  pub forth : View

-- where no command is listed: a node is left to boot or to poll, or nothing is left
abbrev pub stage_of_boots : Option Watch → List (List ℕ) → Stage
stage_of_boots None [] = Done
stage_of_boots watch boot = Boot

-- the first list in which something is left
abbrev pub stage_of : Plan → Left → Stage
stage_of plan left = if nat_lt (length plan.cable + length plan.load) (length left.todo) then Clear
    else if nat_lt (length plan.load) (length left.todo) then Cable
    else if nat_lt 0 (length left.todo) then Load
    else stage_of_boots left.watch left.boot

-- the way back by the way of a move: a swap-out has none, and a change leads back into the lab
abbrev pub undo_by : Way → Plan → Option Undo
undo_by (In map tags) plan = Some (record { plan = plan; inside = false })
undo_by Out plan = None
undo_by (Change top map tags) plan = Some (record { plan = plan; inside = true })
undo_by (Change2 top map tags) plan = Some (record { plan = plan; inside = true })

-- the way leads from one mapping to another
abbrev pub is_over : Way → Bool
is_over (Change top map tags) = true
is_over (Change2 top map tags) = true
is_over way = false

-- the record that ends a swap
abbrev pub last_by : Bool → List ℕ → Record
last_by true exp = Commit exp
last_by false exp = Abort exp

-- a swap of which nothing was sent
abbrev pub unsent : List ℕ → Way → Plan → Plan → View
unsent exp way commands undo = record {
  exp = exp;
  plan = commands;
  left = whole commands;
  commit = true;
  inside = is_some (undo_by way undo);
  why = None;
  undo = undo_by way undo;
}

-- the undo from its beginning, after that trouble
abbrev pub undone : List ℕ → Undo → What → View
undone exp u what = record { exp = exp; plan = u.plan; left = whole u.plan; commit = false; inside = u.inside; why = Some what; undo = None }

-- a swap whose Begin is durable already: a swap-out from its beginning, or an undo
abbrev pub again : List ℕ → Plan → Plan → Bool → Bool → View
again exp commands undo inside true = record { exp = exp; plan = commands; left = whole commands; commit = true; inside = false; why = None; undo = None }
again exp commands undo inside false = record { exp = exp; plan = undo; left = whole undo; commit = false; inside = inside; why = None; undo = None }
