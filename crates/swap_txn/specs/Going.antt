-- A command of a swap with work left, and the swap after it.
use Rattle.std.specs.Prelude.{◌≡◌, Option, Some, None}
use Rattle.lab_base.specs.declared.what.What.{What}
use Rattle.swap_txn.specs.declared.live.Live.{Live}
use Rattle.swap_txn.specs.declared.turned.Turned.{Turned}
use Rattle.swap_txn.specs.declared.turned.Turned.TheVariants.{Trouble, Stuck}
use Rattle.swap_txn.specs.States.{Undo, View, stage_of, undone}
use Rattle.swap_txn.specs.Turns.{view_of, with_view}

-- trouble begins the way back, or leaves the swap stuck where there is none
abbrev pub CutBack : View → What → Option Undo → Turned View → Type 0
CutBack v what (Some u) turned = turned ≡ Trouble (undone v.exp u what) what
CutBack v what None turned = turned ≡ Stuck v what

-- a stuck swap is in the list in which it was
abbrev pub StaysAt : View → Turned View → Type 0
StaysAt v (Stuck w what) = (w.commit ≡ v.commit) × (stage_of w.plan w.left ≡ stage_of v.plan v.left)
StaysAt v turned = Unit {0}

-- what the work of a stuck swap is like
abbrev pub IfStuck : Turned View → (View → Type 0) → Type 0
IfStuck (Stuck v what) Suits = Suits v
IfStuck turned Suits = Unit {0}

-- a state by its name: it has the work that it is given, and its name with other work
pub record IsName (named : View → Live) : Type 0 where
  pub sees : (v : View) → view_of (named v) ≡ Some v
  pub keeps : (v w : View) → with_view (named v) w ≡ named w
