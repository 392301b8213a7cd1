-- A swap with work left, and its way back, as contracts see them.
use Rattle.std.specs.Prelude.{ℕ, List, Option, Some, None}
use Rattle.journal_rec.specs.declared.record.Record.TheVariants.{Abort}
use Rattle.journal_rec.specs.Payloads.{IsBody}
use Rattle.swap_txn.specs.declared.way_back.WayBack.{WayBack}
use Rattle.swap_txn.specs.declared.work.Work.TheInside.{Inside}
use Rattle.swap_txn.specs.States.{Undo, View, last_by}

abbrev pub undo_of : Option WayBack → Option Undo
undo_of None = None
undo_of (Some w) = Some (record { plan = w.commands; inside = w.inside })

abbrev pub view_in : Inside → View
view_in s = record { exp = s.exp; plan = s.sending.plan; left = s.sending.left; commit = s.commit; inside = s.inside; why = s.why; undo = undo_of s.back }

-- it holds its last records
abbrev pub HasAbortBy : List ℕ → Option WayBack → Type 0
HasAbortBy exp None = Unit {0}
HasAbortBy exp (Some w) = IsBody w.abort (Abort exp)

abbrev pub HasRecords : Inside → Type 0
HasRecords s = IsBody s.last (last_by s.commit s.exp) × HasAbortBy s.exp s.back
