-- The records that end a swap are name_short.
use Rattle.std.proofs.Common.{ℕ, ◌≡◌, ◌≤◌, ◌+◌, Bool, true, false, List, arith}
use Rattle.lab_base.specs.Names.{is_name}
use Rattle.lab_base.proofs.Names.{name_short}
use Rattle.journal_rec.specs.declared.record.Record.TheVariants.{Commit, Abort}
use Rattle.journal_disk.specs.declared.journal.Journal.{Journal}
use Rattle.journal_disk.specs.Standing.{length_of, limit_of}
use Rattle.swap_txn.specs.declared.live.Live.{Live}
use Rattle.swap_txn.specs.declared.live.Live.TheVariants as lives
use Rattle.swap_txn.specs.Turns.{HasRoom, Fits}
use Rattle.swap_txn.specs.States.{last_by}
use Rattle.swap_txn.specs.Facts.{exp_of}

commit_fits : (exp : List ℕ) (j : Journal) → is_name exp ≡ true → length_of j + 39 ≤ limit_of j → HasRoom j (Commit exp)
commit_fits exp j is room = omega (arith, name_short exp is, room)

abort_fits : (exp : List ℕ) (j : Journal) → is_name exp ≡ true → length_of j + 39 ≤ limit_of j → HasRoom j (Abort exp)
abort_fits exp j is room = omega (arith, name_short exp is, room)

last_fits : (commit : Bool) (exp : List ℕ) (j : Journal) → is_name exp ≡ true → length_of j + 39 ≤ limit_of j → HasRoom j (last_by commit exp)
last_fits true exp j is room = commit_fits exp j is room
last_fits false exp j is room = abort_fits exp j is room

pub fits : (live : Live) → is_name (exp_of live) ≡ true → (j : Journal) → length_of j + 39 ≤ limit_of j → Fits live j
fits (lives.Begun v) is j room = λ none. last_fits v.commit v.exp j is room
fits (lives.Clearing v) is j room = λ none. last_fits v.commit v.exp j is room
fits (lives.Cabling v) is j room = λ none. last_fits v.commit v.exp j is room
fits (lives.Loading v) is j room = λ none. last_fits v.commit v.exp j is room
fits (lives.Booting v) is j room = λ none. last_fits v.commit v.exp j is room
fits (lives.Ready v) is j room = λ none. last_fits v.commit v.exp j is room
fits (lives.Undoing v) is j room = λ none. last_fits v.commit v.exp j is room
fits (lives.Undone v) is j room = λ none. last_fits v.commit v.exp j is room
fits (lives.Ended ended) is j room = tt
