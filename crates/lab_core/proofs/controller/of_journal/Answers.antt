use Rattle.std.proofs.Common.{refl, ◌≡◌, ◌<◌, ℕ, length, inr, Some, sym, subst, arith}
use Rattle.std.specs.Prelude.{slice_get}
use Rattle.journal_disk.proofs.Holding.{found_records}
use Rattle.lab_core.proofs.Opened.{bad_within, at_bad, lab_held}
use Rattle.lab_core.proofs.controller.of_journal.Goals as goal

pub replay-requires : goal.replay-requires
replay-requires c found has = let held = c.requires.holds in found_records held.0 c.args.journal c.args.found.now found held.1 has

pub place_of-requires : goal.place_of-requires
place_of-requires c =
    let stops = rw c.in-Err-Bad.field-0-is at c.in-Err-Bad.ensures.bad in
    subst (λ (n : ℕ). n < length c.args.found.now) (sym c.in-Err-Bad.index-is) (bad_within c.args.found.now c.in-Err-Bad.index stops)

pub returns-in-Err-Bad-clause-is : goal.returns-in-Err-Bad-clause-is
returns-in-Err-Bad-clause-is c rs holds =
    let stops = rw c.in-Err-Bad.field-0-is at c.in-Err-Bad.ensures.bad in
    let e = c.place_of.ensures in
    at_bad c.args.limit rs c.args.journal c.args.found.now c.in-Err-Bad.index e.0 c.side.result c.place_of.result holds stops c.side.ensures (subst (λ (n : ℕ). slice_get c.args.found.now n ≡ Some e.0) c.in-Err-Bad.index-is e.1) e.2

pub returns-then-limit-needed-clause-is : goal.returns-then-limit-needed-clause-is
returns-then-limit-needed-clause-is c rs holds =
    let e = c.saturating_add-needed.ensures in
    (c.side-then-limit-needed.ensures, inr (c.in-Ok.lab.state, lab_held rs c.args.journal c.args.found.now c.in-Ok.lab.state holds c.in-Ok.ensures.ok, omega arith, omega arith))

pub returns-clause-is : goal.returns-clause-is
returns-clause-is c rs holds = let e = c.saturating_add-needed.ensures in (refl, lab_held rs c.args.journal c.args.found.now c.in-Ok.lab.state holds c.in-Ok.ensures.ok, omega arith)
