use Rattle.lab_core.proofs.perform.prepare.Goals as goal

-- The record can follow.
pub unreachable-requires : goal.unreachable-requires
unreachable-requires c =
    let may = c.requires.follows in
    let cannot = rw c.in-Err-Bad.field-0-is at c.in-Err-Bad.ensures.bad in
    cannot may.state (record { move = may.move; says = may.says; gives = may.moves })
