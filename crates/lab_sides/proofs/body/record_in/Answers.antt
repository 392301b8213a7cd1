use Rattle.std.proofs.Common.{List, ℕ, subst, arith}
use Rattle.journal_rec.specs.Payloads.{Decodes}
use Rattle.journal_disk.proofs.Walking.{slice}
use Rattle.lab_sides.proofs.Bodies.{is_whole}
use Rattle.lab_sides.proofs.body.record_in.Goals as goal

pub returns-in-Ok : goal.returns-in-Ok
returns-in-Ok c =
    let bytes = c.args.bytes.now in
    let len = c.length_in-len.result in
    let entry = c.in-Ok.entry in
    let d = subst (λ (l : List ℕ). Decodes l entry) (slice bytes 4 len) c.in-Ok.ensures.ok in
    is_whole bytes len entry (λ i. omega (arith, c.type_inv.bytes i)) (omega arith) c.length_in-len.ensures (omega arith) d
