use Rattle.std.proofs.Common.{List, ℕ, ap, ◌∙◌, subst, arith, take}
use Rattle.journal_rec.specs.Payloads.{number, Decodes}
use Rattle.journal_disk.proofs.Walking.{whole, tail, slice}
use Rattle.journal_disk.proofs.walk.block_at.Goals as goal

pub returns : goal.returns
returns c =
    let bytes = c.args.bytes.now in
    let len = c.length_in-len.result in
    let entry = c.in_ok-entry.entry in
    let d = subst (λ (l : List ℕ). Decodes l entry) (slice bytes 5 len) c.in_ok-entry.ensures.ok in
    let n = c.length_in-len.ensures ∙ ap (λ (l : List ℕ). number (take 4 l)) (tail bytes 1) in
    whole bytes len entry (λ i. omega (arith, c.type_inv.bytes i)) (omega arith) c.if-bytes.false n c.if-bytes-len.false d
