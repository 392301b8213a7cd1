use Rattle.std.proofs.Common.{rules, ◌≡◌, ◌++◌, length}
use Rattle.journal_rec.proofs.Packing.{added}
use Rattle.journal_rec.proofs.packed.Packed.add.Goals as goal

pub returns-clause-ok : goal.returns-clause-ok
returns-clause-ok c rs r packed is =
    let longer : c.extend_from_slice.new.self.items ≡ c.args.self.now ++ c.args.encoded.now = search rules in
    let gate : c.len-gate.result ≡ length c.args.self.now = search rules in
    rw (longer, gate) (added c.args.self.now c.args.encoded.now rs r packed is)
