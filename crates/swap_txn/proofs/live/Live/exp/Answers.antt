use Rattle.std.proofs.Common.{◌≡◌, true, subst}
use Rattle.lab_base.specs.Names.{is_name}
use Rattle.swap_txn.proofs.Rooms.{fits}
use Rattle.swap_txn.proofs.live.Live.exp.Goals as goal

pub returns-clause-room : goal.returns-clause-room
returns-clause-room c = fits c.args.self.now (subst (λ n. is_name n ≡ true) c.name-exp.ensures c.bytes-bytes.ensures.named)
