use Rattle.std.proofs.Common.{◌+◌, ◌∙◌, ap}
use Rattle.lab_base.proofs.Tests.{ok_weaker}
use Rattle.journal_disk.specs.Standing.{length_of}
use Rattle.journal_disk.proofs.Parts.{body_size}
use Rattle.swap_txn.proofs.write.write.Goals as goal

pub returns-clause-writes : goal.returns-clause-writes
returns-clause-writes g c = λ r is.
    let e = c.append.ensures in
    let result = c.append.result in
    record {
      fits = λ length size. e.fits c.requires.fits size length;
      cause = e.plant;
      later = e.later;
      devices = e.devices;
      halts = e.stopped c.requires.fits;
      appends = e.appends r is;
      moments = λ rs. e.moments r rs is;
      stands = ok_weaker result (λ h rs. h r rs is) e.stands;
      epoch = ok_weaker result (λ h rs. h r rs is) e.of_epoch;
      longer = ok_weaker result (λ h. h ∙ ap (λ n. length_of c.args.journal.now + n) (body_size c.args.encoded.now r is)) e.length;
      side = e.side;
      limit = e.limit;
      live = λ i. (e.side i, e.epoch i);
      unwritten = e.err;
    }
