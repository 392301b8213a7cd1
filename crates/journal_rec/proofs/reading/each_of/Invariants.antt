use Rattle.std.proofs.Common.{◌≡◌, ◌-◌}
use Rattle.journal_rec.specs.Reading.{each_at}
use Rattle.journal_rec.proofs.Loops.{with_front}
use Rattle.journal_rec.proofs.reading.each_of.Given as goal

abbrev pub invariant-loop : goal.invariant-loop
invariant-loop l = with_front l.tags (each_at (l.count - l.counter) l.rest) ≡ each_at l.count l.bytes
