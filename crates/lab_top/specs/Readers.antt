-- A reader that has read nothing.
use Rattle.std.specs.Prelude.{◌≡◌, false, [], None}
use Rattle.lab_io.specs.declared.reader.LineReader.{LineReader}
use Rattle.lab_io.specs.Taken.{pending_of, fault_of, ended_of, lines_of, taken_of}

pub record IsNew (reader : LineReader) : Type 0 where
  pub pending : pending_of reader ≡ []
  pub fault : fault_of reader ≡ None
  pub ended : ended_of reader ≡ false
  pub lines : lines_of reader ≡ 0
  pub taken : taken_of reader ≡ 0
