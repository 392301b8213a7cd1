use Rattle.std.proofs.Common.{◌≡◌, ◌++◌, false, take}
use Rattle.std.specs.Prelude.{nat_eq}
use Rattle.virt_topo.specs.Repeats.{stands_again}
use Rattle.top_text.specs.Tables.{addresses_of}
use Rattle.top_text.proofs.tables.repeats_addresses.Given as goal

abbrev pub invariant-loop-end : goal.invariant-loop-end
invariant-loop-end l = record {
  keys : l.addresses.keys ≡ l.initial.addresses.keys ++ addresses_of (take l.end-index l.ends);
  once : stands_again nat_eq l.addresses.keys ≡ false;
}
