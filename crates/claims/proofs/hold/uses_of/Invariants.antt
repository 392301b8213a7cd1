use Rattle.std.proofs.Common.{◌≡◌, map}
use Rattle.std.specs.List.{range_with_len}
use Rattle.lab_model.specs.Uses.{use_of}
use Rattle.claims.proofs.hold.uses_of.Given as goal

abbrev pub invariant-loop-trunk : goal.invariant-loop-trunk
invariant-loop-trunk l = l.uses ≡ map (use_of l.lab l.mapped.wiring l.mapped.mapping) (range_with_len 0 l.trunk)
