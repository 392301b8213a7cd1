use Rattle.std.proofs.Common.{◌≡◌, ℕ, List, None, if◌then◌else◌}
use Rattle.std.specs.Prelude.{◌&&◌, nat_lt, vec_len, vec_capacity}
use Rattle.std.specs.Str.{bytes_eq}
use Rattle.plant_mem.specs.Pipes.{pipe_in, PipesRise}
use Rattle.plant_mem.proofs.pipes.clear_below.Given as goal

abbrev pub invariant-loop-number : goal.invariant-loop-number
invariant-loop-number l = record {
  rise : PipesRise l.pipes.items;
  found : (name : List ℕ) (k : ℕ) → pipe_in name k l.pipes.items ≡ (if bytes_eq l.node name && nat_lt k l.number then None else pipe_in name k l.fn.pipes.items);
  len : vec_len l.pipes ≡ vec_len l.fn.pipes;
  capacity : vec_capacity l.pipes ≡ vec_capacity l.fn.pipes;
}
