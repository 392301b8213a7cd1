use Rattle.std.proofs.Common.{◌≡◌, ℕ, ◌+◌, ◌<◌, ◌≤◌, slice_index_or}
use Rattle.std.specs.Prelude.{vec_len}
use Rattle.claims.specs.Held.{claim_use}
use Rattle.claims.proofs.tables.use_more.Given as goal

abbrev pub invariant-loop-trunk : goal.invariant-loop-trunk
invariant-loop-trunk l = record {
  len : vec_len l.used ≡ vec_len l.fn.used;
  more : (t : ℕ) → t < l.trunk → slice_index_or l.used.items t 0 ≡ slice_index_or l.fn.used.items t 0 + claim_use t l.claim;
  rest : (t : ℕ) → l.trunk ≤ t → slice_index_or l.used.items t 0 ≡ slice_index_or l.fn.used.items t 0;
}
