-- One plug more or less on the first side of a trunk.
use Rattle.std.specs.Prelude.{◌≡◌, ◌+◌, ◌-◌, ◌*◌, ℕ, slice_index_or}
use Rattle.std.specs.Int.{bit_at}
use Rattle.trunk_sums.specs.declared.gains.Gains.{Gains}
use Rattle.trunk_sums.specs.declared.sums.EndRow.{EndRow}
use Rattle.trunk_sums.specs.declared.sums.Sums.{Sums}
use Rattle.trunk_sums.specs.Counts.{lesser}

abbrev pub no_gains : Gains
no_gains = record { onto_adds = 0; onto_takes = 0; off_adds = 0; off_takes = 0 }

-- bits t are those of a segment of m ends, k of them on the first side of trunk t: what one more there
-- adds to the ends that count, and takes from them, and what one less does
pub record IsGain (m k t : ℕ) (g : Gains) : Type 0 where
  pub onto_adds : bit_at g.onto_adds t ≡ lesser m (k + 1) - lesser m k
  pub onto_takes : bit_at g.onto_takes t ≡ lesser m k - lesser m (k + 1)
  pub off_adds : bit_at g.off_adds t ≡ lesser m (k - 1) - lesser m k
  pub off_takes : bit_at g.off_takes t ≡ lesser m k - lesser m (k - 1)

-- how many plugs of the row's segment are on the first side of trunk t
abbrev pub on_first : Sums → EndRow → ℕ → ℕ
on_first x row t = slice_index_or x.counts.items (64 * row.segment + t) 0

-- what a plug more or less of the row's segment does
abbrev pub gains_of : Sums → EndRow → Gains
gains_of x row = slice_index_or x.gains.items row.segment no_gains
