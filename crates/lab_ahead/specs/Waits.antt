-- The first moment of a span at which the needs don't fit.
use Rattle.std.specs.Prelude.{◌≡◌, ◌<◌, ◌≤◌, ◌+◌, ℕ, List}
use Rattle.phys_lab.specs.Labs.{Lab}
use Rattle.lab_ahead.specs.declared.batch.Promise.{Promise}
use Rattle.lab_ahead.specs.declared.times.Left.{Left}
use Rattle.lab_ahead.specs.declared.waits.Span.{Span}
use Rattle.lab_ahead.specs.declared.waits.Wait.{Wait}
use Rattle.lab_ahead.specs.Givings.{IsShort, have_of, need_of}
use Rattle.lab_ahead.specs.Moments.{FitsAt, left_at, needs_at}

-- at its moment the wait's types are short: it tells how many nodes are needed of them together then, and how many are left
pub record TellsShort (lab : Lab) (left : List Left) (promises : List Promise) (wait : Wait) : Type 0 where
  pub short : IsShort lab (left_at left wait.at) (needs_at promises wait.at) wait.kinds
  pub need_is : wait.need ≡ need_of (needs_at promises wait.at) wait.kinds
  pub have_is : wait.have ≡ have_of lab (left_at left wait.at) wait.kinds

-- THE LEAST MOMENT of the span at which the needs don't fit is the wait's, which tells types that show it
pub record IsShortAt (lab : Lab) (left : List Left) (promises : List Promise) (span : Span) (wait : Wait) : Type 0 where
  pub begun : span.from ≤ wait.at
  pub within : wait.at < span.from + span.length
  pub before : (t : ℕ) → span.from ≤ t → t < wait.at → FitsAt lab left promises t
  pub tells : TellsShort lab left promises wait
