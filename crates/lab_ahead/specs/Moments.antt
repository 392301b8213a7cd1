-- The promises and the nodes left at a moment, and the moments at which to test a run.
use Rattle.std.specs.Prelude.{◌≡◌, ◌<◌, ◌≤◌, ◌+◌, ◌⊎◌, ◌&&◌, ℕ, Bool, nat_le, nat_lt, List, [], ◌∷◌, map, filter, if◌then◌else◌}
use Rattle.lab_base.specs.Lists.{Has}
use Rattle.lab_base.specs.declared.ids.NodeId.{NodeId}
use Rattle.phys_lab.specs.Labs.{Lab}
use Rattle.lab_ahead.specs.declared.batch.Promise.{Promise}
use Rattle.lab_ahead.specs.declared.fitting.Need.{Need}
use Rattle.lab_ahead.specs.declared.times.Left.{Left}
use Rattle.lab_ahead.specs.Givings.{Fits}

-- a promise holds from its start up to and without its end
abbrev pub holds_at : ℕ → Promise → Bool
holds_at t promise = nat_le promise.from t && nat_lt t promise.to

abbrev pub need_of_promise : Promise → Need
need_of_promise promise = record { kind = promise.kind; count = promise.count }

abbrev pub needs_at : List Promise → ℕ → List Need
needs_at promises t = map need_of_promise (filter (holds_at t) promises)

-- the nodes that are left from that moment or an earlier one on
abbrev pub left_at : List Left → ℕ → List NodeId
left_at left t = map (λ entry. entry.node) (filter (λ entry. nat_le entry.from t) left)

abbrev pub FitsAt : Lab → List Left → List Promise → ℕ → Type 0
FitsAt lab left promises t = Fits lab (left_at left t) (needs_at promises t)

-- the needs fit from `now` up to and without now + length
abbrev pub FitsFor : Lab → List Left → List Promise → ℕ → ℕ → Type 0
FitsFor lab left promises now span = (t : ℕ) → now ≤ t → t < now + span → FitsAt lab left promises t

-- the run's first moment, or a start of a promise in it
abbrev pub IsTested : List Promise → ℕ → ℕ → Type 0
IsTested promises now t = (now ≤ t) × ((t ≡ now) ⊎ Has (map (λ promise. promise.from) promises) t)

-- the first moment of a run of that length, and the starts of promises from a moment up to and without another
abbrev pub first_moment : ℕ → ℕ → List ℕ
first_moment now span = if nat_lt 0 span then now ∷ [] else []

abbrev pub starts_within : ℕ → ℕ → List Promise → List ℕ
starts_within now end promises = map (λ promise. promise.from) (filter (λ promise. nat_le now promise.from && nat_lt promise.from end) promises)
