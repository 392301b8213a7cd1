-- A sound wiring after an event.
use Rattle.std.proofs.Common.{◌≡◌, ℕ, false, length, refl, subst, arith}
use Rattle.std.specs.Prelude.{not, ◌||◌, ◌==◌}
use Rattle.virt_topo.specs.Soundness.{IsSound}
use Rattle.ns_events.specs.Once.{StaysSound}
use Rattle.ns_events.specs.Pipes.{is_of, own_pipes}
use Rattle.ns_events.specs.Renewed.{renewed, renewed_pipe}
use Rattle.ns_events.proofs.Applying.{leaves, stays_sound}
use Rattle.ns_events.proofs.OneApplied.{applied_once}

as_many : (a b : ℕ) → ((a == 0) || not (a == b)) ≡ false → a ≡ b
as_many a b is = grind arith

-- it is the one whose pipes are made anew
pub sound_behind : StaysSound
sound_behind e text now new sound_text sound_now keeps shaped applied =
    let old = own_pipes text e.link in
    let made = renewed (is_of now e.link) (renewed_pipe e.what (length old)) now.pipes old in
    let same : length (own_pipes now e.link) ≡ length old = as_many (length (own_pipes now e.link)) (length old) shaped in
    subst IsSound (applied_once e text now (record now { pipes = made }) new (leaves e text now same) applied)
    (stays_sound e text now now old made keeps sound_text sound_now refl refl refl)
