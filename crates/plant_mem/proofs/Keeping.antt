-- The rooms after a call of the disk: they lessen by its effect, or by the step of its failure.
use Rattle.std.proofs.Common.{◌≡◌, ℕ, refl, sym, subst, arith}
use Rattle.std.specs.Prelude.{IsFalse}
use Rattle.plant_mem.specs.CallEnds.{has_effect}
use Rattle.plant_mem.specs.Rooms.{Rooms, KeepsRooms}
use Rattle.plant_mem.specs.declared.call_end.CallEnd.{CallEnd}
use Rattle.plant_mem.specs.declared.call_end.CallEnd.TheVariants.{Done, Fails, Stops, AlreadyStopped}

-- a write of so many bytes is done or stops the plant, and then its end takes no room; or it fails, and has none of its own
pub written : (f : CallEnd) (bytes : ℕ) (old mid new : Rooms) → KeepsRooms 1 bytes old mid → (IsFalse (has_effect f) → mid ≡ old) → KeepsRooms 1 0 mid new → ((f ≡ Fails → ⊥) → new ≡ mid) → KeepsRooms 1 bytes old new
written Done bytes old mid new write same end still = subst (λ r. KeepsRooms 1 bytes old r) (sym (still (λ e. absurd (cc e)))) write
written (Stops pick) bytes old mid new write same end still = subst (λ r. KeepsRooms 1 bytes old r) (sym (still (λ e. absurd (cc e)))) write
written AlreadyStopped bytes old mid new write same end still = subst (λ r. KeepsRooms 1 bytes old r) (sym (still (λ e. absurd (cc e)))) write
written Fails bytes old mid new write same end still =
    let k = subst (λ r. KeepsRooms 1 0 r new) (same refl) end in
    record {
      steps_left = k.steps_left;
      entries = k.entries;
      bytes_left = omega (arith, k.bytes_left);
      no_more_steps = k.no_more_steps;
      no_more_bytes = k.no_more_bytes;
      a = k.a;
      b = k.b;
    }
