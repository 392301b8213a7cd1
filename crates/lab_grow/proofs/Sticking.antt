-- The record that can't follow, and its experiment.
use Rattle.std.specs.Prelude.{IfOk, slice_get}
use Rattle.std.proofs.Common.{◌≡◌, ℕ, zero, suc, ◌<◌, Option, Some, Result, Ok, Err, List, [], ◌∷◌, length, get_or, sym, ap, arith}
use Rattle.std.proofs.lemmas.List.{length-map}
use Rattle.lab_base.specs.declared.memory.Memory.{Memory}
use Rattle.journal_rec.specs.declared.record.Record.{Record}
use Rattle.journal_rec.specs.declared.record.Found.{Found}
use Rattle.records_model.specs.Labs.{at_first, StopsAt}
use Rattle.records_model.proofs.LabLaws.{stops_within}
use Rattle.lab_state.specs.Replays.{records_of}
use Rattle.lab_state.specs.Texts.{the_texts}
use Rattle.lab_grow.specs.Reasons.{IsOf, IsStuck}

pub entry_at : (fs : List Found) (n : ℕ) (f : Found) → n < length fs → f ≡ get_or fs n f → slice_get (records_of fs) n ≡ Some f.entry
entry_at [] n f inside is = absurd (omega (arith, inside))
entry_at (g ∷ fs) zero f inside is = ap (λ (x : Found). Some x.entry) (sym is)
entry_at (g ∷ fs) (suc n) f inside is = entry_at fs n f (omega (arith, inside)) is

pub stops_inside : (fs : List Found) (n : ℕ) → StopsAt the_texts at_first (records_of fs) n → n < length fs
stops_inside fs n stops = omega (arith, stops_within the_texts at_first (records_of fs) n stops, length-map fs (λ (f : Found). f.entry))

pub stuck_there : {Y : Type 0} (rs : List Record) (n : ℕ) (r : Result (Option (List ℕ) × Y) Memory) → StopsAt the_texts at_first rs n → IfOk r (λ told. IsOf rs n told.0)
    → IfOk r (λ told. IsStuck rs told.0)
stuck_there rs n (Ok told) stops h = (n, stops, h)
stuck_there rs n (Err memory) stops h = tt
