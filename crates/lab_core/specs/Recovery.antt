-- Settling in the lab step: what an opening does beside reading, and the command `recover`.
use Rattle.std.specs.Prelude.{◌≡◌, ◌⊎◌, ℕ, true, false, count_by, List, [], ◌∷◌, ◌++◌, Some}
use Rattle.plant.specs.Events.{Event}
use Rattle.records_model.specs.Labs.{LabState}
use Rattle.swap_turns.specs.Pieces.{has_outer, has_miss, has_command}
use Rattle.script_text.specs.declared.reply.Reply.TheVariants.{Recovered}
use Rattle.swap_turns.specs.Settling.{Settles, BreaksOff}
use Rattle.swap_turns.specs.Swaps.{Swap}
use Rattle.swap_turns.specs.Turning.{Outcome}
use Rattle.recovery.specs.Due.{swaps_of}
use Rattle.recovery.specs.Settle.{is_ended, is_stuck}
use Rattle.lab_core.specs.Breaks.{Breaks, StartsAfter}
use Rattle.lab_core.specs.Sessions.{OpenSwap, Closed, Open, After, names_of}

-- of these swaps, each with how its settling ended, that of the name met no trouble
abbrev pub EndedIn : List Swap → List Outcome → List ℕ → Type 0
EndedIn [] outcomes name = ⊥
EndedIn (p ∷ ps) [] name = ⊥
EndedIn (p ∷ ps) (outcome ∷ outcomes) name = ((p.name ≡ name) × (is_ended outcome ≡ true)) ⊎ EndedIn ps outcomes name

-- THE FIRST OF THEM ARE SETTLED, in order of creation and without the busy ones, and nothing of the next is begun
pub record SettlesFirst (s : LabState) (busy : List (List ℕ)) (steps : List Event) (after : LabState) : Type 0 where
  pub past : List Swap
  pub rest : List Swap
  pub all : swaps_of busy s.experiments ≡ past ++ rest
  pub outcomes : List Outcome
  pub settles : Settles s past outcomes steps after

-- HOW FAR A SETTLING CAME that broke off, in order of creation and without the busy ones: some were settled; or so were some, and in the next a
-- call of the journal failed, or the plant stopped, and was started again if there was memory
pub data SettlesSome (s : LabState) (busy : List (List ℕ)) (steps : List Event) (after : LabState) : Type 0 where
  some : SettlesFirst s busy steps after → SettlesSome s busy steps after
  within : (outcome : Outcome) (front behind : List Event) → steps ≡ front ++ behind → BreaksOff s (swaps_of busy s.experiments) front outcome after
      → (behind ≡ []) ⊎ StartsAfter outcome behind → SettlesSome s busy steps after

-- THE OPENING of a closed controller: a part that reads, then the settling of all experiments that move, and then perhaps the journal's move onto its
-- other side

-- a part that reads sends no device command, nor does one that moves the journal
abbrev pub Reads : List Event → Type 0
Reads reading = has_command reading ≡ false

abbrev pub Shifts : List Event → Type 0
Shifts shifting = has_command shifting ≡ false

-- it opened, and led to that lab: no call of the disk and no reading of a device failed, and the plant did not stop
pub record Opens (s : LabState) (opening : List Event) (mid : LabState) : Type 0 where
  pub reading : List Event
  pub moving : List Event
  pub shifting : List Event
  pub is : opening ≡ reading ++ (moving ++ shifting)
  pub reads : Reads reading
  pub outcomes : List Outcome
  pub settles : Settles s (swaps_of [] s.experiments) outcomes moving mid
  pub shifts : Shifts shifting
  pub no_miss : has_miss opening ≡ false
  pub no_outer : has_outer opening ≡ false

-- how far it came that broke off: it read; or it had read, and settled some; or it had settled all, and moved the journal
pub data OpensInPart (s : LabState) (opening : List Event) (after : LabState) : Type 0 where
  reading : Reads opening → after ≡ s → OpensInPart s opening after
  settling : (front moving : List Event) → opening ≡ front ++ moving → Reads front → has_miss front ≡ false → has_outer front ≡ false
      → SettlesSome s [] moving after → OpensInPart s opening after
  shifting : (front moving behind : List Event) → opening ≡ front ++ (moving ++ behind) → Reads front → has_miss front ≡ false → has_outer front ≡ false
      → (outcomes : List Outcome) → Settles s (swaps_of [] s.experiments) outcomes moving after → Shifts behind → OpensInPart s opening after

-- it broke off, in that lab: nothing of the command's own is done
pub record BreaksOpening (s : LabState) (opening own : List Event) (after : After) : Type 0 where
  pub part : OpensInPart s opening after.lab
  pub nothing : own ≡ []
  pub breaks : Breaks opening after.reply
  pub session : after.session ≡ Closed

-- THE COMMAND `recover`: all that move and have no open swap are settled, and the numbers of those settled and stuck are told; or that breaks off
pub data Recovers (s : LabState) (opens : List OpenSwap) (own : List Event) (after : After) : Type 0 where
  settled : (outcomes : List Outcome) → Settles s (swaps_of (names_of opens) s.experiments) outcomes own after.lab
      → after.reply ≡ Some (Recovered (count_by is_ended outcomes) (count_by is_stuck outcomes)) → after.session ≡ Open opens → Recovers s opens own after
  broken_off : SettlesSome s (names_of opens) own after.lab → Breaks own after.reply → after.session ≡ Closed → Recovers s opens own after

-- WHAT IT SETTLED, where it is answered with these numbers: so many settlings ended, and so many were cut
pub record HasRecovered (s : LabState) (busy : List (List ℕ)) (done stuck : ℕ) (own : List Event) (after : LabState) : Type 0 where
  pub outcomes : List Outcome
  pub settles : Settles s (swaps_of busy s.experiments) outcomes own after
  pub done_are : count_by is_ended outcomes ≡ done
  pub stuck_are : count_by is_stuck outcomes ≡ stuck
