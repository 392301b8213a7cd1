-- The place that the words after the program's name choose.
use Rattle.std.specs.Prelude.{◌≡◌, Option, Some, None, Result, Ok, Err, option_map, string_bytes}
use Rattle.lab_words.specs.Words.{Choices, Kept, Blank, Folder, kept_in}
use Rattle.lab_words.specs.declared.place.Place.{Place}
use Rattle.lab_words.specs.declared.place.Place.TheVariants as places
use Rattle.lab_words.specs.declared.place.PlaceFault.{PlaceFault}
use Rattle.lab_words.specs.declared.place.PlaceFault.TheVariants as faults
use Rattle.lab_words.specs.declared.words.Chosen.{Chosen}

-- what is seen of the choice
abbrev pub seen_of : Chosen → Choices
seen_of c = record { place = kept_in (option_map (λ s. s.now) c.dir); rule = c.rule; generated = c.generated }

-- the answer is what the words choose, or Usage where they choose nothing; or Memory
abbrev pub Says : Option Choices → Result Chosen PlaceFault → Type 0
Says choices (Ok c) = choices ≡ Some (seen_of c)
Says choices (Err faults.Usage) = choices ≡ None
Says choices (Err faults.Memory) = Unit {0}

abbrev pub place_seen : Place → Kept
place_seen places.Blank = Blank
place_seen (places.Folder dir) = Folder (string_bytes dir)

abbrev pub IsPlace : Option Choices → Result Place PlaceFault → Type 0
IsPlace choices (Ok place) = option_map (λ c. c.place) choices ≡ Some (place_seen place)
IsPlace choices (Err faults.Usage) = choices ≡ None
IsPlace choices (Err faults.Memory) = Unit {0}
