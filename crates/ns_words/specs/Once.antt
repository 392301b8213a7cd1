-- A word has at most one value.
use Rattle.std.specs.Prelude.{◌≡◌, ℕ, List}
use Rattle.ns_words.specs.Quantities.{IsBandwidth, IsDelay, IsLoss, IsTime}
use Rattle.line_text.specs.Addresses.{IsAddress}
use Rattle.ns_words.specs.Objects.{IsObjectName}

-- a relation gives no word two values
abbrev pub GivesOne : {X : Type 0} → (List ℕ → X → Type 0) → Type 0
GivesOne {X} R = (word : List ℕ) (x y : X) → R word x → R word y → x ≡ y

abbrev pub BandwidthIsOne : Type 0
BandwidthIsOne = GivesOne IsBandwidth

abbrev pub DelayIsOne : Type 0
DelayIsOne = GivesOne IsDelay

abbrev pub LossIsOne : Type 0
LossIsOne = GivesOne IsLoss

abbrev pub TimeIsOne : Type 0
TimeIsOne = GivesOne IsTime

abbrev pub AddressIsOne : Type 0
AddressIsOne = GivesOne IsAddress

abbrev pub NameIsOne : Type 0
NameIsOne = GivesOne IsObjectName
