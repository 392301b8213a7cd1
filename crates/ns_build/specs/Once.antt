-- A text has one meaning, and a word stands for one object.
use Rattle.std.specs.Prelude.{◌≡◌, ℕ, ◌<◌, ◌≤◌, false, List, length, Some, None, Result}
use Rattle.lab_base.specs.declared.fault.TextFault.{TextFault}
use Rattle.lab_base.specs.Names.{is_name}
use Rattle.ns_build.specs.declared.asked.Asked.{Asked}
use Rattle.ns_build.specs.Networks.{Network}
use Rattle.ns_build.specs.Words.{simulator_word, node_word, link_word, node_of, link_of}
use Rattle.ns_build.specs.Meaning.{MeaningOf}

-- no text means two things
abbrev pub MeaningIsOne : Type 0
MeaningIsOne = (t : List ℕ) (r q : Result Asked TextFault) → MeaningOf t r → MeaningOf t q → r ≡ q

-- the word of an object stands for the object at that index, and for no object of the other kind, and is no name
pub record WordsStand (n : Network) (index : ℕ) : Type 0 where
  pub node : index < length n.nodes → node_of n (node_word index) ≡ Some index
  pub link : index < length n.links → link_of n (link_word index) ≡ Some index
  pub no_link : link_of n (node_word index) ≡ None
  pub no_node : node_of n (link_word index) ≡ None
  pub node_name : is_name (node_word index) ≡ false
  pub link_name : is_name (link_word index) ≡ false
  pub simulator_name : is_name simulator_word ≡ false

abbrev pub AllWordsStand : Type 0
AllWordsStand = (n : Network) (index : ℕ) → index ≤ 65534 → WordsStand n index
