-- The task of a command, or of a variable's new value; or the first fault.
use Rattle.std.specs.Prelude.{ℕ, Bool, true, false, ◌&&◌, List, [], ◌∷◌, map, slice_index_or, Option, Some, None, Result, Ok, Err, ◌+◌, if◌then◌else◌}
use Rattle.std.specs.List.{list_any}
use Rattle.lab_base.specs.declared.fault.Kind.{Kind}
use Rattle.lab_base.specs.declared.fault.Kind.TheVariants as kinds
use Rattle.lab_base.specs.Names.{same_name}
use Rattle.ns_words.specs.declared.names.Numbered.TheVariants as numbered
use Rattle.ns_words.specs.Objects.{numbered_name_of}
use Rattle.ns_build.specs.declared.keywords.Keyword.{Keyword}
use Rattle.ns_build.specs.declared.keywords.Keyword.TheVariants as keywords
use Rattle.ns_build.specs.declared.task.Task.{Task}
use Rattle.ns_build.specs.declared.task.Task.TheVariants as tasks
use Rattle.ns_build.specs.declared.task.NodeChange.TheVariants as nodes
use Rattle.ns_build.specs.declared.task.LinkChange.TheVariants as links
use Rattle.ns_build.specs.Networks.{Network}
use Rattle.ns_build.specs.Words.{simulator_word, node_of, link_of}
use Rattle.ns_build.specs.Checks.{◌>>=◌, refuse, object_name_in}
use Rattle.ns_build.specs.Keywords.{keyword_of}
use Rattle.ns_build.specs.Commands.{judged_new, judged_source, judged_simulator}
use Rattle.ns_build.specs.Settings.{judged_os, judged_hardware, judged_fixed, judged_ip, judged_end_ip, judged_loss, judged_multiplexed, judged_class}

-- COMMANDS, of which those of the simulator hang on the line

unfoldable pub judged_keyword : Network → Option Keyword → List (List ℕ) → Result Task Kind
judged_keyword n (Some keywords.New) words = judged_new n words
judged_keyword n (Some keywords.Source) words = judged_source words
judged_keyword n (Some keywords.NodeOs) words = judged_os n words
judged_keyword n (Some keywords.Hardware) words = judged_hardware n words
judged_keyword n (Some keywords.FixNode) words = judged_fixed n words
judged_keyword n (Some keywords.NodeIp) words = judged_ip n words
judged_keyword n (Some keywords.LinkIp) words = judged_end_ip false n words
judged_keyword n (Some keywords.LanIp) words = judged_end_ip true n words
judged_keyword n (Some keywords.LinkLoss) words = judged_loss false n words
judged_keyword n (Some keywords.LanLoss) words = judged_loss true n words
judged_keyword n (Some keywords.Multiplexed) words = judged_multiplexed n words
judged_keyword n (Some keywords.SoftVtype) words = judged_class n words
judged_keyword n (Some keywords.OtherSetting) words = Err kinds.Unsupported
judged_keyword n None words = Ok tasks.NotMine

-- the word of a simulator that is made
abbrev pub calls_simulator : Network → List ℕ → Bool
calls_simulator n word = n.simulator && same_name word simulator_word

unfoldable pub judged : ℕ → Network → List (List ℕ) → Result Task Kind
judged line n [] = Ok tasks.NotMine
judged line n (word ∷ words) =
    if calls_simulator n word then judged_simulator line n (word ∷ words) else judged_keyword n (keyword_of word) (word ∷ words)

-- NAMES

-- the name at an index of a list is the one of its number
abbrev pub is_numbered : List ℕ → List (List ℕ) → ℕ → Bool
is_numbered number names index = same_name number (slice_index_or names index [])

-- a node, and a link or LAN, has the name
abbrev pub has_node : Network → List ℕ → Bool
has_node n name = list_any (λ x. same_name name x.name) n.nodes

abbrev pub has_link : Network → List ℕ → Bool
has_link n name = list_any (λ x. same_name name x.name) n.links

unfoldable pub named_node : Network → ℕ → List ℕ → Result Task Kind
named_node n v variable =
    if is_numbered (numbered_name_of numbered.Node (v + 1)) (map (λ x. x.name) n.nodes) v
    then (do
      name ← object_name_in variable
      differ ← refuse kinds.Twice (has_node n name)
      Ok (tasks.ChangeNode v (nodes.Name name)))
    else Ok tasks.Nothing

unfoldable pub named_link : Network → ℕ → List ℕ → Result Task Kind
named_link n l variable =
    if is_numbered (numbered_name_of numbered.Link (l + 1)) (map (λ x. x.name) n.links) l
    then (do
      name ← object_name_in variable
      differ ← refuse kinds.Twice (has_link n name)
      Ok (tasks.ChangeLink l (links.Name name)))
    else Ok tasks.Nothing

-- a value that is the word of an object without a variable's name
unfoldable pub named_by : Network → Option ℕ → Option ℕ → List ℕ → Result Task Kind
named_by n (Some v) l variable = named_node n v variable
named_by n None (Some l) variable = named_link n l variable
named_by n None None variable = Ok tasks.Nothing

unfoldable pub judged_name : Network → List ℕ → List ℕ → Result Task Kind
judged_name n variable value = named_by n (node_of n value) (link_of n value) variable
