-- The tasks of the commands `new`, `source` and those of the simulator, or their first fault.
use Rattle.std.specs.Prelude.{ℕ, ◌==◌, nat_lt, nat_le, Bool, true, false, not, ◌||◌, List, [], ◌∷◌, ◌++◌, length, codes, Option, Some, None, Result, Ok, Err}
use Rattle.lab_base.specs.declared.fault.Kind.{Kind}
use Rattle.lab_base.specs.declared.fault.Kind.TheVariants as kinds
use Rattle.lab_base.specs.Names.{same_name}
use Rattle.virt_topo.specs.declared.wiring.VirtEnd.{VirtEnd}
use Rattle.ns_build.specs.declared.keywords.Verb.{Verb}
use Rattle.ns_build.specs.declared.keywords.Verb.TheVariants as verbs
use Rattle.ns_build.specs.declared.task.Task.{Task}
use Rattle.ns_build.specs.declared.task.Task.TheVariants as tasks
use Rattle.ns_build.specs.Networks.{Network, next_node, next_link, fresh_link, lossless, bare_end, has_end}
use Rattle.ns_build.specs.Words.{node_of, elements_of}
use Rattle.ns_build.specs.Checks.{◌>>=◌, each, need, refuse, word_at, counted, bandwidth_in, delay_in}
use Rattle.ns_build.specs.Events.{judged_at}
use Rattle.ns_build.specs.Keywords.{verb_of}

-- `new Simulator`
unfoldable pub judged_new : Network → List (List ℕ) → Result Task Kind
judged_new n words = do
  form ← counted 2 words
  kept ← refuse kinds.Unsupported (not (same_name (word_at words 1) (codes "Simulator")))
  first ← refuse kinds.Twice n.simulator
  Ok tasks.MakeSimulator

-- `source tb_compat.tcl`
unfoldable pub judged_source : List (List ℕ) → Result Task Kind
judged_source words = do
  form ← counted 2 words
  kept ← refuse kinds.Unsupported (not (same_name (word_at words 1) (codes "tb_compat.tcl")))
  Ok tasks.Nothing

-- `$ns node`
unfoldable pub judged_node : Network → List (List ℕ) → Result Task Kind
judged_node n words = do
  form ← counted 2 words
  room ← refuse kinds.Limit (nat_le 256 (length n.nodes))
  Ok (tasks.AddNode (next_node n))

-- room for one link or LAN more
abbrev pub link_room : Network → Result (Unit {0}) Kind
link_room n = refuse kinds.Limit (nat_le 512 (length n.links))

-- a link of these rates
unfoldable pub new_link : Network → Bool → ℕ → ℕ → List VirtEnd → Task
new_link n lan kbps micros ends = tasks.AddLink (fresh_link (next_link n) lan (lossless kbps micros) ends)

-- `$ns duplex-link A B BW DELAY DropTail`
unfoldable pub judged_link : Network → List (List ℕ) → Result Task Kind
judged_link n words = do
  form ← counted 7 words
  a ← need kinds.Node (node_of n (word_at words 2))
  b ← need kinds.Node (node_of n (word_at words 3))
  differ ← refuse kinds.Twice (a == b)
  kbps ← bandwidth_in (word_at words 4)
  micros ← delay_in (word_at words 5)
  queue ← refuse kinds.Unsupported (not (same_name (word_at words 6) (codes "DropTail")))
  room ← link_room n
  Ok (new_link n false kbps micros (bare_end a ∷ bare_end b ∷ []))

-- these ends and that of a node, which is another than theirs
unfoldable pub with_end : Network → List VirtEnd → List ℕ → Result (List VirtEnd) Kind
with_end n ends word = do
  v ← need kinds.Node (node_of n word)
  differ ← refuse kinds.Twice (has_end v ends)
  Ok (ends ++ bare_end v ∷ [])

-- `$ns make-lan LIST BW DELAY`
unfoldable pub judged_lan : Network → List (List ℕ) → Result Task Kind
judged_lan n words = do
  form ← counted 5 words
  ends ← each (with_end n) [] (elements_of (word_at words 2))
  enough ← refuse kinds.Node (nat_lt (length ends) 2)
  few ← refuse kinds.Limit (nat_lt 254 (length ends))
  kbps ← bandwidth_in (word_at words 3)
  micros ← delay_in (word_at words 4)
  room ← link_room n
  Ok (new_link n true kbps micros ends)

-- `$ns rtproto Static` and `$ns rtproto Manual`
unfoldable pub judged_routes : List (List ℕ) → Result Task Kind
judged_routes words = do
  form ← counted 3 words
  kept ← refuse kinds.Unsupported (not (same_name (word_at words 2) (codes "Static") || same_name (word_at words 2) (codes "Manual")))
  Ok tasks.Nothing

-- `$ns run`
unfoldable pub judged_run : List (List ℕ) → Result Task Kind
judged_run words = do
  form ← counted 2 words
  Ok tasks.Stop

-- the simulator's word, and a word after it, on a line
unfoldable pub judged_verb : ℕ → Network → Option Verb → List (List ℕ) → Result Task Kind
judged_verb line n (Some verbs.MakeNode) words = judged_node n words
judged_verb line n (Some verbs.DuplexLink) words = judged_link n words
judged_verb line n (Some verbs.MakeLan) words = judged_lan n words
judged_verb line n (Some verbs.RouteBy) words = judged_routes words
judged_verb line n (Some verbs.At) words = judged_at line n words
judged_verb line n (Some verbs.Run) words = judged_run words
judged_verb line n None words = Err kinds.Unsupported

unfoldable pub judged_simulator : ℕ → Network → List (List ℕ) → Result Task Kind
judged_simulator line n words = do
  form ← refuse kinds.Arity (nat_lt (length words) 2)
  judged_verb line n (verb_of (word_at words 1)) words
