-- The tasks of the commands that begin with `tb-`, or their first fault.
use Rattle.std.specs.Prelude.{ℕ, nat_lt, nat_le, Bool, not, ◌||◌, List, [], ◌∷◌, ◌++◌, length, Result, Ok}
use Rattle.std.specs.List.{list_any}
use Rattle.lab_base.specs.declared.fault.Kind.{Kind}
use Rattle.lab_base.specs.declared.fault.Kind.TheVariants as kinds
use Rattle.lab_base.specs.Names.{same_name}
use Rattle.ns_build.specs.declared.task.Task.{Task}
use Rattle.ns_build.specs.declared.task.Task.TheVariants as tasks
use Rattle.ns_build.specs.declared.task.NodeChange.TheVariants as nodes
use Rattle.ns_build.specs.declared.task.LinkChange.TheVariants as links
use Rattle.ns_build.specs.Networks.{Network, fresh_class, is_on_at, only_link, asks_of, refuses_class}
use Rattle.ns_build.specs.Words.{node_of, link_of, link_of_kind, elements_of}
use Rattle.ns_build.specs.Checks.{◌>>=◌, each, need, refuse, word_at, counted, name_in, loss_in, flag_in, address_in}

-- `tb-set-node-os NODE OS`
unfoldable pub judged_os : Network → List (List ℕ) → Result Task Kind
judged_os n words = do
  form ← counted 3 words
  v ← need kinds.Node (node_of n (word_at words 1))
  os ← name_in (word_at words 2)
  Ok (tasks.ChangeNode v (nodes.Os os))

-- `tb-set-hardware NODE TYPE`
unfoldable pub judged_hardware : Network → List (List ℕ) → Result Task Kind
judged_hardware n words = do
  form ← counted 3 words
  v ← need kinds.Node (node_of n (word_at words 1))
  type ← name_in (word_at words 2)
  Ok (tasks.ChangeNode v (nodes.Asks (asks_of n type)))

-- `tb-fix-node NODE NAME`
unfoldable pub judged_fixed : Network → List (List ℕ) → Result Task Kind
judged_fixed n words = do
  form ← counted 3 words
  v ← need kinds.Node (node_of n (word_at words 1))
  fixed ← name_in (word_at words 2)
  Ok (tasks.ChangeNode v (nodes.Fixed fixed))

-- `tb-set-ip NODE IP`
unfoldable pub judged_ip : Network → List (List ℕ) → Result Task Kind
judged_ip n words = do
  form ← counted 3 words
  v ← need kinds.Node (node_of n (word_at words 1))
  l ← need kinds.Node (only_link n v)
  ip ← address_in (word_at words 2)
  Ok (tasks.ChangeLink l (links.Address v ip))

-- `tb-set-ip-link NODE LINK IP` and `tb-set-ip-lan NODE LAN IP`
unfoldable pub judged_end_ip : Bool → Network → List (List ℕ) → Result Task Kind
judged_end_ip lan n words = do
  form ← counted 4 words
  v ← need kinds.Node (node_of n (word_at words 1))
  l ← need kinds.Link (link_of_kind n lan (word_at words 2))
  joined ← refuse kinds.Node (not (is_on_at n v l))
  ip ← address_in (word_at words 3)
  Ok (tasks.ChangeLink l (links.Address v ip))

-- `tb-set-link-loss LINK LOSS` and `tb-set-lan-loss LAN LOSS`
unfoldable pub judged_loss : Bool → Network → List (List ℕ) → Result Task Kind
judged_loss lan n words = do
  form ← counted 3 words
  l ← need kinds.Link (link_of_kind n lan (word_at words 1))
  ppm ← loss_in (word_at words 2)
  Ok (tasks.ChangeLink l (links.Loss ppm))

-- `tb-set-multiplexed LINK N`, of a link or a LAN
unfoldable pub judged_multiplexed : Network → List (List ℕ) → Result Task Kind
judged_multiplexed n words = do
  form ← counted 3 words
  l ← need kinds.Link (link_of n (word_at words 1))
  multiplexed ← flag_in (word_at words 2)
  Ok (tasks.ChangeLink l (links.Multiplexed multiplexed))

-- these types and another
unfoldable pub with_type : List (List ℕ) → List ℕ → Result (List (List ℕ)) Kind
with_type types word = do
  type ← name_in word
  differ ← refuse kinds.Twice (list_any (same_name type) types)
  Ok (types ++ type ∷ [])

-- `tb-make-soft-vtype NAME LIST`
unfoldable pub judged_class : Network → List (List ℕ) → Result Task Kind
judged_class n words = do
  form ← counted 3 words
  name ← name_in (word_at words 1)
  free ← refuse kinds.Twice (refuses_class n name)
  types ← each with_type [] (elements_of (word_at words 2))
  some ← refuse kinds.Name (nat_lt (length types) 1)
  room ← refuse kinds.Limit (nat_lt 8 (length types) || nat_le 64 (length n.classes))
  Ok (tasks.AddClass (fresh_class name types))
