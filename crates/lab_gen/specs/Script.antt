-- The script of a generated run.
use Rattle.std.specs.Prelude.{ℕ, zero, suc, ◌+◌, ◌-◌, ◌*◌, ◌/◌, ◌%◌, nat_le, List, [], ◌∷◌, ◌++◌, codes, decimal, map, if◌then◌else◌}
use Rattle.std.specs.List.{flat_map, range_with_len}
use Rattle.rand_core.specs.Pcg32Seed.{pcg32_seed}
use Rattle.rand_pcg.specs.Lcg.{Lcg}
use Rattle.rand_pcg.specs.Pcg.{pcg32, pcg32_of_seed}

-- so many numbers, from the first one on
unfoldable pub numbers : ℕ → ℕ → List ℕ
numbers first count = range_with_len first count

-- THE LAB: four switches, 64 nodes with four interfaces each, and a trunk from the first switch to each other one
abbrev pub switch_line : ℕ → List ℕ
switch_line k = codes "node s" ++ decimal k ++ codes " switch"

abbrev pub node_line : ℕ → List ℕ
node_line i = codes "node p" ++ decimal i ++ codes " pc:1"

-- the switch of a node's interfaces, and the port of interface j
abbrev pub switch_of : ℕ → ℕ
switch_of i = (i - 1) % 4 + 1

abbrev pub port_of : ℕ → ℕ → ℕ
port_of i j = 4 * ((i - 1) / 4) + j + 1

abbrev pub interface_line : ℕ → ℕ → List ℕ
interface_line i j =
    codes "link p" ++ decimal i ++ codes "." ++ decimal j ++ codes " p" ++ decimal i ++ codes ":eth" ++ decimal j ++ codes " s" ++ decimal (switch_of i) ++ codes ":"
    ++ decimal (port_of i j) ++ codes " 100000"

abbrev pub trunk_line : ℕ → List ℕ
trunk_line k = codes "link t" ++ decimal k ++ codes " s1:" ++ decimal (1000 + k) ++ codes " s" ++ decimal k ++ codes ":1000 1000000000"

abbrev pub interface_lines : ℕ → List (List ℕ)
interface_lines i = map (interface_line i) (numbers 0 4)

unfoldable pub lab_lines : List (List ℕ)
lab_lines =
    codes "vlans 100 199" ∷ map switch_line (numbers 1 4) ++ map node_line (numbers 1 64) ++ flat_map interface_lines (numbers 1 64)
    ++ map trunk_line (numbers 2 3)

-- AN EXPERIMENT: n virtual nodes in a row, each joined to the next one
abbrev pub virtual_node_line : ℕ → List ℕ
virtual_node_line i = codes "node v" ++ decimal i ++ codes " pc linux"

abbrev pub virtual_link_line : ℕ → List ℕ
virtual_link_line i = codes "link l" ++ decimal i ++ codes " l" ++ decimal i ++ codes " 10000 v" ++ decimal i ++ codes " v" ++ decimal (i + 1)

unfoldable pub top_lines : ℕ → List (List ℕ)
top_lines n = map virtual_node_line (numbers 1 n) ++ map virtual_link_line (numbers 1 (n - 1))

-- the commands on experiment k of n virtual nodes: it is made and swapped in, and then the second one before it, if any, is swapped out
abbrev pub create_line : ℕ → ℕ → List ℕ
create_line k n = codes "create-top E" ++ decimal k ++ codes " " ++ decimal (2 * n - 1)

abbrev pub swapin_line : ℕ → List ℕ
swapin_line k = codes "swapin E" ++ decimal k ++ codes " " ++ decimal k

abbrev pub swapout_line : ℕ → List ℕ
swapout_line h = codes "swapout E" ++ decimal h

abbrev pub swapout_lines : ℕ → List (List ℕ)
swapout_lines k = if nat_le 3 k then swapout_line (k - 2) ∷ [] else []

unfoldable pub experiment_lines : ℕ → ℕ → List (List ℕ)
experiment_lines k n = create_line k n ∷ top_lines n ++ swapin_line k ∷ swapout_lines k

-- the generator of a seed after its first words, and the virtual nodes of experiment k, by word k
unfoldable pub generator_after : ℕ → ℕ → Lcg
generator_after seed zero = pcg32_of_seed (pcg32_seed 16 seed)
generator_after seed (suc k) = (pcg32 (generator_after seed k)).1

abbrev pub virtual_nodes : ℕ → ℕ → ℕ
virtual_nodes seed k = 2 + (pcg32 (generator_after seed (k - 1))).0 % 5

abbrev pub drawn_lines : ℕ → ℕ → List (List ℕ)
drawn_lines seed k = experiment_lines k (virtual_nodes seed k)

-- THE LINES OF A GENERATED RUN: the lab, 40 experiments, and what they are at the end
unfoldable pub generated_lines : ℕ → List (List ℕ)
generated_lines seed = codes "ptop 328" ∷ lab_lines ++ flat_map (drawn_lines seed) (numbers 1 40) ++ codes "status" ∷ []

-- lines as a text, each with a line feed after it
abbrev pub text_of : List (List ℕ) → List ℕ
text_of lines = flat_map (λ line. line ++ 10 ∷ []) lines

abbrev pub generated : ℕ → List ℕ
generated seed = text_of (generated_lines seed)
