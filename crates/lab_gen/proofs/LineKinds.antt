-- The lines of the script are printed, and short.
use Rattle.std.proofs.Common.{◌≡◌, ◌∙◌, ℕ, ◌+◌, ◌-◌, ◌*◌, ◌<◌, ◌≤◌, ◌^◌, Bool, true, false, List, [], ◌∷◌, ◌++◌, length, map, codes, refl, arith, length-append}
use Rattle.std.specs.Prelude.{decimal, nat_le, if◌then◌else◌}
use Rattle.std.specs.List.{flat_map, list_all}
use Rattle.lab_gen.specs.Script.{create_line, drawn_lines, experiment_lines, generated, generated_lines, interface_line, interface_lines, lab_lines, node_line, numbers, port_of, swapin_line, swapout_line, swapout_lines, switch_line, switch_of, top_lines, trunk_line, virtual_link_line, virtual_node_line, virtual_nodes}
use Rattle.lab_gen.proofs.Printed.{AreLines, IsLine, IsPart, count_each, count_map, count_all, is_printed, line_of_parts, lines_each, lines_map, lines_more, number_part, parts, text_short}

-- a word
word : (w : List ℕ) (most : ℕ) → list_all is_printed w ≡ true → length w ≤ most → IsPart most w
word w most printed short = record { printed = printed; short = short }

-- a word after a part, and a number after one
with_word : (a : ℕ) (xs w : List ℕ) (b : ℕ) → IsPart a xs → list_all is_printed w ≡ true → length w ≤ b → IsPart (a + b) (xs ++ w)
with_word a xs w b first printed short = parts a b xs w first (word w b printed short)

with_number : (a : ℕ) (xs : List ℕ) (n : ℕ) → IsPart a xs → n < 1000000 → IsPart (a + 6) (xs ++ decimal n)
with_number a xs n first lt = parts a 6 xs (decimal n) first (number_part n lt)

-- the lines of the lab
switch_is : (k : ℕ) → k < 100000 → IsLine (switch_line k)
switch_is k lt = line_of_parts 30 _ (omega arith) (with_word 20 _ (codes " switch") 10 (with_number 14 _ k (word (codes "node s") 14 refl (omega arith)) (omega arith)) refl (omega arith))

node_is : (k : ℕ) → k < 100000 → IsLine (node_line k)
node_is k lt = line_of_parts 30 _ (omega arith) (with_word 20 _ (codes " pc:1") 10 (with_number 14 _ k (word (codes "node p") 14 refl (omega arith)) (omega arith)) refl (omega arith))

interface_is : (i j : ℕ) → i < 100000 → j < 100000 → IsLine (interface_line i j)
interface_is i j first second =
    let a = with_number 6 _ i (word (codes "link p") 6 refl (omega arith)) (omega arith) in
    let b = with_number 13 _ j (with_word 12 _ (codes ".") 1 a refl (omega arith)) (omega arith) in
    let c = with_number 21 _ i (with_word 19 _ (codes " p") 2 b refl (omega arith)) (omega arith) in
    let d = with_number 31 _ j (with_word 27 _ (codes ":eth") 4 c refl (omega arith)) (omega arith) in
    let e = with_number 39 _ (switch_of i) (with_word 37 _ (codes " s") 2 d refl (omega arith)) (omega arith) in
    let f = with_number 46 _ (port_of i j) (with_word 45 _ (codes ":") 1 e refl (omega arith)) (omega arith) in
    line_of_parts 60 _ (omega arith) (with_word 52 _ (codes " 100000") 8 f refl (omega arith))

trunk_is : (k : ℕ) → k < 100000 → IsLine (trunk_line k)
trunk_is k lt =
    let a = with_number 6 _ k (word (codes "link t") 6 refl (omega arith)) (omega arith) in
    let b = with_number 16 _ (1000 + k) (with_word 12 _ (codes " s1:") 4 a refl (omega arith)) (omega arith) in
    let c = with_number 24 _ k (with_word 22 _ (codes " s") 2 b refl (omega arith)) (omega arith) in
    line_of_parts 60 _ (omega arith) (with_word 30 _ (codes ":1000 1000000000") 30 c refl (omega arith))

interfaces_are : (i : ℕ) → i < 100000 → AreLines (interface_lines i)
interfaces_are i lt = lines_map (interface_line i) 0 4 (λ j small. interface_is i j lt (omega arith))

pub lab_are : AreLines lab_lines
unfolding lab_lines
lab_are =
    let first : AreLines (codes "vlans 100 199" ∷ []) = (word (codes "vlans 100 199") 100 refl (omega arith), tt) in
    let switches : AreLines (map switch_line (numbers 1 4)) = lines_map switch_line 1 4 (λ k lt. switch_is k (omega arith)) in
    let nodes : AreLines (map node_line (numbers 1 64)) = lines_map node_line 1 64 (λ k lt. node_is k (omega arith)) in
    let interfaces : AreLines (flat_map interface_lines (numbers 1 64)) = lines_each interface_lines 1 64 (λ k lt. interfaces_are k (omega arith)) in
    let trunks : AreLines (map trunk_line (numbers 2 3)) = lines_map trunk_line 2 3 (λ k lt. trunk_is k (omega arith)) in
    let a = codes "vlans 100 199" ∷ map switch_line (numbers 1 4) in
    let b = a ++ map node_line (numbers 1 64) in
    let c = b ++ flat_map interface_lines (numbers 1 64) in
    lines_more c (map trunk_line (numbers 2 3)) (lines_more b (flat_map interface_lines (numbers 1 64)) (lines_more a (map node_line (numbers 1 64)) (lines_more (codes "vlans 100 199" ∷ []) (map switch_line (numbers 1 4)) first switches) nodes) interfaces) trunks

pub lab_count : length lab_lines ≡ 328
unfolding lab_lines
lab_count =
    let first = codes "vlans 100 199" ∷ [] in
    let switches = map switch_line (numbers 1 4) in
    let nodes = map node_line (numbers 1 64) in
    let interfaces = flat_map interface_lines (numbers 1 64) in
    let trunks = map trunk_line (numbers 2 3) in
    let a : length (first ++ switches) ≡ 5 = length-append first switches ∙ omega (arith, count_map switch_line 1 4) in
    let b : length (first ++ switches ++ nodes) ≡ 69 = length-append (first ++ switches) nodes ∙ omega (arith, a, count_map node_line 1 64) in
    let c : length (first ++ switches ++ nodes ++ interfaces) ≡ 325 = length-append (first ++ switches ++ nodes) interfaces ∙ omega (arith, b, count_all interface_lines 1 64 4 (λ i. count_map (interface_line i) 0 4)) in
    length-append (first ++ switches ++ nodes ++ interfaces) trunks ∙ omega (arith, c, count_map trunk_line 2 3)

-- those of an experiment of at most six virtual nodes
virtual_node_is : (k : ℕ) → k < 100000 → IsLine (virtual_node_line k)
virtual_node_is k lt = line_of_parts 30 _ (omega arith) (with_word 20 _ (codes " pc linux") 10 (with_number 14 _ k (word (codes "node v") 14 refl (omega arith)) (omega arith)) refl (omega arith))

virtual_link_is : (k : ℕ) → k < 100000 → IsLine (virtual_link_line k)
virtual_link_is k lt =
    let a = with_number 6 _ k (word (codes "link l") 6 refl (omega arith)) (omega arith) in
    let b = with_number 14 _ k (with_word 12 _ (codes " l") 2 a refl (omega arith)) (omega arith) in
    let c = with_number 30 _ k (with_word 20 _ (codes " 10000 v") 10 b refl (omega arith)) (omega arith) in
    line_of_parts 44 _ (omega arith) (with_number 38 _ (k + 1) (with_word 36 _ (codes " v") 2 c refl (omega arith)) (omega arith))

top_are : (n : ℕ) → n < 100000 → AreLines (top_lines n)
unfolding top_lines
top_are n few = lines_more (map virtual_node_line (numbers 1 n)) (map virtual_link_line (numbers 1 (n - 1))) (lines_map virtual_node_line 1 n (λ k lt. virtual_node_is k (omega arith))) (lines_map virtual_link_line 1 (n - 1) (λ k lt. virtual_link_is k (omega arith)))

pub top_count : (n : ℕ) → 0 < n → length (top_lines n) ≡ 2 * n - 1
unfolding top_lines
top_count n some =
    length-append (map virtual_node_line (numbers 1 n)) (map virtual_link_line (numbers 1 (n - 1))) ∙ omega (arith, count_map virtual_node_line 1 n, count_map virtual_link_line 1 (n - 1))

create_is : (k n : ℕ) → k < 100000 → n < 100000 → IsLine (create_line k n)
create_is k n first second =
    line_of_parts 36 _ (omega arith) (with_number 30 _ (2 * n - 1) (with_word 20 _ (codes " ") 10 (with_number 14 _ k (word (codes "create-top E") 14 refl (omega arith)) (omega arith)) refl (omega arith)) (omega arith))

swapin_is : (k : ℕ) → k < 100000 → IsLine (swapin_line k)
swapin_is k lt =
    line_of_parts 36 _ (omega arith) (with_number 30 _ k (with_word 20 _ (codes " ") 10 (with_number 14 _ k (word (codes "swapin E") 14 refl (omega arith)) (omega arith)) refl (omega arith)) (omega arith))

swapout_is : (k : ℕ) → k < 100000 → IsLine (swapout_line k)
swapout_is k lt = line_of_parts 20 _ (omega arith) (with_number 14 _ k (word (codes "swapout E") 14 refl (omega arith)) (omega arith))

swapouts_are : (k : ℕ) → k < 100000 → AreLines (swapout_lines k)
swapouts_are k lt = by (nat_le 3 k)
  where
    by : (b : Bool) → AreLines (if b then swapout_line (k - 2) ∷ [] else [])
    by true = (swapout_is (k - 2) (omega arith), tt)
    by false = tt

swapouts_few : (k : ℕ) → length (swapout_lines k) ≤ 1
swapouts_few k = by (nat_le 3 k)
  where
    by : (b : Bool) → length (if b then swapout_line (k - 2) ∷ [] else []) ≤ 1
    by true = omega arith
    by false = omega arith

experiment_are : (k n : ℕ) → k < 100000 → n < 100000 → AreLines (experiment_lines k n)
unfolding experiment_lines
experiment_are k n lt few = lines_more (create_line k n ∷ top_lines n) (swapin_line k ∷ swapout_lines k) (create_is k n lt few, top_are n few) (swapin_is k lt, swapouts_are k lt)

experiment_few : (k n : ℕ) → 0 < n → n ≤ 6 → length (experiment_lines k n) ≤ 20
unfolding experiment_lines
experiment_few k n some few = omega (arith, length-append (create_line k n ∷ top_lines n) (swapin_line k ∷ swapout_lines k), top_count n some, swapouts_few k)

-- THE LINES OF THE SCRIPT
pub generated_are : (seed : ℕ) → AreLines (generated_lines seed)
unfolding generated_lines
generated_are seed =
    let first : AreLines (codes "ptop 328" ∷ []) = (word (codes "ptop 328") 100 refl (omega arith), tt) in
    let last : AreLines (codes "status" ∷ []) = (word (codes "status") 100 refl (omega arith), tt) in
    let all : AreLines (flat_map (drawn_lines seed) (numbers 1 40)) = lines_each (drawn_lines seed) 1 40 (λ k lt. experiment_are k (virtual_nodes seed k) (omega arith) (omega arith)) in
    let a = codes "ptop 328" ∷ lab_lines in
    let b = a ++ flat_map (drawn_lines seed) (numbers 1 40) in
    lines_more b (codes "status" ∷ []) (lines_more a (flat_map (drawn_lines seed) (numbers 1 40)) (lines_more (codes "ptop 328" ∷ []) lab_lines first lab_are) all) last

generated_few : (seed : ℕ) → length (generated_lines seed) ≤ 2000
unfolding generated_lines
generated_few seed =
    let first = codes "ptop 328" ∷ [] in
    let last = codes "status" ∷ [] in
    let experiments = flat_map (drawn_lines seed) (numbers 1 40) in
    let all : length experiments ≤ 40 * 20 = count_each (drawn_lines seed) 1 40 20 (λ k lt. experiment_few k (virtual_nodes seed k) (omega arith) (omega arith)) in
    let a : length (first ++ lab_lines) ≡ 329 = length-append first lab_lines ∙ omega (arith, lab_count) in
    let b : length (first ++ lab_lines ++ experiments) ≤ 1200 = omega (arith, length-append (first ++ lab_lines) experiments, a, all) in
    omega (arith, length-append (first ++ lab_lines ++ experiments) last, b)

-- THE SCRIPT is short
pub generated_short : (seed : ℕ) → length (generated seed) < 2 ^ 32
generated_short seed = omega (arith, text_short (generated_lines seed) (generated_are seed), generated_few seed)
