-- Words of objects, and lists.
use Rattle.std.specs.Prelude.{ℕ, ◌==◌, nat_lt, nat_eq, Bool, true, false, not, ◌&&◌, ◌||◌, List, ◌++◌, length, drop, filter, map, codes, decimal, slice_index_or, Option, Some, None, if◌then◌else◌}
use Rattle.std.specs.List.{slice_split, starts_with}
use Rattle.lab_base.specs.Numbers.{number_of}
use Rattle.lab_base.specs.Texts.{is_filled}
use Rattle.lab_base.specs.Names.{same_name}
use Rattle.ns_build.specs.Networks.{Network}

-- THE WORDS OF OBJECTS begin with a colon, which no name has, and have no byte that parts the elements of a list

abbrev pub simulator_word : List ℕ
simulator_word = codes ":ns"

-- a node, and a link or LAN, by its index
abbrev pub node_word : ℕ → List ℕ
node_word index = codes ":n" ++ decimal index

abbrev pub link_word : ℕ → List ℕ
link_word index = codes ":l" ++ decimal index

-- an index below `count` that these digits stand for, as they are printed
abbrev pub index_below : ℕ → List ℕ → Option ℕ → Option ℕ
index_below count digits None = None
index_below count digits (Some index) = if nat_lt index count && same_name digits (decimal index) then Some index else None

-- the index that a word has after such a mark
abbrev pub index_in : List ℕ → ℕ → List ℕ → Option ℕ
index_in mark count word =
    if starts_with nat_eq word mark
    then index_below count (drop (length mark) word) (number_of 65534 (drop (length mark) word))
    else None

-- the index of the node, and of the link or LAN, that a word stands for
abbrev pub node_of : Network → List ℕ → Option ℕ
node_of n word = index_in (codes ":n") (length n.nodes) word

abbrev pub link_of : Network → List ℕ → Option ℕ
link_of n word = index_in (codes ":l") (length n.links) word

-- the same of links alone, or of LANs alone
abbrev pub is_kind : Bool → Bool → Bool
is_kind true lan = lan
is_kind false lan = not lan

abbrev pub kept_kind : Network → Bool → Option ℕ → Option ℕ
kept_kind n lan None = None
kept_kind n lan (Some index) = if is_kind lan (slice_index_or (map (λ l. l.lan) n.links) index false) then Some index else None

abbrev pub link_of_kind : Network → Bool → List ℕ → Option ℕ
link_of_kind n lan word = kept_kind n lan (link_of n word)

-- LISTS

-- the elements of a list stand between blanks and line feeds
abbrev pub is_parting : ℕ → Bool
is_parting byte = byte == 32 || (byte == 9 || byte == 10)

abbrev pub elements_of : List ℕ → List (List ℕ)
elements_of list = filter is_filled (slice_split is_parting list)
