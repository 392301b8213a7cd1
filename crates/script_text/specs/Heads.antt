-- The first line of a command.
use Rattle.std.specs.Prelude.{ℕ, zero, suc, Bool, true, false, List, [], ◌∷◌, codes, Option, Some, None, if◌then◌else◌}
use Rattle.std.specs.Option.{option_map, option_and_then}
use Rattle.std.specs.Str.{bytes_eq}
use Rattle.lab_base.specs.Names.{is_name}
use Rattle.lab_base.specs.Numbers.{number_of}
use Rattle.lab_base.specs.Texts.{fields_of, is_skipped}
use Rattle.script_text.specs.declared.command.Command.{Command}
use Rattle.script_text.specs.declared.command.Command.TheVariants as commands
use Rattle.script_text.specs.declared.heads.OneBlock.{OneBlock}
use Rattle.script_text.specs.declared.heads.OneBlock.TheVariants.{Ptop, Create, CreateTop, SwapinWith, Modify, Play, Batch}
use Rattle.script_text.specs.declared.heads.TwoBlocks.{TwoBlocks}
use Rattle.script_text.specs.declared.heads.TwoBlocks.TheVariants.{ModifyWith}
use Rattle.script_text.specs.declared.heads.Head.{Head}
use Rattle.script_text.specs.declared.heads.Head.TheVariants.{Whole, Block, Blocks}
use Rattle.plant.specs.declared.drill.How.{How}
use Rattle.plant.specs.declared.drill.How.TheVariants.{Applied, Not, Hang, Jump, Read}
use Rattle.plant.specs.declared.drill.Pick.{Pick}
use Rattle.plant.specs.declared.drill.Pick.TheVariants.{Nothing, All, Torn}
use Rattle.script_text.specs.declared.heads.Said.{Said}
use Rattle.script_text.specs.declared.heads.Said.TheVariants.{Skipped, Unknown, Begins}

-- the command that a block of so many lines completes
abbrev pub completed : OneBlock → ℕ → List ℕ → Command
completed Ptop k text = commands.Ptop k text
completed (Create exp) k text = commands.Create exp k text
completed (CreateTop exp) k text = commands.CreateTop exp k text
completed (SwapinWith only exp) k text = commands.SwapinWith only exp k text
completed (Modify only exp seed) k text = commands.Modify only exp seed k text
completed (Play exp from to) k text = commands.Play exp from to k text
completed (Batch moment) k text = commands.Batch moment k text

-- the command that two blocks complete
abbrev pub both_completed : TwoBlocks → ℕ → List ℕ → ℕ → List ℕ → Command
both_completed (ModifyWith only exp) k text m other = commands.ModifyWith only exp k text m other

-- the number of lines of a block
abbrev pub counted : List ℕ → Option ℕ
counted field = number_of 16384 field

-- a name
abbrev pub named : List ℕ → Option (List ℕ)
named field = if is_name field then Some field else None

-- a seed of a search
abbrev pub seed_of : List ℕ → Option ℕ
seed_of field = number_of 18446744073709551615 field

-- what the fields after a word are: none, a name, a number of lines, a name and one or two numbers of lines, or a name
-- and a seed, alone or with a number of lines
abbrev pub no_field : List (List ℕ) → Option (Unit {0})
no_field [] = Some tt
no_field fields = None

abbrev pub only_name : List (List ℕ) → Option (List ℕ)
only_name (exp ∷ []) = named exp
only_name fields = None

abbrev pub only_count : List (List ℕ) → Option ℕ
only_count (lines ∷ []) = counted lines
only_count fields = None

abbrev pub name_and_count : List (List ℕ) → Option (List ℕ × ℕ)
name_and_count (exp ∷ lines ∷ []) = option_and_then (λ name. option_map (λ k. (name, k)) (counted lines)) (named exp)
name_and_count fields = None

abbrev pub name_and_counts : List (List ℕ) → Option (List ℕ × ℕ × ℕ)
name_and_counts (exp ∷ first ∷ second ∷ []) = option_and_then (λ name. option_and_then (λ k. option_map (λ m. (name, k, m)) (counted second)) (counted first)) (named exp)
name_and_counts fields = None

abbrev pub name_and_seed : List (List ℕ) → Option (List ℕ × ℕ)
name_and_seed (exp ∷ seed ∷ []) = option_and_then (λ name. option_map (λ s. (name, s)) (seed_of seed)) (named exp)
name_and_seed fields = None

abbrev pub name_seed_and_count : List (List ℕ) → Option (List ℕ × ℕ × ℕ)
name_seed_and_count (exp ∷ seed ∷ lines ∷ []) = option_and_then (λ name. option_and_then (λ s. option_map (λ k. (name, s, k)) (counted lines)) (seed_of seed)) (named exp)
name_seed_and_count fields = None

-- a moment, alone or with a number of lines; and a name, a span of two moments and a number of lines
abbrev pub moment_of : List ℕ → Option ℕ
moment_of field = number_of 1000000000000 field

abbrev pub moment_and_count : List (List ℕ) → Option (ℕ × ℕ)
moment_and_count (moment ∷ lines ∷ []) = option_and_then (λ t. option_map (λ k. (t, k)) (counted lines)) (moment_of moment)
moment_and_count fields = None

abbrev pub name_span_and_count : List (List ℕ) → Option (List ℕ × ℕ × ℕ × ℕ)
name_span_and_count (exp ∷ from ∷ to ∷ lines ∷ []) =
    option_and_then (λ name. option_and_then (λ a. option_and_then (λ b. option_map (λ k. (name, a, b, k)) (counted lines)) (moment_of to)) (moment_of from)) (named exp)
name_span_and_count fields = None

-- how a device fails, what a stop leaves, and which call a drill is for, from 1
abbrev pub how_of : List ℕ → Option How
how_of field =
    if bytes_eq field (codes "applied") then Some Applied
    else if bytes_eq field (codes "not") then Some Not
    else if bytes_eq field (codes "hang") then Some Hang
    else if bytes_eq field (codes "jump") then Some Jump
    else if bytes_eq field (codes "read") then Some Read
    else None

abbrev pub pick_of : List ℕ → Option Pick
pick_of field =
    if bytes_eq field (codes "none") then Some Nothing
    else if bytes_eq field (codes "all") then Some All
    else if bytes_eq field (codes "torn") then Some Torn
    else None

abbrev pub from_one : ℕ → Option ℕ
from_one zero = None
from_one (suc n) = Some (suc n)

abbrev pub nth_of : List ℕ → Option ℕ
nth_of field = option_and_then from_one (number_of 1000000 field)

-- a failure: of the disk by two fields, of a device by three
abbrev pub with_how : List ℕ → ℕ → Option How → Option Head
with_how device nth how = option_map (λ h. Whole (commands.Fail device nth h)) how

abbrev pub fail_head : List (List ℕ) → Option Head
fail_head (disk ∷ nth ∷ []) = if bytes_eq disk (codes "disk") then option_map (λ n. Whole (commands.FailDisk n)) (nth_of nth) else None
fail_head (device ∷ nth ∷ how ∷ []) = option_and_then (λ name. option_and_then (λ n. with_how name n (how_of how)) (nth_of nth)) (named device)
fail_head fields = None

-- a stop
abbrev pub stop_head : List (List ℕ) → Option Head
stop_head (nth ∷ pick ∷ []) = option_and_then (λ n. option_map (λ p. Whole (commands.Stop n p)) (pick_of pick)) (nth_of nth)
stop_head fields = None

-- A SWAP BY ITS WORD and the fields after it: whether it is opened only, is said before
abbrev pub swap_by : Bool → List ℕ → List (List ℕ) → Option Head
swap_by only word fields =
    if bytes_eq word (codes "swapin") then option_map (λ given. Whole (commands.Swapin only given.0 given.1)) (name_and_seed fields)
    else if bytes_eq word (codes "swapin-with") then option_map (λ given. Block (SwapinWith only given.0) given.1) (name_and_count fields)
    else if bytes_eq word (codes "modify") then option_map (λ given. Block (Modify only given.0 given.1) given.2) (name_seed_and_count fields)
    else if bytes_eq word (codes "modify-with") then option_map (λ given. Blocks (ModifyWith only given.0) given.1 given.2) (name_and_counts fields)
    else if bytes_eq word (codes "swapout") then option_map (λ exp. Whole (commands.Swapout only exp)) (only_name fields)
    else None

abbrev pub opened_by : List (List ℕ) → Option Head
opened_by [] = None
opened_by (word ∷ fields) = swap_by true word fields

-- A COMMAND BY ITS WORD and the fields after it
abbrev pub head_by : List ℕ → List (List ℕ) → Option Head
head_by word fields =
    if bytes_eq word (codes "ptop") then option_map (λ k. Block Ptop k) (only_count fields)
    else if bytes_eq word (codes "create") then option_map (λ given. Block (Create given.0) given.1) (name_and_count fields)
    else if bytes_eq word (codes "create-top") then option_map (λ given. Block (CreateTop given.0) given.1) (name_and_count fields)
    else if bytes_eq word (codes "show") then option_map (λ exp. Whole (commands.Show exp)) (only_name fields)
    else if bytes_eq word (codes "solve") then option_map (λ given. Whole (commands.Solve given.0 given.1)) (name_and_seed fields)
    else if bytes_eq word (codes "open") then opened_by fields
    else if bytes_eq word (codes "turn") then option_map (λ exp. Whole (commands.Turn exp)) (only_name fields)
    else if bytes_eq word (codes "finish") then option_map (λ exp. Whole (commands.Finish exp)) (only_name fields)
    else if bytes_eq word (codes "delete") then option_map (λ exp. Whole (commands.Delete exp)) (only_name fields)
    else if bytes_eq word (codes "recover") then option_map (λ none. Whole commands.Recover) (no_field fields)
    else if bytes_eq word (codes "status") then option_map (λ none. Whole commands.Status) (no_field fields)
    else if bytes_eq word (codes "audit") then option_map (λ none. Whole commands.Audit) (no_field fields)
    else if bytes_eq word (codes "batch") then option_map (λ given. Block (Batch given.0) given.1) (moment_and_count fields)
    else if bytes_eq word (codes "play") then option_map (λ given. Block (Play given.0 given.1 given.2) given.3) (name_span_and_count fields)
    else if bytes_eq word (codes "fail") then fail_head fields
    else if bytes_eq word (codes "stop") then stop_head fields
    else swap_by false word fields

abbrev pub head_of : List (List ℕ) → Option Head
head_of [] = None
head_of (word ∷ fields) = head_by word fields

-- what a line says where a command may begin
abbrev pub begins : Option Head → Said
begins None = Unknown
begins (Some head) = Begins head

abbrev pub said_of : List ℕ → Said
said_of line = if is_skipped (fields_of line) then Skipped else begins (head_of (fields_of line))
