-- The forms of commands and lists.
use Rattle.std.specs.Prelude.{ℕ, ◌+◌, ◌==◌, ◌≤◌, Bool, ◌&&◌, ◌||◌, not, List, [], ◌∷◌, ◌++◌, Option, Some, None, Result, Ok, Err, codes, length, drop, nat_eq, nat_lt, if◌then◌else◌}
use Rattle.std.specs.List.{list_all, prefix_len}
use Rattle.std.specs.Cmp.Lexicographic.{pointwise}
use Rattle.lab_base.specs.declared.fault.Kind.{Kind}
use Rattle.lab_base.specs.declared.fault.Kind.TheVariants as kinds
use Rattle.tcl_eval.specs.declared.commands.Own.{Own}
use Rattle.tcl_eval.specs.declared.commands.Own.TheVariants as owns

-- a value has no more bytes than are allowed
abbrev pub IsShort : List ℕ → Type 0
IsShort value = length value ≤ 65536

-- two texts are one
abbrev pub is_text : List ℕ → List ℕ → Bool
is_text a b = pointwise nat_eq a b

-- the command of a name
abbrev pub own_of : List ℕ → Option Own
own_of name =
    if is_text name (codes "set") then Some owns.Set else (if is_text name (codes "incr") then Some owns.Incr
    else (if is_text name (codes "append") then Some owns.Append else (if is_text name (codes "lappend") then Some owns.Lappend
    else (if is_text name (codes "expr") then Some owns.Expr else (if is_text name (codes "if") then Some owns.If
    else (if is_text name (codes "for") then Some owns.For else (if is_text name (codes "foreach") then Some owns.Foreach else None)))))))

-- the command that words begin with
abbrev pub own : List (List ℕ) → Option Own
own [] = None
own (name ∷ words) = own_of name

-- a condition, if there is one, and a body
abbrev pub Branching : Type 0
Branching = Option (List ℕ) × List ℕ

-- a branch before the others
abbrev pub with_branch : Branching → Option (List Branching) → Option (List Branching)
with_branch b None = None
with_branch b (Some bs) = Some (b ∷ bs)

-- the branches after the first: `elseif` with a condition and a body, and at the end perhaps `else` with a body
abbrev pub more_branches : List (List ℕ) → Option (List Branching)
more_branches [] = Some []
more_branches (k ∷ []) = None
more_branches (k ∷ b ∷ []) = if is_text k (codes "else") then Some ((None, b) ∷ []) else None
more_branches (k ∷ c ∷ b ∷ rest) = if is_text k (codes "elseif") then with_branch (Some c, b) (more_branches rest) else None

-- the branches of an `if`
abbrev pub branches_of : List (List ℕ) → Option (List Branching)
branches_of [] = None
branches_of (i ∷ []) = None
branches_of (i ∷ c ∷ []) = None
branches_of (i ∷ c ∷ b ∷ rest) = with_branch (Some c, b) (more_branches rest)

-- each word after this
abbrev pub after_each : List ℕ → List (List ℕ) → List ℕ
after_each between [] = []
after_each between (w ∷ ws) = between ++ w ++ after_each between ws

-- words joined by this
abbrev pub joined_by : List ℕ → List (List ℕ) → List ℕ
joined_by between [] = []
joined_by between (w ∷ ws) = w ++ after_each between ws

-- a byte between the elements of a list
abbrev pub is_between : ℕ → Bool
is_between b = (b == 32) || ((b == 9) || (b == 10))

-- a byte of an element
abbrev pub is_inside : ℕ → Bool
is_inside b = not (is_between b)

-- the first element from a place on
abbrev pub element_from : List ℕ → ℕ → Option (ℕ × ℕ)
element_from xs at =
    let start = at + prefix_len is_between (drop at xs) in
    let end = start + prefix_len is_inside (drop start xs) in
    if nat_lt start end then Some (start, end) else None

-- a byte that no element may have
abbrev pub is_special : ℕ → Bool
is_special b = (b == 32) || ((b == 9) || ((b == 123) || ((b == 125) || ((b == 34) || ((b == 91) || ((b == 93) || ((b == 36) || ((b == 59) || (b == 92)))))))))

abbrev pub is_plain : ℕ → Bool
is_plain b = not (is_special b)

-- what `lappend` takes
abbrev pub is_element : List ℕ → Bool
is_element word = nat_lt 0 (length word) && list_all is_plain word

-- a word put into a list after a blank, or without the blank where the list is empty
abbrev pub with_element : List ℕ → List ℕ → Result (List ℕ) Kind
with_element list word =
    if is_element word then
    (let more = if nat_lt 0 (length list) then list ++ 32 ∷ word else word in if nat_lt 65536 (length more) then Err kinds.Long else Ok more)
    else Err kinds.List

-- words put into a list one after another, up to the first fault
abbrev pub listed_on : Result (List ℕ) Kind → List (List ℕ) → Result (List ℕ) Kind
listed_on list [] = list
listed_on (Err k) (w ∷ ws) = Err k
listed_on (Ok list) (w ∷ ws) = listed_on (with_element list w) ws

abbrev pub listed : List ℕ → List (List ℕ) → Result (List ℕ) Kind
listed list words = listed_on (Ok list) words
