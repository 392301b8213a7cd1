-- Where machines stand, who holds them, and what is free.
use Rattle.std.specs.Prelude.{ℕ, Bool, false, ◌==◌, ◌&&◌, nat_le, is_none, List, [], count_by, find, slice_get, Option, Some, None}
use Rattle.std.specs.List.{list_all}
use Rattle.lab_view.specs.declared.view.View.{View}
use Rattle.lab_view.specs.declared.view.Machine.{Machine}
use Rattle.lab_view.specs.declared.view.Exp.{Exp}
use Rattle.lab_view.specs.declared.view.Seat.{Seat}

-- how often a number stands in a list, and whether none stands there more often
abbrev pub times : ℕ → List ℕ → ℕ
times n ns = count_by (λ m. m == n) ns

abbrev pub is_most : List ℕ → ℕ → Bool
is_most ns n = list_all (λ m. nat_le (times m ns) (times n ns)) ns

-- THE SWITCH THAT A MACHINE STANDS UNDER: the first one with the most of its interfaces
abbrev pub home_of : Machine → Option ℕ
home_of m = find (is_most m.plugs) m.plugs

-- the number is this one
abbrev pub is_number : ℕ → Option ℕ → Bool
is_number n None = false
is_number n (Some m) = m == n

-- the machine stands under that switch; it stands under none; nobody holds it
abbrev pub is_under : ℕ → Machine → Bool
is_under switch m = is_number switch (home_of m)

abbrev pub is_lone : Machine → Bool
is_lone m = is_none (home_of m)

abbrev pub is_unheld : Machine → Bool
is_unheld m = is_none m.seat

abbrev pub is_free_under : ℕ → Machine → Bool
is_free_under switch m = is_under switch m && is_unheld m

-- the experiment of that number holds the machine
abbrev pub is_seat_of : ℕ → Option Seat → Bool
is_seat_of exp None = false
is_seat_of exp (Some s) = s.exp == exp

abbrev pub is_held_by : ℕ → Machine → Bool
is_held_by exp m = is_seat_of exp m.seat

-- HOW MANY machines are free, stand under a switch, and are free under it; and how many VLAN ids are free
abbrev pub free_machines : View → ℕ
free_machines v = count_by is_unheld v.machines

abbrev pub count_under : View → ℕ → ℕ
count_under v switch = count_by (is_under switch) v.machines

abbrev pub free_under : View → ℕ → ℕ
free_under v switch = count_by (is_free_under switch) v.machines

abbrev pub free_ids : View → ℕ
free_ids v = count_by is_none v.owners

-- the names of a switch and of an experiment, by their numbers
abbrev pub name_of_switch : Option (List ℕ) → List ℕ
name_of_switch None = []
name_of_switch (Some name) = name

abbrev pub switch_name : View → ℕ → List ℕ
switch_name v switch = name_of_switch (slice_get v.switches switch)

abbrev pub name_of_exp : Option Exp → List ℕ
name_of_exp None = []
name_of_exp (Some e) = e.name

abbrev pub exp_name : View → ℕ → List ℕ
exp_name v exp = name_of_exp (slice_get v.experiments exp)
