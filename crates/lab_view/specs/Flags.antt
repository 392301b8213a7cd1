-- The flags of experiments.
use Rattle.std.specs.Prelude.{ℕ, zero, suc, ◌+◌, ◌*◌, ◌/◌, ◌%◌, min, Bool, nat_le, List, length, map, position, slice_get, if◌then◌else◌, Option, Some, None}
use Rattle.std.specs.List.{range_with_len}
use Rattle.lab_view.specs.declared.view.View.{View}
use Rattle.lab_view.specs.declared.view.Machine.{Machine}
use Rattle.lab_view.specs.declared.view.Seat.{Seat}
use Rattle.lab_view.specs.declared.flags.Flag.{Flag}
use Rattle.lab_view.specs.declared.flags.TheConstants.{TINTS}
use Rattle.lab_view.specs.Views.{is_number, is_held_by}

-- the tint, the bar's colour and the bar's form of the machine of that number
abbrev pub tint_of : ℕ → ℕ
tint_of n = (n % 8 + n / 8 % 8 + n / 64 % 16) % 8

abbrev pub bar_of : ℕ → ℕ
bar_of n = (n % 8 + 2 * (n / 8 % 8)) % 8

abbrev pub form_of : ℕ → ℕ
form_of n = n / 64 % 16

abbrev pub flag_of : ℕ → Flag
flag_of n = record { tint = tint_of n; bar = bar_of n; form = form_of n }

-- the machine of that number is the first one that its holder holds
abbrev pub first_in : View → Option Seat → Option ℕ
first_in v None = None
first_in v (Some s) = position (is_held_by s.exp) v.machines

abbrev pub seat_in : Option Machine → Option Seat
seat_in None = None
seat_in (Some m) = m.seat

abbrev pub is_first : View → ℕ → Bool
is_first v n = is_number n (first_in v (seat_in (slice_get v.machines n)))

-- how many experiments have their first machine before that one; and whether the experiments that hold machines are so few that each has a tint
abbrev pub firsts_before : View → ℕ → ℕ
firsts_before v zero = 0
firsts_before v (suc n) = firsts_before v n + (if is_first v n then 1 else 0)

abbrev pub are_few : View → Bool
are_few v = nat_le (min (firsts_before v (length v.machines)) (TINTS + 1)) TINTS

-- THE TINT by an experiment's first machine: while they are few its number among those that hold machines
abbrev pub tint_in : View → ℕ → ℕ
tint_in v n = if are_few v then min (firsts_before v n) (TINTS + 1) else tint_of n

abbrev pub tints_of : View → List ℕ
tints_of v = map (tint_in v) (range_with_len 0 (length v.machines))

abbrev pub flag_in : View → Option ℕ → Option Flag
flag_in v None = None
flag_in v (Some n) = Some (record { tint = tint_in v n; bar = bar_of n; form = form_of n })

-- THE FLAG OF AN EXPERIMENT: by the first machine that it holds, None where it holds none
abbrev pub flag_of_exp : View → ℕ → Option Flag
flag_of_exp v exp = flag_in v (position (is_held_by exp) v.machines)

-- its bar alone, with the bar's form
abbrev pub bar_in : Option ℕ → Option (ℕ × ℕ)
bar_in None = None
bar_in (Some n) = Some (bar_of n, form_of n)

abbrev pub bar_of_exp : View → ℕ → Option (ℕ × ℕ)
bar_of_exp v exp = bar_in (position (is_held_by exp) v.machines)
