use Rattle.std.proofs.Common.{◌≡◌, length, take, nat_lt}
use Rattle.std.specs.List.{list_any}
use Rattle.lab_view.specs.Views.{is_lone}
use Rattle.lab_layout.proofs.rows.Rows.new.Given as goal

abbrev pub invariant-loop-number : goal.invariant-loop-number
invariant-loop-number l = nat_lt 0 (length l.rows.lone.items) ≡ list_any is_lone (take l.number l.view.machines)
