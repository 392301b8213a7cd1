use Rattle.std.proofs.Common.{ℕ, List, map, sym, subst}
use Rattle.std.specs.Prelude.{◌↔◌}
use Rattle.lab_base.specs.declared.ids.VlanId.{VlanId}
use Rattle.lab_base.specs.Lists.{Has}
use Rattle.lab_base.proofs.Tests.{some_weaker}
use Rattle.plant.specs.Told.{Told}
use Rattle.plant.specs.Worlds.{world_of}
use Rattle.plant.specs.Readings.{IsEntry, entry_of}
use Rattle.lab_audit.proofs.switch_lines.lines_on.Goals as goal

pub returns-clause-lines : goal.returns-clause-lines
returns-clause-lines g c =
    let a = g.P.Plant.seen c.args.plant.now in
    some_weaker a.told (λ (t : Told). (e : ℕ × ℕ) → Has (map entry_of c.in_ok-found.found) e ↔ IsEntry (world_of t.trace) c.args.switch e) _
    (λ t exact. λ lab es all. c.in_ok-lines.ensures lab es (world_of t.trace) all
    (λ e. subst (λ (l : List (ℕ × VlanId)). Has (map entry_of l) e ↔ IsEntry (world_of t.trace) c.args.switch e) (sym c.as_slice.ensures) (exact e)))
    c.in_ok-found.ensures.exact
