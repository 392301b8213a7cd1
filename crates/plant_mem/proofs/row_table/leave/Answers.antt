use Rattle.std.proofs.Common.{◌≡◌, ◌<◌, ◌≤◌, ℕ, List, length, ap, sym, ◌∙◌, arith}
use Rattle.std.specs.Prelude.{remove}
use Rattle.plant_mem.specs.declared.rows.Row.{Row}
use Rattle.plant_mem.specs.RowTables.{index}
use Rattle.plant_mem.proofs.RowTables.{at_index, not_there}
use Rattle.plant_mem.proofs.row_table.leave.Goals as goal

pub returns-then-at-len-clause-items : goal.returns-then-at-len-clause-items
returns-then-at-len-clause-items c =
    let rows = c.args.rows.now.items in
    let row = c.args.row.now in
    let at : c.index_of-at.result ≡ index row rows = c.index_of-at.ensures ∙ ap (λ (l : List Row). index row l) c.deref.ensures.value in
    let lt : index row rows < length rows = omega (arith, at, c.args.rows.now.ok.0) in
    c.remove-row.ensures.items ∙ ap (λ (n : ℕ). remove rows n) at ∙ at_index row rows lt

pub returns-else-at-len-clause-items : goal.returns-else-at-len-clause-items
returns-else-at-len-clause-items c =
    let rows = c.args.rows.now.items in
    let row = c.args.row.now in
    let at : c.index_of-at.result ≡ index row rows = c.index_of-at.ensures ∙ ap (λ (l : List Row). index row l) c.deref.ensures.value in
    let le : length rows ≤ index row rows = omega (arith, at, c.args.rows.now.ok.0) in
    sym (not_there row rows le)
