use Rattle.std.proofs.Common.{◌≡◌, ℕ, Bool, false, List, ap, ◌∙◌, arith, if◌then◌else◌}
use Rattle.std.specs.List.{list_any}
use Rattle.std.specs.Prelude.{insert, is_ok}
use Rattle.plant_mem.specs.declared.rows.Row.{Row}
use Rattle.plant_mem.specs.RowTables.{is_same, index_for, placed}
use Rattle.plant_mem.proofs.RowTables.{at_place, place_within}
use Rattle.plant_mem.proofs.row_table.join.Goals as goal

pub insert-requires : goal.insert-requires
insert-requires c =
    let rows = c.args.rows.now.items in
    let at : c.index_for-at.result ≡ index_for c.args.row rows = c.index_for-at.ensures ∙ ap (λ (l : List Row). index_for c.args.row l) c.deref-2.ensures.value in
    omega (arith, at, place_within c.args.row rows, c.args.rows.now.ok.0)

pub returns-clause-items : goal.returns-clause-items
returns-clause-items c =
    let rows = c.args.rows.now.items in
    let row = c.args.row in
    let at : c.index_for-at.result ≡ index_for row rows = c.index_for-at.ensures ∙ ap (λ (l : List Row). index_for row l) c.deref-2.ensures.value in
    let none : false ≡ list_any (is_same row) rows = c.if-has.ensures ∙ ap (λ (l : List Row). list_any (is_same row) l) c.deref.ensures.value in
    c.insert.ensures.items
    ∙ ap (λ (b : Bool). if b then insert rows c.index_for-at.result row else rows) (ap is_ok c.unwrap.ensures)
    ∙ ap (λ (n : ℕ). insert rows n row) at
    ∙ at_place row rows
    ∙ ap (λ (b : Bool). if b then rows else placed row rows) none
