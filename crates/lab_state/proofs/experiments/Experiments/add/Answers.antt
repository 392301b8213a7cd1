use Rattle.std.proofs.Common.{◌≡◌, refl, sym, subst, ap, ◌∙◌, arith}
use Rattle.std.specs.Str.{bytes_eq}
use Rattle.indexmap.specs.IndexMap.{insert_entry}
use Rattle.indexmap.proofs.CallerLemmas.{insert_entry-new}
use Rattle.lab_state.specs.Experiments.{experiments_of, AtNames}
use Rattle.lab_state.proofs.Named.{not_found, pushed, at_pushed, on_ok}
use Rattle.lab_state.proofs.experiments.Experiments.add.Goals as goal

pub invariant_of-self : goal.invariant_of-self
invariant_of-self c =
    let table = c.self.inside.table in
    let f = c.args.experiment in
    let none = not_found f.name table.entries c.self.invariant (rw (← c.self.view_is) at c.requires.new) in
    let room = rw (← c.self.view_is) at c.requires.room in
    let inserted = on_ok (c.insert.new.self.entries ≡ insert_entry bytes_eq table.entries f.name f) c.insert.result (c.insert.ensures.succeeds (omega (arith, room))) c.insert.ensures.entries in
    subst AtNames (sym (inserted ∙ insert_entry-new bytes_eq table f.name f none)) (at_pushed table.entries f.name f c.self.invariant refl)

pub returns : goal.returns
returns c =
    let table = c.self.inside.table in
    let f = c.args.experiment in
    let none = not_found f.name table.entries c.self.invariant (rw (← c.self.view_is) at c.requires.new) in
    let room = rw (← c.self.view_is) at c.requires.room in
    let inserted = on_ok (c.insert.new.self.entries ≡ insert_entry bytes_eq table.entries f.name f) c.insert.result (c.insert.ensures.succeeds (omega (arith, room))) c.insert.ensures.entries in
    rw (← c.self.view_is) (ap experiments_of (inserted ∙ insert_entry-new bytes_eq table f.name f none) ∙ pushed table.entries f.name f)
