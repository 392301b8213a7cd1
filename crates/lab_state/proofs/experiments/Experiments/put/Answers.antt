use Rattle.std.proofs.Common.{◌≡◌, None, refl, sym, subst, ap, ◌∙◌}
use Rattle.std.specs.Str.{bytes_eq}
use Rattle.std.specs.Map.{lookup}
use Rattle.indexmap.specs.IndexMap.{insert_entry}
use Rattle.lab_state.specs.Experiments.{experiments_of, AtNames}
use Rattle.lab_state.proofs.Named.{find_is, put_is, at_put, on_no_err, none_some}
use Rattle.lab_state.proofs.experiments.Experiments.put.Goals as goal

pub invariant_of-self : goal.invariant_of-self
invariant_of-self c =
    let table = c.self.inside.table in
    let f = c.args.experiment in
    let found = rw (← c.self.view_is) at c.requires.1 in
    let there = none_some (lookup (bytes_eq f.name) table.entries) c.requires.0 (sym (find_is f.name table.entries c.self.invariant) ∙ found) in
    let put = on_no_err (c.insert.new.self.entries ≡ insert_entry bytes_eq table.entries f.name f) (lookup (bytes_eq f.name) table.entries ≡ None) c.insert.result there c.insert.ensures.absent c.insert.ensures.entries in
    subst AtNames (sym put) (at_put f.name f table.entries c.self.invariant refl)

pub returns : goal.returns
returns c =
    let table = c.self.inside.table in
    let f = c.args.experiment in
    let found = rw (← c.self.view_is) at c.requires.1 in
    let there = none_some (lookup (bytes_eq f.name) table.entries) c.requires.0 (sym (find_is f.name table.entries c.self.invariant) ∙ found) in
    let put = on_no_err (c.insert.new.self.entries ≡ insert_entry bytes_eq table.entries f.name f) (lookup (bytes_eq f.name) table.entries ≡ None) c.insert.result there c.insert.ensures.absent c.insert.ensures.entries in
    rw (← c.self.view_is) (ap experiments_of put ∙ put_is f.name f table.entries c.requires.0 c.self.invariant found)
