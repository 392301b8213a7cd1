use Rattle.std.proofs.Common.{◌<◌, ◌∙◌, ◌++◌, ℕ, List, length, Bool, cond, Some, None, All, ap, sym, subst, arith}
use Rattle.lab_base.specs.declared.ids.IfaceId.{IfaceId}
use Rattle.trunk_sums.specs.declared.sums.EndRow.{EndRow}
use Rattle.map_state.specs.Nodes.{is_on, changes_of}
use Rattle.map_state.proofs.StateLaws.{numbers_in, listed_given, listed_count, listed_ordered}
use Rattle.map_state.proofs.give.serve_noted.Goals as goal

pub serve_listed-requires-clause-ordered : goal.serve_listed-requires-clause-ordered
serve_listed-requires-clause-ordered c = listed_ordered c.args.search.now (is_on c.args.places.now c.args.node.0) c.args.listed.now c.requires.search c.requires.listed

pub serve_listed-requires-clause-within : goal.serve_listed-requires-clause-within
serve_listed-requires-clause-within c =
    let es = c.args.search.now.mapper.ends.now in
    subst (λ (l : List ℕ). All (λ (k : ℕ). k < length es) l) (sym c.requires.listed) (numbers_in (is_on c.args.places.now c.args.node.0) es)

pub note-requires-clause-one_each : goal.note-requires-clause-one_each
note-requires-clause-one_each c =
    let x = c.args.search.now in
    let given = listed_given x c.args.places.now (is_on c.args.places.now c.args.node.0) c.args.listed.now _ c.requires.listed (c.in_ok-yes.ensures.given ∙ ap (λ (b : Bool). cond b (Some c.serve_listed.new.given.plugs) None) c.if-not-yes.false) in
    listed_count x c.args.places.now c.args.node.0 c.args.listed.now c.serve_listed.new.given.plugs c.requires.search c.requires.placed c.requires.listed given
    ∙ ap length (sym c.plugs.ensures)

pub note-requires-clause-within : goal.note-requires-clause-within
note-requires-clause-within c = λ k d lt.
    let es = c.args.search.now.mapper.ends.now in
    let less = subst (λ (l : List ℕ). All (λ (j : ℕ). j < length es) l) (sym c.requires.listed) (numbers_in (is_on c.args.places.now c.args.node.0) es) k d lt in
    let ends = ap length c.requires.search.mapper.ends in
    let all = c.requires.search.table.rows.one_each in
    let rows = ap length c.deref.ensures.value in
    omega (arith, less, ends, all, rows)

pub returns-then-not-yes-clause-none : goal.returns-then-not-yes-clause-none
returns-then-not-yes-clause-none c = λ is.
    listed_given c.args.search.now c.args.places.now (is_on c.args.places.now c.args.node.0) c.args.listed.now None c.requires.listed (c.in_ok-yes.ensures.given ∙ ap (λ (b : Bool). cond b (Some c.serve_listed.new.given.plugs) None) c.if-not-yes.true)

pub returns-clause-given : goal.returns-clause-given
returns-clause-given c = λ is.
    let x = c.args.search.now in
    let plugs = c.serve_listed.new.given.plugs in
    let given = listed_given x c.args.places.now (is_on c.args.places.now c.args.node.0) c.args.listed.now _ c.requires.listed (c.in_ok-yes.ensures.given ∙ ap (λ (b : Bool). cond b (Some plugs) None) c.if-not-yes.false) in
    record {
      plugs = plugs;
      given = given;
      noted = c.in_ok-note.ensures
          ∙ ap (λ (l : List EndRow). c.args.changes.now.items ++ changes_of l c.args.listed.now c.plugs.result.now) c.deref.ensures.value
          ∙ ap (λ (l : List IfaceId). c.args.changes.now.items ++ changes_of x.table.now.rows.items c.args.listed.now l) c.plugs.ensures
          ∙ ap (λ (l : List ℕ). c.args.changes.now.items ++ changes_of x.table.now.rows.items l plugs) c.requires.listed;
    }
