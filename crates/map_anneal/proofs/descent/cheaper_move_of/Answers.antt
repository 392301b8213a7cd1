use Rattle.std.proofs.Common.{◌≡◌, ◌<◌, ◌+◌, ◌∙◌, inl, inr, ℕ, length, refl, subst, sym, arith}
use Rattle.std.proofs.lemmas.Bool.{cases_lt}
use Rattle.map_anneal.specs.Sought.{moved, price, IsNoCheaper}
use Rattle.map_anneal.specs.Searches.{sought_of}
use Rattle.map_anneal.specs.RuledOut.{IsRow}
use Rattle.map_anneal.proofs.RowLaws.{row_noted}
use Rattle.map_anneal.proofs.TriedMoves.{candidate_at, known_no_cheaper, no_move, tried_no_cheaper, tried_no_less}
use Rattle.map_anneal.proofs.Upward.{below_next}
use Rattle.map_anneal.proofs.descent.cheaper_move_of.Goals as goal

pub loop-number-init : goal.loop-number-init
loop-number-init g c =
    let s = sought_of c.args.search.now c.args.rule.now.number in
    let m = c.args.at.now.state.mapping in
    let v = c.args.node in
    let row = c.args.row.now in
    let found = c.unknown_from-number.ensures in
    record {
      tried = c.requires.at;
      same = refl;
      cost = refl;
      row = c.requires.row;
      none = λ k below. known_no_cheaper s m v k row c.requires.row (omega (arith, below, found.within)) (found.known k (omega arith) below);
    }

pub loop-number-preserved : goal.loop-number-preserved
loop-number-preserved g c =
    let s = sought_of c.args.search.now c.args.rule.now.number in
    let m = c.args.at.now.state.mapping in
    let v = c.args.node in
    let n = c.loop-number.number in
    let was = c.loop-number.invariant in
    let done = c.in_ok-move_if_cheaper.ensures in
    let last = c.loop-number.at.state.mapping in
    let lt : n < length c.loop-number.row = omega (arith, c.loop-number-test.true, c.len.ensures) in
    let over : ◌≡◌ {A = ℕ} c.from-below.result (price s m) = c.from-below.ensures ∙ c.requires.at.cost in
    let row : IsRow s m v c.note.new.self = subst (IsRow s m v) (sym c.note.ensures)
    (row_noted s m v n c.loop-number.row c.move_if_cheaper.new.self.ruled_out was.row lt (λ noted. tried_no_less s m last v n c.from-below.result was.same over (done.ruled_out c.if-branch.false noted))) in
    let found = c.unknown_from-number-in-loop-number.ensures in
    let Done : ℕ → Type 0 = λ k. IsNoCheaper s m (moved s m v (candidate_at s v k)) in
    record {
      tried = done.tried;
      same = done.same c.if-branch.false ∙ was.same;
      cost = done.same_cost c.if-branch.false ∙ was.cost;
      row = row;
      none = λ k below. elim (cases_lt k (n + 1)) [
        | inl tried ↦ below_next Done n was.none (tried_no_cheaper s m last v n c.from-below.result was.same over (done.over c.if-branch.false)) k tried
        | inr later ↦ known_no_cheaper s m v k c.note.new.self row (omega (arith, below, found.within)) (found.known k later below)
      ];
    }

pub returns-clause-none : goal.returns-clause-none
returns-clause-none g c = λ is.
    let s = sought_of c.args.search.now c.args.rule.now.number in
    let v = c.args.node in
    let was = c.loop-number.invariant in
    let count = was.row.one_each in
    no_move s c.args.at.now.state.mapping v (λ k less. was.none k (omega (arith, less, count, c.loop-number-test.false, c.len.ensures)))
