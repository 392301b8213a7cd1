use Rattle.std.proofs.Common.{◌≤◌, ℕ, Bool, List, take, rules, sym, ap, subst, ◌∙◌, arith, take-take}
use Rattle.std.specs.Prelude.{IsTrue, vec_len}
use Rattle.journal_disk.proofs.Fronts.{read_on}
use Rattle.journal_disk.proofs.sides.read_to.Goals as goal

pub loop-side-preserved : goal.loop-side-preserved
loop-side-preserved g c =
    let before = c.loop-side.invariant in
    let now = c.in_ok-read_piece.ensures in
    let old = vec_len c.args.bytes.now in
    let le : old ≤ vec_len c.loop-side.bytes = before.longer in
    record {
      within = omega (arith, now.len, c.piece_of-piece.ensures.within);
      longer = omega (arith, now.len);
      front = sym (take-take old (vec_len c.loop-side.bytes) c.read_piece.new.bytes.items le) ∙ ap (λ (l : List ℕ). take old l) now.more ∙ before.front;
      told = search rules;
      read = read_on (g.P.Plant.seen c.args.plant.now).told (g.P.Plant.seen c.loop-side.plant).told c.args.side c.loop-side.bytes.items c.read_piece.new.bytes.items (vec_len c.loop-side.bytes) c.piece_of-piece.result (vec_len c.read_piece.new.bytes) before.told now.len before.read now.read;
      later = search rules;
      devices = search rules;
      stopped = search rules;
    }

pub returns-clause-stopped : goal.returns-clause-stopped
returns-clause-stopped g c = (λ is. absurd (cc is), λ stopped. absurd (c.requires.running (subst (λ (b : Bool). IsTrue b) c.loop-side.invariant.stopped stopped)))
