use Rattle.std.proofs.Common.{sym, subst}
use Rattle.lab_state.specs.Texts.{the_texts}
use Rattle.swap_turns.specs.Beginning.{settling}
use Rattle.recovery.specs.One.{CanEndBy, EndsBy}
use Rattle.recovery.proofs.Settling.{way_of, can_end_by, over_as}
use Rattle.recovery.proofs.one.turned_to_end.Goals as goal

pub finish-finished-requires : goal.finish-finished-requires
finish-finished-requires g c =
    let m = c.requires.moves in
    record {
      swaps = record {
        texts = the_texts;
        lab = c.args.state.now.state;
        swap = settling m.swap;
        before = _;
        first = _;
        way = way_of the_texts c.args.state.now.state _ c.args.journal.now m.swap _ c.requires.work m.moves (c.in_ok-live.ensures m.swap m.name m.moves);
      };
    }

pub end_move-requires : goal.end_move-requires
end_move-requires g c =
    let m = c.requires.moves in
    subst (λ end. CanEndBy c.args.state.now.state c.args.exp end) (sym c.ended.ensures)
    (can_end_by the_texts c.args.state.now.state c.args.exp m.swap m.name _ _ c.args.journal.now c.finish-finished.new.journal c.requires.work.sane m.moves c.finish-finished.result
    (c.finish-finished.ensures.ends the_texts c.args.state.now.state (settling m.swap) _ _ (way_of the_texts c.args.state.now.state _ c.args.journal.now m.swap _ c.requires.work m.moves (c.in_ok-live.ensures m.swap m.name m.moves))))

pub returns-clause-over : goal.returns-clause-over
returns-clause-over g c = λ p name moves.
    over_as the_texts c.args.state.now.state c.args.exp p name _ _ c.args.journal.now c.finish-finished.new.journal c.end_move.new.state.state c.finish-finished.result
    (c.finish-finished.ensures.ends the_texts c.args.state.now.state (settling p) _ _ (way_of the_texts c.args.state.now.state _ c.args.journal.now p _ c.requires.work moves (c.in_ok-live.ensures p name moves))) (subst (λ end. EndsBy c.args.state.now.state c.args.exp end c.end_move.new.state.state) c.ended.ensures c.end_move.ensures)
