use Rattle.std.proofs.Common.{List, [], ◌∷◌, ◌++◌, inl, refl, sym, subst, ap, ◌∙◌, arith}
use Rattle.std.specs.Io.KnownBytes.{prepend_known}
use Rattle.lab_io.specs.Passed.{stand_of}
use Rattle.lab_io.specs.Taken.{pending_of}
use Rattle.lab_io.proofs.Known.{prepend_known-nil}
use Rattle.script_text.specs.declared.command.Command.{Command}
use Rattle.lab_top.specs.declared.status.Status.TheVariants.{Done, ReadFault, WriteFault, BadScript, Memory, JournalBad}
use Rattle.lab_top.specs.Pieces.{commands_of}
use Rattle.lab_top.proofs.Commanding.{Covers, covers_none, covers_more, bad_begun, all_begun, cut_begun, wanting_begun, one_read, one_wanting, at_start}
use Rattle.lab_top.proofs.Pieces.{begun_ran, commands-push, going_none, going_ends, going_more, going_cut, going_memory, going_bad}
use Rattle.lab_top.proofs.RepliesTaken.{took_more}
use Rattle.lab_top.proofs.commands.obey_commands.Goals as goal

pub commands-init : goal.commands-init
commands-init g c =
    let n = c.requires.lines in
    let left = g.S.Source.left c.args.source.now in
    let stand = stand_of c.args.run.now.lines left in
    record {
      ready = (n.fault, inl n.ended);
      near = rw n.pending (omega arith);
      going = ([], rw c.requires.closed (going_none _ _ (g.T.ReplyTaker.written c.args.taker.now) refl), λ bytes is. covers_none bytes stand (ap (λ p. prepend_known p left) n.pending ∙ prepend_known-nil left ∙ is) n.ended n.taken n.lines, refl);
      read = omega arith;
      calm = refl;
      write = omega arith;
    }

pub answer_command-requires-clause-goes_on : goal.answer_command-requires-clause-goes_on
answer_command-requires-clause-goes_on g c = let was = c.commands.invariant.going in (_, was.1.goes_on)

pub returns-in-Ok-End-clause-ran : goal.returns-in-Ok-End-clause-ran
returns-in-Ok-End-clause-ran g c =
    let inv = c.commands.invariant in
    let was = inv.going in
    let e = rw c.in-Ok-End.field-0-is at c.in-Ok-End.ensures in
    let now = stand_of c.commands.run.lines (g.S.Source.left c.commands.source) in
    let new = stand_of c.read_command.new.lines (g.S.Source.left c.read_command.new.source) in (
      was.0,
      begun_ran _ _ _ _ _ _ _ Done was.0 (going_ends _ _ _ _ _ was.0 was.1 Done (λ t. tt) (λ runs. runs) (λ all. all) (λ wrote. wrote))
          (λ bytes is. all_begun bytes now (commands_of was.0) (was.2 bytes is) new (e.next inv.ready) (pending_of c.read_command.new.lines) (g.S.Source.left c.read_command.new.source) refl) (λ is. absurd (cc is)),
      λ is. was.3,
    )

pub returns-in-Err-Bad-clause-ran : goal.returns-in-Err-Bad-clause-ran
returns-in-Err-Bad-clause-ran g c =
    let inv = c.commands.invariant in
    let was = inv.going in
    let e = rw c.in-Err-Bad.field-0-is at c.in-Err-Bad.ensures in
    let now = stand_of c.commands.run.lines (g.S.Source.left c.commands.source) in
    let new = stand_of c.read_command.new.lines (g.S.Source.left c.read_command.new.source) in
    let line = c.in-Err-Bad.line in rw c.in-Err-Bad.field-0-is (
      was.0,
      begun_ran _ _ _ _ _ _ _ (BadScript line) was.0 (going_ends _ _ _ _ _ was.0 was.1 (BadScript line) (λ t. tt) (λ runs. runs) (λ all. all) (λ wrote. wrote))
          (λ bytes is. bad_begun bytes now (commands_of was.0) (was.2 bytes is) new (e.no_further inv.ready) (pending_of c.read_command.new.lines) (g.S.Source.left c.read_command.new.source) refl (omega (arith, e.ahead, inv.near)) line (e.bad inv.ready line refl)) (λ is. absurd (cc is)),
      λ is. absurd (cc is),
    )

pub returns-in-Err-ReadFault-clause-ran : goal.returns-in-Err-ReadFault-clause-ran
returns-in-Err-ReadFault-clause-ran g c =
    let inv = c.commands.invariant in
    let was = inv.going in
    let e = rw c.in-Err-ReadFault.field-0-is at c.in-Err-ReadFault.ensures in
    let now = stand_of c.commands.run.lines (g.S.Source.left c.commands.source) in
    let new = stand_of c.read_command.new.lines (g.S.Source.left c.read_command.new.source) in (
      was.0,
      begun_ran _ _ _ _ _ _ _ ReadFault was.0 (going_ends _ _ _ _ _ was.0 was.1 ReadFault (λ t. tt) (λ runs. runs) (λ all. all) (λ wrote. wrote))
          (λ bytes is. cut_begun bytes now (commands_of was.0) (was.2 bytes is) new (e.unfinished inv.ready refl) (pending_of c.read_command.new.lines) (g.S.Source.left c.read_command.new.source) refl (omega (arith, e.ahead, inv.near)) (e.read inv.ready.0 refl).1) (λ is. absurd (cc is)),
      λ is. absurd (cc is),
    )

pub returns-in-Err-Memory-clause-ran : goal.returns-in-Err-Memory-clause-ran
returns-in-Err-Memory-clause-ran g c =
    let inv = c.commands.invariant in
    let was = inv.going in
    let e = rw c.in-Err-Memory.field-0-is at c.in-Err-Memory.ensures in
    let now = stand_of c.commands.run.lines (g.S.Source.left c.commands.source) in
    let new = stand_of c.read_command.new.lines (g.S.Source.left c.read_command.new.source) in (
      was.0,
      begun_ran _ _ _ _ _ _ _ Memory was.0 (going_ends _ _ _ _ _ was.0 was.1 Memory (λ t runs. inl was.1.answered) (λ runs. tt) (λ all. inl all) (λ wrote. wrote))
          (λ bytes is. wanting_begun bytes now (commands_of was.0) (was.2 bytes is) new (e.no_further inv.ready) (pending_of c.read_command.new.lines) (g.S.Source.left c.read_command.new.source) refl (omega (arith, e.ahead, inv.near))) (λ is. absurd (cc is)),
      λ is. absurd (cc is),
    )

pub commands-preserved : goal.commands-preserved
commands-preserved g c =
    let inv = c.commands.invariant in
    let was = inv.going in
    let e = rw c.in-Ok-Command.field-0-is at c.in-Ok-Command.ensures in
    let a = c.in-Ok.ensures in
    let now = stand_of c.commands.run.lines (g.S.Source.left c.commands.source) in
    let new = stand_of c.read_command.new.lines (g.S.Source.left c.read_command.new.source) in
    let command = c.in-Ok-Command.command in
    let read = e.next inv.ready in
    let more = going_more _ _ _ _ _ _ _ was.0 was.1 command _ (a.answered _ was.1.goes_on) in
    record {
      ready = (e.ok, read.1.ends);
      near = omega (arith, e.ahead, inv.near);
      going = (
        was.0 ++ more.0 ∷ [],
        more.2,
        λ bytes is. subst (λ (cs : List Command). Covers (at_start bytes) new cs) (sym (commands-push was.0 more.0 ∙ ap (λ x. commands_of was.0 ++ x ∷ []) more.1)) (covers_more (at_start bytes) now new (commands_of was.0) command (was.2 bytes is) read),
        took_more g.T.ReplyTaker.takes c.args.taker.now c.commands.taker c.answer_command.new.taker was.0 more.0 was.3 more.3,
      );
      read = omega (arith, e.later, inv.read);
      calm = e.calm (λ is. absurd (cc is)) ∙ inv.calm;
      write = omega (arith, a.later, inv.write);
    }

pub returns-in-Err-WriteFault-clause-ran : goal.returns-in-Err-WriteFault-clause-ran
returns-in-Err-WriteFault-clause-ran g c =
    let inv = c.commands.invariant in
    let was = inv.going in
    let e = rw c.in-Ok-Command.field-0-is at c.in-Ok-Command.ensures in
    let a = rw c.in-Err-WriteFault.field-0-is at c.in-Err-WriteFault.ensures in
    let now = stand_of c.commands.run.lines (g.S.Source.left c.commands.source) in
    let new = stand_of c.read_command.new.lines (g.S.Source.left c.read_command.new.source) in
    let cut = going_cut _ _ _ _ _ _ _ was.0 was.1 c.in-Ok-Command.command (λ reply. g.T.ReplyTaker.takes c.commands.taker reply c.answer_command.new.taker) (a.answered _ was.1.goes_on) in
    (cut.0, begun_ran _ _ _ _ _ _ _ WriteFault cut.0 cut.2 (λ bytes is. one_read bytes now new (commands_of was.0) (commands_of cut.0) c.in-Ok-Command.command (was.2 bytes is) (e.next inv.ready) (pending_of c.read_command.new.lines) (g.S.Source.left c.read_command.new.source) refl (omega (arith, e.ahead, inv.near)) cut.1) (λ is. absurd (cc is)), λ is. absurd (cc is))

pub returns-in-Err-Memory-answer_command-clause-ran : goal.returns-in-Err-Memory-answer_command-clause-ran
returns-in-Err-Memory-answer_command-clause-ran g c =
    let inv = c.commands.invariant in
    let was = inv.going in
    let e = rw c.in-Ok-Command.field-0-is at c.in-Ok-Command.ensures in
    let a = rw c.in-Err-Memory-answer_command.field-0-is at c.in-Err-Memory-answer_command.ensures in
    let now = stand_of c.commands.run.lines (g.S.Source.left c.commands.source) in
    let new = stand_of c.read_command.new.lines (g.S.Source.left c.read_command.new.source) in
    let cut = going_memory _ _ _ _ _ _ _ was.0 was.1 c.in-Ok-Command.command (λ reply. g.T.ReplyTaker.takes c.commands.taker reply c.answer_command.new.taker) (a.answered _ was.1.goes_on) in (
      cut.0,
      begun_ran _ _ _ _ _ _ _ Memory cut.0 cut.2
          (λ bytes is. one_wanting bytes now new (commands_of was.0) (commands_of cut.0) c.in-Ok-Command.command (was.2 bytes is) (e.next inv.ready) (pending_of c.read_command.new.lines) (g.S.Source.left c.read_command.new.source) refl (omega (arith, e.ahead, inv.near)) cut.1) (λ is. absurd (cc is)),
      λ is. absurd (cc is),
    )

pub returns-in-Err-JournalBad-clause-ran : goal.returns-in-Err-JournalBad-clause-ran
returns-in-Err-JournalBad-clause-ran g c =
    let inv = c.commands.invariant in
    let was = inv.going in
    let e = rw c.in-Ok-Command.field-0-is at c.in-Ok-Command.ensures in
    let a = rw c.in-Err-JournalBad.field-0-is at c.in-Err-JournalBad.ensures in
    let now = stand_of c.commands.run.lines (g.S.Source.left c.commands.source) in
    let new = stand_of c.read_command.new.lines (g.S.Source.left c.read_command.new.source) in
    let side = c.in-Err-JournalBad.side in
    let at = c.in-Err-JournalBad.at in
    let cut = going_bad _ _ _ _ _ _ _ was.0 was.1 c.in-Ok-Command.command (λ reply. g.T.ReplyTaker.takes c.commands.taker reply c.answer_command.new.taker) side at (a.answered _ was.1.goes_on) in
    rw c.in-Err-JournalBad.field-0-is (cut.0, begun_ran _ _ _ _ _ _ _ (JournalBad side at) cut.0 cut.2 (λ bytes is. one_read bytes now new (commands_of was.0) (commands_of cut.0) c.in-Ok-Command.command (was.2 bytes is) (e.next inv.ready) (pending_of c.read_command.new.lines) (g.S.Source.left c.read_command.new.source) refl (omega (arith, e.ahead, inv.near)) cut.1) (λ is. absurd (cc is)), λ is. absurd (cc is))
