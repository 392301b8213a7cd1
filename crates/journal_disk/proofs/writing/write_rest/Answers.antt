use Rattle.std.proofs.Common.{◌≡◌, ◌+◌, ◌-◌, ◌∷◌, [], ◌++◌, List, ℕ, take, drop, length, sym, ap, subst, ◌∙◌, arith}
use Rattle.std.specs.Prelude.{◌≤◌, IfSome}
use Rattle.std.proofs.lemmas.List.{length-take, length-drop}
use Rattle.std.proofs.lemmas.Result.{err_from_is_err_and}
use Rattle.plant.specs.Disks.{disk}
use Rattle.plant.specs.Events.{Wrote}
use Rattle.plant.specs.Told.{with_steps}
use Rattle.journal_disk.specs.Compacting.{Begins, text_writes}
use Rattle.journal_disk.proofs.Chains.{chain, write_ok}
use Rattle.journal_disk.proofs.Walking.{slice}
use Rattle.journal_disk.proofs.WriteTextLaws.{joined, begins_so, pushed, still_full, pieces_push, filled_push, joined_length, wrote_long, pours_left}
use Rattle.journal_disk.proofs.writing.write_rest.Goals as goal

pub returns-in_err-write-clause-writes_text : goal.returns-in_err-write-clause-writes_text
returns-in_err-write-clause-writes_text g c =
    let p = err_from_is_err_and c.from_residual.result c.from_residual.ensures.1 in
    let so = c.loop-done.invariant.so_far in
    let t = c.in_err-write.ensures.trace in
    let bytes = c.args.bytes.now in
    let done = c.loop-done.done in
    let size = c.piece_of-size.result in
    let piece = take (done + size - done) (drop done bytes) in
    let live_side : c.args.at + done ≡ c.args.at + length (joined so.0) = ap (λ n. c.args.at + n) (sym (joined_length bytes done so.0 c.loop-done.invariant.within so.1)) in
    let all = still_full bytes done so.0 c.loop-done-test.true so.3 in
    let within : done + size ≤ length bytes = omega (arith, c.piece_of-size.ensures.within, c.loop-done-test.true) in
    let after = pieces_push bytes done size so.0 so.1 within c.piece_of-size.ensures.some c.piece_of-size.ensures.piece all in
    let begins = subst (λ (l : List ℕ). Begins bytes (joined (so.0 ++ l ∷ []))) (sym (slice bytes done size)) (begins_so bytes (done + size) (so.0 ++ take size (drop done bytes) ∷ []) after) in
    rw (p.1, p.2) (pours_left c.args.side c.args.at (c.args.at + done) bytes (g.P.Plant.seen c.args.plant.now).told (g.P.Plant.seen c.loop-done.plant).told (g.P.Plant.seen c.write.new.self).told so.0 piece (g.P.Plant.seen c.loop-done.plant).stopped c.in_err-write.field-0.0 t.0 (begins_so bytes done so.0 so.1) begins so.2 live_side t.1 t.2)

pub loop-done-preserved : goal.loop-done-preserved
loop-done-preserved g c =
    let so = c.loop-done.invariant.so_far in
    let w = c.in_ok-write.ensures.trace in
    let bytes = c.args.bytes.now in
    let done = c.loop-done.done in
    let size = c.piece_of-size.result in
    let side = c.args.side in
    let at = c.args.at in
    let long = take (done + size - done) (drop done bytes) in
    let piece = take size (drop done bytes) in
    let all = still_full bytes done so.0 c.loop-done-test.true so.3 in
    let live_side : at + done ≡ at + length (joined so.0) = ap (λ n. at + n) (sym (joined_length bytes done so.0 c.loop-done.invariant.within so.1)) in
    let within : done + size ≤ length bytes = omega (arith, c.piece_of-size.ensures.within, c.loop-done-test.true) in
    let steps : w.0 ≡ Wrote side (at + done) piece ∷ [] = write_ok side (at + done) long _ _ w.0 w.2 ∙ ap (λ (l : List ℕ). Wrote side (at + done) l ∷ []) (slice bytes done size) in
    let now : (g.P.Plant.seen c.write.new.self).told ≡ with_steps (g.P.Plant.seen c.loop-done.plant).told (Wrote side (at + done) piece ∷ []) = w.1 ∙ ap (λ l. with_steps (g.P.Plant.seen c.loop-done.plant).told l) steps in
    let sized : length piece ≡ size = omega (arith, length-take size (drop done bytes), length-drop done bytes, within) in
    let room : IfSome (g.P.Plant.seen c.write.new.self).told (λ t. at + done + length piece ≤ length (disk side t.trace).reads) = wrote_long side (g.P.Plant.seen c.loop-done.plant).told (g.P.Plant.seen c.write.new.self).told (at + done) piece c.loop-done.invariant.room now in
    record {
      within = within;
      so_far = (
        so.0 ++ piece ∷ [],
        pieces_push bytes done size so.0 so.1 within c.piece_of-size.ensures.some c.piece_of-size.ensures.piece all,
        chain (g.P.Plant.seen c.args.plant.now).told (g.P.Plant.seen c.loop-done.plant).told (g.P.Plant.seen c.write.new.self).told (text_writes side at so.0) (Wrote side (at + done) piece ∷ []) (text_writes side at (so.0 ++ piece ∷ [])) so.2 now (pushed side at (at + done) so.0 piece live_side),
        filled_push bytes done size so.0 within c.piece_of-size.ensures.full all,
      );
      room = subst (λ n. IfSome (g.P.Plant.seen c.write.new.self).told (λ t. n ≤ length (disk side t.trace).reads)) (same at done size (length piece) sized) room;
      later = omega (arith, c.loop-done.invariant.later, c.in_ok-write.ensures.cause.later);
      devices = c.in_ok-write.ensures.cause.devices ∙ c.loop-done.invariant.devices;
      going = λ h. cc (c.in_ok-write.ensures.stopped.1 h);
    }
  where
    same : (at done size n : ℕ) → n ≡ size → at + done + n ≡ at + (done + size)
    same at done size n h = omega (arith, h)
