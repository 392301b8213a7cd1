use Rattle.std.proofs.Common.{◌≡◌, ◌-◌, length, take, drop, sym, ◌∙◌, ap, arith, length-drop}
use Rattle.std.proofs.lemmas.List.{take_all}
use Rattle.std.proofs.Math.Seq.{take-add}
use Rattle.std.specs.Io.KnownBytes.{append_known}
use Rattle.lab_io.proofs.Known.{append_known-append}
use Rattle.lab_io.proofs.outside.write_all.Goals as goal

pub loop-at-preserved : goal.loop-at-preserved
loop-at-preserved g c =
    let e = c.in_ok-at.ensures in
    let at = c.loop-at.at in
    let n = c.in_ok-at.field-0 in
    let bytes = c.args.bytes.now in
    let known = g.K.Sink.written c.args.sink.now in
    let rest : take (length bytes - at) (drop at bytes) ≡ drop at bytes = take_all _ _ (omega (arith, length-drop at bytes)) in
    record {
      within = omega (arith, e.bound, ap length rest, length-drop at bytes);
      wrote = e.wrote ∙ ap (λ r. append_known (g.K.Sink.written c.loop-at.sink) (take n r)) rest ∙ ap (λ k. append_known k (take n (drop at bytes))) c.loop-at.invariant.wrote ∙ append_known-append known (take at bytes) (take n (drop at bytes)) ∙ ap (append_known known) (sym (take-add at n bytes));
      later = omega (arith, e.cause.later);
      stands = e.cause.stands ∙ c.loop-at.invariant.stands;
    }
