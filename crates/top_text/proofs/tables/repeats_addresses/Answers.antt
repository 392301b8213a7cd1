use Rattle.std.proofs.Common.{None, get_or, sym, ◌∙◌}
use Rattle.std.proofs.lemmas.List.{get_or_default}
use Rattle.virt_topo.specs.declared.wiring.VirtEnd.{VirtEnd}
use Rattle.top_text.proofs.TableLaws.{address_again, addresses_next, addresses_once}
use Rattle.top_text.proofs.tables.repeats_addresses.Goals as goal

abbrev none : VirtEnd
none = record { node = 0; address = None }

pub returns-then-again-clause-again : goal.returns-then-again-clause-again
returns-then-again-clause-again c =
    let ends = c.args.ends.now in
    let i = c.loop-end.end-index in
    let e = get_or ends i none in
    sym (address_again c.args.addresses.now.keys c.loop-end.addresses.keys ends i e c.loop-end-test.true (get_or_default ends i none e c.loop-end-test.true) c.loop-end.invariant.keys (sym c.in_ok-again.ensures.again ∙ c.if-again.true))

pub loop-end-preserved : goal.loop-end-preserved
loop-end-preserved c =
    let ends = c.args.ends.now in
    let i = c.loop-end.end-index in
    let e = get_or ends i none in
    record {
      keys = addresses_next c.args.addresses.now.keys c.loop-end.addresses.keys c.repeats_address.new.addresses.keys ends i e c.loop-end-test.true (get_or_default ends i none e c.loop-end-test.true) c.loop-end.invariant.keys (c.in_ok-again.ensures.keys c.if-again.false);
      once = addresses_once c.loop-end.addresses.keys c.repeats_address.new.addresses.keys e.address c.loop-end.invariant.once (sym c.in_ok-again.ensures.again ∙ c.if-again.false) (c.in_ok-again.ensures.keys c.if-again.false);
    }
