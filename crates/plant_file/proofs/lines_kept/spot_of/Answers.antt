use Rattle.std.proofs.Common.{◌≡◌, ◌+◌, length, take, drop, length-take-le, sym, ap, ◌∙◌, arith}
use Rattle.plant_file.proofs.KeptLaws.{rest_after, size_more, none_more, line_at, each_at}
use Rattle.plant_file.proofs.lines_kept.spot_of.Goals as goal

pub has_key-requires : goal.has_key-requires
has_key-requires c = record {
  line = each_at c.args.lines.now c.args.text.now c.requires c.loop-here.here-index c.here-item.result c.loop-here-test.true c.here-item.is;
  mark = c.mark-mark.ensures;
}

pub returns-then-has_key : goal.returns-then-has_key
returns-then-has_key c = record {
  front = take c.loop-here.here-index c.args.lines.now;
  here = c.here-item.result;
  behind = drop (c.loop-here.here-index + 1) c.args.lines.now;
  is = line_at c.args.lines.now c.loop-here.here-index c.here-item.result c.loop-here-test.true c.here-item.is;
  first = c.loop-here.invariant.none;
  keyed = sym c.has_key.ensures ∙ c.if-has_key.true;
  line = c.loop-here.invariant.line ∙ sym (length-take-le c.loop-here.here-index c.args.lines.now c.loop-here.auto.here-index-end);
  at = omega (arith, c.loop-here.invariant.whole);
}

pub behind-rest-requires : goal.behind-rest-requires
behind-rest-requires c =
    let own = each_at c.args.lines.now c.args.text.now c.requires c.loop-here.here-index c.here-item.result c.loop-here-test.true c.here-item.is in
    (rest_after c.args.lines.now c.loop-here.here-index c.here-item.result c.loop-here.rest.now c.loop-here-test.true c.here-item.is own c.loop-here.invariant.rest).0

pub loop-here-preserved : goal.loop-here-preserved
loop-here-preserved c =
    let own = each_at c.args.lines.now c.args.text.now c.requires c.loop-here.here-index c.here-item.result c.loop-here-test.true c.here-item.is in
    let cut = rest_after c.args.lines.now c.loop-here.here-index c.here-item.result c.loop-here.rest.now c.loop-here-test.true c.here-item.is own c.loop-here.invariant.rest in
    let long : length c.behind-rest.result.now ≡ length (drop c.here-item.result.size c.loop-here.rest.now) = ap length c.behind-rest.ensures in
    let more = size_more c.args.lines.now c.loop-here.here-index c.here-item.result c.loop-here-test.true c.here-item.is own in
    record {
      rest = c.behind-rest.ensures ∙ cut.1;
      whole = omega (arith, more, long, cut.2, c.loop-here.invariant.whole);
      line = omega (arith, c.loop-here.invariant.line);
      none = none_more c.args.key.now c.args.lines.now c.loop-here.here-index c.here-item.result c.loop-here-test.true c.here-item.is (sym c.has_key.ensures ∙ c.if-has_key.false) c.loop-here.invariant.none;
    }
