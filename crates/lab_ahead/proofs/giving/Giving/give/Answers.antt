use Rattle.std.proofs.Common.{◌≡◌, ◌≤◌, Bool, true, false, cond, refl, ◌∙◌, arith}
use Rattle.lab_ahead.proofs.Exchanges.{nodes_still}
use Rattle.lab_ahead.proofs.giving.Giving.give.Goals as goal
use mir.Val.{bool_byte}

byte_is : (b : Bool) → bool_byte b ≡ cond b 1 0
byte_is true = refl
byte_is false = refl

byte_small : (b : Bool) → bool_byte b ≤ 1
byte_small true = omega arith
byte_small false = omega arith

pub loop-place-preserved : goal.loop-place-preserved
loop-place-preserved c =
    let before = c.loop-place.invariant in
    let after = c.give_one.ensures in
    record {
      whole = after.whole;
      nodes = nodes_still c.args.self.now c.loop-place.self c.give_one.new.self before.nodes after.nodes;
      others = λ n ne. after.others n ne ∙ before.others n ne;
      own = omega (arith, after.own, before.own, c.from-given.ensures, byte_is c.give_one.result);
      most = omega (arith, before.most, c.if-given-count.false, c.from-given.ensures, byte_small c.give_one.result);
    }
