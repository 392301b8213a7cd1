use Rattle.std.proofs.Common.{◌≡◌, arith, rules, length}
use Rattle.std.specs.Prelude.{vec_len}
use Rattle.claims.proofs.Entries.{others_fewer}
use Rattle.claims.proofs.claims.Claims.add.Goals as goal

pub put_in_place-requires-clause-room : goal.put_in_place-requires-clause-room
put_in_place-requires-clause-room c =
    let v = c.try_reserve.new.self in
    let len : vec_len v ≡ length v.items = search rules in
    omega (arith, c.in_ok-try_reserve.ensures.ok, others_fewer c.args.exp v.items, len)
