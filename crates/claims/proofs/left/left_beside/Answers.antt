use Rattle.std.proofs.Common.{◌≡◌, ◌+◌, ◌-◌, ◌∷◌, [], length, get_or, ap, arith}
use Rattle.std.proofs.lemmas.List.{length-append}
use Rattle.claims.specs.Held.{claim_use}
use Rattle.claims.proofs.Leavings.{pushed_so}
use Rattle.claims.proofs.left.left_beside.Goals as goal

pub loop-trunk-preserved : goal.loop-trunk-preserved
loop-trunk-preserved c =
    let kbps = c.args.kbps.now in
    let used = c.args.used.now in
    let left = c.loop-trunk.left in
    let n = c.loop-trunk.trunk in
    let x = get_or kbps n 0 - (get_or used n 0 - c.use_of.result) in
    let here : x + get_or used n 0 ≡ get_or kbps n 0 + claim_use n c.args.claim.now =
    omega (arith, c.requires.fits n c.loop-trunk-test.true, c.requires.among n c.loop-trunk-test.true, c.use_of.ensures) in
    record {
      len = omega (arith, ap length c.in_ok-push.ensures.ok, length-append left (x ∷ []), c.loop-trunk.invariant.len);
      left_so = pushed_so (λ t l. l + get_or used t 0 ≡ get_or kbps t 0 + claim_use t c.args.claim.now) left c.push.new.self n x c.loop-trunk.invariant.len c.loop-trunk.invariant.left_so here c.in_ok-push.ensures.ok;
    }
