use Rattle.std.proofs.Common.{◌≡◌, ◌+◌, ◌++◌, ◌∷◌, [], drop, get_or, rules}
use Rattle.journal_disk.proofs.Walking.{goes_on, closes, breaks_off, tail}
use Rattle.lab_sides.proofs.Stepping.{at_gate, open_gate, block_there, still_inside}
use Rattle.lab_sides.proofs.walking.walk.Goals as goal

pub returns-then-bytes-gate : goal.returns-then-bytes-gate
returns-then-bytes-gate c =
    let so = c.gates.invariant.so_far in
    let bytes = c.args.bytes.now in
    let gate = c.gates.gate in
    let inside = c.gates.invariant.inside in
    (so.0, closes bytes gate so.0 c.gates.found so.1 (get_or bytes gate 0, drop (gate + 1) bytes, at_gate bytes gate inside, c.if-bytes-gate.true), so.1.placed_so, so.1.at, inside)

pub gates-preserved : goal.gates-preserved
gates-preserved c =
    let so = c.gates.invariant.so_far in
    let bytes = c.args.bytes.now in
    let gate = c.gates.gate in
    let inside = c.gates.invariant.inside in
    let h = rw c.in-Ok-Some.field-0-is at c.in-Ok-Some.ensures in
    let here = rw (tail bytes (gate + 1)) at h in
    let entry = c.in-Ok-Some.entry in
    let size = c.in-Ok-Some.size in
    let pushed : c.push.new.self ≡ c.gates.found ++ record { at = gate; entry = entry } ∷ [] = search rules in
    record {
      inside = still_inside bytes gate size entry inside here;
      so_far = (so.0 ++ entry ∷ [], rw pushed (goes_on bytes gate so.0 c.gates.found entry (size + 1) so.1 here.is_record here.size_is (block_there bytes gate size entry inside c.if-bytes-gate.false here)));
    }

pub returns-in-Ok-None : goal.returns-in-Ok-None
returns-in-Ok-None c =
    let so = c.gates.invariant.so_far in
    let bytes = c.args.bytes.now in
    let gate = c.gates.gate in
    let inside = c.gates.invariant.inside in
    let h = rw c.in-Ok-None.field-0-is at c.in-Ok-None.ensures in
    let here = rw (tail bytes (gate + 1)) at h in
    (so.0, breaks_off bytes gate so.0 c.gates.found so.1 (drop (gate + 1) bytes, open_gate bytes gate inside c.if-bytes-gate.false, here), so.1.placed_so, so.1.at)
