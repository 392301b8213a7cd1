use Rattle.std.proofs.Common.{◌≡◌, ◌++◌, ◌∷◌, [], arith, rules}
use Rattle.std.proofs.lemmas.List.{length-drop}
use Rattle.journal_disk.proofs.Walking.{goes_on, closes, breaks_off, tail}
use Rattle.journal_disk.proofs.walk.walk.Goals as goal

pub returns-in-Ok-None : goal.returns-in-Ok-None
returns-in-Ok-None c =
    let so = c.gates.invariant.so_far in
    let h = rw c.in-Ok-None.field-0-is at c.in-Ok-None.ensures in
    let here = rw (tail c.args.bytes.now c.gates.gate) at h in
    (so.0, closes c.args.bytes.now c.gates.gate so.0 c.gates.found.items so.1 here, so.1.placed_so, so.1.at, c.gates.invariant.inside)

pub gates-preserved : goal.gates-preserved
gates-preserved c =
    let so = c.gates.invariant.so_far in
    let h = rw c.in-Ok-Some.field-0-is at c.in-Ok-Some.ensures in
    let here = rw (tail c.args.bytes.now c.gates.gate) at h in
    let entry = c.in-Ok-Some.entry in
    let size = c.in-Ok-Some.size in
    let pushed : c.push.new.self.items ≡ c.gates.found.items ++ record { at = c.gates.gate; entry = entry } ∷ [] = search rules in
    record {
      inside = omega (arith, here.3, length-drop c.gates.gate c.args.bytes.now);
      so_far = (so.0 ++ entry ∷ [], rw pushed (goes_on c.args.bytes.now c.gates.gate so.0 c.gates.found.items entry size so.1 here.0 here.1 here.2));
    }

pub returns-in-Err-Bad : goal.returns-in-Err-Bad
returns-in-Err-Bad c =
    let so = c.gates.invariant.so_far in
    let h = rw c.in-Err-Bad.field-0-is at c.in-Err-Bad.ensures in
    let here = rw (tail c.args.bytes.now c.gates.gate) at h in
    (so.0, breaks_off c.args.bytes.now c.gates.gate so.0 c.gates.found.items so.1 here, so.1.at)
