-- The facts that hold of a wiring without a fault.
use Rattle.std.proofs.Common.{◌≡◌, ℕ, ◌≤◌, Bool, true, false, cond, not, List, length, Result, Ok, Err, refl}
use Rattle.std.specs.Prelude.{◌==◌}
use Rattle.std.proofs.lemmas.Bool.{not-false}
use Rattle.lab_base.specs.Kinds.{both_of}
use Rattle.lab_base.specs.Parts.{name_of, number_from}
use Rattle.lab_base.specs.declared.fault.Kind.{Kind}
use Rattle.line_text.specs.Fields.{field_at, list_after}
use Rattle.line_text.proofs.ListLaws.{both_read, list_few}
use Rattle.virt_topo.specs.declared.wiring.Wiring.{Wiring}
use Rattle.virt_topo.specs.Ends.{end_nodes}
use Rattle.virt_topo.specs.Soundness.{keeps_limits, knows_all, has_twice, has_same, has_bad_pipe, IsSound}
use Rattle.virt_topo.proofs.CableLaws.{limits_of}
use Rattle.top_text.specs.Lines.{LinkRead, link_line, end_in_field}
use Rattle.top_text.specs.Adding.{kept}

gate : (a : Bool) (kind : Kind) (rest : Result Wiring Kind) (w : Wiring) → cond a (Err kind) rest ≡ Ok w → (a ≡ false) × (rest ≡ Ok w)
gate true kind rest w h = absurd (cc h)
gate false kind rest w h = (refl, h)

-- the tests of a wiring that is kept
pub record IsKept (w : Wiring) : Type 0 where
  pub twice : has_twice w ≡ false
  pub known : knows_all w ≡ true
  pub same : has_same w ≡ false
  pub pipes : has_bad_pipe w ≡ false
  pub limits : keeps_limits w ≡ true

pub tests_of : (w : Wiring) → kept w ≡ Ok w → IsKept w
tests_of w h =
    let a = gate (has_twice w) _ _ w h in
    let b = gate (not (knows_all w)) _ _ w a.1 in
    let c = gate (has_same w) _ _ w b.1 in
    let d = gate (has_bad_pipe w) _ _ w c.1 in
    let e = gate (not (keeps_limits w)) _ _ w d.1 in
    record { twice = a.0; known = not-false _ b.0; same = c.0; pipes = d.0; limits = not-false _ e.0 }

pub few_ends : (w : Wiring) → kept w ≡ Ok w → length (end_nodes w.segments) ≤ 4096
few_ends w h = (limits_of w (tests_of w h).limits).ends

pub few_in_link : (fields : List (List ℕ)) (read : LinkRead) → link_line fields ≡ Ok read → length read.1.1.1 ≤ 256
few_in_link fields read h =
    let a = both_read (name_of (field_at fields 0)) (both_of (name_of (field_at fields 1)) (both_of (number_from 1 1000000000 (field_at fields 2)) (list_after 3 2 256 end_in_field fields))) read.0 read.1 h in
    let b = both_read (name_of (field_at fields 1)) (both_of (number_from 1 1000000000 (field_at fields 2)) (list_after 3 2 256 end_in_field fields)) read.1.0 read.1.1 a.1 in
    let c = both_read (number_from 1 1000000000 (field_at fields 2)) (list_after 3 2 256 end_in_field fields) read.1.1.0 read.1.1.1 b.1 in
    list_few 3 2 256 end_in_field fields read.1.1.1 c.1

-- a wiring that is kept, with a virtual node, is sound
pub sound_of : (w : Wiring) → kept w ≡ Ok w → (length w.nodes == 0) ≡ false → IsSound w
sound_of w h some =
    let tests = tests_of w h in
    rw (tests.limits, tests.known, tests.twice, tests.same, tests.pipes, some) refl
