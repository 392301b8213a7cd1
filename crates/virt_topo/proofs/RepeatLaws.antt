-- Elements that a list has twice, with one element more.
use Rattle.std.proofs.Common.{◌≡◌, ℕ, ◌+◌, ◌<◌, Bool, List, ◌∷◌, ◌++◌, length, drop, get_or, sym, ap, ◌∙◌}
use Rattle.std.specs.Prelude.{◌||◌}
use Rattle.std.specs.List.{list_any}
use Rattle.std.proofs.lemmas.List.Folds.{list_any-append}
use Rattle.lab_base.proofs.Lists.{item_at}
use Rattle.virt_topo.specs.Repeats.{stands_again}
use Rattle.virt_topo.specs.Soundness.{all_ends, same_address}
use Rattle.virt_topo.specs.declared.wiring.Segment.{Segment}
use Rattle.virt_topo.specs.declared.wiring.VirtEnd.{VirtEnd}

-- the ends of the segment at i, and those after it
pub any_from : (p : VirtEnd → Bool) (segments : List Segment) (i : ℕ) (s : Segment) (ends : List VirtEnd) → i < length segments → s ≡ get_or segments i s → ends ≡ s.ends
    → list_any p (all_ends (drop i segments)) ≡ (list_any p ends || list_any p (all_ends (drop (i + 1) segments)))
any_from p segments i s ends lt is same =
    ap (λ (l : List Segment). list_any p (all_ends l)) (item_at segments i s lt is)
    ∙ list_any-append p s.ends (all_ends (drop (i + 1) segments))
    ∙ ap (λ (l : List VirtEnd). list_any p l || list_any p (all_ends (drop (i + 1) segments))) (sym same)

-- the first end, those beside it and those of later segments
pub again_from : (rest others : List VirtEnd) (first : VirtEnd) (later : List VirtEnd) → rest ≡ first ∷ others
    → stands_again same_address (rest ++ later) ≡ (list_any (same_address first) others || list_any (same_address first) later || stands_again same_address (others ++ later))
again_from rest others first later is =
    ap (λ (l : List VirtEnd). stands_again same_address (l ++ later)) is
    ∙ ap (λ (b : Bool). b || stands_again same_address (others ++ later)) (list_any-append (same_address first) others later)
