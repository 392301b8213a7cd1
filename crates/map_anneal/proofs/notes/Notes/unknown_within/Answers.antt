use Rattle.std.proofs.Common.{◌≡◌, ◌<◌, ◌≤◌, ◌∙◌, ◌-◌, ◌+◌, ℕ, Bool, true, false, List, length, get_or, take, drop, refl, sym, ap, arith, get_or-take, get_or-drop, length-take, length-drop}
use mathlib.Core.Bool.{beq}
use Rattle.map_anneal.proofs.notes.Notes.unknown_within.Goals as goal

true_of : (b : Bool) → beq b false ≡ false → b ≡ true
true_of true off = refl
true_of false off = absurd (let both : true ≡ false = off in cc both)

-- notes of a part in which none is unknown
all_known : (notes : List Bool) (from end k : ℕ) → end ≤ length notes → from ≤ k → k < end
    → ((j : ℕ) (d : Bool) → 0 ≤ j → j < length (take (end - from) (drop from notes)) → beq (get_or (take (end - from) (drop from notes)) j d) false ≡ false) → get_or notes k false ≡ true
all_known notes from end k within low below all =
    let part = take (end - from) (drop from notes) in
    let j = k - from in
    let inside : j < length part = omega (arith, length-take (end - from) (drop from notes), length-drop from notes, within, low, below) in
    let back : from + j ≡ k = omega (arith, low) in
    let at : get_or part j false ≡ get_or notes k false =
    get_or-take (end - from) (drop from notes) j false (omega (arith, low, below)) ∙ get_or-drop from notes j false ∙ ap (λ (n : ℕ). get_or notes n false) back in
    true_of (get_or notes k false) (ap (λ (b : Bool). beq b false) (sym at) ∙ all j false (omega arith) inside)

pub returns-then-not-contains-clause-known : goal.returns-then-not-contains-clause-known
returns-then-not-contains-clause-known c = λ k low below.
    let same : c.deref.result.now ≡ c.args.self.now = c.deref.ensures.value ∙ c.self.view_is in
    let count : ◌≡◌ {A = ℕ} (length c.deref.result.now) (length c.args.self.now) = ap length same in
    ap (λ (l : List Bool). get_or l k false) (sym same)
    ∙ all_known c.deref.result.now c.args.from c.args.end k (omega (arith, c.requires.within, count)) low below c.if-not-contains.ensures.cases
