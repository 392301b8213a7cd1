-- One field more of a list of fields.
use Rattle.std.proofs.Common.{◌≡◌, ℕ, suc, ◌+◌, ◌<◌, List, ◌∷◌, length, drop, get_or, Result, sym, ap, ◌∙◌, arith, Bor, drop-cons}
use Rattle.lab_base.specs.Kinds.{both_of}
use Rattle.lab_base.specs.Texts.{views}
use Rattle.lab_base.specs.declared.fault.Kind.{Kind}
use Rattle.lab_base.specs.Parts.{all_of, joined_to}

pub one_more : {X : Type 0} (read : List ℕ → Result X Kind) (so_far next whole : Result (List X) Kind) (got : Result X Kind) (fields : List (Bor (List ℕ))) (i : ℕ) (d : Bor (List ℕ)) → i < length fields
    → got ≡ read (get_or fields i d).now → next ≡ joined_to (both_of so_far got) → all_of read so_far (views (drop i fields)) ≡ whole → all_of read next (views (drop (i + 1) fields)) ≡ whole
one_more {X} read so_far next whole got fields i d lt is step invariant =
    let number : suc i ≡ i + 1 = omega arith in
    let front : drop i fields ≡ get_or fields i d ∷ drop (i + 1) fields = drop-cons fields i d lt ∙ ap (λ (k : ℕ). get_or fields i d ∷ drop k fields) number in
    let now : next ≡ joined_to (both_of so_far (read (get_or fields i d).now)) = step ∙ ap (λ (g : Result X Kind). joined_to (both_of so_far g)) is in
    ap (λ (s : Result (List X) Kind). all_of read s (views (drop (i + 1) fields))) now ∙ sym (ap (λ (l : List (Bor (List ℕ))). all_of read so_far (views l)) front) ∙ invariant
