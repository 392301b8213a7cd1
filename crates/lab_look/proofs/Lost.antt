-- Sides beside the live one that are told as lost, and as a move that was cut off.
use Rattle.std.specs.List.{list_all}
use Rattle.std.proofs.Common.{◌≡◌, inl, inr, ℕ, zero, suc, ◌≤◌, ◌<◌, Bool, true, false, ◌&&◌, ◌||◌, eqb, List, [], ◌∷◌, ◌++◌, length, take, drop, refl, sym, ap, ◌∙◌, subst, arith, length-append}
use Rattle.std.proofs.lemmas.Bool.{false≢true, and_parts, and_from, cases_lt, le-leb, eq-eqb}
use Rattle.std.proofs.lemmas.List.{take-append-drop, take_all, take_at, drop_at, drop-append-le}
use Rattle.std.proofs.lemmas.List.Folds.{list_all-append}
use Rattle.journal_rec.specs.declared.record.Record.{Record}
use Rattle.journal_rec.specs.Packing.{block, blocks}
use Rattle.journal_model.specs.Journals.{head}
use Rattle.journal_disk.specs.Heads.{seen}
use Rattle.records_model.specs.Labs.{LabState, at_first, LabOf}
use Rattle.records_model.proofs.LabLaws.{folds_once}
use Rattle.lab_state.specs.Packing.{packed_of}
use Rattle.lab_state.specs.Texts.{the_texts}
use Rattle.lab_state.proofs.Canonical.{texts_once}
use Rattle.lab_sides.specs.Heads.{shut_head}
use Rattle.lab_look.specs.declared.beside.Beside.{Beside}
use Rattle.lab_look.specs.declared.beside.Beside.TheVariants.{Behind, Begun, Lost}
use Rattle.lab_look.specs.Beside.{is_next, is_ahead, is_beginning, is_begun, is_end, packed_bytes, IsBegun, IsBeside}
use Rattle.lab_look.proofs.Holes.{too_long}

-- bytes that go on with an open gate where the text ends with a closed one
no_beginning : (front more : List ℕ) → is_beginning (front ++ 165 ∷ more) (front ++ 0 ∷ []) ≡ true → ⊥
no_beginning [] more h = absurd (cc h)
no_beginning (x ∷ front) more h = no_beginning front more (and_parts _ _ h).1

-- behind the gate of a side that is ahead stands no beginning of a move
is_lost : (live other : List ℕ) (rs : List Record) (beside : Beside) → IsBeside live other rs beside → is_ahead live other ≡ true → (IsBegun live other rs → ⊥) → beside ≡ Lost
is_lost live other rs Behind is ahead never = absurd (false≢true (sym is ∙ ahead))
is_lost live other rs Begun is ahead never = absurd (never is.1)
is_lost live other rs Lost is ahead never = refl

begins : (live other text : List ℕ) → is_begun live other text ≡ true → is_beginning (drop 17 other) text ≡ true
begins live other text begun = (and_parts _ _ (and_parts _ _ begun).1).1

pub longer_is_lost : (live other : List ℕ) (rs : List Record) (beside : Beside) → IsBeside live other rs beside → is_ahead live other ≡ true
    → ((front ends : List Record) (s : LabState) → rs ≡ front ++ ends → list_all is_end ends ≡ true → LabOf the_texts front s → length (packed_bytes s) < length (drop 17 other))
    → beside ≡ Lost
longer_is_lost live other rs beside is ahead longer =
    is_lost live other rs beside is ahead (λ begun.
    let s = begun.3.0 in
    let long = longer (take begun.0 rs) (drop begun.0 rs) s (sym (take-append-drop begun.0 rs)) begun.2 begun.3.1 in
    absurd (false≢true (sym (too_long (drop 17 other) (packed_bytes s) long) ∙ begins live other (packed_bytes s) begun.3.2)))

-- after the last record, which ends no move, no fewer records count
only_all : (front : List Record) (last : Record) (n : ℕ) → is_end last ≡ false → list_all is_end (drop n (front ++ last ∷ [])) ≡ true → length front < n
only_all front last n never all = elim (cases_lt (length front) n) [
  | inl beyond ↦ beyond
  | inr within ↦
      let split = sym (list_all-append is_end (drop n front) (last ∷ [])) ∙ ap (list_all is_end) (sym (drop-append-le n front (last ∷ []) within)) ∙ all in
      absurd (false≢true (sym never ∙ (and_parts _ _ (and_parts _ _ split).1).0))
]

pub lost_is_told : (live other : List ℕ) (front : List Record) (last r : Record) (s : LabState) (rest : List ℕ) (beside : Beside)
    → IsBeside live other (front ++ last ∷ []) beside → is_end last ≡ false → LabOf the_texts (front ++ last ∷ []) s → is_ahead live other ≡ true
    → drop 17 other ≡ blocks (packed_of the_texts s) ++ (block r ++ rest) → beside ≡ Lost
lost_is_told live other front last r s rest beside is never lab ahead bytes =
    let rs = front ++ last ∷ [] in
    is_lost live other rs beside is ahead (λ begun.
    let more = only_all front last begun.0 never begun.2 in
    let all : take begun.0 rs ≡ rs = take_all begun.0 rs (omega (arith, more, length-append front (last ∷ []))) in
    let same = folds_once the_texts at_first rs begun.3.0 s texts_once (subst (λ (l : List Record). LabOf the_texts l begun.3.0) all begun.3.1) lab in
    let so = begins live other (packed_bytes begun.3.0) begun.3.2 in
    let here = subst (λ (x : LabState). is_beginning (drop 17 other) (packed_bytes x) ≡ true) same so in
    no_beginning (blocks (packed_of the_texts s)) (drop 1 (block r ++ rest)) (subst (λ (l : List ℕ). is_beginning l (packed_bytes s) ≡ true) bytes here))

-- a beginning of a text
cut_is : (n : ℕ) (text : List ℕ) → is_beginning (take n text) text ≡ true
cut_is zero text = refl
cut_is (suc n) [] = refl
cut_is (suc n) (x ∷ text) = and_from _ _ (ap (λ (b : Bool). b || eqb x 0) (eq-eqb x x refl)) (cut_is n text)

pub begun_is_told : (live other : List ℕ) (front ends : List Record) (s : LabState) (n : ℕ) (beside : Beside) → IsBeside live other (front ++ ends) beside
    → list_all is_end ends ≡ true → LabOf the_texts front s → is_ahead live other ≡ true → is_next (seen (head live)) (shut_head other) ≡ true → 17 ≤ length other
    → drop 17 other ≡ take n (packed_bytes s) → beside ≡ Begun
begun_is_told live other front ends s n Behind is all lab ahead next long bytes = absurd (false≢true (sym is ∙ ahead))
begun_is_told live other front ends s n Begun is all lab ahead next long bytes = refl
begun_is_told live other front ends s n Lost is all lab ahead next long bytes =
    let text = packed_bytes s in
    let begun : is_begun live other text ≡ true =
    and_from _ _ next (and_from _ _ (le-leb 17 (length other) long) (subst (λ (l : List ℕ). is_beginning l text ≡ true) (sym bytes) (cut_is n text))) in
    let within : length front ≤ length (front ++ ends) = omega (arith, length-append front ends) in
    let are_ends = ap (list_all is_end) (drop_at front ends (length front) refl) ∙ all in
    let of_front = subst (λ (l : List Record). LabOf the_texts l s) (sym (take_at front ends (length front) refl)) lab in
    absurd (is.1 (length front, within, are_ends, (s, of_front, begun)))
