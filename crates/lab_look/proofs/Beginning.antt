-- Fewer and fewer records, while the last one ends a move.
use Rattle.std.specs.List.{list_all}
use Rattle.std.proofs.Common.{◌≡◌, ◌↔◌, inl, inr, ℕ, suc, ◌<◌, ◌≤◌, Bool, true, false, List, length, take, drop, get_or, sym, ap, ◌∙◌, subst, arith}
use Rattle.std.proofs.lemmas.Bool.{false≢true, cases_order}
use Rattle.std.proofs.lemmas.List.{drop_all, take-map, length-map}
use Rattle.journal_rec.specs.declared.record.Record.{Record}
use Rattle.journal_rec.specs.declared.record.Found.{Found}
use Rattle.records_model.specs.Labs.{LabState, at_first, LabOf, StopsAt}
use Rattle.records_model.proofs.LabLaws.{folds_once, folds_or_stops}
use Rattle.lab_state.specs.Replays.{records_of}
use Rattle.lab_state.specs.Texts.{the_texts}
use Rattle.lab_state.proofs.Canonical.{texts_once}
use Rattle.lab_look.specs.declared.beside.Beside.TheVariants.{Begun, Lost}
use Rattle.lab_look.specs.Beside.{is_ahead, is_begun, is_end, packed_bytes, IsBegunBy, IsBeside}
use Rattle.lab_look.proofs.Ends.{one_more, no_more_ends}

-- the one lab of records decides
pub begun_by : (live other packed : List ℕ) (rs : List Record) (s : LabState) (told : Bool) → LabOf the_texts rs s → packed ≡ packed_bytes s → told ≡ is_begun live other packed
    → (told ≡ true) ↔ IsBegunBy live other rs
begun_by live other packed rs s told of is is_told = (
  λ so. (s, of, ap (is_begun live other) (sym is) ∙ sym is_told ∙ so),
  λ by. is_told ∙ ap (is_begun live other) is ∙ ap (λ (x : LabState). is_begun live other (packed_bytes x)) (folds_once the_texts at_first rs s by.0 texts_once of by.1) ∙ by.2,
)

pub none_by : (live other : List ℕ) (rs : List Record) (n : ℕ) → StopsAt the_texts at_first rs n → (false ≡ true) ↔ IsBegunBy live other rs
none_by live other rs n stops = (λ so. absurd (false≢true so), λ by. absurd (folds_or_stops the_texts at_first rs by.0 n texts_once by.1 stops))

-- after the first records there are only ends, and no more of them pack to what stands there
pub record Tried (live other : List ℕ) (fs : List Found) (count : ℕ) : Type 0 where
  pub within : count ≤ length fs
  pub ends : list_all is_end (drop count (records_of fs)) ≡ true
  pub later : (n : ℕ) → count < n → n ≤ length fs → IsBegunBy live other (take n (records_of fs)) → ⊥

pub tried_all : (live other : List ℕ) (fs : List Found) → Tried live other fs (length fs)
tried_all live other fs = record {
  within = omega arith;
  ends = ap (list_all is_end) (drop_all (length fs) (records_of fs) (omega (arith, length-map fs (λ (f : Found). f.entry))));
  later = λ n more within. absurd (omega (arith, more, within));
}

front_is : (fs : List Found) (n : ℕ) → take n (records_of fs) ≡ records_of (take n fs)
front_is fs n = take-map (λ (f : Found). f.entry) n fs

pub begun_at : (live other : List ℕ) (fs : List Found) (count : ℕ) → is_ahead live other ≡ true → Tried live other fs count → IsBegunBy live other (records_of (take count fs))
    → IsBeside live other (records_of fs) Begun
begun_at live other fs count ahead tried by = (
  ahead,
  (
    count,
    omega (arith, tried.within, length-map fs (λ (f : Found). f.entry)),
    tried.ends,
    subst (λ (l : List Record). IsBegunBy live other l) (sym (front_is fs count)) by,
  ),
)

pub lost_at : (live other : List ℕ) (fs : List Found) (count : ℕ) → is_ahead live other ≡ true → Tried live other fs count → (IsBegunBy live other (records_of (take count fs)) → ⊥)
    → ((n : ℕ) → n < count → list_all is_end (drop n (records_of fs)) ≡ true → ⊥) → IsBeside live other (records_of fs) Lost
lost_at live other fs count ahead tried never none = (
  ahead,
  λ begun. elim (cases_order begun.0 count) [
    | inl same ↦
        let here = subst (λ (m : ℕ). IsBegunBy live other (take m (records_of fs))) same begun.3 in
        never (subst (λ (l : List Record). IsBegunBy live other l) (front_is fs count) here)
    | inr apart ↦ elim apart [
      | inl less ↦ none begun.0 less begun.2
      | inr more ↦ tried.later begun.0 more (omega (arith, begun.1, length-map fs (λ (f : Found). f.entry))) begun.3
    ]
  ],
)

pub none_before : (fs : List Found) (count : ℕ) → count ≡ 0 → (n : ℕ) → n < count → list_all is_end (drop n (records_of fs)) ≡ true → ⊥
none_before fs count none n less all = absurd (omega (arith, none, less))

pub none_behind : (fs : List Found) (k : ℕ) (f : Found) → k < length fs → f ≡ get_or fs k f → is_end f.entry ≡ false → (n : ℕ) → n < suc k
    → list_all is_end (drop n (records_of fs)) ≡ true → ⊥
none_behind fs k f inside is never n less all = no_more_ends fs n k f inside is never (omega (arith, less)) all

pub tried_next : (live other : List ℕ) (fs : List Found) (k : ℕ) (f : Found) → f ≡ get_or fs k f → is_end f.entry ≡ true → (IsBegunBy live other (records_of (take (suc k) fs)) → ⊥)
    → Tried live other fs (suc k) → Tried live other fs k
tried_next live other fs k f is end never tried = record {
  within = omega (arith, tried.within);
  ends = one_more fs k f (omega (arith, tried.within)) is end tried.ends;
  later = λ n more within by. elim (cases_order n (suc k)) [
    | inl same ↦
        let here = subst (λ (m : ℕ). IsBegunBy live other (take m (records_of fs))) same by in
        never (subst (λ (l : List Record). IsBegunBy live other l) (front_is fs (suc k)) here)
    | inr apart ↦ elim apart [ inl less ↦ absurd (omega (arith, less, more)) | inr beyond ↦ tried.later n beyond within by ]
  ];
}
