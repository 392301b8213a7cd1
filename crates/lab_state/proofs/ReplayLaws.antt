-- The fold of a list of records.
use Rattle.std.proofs.Common.{◌≡◌, ◌<◌, ◌+◌, ℕ, zero, suc, List, [], ◌∷◌, ◌++◌, length, take, drop, get_or, refl, sym, ap, subst, ◌∙◌, arith, Err}
use Rattle.std.proofs.lemmas.List.{map-append, take_more}
use Rattle.journal_rec.specs.declared.record.Found.{Found}
use Rattle.journal_rec.specs.declared.record.Record.{Record}
use Rattle.records_model.specs.Labs.{LabState, at_first, Follows, FoldsTo, CannotFollow, StopsAt, LabOf}
use Rattle.records_model.proofs.LabLaws.{folds_push}
use Rattle.lab_state.specs.Texts.{the_texts}
use Rattle.lab_state.specs.declared.fault.ReplayFault.{ReplayFault}
use Rattle.lab_state.specs.declared.fault.ReplayFault.TheVariants as faults
use Rattle.lab_state.specs.Replays.{records_of, IsFollowed, IsStopped}

-- the record after those that were followed is the first that can't follow
pub stops_after : (s mid : LabState) (rs : List Record) (r : Record) (rest : List Record) → FoldsTo the_texts s rs mid → CannotFollow the_texts mid r → StopsAt the_texts s (rs ++ r ∷ rest) (length rs)
stops_after s mid [] r rest folds cannot = subst (λ x. CannotFollow the_texts x r) (sym folds) cannot
stops_after s mid (q ∷ rs) r rest folds cannot = (folds.0, folds.1, stops_after folds.0 mid rs r rest folds.2 cannot)

length_records : (founds : List Found) → length (records_of founds) ≡ length founds
length_records [] = refl
length_records (f ∷ founds) = ap suc (length_records founds)

length_taken : (founds : List Found) (n : ℕ) → n < length founds → length (take n founds) ≡ n
length_taken [] n h = absurd (omega (arith, h))
length_taken (f ∷ founds) zero h = refl
length_taken (f ∷ founds) (suc n) h = ap suc (length_taken founds n (omega (arith, h)))

parts_are : (founds : List Found) (n : ℕ) (d : Found) → n < length founds → founds ≡ take n founds ++ get_or founds n d ∷ drop (suc n) founds
parts_are [] n d h = absurd (omega (arith, h))
parts_are (f ∷ founds) zero d h = refl
parts_are (f ∷ founds) (suc n) d h = ap (λ l. f ∷ l) (parts_are founds n d (omega (arith, h)))

-- one record more
pub followed : (founds : List Found) (n : ℕ) (found : Found) (s u : LabState) → n < length founds → found ≡ get_or founds n found → LabOf the_texts (records_of (take n founds)) s
    → Follows the_texts s found.entry u → LabOf the_texts (records_of (take (n + 1) founds)) u
followed founds n found s u h is lab follows =
    let more : take (n + 1) founds ≡ take n founds ++ found ∷ [] = take_more founds n found h ∙ ap (λ (f : Found). take n founds ++ f ∷ []) (sym is) in
    subst (λ rs. LabOf the_texts rs u) (sym (ap records_of more ∙ map-append (λ (f : Found). f.entry) (take n founds) (found ∷ [])))
    (folds_push the_texts at_first (records_of (take n founds)) found.entry s u lab follows)

-- or none
pub stopped : (founds : List Found) (n : ℕ) (found : Found) (s : LabState) → n < length founds → found ≡ get_or founds n found → LabOf the_texts (records_of (take n founds)) s
    → CannotFollow the_texts s found.entry → StopsAt the_texts at_first (records_of founds) n
stopped founds n found s h is lab cannot =
    let whole : founds ≡ take n founds ++ found ∷ drop (suc n) founds = parts_are founds n found h ∙ ap (λ (f : Found). take n founds ++ f ∷ drop (suc n) founds) (sym is) in
    let records : records_of (take n founds) ++ found.entry ∷ records_of (drop (suc n) founds) ≡ records_of founds
    = sym (map-append (λ (f : Found). f.entry) (take n founds) (found ∷ drop (suc n) founds)) ∙ ap records_of (sym whole) in
    let claimed_lab : length (records_of (take n founds)) ≡ n = length_records (take n founds) ∙ length_taken founds n h in
    subst (λ rs. StopsAt the_texts at_first rs n) records
    (subst (λ k. StopsAt the_texts at_first (records_of (take n founds) ++ found.entry ∷ records_of (drop (suc n) founds)) k) claimed_lab
    (stops_after at_first s (records_of (take n founds)) found.entry (records_of (drop (suc n) founds)) lab cannot))

pub stopped_at : (founds : List Found) (n : ℕ) (found : Found) (s u : LabState) (fault : ReplayFault) → n < length founds → found ≡ get_or founds n found → LabOf the_texts (records_of (take n founds)) s
    → IsFollowed {X = Unit {0}} s found.entry n (Err fault) u → IsStopped {X = Unit {0}} (records_of founds) (Err fault)
stopped_at founds n found s u (faults.Bad index) h is lab answer =
    subst (λ k. StopsAt the_texts at_first (records_of founds) k) (sym answer.0) (stopped founds n found s h is lab answer.1)
stopped_at founds n found s u faults.Memory h is lab answer = tt
