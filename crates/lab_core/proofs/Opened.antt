-- The controller that an opening makes of the records that it found.
use Rattle.std.proofs.Common.{◌≡◌, ℕ, zero, suc, ◌+◌, ◌<◌, Bool, true, false, if◌then◌else◌, List, [], ◌∷◌, length, map, take, Some, inl, refl, sym, ap, subst, ◌∙◌, arith, Err}
use Rattle.std.specs.Prelude.{count_by, sum_by, slice_get, slice_index_or}
use Rattle.std.proofs.lemmas.List.Sums.{count_by_more_no, count_by_more_yes, sum_by-cons}
use Rattle.std.proofs.lemmas.List.{length-map}
use Rattle.std.proofs.lemmas.Option.{slice_get_within, get_or_from_slice_get}
use Rattle.virt_topo.specs.declared.experiment.Experiment.{Experiment}
use Rattle.journal_rec.specs.declared.record.Record.{Record}
use Rattle.journal_rec.specs.declared.record.Found.{Found}
use Rattle.journal_model.specs.Journals.{size}
use Rattle.lab_model.specs.Sound.{is_moving}
use Rattle.records_model.specs.Labs.{LabState, StopsAt, LabOf, at_first}
use Rattle.plant.specs.declared.step.Side.{Side}
use Rattle.records_model.proofs.LabLaws.{stops_within}
use Rattle.journal_disk.specs.Walks.{placed}
use Rattle.journal_disk.specs.Standing.{side_of, Holds}
use Rattle.journal_disk.specs.declared.journal.Journal.{Journal}
use Rattle.journal_disk.specs.declared.fault.OpenFault.TheVariants as faults
use Rattle.lab_state.specs.Texts.{the_texts}
use Rattle.lab_state.specs.Replays.{records_of}
use Rattle.lab_core.specs.Opening.{IsOfJournal}

-- ONE EXPERIMENT MORE is counted where it moves
pub one_more : (es : List Experiment) (n : ℕ) (x : Experiment) (b : Bool) → slice_get es n ≡ Some x → b ≡ is_moving x
    → count_by is_moving (take (n + 1) es) ≡ count_by is_moving (take n es) + (if b then 1 else 0)
one_more es n x true is moves = count_by_more_yes is_moving es n x (slice_get_within es n x is) (ap is_moving (get_or_from_slice_get es n x x is) ∙ sym moves)
one_more es n x false is moves =
    count_by_more_no is_moving es n x (slice_get_within es n x is) (ap is_moving (get_or_from_slice_get es n x x is) ∙ sym moves) ∙ omega arith

-- below the length an experiment stands
-- THE RECORDS that were found, with their places
pub records_of_placed : (gate : ℕ) (rs : List Record) → map (λ f. f.entry) (placed gate rs) ≡ rs
records_of_placed gate [] = refl
records_of_placed gate (r ∷ rs) = ap (λ l. r ∷ l) (records_of_placed (gate + size r) rs)

-- a record's place is the gate after those before it
pub place_of : (gate : ℕ) (rs : List Record) (n : ℕ) (d : Found) → n < length rs → (slice_index_or (placed gate rs) n d).at ≡ gate + sum_by size (take n rs)
place_of gate [] n d within = absurd (omega (arith, within))
place_of gate (r ∷ rs) zero d within = omega arith
place_of gate (r ∷ rs) (suc n) d within = place_of (gate + size r) rs n d (omega (arith, within)) ∙ omega (arith, sum_by-cons size r (take n rs))

-- its number is below the length of what was found
pub bad_within : (founds : List Found) (n : ℕ) → StopsAt the_texts at_first (records_of founds) n → n < length founds
bad_within founds n stops = omega (arith, stops_within the_texts at_first (records_of founds) n stops, length-map founds (λ f. f.entry))

-- the records that were found are those that the journal holds
pub are_held : (rs : List Record) (j : Journal) (founds : List Found) → Holds rs j founds → records_of founds ≡ rs
are_held rs j founds holds = ap records_of holds.found_so ∙ records_of_placed 17 rs

-- ONE THAT CAN'T FOLLOW, with its gate
pub at_bad : (limit : ℕ) (rs : List Record) (j : Journal) (founds : List Found) (n : ℕ) (x : Found) (side : Side) (at : ℕ) → Holds rs j founds
    → StopsAt the_texts at_first (records_of founds) n → side ≡ side_of j → slice_get founds n ≡ Some x → at ≡ x.at
    → IsOfJournal limit j rs (Err (faults.Bad side at))
at_bad limit rs j founds n x side at holds stops sided there placed_so =
    let held = are_held rs j founds holds in
    let stops_so = subst (λ (l : List Record). StopsAt the_texts at_first l n) held stops in
    let there_so = subst (λ (l : List Found). slice_get l n ≡ Some x) holds.found_so there in
    let gate = place_of 17 rs n x (stops_within the_texts at_first rs n stops_so) in
    (sided, inl (n, stops_so, placed_so ∙ ap (λ f. f.at) (sym (get_or_from_slice_get (placed 17 rs) n x x there_so)) ∙ gate))

-- the lab of the records that were found is that of those that the journal holds
pub lab_held : (rs : List Record) (j : Journal) (founds : List Found) (s : LabState) → Holds rs j founds → LabOf the_texts (records_of founds) s → LabOf the_texts rs s
lab_held rs j founds s holds lab_of = subst (λ (l : List Record). LabOf the_texts l s) (are_held rs j founds holds) lab_of
