-- Two sides are a journal or not, and not both.
use Rattle.std.proofs.Common.{◌≡◌, inr, ℕ, ◌+◌, ◌*◌, ◌≤◌, List, ◌++◌, count_by, take, refl, sym, ap, subst, ◌∙◌, arith}
use Rattle.plant.specs.Disks.{disk}
use Rattle.plant.specs.Events.{Event}
use Rattle.plant.specs.declared.step.Side.{Side}
use Rattle.plant.specs.declared.step.Side.TheVariants.{A, B}
use Rattle.journal_rec.specs.declared.record.Record.{Record}
use Rattle.lab_model.specs.Sound.{is_moving}
use Rattle.journal_model.specs.Journals.{Records, Live, New, On, gate_after, head, live}
use Rattle.journal_model.proofs.Readings.{records_once, records_or_bad, bad_once}
use Rattle.records_model.specs.Labs.{LabState, LabOf, StopsAt, at_first}
use Rattle.records_model.proofs.LabLaws.{folds_once, folds_or_stops, stops_once}
use Rattle.lab_state.specs.Texts.{the_texts}
use Rattle.lab_state.proofs.Canonical.{texts_once}
use Rattle.lab_core.specs.Moments.{IsLiveAt, IsNoJournal, bad, cannot_follow, no_room}
use Rattle.lab_core.specs.Opening.{HasRead, IsJournal}
use Rattle.lab_core.proofs.Compacting.{live_once}

lab_as : (a b : List ℕ) (rs ss : List Record) (s : LabState) → Records a b rs → Records a b ss → LabOf the_texts rs s → LabOf the_texts ss s
lab_as a b rs ss s read other lab = subst (λ l. LabOf the_texts l s) (records_once a b rs ss read other) lab

stops_as : (a b : List ℕ) (rs ss : List Record) (n : ℕ) → Records a b rs → Records a b ss → StopsAt the_texts at_first rs n → StopsAt the_texts at_first ss n
stops_as a b rs ss n read other stops = subst (λ l. StopsAt the_texts at_first l n) (records_once a b rs ss read other) stops

pub not_both : (a b : List ℕ) (limit : ℕ) (side : Side) (at : ℕ) → IsJournal a b limit → IsNoJournal a b limit side at → ⊥
not_both a b limit side at is (bad wrong) = records_or_bad a b is.records side at is.read wrong
not_both a b limit side at is (cannot_follow rs n read on stops there) = folds_or_stops the_texts at_first rs is.lab n texts_once (lab_as a b is.records rs is.lab is.read read is.lab_of) stops
not_both a b limit side at is (no_room rs s read on lab less there) =
    let lab_is = folds_once the_texts at_first rs is.lab s texts_once (lab_as a b is.records rs is.lab is.read read is.lab_of) lab in
    omega (arith, less, subst (λ (u : LabState). gate_after rs + 1 + 39 * count_by is_moving u.experiments ≤ limit) lab_is (subst (λ l. gate_after l + 1 + 39 * count_by is_moving is.lab.experiments ≤ limit) (records_once a b is.records rs is.read read) is.room))

same_side : (l : Live) (side tide : Side) → l ≡ On side → l ≡ On tide → side ≡ tide
same_side l side tide one other = cc (one, other)

pub one_place : (a b : List ℕ) (limit : ℕ) (side tide : Side) (at au : ℕ) → IsNoJournal a b limit side at → IsNoJournal a b limit tide au → (side ≡ tide) × (at ≡ au)
one_place a b limit side tide at au (bad x) (bad y) = bad_once a b side tide at au x y
one_place a b limit side tide at au (bad x) (cannot_follow rs n read on stops there) = absurd (records_or_bad a b rs side at read x)
one_place a b limit side tide at au (bad x) (no_room rs s read on lab less there) = absurd (records_or_bad a b rs side at read x)
one_place a b limit side tide at au (cannot_follow rs n read on stops there) (bad y) = absurd (records_or_bad a b rs tide au read y)
one_place a b limit side tide at au (cannot_follow rs n read on stops there) (cannot_follow ss m other_read other_on other_stops other_there) =
    let same = records_once a b rs ss read other_read in
    let number = stops_once the_texts at_first ss n m texts_once (stops_as a b rs ss n read other_read stops) other_stops in
    (same_side _ side tide on other_on, there ∙ (λ i. gate_after (take (number i) (same i))) ∙ sym other_there)
one_place a b limit side tide at au (cannot_follow rs n read on stops there) (no_room ss s other_read other_on lab less other_there) =
    absurd (folds_or_stops the_texts at_first ss s n texts_once lab (stops_as a b rs ss n read other_read stops))
one_place a b limit side tide at au (no_room rs s read on lab less there) (bad y) = absurd (records_or_bad a b rs tide au read y)
one_place a b limit side tide at au (no_room rs s read on lab less there) (cannot_follow ss n other_read other_on stops other_there) =
    absurd (folds_or_stops the_texts at_first rs s n texts_once lab (stops_as a b ss rs n other_read read stops))
one_place a b limit side tide at au (no_room rs s read on lab less there) (no_room ss u other_read other_on other_lab other_less other_there) =
    (same_side _ side tide on other_on, there ∙ ap gate_after (records_once a b rs ss read other_read) ∙ sym other_there)

-- A NEW JOURNAL stands on side A, with epoch 1
pub first_journal : (trace reading : List Event) (limit : ℕ) (start : LabState) (side : Side) (epoch : ℕ) → HasRead trace reading limit start → live (head (disk A trace).reads) (head (disk B trace).reads) ≡ New → IsLiveAt (trace ++ reading) side epoch
    → (side ≡ A) × (epoch ≡ 1)
first_journal trace reading limit start side epoch read new is = live_once (trace ++ reading) side A epoch 1 is (read.kept A 1 (inr (new, refl, refl)))
