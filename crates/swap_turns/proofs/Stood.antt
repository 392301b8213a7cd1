-- Which lab two sides stand for.
use Rattle.std.proofs.Common.{◌≡◌, ◌↔◌, ℕ, ◌+◌, ◌*◌, ◌^◌, ◌≤◌, true, List, [], ◌++◌, count_by, sym, ap, ◌∙◌, subst}
use Rattle.std.proofs.lemmas.List.{append-nil}
use Rattle.plant.specs.Disks.{disk, ArePossible}
use Rattle.plant.specs.Events.{Event}
use Rattle.plant.specs.declared.step.Side.{Side}
use Rattle.plant.specs.declared.step.Side.TheVariants.{A, B}
use Rattle.journal_rec.specs.declared.record.Record.{Record}
use Rattle.lab_model.specs.Sound.{is_moving}
use Rattle.journal_model.specs.Journals.{Records, Bad, journal_length}
use Rattle.journal_model.proofs.Readings.{records_once, records_or_bad}
use Rattle.records_model.specs.Labs.{LabState, Texts, AreCanonical, LabOf, StopsAt, at_first}
use Rattle.records_model.specs.Works.{IsSound}
use Rattle.records_model.proofs.LabLaws.{folds_once, folds_or_stops}
use Rattle.journal_disk.specs.Before.{AreAsBefore, AreSettled, ReadAlike, are_synced}
use Rattle.swap_turns.specs.Working.{StandForLab}
use Rattle.swap_turns.proofs.Sounds.{at_end}

-- what stands for a lab, and what the world keeps of it
pub sound_stands : (t : Texts) (trace : List Event) (a b : List ℕ) → ArePossible trace a b → IsSound t trace → (s : LabState) × StandForLab t a b s
sound_stands t trace a b possible sound =
    let f = (at_end t trace sound a b possible).1 in
    (f.state, record { records = f.records; read = f.read; lab_of = f.lab_of })

pub sound_not_bad : (t : Texts) (trace : List Event) (a b : List ℕ) (side : Side) (at : ℕ) → ArePossible trace a b → IsSound t trace → Bad a b side at → ⊥
sound_not_bad t trace a b side at possible sound bad =
    let f = (at_end t trace sound a b possible).1 in
    records_or_bad a b f.records side at f.read bad

pub sound_follows : (t : Texts) (trace : List Event) (a b : List ℕ) (rs : List Record) (n : ℕ) → ArePossible trace a b → IsSound t trace → AreCanonical t → Records a b rs → StopsAt t at_first rs n → ⊥
sound_follows t trace a b rs n possible sound can read stops =
    let f = (at_end t trace sound a b possible).1 in
    folds_or_stops t at_first rs f.state n can (subst (λ l. LabOf t l f.state) (records_once a b f.records rs f.read read) f.lab_of) stops

pub sound_room : (t : Texts) (trace : List Event) (a b : List ℕ) (rs : List Record) (s : LabState) → ArePossible trace a b → IsSound t trace → AreCanonical t → Records a b rs → LabOf t rs s
    → journal_length a b rs + 39 * count_by is_moving s.experiments ≤ 2 ^ 32
sound_room t trace a b rs s possible sound can read lab =
    let x = at_end t trace sound a b possible in
    let f = x.1 in
    let same = records_once a b f.records rs f.read read in
    let lab_is : f.state ≡ s = folds_once t at_first rs f.state s can (subst (λ l. LabOf t l f.state) same f.lab_of) lab in
    let size : x.0.size ≡ journal_length a b rs = ap (λ st. st.size) f.is ∙ ap (λ l. journal_length a b l) same in
    let moving : x.0.experiments ≡ s.experiments = ap (λ st. st.experiments) f.is ∙ ap (λ (u : LabState). u.experiments) lab_is in
    subst (λ n. n + 39 * count_by is_moving s.experiments ≤ 2 ^ 32) size (subst (λ es. x.0.size + 39 * count_by is_moving es ≤ 2 ^ 32) moving x.2.room)

pub stood_once : (t : Texts) (a b : List ℕ) (s u : LabState) → AreCanonical t → StandForLab t a b s → StandForLab t a b u → s ≡ u
stood_once t a b s u can p q =
    let same = records_once a b p.records q.records p.read q.read in
    folds_once t at_first q.records s u can (subst (λ l. LabOf t l s) same p.lab_of) q.lab_of

pub stood_alike : (t : Texts) (a b x y : List ℕ) (s : LabState) → ReadAlike a b x y → StandForLab t a b s ↔ StandForLab t x y s
stood_alike t a b x y s alike = (
  λ p. record { records = p.records; read = (alike.records p.records).0 p.read; lab_of = p.lab_of },
  λ p. record { records = p.records; read = (alike.records p.records).1 p.read; lab_of = p.lab_of },
)

pub stood_before : (t : Texts) (trace steps : List Event) (a b : List ℕ) → AreAsBefore trace steps → ArePossible (trace ++ steps) a b → IsSound t trace
    → (x y : List ℕ) × (s : LabState) × ArePossible trace x y × StandForLab t x y s × StandForLab t a b s
stood_before t trace steps a b before possible sound =
    let was = before steps [] (sym (append-nil steps)) a b possible in
    let lab = sound_stands t trace was.0 was.1 was.2 sound in
    (was.0, was.1, lab.0, was.2, lab.1, (stood_alike t a b was.0 was.1 lab.0 was.3).1 lab.1)

pub stood_settled : (t : Texts) (trace steps : List Event) (a b : List ℕ) (s : LabState) → AreSettled trace steps → are_synced steps ≡ true → ArePossible (trace ++ steps) a b
    → StandForLab t (disk A trace).reads (disk B trace).reads s → StandForLab t a b s
stood_settled t trace steps a b s settled synced possible was = (stood_alike t a b (disk A trace).reads (disk B trace).reads s (settled synced a b possible)).1 was
