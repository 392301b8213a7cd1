-- Steps that keep the controller at work, and its trace sound.
use Rattle.std.proofs.Common.{◌+◌, Bool, map, Result, List, [], ◌∷◌, ◌++◌, sym, ◌∙◌, subst}
use Rattle.lab_base.specs.Lists.{Has, AllDiffer}
use Rattle.phys_lab.specs.Kept.{IsLab}
use Rattle.virt_topo.specs.declared.experiment.Experiment.{Experiment}
use Rattle.plant.specs.Worlds.{World, world_of}
use Rattle.plant.specs.Events.{Event, Did}
use Rattle.plant.specs.declared.step.Side.{Side}
use Rattle.plant.specs.declared.device.Answer.{Answer}
use Rattle.plant.specs.declared.device.Fault.{Fault}
use Rattle.plant.specs.declared.device.DeviceOp.{DeviceOp}
use Rattle.plant.proofs.Traces.{did_disk}
use Rattle.journal_rec.specs.declared.record.Record.{Record}
use Rattle.lab_model.specs.Parts.{Part, Parts}
use Rattle.lab_model.specs.Courses.{IsCommandOf}
use Rattle.lab_model.specs.Leavings.{did}
use Rattle.lab_model.specs.Sound.{Standing, Keeps, SoundAt}
use Rattle.journal_model.specs.Journals.{gate_after}
use Rattle.journal_model.specs.Appends.{other_side, Rests, Run, All, added, Opened}
use Rattle.lab_model.proofs.PartLaws.{whole_from_parts, parts_from_whole}
use Rattle.lab_model.proofs.Steps.{parts_after}
use Rattle.lab_model.proofs.TraceLaws.{same_or_not}
use Rattle.lab_model.proofs.OwnEvents.{did_push}
use Rattle.journal_model.proofs.Gates.{rests_image, on_shut}
use Rattle.journal_model.proofs.Runs.{run_disk, known_added, known_push}
use Rattle.records_model.specs.Labs.{LabState, Texts, LabOf, lab_in, Sane, KeepsParts}
use Rattle.records_model.specs.Appends.{standing, StandFor}
use Rattle.records_model.specs.Works.{IsSound, AtWork, MayAppend}
use Rattle.records_model.proofs.TraceLaws.{sound_push}
use Rattle.records_model.proofs.LabLaws.{lab_sane, follows_sane, follows_parts, folds_push}
use Rattle.records_model.proofs.Stages.{run_sound, world_added, stands_on}

-- A RECORD keeps what the world keeps
pub keeps_record : (t : Texts) (trace : List Event) (rs : List Record) (r : Record) (s u : LabState) → Sane s → MayAppend t trace rs s r u → Keeps (world_of trace) (standing s (gate_after rs + 1)) → Keeps (world_of trace) (standing u (gate_after (rs ++ r ∷ []) + 1))
keeps_record t trace rs r s u sane may keeps =
    let after : Sane u = follows_sane t s r u sane may.follows in
    let parts : KeepsParts (world_of trace) s = parts_from_whole (lab_in s.lab) s.experiments sane.is_lab keeps.holding (world_of trace) keeps.isolated keeps.cabled in
    let now : KeepsParts (world_of trace) u = follows_parts t s r u (world_of trace) sane may.follows may.ready parts in
    let whole = whole_from_parts (lab_in u.lab) u.experiments after.is_lab after.holding (world_of trace) now in
    record { holding = after.holding; isolated = whole.0; cabled = whole.1; room = may.room }

-- A DEVICE COMMAND keeps it, where its experiment's part stays
pub keeps_did : (st : Standing) (w : World) (by : Experiment) (op : DeviceOp) (applied : Bool) (answer : Result Answer Fault) → IsLab st.lab → AllDiffer (map (λ x. x.name) st.experiments) → Has st.experiments by → IsCommandOf st.lab by op → (Part st.lab w by → Part st.lab (did w op applied answer) by)
    → Keeps w st → Keeps (did w op applied answer) st
keeps_did st w by op applied answer is_lab names listed its stays keeps =
    let parts = parts_from_whole st.lab st.experiments is_lab keeps.holding w keeps.isolated keeps.cabled in
    let after : Parts st.lab st.experiments (did w op applied answer) =
    parts_after st.lab st.experiments is_lab keeps.holding w by op applied answer parts listed its
    (λ e in_e. same_or_not st.experiments e by names in_e listed) (stays (parts.each by listed)) in
    let whole = whole_from_parts st.lab st.experiments is_lab keeps.holding (did w op applied answer) after in
    record { holding = keeps.holding; isolated = whole.0; cabled = whole.1; room = keeps.room }

-- a moment at which the live side rests is sound
pub rest_sound : (t : Texts) (trace : List Event) (side : Side) (rs : List Record) (s : LabState) → Opened trace side rs → LabOf t rs s → Keeps (world_of trace) (standing s (gate_after rs + 1)) → SoundAt (λ a b x. StandFor t a b x) trace
rest_sound t trace side rs s opened lab keeps a b possible =
    let older = Rattle.journal_model.proofs.Runs.older_image trace side opened.epoch rs a b opened.known possible in
    let i = rests_image opened.epoch rs _ _ opened.rests (Rattle.journal_model.proofs.Runs.possible_at side trace a b possible) in
    (standing s (gate_after rs + 1), stands_on t side a b rs s lab (on_shut side opened.epoch rs a b i.0 i.1 opened.known.eight opened.known.written older i.2 i.3), keeps)

pub opened_did : (trace : List Event) (side : Side) (rs : List Record) (op : DeviceOp) (applied : Bool) (answer : Result Answer Fault) → Opened trace side rs → Opened (trace ++ Did op applied answer ∷ []) side rs
opened_did trace side rs op applied answer opened = record {
  epoch = opened.epoch;
  known = record {
    eight = opened.known.eight;
    written = opened.known.written;
    other = opened.known.other;
    there = did_disk (other_side side) trace op applied answer ∙ opened.known.there;
    older = opened.known.older;
  };
  rests = subst (λ d. Rests d opened.epoch rs) (sym (did_disk side trace op applied answer)) opened.rests;
}

-- AN APPEND: every part of it leaves the trace sound, and the whole leaves the controller at work
pub append_sound : (t : Texts) (trace : List Event) (side : Side) (rs : List Record) (s : LabState) (r : Record) (u : LabState) → AtWork t trace side rs s → MayAppend t trace rs s r u → (run : Run) → IsSound t (trace ++ added side (gate_after rs) r run)
append_sound t trace side rs s r u work may run =
    let after = keeps_record t trace rs r s u (lab_sane t rs s work.lab_of) may work.keeps in
    run_sound t trace side work.opened.epoch rs r s u work.opened.known work.opened.rests may.is_record work.lab_of may.follows work.keeps after run work.sound

pub append_works : (t : Texts) (trace : List Event) (side : Side) (rs : List Record) (s : LabState) (r : Record) (u : LabState) → AtWork t trace side rs s → MayAppend t trace rs s r u → AtWork t (trace ++ added side (gate_after rs) r All) side (rs ++ r ∷ []) u
append_works t trace side rs s r u work may =
    let after = keeps_record t trace rs r s u (lab_sane t rs s work.lab_of) may work.keeps in
    record {
      opened = record {
        epoch = work.opened.epoch;
        known = known_push (trace ++ added side (gate_after rs) r All) side work.opened.epoch rs r may.is_record (known_added trace side work.opened.epoch rs (gate_after rs) r All work.opened.known);
        rests = run_disk trace side work.opened.epoch rs r All work.opened.known.eight work.opened.rests;
      };
      lab_of = folds_push t _ rs r s u work.lab_of may.follows;
      keeps = subst (λ w. Keeps w (standing u (gate_after (rs ++ r ∷ []) + 1))) (sym (world_added trace side (gate_after rs) r All)) after;
      sound = append_sound t trace side rs s r u work may All;
    }

-- A DEVICE COMMAND, applied or not, whatever it answers
pub did_works : (t : Texts) (trace : List Event) (side : Side) (rs : List Record) (s : LabState) (by : Experiment) (op : DeviceOp) (applied : Bool) (answer : Result Answer Fault) → AtWork t trace side rs s → Has s.experiments by → IsCommandOf (lab_in s.lab) by op
    → (Part (lab_in s.lab) (world_of trace) by → Part (lab_in s.lab) (did (world_of trace) op applied answer) by) → AtWork t (trace ++ Did op applied answer ∷ []) side rs s
did_works t trace side rs s by op applied answer work listed its stays =
    let sane = lab_sane t rs s work.lab_of in
    let keeps : Keeps (world_of (trace ++ Did op applied answer ∷ [])) (standing s (gate_after rs + 1)) =
    subst (λ w. Keeps w (standing s (gate_after rs + 1))) (sym (did_push trace op applied answer))
    (keeps_did (standing s (gate_after rs + 1)) (world_of trace) by op applied answer sane.is_lab sane.names listed its stays work.keeps) in
    let opened = opened_did trace side rs op applied answer work.opened in
    record {
      opened = opened;
      lab_of = work.lab_of;
      keeps = keeps;
      sound = sound_push (λ a b x. StandFor t a b x) trace (Did op applied answer) work.sound (rest_sound t (trace ++ Did op applied answer ∷ []) side rs s opened work.lab_of keeps);
    }
