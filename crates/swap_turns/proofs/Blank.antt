-- A plant to which nothing was done, and one that was started again.
use Rattle.std.proofs.Common.{◌≡◌, ℕ, List, [], ◌∷◌, ◌++◌, refl, sym, ap, subst, arith}
use Rattle.std.proofs.lemmas.List.{take_all}
use Rattle.plant.specs.Disks.{Disk, IsImage, at_once, disk, ArePossible}
use Rattle.plant.specs.Events.{Event, Restarted}
use Rattle.plant.specs.Worlds.{blank}
use Rattle.plant.specs.declared.step.Side.TheVariants.{A, B}
use Rattle.plant.proofs.Images.{once_image}
use Rattle.plant.proofs.Traces.{disk_push}
use Rattle.lab_model.specs.Parts.{Parts}
use Rattle.lab_model.specs.Sound.{Keeps, SoundAt}
use Rattle.lab_model.proofs.PartLaws.{whole_from_parts}
use Rattle.journal_model.specs.Journals.{head}
use Rattle.journal_model.proofs.Images.{synced_image}
use Rattle.records_model.specs.Labs.{LabState, Texts, at_first, no_lab}
use Rattle.records_model.specs.Appends.{standing, StandFor}
use Rattle.records_model.specs.Openings.{Blanks}
use Rattle.records_model.specs.Works.{IsSound}
use Rattle.records_model.proofs.LabLaws.{first_sane}
use Rattle.records_model.proofs.Making.{blank_sound}
use Rattle.swap_turns.specs.Working.{StandForLab}

no_parts : Parts no_lab [] blank
no_parts = record {
  wanted = λ row is. absurd (cc is);
  free = λ name none. record { os = refl; pipes = λ k. refl; boot = refl };
  each = λ e listed. absurd listed;
}

blank_keeps : Keeps blank (standing at_first 0)
blank_keeps =
    let whole = whole_from_parts no_lab [] first_sane.is_lab first_sane.holding blank no_parts in
    record { holding = first_sane.holding; isolated = whole.0; cabled = whole.1; room = omega arith }

blanks : Blanks []
blanks = record { other = []; there = refl; blank_there = refl; keeps = blank_keeps }

pub nothing_sound : (t : Texts) → IsSound t []
nothing_sound t n within =
    subst (λ l. SoundAt (λ a b s. StandFor t a b s) l) (sym (take_all n [] (omega arith)))
    (blank_sound t [] blanks (λ x is. ap head (synced_image (at_once []) x is)))

-- after a start there is one image: that with which it started
pub restarted_alone : (trace : List Event) (a b c d : List ℕ) → ArePossible (trace ++ Restarted a b ∷ []) c d → (c ≡ a) × (d ≡ b)
restarted_alone trace a b c d possible = (
  synced_image (at_once a) c (subst (λ x. IsImage x c) (disk_push A trace (Restarted a b)) possible.0),
  synced_image (at_once b) d (subst (λ x. IsImage x d) (disk_push B trace (Restarted a b)) possible.1),
)

pub restarted_reads : (trace : List Event) (a b : List ℕ) → ((disk A (trace ++ Restarted a b ∷ [])).reads ≡ a) × ((disk B (trace ++ Restarted a b ∷ [])).reads ≡ b)
restarted_reads trace a b = (ap (λ (d : Disk). d.reads) (disk_push A trace (Restarted a b)), ap (λ (d : Disk). d.reads) (disk_push B trace (Restarted a b)))

pub restarted_possible : (trace : List Event) (a b : List ℕ) → ArePossible (trace ++ Restarted a b ∷ []) a b
restarted_possible trace a b = (
  subst (λ d. IsImage d a) (sym (disk_push A trace (Restarted a b))) (once_image a),
  subst (λ d. IsImage d b) (sym (disk_push B trace (Restarted a b))) (once_image b),
)

pub restarted_stand : (t : Texts) (trace : List Event) (a b : List ℕ) (s : LabState) → StandForLab t a b s → (c d : List ℕ) → ArePossible (trace ++ Restarted a b ∷ []) c d → StandForLab t c d s
restarted_stand t trace a b s was c d possible =
    let same = restarted_alone trace a b c d possible in
    subst (λ x. StandForLab t x d s) (sym same.0) (subst (λ x. StandForLab t a x s) (sym same.1) was)
