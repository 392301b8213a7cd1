-- Both sides, by a walk over the live one.
use Rattle.std.proofs.Common.{◌≡◌, inl, inr, ℕ, List, [], refl, sym, subst}
use Rattle.plant.specs.declared.step.Side.{Side}
use Rattle.plant.specs.Sides.{of_side}
use Rattle.journal_rec.specs.declared.record.Found.{Found}
use Rattle.journal_model.specs.Journals.{head, Live, On, Wrong, live, RecordsOf, BadOf}
use Rattle.journal_disk.proofs.Placing.{has_header, on_live, new_live, wrong_live}
use Rattle.lab_sides.specs.declared.walking.Ended.TheVariants.{Whole, Torn}
use Rattle.lab_sides.specs.declared.walking.Walked.{Walked}
use Rattle.lab_sides.specs.declared.read.Read.TheVariants as reads
use Rattle.lab_sides.specs.Walks.{IsWalk}
use Rattle.lab_sides.specs.Reads.{IsRead}

pub whole_read : (a b : List ℕ) (side : Side) (w : Walked) → live (head a) (head b) ≡ On side → IsWalk (of_side side a b) (Whole w) → IsRead a b (reads.On side w)
whole_read a b side w e walk = (
  walk.0,
  record {
    on_side = e;
    records_are = subst (λ (l : Live). RecordsOf l a b walk.0) (sym e) walk.1;
    found_so = walk.2;
    gate_is = walk.3;
    inside = walk.4;
  },
)

pub torn_read : (a b : List ℕ) (side : Side) (w : Walked) → live (head a) (head b) ≡ On side → IsWalk (of_side side a b) (Torn w) → IsRead a b (reads.Bad side w.gate w.found)
torn_read a b side w e walk = record {
  bad = subst (λ (l : Live). BadOf l a b side w.gate) (sym e) (refl, (walk.0, walk.1, walk.3));
  before_are = inr (walk.0, walk.1, walk.2, walk.3);
}

pub wrong_read : (a b : List ℕ) (side : Side) (before : List Found) → live (head a) (head b) ≡ Wrong side → before ≡ [] → IsRead a b (reads.Bad side 0 before)
wrong_read a b side before e none = record {
  bad = subst (λ (l : Live). BadOf l a b side 0) (sym e) (refl, refl);
  before_are = inl (refl, none);
}

pub ruleset live_sides = (has_header, whole_read, torn_read, wrong_read, on_live, new_live, wrong_live)
