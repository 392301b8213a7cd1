-- Records with the places of their gates, and the first one that can't follow.
use Rattle.std.specs.Prelude.{slice_get}
use Rattle.std.proofs.Common.{◌≡◌, inl, inr, ℕ, zero, suc, ◌+◌, ◌<◌, Some, List, [], ◌∷◌, length, map, drop, get_or, refl, sym, ap, ◌∙◌, subst, arith}
use Rattle.lab_base.specs.Lists.{Has}
use Rattle.plant.specs.declared.step.Side.{Side}
use Rattle.plant.specs.Sides.{of_side}
use Rattle.journal_rec.specs.declared.record.Record.{Record}
use Rattle.journal_rec.specs.declared.record.Found.{Found}
use Rattle.journal_rec.specs.Payloads.{IsRecord}
use Rattle.journal_model.specs.Journals.{Live, Reads, RecordsOf, size}
use Rattle.journal_disk.specs.Walks.{placed}
use Rattle.records_model.specs.Labs.{LabState, at_first, LabOf, StopsAt}
use Rattle.records_model.proofs.LabLaws.{stops_within}
use Rattle.lab_state.specs.Texts.{the_texts}
use Rattle.lab_state.specs.Replays.{records_of}
use Rattle.lab_sides.specs.declared.walking.Walked.{Walked}
use Rattle.lab_sides.specs.Reads.{Stands}
use Rattle.lab_look.specs.Looks.{HasLab, HasWrong}

pub records_placed : (gate : ℕ) (rs : List Record) → records_of (placed gate rs) ≡ rs
records_placed gate [] = refl
records_placed gate (r ∷ rs) = ap (λ (l : List Record). r ∷ l) (records_placed (gate + size r) rs)

length_placed : (gate : ℕ) (rs : List Record) → length (placed gate rs) ≡ length rs
length_placed gate [] = refl
length_placed gate (r ∷ rs) = ap suc (length_placed (gate + size r) rs)

read_records : (bytes : List ℕ) (gate : ℕ) (rs : List Record) → Reads bytes rs → (f : Found) → Has (placed gate rs) f → IsRecord f.entry
read_records bytes gate [] reads f among = absurd among
read_records bytes gate (r ∷ rs) reads f (inl same) = subst (λ (x : Found). IsRecord x.entry) same reads.1
read_records bytes gate (r ∷ rs) reads f (inr more) = read_records reads.0 (gate + size r) rs reads.3 f more

-- the records of a live side
side_reads : (a b : List ℕ) (side : Side) (w : Walked) (rs : List Record) → Stands a b side w rs → Reads (drop 17 (of_side side a b)) rs
side_reads a b side w rs s = subst (λ (l : Live). RecordsOf l a b rs) s.on_side s.records_are

pub are_records : (a b : List ℕ) (side : Side) (w : Walked) (rs : List Record) → Stands a b side w rs → (f : Found) → Has w.found f → IsRecord f.entry
are_records a b side w rs s f among = read_records (drop 17 (of_side side a b)) 17 rs (side_reads a b side w rs s) f (subst (λ (l : List Found). Has l f) s.found_so among)

pub rest_is : (a b : List ℕ) (side : Side) (w : Walked) (rs : List Record) → Stands a b side w rs → records_of w.found ≡ rs
rest_is a b side w rs s = ap records_of s.found_so ∙ records_placed 17 rs

pub has_lab : (a b : List ℕ) (side : Side) (w : Walked) (rs : List Record) (s : LabState) → Stands a b side w rs → LabOf the_texts (records_of w.found) s → HasLab a b side w s
has_lab a b side w rs s stands lab = record { rs = rs; stands = stands; lab_is = subst (λ (l : List Record). LabOf the_texts l s) (rest_is a b side w rs stands) lab }

pub wrong_within : (a b : List ℕ) (side : Side) (w : Walked) (rs : List Record) (n : ℕ) → Stands a b side w rs → StopsAt the_texts at_first (records_of w.found) n → n < length w.found
wrong_within a b side w rs n stands stops =
    omega (arith, stops_within the_texts at_first rs n (subst (λ (l : List Record). StopsAt the_texts at_first l n) (rest_is a b side w rs stands) stops), length_placed 17 rs, ap length stands.found_so)

pub gate_at : (fs : List Found) (n : ℕ) (f : Found) → n < length fs → f ≡ get_or fs n f → slice_get (map (λ g. g.at) fs) n ≡ Some f.at
gate_at [] n f inside is = absurd (omega (arith, inside))
gate_at (g ∷ fs) zero f inside is = ap (λ (x : Found). Some x.at) (sym is)
gate_at (g ∷ fs) (suc n) f inside is = gate_at fs n f (omega (arith, inside)) is

pub has_wrong : (a b : List ℕ) (side : Side) (w : Walked) (rs : List Record) (n at : ℕ) → Stands a b side w rs → StopsAt the_texts at_first (records_of w.found) n
    → slice_get (map (λ f. f.at) w.found) n ≡ Some at → HasWrong a b side at w
has_wrong a b side w rs n at stands stops place = record {
  rs = rs;
  stands = stands;
  index = n;
  stops = subst (λ (l : List Record). StopsAt the_texts at_first l n) (rest_is a b side w rs stands) stops;
  place = place;
}
