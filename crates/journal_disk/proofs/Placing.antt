-- Where the journal stands, by the heads of both sides.
use Rattle.std.proofs.Common.{◌≡◌, ℕ, ◌≤◌, Bool, true, false, if◌then◌else◌, List, length, refl, ap}
use Rattle.plant.specs.declared.step.Side.{Side}
use Rattle.plant.specs.declared.step.Side.TheVariants.{A, B}
use Rattle.plant.specs.Sides.{of_side}
use Rattle.journal_model.specs.Journals.{Head, Blank, Foreign, Headed, head, Live, New, On, Wrong, live}
use Rattle.journal_model.proofs.Syncs.{live_back, headed_long}
use Rattle.journal_disk.specs.declared.heads.LiveSide.TheVariants as places
use Rattle.journal_disk.specs.Heads.{seen, seen_live, place_of}

chosen : (t u : Bool) → (if t then places.Wrong A else if u then places.On A else places.On B) ≡ seen_live (if t then Wrong A else if u then On A else On B)
chosen true u = refl
chosen false true = refl
chosen false false = refl

pub place_live : (x y : Head) → place_of (seen x) (seen y) ≡ seen_live (live x y)
place_live Foreign y = refl
place_live Blank Foreign = refl
place_live Blank Blank = refl
place_live Blank (Headed n) = refl
place_live (Headed m) Foreign = refl
place_live (Headed m) Blank = refl
place_live (Headed m) (Headed n) = chosen _ _

pub on_live : (l : Live) (side : Side) → seen_live l ≡ places.On side → l ≡ On side
on_live New side e = absurd (cc e)
on_live (On s) side e = ap On (inside e)
  where
    inside : places.On s ≡ places.On side → s ≡ side
    inside e = cc
on_live (Wrong s) side e = absurd (cc e)

pub new_live : (l : Live) → seen_live l ≡ places.New → l ≡ New
new_live New e = refl
new_live (On s) e = absurd (cc e)
new_live (Wrong s) e = absurd (cc e)

pub wrong_live : (l : Live) (side : Side) → seen_live l ≡ places.Wrong side → l ≡ Wrong side
wrong_live New side e = absurd (cc e)
wrong_live (On s) side e = absurd (cc e)
wrong_live (Wrong s) side e = ap Wrong (inside e)
  where
    inside : places.Wrong s ≡ places.Wrong side → s ≡ side
    inside e = cc

-- a live side has a header
pub has_header : (a b : List ℕ) (side : Side) → live (head a) (head b) ≡ On side → 18 ≤ length (of_side side a b)
has_header a b side e = let h = live_back side a b e in headed_long (of_side side a b) h.0 h.1
