-- A fact at each prefix of some steps.
use Rattle.std.proofs.Common.{◌≡◌, ℕ, List, [], ◌∷◌, ◌++◌, refl, ◌∙◌, subst}
use Rattle.plant.specs.Disks.{Disk, disk, disk_after, IsImage, ArePossible}
use Rattle.plant.specs.Events.{Event, Missed}
use Rattle.plant.specs.declared.step.Side.{Side}
use Rattle.plant.specs.declared.step.Side.TheVariants.{A, B}
use Rattle.plant.proofs.Traces.{disk_push}

abbrev pub AllPrefixes : (List Event → Type 0) → List Event → Type 0
AllPrefixes P [] = P []
AllPrefixes P (x ∷ xs) = P [] × AllPrefixes (λ l. P (x ∷ l)) xs

pub each_prefix : (P : List Event → Type 0) (steps front back : List Event) → AllPrefixes P steps → steps ≡ front ++ back → P front
each_prefix P [] [] back h e = h
each_prefix P [] (x ∷ front) back h e = absurd (cc e)
each_prefix P (y ∷ steps) [] back h e = h.0
each_prefix P (y ∷ steps) (x ∷ front) back h e =
    subst (λ (z : Event). P (z ∷ front)) (first e) (each_prefix (λ l. P (y ∷ l)) steps front back h.1 (rest e))
  where
    first : {x y : Event} {xs ys : List Event} → y ∷ ys ≡ x ∷ xs → y ≡ x
    first e = cc

    rest : {x y : Event} {xs ys : List Event} → y ∷ ys ≡ x ∷ xs → ys ≡ xs
    rest e = cc

-- a step more
pub one_more : (P : List Event → Type 0) (steps : List Event) (step : Event) → AllPrefixes P steps → P (steps ++ step ∷ []) → AllPrefixes P (steps ++ step ∷ [])
one_more P [] step h here = (h, here)
one_more P (x ∷ steps) step h here = (h.0, one_more (λ l. P (x ∷ l)) steps step h.1 here)

-- a call that missed leaves the images
pub missed_images : (side : Side) (trace : List Event) (a b : List ℕ) → ArePossible (trace ++ Missed side ∷ []) a b → ArePossible trace a b
missed_images side trace a b possible = (subst (λ d. IsImage d a) (disk_push A trace (Missed side) ∙ same A side (disk A trace)) possible.0, subst (λ d. IsImage d b) (disk_push B trace (Missed side) ∙ same B side (disk B trace)) possible.1)
  where
    same : (s side : Side) (d : Disk) → disk_after s d (Missed side) ≡ d
    same A side d = refl
    same B side d = refl
