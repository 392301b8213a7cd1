-- A loss is a stop at the moment of the text that is left.
use Rattle.std.proofs.Common.{◌≡◌, inl, inr, true, List, [], ◌∷◌, ◌++◌, refl, sym, ap, ◌∙◌, subst, take, drop, length, arith}
use Rattle.std.specs.List.{list_all}
use Rattle.std.proofs.lemmas.List.{take_all, drop_all}
use Rattle.std.proofs.lemmas.List.Sums.{fold-append}
use Rattle.lab_base.specs.Lists.{Has}
use Rattle.plant.specs.Disks.{ArePossible}
use Rattle.plant.specs.Events.{Event, Restarted}
use Rattle.plant.specs.Worlds.{World, blank, world_after, world_of}
use Rattle.folder.specs.Folders.{Held, Old}
use Rattle.folder.specs.Lost.{newest, Lost}
use Rattle.folder.specs.Lost as folders
use Rattle.plant_file.specs.Standing.{Stands, IsOld, Keeps, is_beside}
use Rattle.plant_file.specs.Stops.{LossesAreStops}

own : (h : Held) → Keeps h → IsOld h (newest h)
own h keeps =
    let all : take (length h.past.trace) h.past.trace ≡ h.past.trace = take_all (length h.past.trace) h.past.trace (omega arith) in
    let none : drop (length h.past.trace) h.past.trace ≡ [] = drop_all (length h.past.trace) h.past.trace (omega arith) in
    record {
      within = omega arith;
      stands = subst (λ (t : List Event). Stands (world_of t) h.text) (sym all) keeps.fits;
      possible = λ a b p. subst (λ (t : List Event). ArePossible t a b) (sym all) p;
      beside = subst (λ (t : List Event). list_all is_beside t ≡ true) (sym none) refl;
    }

left_is : (h : Held) (old : Old) → Keeps h → Has (newest h ∷ h.older) old → IsOld h old
left_is h old keeps (inl same) = subst (IsOld h) same (own h keeps)
left_is h old keeps (inr has) = keeps.olds old has

pub losses : LossesAreStops
losses h now old a b keeps lost =
    let o = left_is h old keeps lost.left in
    let cut : List Event = take old.at h.past.trace in
    let same : world_of (cut ++ Restarted a b ∷ []) ≡ world_of cut = fold-append world_after blank cut (Restarted a b ∷ []) in
    let there : Stands (world_of (cut ++ Restarted a b ∷ [])) old.text = subst (λ (w : World). Stands w old.text) (sym same) o.stands in (
      record {
        fits = subst (λ (t : List Event). Stands (world_of t) now.text) (sym lost.trace) (subst (Stands (world_of (cut ++ Restarted a b ∷ []))) (sym lost.text) there);
        olds = λ x has. absurd (subst (λ (l : List Old). Has l x) lost.older has);
      },
      record { possible = o.possible a b lost.possible; world = ap world_of lost.trace ∙ same; beside = o.beside },
    )

pub blank_keeps : Keeps folders.blank
blank_keeps = record {
  fits = record { reads = refl; known = record { rows = λ row. refl; os = λ name. refl; pipes = λ name k. refl; boot = λ name state is. is } };
  olds = λ old has. absurd has;
}
