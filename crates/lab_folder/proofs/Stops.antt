-- A stop leaves a sound trace.
use Rattle.std.proofs.Common.{◌≡◌, ◌≤◌, ◌<◌, ◌+◌, ◌⊎◌, inl, inr, ℕ, List, [], ◌∷◌, ◌++◌, refl, sym, ap, ◌∙◌, subst, length, take, arith, length-append}
use Rattle.std.proofs.lemmas.Bool.{cases_lt}
use Rattle.std.proofs.lemmas.List.{take-append-le, take-take, take_all, length-take-le, ext_get_or}
use Rattle.std.proofs.lemmas.List.Sums.{fold-append}
use Rattle.plant.specs.Disks.{Disk, disk, disk_after, at_once, IsImage, ArePossible}
use Rattle.plant.specs.Events.{Event, Restarted}
use Rattle.plant.specs.Worlds.{World, blank, world_after, world_of}
use Rattle.lab_base.specs.Lists.{Has}
use Rattle.lab_model.specs.Sound.{Sound, SoundAt, Standing}
use Rattle.lab_model.specs.Sound as labs
use Rattle.records_model.specs.Appends.{StandFor}
use Rattle.records_model.specs.Works.{IsSound}
use Rattle.lab_state.specs.Texts.{the_texts}
use Rattle.folder.specs.Folders.{Held, Old}
use Rattle.folder.specs.Lost.{newest}
use Rattle.plant_file.specs.Standing.{Keeps}
use Rattle.plant_file.specs.Stops.{LossesAreStops}
use Rattle.lab_folder.specs.Left.{LossesAreLeft}
use Rattle.plant.specs.declared.step.Side.TheVariants.{A, B}

once : (bytes image : List ℕ) → IsImage (at_once bytes) image → image ≡ bytes
once bytes image is =
    let size : length image ≡ length bytes = omega (arith, is.no_shorter, is.no_longer) in
    ext_get_or 0 image bytes size (λ k within. is.kept k (omega (arith, within, size)) within (λ r none. absurd none))

module _ (StandsFor : List ℕ → List ℕ → Standing → Type 0) where
  -- a start, on images that were possible
  start_sound : (trace : List Event) (x y : List ℕ) → SoundAt StandsFor trace → ArePossible trace x y → SoundAt StandsFor (trace ++ Restarted x y ∷ [])
  start_sound trace x y sound were a b p =
      let here : disk A (trace ++ Restarted x y ∷ []) ≡ at_once x = fold-append (disk_after A) (at_once []) trace (Restarted x y ∷ []) in
      let there : disk B (trace ++ Restarted x y ∷ []) ≡ at_once y = fold-append (disk_after B) (at_once []) trace (Restarted x y ∷ []) in
      let world : world_of (trace ++ Restarted x y ∷ []) ≡ world_of trace = fold-append world_after blank trace (Restarted x y ∷ []) in
      let one : a ≡ x = once x a (subst (λ (d : Disk). IsImage d a) here p.0) in
      let two : b ≡ y = once y b (subst (λ (d : Disk). IsImage d b) there p.1) in
      let own = sound a b (subst (IsImage (disk A trace)) (sym one) were.0, subst (IsImage (disk B trace)) (sym two) were.1) in
      (own.0, own.1, subst (λ (w : World). labs.Keeps w own.0) (sym world) own.2)

  pub stop_sound : (trace : List Event) (n : ℕ) (a b : List ℕ) → Sound StandsFor trace → n ≤ length trace → ArePossible (take n trace) a b → Sound StandsFor (take n trace ++ Restarted a b ∷ [])
  stop_sound trace n a b sound within were m le = by (cases_lt n m)
    where
      size : length (take n trace) ≡ n
      size = length-take-le n trace within

      by : (n < m) ⊎ (m ≤ n) → SoundAt StandsFor (take m (take n trace ++ Restarted a b ∷ []))
      by (inr early) =
          let same : take m (take n trace ++ Restarted a b ∷ []) ≡ take m trace = take-append-le m (take n trace) (Restarted a b ∷ []) (omega (arith, early, size)) ∙ take-take m n trace early in
          subst (SoundAt StandsFor) (sym same) (sound m (omega (arith, early, within)))
      by (inl late) =
          let all : take m (take n trace ++ Restarted a b ∷ []) ≡ take n trace ++ Restarted a b ∷ [] = take_all m (take n trace ++ Restarted a b ∷ []) (omega (arith, late, size, length-append (take n trace) (Restarted a b ∷ []))) in
          subst (SoundAt StandsFor) (sym all) (start_sound (take n trace) a b (sound n within) were)

within_left : (h : Held) (old : Old) → Keeps h → Has (newest h ∷ h.older) old → old.at ≤ length h.past.trace
within_left h old keeps (inl same) = subst (λ (o : Old). o.at ≤ length h.past.trace) same (omega arith)
within_left h old keeps (inr has) = (keeps.olds old has).within

pub left_by : LossesAreStops → LossesAreLeft
left_by stops h now old a b left lost =
    let s = stops h now old a b left.keeps lost in (
      record {
        keeps = s.0;
        sound = subst (IsSound the_texts) (sym lost.trace) (stop_sound (λ x y s. StandFor the_texts x y s) h.past.trace old.at a b left.sound (within_left h old left.keeps lost.left) s.1.possible);
      },
      s.1,
    )
