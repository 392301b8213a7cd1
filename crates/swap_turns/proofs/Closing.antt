-- A controller that is closed, by what its steps are and by what came before them.
use Rattle.std.proofs.Common.{◌≡◌, ℕ, List, ◌++◌, Option, IfSome, sym, subst, append_assoc}
use Rattle.lab_base.proofs.Tests.{some_weaker}
use Rattle.plant.specs.Disks.{ArePossible}
use Rattle.plant.specs.Events.{Event}
use Rattle.plant.specs.Told.{Told, with_steps}
use Rattle.records_model.specs.Labs.{LabState, Texts}
use Rattle.records_model.specs.Works.{IsSound}
use Rattle.swap_turns.specs.Working.{StandForLab}
use Rattle.swap_turns.specs.Closing.{Closes}
use Rattle.swap_turns.proofs.Telling.{if_both, if_back}

-- what is said of the images after a sound trace
abbrev pub Images : Texts → List Event → List Event → (LabState → Type 0) → Type 0
Images t trace steps Is = IsSound t trace → (a b : List ℕ) → ArePossible (trace ++ steps) a b → (lab : LabState) × StandForLab t a b lab × Is lab

-- the same steps by another name
pub closes_as : (t : Texts) (told : Option Told) (steps : List Event) (P Q : List Event → LabState → Type 0) → ((lab : LabState) → P steps lab → Q steps lab) → Closes t told steps P → Closes t told steps Q
closes_as t told steps P Q each c = record {
  after = c.after;
  is = each c.after c.is;
  images = some_weaker told (λ w. Images t w.trace steps (P steps)) (λ w. Images t w.trace steps (Q steps)) (λ w images sound a b possible. let i = images sound a b possible in (i.0, i.1, each i.0 i.2)) c.images;
}

-- after steps that keep a trace sound
pub closes_after : (t : Texts) (was now : Option Told) (front behind : List Event) (P Q : List Event → LabState → Type 0) → now ≡ with_steps was front → IfSome was (λ w. IsSound t w.trace → IsSound t (w.trace ++ front))
    → ((lab : LabState) → P behind lab → Q (front ++ behind) lab) → Closes t now behind P → Closes t was (front ++ behind) Q
closes_after t was now front behind P Q told sound each c = record {
  after = c.after;
  is = each c.after c.is;
  images = if_both was (λ w. IsSound t w.trace → IsSound t (w.trace ++ front)) (λ w. Images t (w.trace ++ front) behind (P behind)) (λ w. Images t w.trace (front ++ behind) (Q (front ++ behind)))
      (λ w keeps images before a b possible.
      let i = images (keeps before) a b (subst (λ l. ArePossible l a b) (sym (append_assoc w.trace front behind)) possible) in
      (i.0, i.1, each i.0 i.2)) sound (if_back was now front (λ l. Images t l behind (P behind)) told c.images);
}
