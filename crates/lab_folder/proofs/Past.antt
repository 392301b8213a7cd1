-- Facts of the past of a plant in a folder are facts of the folder's past.
use Rattle.std.proofs.Common.{◌≡◌, List, [], ◌∷◌, Option, Some, None, refl, sym, ap, ◌∙◌, subst}
use Rattle.std.specs.Prelude.{IfSome}
use Rattle.std.specs.Option.{ForSome}
use Rattle.std.proofs.lemmas.Option.{same_Some}
use Rattle.plant.specs.Events.{Event}
use Rattle.plant.specs.Seen.{Seen}
use Rattle.plant.specs.declared.drill.Drill.{Drill}
use Rattle.plant.specs.Told.{Told}
use Rattle.records_model.specs.Works.{IsSound}
use Rattle.lab_state.specs.Texts.{the_texts}
use Rattle.lab_top.specs.Headline.{StaysSo, StillTold}
use Rattle.lab_top.specs.Pieces.{Begun, planned_of, with_drill_if, with_pieces}
use Rattle.folder.specs.Folders.{Held, past_of}
use Rattle.plant_file.specs.Standing.{Keeps}
use Rattle.lab_folder.specs.Left.{IsLeft}

-- a run over a plant that tells nothing tells nothing
drill_none : (drill : Option Drill) → with_drill_if None drill ≡ None
drill_none None = refl
drill_none (Some drill) = refl

pieces_none : (made : List Begun) → with_pieces None made ≡ None
pieces_none [] = refl
pieces_none (b ∷ made) = ap (λ (t : Option Told). with_pieces t made) (drill_none (planned_of b)) ∙ pieces_none made

none_told : (made : List Begun) (e x : Seen) → x.told ≡ with_pieces e.told made → e.told ≡ None → x.told ≡ None
none_told made e x is none = is ∙ ap (λ (t : Option Told). with_pieces t made) none ∙ pieces_none made

pub so_after : (IsSo : List Event → Type 0) (entry exit : Option Held) (made : List Begun) (e x : Seen) → e.told ≡ past_of entry → x.told ≡ past_of exit → x.told ≡ with_pieces e.told made → ForSome entry IsLeft → StaysSo IsSo e x → ForSome exit (λ h. IsSo h.past.trace)
so_after IsSo None exit made e x e_is x_is pieces left stays = λ h some.
    absurd (let never : None ≡ Some h.past = sym (none_told made e x pieces e_is) ∙ x_is ∙ ap past_of some in cc never)
so_after IsSo (Some k) exit made e x e_is x_is pieces left stays = λ h some.
    let still : StillTold IsSo k.past x = subst (λ (t : Option Told). IfSome t (λ u. IsSound the_texts u.trace → StillTold IsSo u x)) e_is stays (left k refl).sound in
    let same : still.told ≡ h.past = same_Some still.told h.past (sym still.is ∙ x_is ∙ ap past_of some) in
    subst (λ (t : Told). IsSo t.trace) same still.so

pub left_after : (exit : Option Held) → ForSome exit Keeps → ForSome exit (λ h. IsSound the_texts h.past.trace) → ForSome exit IsLeft
left_after exit keeps sound = λ h some. record { keeps = keeps h some; sound = sound h some }
