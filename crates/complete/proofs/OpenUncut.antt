-- An open swap whose course is its experiment's own commands isn't cut by steps that go well.
use Rattle.std.proofs.Common.{◌≡◌, List, [], ◌∷◌, ◌++◌, append_assoc, sym, ◌∙◌, ap, subst}
use Rattle.plant.specs.Events.{Event, Did}
use Rattle.lab_model.specs.Courses.{whole}
use Rattle.lab_model.specs.OnCourse.{acknowledged, is_of, own_events}
use Rattle.records_model.specs.Labs.{LabState, lab_in}
use Rattle.swap_turns.specs.Running.{OpenSwap}
use Rattle.swap_turns.specs.Swaps.{Moves}
use Rattle.swap_turns.specs.Turning.{plan_in}
use Rattle.swap_turns.proofs.Elsewhere.{cut_own, own_behind}
use Rattle.swap_turns.proofs.Only.{only_cut}
use Rattle.complete.specs.Booted.{GoesWell}
use Rattle.complete.proofs.CutShows.{no_cut}
use Rattle.complete.proofs.GoingWell.{IsSafe, well_after}
use Rattle.complete.proofs.OwnCommands.{alike, all_its, only_last, own_both, own_is}

pub open_safe : (front rest : List Event) (s : LabState) (o : OpenSwap) (moves : Moves o.swap s) → own_events (lab_in s.lab) moves.exp rest ≡ o.course → IsSafe (front ++ rest) s o
open_safe front rest s o moves own_are trouble steps more cut well =
    let lab = lab_in s.lab in
    let e = moves.exp in
    let own = cut_own lab e o.swap.old o.swap.new _ moves.moving trouble (o.course ++ steps) cut in
    let last = all_its lab e steps (only_last o.course steps (only_cut (plan_in s o) trouble (o.course ++ steps) cut)) (own_behind lab e o.course steps own) in
    let filtered : own_events lab e (rest ++ steps) ≡ o.course ++ steps = own_both lab e rest steps ∙ (λ i. own_are i ++ last i) in
    let are : o.course ++ steps ≡ acknowledged cut.sent.sent ++ Did cut.op cut.applied cut.answer ∷ [] = cut.steps_are ∙ ap (λ l. l ++ Did cut.op cut.applied cut.answer ∷ []) cut.sent.steps_are in
    let all = well_after front ((rest ++ steps) ++ more) (subst GoesWell (append_assoc front rest (steps ++ more) ∙ ap (λ l. front ++ l) (sym (append_assoc rest steps more))) well) in
    no_cut (is_of lab e) (alike lab e) cut.left cut.op cut.applied cut.answer trouble cut.comes cut.cut more (rest ++ steps) (whole (plan_in s o)) cut.sent.sent
    (own_is lab e (rest ++ steps) ∙ filtered ∙ are) cut.sent.goes tt all.up all.no_failure
