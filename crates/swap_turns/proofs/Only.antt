-- Steps that are device commands.
use Rattle.std.proofs.Common.{List, [], ◌∷◌, ◌++◌, Err, sym, subst}
use Rattle.plant.specs.Events.{Event, Wrote, Synced, Cut as CutTo, Missed, Did, Restarted, Unread}
use Rattle.plant.specs.declared.device.Fault.TheVariants.{Stopped}
use Rattle.lab_model.specs.Courses.{Plan, Left, Trouble}
use Rattle.lab_model.specs.Leavings.{Sent}
use Rattle.lab_model.specs.OnCourse.{acknowledged}
use Rattle.swap_turns.specs.Courses.{IsSent, IsCut, IsHalted, before, within}

abbrev pub Only : List Event → Type 0
Only [] = Unit {0}
Only (Did op applied answer ∷ steps) = Only steps
Only (Wrote side at bytes ∷ steps) = ⊥
Only (Synced side ∷ steps) = ⊥
Only (CutTo side size ∷ steps) = ⊥
Only (Missed side ∷ steps) = ⊥
Only (Restarted a b ∷ steps) = ⊥
Only (Unread device ∷ steps) = ⊥

pub only_more : (xs ys : List Event) → Only xs → Only ys → Only (xs ++ ys)
only_more [] ys p q = q
only_more (Did op applied answer ∷ xs) ys p q = only_more xs ys p q
only_more (Wrote side at bytes ∷ xs) ys p q = absurd p
only_more (Synced side ∷ xs) ys p q = absurd p
only_more (CutTo side size ∷ xs) ys p q = absurd p
only_more (Missed side ∷ xs) ys p q = absurd p
only_more (Restarted a b ∷ xs) ys p q = absurd p
only_more (Unread device ∷ xs) ys p q = absurd p

only_acknowledged : (sent : Sent) → Only (acknowledged sent)
only_acknowledged [] = tt
only_acknowledged (c ∷ cs) = only_acknowledged cs

pub only_sent : (plan : Plan) (left : Left) (steps : List Event) → IsSent plan left steps → Only steps
only_sent plan left steps sent = subst Only (sym sent.steps_are) (only_acknowledged sent.sent)

pub only_cut : (plan : Plan) (trouble : Trouble) (steps : List Event) → IsCut plan trouble steps → Only steps
only_cut plan trouble steps cut = subst Only (sym cut.steps_are) (only_more cut.front (Did cut.op cut.applied cut.answer ∷ []) (only_sent plan cut.left cut.front cut.sent) tt)

pub only_halted : (plan : Plan) (steps : List Event) → IsHalted plan steps → Only steps
only_halted plan steps (before left sent) = only_sent plan left steps sent
only_halted plan steps (within front left op applied sent comes is) = subst Only (sym is) (only_more front (Did op applied (Err Stopped) ∷ []) (only_sent plan left front sent) tt)
