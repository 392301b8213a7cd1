-- Replies to a whole swap.
use Rattle.std.proofs.Common.{ℕ, List, Option, Some, None, IfSome, Bool, true, false, IfOk, refl, subst}
use Rattle.lab_base.specs.declared.what.What.{What}
use Rattle.swap_mgr.specs.Managing.{IsProgress}
use Rattle.swap_mgr.specs.declared.progress.NotOpened.{NotOpened}
use Rattle.swap_mgr.specs.declared.progress.NotOpened.TheVariants as unopened
use Rattle.swap_turns.specs.declared.progress.Progress.{Progress}
use Rattle.swap_turns.specs.declared.progress.Progress.TheVariants as progress
use Rattle.swap_turns.specs.Finishing.{IsOver}
use Rattle.swap_turns.specs.Running.{OpenSwap as RunningSwap}
use Rattle.swap_turns.specs.Turning.{Outcome}
use Rattle.lab_core.specs.Swapping.{IsSwapReply, progress_answer, reply_of_over, unopened_answer}

-- of one that is over
over_is : (exp : List ℕ) (inside : Bool) (why : Option What) → IsSwapReply exp (reply_of_over exp inside why)
over_is exp true None = refl
over_is exp false None = refl
over_is exp inside (Some what) = refl

pub over_told : (exp : List ℕ) (at : RunningSwap) (told : Progress) (outcome : Outcome) → IsOver outcome → IsProgress at told outcome → IfOk (progress_answer exp told) (IsSwapReply exp)
over_told exp at progress.More outcome over is = absurd (subst IsOver is over)
over_told exp at (progress.Trouble what) outcome over is = absurd (subst IsOver is.2 over)
over_told exp at (progress.Ended ended) outcome over is = over_is exp ended.inside ended.why
over_told exp at (progress.Stuck what) outcome over is = refl
over_told exp at progress.Stopped outcome over is = tt

-- and of one that was not opened
pub unopened_told : (exp : List ℕ) (fault : NotOpened) → IfOk (unopened_answer exp fault) (λ told. IfSome told (IsSwapReply exp))
unopened_told exp (unopened.Stuck what) = refl
unopened_told exp unopened.Stopped = tt
unopened_told exp (unopened.Busy name) = tt
unopened_told exp (unopened.TooManyOpen most) = tt
