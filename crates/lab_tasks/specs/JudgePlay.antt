-- Link events in hand, as the code judges them.
use Rattle.std.specs.Prelude.{Result, Ok, Err}
use Rattle.virt_topo.specs.Soundness.{IsSound}
use Rattle.ns_build.specs.Kept.{AllKeepLimits}
use Rattle.script_text.specs.declared.reply.Reply.{Reply}
use Rattle.lab_tasks.specs.declared.play.Play.{Play}
use Rattle.lab_tasks.specs.declared.task.Refusal.{Refusal}
use Rattle.lab_tasks.specs.declared.task.Refusal.TheVariants as refusals
use Rattle.lab_tasks.specs.Playing.{Playing, first_place}
use Rattle.lab_tasks.specs.Tasks.{IsMild}

-- THE EVENTS IN HAND, from the first on
abbrev pub place_of : Play → Playing
place_of play = first_place play.text play.due

-- they can be applied, to whatever wiring they fit
pub record CanPlay (play : Play) : Type 0 where
  pub sound : IsSound play.text
  pub limits : AllKeepLimits play.due

-- what is judged of a list is one of these
abbrev pub IsJudgedPlay : (Result Playing Reply → Type 0) → Result Play Refusal → Type 0
IsJudgedPlay Judges (Ok play) = Judges (Ok (place_of play))
IsJudgedPlay Judges (Err (refusals.Refused reply)) = Judges (Err reply) × IsMild reply
IsJudgedPlay Judges (Err refusals.Memory) = Unit {0}
