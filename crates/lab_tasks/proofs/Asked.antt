-- Judgements that begin with a check: it refused, or gave a value, of which one of several is judged.
use Rattle.std.proofs.Common.{◌≡◌, Result, Ok, Err, refl}
use Rattle.script_text.specs.declared.reply.Reply.{Reply}
use Rattle.lab_tasks.specs.Needs.{refused, asked, OrRefused}
use Rattle.lab_tasks.specs.Tasks.{Task, IsJudged, Refuses}
use Rattle.lab_tasks.specs.declared.task.Task.{Task as TaskInHand}
use Rattle.lab_tasks.specs.declared.task.Refusal.{Refusal}
use Rattle.lab_tasks.specs.declared.task.Refusal.TheVariants.{Refused, Memory}

pub refuses_so : {A : Type 0} (needed : Result A Reply) (Judges : A → Result Task Reply → Type 0) (refusal : Refusal) → Refuses {X = Unit {0}} needed (Err refusal) → IsJudged (OrRefused needed Judges) (Err refusal)
refuses_so needed Judges (Refused reply) h = (refused reply h.0 refl, h.1)
refuses_so needed Judges Memory h = tt

pub asked_so : {A : Type 0} (needed : Result A Reply) (Judges : A → Result Task Reply → Type 0) (x : A) (result : Result TaskInHand Refusal) → needed ≡ Ok x → IsJudged (Judges x) result → IsJudged (OrRefused needed Judges) result
asked_so needed Judges x (Ok task) is h = asked x is h
asked_so needed Judges x (Err (Refused reply)) is h = (asked x is h.0, h.1)
asked_so needed Judges x (Err Memory) is h = tt
