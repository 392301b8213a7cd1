-- Judgements that begin with a check: it refuses, or gives a value.
use Rattle.std.proofs.Common.{◌≡◌, Result, Ok, Err, sym, ap, subst}
use Rattle.lab_base.specs.declared.fault.TextFault.{TextFault}
use Rattle.lab_base.specs.declared.fault.TextRefused.{TextRefused}
use Rattle.lab_base.specs.declared.fault.TextRefused.TheVariants as texts
use Rattle.line_text.specs.Refusals.{Reads}
use Rattle.script_text.specs.declared.reply.Reply.{Reply}
use Rattle.lab_tasks.specs.declared.task.Task.{Task as TaskInHand}
use Rattle.lab_tasks.specs.declared.task.Refusal.{Refusal}
use Rattle.lab_tasks.specs.declared.task.Refusal.TheVariants as refusals
use Rattle.lab_tasks.specs.Needs.{◌>>=◌, need_meaning}
use Rattle.lab_tasks.specs.Tasks.{Task, Gives, IsRefusedBy, Refuses}

pub refused_by : {A : Type 0} (needed : Result A Reply) (then' : A → Result Task Reply) (refusal : Refusal) → Refuses {X = Unit {0}} needed (Err refusal) → Gives (needed >>= then') (Err refusal)
refused_by needed then' (refusals.Refused reply) h = (ap (λ j. j >>= then') h.0, h.1)
refused_by needed then' refusals.Memory h = tt

pub given_by : {A : Type 0} (needed : Result A Reply) (then' : A → Result Task Reply) (x : A) (result : Result TaskInHand Refusal) → needed ≡ Ok x → Gives (then' x) result → Gives (needed >>= then') result
given_by needed then' x result is h = subst (λ (j : Result _ Reply). Gives (j >>= then') result) (sym is) h

-- a text has a fault, or a meaning
module _ {X : Type 0} (bad : TextFault → Reply) (meaning : Result X TextFault) (then' : X → Result Task Reply) where
  pub faulty_by : (why : TextRefused) (refusal : Refusal) → Reads {X = X} (Err why) meaning → IsRefusedBy bad why refusal → Gives (need_meaning bad meaning >>= then') (Err refusal)
  faulty_by (texts.Text fault) refusal reads h = subst (λ (r : Refusal). Gives (need_meaning bad meaning >>= then') (Err r)) (sym h.0) (ap (λ m. need_meaning bad m >>= then') reads, h.1)
  faulty_by texts.Memory refusal reads h = subst (λ (r : Refusal). Gives (need_meaning bad meaning >>= then') (Err r)) (sym h) tt

  pub meant_by : (x : X) (result : Result TaskInHand Refusal) → meaning ≡ Ok x → Gives (then' x) result → Gives (need_meaning bad meaning >>= then') result
  meant_by x result is h = given_by (need_meaning bad meaning) then' x result (ap (need_meaning bad) is) h
