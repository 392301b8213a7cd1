-- A text has one meaning.
use Rattle.std.proofs.Common.{◌≡◌, ℕ, ◌<◌, ◌≤◌, Bool, true, false, List, length, Result, Ok, Err, refl, sym, ap, ◌∙◌, arith}
use Rattle.std.specs.Prelude.{nat_lt}
use Rattle.std.proofs.lemmas.Bool.{ltb-true, ltb-false}
use Rattle.lab_base.specs.declared.fault.Kind.TheVariants as kinds
use Rattle.lab_base.specs.declared.fault.TextFault.{TextFault}
use Rattle.tcl_words.specs.Words.{line_at}
use Rattle.tcl_eval.specs.declared.runs.Ran.{Ran}
use Rattle.tcl_eval.specs.declared.runs.Ran.TheVariants.{Stopped, Ended}
use Rattle.tcl_eval.specs.State.{State}
use Rattle.tcl_eval.specs.Runs.{Runs, fault_on}
use Rattle.tcl_eval.proofs.OneRun.{runs_once}
use Rattle.ns_build.specs.declared.asked.Asked.{Asked}
use Rattle.ns_build.specs.Networks.{Network, topo_of, events_of}
use Rattle.ns_build.specs.Host.{called, assigned}
use Rattle.ns_build.specs.Meaning.{start, MeaningOf}

-- what an evaluation comes to
outcome : Result Ran TextFault → State Network → Result Asked TextFault
outcome (Ok (Stopped line)) s = Ok (record { topo = topo_of s.objects; events = events_of s.objects; line = line })
outcome (Ok (Ended line)) s = Err (fault_on line kinds.NotRun)
outcome (Err fault) s = Err fault

-- a short text means what its evaluation comes to
record Evaluated (t : List ℕ) (r : Result Asked TextFault) : Type 0 where
  ran : Result Ran TextFault
  state : State Network
  runs : Runs called assigned t start ran state
  is : r ≡ outcome ran state

evaluated : (t : List ℕ) (r : Result Asked TextFault) → length t ≤ 65536 → MeaningOf t r → Evaluated t r
unfolding outcome
evaluated t _ short (MeaningOf.long h) = absurd (omega arith)
evaluated t _ short (MeaningOf.asked {line} {s} le h) = record { ran = Ok (Stopped line); state = s; runs = h; is = refl }
evaluated t _ short (MeaningOf.not_run {line} {s} le h) = record { ran = Ok (Ended line); state = s; runs = h; is = refl }
evaluated t _ short (MeaningOf.faulty {fault} {s} le h) = record { ran = Err fault; state = s; runs = h; is = refl }

-- a long one is refused for that
long_is : (t : List ℕ) (r : Result Asked TextFault) → 65536 < length t → MeaningOf t r → r ≡ Err (fault_on (line_at t 65536) kinds.Long)
long_is t _ long (MeaningOf.long h) = refl
long_is t _ long (MeaningOf.asked le h) = absurd (omega arith)
long_is t _ long (MeaningOf.not_run le h) = absurd (omega arith)
long_is t _ long (MeaningOf.faulty le h) = absurd (omega arith)

pub meaning_once : (t : List ℕ) (r q : Result Asked TextFault) → MeaningOf t r → MeaningOf t q → r ≡ q
meaning_once t r q h g = by (nat_lt 65536 (length t)) refl
  where
    by : (b : Bool) → nat_lt 65536 (length t) ≡ b → r ≡ q
    by true less = let long : 65536 < length t = ltb-true 65536 (length t) less in long_is t r long h ∙ sym (long_is t q long g)
    by false not_less =
        let short : length t ≤ 65536 = ltb-false 65536 (length t) not_less in
        let a : Evaluated t r = evaluated t r short h in
        let b : Evaluated t q = evaluated t q short g in
        let same : (a.ran ≡ b.ran) × (a.state ≡ b.state) = runs_once called assigned t start a.ran b.ran a.state b.state a.runs b.runs in
        a.is ∙ ap (λ (x : Result Ran TextFault). outcome x a.state) same.0 ∙ ap (λ (s : State Network). outcome b.ran s) same.1 ∙ sym b.is
