-- The exits of `?`, and results that are handed on.
use Rattle.std.proofs.Common.{◌≡◌, ◌⊎◌, inl, inr, ℕ, ◌<◌, ◌≤◌, List, length, Result, Ok, Err, IfOk, IfErr}
use Rattle.lab_base.specs.declared.fault.Kind.{Kind}
use Rattle.lab_base.specs.declared.fault.Kind.TheVariants as kinds
use Rattle.lab_base.specs.declared.fault.TextRefused.{TextRefused}
use Rattle.lab_base.specs.declared.fault.TextRefused.TheVariants as refused
use Rattle.tcl_words.specs.declared.flaw.Flaw.{Flaw}
use Rattle.tcl_words.specs.declared.flaw.Broken.{Broken}
use Rattle.tcl_words.specs.declared.flaw.Broken.TheVariants as broken
use Rattle.tcl_words.specs.Gives.{Finds}
use Rattle.tcl_words.specs.Words.{CommandsOf, IsRefused}
use Rattle.tcl_eval.specs.declared.hosts.Called.{Called}
use Rattle.tcl_eval.specs.declared.halts.Halt.{Halt}
use Rattle.tcl_eval.specs.declared.halts.Halt.TheVariants.{Fault, Stop, Memory}
use Rattle.tcl_eval.specs.Jobs.{Job, Gain, Value, fails}
use Rattle.tcl_eval.specs.State.{State}
use Rattle.tcl_eval.specs.Forms.{IsShort}
use Rattle.tcl_eval.specs.Halts.{broken_halt, refused_halt}
use Rattle.tcl_eval.specs.Evals.{Evals}
use Rattle.tcl_eval.specs.Ends.{Gives, Ends}

-- a fault that is handed on
pub gives_on : {A B : Type 0} (P : Result A Kind → Type 0) (Q : Result B Kind → Type 0) (e : Halt)
    → ((k : Kind) → P (Err k) → Q (Err k)) → Gives P (Err e) → Gives Q (Err e)
gives_on P Q (Fault k) on h = on k h
gives_on P Q Stop on h = h
gives_on P Q Memory on h = tt

module _ {O : Type 0} (calls : O → List (List ℕ) → Result Called Kind × O) (hears : O → List ℕ → List ℕ → Result (Unit {0}) Kind × O) where
  -- one halts as the other does
  pub ends_on : {A B : Type 0} (v : A → Gain) (w : B → Gain) (l m : ℕ) (i j : Job) (s t u x : State O) (e : Halt)
      → ((h : Halt) → Evals calls hears l i s (Err h) t → Evals calls hears m j u (Err h) x)
      → Ends calls hears v l i s t (Err e) → Ends calls hears w m j u x (Err e)
  ends_on v w l m i j s t u x (Fault k) on h = on (Fault k) h
  ends_on v w l m i j s t u x Stop on h = on Stop h
  ends_on v w l m i j s t u x Memory on h = tt

  -- one ends as the other does
  pub ends_as : {A : Type 0} (v : A → Gain) (l m : ℕ) (i j : Job) (s t u x : State O) (y : Result A Halt)
      → ((r : Result Gain Halt) → Evals calls hears l i s r t → Evals calls hears m j u r x)
      → Ends calls hears v l i s t y → Ends calls hears v m j u x y
  ends_as v l m i j s t u x (Ok a) on h = on (Ok (v a)) h
  ends_as v l m i j s t u x (Err (Fault k)) on h = on (Err (Fault k)) h
  ends_as v l m i j s t u x (Err Stop) on h = on (Err Stop) h
  ends_as v l m i j s t u x (Err Memory) on h = tt

  -- a job halts by a fault that was found
  pub gives_ends : {A B : Type 0} (P : Result A Kind → Type 0) (w : B → Gain) (m : ℕ) (j : Job) (u x : State O) (e : Halt)
      → ((k : Kind) → P (Err k) → Evals calls hears m j u (fails k) x) → Gives P (Err e) → Ends calls hears w m j u x (Err e)
  gives_ends P w m j u x (Fault k) on h = on k h
  gives_ends P w m j u x Stop on h = absurd h
  gives_ends P w m j u x Memory on h = tt

  pub finds_ends : {A B : Type 0} (P : Result A Flaw → Type 0) (w : B → Gain) (m : ℕ) (j : Job) (u x : State O) (b : Broken)
      → ((f : Flaw) → P (Err f) → Evals calls hears m j u (fails f.kind) x) → Finds P (Err b) → Ends calls hears w m j u x (Err (broken_halt b))
  finds_ends P w m j u x (broken.Flaw f) on h = on f h
  finds_ends P w m j u x broken.Memory on h = tt

  pub refused_ends : {B : Type 0} (t : List ℕ) (w : B → Gain) (m : ℕ) (j : Job) (u x : State O) (r : TextRefused)
      → ((f : Flaw) → CommandsOf t 0 (Err f) → Evals calls hears m j u (fails f.kind) x) → IsRefused t r → Ends calls hears w m j u x (Err (refused_halt r))
  refused_ends t w m j u x (refused.Text fault) on h = rw h.2 (on h.0 h.1)
  refused_ends t w m j u x refused.Memory on h = tt

  -- a value that is too long, or memory ran out
  pub long_ends : {B : Type 0} (v : List ℕ) (w : B → Gain) (m : ℕ) (j : Job) (u x : State O) (e : Halt)
      → (65536 < length v → Evals calls hears m j u (fails kinds.Long) x) → (e ≡ Memory) ⊎ ((e ≡ Fault kinds.Long) × (65536 < length v)) → Ends calls hears w m j u x (Err e)
  long_ends v w m j u x e on (inl none) = rw none tt
  long_ends v w m j u x e on (inr long) = rw long.0 (on long.1)

  -- a value that is short, or too long
  pub short_ends : (v : List ℕ) (m : ℕ) (j : Job) (u x : State O) (y : Result (List ℕ) Halt)
      → IfOk y (λ short. (short ≡ v) × (length v ≤ 65536)) → IfErr y (λ halt. (halt ≡ Fault kinds.Long) × (65536 < length v))
      → (IsShort v → Evals calls hears m j u (Ok (Value v)) x) → (65536 < length v → Evals calls hears m j u (fails kinds.Long) x)
      → Ends calls hears Value m j u x y
  short_ends v m j u x (Ok short) ok err here long = rw ok.0 (here ok.1)
  short_ends v m j u x (Err e) ok err here long = rw err.0 (long err.1)
