-- How jobs end in the states of a machine, and what follows, over opaque words.
use Rattle.std.proofs.Common.{◌≡◌, ◌≢◌, ℕ, ◌-◌, ◌<◌, ◌≤◌, List, length, Option, Some, None, Result, Ok, Err, IfOk, IfErr, refl, arith}
use Rattle.lab_base.specs.declared.fault.Kind.{Kind}
use Rattle.lab_base.specs.declared.fault.Kind.TheVariants as kinds
use Rattle.lab_base.specs.declared.fault.TextRefused.{TextRefused}
use Rattle.tcl_words.specs.declared.flaw.Flaw.{Flaw}
use Rattle.tcl_words.specs.declared.flaw.Broken.{Broken}
use Rattle.tcl_words.specs.Gives.{Finds}
use Rattle.tcl_words.specs.Words.{CommandsOf, IsRefused}
use Rattle.tcl_eval.specs.declared.hosts.Called.{Called}
use Rattle.tcl_eval.specs.declared.halts.Halt.{Halt}
use Rattle.tcl_eval.specs.declared.halts.Halt.TheVariants.{Fault, Memory}
use Rattle.tcl_eval.specs.declared.machine.Machine.{Machine}
use Rattle.tcl_eval.specs.Jobs.{Job, Gain, Value, fails}
use Rattle.tcl_eval.specs.Forms.{IsShort}
use Rattle.tcl_eval.specs.State.{State, state, spent}
use Rattle.tcl_eval.specs.Halts.{broken_halt, refused_halt}
use Rattle.tcl_eval.specs.Evals.{Evals}
use Rattle.tcl_eval.specs.Ends.{Gives, Ends}
use Rattle.tcl_eval.specs.Machines.{seen, Ended, Leads}
use Rattle.tcl_eval.proofs.Exits.{ends_on, ends_as, gives_ends, finds_ends, refused_ends, short_ends}

-- what is not some is none
pub none_of : {A : Type 0} (o : Option A) → ((x : A) → o ≡ Some x → ⊥) → o ≡ None
none_of None h = refl
none_of (Some x) h = absurd (h x refl)

module _ {O : Type 0} (calls : O → List (List ℕ) → Result Called Kind × O) (hears : O → List ℕ → List ℕ → Result (Unit {0}) Kind × O) where
  -- a value that was found, and one that is given
  pub got : {A : Type 0} (v : A → Gain) (l : ℕ) (j : Job) (s t : State O) (a : A) → Ended calls hears v l j s t (Ok a) → Evals calls hears l j s (Ok (v a)) t
  unfolding Ended
  got v l j s t a h = h

  pub given : {A : Type 0} (v : A → Gain) (l : ℕ) (j : Job) (s t : State O) (a : A) → Evals calls hears l j s (Ok (v a)) t → Ended calls hears v l j s t (Ok a)
  unfolding Ended
  given v l j s t a h = h

  -- a fault, and memory
  pub faulted : {A : Type 0} (v : A → Gain) (l : ℕ) (j : Job) (s t : State O) (k : Kind) → Evals calls hears l j s (fails k) t → Ended calls hears v l j s t (Err (Fault k))
  unfolding Ended
  faulted v l j s t k h = h

  pub free : {A : Type 0} (v : A → Gain) (l : ℕ) (j : Job) (s t : State O) → Ended calls hears v l j s t (Err Memory)
  unfolding Ended
  free v l j s t = tt

  -- what is handed on
  pub halted : {A B : Type 0} (v : A → Gain) (w : B → Gain) (l m : ℕ) (i j : Job) (s t u x : State O) (e : Halt)
      → ((h : Halt) → Evals calls hears l i s (Err h) t → Evals calls hears m j u (Err h) x)
      → Ended calls hears v l i s t (Err e) → Ended calls hears w m j u x (Err e)
  unfolding Ended
  halted v w l m i j s t u x e on h = ends_on calls hears v w l m i j s t u x e on h

  pub handed : {A : Type 0} (v : A → Gain) (l m : ℕ) (i j : Job) (s t u x : State O) (y : Result A Halt)
      → ((r : Result Gain Halt) → Evals calls hears l i s r t → Evals calls hears m j u r x)
      → Ended calls hears v l i s t y → Ended calls hears v m j u x y
  unfolding Ended
  handed v l m i j s t u x y on h = ends_as calls hears v l m i j s t u x y on h

  -- what comes of functions outside of the cycle
  pub outer : {H A : Type 0} (objects : H → O) (v : A → Gain) (l : ℕ) (j : Job) (m n : Machine H) (y : Result A Halt)
      → Ends calls hears v l j (state m.variables.entries (objects m.host) m.left) (state n.variables.entries (objects n.host) n.left) y
      → Ended calls hears v l j (seen objects m) (seen objects n) y
  unfolding Ended seen
  outer objects v l j m n y h = h

  -- how much a machine may still do
  pub left_is : {H : Type 0} (objects : H → O) (m : Machine H) → (seen objects m).left ≡ m.left
  unfolding seen
  left_is objects m = refl

  pub some_left : {H : Type 0} (objects : H → O) (m : Machine H) → m.left ≢ 0 → 0 < (seen objects m).left
  unfolding seen
  some_left objects m h = omega arith

  pub spent_is : {H : Type 0} (objects : H → O) (m : Machine H) → seen objects (record m { left = m.left - 1 }) ≡ spent (seen objects m)
  unfolding seen
  spent_is objects m = refl

  -- faults that were found
  pub levels_out : {A : Type 0} (w : A → Gain) (l : ℕ) (j : Job) (s : State O) (e : Halt)
      → (l ≡ 0 → Evals calls hears l j s (fails kinds.Deep) s) → (e ≡ Fault kinds.Deep) × (l ≡ 0) → Ended calls hears w l j s s (Err e)
  levels_out w l j s e rule found = rw found.0 (faulted w l j s s kinds.Deep (rule found.1))

  pub refused_out : {B : Type 0} (t : List ℕ) (w : B → Gain) (m : ℕ) (j : Job) (u x : State O) (r : TextRefused)
      → ((f : Flaw) → CommandsOf t 0 (Err f) → Evals calls hears m j u (fails f.kind) x) → IsRefused t r → Ended calls hears w m j u x (Err (refused_halt r))
  unfolding Ended
  refused_out t w m j u x r on h = refused_ends calls hears t w m j u x r on h

  pub found_out : {A B : Type 0} (P : Result A Flaw → Type 0) (w : B → Gain) (m : ℕ) (j : Job) (u x : State O) (b : Broken)
      → ((f : Flaw) → P (Err f) → Evals calls hears m j u (fails f.kind) x) → Finds P (Err b) → Ended calls hears w m j u x (Err (broken_halt b))
  unfolding Ended
  found_out P w m j u x b on h = finds_ends calls hears P w m j u x b on h

  pub given_out : {A B : Type 0} (P : Result A Kind → Type 0) (w : B → Gain) (m : ℕ) (j : Job) (u x : State O) (e : Halt)
      → ((k : Kind) → P (Err k) → Evals calls hears m j u (fails k) x) → Gives P (Err e) → Ended calls hears w m j u x (Err e)
  unfolding Ended
  given_out P w m j u x e on h = gives_ends calls hears P w m j u x e on h

  -- what follows of what follows
  pub by : (l : ℕ) (i j : Job) (s t : State O) (r : Result Gain Halt) (u : State O) → Leads calls hears l i s j t → Evals calls hears l i s r u → Evals calls hears l j t r u
  unfolding Leads
  by l i j s t r u leads h = leads r u h

  pub leads : (l : ℕ) (i j : Job) (s t : State O) → ((r : Result Gain Halt) (u : State O) → Evals calls hears l i s r u → Evals calls hears l j t r u) → Leads calls hears l i s j t
  unfolding Leads
  leads l i j s t on = on

  pub leads_here : (l : ℕ) (j : Job) (s : State O) → Leads calls hears l j s j s
  leads_here l j s = leads l j j s s (λ r u h. h)

  pub leads_on : (l : ℕ) (i j k : Job) (s t x : State O) → Leads calls hears l i s j t
      → ((r : Result Gain Halt) (u : State O) → Evals calls hears l k x r u → Evals calls hears l i s r u) → Leads calls hears l k x j t
  leads_on l i j k s t x on rule = leads l k j x t (λ r u h. by l i j s t r u on (rule r u h))

  -- a value that is short, or too long
  pub short_out : (v : List ℕ) (m : ℕ) (j : Job) (u x : State O) (y : Result (List ℕ) Halt)
      → IfOk y (λ short. (short ≡ v) × (length v ≤ 65536)) → IfErr y (λ halt. (halt ≡ Fault kinds.Long) × (65536 < length v))
      → (IsShort v → Evals calls hears m j u (Ok (Value v)) x) → (65536 < length v → Evals calls hears m j u (fails kinds.Long) x)
      → Ended calls hears Value m j u x y
  unfolding Ended
  short_out v m j u x y ok err here long = short_ends calls hears v m j u x y ok err here long
