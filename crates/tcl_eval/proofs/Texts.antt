-- How whole texts run.
use Rattle.std.proofs.Common.{◌≡◌, ℕ, ◌+◌, ◌-◌, ◌<◌, List, [], ◌∷◌, length, get_or, drop, Result, Ok, Err, refl, sym, ap, subst, arith}
use Rattle.lab_base.specs.declared.fault.Kind.{Kind}
use Rattle.lab_base.specs.declared.fault.TextRefused.{TextRefused}
use Rattle.lab_base.specs.declared.fault.TextRefused.TheVariants as refused
use Rattle.lab_base.proofs.Lists.{item_at}
use Rattle.tcl_words.specs.declared.word.Command.{Command}
use Rattle.tcl_words.specs.Words.{CommandsOf, IsRefused, line_at}
use Rattle.tcl_eval.specs.declared.hosts.Called.{Called}
use Rattle.tcl_eval.specs.declared.halts.Halt.TheVariants.{Fault, Stop}
use Rattle.tcl_eval.specs.declared.runs.Ran.TheVariants as rans
use Rattle.tcl_eval.specs.Jobs.{One, Value}
use Rattle.tcl_eval.specs.State.{State}
use Rattle.tcl_eval.specs.Machines.{Ended}
use Rattle.tcl_eval.specs.Runs as runs
use Rattle.tcl_eval.specs.Runs.{Runs, RunsFrom, HasRun, RunLeads, fault_on, last_line_of}
use Rattle.tcl_eval.proofs.Ended.{got}

pub last_line_is : (t : List ℕ) → 0 < length t → line_at t (length t - 1) ≡ last_line_of t
last_line_is [] h = absurd (omega arith)
last_line_is (b ∷ bs) h = let e : length (b ∷ bs) - 1 ≡ length bs = omega arith in ap (λ (n : ℕ). line_at (b ∷ bs) n) e

pub no_line : (t : List ℕ) → length t ≡ 0 → 1 ≡ last_line_of t
no_line [] h = refl
no_line (b ∷ bs) h = absurd (omega arith)

module _ {O : Type 0} (calls : ℕ → O → List (List ℕ) → Result Called Kind × O) (hears : O → List ℕ → List ℕ → Result (Unit {0}) Kind × O) (t : List ℕ) where
  pub run_refused : (s : State O) (r : TextRefused) → IsRefused t r → HasRun calls hears t s s (Err r)
  unfolding HasRun
  run_refused s (refused.Text fault) h =
      subst (λ (k : Kind). Runs calls hears t s (Err (fault_on fault.line k)) s) (sym h.2)
      (subst (λ (n : ℕ). Runs calls hears t s (Err (fault_on n h.0.kind)) s) (sym h.3) (runs.malformed h.1))
  run_refused s refused.Memory h = tt

  pub run_starts : (cs : List Command) (s : State O) → CommandsOf t 0 (Ok cs) → RunLeads calls hears t cs s s
  unfolding RunLeads
  run_starts cs s of = λ r u h. runs.split of h

  pub run_next : (cs : List Command) (i : ℕ) (c : Command) (s u x : State O) (v : List ℕ) → i < length cs → c ≡ get_or cs i c
      → RunLeads calls hears t (drop i cs) s x → Ended (calls c.line) hears Value 32 (One t c) s u (Ok v) → RunLeads calls hears t (drop (i + 1) cs) u x
  unfolding RunLeads
  run_next cs i c s u x v less is on h =
      λ r w rest. on r w (subst (λ (more : List Command). RunsFrom calls hears t more s r w) (sym (item_at cs i c less is)) (runs.next (got (calls c.line) hears Value 32 (One t c) s u v h) rest))

  pub run_stops : (cs : List Command) (i : ℕ) (c : Command) (s u x : State O) → i < length cs → c ≡ get_or cs i c
      → RunLeads calls hears t (drop i cs) s x → Ended (calls c.line) hears Value 32 (One t c) s u (Err Stop) → HasRun calls hears t x u (Ok (rans.Stopped c.line))
  unfolding HasRun RunLeads Ended
  run_stops cs i c s u x less is on h =
      on (Ok (rans.Stopped c.line)) u (subst (λ (more : List Command). RunsFrom calls hears t more s (Ok (rans.Stopped c.line)) u) (sym (item_at cs i c less is)) (runs.stopped h))

  pub run_fails : (cs : List Command) (i : ℕ) (c : Command) (k : Kind) (s u x : State O) → i < length cs → c ≡ get_or cs i c
      → RunLeads calls hears t (drop i cs) s x → Ended (calls c.line) hears Value 32 (One t c) s u (Err (Fault k)) → HasRun calls hears t x u (Err (refused.Text (fault_on c.line k)))
  unfolding HasRun RunLeads Ended
  run_fails cs i c k s u x less is on h =
      on (Err (fault_on c.line k)) u (subst (λ (more : List Command). RunsFrom calls hears t more s (Err (fault_on c.line k)) u) (sym (item_at cs i c less is)) (runs.failed h))

  pub run_free : (s u : State O) → HasRun calls hears t s u (Err refused.Memory)
  unfolding HasRun
  run_free s u = tt

  pub run_ends : (cs : List Command) (i line : ℕ) (s x : State O) → drop i cs ≡ [] → line ≡ last_line_of t
      → RunLeads calls hears t (drop i cs) s x → HasRun calls hears t x s (Ok (rans.Ended line))
  unfolding HasRun RunLeads
  run_ends cs i line s x none last on =
      rw last (on (Ok (rans.Ended (last_line_of t))) s (subst (λ (more : List Command). RunsFrom calls hears t more s (Ok (rans.Ended (last_line_of t))) s) (sym none) runs.ended))
