-- How a run of the interpreter gives the meaning of a text.
use Rattle.std.proofs.Common.{◌≡◌, ℕ, ◌+◌, ◌<◌, ◌≤◌, List, [], length, take, None, Result, Ok, Err, sym, ap, subst, ◌∙◌, take-take, arith}
use Rattle.lab_base.specs.declared.fault.Kind.TheVariants as kinds
use Rattle.lab_base.specs.declared.fault.TextRefused.{TextRefused}
use Rattle.lab_base.specs.declared.fault.TextRefused.TheVariants as refused
use Rattle.tcl_words.specs.Words.{feeds_of, line_at}
use Rattle.tcl_eval.specs.declared.runs.Ran.{Ran}
use Rattle.tcl_eval.specs.declared.runs.Ran.TheVariants.{Stopped, Ended}
use Rattle.tcl_run.specs.Seen.{Seen}
use Rattle.tcl_eval.specs.State.{State, state}
use Rattle.tcl_eval.specs.Runs.{HasRun, fault_on}
use Rattle.virt_topo.specs.Topos.{Topo}
use Rattle.ns_events.specs.declared.event.Event.{Event}
use Rattle.ns_build.specs.Networks.{Network, empty, topo_of, events_of}
use Rattle.ns_build.specs.Host.{called, assigned}
use Rattle.ns_build.specs.Meaning.{start, MeaningOf, HasMeaning}

-- the interpreter at the start, over this network
abbrev pub over : Network → Seen Network
over n = record { host = n; variables = []; left = 20000; failed = None }

module _ (t : List ℕ) (n : Network) (i : Seen Network) (s : State Network) (fresh : n ≡ empty) (is : i ≡ over n) where
  begun : (r : Result Ran TextRefused) → (i.failed ≡ None → HasRun called assigned t (state i.variables i.host i.left) s r) → HasRun called assigned t start s r
  begun r run =
      let first : i ≡ over empty = is ∙ ap over fresh in
      subst (λ (j : Seen Network). HasRun called assigned t (state j.variables j.host j.left) s r) first (run (ap (λ (j : Seen Network). j.failed) first))

  pub stopped : (ran : Ran) (line : ℕ) (topo : Topo) (events : List Event) → length t ≤ 65536 → ran ≡ Stopped line → topo ≡ topo_of s.objects → events ≡ events_of s.objects → (i.failed ≡ None → HasRun called assigned t (state i.variables i.host i.left) s (Ok ran))
      → HasMeaning t (Ok (record { topo = topo; events = events; line = line }))
  unfolding HasRun HasMeaning
  stopped ran line topo events short stop same also run =
      subst (λ (x : Topo). MeaningOf t (Ok (record { topo = x; events = events; line = line }))) (sym same)
      (subst (λ (x : List Event). MeaningOf t (Ok (record { topo = topo_of s.objects; events = x; line = line }))) (sym also)
      (MeaningOf.asked short (subst (λ (r : Ran). HasRun called assigned t start s (Ok r)) stop (begun (Ok ran) run))))

  pub ended : (ran : Ran) (line : ℕ) → length t ≤ 65536 → ran ≡ Ended line → (i.failed ≡ None → HasRun called assigned t (state i.variables i.host i.left) s (Ok ran))
      → HasMeaning t (Err (refused.Text (fault_on line kinds.NotRun)))
  unfolding HasRun HasMeaning
  ended ran line short end run = MeaningOf.not_run short (subst (λ (r : Ran). HasRun called assigned t start s (Ok r)) end (begun (Ok ran) run))

  pub failed : (e : TextRefused) → length t ≤ 65536 → (i.failed ≡ None → HasRun called assigned t (state i.variables i.host i.left) s (Err e)) → HasMeaning t (Err e)
  unfolding HasRun HasMeaning
  failed (refused.Text fault) short run = MeaningOf.faulty short (begun (Err (refused.Text fault)) run)
  failed refused.Memory short run = tt

-- the line is that of the same index in what is read of the text
pub too_long : (t : List ℕ) (line : ℕ) → 65536 < length t → line ≡ line_at (take 65537 t) 65536 → HasMeaning t (Err (refused.Text (fault_on line kinds.Long)))
unfolding HasMeaning
too_long t line long is =
    let same : take 65536 (take 65537 t) ≡ take 65536 t = take-take 65536 65537 t (omega arith) in
    subst (λ (l : ℕ). MeaningOf t (Err (fault_on l kinds.Long))) (sym (is ∙ ap (λ (bytes : List ℕ). 1 + feeds_of bytes) same)) (MeaningOf.long long)

pub no_memory : (t : List ℕ) → HasMeaning t (Err refused.Memory)
unfolding HasMeaning
no_memory t = tt
