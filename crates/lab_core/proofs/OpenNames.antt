-- The names of the open swaps, as the code finds them and as the session has them.
use Rattle.std.proofs.Common.{◌≡◌, ℕ, Bool, List, length, Option, Some, None, Result, refl, sym, ap, ◌∙◌, subst}
use Rattle.std.proofs.lemmas.List.{length-map}
use Rattle.lab_base.specs.Lists.{Has}
use Rattle.lab_base.proofs.Members.{Has-map, Has-mapped}
use Rattle.lab_base.proofs.Tests.{same_tests}
use Rattle.plant.specs.Seen.{Seen}
use Rattle.recovery.specs.Due.{is_busy}
use Rattle.script_text.specs.declared.command.Command.{Command}
use Rattle.script_text.specs.declared.reply.Reply.{Reply}
use Rattle.swap_mgr.specs.Open.{HasOpen}
use Rattle.swap_mgr.proofs.Holding.{named_open}
use Rattle.swap_txn.specs.declared.live.Live.{Live}
use Rattle.swap_turns.specs.Running.{OpenSwap as RunningSwap}
use Rattle.cost_rule.specs.declared.rule.RuleNumber.{RuleNumber}
use Rattle.lab_core.specs.Controller.{Control, WorksWith}
use Rattle.lab_tasks.specs.OpenNames.{has_open, has_open_for, open_names, is_among, name_of}
use Rattle.lab_tasks.specs.Tasks.{Task}
use Rattle.lab_judge.specs.Judge.{Judged}
use Rattle.lab_core.specs.LabSteps.{JudgedBeside}
use Rattle.lab_core.specs.Sessions.{OpenSwap, name_in, names_of}
use Rattle.lab_tasks.proofs.Busy.{busy_has, busy_open, has_busy, open_busy}

-- THE SESSION HAS THE SAME NAMES, and as many
module _ (now : Seen) (c : Control) (opens : List OpenSwap) (works : WorksWith now c opens) where
  pub opens_has : (exp : List ℕ) → Has (names_of opens) exp → HasOpen c.swaps exp
  opens_has exp h =
      let o = Has-map name_in opens exp h in
      let listed = subst (λ (l : List RunningSwap). Has l o.0.running) (sym works.are) (Has-mapped (λ (x : OpenSwap). x.running) opens o.0 o.1) in
      let q = Has-map (λ (x : RunningSwap × Live). x.0) works.pairs o.0.running listed in
      record { state = q.0.1; stands = works.holds.stands q.0 q.1; named = named_open c.lab q.0.0 q.0.1 (works.working.each q.0 q.1) ∙ ap (λ (r : RunningSwap). r.swap.name) q.2 ∙ o.2 }

  pub has_opens : (exp : List ℕ) → HasOpen c.swaps exp → Has (names_of opens) exp
  has_opens exp h =
      let q = works.holds.listed_of h.state h.stands in
      let listed = subst (λ (l : List RunningSwap). Has l q.0) works.are (Has-mapped (λ (x : RunningSwap × Live). x.0) works.pairs (q.0, h.state) q.1) in
      let o = Has-map (λ (x : OpenSwap). x.running) opens q.0 listed in
      let named : name_in o.0 ≡ exp = ap (λ (r : RunningSwap). r.swap.name) o.2 ∙ sym (named_open c.lab q.0 h.state (works.working.each (q.0, h.state) q.1)) ∙ h.named in
      subst (λ (n : List ℕ). Has (names_of opens) n) named (Has-mapped name_in opens o.0 o.1)

  pub same_busy : (exp : List ℕ) → is_busy (names_of opens) exp ≡ has_open c.swaps exp
  same_busy exp = same_tests (is_busy (names_of opens) exp) (has_open c.swaps exp) (λ h. open_busy c.swaps exp (opens_has exp (busy_has (names_of opens) exp h))) (λ h. has_busy (names_of opens) exp (has_opens exp (busy_open c.swaps exp h)))

  same_among : (exp : Option (List ℕ)) → is_among (names_of opens) exp ≡ is_among (open_names c.swaps) exp
  same_among None = refl
  same_among (Some exp) = same_busy exp

  pub same_count : length opens ≡ length c.swaps
  same_count =
      sym (length-map opens (λ (x : OpenSwap). x.running))
      ∙ ap (λ (l : List RunningSwap). length l) (sym works.are)
      ∙ length-map works.pairs (λ (x : RunningSwap × Live). x.0)
      ∙ works.holds.count

  -- so what the code judges of a command is what is judged beside the session's open swaps
  pub judged_beside : (rule : RuleNumber) (command : Command) (judgement : Result Task Reply) → Judged rule c.lab (has_open_for c.swaps command) (length c.swaps) command judgement → JudgedBeside rule command opens c.lab judgement
  judged_beside rule command judgement h =
      subst (λ (n : ℕ). Judged rule c.lab (is_among (names_of opens) (name_of command)) n command judgement) (sym same_count)
      (subst (λ (b : Bool). Judged rule c.lab b (length c.swaps) command judgement) (sym (same_among (name_of command))) h)
