-- Only swap-ins, changes and swap-outs begin a swap.
use Rattle.std.proofs.Common.{◌≡◌, ℕ, Bool, true, not, List, Result, Ok, refl, sym, subst, arith}
use Rattle.records_model.specs.Labs.{LabState}
use Rattle.script_text.specs.declared.command.Command.{Command}
use Rattle.script_text.specs.declared.command.Command.TheVariants as commands
use Rattle.script_text.specs.declared.reply.Reply.{Reply}
use Rattle.cost_rule.specs.declared.rule.RuleNumber.{RuleNumber}
use Rattle.lab_tasks.specs.Tasks.{Task, Swap}
use Rattle.lab_tasks.specs.Mappings.{in_slot}
use Rattle.lab_judge.specs.Judge.{Judged, judged_create_top, judged_ptop}
use Rattle.complete.specs.Sends.{begins_whole}

abbrev pub IsBegun : Command → Result Task Reply → Type 0
IsBegun command (Ok (Swap exp way)) = begins_whole command ≡ true
IsBegun command judgement = Unit {0}

module _ (s : LabState) (busy : Bool) (count : ℕ) where
  slot_begun : (command : Command) (only : Bool) (j : Result Task Reply) → begins_whole command ≡ not only → IsBegun command (in_slot count only j)
  slot_begun command only j is = grind arith

  ptop_begun : (lines : ℕ) (text : List ℕ) → IsBegun (commands.Ptop lines text) (judged_ptop s text)
  ptop_begun lines text = grind arith

  create_begun : (exp : List ℕ) (lines : ℕ) (text : List ℕ) → IsBegun (commands.CreateTop exp lines text) (judged_create_top s exp text)
  create_begun exp lines text = grind arith

  pub judged_begun : (rule : RuleNumber) (command : Command) (j : Result Task Reply) → Judged rule s busy count command j → IsBegun command j
  judged_begun rule (commands.Ptop lines text) j is = subst (IsBegun (commands.Ptop lines text)) (sym is) (ptop_begun lines text)
  judged_begun rule (commands.CreateTop exp lines text) j is = subst (IsBegun (commands.CreateTop exp lines text)) (sym is) (create_begun exp lines text)
  judged_begun rule (commands.Swapin only exp seed) j is = subst (IsBegun (commands.Swapin only exp seed)) (sym is.is) (slot_begun (commands.Swapin only exp seed) only is.before refl)
  judged_begun rule (commands.SwapinWith only exp lines text) j is = subst (IsBegun (commands.SwapinWith only exp lines text)) (sym is) (slot_begun (commands.SwapinWith only exp lines text) only _ refl)
  judged_begun rule (commands.Modify only exp seed lines text) j is = subst (IsBegun (commands.Modify only exp seed lines text)) (sym is.is) (slot_begun (commands.Modify only exp seed lines text) only is.before refl)
  judged_begun rule (commands.ModifyWith only exp lines top others map) j is =
      subst (IsBegun (commands.ModifyWith only exp lines top others map)) (sym is) (slot_begun (commands.ModifyWith only exp lines top others map) only _ refl)
  judged_begun rule (commands.Swapout only exp) j is = subst (IsBegun (commands.Swapout only exp)) (sym is) (slot_begun (commands.Swapout only exp) only _ refl)
  judged_begun rule command j is = grind arith
