-- Judgements: none has a reply of a drill or of a stop, and each task is the command's own, as the open swaps allow it.
use Rattle.std.specs.Prelude.{nat_le}
use Rattle.std.proofs.Common.{◌≡◌, ℕ, Bool, true, false, List, Option, Some, None, Result, Ok, Err, refl, sym, subst, arith}
use Rattle.journal_rec.specs.declared.record.Record.{Record}
use Rattle.journal_rec.specs.declared.record.Record.TheVariants as records
use Rattle.records_model.specs.Labs.{LabState}
use Rattle.lab_state.proofs.Named.{name_is}
use Rattle.script_text.specs.declared.command.Command.{Command}
use Rattle.script_text.specs.declared.command.Command.TheVariants as commands
use Rattle.script_text.specs.declared.reply.Reply.{Reply}
use Rattle.script_text.specs.declared.reply.Reply.TheVariants as replies
use Rattle.cost_rule.specs.declared.rule.RuleNumber.{RuleNumber}
use Rattle.lab_tasks.specs.Tasks.{Task, Tell, Append, Swap, BeginOnly, Turn, Finish, Recover}
use Rattle.lab_tasks.specs.Needs.{OrRefused, asked, need_meaning, need_lab_and_name, refused}
use Rattle.lab_tasks.specs.Mappings.{judged_modify_with, in_slot, judged_swapin_with}
use Rattle.lab_judge.specs.Judge.{Is, Judged, JudgedCreate, judged_wiring, judged_create_top, judged_delete, judged_ptop}
use Rattle.lab_judge.specs.Searches.{JudgedModify, JudgedSwapin}
use Rattle.lab_tasks.specs.OpenNames.{name_of}
use Rattle.virt_topo.specs.declared.wiring.Wiring.{Wiring}
use Rattle.lab_base.specs.declared.fault.TextFault.{TextFault}

-- the replies that no judgement has
abbrev pub is_outer : Reply → Bool
is_outer replies.Planned = true
is_outer replies.NoDrill = true
is_outer replies.Stopped = true
is_outer (replies.Unread name) = true
is_outer (replies.In exp) = true
is_outer (replies.Out exp) = true
is_outer (replies.Failed exp end what) = true
is_outer reply = false

-- the record sets the lab where there is none, or is of that experiment
abbrev pub IsOwn : LabState → Option (List ℕ) → Record → Type 0
IsOwn s name (records.Lab ptop) = s.lab ≡ None
IsOwn s name (records.Create exp top) = name ≡ Some exp
IsOwn s name (records.Create2 exp top) = name ≡ Some exp
IsOwn s name (records.Delete exp) = name ≡ Some exp
IsOwn s name entry = ⊥

-- a task that begins a swap needs the experiment idle and room among the open swaps, and one that turns a swap needs it open
abbrev pub IsFit : LabState → Command → Bool → ℕ → Result Task Reply → Type 0
IsFit s command busy count (Err refusal) = is_outer refusal ≡ false
IsFit s command busy count (Ok (Tell told)) = is_outer told ≡ false
IsFit s command busy count (Ok (Append entry told)) = (is_outer told ≡ false) × IsOwn s (name_of command) entry
IsFit s command busy count (Ok (Swap exp way)) = (name_of command ≡ Some exp) × (busy ≡ false) × (nat_le 16 count ≡ false)
IsFit s command busy count (Ok (BeginOnly exp way)) = (name_of command ≡ Some exp) × (busy ≡ false) × (nat_le 16 count ≡ false)
IsFit s command busy count (Ok (Turn exp)) = (name_of command ≡ Some exp) × (busy ≡ true)
IsFit s command busy count (Ok (Finish exp)) = (name_of command ≡ Some exp) × (busy ≡ true)
IsFit s command busy count (Ok Recover) = command ≡ commands.Recover

module _ (s : LabState) (busy : Bool) (count : ℕ) where
  ptop_fits : (lines : ℕ) (text : List ℕ) → IsFit s (commands.Ptop lines text) busy count (judged_ptop s text)
  ptop_fits lines text = grind arith

  create_fits : (exp : List ℕ) (lines : ℕ) (text : List ℕ) → IsFit s (commands.CreateTop exp lines text) busy count (judged_create_top s exp text)
  create_fits exp lines text = grind arith

  -- a swap of that experiment, before its room is asked for
  abbrev IsSwapOf : List ℕ → Result Task Reply → Type 0
  IsSwapOf exp (Err refusal) = is_outer refusal ≡ false
  IsSwapOf exp (Ok (Swap own way)) = (own ≡ exp) × (busy ≡ false)
  IsSwapOf exp (Ok task) = ⊥

  swapin_is : (exp text : List ℕ) → IsSwapOf exp (judged_swapin_with s busy exp text)
  swapin_is exp text = grind (arith, name_is)

  modify_is : (rule : RuleNumber) (exp : List ℕ) (seed : ℕ) (text : List ℕ) (j : Result Task Reply) → JudgedModify rule s busy exp seed text j → IsSwapOf exp j
  modify_is rule exp seed text j is = grind (arith, name_is)

  modify_with_is : (exp : List ℕ) (lines : ℕ) (top map : List ℕ) → IsSwapOf exp (judged_modify_with s busy exp lines top map)
  modify_with_is exp lines top map = grind (arith, name_is)

  entry_is : (rule : RuleNumber) (exp : List ℕ) (seed : ℕ) (j : Result Task Reply) → JudgedSwapin rule s busy exp seed j → IsSwapOf exp j
  entry_is rule exp seed j is = grind (arith, name_is)

  slot_fits : (command : Command) (only : Bool) (exp : List ℕ) (j : Result Task Reply) → name_of command ≡ Some exp → IsSwapOf exp j → IsFit s command busy count (in_slot count only j)
  slot_fits command only exp j named is = grind arith

  -- `create`
  abbrev FitsNew : List ℕ → ℕ → List ℕ → Result Task Reply → Type 0
  FitsNew exp lines text j = IsFit s (commands.Create exp lines text) busy count j

  wiring_fits : (exp : List ℕ) (lines : ℕ) (text : List ℕ) (w : Wiring) → FitsNew exp lines text (judged_wiring s exp w)
  wiring_fits exp lines text w = grind arith

  place_inner : (exp : List ℕ) (reply : Reply) → need_lab_and_name s exp ≡ Err reply → is_outer reply ≡ false
  place_inner exp reply is = grind arith

  meaning_inner : (exp : List ℕ) (meaning : Result Wiring TextFault) (reply : Reply) → need_meaning (replies.Bad exp) meaning ≡ Err reply → is_outer reply ≡ false
  meaning_inner exp (Ok w) reply is = absurd (cc is)
  meaning_inner exp (Err fault) reply is = let same : replies.Bad exp fault ≡ reply = cc is in subst (λ (r : Reply). is_outer r ≡ false) same refl

  network_fits : (exp : List ℕ) (lines : ℕ) (text : List ℕ) (j : Result Task Reply) → JudgedCreate s exp text j → FitsNew exp lines text j
  network_fits exp lines text j (refused reply needed is) = subst (FitsNew exp lines text) (sym is) (place_inner exp reply needed)
  network_fits exp lines text j (asked occupied needed t) = by t.judged
    where
      by : OrRefused (need_meaning (replies.Bad exp) t.meaning) (λ w. Is (judged_wiring s exp w)) j → FitsNew exp lines text j
      by (refused reply needed is) = subst (FitsNew exp lines text) (sym is) (meaning_inner exp t.meaning reply needed)
      by (asked w needed is) = subst (FitsNew exp lines text) (sym is) (wiring_fits exp lines text w)

  delete_fits : (exp : List ℕ) → IsFit s (commands.Delete exp) busy count (judged_delete s busy exp)
  delete_fits exp = grind arith

  pub fits : (rule : RuleNumber) (command : Command) (j : Result Task Reply) → Judged rule s busy count command j → IsFit s command busy count j
  fits rule (commands.Ptop lines text) j is = subst (IsFit s (commands.Ptop lines text) busy count) (sym is) (ptop_fits lines text)
  fits rule (commands.CreateTop exp lines text) j is = subst (IsFit s (commands.CreateTop exp lines text) busy count) (sym is) (create_fits exp lines text)
  fits rule (commands.SwapinWith only exp lines text) j is = subst (IsFit s (commands.SwapinWith only exp lines text) busy count) (sym is) (slot_fits (commands.SwapinWith only exp lines text) only exp _ refl (swapin_is exp text))
  fits rule (commands.Delete exp) j is = subst (IsFit s (commands.Delete exp) busy count) (sym is) (delete_fits exp)
  fits rule (commands.Create exp lines text) j is = network_fits exp lines text j is
  fits rule (commands.Swapin only exp seed) j is = subst (IsFit s (commands.Swapin only exp seed) busy count) (sym is.is) (slot_fits (commands.Swapin only exp seed) only exp is.before refl (entry_is rule exp seed is.before is.judged))
  fits rule (commands.Modify only exp seed lines text) j is = subst (IsFit s (commands.Modify only exp seed lines text) busy count) (sym is.is) (slot_fits (commands.Modify only exp seed lines text) only exp is.before refl (modify_is rule exp seed text is.before is.judged))
  fits rule (commands.ModifyWith only exp lines top others map) j is = subst (IsFit s (commands.ModifyWith only exp lines top others map) busy count) (sym is) (slot_fits (commands.ModifyWith only exp lines top others map) only exp _ refl (modify_with_is exp lines top map))
  fits rule command j is = grind arith
