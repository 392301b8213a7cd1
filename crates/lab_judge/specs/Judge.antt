-- The judgement of a command: the first refusal in order, or its task.
use Rattle.std.specs.Prelude.{◌≡◌, ℕ, Bool, true, false, List, length, map, Option, Some, None, Result, Ok}
use Rattle.std.specs.List.{zip}
use Rattle.lab_base.specs.declared.ids.VlanId.{VlanId}
use Rattle.phys_lab.specs.Labs.{Lab}
use Rattle.virt_topo.specs.declared.wiring.Segment.{Segment}
use Rattle.virt_topo.specs.Sharing.{has_multiplexed}
use Rattle.virt_topo.specs.declared.wiring.Wiring.{Wiring}
use Rattle.virt_topo.specs.declared.experiment.Experiment.{Experiment}
use Rattle.virt_topo.specs.declared.experiment.Phase.{Phase}
use Rattle.virt_topo.specs.declared.experiment.Phase.TheVariants.{Out, In, Moving}
use Rattle.journal_rec.specs.declared.record.Record.TheVariants.{Lab as LabRecord, Delete}
use Rattle.journal_rec.specs.declared.record.Way.TheVariants.{Out as WayOut}
use Rattle.records_model.specs.Labs.{LabState, create_in, find, others}
use Rattle.ptop_text.specs.Adding.{lab_of_text}
use Rattle.ptop_text.specs.Canonical.{canonical}
use Rattle.top_text.specs.Adding.{wiring_of_text}
use Rattle.top_text.specs.Canonical.{canonical_top}
use Rattle.cost_rule.specs.declared.rule.RuleNumber.{RuleNumber}
use Rattle.solution_text.specs.CanonicalSolution.{canonical_solution}
use Rattle.script_text.specs.declared.command.Command.{Command}
use Rattle.script_text.specs.declared.command.Command.TheVariants as commands
use Rattle.script_text.specs.declared.reply.PhaseWord.{PhaseWord}
use Rattle.script_text.specs.declared.reply.PhaseWord.TheVariants as words
use Rattle.script_text.specs.declared.reply.StatusLine.{StatusLine}
use Rattle.script_text.specs.declared.reply.TagLine.{TagLine}
use Rattle.script_text.specs.declared.reply.Placed.{Placed}
use Rattle.script_text.specs.declared.reply.Reply.{Reply}
use Rattle.script_text.specs.declared.reply.Reply.TheVariants.{Lab as LabReply, Created, Shown, Deleted, Listed, Bad, BadPtop}
use Rattle.lab_tasks.specs.Counts.{nodes_claimed, ids_claimed, nodes_free, ids_free}
use Rattle.lab_tasks.specs.Mappings.{judged_swapin_with, judged_modify_with, in_slot}
use Rattle.lab_tasks.specs.Needs.{need_lab, need_none, need_found, need_meaning, need_room, need_open, need_lab_and_name, need_idle_out, need_idle_in, OrRefused, ◌>>=◌}
use Rattle.lab_tasks.specs.Tasks.{Task, Tell, Append, Swap, Turn, Finish, Recover}
use Rattle.lab_judge.specs.Searches.{JudgedText, JudgedSolve, JudgedSwapin, JudgedModify}

-- WHAT IS TOLD

-- the numbers of switches, nodes and trunks
abbrev pub lab_reply : Lab → Reply
lab_reply lab = LabReply (length lab.switches) (length lab.nodes) (length lab.trunks)

-- the numbers of virtual nodes and segments
abbrev pub created_reply : List ℕ → Wiring → Reply
created_reply exp wiring = Created exp (length wiring.nodes) (length wiring.segments)

-- the phase of an experiment, as a reply has it
abbrev pub phase_word : Phase → PhaseWord
phase_word Out = words.Out
phase_word (In mapping tags) = words.In
phase_word (Moving old new) = words.Moving

-- the segments with their VLAN ids
abbrev pub tag_line : Segment × VlanId → TagLine
tag_line placed = record { segment = placed.0.name; vlan = placed.1 }

abbrev pub tag_lines : List Segment → List VlanId → List TagLine
tag_lines segments tags = map tag_line (zip segments tags)

-- where an experiment stands
abbrev pub placed_at : Lab → Wiring → Phase → Option Placed
placed_at lab w (In mapping tags) = Some (record { solution = canonical_solution lab w mapping; tags = tag_lines w.segments tags })
placed_at lab w phase = None

-- an experiment: its wiring, while it moves the one that it had before, and where it stands
abbrev pub shown_reply : Lab → Experiment → Reply
shown_reply lab e = Shown e.name (phase_word e.phase) (canonical_top e.wiring) (placed_at lab e.wiring e.phase)

-- a line for each experiment: its phase, and the numbers of nodes and VLAN ids that it claims
abbrev pub status_line : Lab → Experiment → StatusLine
status_line lab e = record { exp = e.name; phase = phase_word e.phase; nodes = nodes_claimed lab e; vlans = ids_claimed e }

-- and then the numbers that none claims
abbrev pub status_reply : Lab → List Experiment → Reply
status_reply lab es = Listed (map (status_line lab) es) (nodes_free lab es) (ids_free lab es)

-- THE FIRST REFUSAL OF A COMMAND, OR ITS TASK

abbrev pub judged_ptop : LabState → List ℕ → Result Task Reply
judged_ptop s text = do
  none ← need_none s.lab
  lab ← need_meaning BadPtop (lab_of_text text)
  Ok (Append (LabRecord (canonical lab)) (lab_reply lab))

abbrev pub judged_wiring : LabState → List ℕ → Wiring → Result Task Reply
judged_wiring s exp wiring = do
  room ← need_room s.experiments
  Ok (Append (create_in (has_multiplexed wiring) exp (canonical_top wiring)) (created_reply exp wiring))

abbrev pub judged_create_top : LabState → List ℕ → List ℕ → Result Task Reply
judged_create_top s exp text = do
  occupied ← need_lab_and_name s exp
  wiring ← need_meaning (Bad exp) (wiring_of_text text)
  judged_wiring s exp wiring

abbrev pub judged_show : LabState → List ℕ → Result Task Reply
judged_show s exp = do
  lab ← need_lab s.lab
  e ← need_found exp (find exp s.experiments)
  Ok (Tell (shown_reply lab e))

abbrev pub judged_delete : LabState → Bool → List ℕ → Result Task Reply
judged_delete s busy exp = do
  p ← need_idle_out s busy exp
  Ok (Append (Delete exp) (Deleted exp))

abbrev pub judged_swapout : LabState → Bool → List ℕ → Result Task Reply
judged_swapout s busy exp = do
  p ← need_idle_in s busy exp
  Ok (Swap exp WayOut)

abbrev pub judged_turn : LabState → Bool → List ℕ → Result Task Reply
judged_turn s busy exp = do
  lab ← need_lab s.lab
  e ← need_found exp (find exp s.experiments)
  opened ← need_open exp busy
  Ok (Turn exp)

abbrev pub judged_finish : LabState → Bool → List ℕ → Result Task Reply
judged_finish s busy exp = do
  lab ← need_lab s.lab
  e ← need_found exp (find exp s.experiments)
  opened ← need_open exp busy
  Ok (Finish exp)

abbrev pub judged_status : LabState → Result Task Reply
judged_status s = do
  lab ← need_lab s.lab
  Ok (Tell (status_reply lab s.experiments))

abbrev pub judged_recover : LabState → Result Task Reply
judged_recover s = do
  lab ← need_lab s.lab
  Ok Recover

-- the refusal, or the task, is this one
abbrev pub Is : Result Task Reply → Result Task Reply → Type 0
Is judgement other = other ≡ judgement

-- `create`: the NS text is asked for its wiring only where nothing refuses before
abbrev pub JudgedCreate : LabState → List ℕ → List ℕ → Result Task Reply → Type 0
JudgedCreate s exp text = OrRefused (need_lab_and_name s exp) (λ occupied. JudgedText exp text (λ w. Is (judged_wiring s exp w)))

-- and a swap of it needs room among the open swaps
pub record InSlot (count : ℕ) (only : Bool) (Judges : Result Task Reply → Type 0) (judgement : Result Task Reply) : Type 0 where
  pub before : Result Task Reply
  pub judged : Judges before
  pub is : judgement ≡ in_slot count only before

-- WHAT IS JUDGED of a command by that cost rule, whatever the journal's length, by whether its experiment has an open swap and how many are open. No
-- drill comes, and no list of commands.
abbrev pub Judged : RuleNumber → LabState → Bool → ℕ → Command → Result Task Reply → Type 0
Judged rule s busy count (commands.Ptop lines text) = Is (judged_ptop s text)
Judged rule s busy count (commands.Create exp lines text) = JudgedCreate s exp text
Judged rule s busy count (commands.CreateTop exp lines text) = Is (judged_create_top s exp text)
Judged rule s busy count (commands.Show exp) = Is (judged_show s exp)
Judged rule s busy count (commands.Solve exp seed) = JudgedSolve rule s busy exp seed
Judged rule s busy count (commands.Swapin only exp seed) = InSlot count only (JudgedSwapin rule s busy exp seed)
Judged rule s busy count (commands.SwapinWith only exp lines text) = Is (in_slot count only (judged_swapin_with s busy exp text))
Judged rule s busy count (commands.Modify only exp seed lines text) = InSlot count only (JudgedModify rule s busy exp seed text)
Judged rule s busy count (commands.ModifyWith only exp lines top others map) = Is (in_slot count only (judged_modify_with s busy exp lines top map))
Judged rule s busy count (commands.Swapout only exp) = Is (in_slot count only (judged_swapout s busy exp))
Judged rule s busy count (commands.Turn exp) = Is (judged_turn s busy exp)
Judged rule s busy count (commands.Finish exp) = Is (judged_finish s busy exp)
Judged rule s busy count commands.Recover = Is (judged_recover s)
Judged rule s busy count (commands.Fail device nth how) = λ judgement. ⊥
Judged rule s busy count (commands.FailDisk nth) = λ judgement. ⊥
Judged rule s busy count (commands.Stop nth pick) = λ judgement. ⊥
Judged rule s busy count (commands.Play exp from to lines text) = λ judgement. ⊥
Judged rule s busy count (commands.Batch moment lines text) = λ judgement. ⊥
Judged rule s busy count (commands.Delete exp) = Is (judged_delete s busy exp)
Judged rule s busy count commands.Status = Is (judged_status s)
Judged rule s busy count commands.Audit = λ judgement. ⊥

-- a command that no single judgement decides: a list of commands, or an audit
abbrev pub is_unjudged : Command → Bool
is_unjudged (commands.Play exp from to lines text) = true
is_unjudged (commands.Batch moment lines text) = true
is_unjudged commands.Audit = true
is_unjudged command = false
