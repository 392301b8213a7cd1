-- The texts of replies.
use Rattle.std.specs.Prelude.{ℕ, Bool, true, false, List, [], ◌∷◌, ◌++◌, length, codes, Option, Some, None}
use Rattle.std.specs.List.{flat_map, list_any}
use Rattle.std.specs.Fmt.{decimal}
use Rattle.lab_base.specs.Kinds.{word_of}
use Rattle.lab_base.specs.declared.fault.TextFault.{TextFault}
use Rattle.script_text.specs.declared.reply.PhaseWord.{PhaseWord}
use Rattle.script_text.specs.declared.reply.PhaseWord.TheVariants.{Out, In, Moving}
use Rattle.script_text.specs.declared.reply.StatusLine.{StatusLine}
use Rattle.script_text.specs.declared.reply.AuditLine.{AuditLine}
use Rattle.script_text.specs.declared.reply.AuditLine.TheVariants as lines
use Rattle.script_text.specs.declared.reply.TagLine.{TagLine}
use Rattle.script_text.specs.declared.reply.Placed.{Placed}
use Rattle.script_text.specs.declared.reply.Served.{Served}
use Rattle.script_text.specs.declared.reply.FailedEnd.{FailedEnd}
use Rattle.script_text.specs.declared.reply.FailedEnd.TheVariants as ends
use Rattle.lab_base.specs.declared.what.What.{What}
use Rattle.lab_base.specs.declared.what.What.TheVariants.{Device, Late, Unlawful, Journal}
use Rattle.lab_base.specs.declared.boot.Boot.{Boot}
use Rattle.lab_base.specs.declared.boot.Boot.TheVariants as boots
use Rattle.virt_topo.specs.declared.violation.Broken.{Broken}
use Rattle.virt_topo.specs.declared.violation.Broken.TheVariants as rules
use Rattle.script_text.specs.declared.reply.Reply.{Reply}
use Rattle.script_text.specs.declared.reply.Reply.TheVariants as replies

abbrev pub phase_word : PhaseWord → List ℕ
phase_word Out = codes "out"
phase_word In = codes "in"
phase_word Moving = codes "moving"

-- words with a name after them, and a line feed
abbrev pub named_line : List ℕ → List ℕ → List ℕ
named_line words name = words ++ name ++ 10 ∷ []

-- words with the line and the kind of a fault after them
abbrev pub fault_line : List ℕ → TextFault → List ℕ
fault_line words fault = words ++ decimal fault.line ++ 32 ∷ [] ++ word_of fault.kind ++ 10 ∷ []

-- words with two numbers after them
abbrev pub two_line : List ℕ → ℕ → ℕ → List ℕ
two_line words first second = words ++ decimal first ++ 32 ∷ [] ++ decimal second ++ 10 ∷ []

abbrev pub lab_line : ℕ → ℕ → ℕ → List ℕ
lab_line switches nodes trunks = codes "lab " ++ decimal switches ++ 32 ∷ [] ++ decimal nodes ++ 32 ∷ [] ++ decimal trunks ++ 10 ∷ []

abbrev pub exp_line : StatusLine → List ℕ
exp_line e = codes "exp " ++ e.exp ++ 32 ∷ [] ++ phase_word e.phase ++ 32 ∷ [] ++ decimal e.nodes ++ 32 ∷ [] ++ decimal e.vlans ++ 10 ∷ []

-- a segment with its VLAN id
abbrev pub tag_line : TagLine → List ℕ
tag_line t = codes "tag " ++ t.segment ++ 32 ∷ [] ++ decimal t.vlan.0 ++ 10 ∷ []

-- where an experiment stands, if it is in
abbrev pub placed_lines : Option Placed → List ℕ
placed_lines None = []
placed_lines (Some p) = p.solution ++ flat_map tag_line p.tags

abbrev pub shown_lines : List ℕ → PhaseWord → List ℕ → Option Placed → List ℕ
shown_lines exp phase top placed = codes "show " ++ exp ++ 32 ∷ [] ++ phase_word phase ++ 10 ∷ [] ++ top ++ placed_lines placed ++ codes "end " ++ exp ++ 10 ∷ []

-- what a search found: the cost, and the canonical solution text
abbrev pub solved_lines : List ℕ → List ℕ → ℕ → List ℕ → List ℕ
solved_lines words exp cost solution = words ++ exp ++ 32 ∷ [] ++ decimal cost ++ 10 ∷ [] ++ solution ++ codes "end " ++ exp ++ 10 ∷ []

-- the words of boot states, of rules and of ends
abbrev pub boot_word : Boot → List ℕ
boot_word boots.Off = codes "OFF"
boot_word boots.Shutdown = codes "SHUTDOWN"
boot_word boots.Booting = codes "BOOTING"
boot_word boots.TbSetup = codes "TBSETUP"
boot_word boots.IsUp = codes "ISUP"

abbrev pub rule_word : Broken → List ℕ
rule_word rules.F1 = codes "F1"
rule_word rules.F2 = codes "F2"
rule_word rules.F3 = codes "F3"
rule_word rules.F4 = codes "F4"
rule_word rules.F5 = codes "F5"
rule_word rules.F6 = codes "F6"
rule_word rules.F7 = codes "F7"
rule_word rules.F8 = codes "F8"

abbrev pub end_word : FailedEnd → List ℕ
end_word ends.Out = codes "out"
end_word ends.In = codes "in"
end_word ends.Stuck = codes "stuck"

-- what troubled a swap
abbrev pub what_words : What → List ℕ
what_words (Device name) = codes "device " ++ name
what_words (Late node) = codes "boot " ++ node
what_words (Unlawful node from to) = codes "boot " ++ node ++ 32 ∷ [] ++ boot_word from ++ 32 ∷ [] ++ boot_word to
what_words Journal = codes "journal"

abbrev pub failed_line : List ℕ → FailedEnd → What → List ℕ
failed_line exp end what = codes "failed " ++ exp ++ 32 ∷ [] ++ end_word end ++ 32 ∷ [] ++ what_words what ++ 10 ∷ []

abbrev pub trouble_line : List ℕ → What → List ℕ
trouble_line exp what = codes "trouble " ++ exp ++ 32 ∷ [] ++ what_words what ++ 10 ∷ []

abbrev pub infeasible_line : List ℕ → Broken → List ℕ → List ℕ
infeasible_line exp rule subject = codes "infeasible " ++ exp ++ 32 ∷ [] ++ rule_word rule ++ 32 ∷ [] ++ subject ++ 10 ∷ []

-- how many events were played, and the text of the reply that ended it
abbrev pub played_lines : List ℕ → ℕ → List ℕ → List ℕ
played_lines exp played last = codes "played " ++ exp ++ 32 ∷ [] ++ decimal played ++ 10 ∷ [] ++ last

-- a run that waits: the moment, how many nodes are needed and how many are left, and the types
abbrev pub kind_word : List ℕ → List ℕ
kind_word kind = 32 ∷ kind

abbrev pub wait_line : List ℕ → ℕ → ℕ → ℕ → List (List ℕ) → List ℕ
wait_line exp at need have kinds =
    codes "wait " ++ exp ++ 32 ∷ [] ++ decimal at ++ 32 ∷ [] ++ decimal need ++ 32 ∷ [] ++ decimal have ++ flat_map kind_word kinds ++ 10 ∷ []

-- a line of an audit, and all of them
abbrev pub row_line : List ℕ → List ℕ → ℕ → ℕ → List ℕ
row_line words switch port vlan = words ++ switch ++ 32 ∷ [] ++ decimal port ++ 32 ∷ [] ++ decimal vlan ++ 10 ∷ []

abbrev pub audit_line : AuditLine → List ℕ
audit_line (lines.Lacks switch port vlan) = row_line (codes "lacks ") switch port vlan.0
audit_line (lines.Strange switch port vlan) = row_line (codes "strange ") switch port vlan.0
audit_line (lines.Node node) = named_line (codes "node ") node

abbrev pub audit_lines : List AuditLine → List ℕ
audit_lines told = codes "audit " ++ decimal (length told) ++ 10 ∷ [] ++ flat_map audit_line told

-- THE TEXT OF A REPLY
abbrev pub text_of : Reply → List ℕ
text_of (replies.Lab switches nodes trunks) = lab_line switches nodes trunks
text_of (replies.Created exp nodes segments) = two_line (codes "created " ++ exp ++ 32 ∷ []) nodes segments
text_of (replies.Shown exp phase top placed) = shown_lines exp phase top placed
text_of (replies.Least exp cost solution) = solved_lines (codes "least ") exp cost solution
text_of (replies.Local exp cost solution) = solved_lines (codes "local ") exp cost solution
text_of (replies.NoneFits exp) = named_line (codes "none ") exp
text_of (replies.GaveUp exp) = named_line (codes "gave up ") exp
text_of (replies.Deleted exp) = named_line (codes "deleted ") exp
text_of (replies.Listed experiments nodes vlans) = flat_map exp_line experiments ++ two_line (codes "free ") nodes vlans
text_of replies.NoLab = codes "no lab\n"
text_of replies.LabIsSet = codes "lab is set\n"
text_of (replies.Exists exp) = named_line (codes "exists ") exp
text_of (replies.Unknown exp) = named_line (codes "unknown ") exp
text_of (replies.In exp) = named_line (codes "in ") exp
text_of (replies.Out exp) = named_line (codes "out ") exp
text_of (replies.More exp) = named_line (codes "more ") exp
text_of (replies.Trouble exp what) = trouble_line exp what
text_of (replies.Failed exp end what) = failed_line exp end what
text_of (replies.Recovered done stuck) = two_line (codes "recovered ") done stuck
text_of (replies.Played exp played last closing blaming) = played_lines exp played last
text_of (replies.Wait exp at need have kinds) = wait_line exp at need have kinds
text_of (replies.Served served) = served.lines
text_of (replies.Audit told) = audit_lines told
text_of (replies.Unread name) = named_line (codes "unread ") name
text_of replies.Planned = codes "planned\n"
text_of replies.NoDrill = codes "no drill\n"
text_of (replies.Infeasible exp rule subject) = infeasible_line exp rule subject
text_of (replies.IsOut exp) = named_line (codes "is out ") exp
text_of (replies.IsIn exp) = named_line (codes "is in ") exp
text_of (replies.IsMoving exp) = named_line (codes "is moving ") exp
text_of (replies.Busy exp) = named_line (codes "busy ") exp
text_of (replies.NotOpen exp) = named_line (codes "not open ") exp
text_of (replies.Bad exp fault) = fault_line (codes "bad " ++ exp ++ 32 ∷ []) fault
text_of (replies.BadPtop fault) = fault_line (codes "bad ptop ") fault
text_of (replies.BadBatch fault) = fault_line (codes "bad batch ") fault
text_of replies.FullExperiments = codes "full experiments 256\n"
text_of replies.FullSwaps = codes "full swaps 16\n"
text_of (replies.FullJournal size) = codes "full journal " ++ decimal size ++ 10 ∷ []
text_of replies.Down = codes "down\n"
text_of replies.Stopped = codes "stopped\n"

-- THE REPLY TELLS that the journal failed
abbrev pub closes : Reply → Bool
closes replies.Down = true
closes (replies.Failed exp ends.Stuck Journal) = true
closes (replies.Played exp played last closing blaming) = closing
closes (replies.Served served) = served.closes
closes reply = false

-- THE REPLY BLAMES A DEVICE: a command to it failed in the swap, or it did not tell what it holds
abbrev pub blames_device : Reply → Bool
blames_device (replies.Failed exp end (Device name)) = true
blames_device (replies.Trouble exp (Device name)) = true
blames_device (replies.Played exp played last closing blaming) = blaming
blames_device (replies.Served served) = served.blames
blames_device (replies.Unread name) = true
blames_device reply = false

-- THE REPLY TO `play`: how many events were answered `in`, and the reply that ended it, if one did
abbrev pub last_text : Option Reply → List ℕ
last_text None = []
last_text (Some reply) = text_of reply

abbrev pub last_closes : Option Reply → Bool
last_closes None = false
last_closes (Some reply) = closes reply

abbrev pub last_blames : Option Reply → Bool
last_blames None = false
last_blames (Some reply) = blames_device reply

abbrev pub played_of : List ℕ → ℕ → Option Reply → Reply
played_of exp played ended = replies.Played exp played (last_text ended) (last_closes ended) (last_blames ended)

-- the reply tells of a swap that failed
abbrev pub tells_failed : Reply → Bool
tells_failed (replies.Failed exp end what) = true
tells_failed reply = false

-- THE REPLY TO `batch`: a line for each run, in order; whether one closes, whether one blames a device, and whether one tells of a swap that failed
abbrev pub served_of : List Reply → Served
served_of told = record { lines = flat_map text_of told; closes = list_any closes told; blames = list_any blames_device told; fails = list_any tells_failed told }
