use Rattle.std.proofs.Common.{◌+◌, ◌-◌, ◌*◌, ◌<◌, ◌≤◌, [], length, drop, map, if◌then◌else◌}
use Rattle.tcl_eval.specs.Short.{AllShort, branching_of}
use Rattle.tcl_eval.specs.State.{spent}
use Rattle.tcl_eval.specs.Machines.{seen, Leads}
use Rattle.tcl_eval.specs.Jobs.{Whole, Commands, Words, Parts, Call, If, For, Each, Tier, Chain}
use Rattle.tcl_eval.proofs.machine.Machine.+eval.Given as goal

-- each goes on with fewer levels, or with what stands below it here
abbrev pub decreases-nested : goal.decreases-nested
decreases-nested g l = 24 * l.levels

abbrev pub decreases-variable : goal.decreases-variable
decreases-variable g l = 24 * l.levels + (if l.in_index then 1 else 3)

abbrev pub decreases-substitute : goal.decreases-substitute
decreases-substitute g l = 24 * l.levels + (if l.in_index then 2 else 4)

abbrev pub decreases-not_operand : goal.decreases-not_operand
decreases-not_operand g l = 24 * l.levels + 5

abbrev pub decreases-minus_operand : goal.decreases-minus_operand
decreases-minus_operand g l = 24 * l.levels + 5

abbrev pub decreases-inner_operand : goal.decreases-inner_operand
decreases-inner_operand g l = 24 * l.levels + 5

abbrev pub decreases-dollar_operand : goal.decreases-dollar_operand
decreases-dollar_operand g l = 24 * l.levels + 5

abbrev pub decreases-bracket_operand : goal.decreases-bracket_operand
decreases-bracket_operand g l = 24 * l.levels + 5

abbrev pub decreases-operand : goal.decreases-operand
decreases-operand g l = 24 * l.levels + 6

abbrev pub decreases-tier : goal.decreases-tier
decreases-tier g l = 24 * l.levels + 7 + (6 - l.tier)

abbrev pub decreases-whole : goal.decreases-whole
decreases-whole g l = 24 * l.levels + 14

abbrev pub decreases-expression : goal.decreases-expression
decreases-expression g l = 24 * l.levels + 15

abbrev pub decreases-condition : goal.decreases-condition
decreases-condition g l = 24 * l.levels + 16

abbrev pub decreases-run_expr : goal.decreases-run_expr
decreases-run_expr g l = 24 * l.levels + 17

abbrev pub decreases-run_if : goal.decreases-run_if
decreases-run_if g l = 24 * l.levels + 17

abbrev pub decreases-run_for : goal.decreases-run_for
decreases-run_for g l = 24 * l.levels + 17

abbrev pub decreases-run_foreach : goal.decreases-run_foreach
decreases-run_foreach g l = 24 * l.levels + 17

abbrev pub decreases-invoke : goal.decreases-invoke
decreases-invoke g l = 24 * l.levels + 18

abbrev pub decreases-command : goal.decreases-command
decreases-command g l = 24 * l.levels + 19

abbrev pub decreases-script : goal.decreases-script
decreases-script g l = 24 * l.levels + 20

-- however what is left ends, the whole ends so
abbrev pub invariant-script-loop-command : goal.invariant-script-loop-command
invariant-script-loop-command g l = record {
  left : l.self.left ≤ l.fn.self.left;
  rest : Leads (g.H.Host.calls l.line) g.H.Host.hears l.levels (Commands l.text (drop l.command-index l.command-items) l.value) (seen g.H.Host.objects l.self) (Whole l.text) (seen g.H.Host.objects l.fn.self);
}

abbrev pub invariant-command-loop-word : goal.invariant-command-loop-word
invariant-command-loop-word g l = record {
  left : l.self.left ≤ l.fn.self.left;
  short : AllShort l.words.items;
  rest : Leads (g.H.Host.calls l.line) g.H.Host.hears l.levels (Words l.text (drop l.word-index l.command.words) l.words.items) (seen g.H.Host.objects l.self) (Words l.text l.command.words []) (spent (seen g.H.Host.objects l.fn.self));
}

abbrev pub invariant-substitute-loop-part : goal.invariant-substitute-loop-part
invariant-substitute-loop-part g l = record {
  left : l.self.left ≤ l.fn.self.left;
  rest : Leads (g.H.Host.calls l.line) g.H.Host.hears l.levels (Parts l.text l.in_index (drop l.part-index l.parts) l.value) (seen g.H.Host.objects l.self) (Parts l.text l.in_index l.parts []) (seen g.H.Host.objects l.fn.self);
}

abbrev pub invariant-run_if-loop-branch : goal.invariant-run_if-loop-branch
invariant-run_if-loop-branch g l = record {
  left : l.self.left ≤ l.fn.self.left;
  rest : Leads (g.H.Host.calls l.line) g.H.Host.hears l.levels (If (map (branching_of l.words) (drop l.branch-index l.branch-items))) (seen g.H.Host.objects l.self) (Call l.words) (seen g.H.Host.objects l.fn.self);
}

abbrev pub invariant-run_for-loop-self : goal.invariant-run_for-loop-self
invariant-run_for-loop-self g l = record {
  left : l.self.left ≤ l.fn.self.left;
  condition : length l.condition ≤ 65536;
  next : length l.next ≤ 65536;
  body : length l.body ≤ 65536;
  rest : Leads (g.H.Host.calls l.line) g.H.Host.hears l.levels (For l.condition l.next l.body) (seen g.H.Host.objects l.self) (Call l.words) (seen g.H.Host.objects l.fn.self);
}

abbrev pub invariant-run_foreach-loop-start : goal.invariant-run_foreach-loop-start
invariant-run_foreach-loop-start g l = record {
  left : l.self.left ≤ l.fn.self.left;
  at : l.at ≤ length l.list;
  body : length l.body ≤ 65536;
  rest : Leads (g.H.Host.calls l.line) g.H.Host.hears l.levels (Each l.name l.list l.at l.body) (seen g.H.Host.objects l.self) (Call l.words) (seen g.H.Host.objects l.fn.self);
}

abbrev pub invariant-tier-loop-operator : goal.invariant-tier-loop-operator
invariant-tier-loop-operator g l = record {
  left : l.self.left ≤ l.fn.self.left;
  at : l.at ≤ length l.text;
  forward : l.fn.at < l.at;
  rest : Leads (g.H.Host.calls l.line) g.H.Host.hears l.levels (Chain l.text l.at l.tier l.live l.left) (seen g.H.Host.objects l.self) (Tier l.text l.fn.at l.tier l.live) (seen g.H.Host.objects l.fn.self);
}

abbrev pub decreases-run_for-loop-self : goal.decreases-run_for-loop-self
decreases-run_for-loop-self g l = l.self.left

abbrev pub decreases-run_foreach-loop-start : goal.decreases-run_foreach-loop-start
decreases-run_foreach-loop-start g l = length l.list - l.at

abbrev pub decreases-tier-loop-operator : goal.decreases-tier-loop-operator
decreases-tier-loop-operator g l = length l.text - l.at
