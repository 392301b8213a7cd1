-- THE TWO CALLS of the host of NS commands.
use Rattle.std.specs.Prelude.{ℕ, true, List, [], ◌∷◌, ◌++◌, length, Result, Ok, Err}
use Rattle.lab_base.specs.declared.fault.Kind.{Kind}
use Rattle.tcl_eval.specs.declared.hosts.Called.{Called}
use Rattle.tcl_eval.specs.declared.hosts.Called.TheVariants.{NotMine, Value, Stop}
use Rattle.ns_build.specs.declared.task.Task.{Task}
use Rattle.ns_build.specs.declared.task.Task.TheVariants as tasks
use Rattle.ns_build.specs.Networks.{Network, fresh_node, change_node, change_link}
use Rattle.ns_build.specs.Words.{simulator_word, node_word, link_word}
use Rattle.ns_build.specs.Tasks.{judged, judged_name}

-- the result of a command
abbrev pub result_of : Network → Task → Called
result_of n tasks.NotMine = NotMine
result_of n tasks.Stop = Stop
result_of n tasks.MakeSimulator = Value simulator_word
result_of n (tasks.AddNode name) = Value (node_word (length n.nodes))
result_of n (tasks.AddLink link) = Value (link_word (length n.links))
result_of n task = Value []

-- the network after it
abbrev pub done : Network → Task → Network
done n tasks.MakeSimulator = record n { simulator = true }
done n (tasks.AddNode name) = record n { nodes = n.nodes ++ fresh_node name ∷ [] }
done n (tasks.AddLink link) = record n { links = n.links ++ link ∷ [] }
done n (tasks.AddClass class) = record n { classes = n.classes ++ class ∷ [] }
done n (tasks.AddEvent event) = record n { events = n.events ++ event ∷ [] }
done n (tasks.ChangeNode v change) = change_node n v change
done n (tasks.ChangeLink l change) = change_link n l change
done n task = n

-- a fault changes nothing
abbrev pub answered : Network → Result Task Kind → Result Called Kind × Network
answered n (Ok task) = (Ok (result_of n task), done n task)
answered n (Err kind) = (Err kind, n)

abbrev pub heard : Network → Result Task Kind → Result (Unit {0}) Kind × Network
heard n (Ok task) = (Ok tt, done n task)
heard n (Err kind) = (Err kind, n)

-- the words of a command, on the line of the command of the whole text that is under way
unfoldable pub called : ℕ → Network → List (List ℕ) → Result Called Kind × Network
called line n words = answered n (judged line n words)

-- a variable that `set` gives a value
unfoldable pub assigned : Network → List ℕ → List ℕ → Result (Unit {0}) Kind × Network
assigned n variable value = heard n (judged_name n variable value)
