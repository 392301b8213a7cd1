-- THE HOST KEEPS what every network keeps.
use Rattle.std.proofs.Common.{◌≡◌, ℕ, ◌+◌, Bool, true, false, cond, List, [], ◌∷◌, map, Option, Some, None, Ok, refl, sym, subst, arith}
use Rattle.lab_base.specs.declared.fault.Kind.TheVariants as kinds
use Rattle.virt_topo.specs.declared.topo.AskedNode.{AskedNode}
use Rattle.virt_topo.specs.declared.topo.AskedLink.{AskedLink}
use Rattle.ns_words.specs.declared.names.Numbered.TheVariants as numbered
use Rattle.ns_words.specs.Objects.{numbered_name_of, object_name_of}
use Rattle.ns_words.proofs.NameLaws.{name_exact}
use Rattle.ns_build.specs.declared.keywords.Keyword.{Keyword}
use Rattle.ns_build.specs.declared.keywords.Keyword.TheVariants as keywords
use Rattle.ns_build.specs.declared.task.Task.{Task}
use Rattle.ns_build.specs.declared.task.Task.TheVariants as tasks
use Rattle.ns_build.specs.declared.task.NodeChange.TheVariants as nodes
use Rattle.ns_build.specs.declared.task.LinkChange.TheVariants as links
use Rattle.ns_build.specs.Networks.{Network, empty}
use Rattle.ns_build.specs.Words.{node_of, link_of}
use Rattle.ns_build.specs.Checks.{◌>>=◌, refuse, object_name_in}
use Rattle.ns_build.specs.Keywords.{keyword_of}
use Rattle.ns_build.specs.Commands.{judged_simulator}
use Rattle.ns_build.specs.Tasks.{judged_keyword, calls_simulator, judged, has_node, has_link, is_numbered, named_node, named_link, named_by, judged_name}
use Rattle.ns_build.specs.Host.{done}
use Rattle.ns_build.specs.Kept.{IsKept}
use Rattle.ns_build.proofs.Fitting.{FitsName, Fits}
use Rattle.ns_build.proofs.Chains.{fault_of, okay, then_ok, need_ok, refuse_ok, ok_is}
use Rattle.ns_build.proofs.JudgedObjects.{judged_new_fits, judged_source_fits, judged_simulator_fits}
use Rattle.ns_build.proofs.JudgedSettings.{judged_os_fits, judged_hardware_fits, judged_fixed_fits, judged_ip_fits, judged_end_ip_fits, judged_loss_fits, judged_multiplexed_fits, judged_class_fits}
use Rattle.ns_build.proofs.KeepingNodes.{keeps_node, keeps_node_change}
use Rattle.ns_build.proofs.KeepingLinks.{keeps_link, keeps_link_change}
use Rattle.ns_build.proofs.KeepingClasses.{keeps_class}
use Rattle.ns_build.proofs.KeepingEvents.{keeps_event}

-- COMMANDS

judged_keyword_fits : (n : Network) (keyword : Option Keyword) (words : List (List ℕ)) (task : Task) → judged_keyword n keyword words ≡ Ok task → Fits n task
unfolding judged_keyword
judged_keyword_fits n (Some keywords.New) words task h = judged_new_fits n words task h
judged_keyword_fits n (Some keywords.Source) words task h = judged_source_fits n words task h
judged_keyword_fits n (Some keywords.NodeOs) words task h = judged_os_fits n words task h
judged_keyword_fits n (Some keywords.Hardware) words task h = judged_hardware_fits n words task h
judged_keyword_fits n (Some keywords.FixNode) words task h = judged_fixed_fits n words task h
judged_keyword_fits n (Some keywords.NodeIp) words task h = judged_ip_fits n words task h
judged_keyword_fits n (Some keywords.LinkIp) words task h = judged_end_ip_fits false n words task h
judged_keyword_fits n (Some keywords.LanIp) words task h = judged_end_ip_fits true n words task h
judged_keyword_fits n (Some keywords.LinkLoss) words task h = judged_loss_fits false n words task h
judged_keyword_fits n (Some keywords.LanLoss) words task h = judged_loss_fits true n words task h
judged_keyword_fits n (Some keywords.Multiplexed) words task h = judged_multiplexed_fits n words task h
judged_keyword_fits n (Some keywords.SoftVtype) words task h = judged_class_fits n words task h
judged_keyword_fits n (Some keywords.OtherSetting) words task h = absurd (let e : fault_of Task kinds.Unsupported ≡ Ok task = h in cc)
judged_keyword_fits n None words task h = subst (Fits n) (ok_is tasks.NotMine task h) tt

judged_fits : (line : ℕ) (n : Network) (words : List (List ℕ)) (task : Task) → judged line n words ≡ Ok task → Fits n task
unfolding judged judged_keyword
judged_fits line n [] task h = subst (Fits n) (ok_is tasks.NotMine task h) tt
judged_fits line n (word ∷ words) task h = by (calls_simulator n word) h
  where
    by : (t : Bool) → cond t (judged_simulator line n (word ∷ words)) (judged_keyword n (keyword_of word) (word ∷ words)) ≡ Ok task → Fits n task
    by true e = judged_simulator_fits line n (word ∷ words) task e
    by false e = judged_keyword_fits n (keyword_of word) (word ∷ words) task e

-- NAMES

name_fits : (variable name : List ℕ) (taken : Bool) (u : Unit {0}) → object_name_in variable ≡ Ok name → refuse kinds.Twice taken ≡ Ok u → FitsName taken name
unfolding object_name_in
name_fits variable name taken u h g = record {
  variable = variable;
  given = (name_exact variable name).0 (need_ok kinds.Name (object_name_of variable) name h);
  free = refuse_ok kinds.Twice taken u g;
}

node_name_fits : (n : Network) (v : ℕ) (variable : List ℕ) (task : Task) → named_node n v variable ≡ Ok task → Fits n task
unfolding named_node
node_name_fits n v variable task h = by (is_numbered (numbered_name_of numbered.Node (v + 1)) (map (λ (x : AskedNode). x.name) n.nodes) v) h
  where
    by : (t : Bool) → cond t (object_name_in variable >>= (λ name. refuse kinds.Twice (has_node n name) >>= (λ differ. okay (tasks.ChangeNode v (nodes.Name name))))) (Ok tasks.Nothing) ≡ Ok task → Fits n task
    by true e =
        let name = then_ok (object_name_in variable) _ task e in
        let differ = then_ok (refuse kinds.Twice (has_node n name.0)) _ task name.2 in
        subst (Fits n) (ok_is (tasks.ChangeNode v (nodes.Name name.0)) task differ.2) (name_fits variable name.0 (has_node n name.0) differ.0 name.1 differ.1)
    by false e = subst (Fits n) (ok_is tasks.Nothing task e) tt

link_name_fits : (n : Network) (l : ℕ) (variable : List ℕ) (task : Task) → named_link n l variable ≡ Ok task → Fits n task
unfolding named_link
link_name_fits n l variable task h = by (is_numbered (numbered_name_of numbered.Link (l + 1)) (map (λ (x : AskedLink). x.name) n.links) l) h
  where
    by : (t : Bool) → cond t (object_name_in variable >>= (λ name. refuse kinds.Twice (has_link n name) >>= (λ differ. okay (tasks.ChangeLink l (links.Name name))))) (Ok tasks.Nothing) ≡ Ok task → Fits n task
    by true e =
        let name = then_ok (object_name_in variable) _ task e in
        let differ = then_ok (refuse kinds.Twice (has_link n name.0)) _ task name.2 in
        subst (Fits n) (ok_is (tasks.ChangeLink l (links.Name name.0)) task differ.2) (name_fits variable name.0 (has_link n name.0) differ.0 name.1 differ.1)
    by false e = subst (Fits n) (ok_is tasks.Nothing task e) tt

named_fits : (n : Network) (v l : Option ℕ) (variable : List ℕ) (task : Task) → named_by n v l variable ≡ Ok task → Fits n task
unfolding named_by
named_fits n (Some v) l variable task h = node_name_fits n v variable task h
named_fits n None (Some l) variable task h = link_name_fits n l variable task h
named_fits n None None variable task h = subst (Fits n) (ok_is tasks.Nothing task h) tt

judged_name_fits : (n : Network) (variable value : List ℕ) (task : Task) → judged_name n variable value ≡ Ok task → Fits n task
unfolding judged_name
judged_name_fits n variable value task h = named_fits n (node_of n value) (link_of n value) variable task h

-- TASKS

kept_done : (n : Network) (task : Task) → IsKept n → Fits n task → IsKept (done n task)
kept_done n tasks.NotMine k fit = k
kept_done n tasks.Nothing k fit = k
kept_done n tasks.Stop k fit = k
kept_done n tasks.MakeSimulator k fit = record { topo = k.topo; plain = k.plain; node_names = k.node_names; link_names = k.link_names; few_events = k.few_events; events = λ e h. record { known = (k.events e h).known; limits = (k.events e h).limits } }
kept_done n (tasks.AddNode name) k fit = keeps_node n name k fit
kept_done n (tasks.AddLink link) k fit = keeps_link n link k fit
kept_done n (tasks.AddClass class) k fit = keeps_class n class k fit
kept_done n (tasks.AddEvent e) k fit = keeps_event n e k fit
kept_done n (tasks.ChangeNode v change) k fit = keeps_node_change n v change k fit
kept_done n (tasks.ChangeLink l change) k fit = keeps_link_change n l change k fit

-- what a command does, and what a variable's name does
pub keeps : (line : ℕ) (n after : Network) (words : List (List ℕ)) (task : Task) → IsKept n → judged line n words ≡ Ok task → after ≡ done n task → IsKept after
keeps line n after words task k h e = subst IsKept (sym e) (kept_done n task k (judged_fits line n words task h))

pub keeps_name : (n after : Network) (variable value : List ℕ) (task : Task) → IsKept n → judged_name n variable value ≡ Ok task → after ≡ done n task → IsKept after
keeps_name n after variable value task k h e = subst IsKept (sym e) (kept_done n task k (judged_name_fits n variable value task h))

-- and the empty network keeps it
pub empty_kept : IsKept empty
empty_kept = record {
  topo = record {
    few_nodes = omega arith;
    few_links = omega arith;
    few_classes = omega arith;
    links = refl;
    classes = refl;
    asks = refl;
    ends = refl;
    nodes_differ = refl;
    links_differ = refl;
    classes_differ = refl;
    node_names = λ x m. absurd m;
    link_names = λ x m. absurd m;
    class_names = refl;
    types_differ = refl;
    members_differ = refl;
  };
  plain = refl;
  node_names = tt;
  link_names = tt;
  few_events = omega arith;
  events = λ e m. absurd m;
}
