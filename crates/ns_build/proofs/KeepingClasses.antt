-- A network with one class more keeps what networks keep.
use Rattle.std.proofs.Common.{◌≡◌, Bool, false, [], ◌∷◌, ◌++◌, arith, length-append}
use Rattle.std.specs.Prelude.{codes, ◌||◌}
use Rattle.std.specs.List.{list_any}
use Rattle.std.proofs.lemmas.Bool.{or_from}
use Rattle.lab_base.specs.Names.{same_name}
use Rattle.lab_base.proofs.Tests.{or_first, or_rest}
use Rattle.virt_topo.specs.declared.wiring.Class.{Class}
use Rattle.virt_topo.specs.declared.topo.AskedNode.{AskedNode}
use Rattle.virt_topo.specs.Repeats.{stands_again}
use Rattle.virt_topo.specs.Soundness.{limits_class}
use Rattle.virt_topo.specs.Topos.{IsTopo, asks_type, knows_asked, is_type_name}
use Rattle.ns_build.specs.Networks.{Network, topo_of}
use Rattle.ns_build.specs.Kept.{IsKept}
use Rattle.ns_build.proofs.Elements.{all_weak, all_push, none_push}
use Rattle.ns_build.proofs.NamesDiffer.{again_push}
use Rattle.ns_build.proofs.Fitting.{FitsClass}
use Rattle.ns_build.proofs.KeepingNodes.{knows_more}

pub keeps_class : (n : Network) (c : Class) → IsKept n → FitsClass n c → IsKept (record n { classes = n.classes ++ c ∷ [] })
keeps_class n c k fit = kept
  where
    after : Network
    after = record n { classes = n.classes ++ c ∷ [] }

    asked : Bool
    asked = list_any (λ v. asks_type c.name v.asks) n.nodes

    named : Bool
    named = list_any (λ d. same_name d.name c.name) n.classes

    no_pc : same_name c.name (codes "pc") ≡ false
    no_pc = or_first (same_name c.name (codes "pc")) (same_name c.name (codes "delay") || (asked || named)) fit.free

    others : (same_name c.name (codes "delay") || (asked || named)) ≡ false
    others = or_rest (same_name c.name (codes "pc")) (same_name c.name (codes "delay") || (asked || named)) fit.free

    no_delay : same_name c.name (codes "delay") ≡ false
    no_delay = or_first (same_name c.name (codes "delay")) (asked || named) others

    no_asked : asked ≡ false
    no_asked = or_first asked named (or_rest (same_name c.name (codes "delay")) (asked || named) others)

    no_named : named ≡ false
    no_named = or_rest asked named (or_rest (same_name c.name (codes "delay")) (asked || named) others)

    topo : IsTopo (topo_of after)
    topo = record {
      few_nodes = k.topo.few_nodes;
      few_links = k.topo.few_links;
      few_classes = omega (arith, length-append n.classes (c ∷ []), fit.few);
      links = k.topo.links;
      classes = all_push limits_class n.classes c k.topo.classes fit.limits;
      asks = all_weak (λ (x : AskedNode). knows_asked (topo_of n) x.asks) (λ (x : AskedNode). knows_asked (topo_of after) x.asks) n.nodes
          (λ x h. knows_more (topo_of n) (topo_of after) x.asks (omega (arith, length-append n.classes (c ∷ []))) h) k.topo.asks;
      ends = k.topo.ends;
      nodes_differ = k.topo.nodes_differ;
      links_differ = k.topo.links_differ;
      classes_differ = again_push (λ (a b : Class). same_name a.name b.name) n.classes c k.topo.classes_differ no_named;
      node_names = k.topo.node_names;
      link_names = k.topo.link_names;
      class_names = none_push (λ (d : Class). is_type_name (topo_of after) d.name) n.classes c k.topo.class_names (or_from (same_name c.name (codes "delay")) asked no_delay no_asked);
      types_differ = none_push (λ (d : Class). stands_again same_name d.types) n.classes c k.topo.types_differ fit.differ;
      members_differ = k.topo.members_differ;
    }

    kept : IsKept after
    kept = record {
      topo = topo;
      plain = none_push (λ (d : Class). same_name d.name (codes "pc")) n.classes c k.plain no_pc;
      node_names = k.node_names;
      link_names = k.link_names;
      few_events = k.few_events;
      events = λ e h. record { known = (k.events e h).known; limits = (k.events e h).limits };
    }
