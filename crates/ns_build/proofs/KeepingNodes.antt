-- A network with one node more, or one changed, keeps what networks keep.
use Rattle.std.proofs.Common.{◌≡◌, inl, inr, ℕ, ◌+◌, ◌<◌, ◌≤◌, true, false, List, [], ◌∷◌, ◌++◌, length, map, Option, Some, None, refl, sym, subst, ◌∙◌, arith, length-append}
use Rattle.std.proofs.lemmas.List.{length-map, map-append}
use Rattle.std.specs.Prelude.{nat_lt, codes, position}
use Rattle.std.specs.List.{list_all, list_any}
use Rattle.std.proofs.lemmas.Bool.{ltb-true, lt-ltb, or_from}
use Rattle.lab_base.specs.Lists.{Has}
use Rattle.lab_base.specs.Names.{same_name}
use Rattle.lab_base.proofs.Tests.{or_first, or_rest}
use Rattle.lab_base.proofs.Members.{none_has, none_from, Has-push, any_map}
use Rattle.virt_topo.specs.declared.wiring.Asks.{Asks}
use Rattle.virt_topo.specs.declared.wiring.Asks.TheVariants.{Plain, Class as InClass}
use Rattle.virt_topo.specs.declared.wiring.Class.{Class}
use Rattle.virt_topo.specs.declared.wiring.VirtEnd.{VirtEnd}
use Rattle.virt_topo.specs.declared.topo.AskedNode.{AskedNode}
use Rattle.virt_topo.specs.declared.topo.AskedLink.{AskedLink}
use Rattle.virt_topo.specs.Repeats.{stands_again}
use Rattle.virt_topo.specs.Topos.{Topo, IsTopo, HasForm, IsAskedName, asks_type, knows_asked, is_type_name}
use Rattle.ns_words.specs.declared.names.Numbered.TheVariants as numbered
use Rattle.ns_words.specs.Objects.{numbered_name_of}
use Rattle.ns_words.proofs.NameLaws.{has_form, numbered_short}
use Rattle.ns_build.specs.declared.task.NodeChange.{NodeChange}
use Rattle.ns_build.specs.declared.task.NodeChange.TheVariants as nodes
use Rattle.ns_build.specs.Networks.{Network, topo_of, next_node, fresh_node, asks_in, changed_at, node_with, change_node}
use Rattle.ns_build.specs.Kept.{IsKept, AreNumbered}
use Rattle.ns_build.proofs.Elements.{all_weak, all_push, all_changed, none_push, none_changed, Has-changed, length-changed, map-changed, index_below, no_place}
use Rattle.ns_build.proofs.NamesDiffer.{again_push, again_kept, again_named}
use Rattle.ns_build.proofs.Numbering.{next_is_new, numbered_push, numbered_named, given_plain}
use Rattle.ns_build.proofs.Fitting.{FitsNode, FitsNodeChange}

-- what a node asks for is known where there are as many classes
pub knows_more : (t u : Topo) (asks : Asks) → length t.classes ≤ length u.classes → knows_asked t asks ≡ true → knows_asked u asks ≡ true
knows_more t u (Plain type) le h = refl
knows_more t u (InClass c) le h = lt-ltb c (length u.classes) (let lt : c < length t.classes = ltb-true c (length t.classes) h in omega arith)

-- ends are known where there are as many nodes
pub ends_more : (few many : ℕ) (links : List AskedLink) → few ≤ many → list_all (λ l. list_all (λ e. nat_lt e.node few) l.ends) links ≡ true → list_all (λ l. list_all (λ e. nat_lt e.node many) l.ends) links ≡ true
ends_more few many links le h =
    all_weak (λ (l : AskedLink). list_all (λ e. nat_lt e.node few) l.ends) (λ (l : AskedLink). list_all (λ e. nat_lt e.node many) l.ends) links
    (λ l each. all_weak (λ (e : VirtEnd). nat_lt e.node few) (λ (e : VirtEnd). nat_lt e.node many) l.ends (λ e lt. lt-ltb e.node many (let less : e.node < few = ltb-true e.node few lt in omega arith)) each) h

-- A NODE MORE

-- no class has the name of the type `pc`
no_class_of : (n : Network) → IsKept n → (c : Class) → Has n.classes c → is_type_name (topo_of n) c.name ≡ false
no_class_of n k c m = none_has (λ (d : Class). is_type_name (topo_of n) d.name) n.classes c k.topo.class_names m

pub keeps_node : (n : Network) (name : List ℕ) → IsKept n → FitsNode n name → IsKept (record n { nodes = n.nodes ++ fresh_node name ∷ [] })
keeps_node n name k fit = subst (λ (x : List ℕ). IsKept (record n { nodes = n.nodes ++ fresh_node x ∷ [] })) (sym fit.next) kept
  where
    new : AskedNode
    new = fresh_node (next_node n)

    after : Network
    after = record n { nodes = n.nodes ++ new ∷ [] }

    names : map (λ (x : AskedNode). x.name) (n.nodes ++ new ∷ []) ≡ map (λ (x : AskedNode). x.name) n.nodes ++ numbered_name_of numbered.Node (length n.nodes + 1) ∷ []
    names = map-append (λ (x : AskedNode). x.name) n.nodes (new ∷ [])

    count : 1 + length (map (λ (x : AskedNode). x.name) n.nodes) ≡ length n.nodes + 1
    count = omega (arith, length-map n.nodes (λ (x : AskedNode). x.name))

    is_new : list_any (λ (x : AskedNode). same_name x.name new.name) n.nodes ≡ false
    is_new =
        sym (any_map (λ (name : List ℕ). same_name name new.name) (λ (x : AskedNode). x.name) n.nodes)
        ∙ next_is_new numbered.Node 1 (length n.nodes + 1) (map (λ (x : AskedNode). x.name) n.nodes) count (omega (arith, fit.few)) k.node_names

    form : HasForm (codes "tb.n") new.name
    form = record { short = numbered_short numbered.Node (length n.nodes + 1) (omega (arith, fit.few)); asked = IsAskedName.numbered_one (length n.nodes + 1) refl }

    class_free : (c : Class) → Has n.classes c → is_type_name (topo_of after) c.name ≡ false
    class_free c m =
        or_from (same_name c.name (codes "delay")) (list_any (λ x. asks_type c.name x.asks) (n.nodes ++ new ∷ []))
        (or_first (same_name c.name (codes "delay")) (list_any (λ x. asks_type c.name x.asks) n.nodes) (no_class_of n k c m))
        (none_push (λ (x : AskedNode). asks_type c.name x.asks) n.nodes new (or_rest (same_name c.name (codes "delay")) (list_any (λ x. asks_type c.name x.asks) n.nodes) (no_class_of n k c m))
        (none_has (λ (d : Class). same_name d.name (codes "pc")) n.classes c k.plain m))

    topo : IsTopo (topo_of after)
    topo = record {
      few_nodes = omega (arith, length-append n.nodes (new ∷ []), fit.few);
      few_links = k.topo.few_links;
      few_classes = k.topo.few_classes;
      links = k.topo.links;
      classes = k.topo.classes;
      asks = all_push (λ (x : AskedNode). knows_asked (topo_of after) x.asks) n.nodes new
          (all_weak (λ (x : AskedNode). knows_asked (topo_of n) x.asks) (λ (x : AskedNode). knows_asked (topo_of after) x.asks) n.nodes (λ x h. knows_more (topo_of n) (topo_of after) x.asks (omega arith) h) k.topo.asks) refl;
      ends = ends_more (length n.nodes) (length (n.nodes ++ new ∷ [])) n.links (omega (arith, length-append n.nodes (new ∷ []))) k.topo.ends;
      nodes_differ = again_push (λ (a b : AskedNode). same_name a.name b.name) n.nodes new k.topo.nodes_differ is_new;
      links_differ = k.topo.links_differ;
      classes_differ = k.topo.classes_differ;
      node_names = λ x m. elim (Has-push n.nodes new x m) [ inl a ↦ k.topo.node_names x a | inr e ↦ subst (λ (y : AskedNode). HasForm (codes "tb.n") y.name) e form ];
      link_names = k.topo.link_names;
      class_names = none_from (λ (c : Class). is_type_name (topo_of after) c.name) n.classes class_free;
      types_differ = k.topo.types_differ;
      members_differ = k.topo.members_differ;
    }

    kept : IsKept after
    kept = record {
      topo = topo;
      plain = k.plain;
      node_names = subst (AreNumbered numbered.Node 1) (sym names) (numbered_push numbered.Node 1 (length n.nodes + 1) (map (λ (x : AskedNode). x.name) n.nodes) count k.node_names);
      link_names = k.link_names;
      few_events = k.few_events;
      events = λ e h. record { known = (k.events e h).known; limits = (k.events e h).limits };
    }

-- A NODE CHANGED

asks_known : (n : Network) (type : List ℕ) (o : Option ℕ) → position (λ (c : Class). same_name c.name type) n.classes ≡ o → knows_asked (topo_of n) (asks_in type o) ≡ true
asks_known n type None is = refl
asks_known n type (Some c) is = lt-ltb c (length n.classes) (index_below (λ (d : Class). same_name d.name type) n.classes c is)

-- a class has not the name of the type that is asked for, since that is where no class has it
asks_free : (n : Network) (type : List ℕ) (o : Option ℕ) → position (λ (c : Class). same_name c.name type) n.classes ≡ o → (c : Class) → Has n.classes c → asks_type c.name (asks_in type o) ≡ false
asks_free n type None is c m = none_has (λ (d : Class). same_name d.name type) n.classes c (no_place (λ (d : Class). same_name d.name type) n.classes is) m
asks_free n type (Some index) is c m = refl

-- what the change leaves, or fits
known_after : (n : Network) (change : NodeChange) → FitsNodeChange n change → (x : AskedNode) → knows_asked (topo_of n) x.asks ≡ true → knows_asked (topo_of n) (node_with change x).asks ≡ true
known_after n (nodes.Name name) fit x h = h
known_after n (nodes.Asks asks) (type, is) x h = subst (λ (a : Asks). knows_asked (topo_of n) a ≡ true) (sym is) (asks_known n type (position (λ (c : Class). same_name c.name type) n.classes) refl)
known_after n (nodes.Os os) fit x h = h
known_after n (nodes.Fixed fixed) fit x h = h

free_after : (n : Network) (change : NodeChange) → FitsNodeChange n change → (c : Class) → Has n.classes c → (x : AskedNode) → asks_type c.name x.asks ≡ false → asks_type c.name (node_with change x).asks ≡ false
free_after n (nodes.Name name) fit c m x h = h
free_after n (nodes.Asks asks) (type, is) c m x h = subst (λ (a : Asks). asks_type c.name a ≡ false) (sym is) (asks_free n type (position (λ (d : Class). same_name d.name type) n.classes) refl c m)
free_after n (nodes.Os os) fit c m x h = h
free_after n (nodes.Fixed fixed) fit c m x h = h

differ_after : (n : Network) (v : ℕ) (change : NodeChange) → FitsNodeChange n change → stands_again (λ a b. same_name a.name b.name) n.nodes ≡ false
    → stands_again (λ a b. same_name a.name b.name) (changed_at (node_with change) v n.nodes) ≡ false
differ_after n v (nodes.Name name) fit h = again_named (λ (x : AskedNode). x.name) name (node_with (nodes.Name name)) (λ x. refl) v n.nodes fit.free h
differ_after n v (nodes.Asks asks) fit h = again_kept (λ (a b : AskedNode). same_name a.name b.name) (node_with (nodes.Asks asks)) (λ x y. refl) (λ x y. refl) v n.nodes ∙ h
differ_after n v (nodes.Os os) fit h = again_kept (λ (a b : AskedNode). same_name a.name b.name) (node_with (nodes.Os os)) (λ x y. refl) (λ x y. refl) v n.nodes ∙ h
differ_after n v (nodes.Fixed fixed) fit h = again_kept (λ (a b : AskedNode). same_name a.name b.name) (node_with (nodes.Fixed fixed)) (λ x y. refl) (λ x y. refl) v n.nodes ∙ h

form_after : (n : Network) (change : NodeChange) → FitsNodeChange n change → (x : AskedNode) → HasForm (codes "tb.n") x.name → HasForm (codes "tb.n") (node_with change x).name
form_after n (nodes.Name name) fit x h = has_form (codes "tb.n") fit.variable name fit.given
form_after n (nodes.Asks asks) fit x h = h
form_after n (nodes.Os os) fit x h = h
form_after n (nodes.Fixed fixed) fit x h = h

names_after : (n : Network) (v : ℕ) (change : NodeChange) → FitsNodeChange n change → AreNumbered numbered.Node 1 (map (λ (x : AskedNode). x.name) n.nodes)
    → AreNumbered numbered.Node 1 (map (λ (x : AskedNode). x.name) (changed_at (node_with change) v n.nodes))
names_after n v (nodes.Name name) fit h = numbered_named numbered.Node (λ (x : AskedNode). x.name) name (node_with (nodes.Name name)) (λ x. refl) (given_plain fit.variable name fit.given) 1 v n.nodes h
names_after n v (nodes.Asks asks) fit h = subst (AreNumbered numbered.Node 1) (sym (map-changed (λ (x : AskedNode). x.name) (node_with (nodes.Asks asks)) v n.nodes (λ x. refl))) h
names_after n v (nodes.Os os) fit h = subst (AreNumbered numbered.Node 1) (sym (map-changed (λ (x : AskedNode). x.name) (node_with (nodes.Os os)) v n.nodes (λ x. refl))) h
names_after n v (nodes.Fixed fixed) fit h = subst (AreNumbered numbered.Node 1) (sym (map-changed (λ (x : AskedNode). x.name) (node_with (nodes.Fixed fixed)) v n.nodes (λ x. refl))) h

pub keeps_node_change : (n : Network) (v : ℕ) (change : NodeChange) → IsKept n → FitsNodeChange n change → IsKept (change_node n v change)
keeps_node_change n v change k fit = record { topo = topo; plain = k.plain; node_names = names_after n v change fit k.node_names; link_names = k.link_names; few_events = k.few_events; events = λ e h. record { known = (k.events e h).known; limits = (k.events e h).limits } }
  where
    f : AskedNode → AskedNode
    f = node_with change

    after : Network
    after = change_node n v change

    size : length (changed_at f v n.nodes) ≡ length n.nodes
    size = length-changed f v n.nodes

    class_free : (c : Class) → Has n.classes c → is_type_name (topo_of after) c.name ≡ false
    class_free c m =
        or_from (same_name c.name (codes "delay")) (list_any (λ x. asks_type c.name x.asks) (changed_at f v n.nodes))
        (or_first (same_name c.name (codes "delay")) (list_any (λ x. asks_type c.name x.asks) n.nodes) (no_class_of n k c m))
        (none_changed (λ (x : AskedNode). asks_type c.name x.asks) f v n.nodes (free_after n change fit c m)
        (or_rest (same_name c.name (codes "delay")) (list_any (λ x. asks_type c.name x.asks) n.nodes) (no_class_of n k c m)))

    topo : IsTopo (topo_of after)
    topo = record {
      few_nodes = omega (arith, size, k.topo.few_nodes);
      few_links = k.topo.few_links;
      few_classes = k.topo.few_classes;
      links = k.topo.links;
      classes = k.topo.classes;
      asks = all_weak (λ (x : AskedNode). knows_asked (topo_of n) x.asks) (λ (x : AskedNode). knows_asked (topo_of after) x.asks) (changed_at f v n.nodes) (λ x h. knows_more (topo_of n) (topo_of after) x.asks (omega arith) h)
          (all_changed (λ (x : AskedNode). knows_asked (topo_of n) x.asks) f v n.nodes (known_after n change fit) k.topo.asks);
      ends = ends_more (length n.nodes) (length (changed_at f v n.nodes)) n.links (omega (arith, size)) k.topo.ends;
      nodes_differ = differ_after n v change fit k.topo.nodes_differ;
      links_differ = k.topo.links_differ;
      classes_differ = k.topo.classes_differ;
      node_names = λ x m. elim (Has-changed f v n.nodes x m) [
        | inl a ↦ k.topo.node_names x a
        | inr r ↦ subst (λ (y : AskedNode). HasForm (codes "tb.n") y.name) r.2 (form_after n change fit r.0 (k.topo.node_names r.0 r.1))
      ];
      link_names = k.topo.link_names;
      class_names = none_from (λ (c : Class). is_type_name (topo_of after) c.name) n.classes class_free;
      types_differ = k.topo.types_differ;
      members_differ = k.topo.members_differ;
    }
