-- A network with one link or LAN more, or one changed, keeps what networks keep.
use Rattle.std.proofs.Common.{◌≡◌, inl, inr, ℕ, ◌+◌, ◌≤◌, Bool, true, false, List, [], ◌∷◌, ◌++◌, length, map, Some, cond, refl, sym, ap, subst, ◌∙◌, arith, length-append}
use Rattle.std.proofs.lemmas.List.{length-map, map-append}
use Rattle.std.specs.Prelude.{nat_lt, nat_le, codes, ◌||◌, ◌&&◌, ◌==◌}
use Rattle.std.specs.List.{list_all, list_any}
use Rattle.std.proofs.lemmas.Bool.{le-leb, and_from}
use Rattle.lab_base.specs.declared.rates.Rates.{Rates}
use Rattle.lab_base.specs.Names.{same_name}
use Rattle.lab_base.proofs.Tests.{and_first, and_rest}
use Rattle.lab_base.proofs.Members.{Has-push, any_map}
use Rattle.virt_topo.specs.declared.wiring.VirtEnd.{VirtEnd}
use Rattle.virt_topo.specs.declared.topo.AskedNode.{AskedNode}
use Rattle.virt_topo.specs.declared.topo.AskedLink.{AskedLink}
use Rattle.virt_topo.specs.Repeats.{stands_again}
use Rattle.virt_topo.specs.Soundness.{is_between, is_address, is_speed, are_rates}
use Rattle.virt_topo.specs.Topos.{IsTopo, HasForm, IsAskedName, knows_asked, limits_link, most_ends}
use Rattle.ns_words.specs.declared.names.Numbered.TheVariants as numbered
use Rattle.ns_words.specs.Objects.{numbered_name_of}
use Rattle.ns_words.proofs.NameLaws.{has_form, numbered_short}
use Rattle.ns_build.specs.declared.task.LinkChange.{LinkChange}
use Rattle.ns_build.specs.declared.task.LinkChange.TheVariants as links
use Rattle.ns_build.specs.Networks.{Network, topo_of, changed_at, addressed, link_with, change_link}
use Rattle.ns_build.specs.Kept.{IsKept, AreNumbered}
use Rattle.ns_build.proofs.Elements.{all_weak, all_push, all_changed, none_push, none_changed, Has-changed, length-changed, map-changed}
use Rattle.ns_build.proofs.NamesDiffer.{again_push, again_kept, again_named}
use Rattle.ns_build.proofs.Numbering.{next_is_new, numbered_push, numbered_named, given_plain}
use Rattle.ns_build.proofs.Fitting.{FitsLink, FitsLinkChange}
use Rattle.ns_build.proofs.KeepingNodes.{knows_more}

-- what nodes ask for is known as before
asks_still : (n after : Network) → after.nodes ≡ n.nodes → length n.classes ≤ length after.classes → list_all (λ x. knows_asked (topo_of n) x.asks) n.nodes ≡ true
    → list_all (λ x. knows_asked (topo_of after) x.asks) after.nodes ≡ true
asks_still n after same le h =
    subst (λ (l : List AskedNode). list_all (λ x. knows_asked (topo_of after) x.asks) l ≡ true) (sym same)
    (all_weak (λ (x : AskedNode). knows_asked (topo_of n) x.asks) (λ (x : AskedNode). knows_asked (topo_of after) x.asks) n.nodes (λ x e. knows_more (topo_of n) (topo_of after) x.asks le e) h)

-- A LINK MORE

pub keeps_link : (n : Network) (l : AskedLink) → IsKept n → FitsLink n l → IsKept (record n { links = n.links ++ l ∷ [] })
keeps_link n l k fit = kept
  where
    after : Network
    after = record n { links = n.links ++ l ∷ [] }

    count : 1 + length (map (λ (x : AskedLink). x.name) n.links) ≡ length n.links + 1
    count = omega (arith, length-map n.links (λ (x : AskedLink). x.name))

    names : map (λ (x : AskedLink). x.name) (n.links ++ l ∷ []) ≡ map (λ (x : AskedLink). x.name) n.links ++ numbered_name_of numbered.Link (length n.links + 1) ∷ []
    names = map-append (λ (x : AskedLink). x.name) n.links (l ∷ []) ∙ ap (λ (name : List ℕ). map (λ (x : AskedLink). x.name) n.links ++ name ∷ []) fit.name

    is_new : list_any (λ (x : AskedLink). same_name x.name l.name) n.links ≡ false
    is_new =
        subst (λ (name : List ℕ). list_any (λ (x : AskedLink). same_name x.name name) n.links ≡ false) (sym fit.name)
        (sym (any_map (λ (name : List ℕ). same_name name (numbered_name_of numbered.Link (length n.links + 1))) (λ (x : AskedLink). x.name) n.links)
        ∙ next_is_new numbered.Link 1 (length n.links + 1) (map (λ (x : AskedLink). x.name) n.links) count (omega (arith, fit.few)) k.link_names)

    form : HasForm (codes "tb.l") l.name
    form = subst (HasForm (codes "tb.l")) (sym fit.name)
        (record { short = numbered_short numbered.Link (length n.links + 1) (omega (arith, fit.few)); asked = IsAskedName.numbered_one (length n.links + 1) refl })

    topo : IsTopo (topo_of after)
    topo = record {
      few_nodes = k.topo.few_nodes;
      few_links = omega (arith, length-append n.links (l ∷ []), fit.few);
      few_classes = k.topo.few_classes;
      links = all_push limits_link n.links l k.topo.links fit.limits;
      classes = k.topo.classes;
      asks = asks_still n after refl (omega arith) k.topo.asks;
      ends = all_push (λ (x : AskedLink). list_all (λ e. nat_lt e.node (length n.nodes)) x.ends) n.links l k.topo.ends fit.known;
      nodes_differ = k.topo.nodes_differ;
      links_differ = again_push (λ (a b : AskedLink). same_name a.name b.name) n.links l k.topo.links_differ is_new;
      classes_differ = k.topo.classes_differ;
      node_names = k.topo.node_names;
      link_names = λ x m. elim (Has-push n.links l x m) [ inl a ↦ k.topo.link_names x a | inr e ↦ subst (λ (y : AskedLink). HasForm (codes "tb.l") y.name) e form ];
      class_names = k.topo.class_names;
      types_differ = k.topo.types_differ;
      members_differ = none_push (λ (x : AskedLink). stands_again (λ a b. a.node == b.node) x.ends) n.links l k.topo.members_differ fit.differ;
    }

    kept : IsKept after
    kept = record {
      topo = topo;
      plain = k.plain;
      node_names = k.node_names;
      link_names = subst (AreNumbered numbered.Link 1) (sym names) (numbered_push numbered.Link 1 (length n.links + 1) (map (λ (x : AskedLink). x.name) n.links) count k.link_names);
      few_events = k.few_events;
      events = λ e h. record { known = omega (arith, (k.events e h).known, length-append n.links (l ∷ [])); limits = (k.events e h).limits };
    }

-- AN ADDRESS

module _ (v ip : ℕ) where
  end_node : (e : VirtEnd) → (addressed v ip e).node ≡ e.node
  end_node e = by (e.node == v)
    where
      by : (t : Bool) → (cond t (record e { address = Some ip }) e).node ≡ e.node
      by true = refl
      by false = refl

  end_address : (e : VirtEnd) → is_address (Some ip) ≡ true → is_address e.address ≡ true → is_address (addressed v ip e).address ≡ true
  end_address e fit h = by (e.node == v)
    where
      by : (t : Bool) → is_address (cond t (record e { address = Some ip }) e).address ≡ true
      by true = fit
      by false = h

  all_ends : (p q : VirtEnd → Bool) → ((e : VirtEnd) → p e ≡ true → q (addressed v ip e) ≡ true) → (ends : List VirtEnd) → list_all p ends ≡ true → list_all q (map (addressed v ip) ends) ≡ true
  all_ends p q step [] h = refl
  all_ends p q step (e ∷ ends) h =
      and_from (q (addressed v ip e)) (list_all q (map (addressed v ip) ends)) (step e (and_first (p e) (list_all p ends) h)) (all_ends p q step ends (and_rest (p e) (list_all p ends) h))

  any_end : (a b : VirtEnd) → a.node ≡ b.node → (ends : List VirtEnd) → list_any (λ e. a.node == e.node) (map (addressed v ip) ends) ≡ list_any (λ e. b.node == e.node) ends
  any_end a b same [] = refl
  any_end a b same (e ∷ ends) =
      ap (λ (m : ℕ). (m == (addressed v ip e).node) || list_any (λ x. a.node == x.node) (map (addressed v ip) ends)) same
      ∙ ap (λ (m : ℕ). (b.node == m) || list_any (λ x. a.node == x.node) (map (addressed v ip) ends)) (end_node e)
      ∙ ap (λ (t : Bool). (b.node == e.node) || t) (any_end a b same ends)

  ends_differ : (ends : List VirtEnd) → stands_again (λ a b. a.node == b.node) (map (addressed v ip) ends) ≡ stands_again (λ a b. a.node == b.node) ends
  ends_differ [] = refl
  ends_differ (e ∷ ends) =
      ap (λ (t : Bool). t || stands_again (λ a b. a.node == b.node) (map (addressed v ip) ends)) (any_end (addressed v ip e) e (end_node e) ends)
      ∙ ap (λ (t : Bool). list_any (λ x. e.node == x.node) ends || t) (ends_differ ends)

-- A LINK CHANGED

-- limits of its rates, of the number of its ends, and of their addresses
limits_parts : (l : AskedLink) → limits_link l ≡ true
    → (are_rates l.rates ≡ true) × (is_between 2 (most_ends l.lan) (length l.ends) ≡ true) × (list_all (λ e. is_address e.address) l.ends ≡ true)
limits_parts l h =
    let more : (is_between 2 (most_ends l.lan) (length l.ends) && list_all (λ e. is_address e.address) l.ends) ≡ true
    = and_rest (are_rates l.rates) (is_between 2 (most_ends l.lan) (length l.ends) && list_all (λ e. is_address e.address) l.ends) h in (
      and_first (are_rates l.rates) (is_between 2 (most_ends l.lan) (length l.ends) && list_all (λ e. is_address e.address) l.ends) h,
      and_first (is_between 2 (most_ends l.lan) (length l.ends)) (list_all (λ e. is_address e.address) l.ends) more,
      and_rest (is_between 2 (most_ends l.lan) (length l.ends)) (list_all (λ e. is_address e.address) l.ends) more,
    )

pub limits_of : (l : AskedLink) → are_rates l.rates ≡ true → is_between 2 (most_ends l.lan) (length l.ends) ≡ true → list_all (λ e. is_address e.address) l.ends ≡ true → limits_link l ≡ true
limits_of l rates count addresses =
    and_from (are_rates l.rates) (is_between 2 (most_ends l.lan) (length l.ends) && list_all (λ e. is_address e.address) l.ends) rates
    (and_from (is_between 2 (most_ends l.lan) (length l.ends)) (list_all (λ e. is_address e.address) l.ends) count addresses)

loss_limits : (r : Rates) (ppm : ℕ) → ppm ≤ 1000000 → are_rates r ≡ true → are_rates (record r { ppm = ppm }) ≡ true
loss_limits r ppm le h =
    let more : (nat_le r.micros 10000000 && nat_le r.ppm 1000000) ≡ true = and_rest (is_speed r.kbps) (nat_le r.micros 10000000 && nat_le r.ppm 1000000) h in
    and_from (is_speed r.kbps) (nat_le r.micros 10000000 && nat_le ppm 1000000) (and_first (is_speed r.kbps) (nat_le r.micros 10000000 && nat_le r.ppm 1000000) h)
    (and_from (nat_le r.micros 10000000) (nat_le ppm 1000000) (and_first (nat_le r.micros 10000000) (nat_le r.ppm 1000000) more) (le-leb ppm 1000000 le))

limits_after : (n : Network) (change : LinkChange) → FitsLinkChange n change → (l : AskedLink) → limits_link l ≡ true → limits_link (link_with change l) ≡ true
limits_after n (links.Name name) fit l h = h
limits_after n (links.Loss ppm) fit l h = let p = limits_parts l h in limits_of (link_with (links.Loss ppm) l) (loss_limits l.rates ppm fit p.0) p.1 p.2
limits_after n (links.Multiplexed multiplexed) fit l h = h
limits_after n (links.Address v ip) fit l h =
    let p = limits_parts l h in
    limits_of (link_with (links.Address v ip) l) p.0
    (subst (λ (m : ℕ). is_between 2 (most_ends l.lan) m ≡ true) (sym (length-map l.ends (addressed v ip))) p.1)
    (all_ends v ip (λ e. is_address e.address) (λ e. is_address e.address) (λ e a. end_address v ip e fit a) l.ends p.2)

ends_after : (n : Network) (change : LinkChange) (l : AskedLink) → list_all (λ e. nat_lt e.node (length n.nodes)) l.ends ≡ true → list_all (λ e. nat_lt e.node (length n.nodes)) (link_with change l).ends ≡ true
ends_after n (links.Name name) l h = h
ends_after n (links.Loss ppm) l h = h
ends_after n (links.Multiplexed multiplexed) l h = h
ends_after n (links.Address v ip) l h =
    all_ends v ip (λ e. nat_lt e.node (length n.nodes)) (λ e. nat_lt e.node (length n.nodes)) (λ e a. subst (λ (m : ℕ). nat_lt m (length n.nodes) ≡ true) (sym (end_node v ip e)) a) l.ends h

members_after : (change : LinkChange) (l : AskedLink) → stands_again (λ a b. a.node == b.node) l.ends ≡ false → stands_again (λ a b. a.node == b.node) (link_with change l).ends ≡ false
members_after (links.Name name) l h = h
members_after (links.Loss ppm) l h = h
members_after (links.Multiplexed multiplexed) l h = h
members_after (links.Address v ip) l h = ends_differ v ip l.ends ∙ h

differ_after : (n : Network) (index : ℕ) (change : LinkChange) → FitsLinkChange n change → stands_again (λ a b. same_name a.name b.name) n.links ≡ false
    → stands_again (λ a b. same_name a.name b.name) (changed_at (link_with change) index n.links) ≡ false
differ_after n index (links.Name name) fit h = again_named (λ (x : AskedLink). x.name) name (link_with (links.Name name)) (λ x. refl) index n.links fit.free h
differ_after n index (links.Loss ppm) fit h = again_kept (λ (a b : AskedLink). same_name a.name b.name) (link_with (links.Loss ppm)) (λ x y. refl) (λ x y. refl) index n.links ∙ h
differ_after n index (links.Multiplexed multiplexed) fit h =
    again_kept (λ (a b : AskedLink). same_name a.name b.name) (link_with (links.Multiplexed multiplexed)) (λ x y. refl) (λ x y. refl) index n.links ∙ h
differ_after n index (links.Address v ip) fit h = again_kept (λ (a b : AskedLink). same_name a.name b.name) (link_with (links.Address v ip)) (λ x y. refl) (λ x y. refl) index n.links ∙ h

form_after : (n : Network) (change : LinkChange) → FitsLinkChange n change → (x : AskedLink) → HasForm (codes "tb.l") x.name → HasForm (codes "tb.l") (link_with change x).name
form_after n (links.Name name) fit x h = has_form (codes "tb.l") fit.variable name fit.given
form_after n (links.Loss ppm) fit x h = h
form_after n (links.Multiplexed multiplexed) fit x h = h
form_after n (links.Address v ip) fit x h = h

names_after : (n : Network) (index : ℕ) (change : LinkChange) → FitsLinkChange n change → AreNumbered numbered.Link 1 (map (λ (x : AskedLink). x.name) n.links)
    → AreNumbered numbered.Link 1 (map (λ (x : AskedLink). x.name) (changed_at (link_with change) index n.links))
names_after n index (links.Name name) fit h = numbered_named numbered.Link (λ (x : AskedLink). x.name) name (link_with (links.Name name)) (λ x. refl) (given_plain fit.variable name fit.given) 1 index n.links h
names_after n index (links.Loss ppm) fit h = subst (AreNumbered numbered.Link 1) (sym (map-changed (λ (x : AskedLink). x.name) (link_with (links.Loss ppm)) index n.links (λ x. refl))) h
names_after n index (links.Multiplexed multiplexed) fit h =
    subst (AreNumbered numbered.Link 1) (sym (map-changed (λ (x : AskedLink). x.name) (link_with (links.Multiplexed multiplexed)) index n.links (λ x. refl))) h
names_after n index (links.Address v ip) fit h = subst (AreNumbered numbered.Link 1) (sym (map-changed (λ (x : AskedLink). x.name) (link_with (links.Address v ip)) index n.links (λ x. refl))) h

pub keeps_link_change : (n : Network) (index : ℕ) (change : LinkChange) → IsKept n → FitsLinkChange n change → IsKept (change_link n index change)
keeps_link_change n index change k fit = record {
  topo = topo;
  plain = k.plain;
  node_names = k.node_names;
  link_names = names_after n index change fit k.link_names;
  few_events = k.few_events;
  events = λ e h. record { known = omega (arith, (k.events e h).known, length-changed (link_with change) index n.links); limits = (k.events e h).limits };
}
  where
    f : AskedLink → AskedLink
    f = link_with change

    after : Network
    after = change_link n index change

    topo : IsTopo (topo_of after)
    topo = record {
      few_nodes = k.topo.few_nodes;
      few_links = omega (arith, length-changed f index n.links, k.topo.few_links);
      few_classes = k.topo.few_classes;
      links = all_changed limits_link f index n.links (limits_after n change fit) k.topo.links;
      classes = k.topo.classes;
      asks = asks_still n after refl (omega arith) k.topo.asks;
      ends = all_changed (λ (x : AskedLink). list_all (λ e. nat_lt e.node (length n.nodes)) x.ends) f index n.links (ends_after n change) k.topo.ends;
      nodes_differ = k.topo.nodes_differ;
      links_differ = differ_after n index change fit k.topo.links_differ;
      classes_differ = k.topo.classes_differ;
      node_names = k.topo.node_names;
      link_names = λ x m. elim (Has-changed f index n.links x m) [
        | inl a ↦ k.topo.link_names x a
        | inr r ↦ subst (λ (y : AskedLink). HasForm (codes "tb.l") y.name) r.2 (form_after n change fit r.0 (k.topo.link_names r.0 r.1))
      ];
      class_names = k.topo.class_names;
      types_differ = k.topo.types_differ;
      members_differ = none_changed (λ (x : AskedLink). stands_again (λ a b. a.node == b.node) x.ends) f index n.links (members_after change) k.topo.members_differ;
    }
