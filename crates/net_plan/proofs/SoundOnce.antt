-- Nothing in an expansion is given twice, and so it is sound.
use Rattle.std.specs.Prelude.{codes, ◌||◌, not, ◌==◌}
use Rattle.std.proofs.Common.{◌≡◌, ◌≢◌, inl, inr, ℕ, ◌+◌, Bool, true, false, cond, eqb, Option, Some, None, List, [], ◌∷◌, ◌++◌, length, map, refl, sym, ap, subst, ◌∙◌, arith}
use Rattle.std.specs.List.{list_any, flat_map, cons_option, enumerate_from, range_with_len}
use Rattle.std.proofs.lemmas.Bool.{or_parts, eqb-false, ne_eqb}
use Rattle.std.proofs.lemmas.Grind.{flat_map-append}
use Rattle.std.proofs.lemmas.List.Elements.{filter_map-append}
use Rattle.std.proofs.lemmas.List.{append-nil}
use Rattle.lab_base.specs.Lists.{Has, AllDiffer}
use Rattle.lab_base.specs.Names.{same_name}
use Rattle.lab_base.proofs.Members.{none_has, none_from}
use Rattle.lab_base.proofs.Bytes.{bytes_same}
use Rattle.virt_topo.specs.declared.fault.WiringFault.TheVariants as faults
use Rattle.virt_topo.specs.declared.wiring.Asks.{Asks}
use Rattle.virt_topo.specs.declared.wiring.Asks.TheVariants.{Plain, Class as InClass}
use Rattle.virt_topo.specs.declared.wiring.Class.{Class}
use Rattle.virt_topo.specs.declared.wiring.VirtEnd.{VirtEnd}
use Rattle.virt_topo.specs.declared.topo.AskedLink.{AskedLink}
use Rattle.virt_topo.specs.Repeats.{stands_again}
use Rattle.virt_topo.specs.Soundness.{same_some, same_address, all_ends, asks_class_name, has_twice, IsSound}
use Rattle.virt_topo.specs.Topos.{Topo, IsTopo, asks_type, is_type_name}
use Rattle.net_plan.specs.Parts.{AreExpandable, is_shaped, delays, part, delay_end, member_segment, lan_segments, link_segments, segments_of}
use Rattle.net_plan.specs.Addresses.{addresses_of, ends_of}
use Rattle.net_plan.specs.Expansion.{numbered, wired}
use Rattle.net_plan.proofs.Apart.{once-differ}
use Rattle.net_plan.proofs.AddressLaws.{addresses_of_links}
use Rattle.net_plan.proofs.Counts.{two_ends}
use Rattle.net_plan.proofs.LimitLaws.{length-nodes}
use Rattle.net_plan.proofs.PartNames.{all_nodes_differ, all_segments_differ}
use Rattle.net_plan.proofs.Ready.{IsReady}
use Rattle.net_plan.proofs.SoundParts.{each_node, all_known, no_bad_pipe, none_same}

-- ADDRESSES

-- an address that other ends do not have
other_ends : (a : ℕ) (ends : List VirtEnd) → ((b : ℕ) → Has (addresses_of ends) b → a ≢ b) → list_any (λ e. same_some (Some a) e.address) ends ≡ false
other_ends a [] none = refl
other_ends a (e ∷ ends) none = by e.address (λ later. other_ends a ends later) none
  where
    by : (o : Option ℕ) → (((b : ℕ) → Has (addresses_of ends) b → a ≢ b) → list_any (λ d. same_some (Some a) d.address) ends ≡ false)
        → ((b : ℕ) → Has (cons_option o (addresses_of ends)) b → a ≢ b) → (same_some (Some a) o || list_any (λ d. same_some (Some a) d.address) ends) ≡ false
    by None later all = later all
    by (Some c) later all = λ i. ne_eqb a c (all c (inl refl)) i || later (λ b h. all b (inr h)) i

once_addresses : (ends : List VirtEnd) → AllDiffer (addresses_of ends) → stands_again same_address ends ≡ false
once_addresses [] differ = refl
once_addresses (e ∷ ends) differ = by e.address (λ later. once_addresses ends later) differ
  where
    nowhere : (ds : List VirtEnd) → list_any (λ d. same_some None d.address) ds ≡ false
    nowhere [] = refl
    nowhere (d ∷ ds) = nowhere ds

    by : (o : Option ℕ) → (AllDiffer (addresses_of ends) → stands_again same_address ends ≡ false) → AllDiffer (cons_option o (addresses_of ends))
        → (list_any (λ d. same_some o d.address) ends || stands_again same_address ends) ≡ false
    by None later all = λ i. nowhere ends i || later all i
    by (Some a) later all = λ i. other_ends a ends all.0 i || later all.1 i

own_addresses : (first : ℕ) (l : AskedLink) → (l.lan ≡ false → length l.ends ≡ 2) → addresses_of (all_ends (segments_of (first, l))) ≡ addresses_of l.ends
own_addresses first l two_ends = by (is_shaped l.rates) l.lan two_ends
  where
    two : (ends : List VirtEnd) → length ends ≡ 2 → addresses_of (all_ends (link_segments l first ends)) ≡ addresses_of ends
    two [] len = refl
    two (a ∷ []) len = absurd (omega (arith, len))
    two (a ∷ b ∷ []) len = refl
    two (a ∷ b ∷ c ∷ ends) len = absurd (omega (arith, len))

    members : (n : ℕ) (ends : List VirtEnd) → addresses_of (all_ends (map (member_segment l first) (enumerate_from n ends))) ≡ addresses_of ends
    members n [] = refl
    members n (e ∷ ends) = ap (λ (as' : List ℕ). cons_option e.address as') (members (n + 1) ends)

    hub : (is : List ℕ) → addresses_of (map delay_end is ++ []) ≡ []
    hub [] = refl
    hub (i ∷ is) = hub is

    many : addresses_of (all_ends (lan_segments l first)) ≡ addresses_of l.ends
    many =
        let ends = map delay_end (range_with_len first (length l.ends)) in
        let segments = map (member_segment l first) (enumerate_from 0 l.ends) in
        ap addresses_of (flat_map-append (λ s. s.ends) segments (part l l.name ends ∷ []))
        ∙ filter_map-append (λ d. d.address) (all_ends segments) (ends ++ [])
        ∙ (λ i. members 0 l.ends i ++ hub (range_with_len first (length l.ends)) i)
        ∙ append-nil (addresses_of l.ends)

    by : (shaped lan : Bool) → (lan ≡ false → length l.ends ≡ 2) → addresses_of (all_ends (cond shaped (cond lan (lan_segments l first) (link_segments l first l.ends)) (part l l.name l.ends ∷ []))) ≡ addresses_of l.ends
    by true true len = many
    by true false len = two l.ends (len refl)
    by false lan len = ap addresses_of (append-nil l.ends)

all_addresses : (first : ℕ) (links : List AskedLink) → AreExpandable links → addresses_of (all_ends (flat_map segments_of (numbered first links))) ≡ addresses_of (ends_of links)
all_addresses first [] are = refl
all_addresses first (l ∷ links) are =
    let own = segments_of (first, l) in
    let rest = flat_map segments_of (numbered (first + delays l) links) in
    ap addresses_of (flat_map-append (λ s. s.ends) own rest)
    ∙ filter_map-append (λ d. d.address) (all_ends own) (all_ends rest)
    ∙ (λ i. own_addresses first l (two_ends l (are l (inl refl))) i ++ all_addresses (first + delays l) links (λ m h. are m (inr h)) i)
    ∙ sym (addresses_of_links l links)

-- CLASSES

no_class : (classes : List Class) (asks : Asks) → ((c : Class) → Has classes c → asks_type c.name asks ≡ false) → asks_class_name classes asks ≡ false
no_class classes (Plain type) each = none_from (λ c. same_name c.name type) classes each
no_class classes (InClass c) each = refl

class_apart : (t : Topo) → IsTopo t → (c : Class) → Has t.classes c → (same_name c.name (codes "delay") ≡ false) × (list_any (λ n. asks_type c.name n.asks) t.nodes ≡ false)
class_apart t is c h = or_parts (same_name c.name (codes "delay")) (list_any (λ n. asks_type c.name n.asks) t.nodes) (none_has (λ c. is_type_name t c.name) t.classes c is.class_names h)

-- SOUND

pub none_twice : (t : Topo) (links : List AskedLink) → IsReady t links → has_twice (wired t links) ≡ false
none_twice t links r =
    let w = wired t links in
    let nodes : stands_again (λ a b. same_name a.name b.name) w.nodes ≡ false = once-differ same_name bytes_same (λ v. v.name) w.nodes (all_nodes_differ t links r.named) in
    let segments : stands_again (λ a b. same_name a.name b.name) w.segments ≡ false = once-differ same_name bytes_same (λ s. s.name) w.segments (all_segments_differ t links r.named) in
    let desires : list_any (λ v. stands_again (λ a b. same_name a.0 b.0) v.desires) w.nodes ≡ false =
    none_from (λ v. stands_again (λ a b. same_name a.0 b.0) v.desires) w.nodes (each_node (λ v. stands_again (λ a b. same_name a.0 b.0) v.desires) false t links (λ n h. refl) (λ name. refl)) in
    let addresses : stands_again same_address (all_ends w.segments) ≡ false =
    once_addresses (all_ends w.segments) (subst AllDiffer (sym (all_addresses (length t.nodes) links r.expandable)) r.addresses) in
    let asks : list_any (λ v. asks_class_name t.classes v.asks) w.nodes ≡ false =
    none_from (λ v. asks_class_name t.classes v.asks) w.nodes (each_node (λ v. asks_class_name t.classes v.asks) false t links
    (λ n h. no_class t.classes n.asks (λ c g. none_has (λ m. asks_type c.name m.asks) t.nodes n (class_apart t r.topo c g).1 h))
    (λ name. none_from (λ c. same_name c.name (codes "delay")) t.classes (λ c g. (class_apart t r.topo c g).0))) in
    λ i. r.topo.classes_differ i || (nodes i || (segments i || (r.topo.types_differ i || (desires i || (addresses i || asks i)))))

pub sound : (t : Topo) (links : List AskedLink) → IsReady t links → (length t.nodes == 0) ≡ false → IsSound (wired t links)
sound t links r some =
    let w = wired t links in
    let filled : eqb (length w.nodes) 0 ≡ false = ne_eqb (length w.nodes) 0 (λ e. omega (arith, e, length-nodes t links, eqb-false (length t.nodes) 0 some)) in
    let known = all_known t links r in
    let twice = none_twice t links r in
    let same = none_same t links r in
    let pipes = no_bad_pipe t links r in
    λ i. cond (not (r.limits i)) (Some faults.Limit)
    (cond (not (known i)) (Some faults.Unknown)
    (cond (twice i) (Some faults.Twice)
    (cond (same i) (Some faults.Same)
    (cond (pipes i) (Some faults.Pipe)
    (cond (filled i) (Some faults.Empty) None)))))
