-- The facts of the links and LANs from which an expansion is made.
use Rattle.std.specs.Prelude.{nat_le, nat_eq, codes, ◌&&◌}
use Rattle.std.proofs.Common.{◌≡◌, inl, inr, ℕ, ◌+◌, ◌*◌, ◌<◌, ◌≤◌, Bool, true, false, cond, eqb, Some, List, [], ◌∷◌, ◌++◌, length, map, sum_by, refl, sym, ap, subst, ◌∙◌, arith}
use Rattle.std.specs.List.{list_any}
use Rattle.std.proofs.lemmas.Bool.{and_parts, and_from, or_parts, ltb-true}
use Rattle.std.proofs.lemmas.List.{length-map}
use Rattle.std.proofs.lemmas.List.Sums.{sum_by-cons}
use Rattle.lab_base.specs.Lists.{Has, AllDiffer}
use Rattle.lab_base.specs.declared.rates.Rates.{Rates}
use Rattle.lab_base.proofs.Members.{Has-map, Has-mapped, all_has, none_has}
use Rattle.lab_base.specs.Names.{same_name}
use Rattle.lab_base.proofs.Bytes.{bytes_self}
use Rattle.virt_topo.specs.declared.wiring.VirtEnd.{VirtEnd}
use Rattle.virt_topo.specs.declared.topo.AskedLink.{AskedLink}
use Rattle.virt_topo.specs.Ends.{end_nodes}
use Rattle.virt_topo.specs.Repeats.{stands_again}
use Rattle.virt_topo.specs.Soundness.{is_between, are_rates, keeps_limits}
use Rattle.virt_topo.specs.Topos.{Topo, IsTopo, IsAskedName, most_ends}
use Rattle.net_plan.specs.Parts.{IsExpandable, AreExpandable, is_shaped, delays, part, lan_segments, link_segments, segments_of}
use Rattle.net_plan.specs.Addresses.{addresses_of, ends_of, all_taken, has_bad_address, has_two_subnets, addressed}
use Rattle.net_plan.specs.Expansion.{wired}
use Rattle.net_plan.proofs.Apart.{differ-once, eqb-self}
use Rattle.net_plan.proofs.Counts.{two_ends, few_ends, length-lan, length-lan_ends}
use Rattle.net_plan.proofs.Framing.{AreGiven, IsFramed, size_of, given_links, all_taken-has}
use Rattle.net_plan.proofs.LimitLaws.{expandable, few_parts, keeps-few}
use Rattle.net_plan.proofs.PartNames.{AreNamed}

pub record IsReady (t : Topo) (links : List AskedLink) : Type 0 where
  pub topo : IsTopo t
  pub limits : keeps_limits (wired t links) ≡ true
  pub expandable : AreExpandable links
  pub named : AreNamed t.nodes links
  pub ends : (l : AskedLink) (e : VirtEnd) → Has links l → Has l.ends e → e.node < length t.nodes
  pub members : (l : AskedLink) → Has links l → AllDiffer (map (λ e. e.node) l.ends)
  pub addresses : AllDiffer (addresses_of (ends_of links))

-- HOW MANY PARTS, BY SIZE

abbrev Size : Type 0
Size = Rates × (Bool × ℕ)

abbrev delays_by : Size → ℕ
delays_by s = cond (is_shaped s.0) (cond s.1.0 s.1.1 1) 0

abbrev segments_by : Size → ℕ
segments_by s = cond (is_shaped s.0) (cond s.1.0 (s.1.1 + 1) 2) 1

abbrev ends_by : Size → ℕ
ends_by s = cond (is_shaped s.0) (cond s.1.0 (3 * s.1.1) 4) s.1.1

segments-by : (l : AskedLink) → IsExpandable l → length (segments_of (0, l)) ≡ segments_by (size_of l)
segments-by l e = by (is_shaped l.rates) l.lan (two_ends l e)
  where
    two : (ends : List VirtEnd) → length ends ≡ 2 → length (link_segments l 0 ends) ≡ 2
    two [] len = absurd (omega (arith, len))
    two (a ∷ []) len = absurd (omega (arith, len))
    two (a ∷ b ∷ []) len = refl
    two (a ∷ b ∷ c ∷ ends) len = absurd (omega (arith, len))

    by : (shaped lan : Bool) → (lan ≡ false → length l.ends ≡ 2) → length (cond shaped (cond lan (lan_segments l 0) (link_segments l 0 l.ends)) (part l l.name l.ends ∷ [])) ≡ cond shaped (cond lan (length l.ends + 1) 2) 1
    by true true len = length-lan l 0
    by true false len = two l.ends (len refl)
    by false lan len = refl

ends-by : (l : AskedLink) → IsExpandable l → length (end_nodes (segments_of (0, l))) ≡ ends_by (size_of l)
ends-by l e = by (is_shaped l.rates) l.lan (two_ends l e)
  where
    two : (ends : List VirtEnd) → length ends ≡ 2 → length (end_nodes (link_segments l 0 ends)) ≡ 4
    two [] len = absurd (omega (arith, len))
    two (a ∷ []) len = absurd (omega (arith, len))
    two (a ∷ b ∷ []) len = refl
    two (a ∷ b ∷ c ∷ ends) len = absurd (omega (arith, len))

    append_nil : (xs : List ℕ) → xs ++ [] ≡ xs
    append_nil [] = refl
    append_nil (x ∷ xs) = ap (λ (ys : List ℕ). x ∷ ys) (append_nil xs)

    by : (shaped lan : Bool) → (lan ≡ false → length l.ends ≡ 2) → length (end_nodes (cond shaped (cond lan (lan_segments l 0) (link_segments l 0 l.ends)) (part l l.name l.ends ∷ []))) ≡ cond shaped (cond lan (3 * length l.ends) 4) (length l.ends)
    by true true len = length-lan_ends l 0
    by true false len = two l.ends (len refl)
    by false lan len = ap (λ (ns : List ℕ). length ns) (append_nil (map (λ e. e.node) l.ends)) ∙ length-map l.ends (λ e. e.node)

sum-sizes : (f : AskedLink → ℕ) (g : Size → ℕ) (links : List AskedLink) → ((l : AskedLink) → Has links l → f l ≡ g (size_of l)) → sum_by f links ≡ sum_by g (map size_of links)
sum-sizes f g [] same = refl
sum-sizes f g (l ∷ links) same =
    sum_by-cons f l links ∙ (λ i. same l (inl refl) i + sum-sizes f g links (λ m h. same m (inr h)) i) ∙ sym (sum_by-cons g (size_of l) (map size_of links))

abbrev few_by : ℕ → List Size → Bool
few_by nodes sizes = nat_le (nodes + sum_by delays_by sizes) 256 && (nat_le (sum_by segments_by sizes) 512 && nat_le (sum_by ends_by sizes) 4096)

few-by : (t : Topo) (links : List AskedLink) → AreExpandable links → few_parts t links ≡ few_by (length t.nodes) (map size_of links)
few-by t links are =
    let one = sum-sizes delays delays_by links (λ l h. refl) in
    let two = sum-sizes (λ l. length (segments_of (0, l))) segments_by links (λ l h. segments-by l (are l h)) in
    let three = sum-sizes (λ l. length (end_nodes (segments_of (0, l)))) ends_by links (λ l h. ends-by l (are l h)) in
    λ i. nat_le (length t.nodes + one i) 256 && (nat_le (two i) 512 && nat_le (three i) 4096)

-- LINKS WITH ADDRESSES ARE READY

framed_expandable : (l m : AskedLink) → IsFramed l m → IsExpandable l → IsExpandable m
framed_expandable l m f e =
    let p1 = and_parts (are_rates l.rates) _ e.limits in
    let p2 = and_parts (is_between 2 (most_ends l.lan) (length l.ends)) _ p1.1 in
    let count : length m.ends ≡ length l.ends = sym (length-map m.ends (λ e. e.node)) ∙ ap (λ (ns : List ℕ). length ns) f.nodes ∙ length-map l.ends (λ e. e.node) in
    record {
      short = subst (λ (n : List ℕ). length n ≤ 26) (sym f.name) e.short;
      limits = and_from _ _ (ap are_rates f.rates ∙ p1.0) (and_from _ _ ((λ i. is_between 2 (most_ends (f.lan i)) (count i)) ∙ p2.0) (f.valid p2.1));
    }

pub ready : (t : Topo) (links : List AskedLink) → IsTopo t → keeps_limits (wired t t.links) ≡ true → has_bad_address t.links ≡ false → addressed t.links ≡ Some links → IsReady t links
ready t links is limits good found =
    record {
      topo = is;
      limits = keeps-few t links is are ∙ few-by t links are ∙ ap (few_by (length t.nodes)) given.sizes ∙ sym (few-by t t.links (expandable t is)) ∙ sym (keeps-few t t.links is (expandable t is)) ∙ limits;
      expandable = are;
      named = record {
        nodes_differ = differ-once same_name bytes_self (λ n. n.name) t.nodes is.nodes_differ;
        links_differ = subst AllDiffer (sym given.names) (differ-once same_name bytes_self (λ l. l.name) t.links is.links_differ);
        node = λ n h. (is.node_names n h).asked;
        link = λ m h. let f = given.framed m h in subst (λ (n : List ℕ). IsAskedName (codes "tb.l") n) (sym f.2.name) (is.link_names f.0 f.1).asked;
        few = λ m h. few_ends m (are m h);
      };
      ends = λ m e h g.
          let f = given.framed m h in
          let n : Has (map (λ d. d.node) f.0.ends) e.node = subst (λ ns. Has ns e.node) f.2.nodes (Has-mapped (λ d. d.node) m.ends e g) in
          let d = Has-map (λ d. d.node) f.0.ends e.node n in
          let known = ltb-true d.0.node (length t.nodes) (all_has _ f.0.ends d.0 (all_has _ t.links f.0 is.ends f.1) d.1) in
          omega (arith, known, d.2);
      members = λ m h.
          let f = given.framed m h in
          subst AllDiffer (sym f.2.nodes) (differ-once nat_eq eqb-self (λ e. e.node) f.0.ends (none_has (λ l. stands_again (λ a b. eqb a.node b.node) l.ends) t.links f.0 is.members_differ f.1));
      addresses = given.fresh.differ explicit (λ a h. all_taken-has (λ b. false) (addresses_of (ends_of t.links)) a h);
    }
  where
    given : AreGiven (all_taken (λ a. false) (addresses_of (ends_of t.links))) t.links links
    given = given_links (all_taken (λ a. false) (addresses_of (ends_of t.links))) 1 t.links links found

    explicit : AllDiffer (addresses_of (ends_of t.links))
    explicit = subst AllDiffer (map_id (addresses_of (ends_of t.links))) (differ-once nat_eq eqb-self (λ a. a) (addresses_of (ends_of t.links)) (or_parts (list_any has_two_subnets t.links) (stands_again nat_eq (addresses_of (ends_of t.links))) good).1)
      where
        map_id : (xs : List ℕ) → map (λ a. a) xs ≡ xs
        map_id [] = refl
        map_id (x ∷ xs) = ap (λ (ys : List ℕ). x ∷ ys) (map_id xs)

    are : AreExpandable links
    are m h = let f = (given_links (all_taken (λ a. false) (addresses_of (ends_of t.links))) 1 t.links links found).framed m h in framed_expandable f.0 m f.2 (expandable t is f.0 f.1)
