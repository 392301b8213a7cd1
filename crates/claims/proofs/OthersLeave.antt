-- The rest that the claims of experiments leave is the rest that the experiments leave.
use Rattle.std.specs.List.{list_any, sum_by, flat_map, count_by}
use Rattle.std.specs.Str.{bytes_eq}
use Rattle.std.proofs.Common.{◌≡◌, ◌≢◌, inl, inr, ℕ, ◌+◌, ◌<◌, ◌||◌, ◌==◌, max, not, Option, Some, None, List, [], ◌∷◌, ◌++◌, length, map, get_or, refl, sym, ap, ◌∙◌, arith}
use Rattle.std.proofs.lemmas.Bool.{cases_eq, eq-eqb, ne_eqb, cases_Bool}
use Rattle.std.proofs.lemmas.List.{get_or-map, length-map, length-append}
use Rattle.std.proofs.lemmas.List.Concat.{length-flat_map}
use Rattle.std.proofs.lemmas.List.Folds.{list_any-append}
use Rattle.std.proofs.lemmas.List.FromFn.{get_or-map-range_with_len}
use Rattle.std.proofs.lemmas.List.Sums.{sum_by-cons, sum_by-append, length-filter}
use Rattle.std.proofs.lemmas.Slice.Eq.{bytes_eq-Decides}
use Rattle.lab_base.specs.Lists.{Has, Apart, AllDiffer}
use Rattle.lab_base.proofs.Members.{Has-append, Has-mapped, Apart-right, differ_at}
use Rattle.phys_lab.specs.Labs.{Lab}
use Rattle.phys_lab.specs.Kept.{IsLab}
use Rattle.phys_lab.specs.Sides.{no_trunk, trunk_at}
use Rattle.phys_lab.specs.declared.free.Free.{Free}
use Rattle.phys_lab.specs.declared.parts.Trunk.{Trunk}
use Rattle.virt_topo.specs.declared.experiment.Experiment.{Experiment}
use Rattle.virt_topo.specs.declared.experiment.Phase.{Phase}
use Rattle.virt_topo.specs.declared.experiment.Phase.TheVariants.{Out, In, Moving}
use Rattle.virt_topo.specs.declared.mapping.Mapped.{Mapped}
use Rattle.lab_model.specs.Beside.{IsLeft, is_claimed, segments_in, claimed_segments, ids_of}
use Rattle.lab_model.specs.Claims.{Which, Old, New, claimed, claimed_in, claimed_tags, claimed_use, claims_it, is_placed, tags_of, use_in as use_of_side}
use Rattle.lab_model.specs.Holding.{Holding, Suits}
use Rattle.lab_model.specs.Shapes.{Place, no_node}
use Rattle.lab_model.specs.Uses.{use_of}
use Rattle.lab_model.specs.Wants.{node_name}
use Rattle.lab_model.proofs.WiringLaws.{All-has}
use Rattle.lab_model.proofs.Records.{Has_other}
use Rattle.claims.specs.declared.claim.Entry.{Entry}
use Rattle.claims.specs.Held.{Held, IsLeftTo, nodes_in, tags_in, use_in, is_in, has_node, has_id, use_by, claim_nodes, claim_tags, ids, others, size_of}
use Rattle.claims.specs.Holds.{hold_in, claim_of}
use Rattle.claims.specs.Experiments.{standing, standing_in, ClaimsOf}
use Rattle.claims.proofs.Matching.{Match, match_rest, use_if, sums, test_if, anys}
use Rattle.claims.proofs.Ranges.{rest_of_range, in_flat}

-- ---- trunks
pub side_use : (lab : Lab) (t : ℕ) → t < length lab.trunks → (o : Option Mapped) → use_in t (hold_in lab o) ≡ use_of_side lab t o
side_use lab t h None = refl
side_use lab t h (Some m) = get_or-map-range_with_len (use_of lab m.wiring m.mapping) 0 (length lab.trunks) t t 0 h (omega arith)

standing_use : (lab : Lab) (t : ℕ) → t < length lab.trunks → (e : Experiment) → use_if t (standing lab e) ≡ claimed_use lab t e
standing_use lab t h e = by e.phase refl
  where
    both : use_if t (Some (claim_of lab e)) ≡ claimed_use lab t e
    both = λ i. max (side_use lab t h (claimed e Old) i) (side_use lab t h (claimed e New) i)

    by : (p : Phase) → e.phase ≡ p → use_if t (standing_in lab e p) ≡ claimed_use lab t e
    by Out is = sym (ap (λ (p : Phase). max (use_of_side lab t (claimed_in e.wiring p Old)) (use_of_side lab t (claimed_in e.wiring p New))) is)
    by (In mapping tags) is = both
    by (Moving old new) is = both

pub used_by : (lab : Lab) (fs : List Entry) (es : List Experiment) (t : ℕ) → t < length lab.trunks → Match lab fs es → use_by t fs ≡ sum_by (claimed_use lab t) es
used_by lab fs es t h m = sums lab t (claimed_use lab t) (standing_use lab t h) fs es m

-- ---- nodes

module _ (lab : Lab) (is_lab : IsLab lab) where
  one_node : (i j : ℕ) → i < length lab.nodes → j < length lab.nodes → node_name lab (record { 0 = i }) ≡ node_name lab (record { 0 = j }) → i ≡ j
  one_node i j h g same =
      differ_at (map (λ n. n.name) lab.nodes) i j [] (Apart-right (λ x y. x ≢ y) lab.switches (map (λ n. n.name) lab.nodes) is_lab.devices_differ)
      (omega (arith, h, length-map lab.nodes (λ n. n.name))) (omega (arith, g, length-map lab.nodes (λ n. n.name)))
      (get_or-map (λ n. n.name) lab.nodes i no_node [] h ∙ same ∙ sym (get_or-map (λ n. n.name) lab.nodes j no_node [] g))

  node_is : (i n : ℕ) → i < length lab.nodes → n < length lab.nodes → (i == n) ≡ bytes_eq (node_name lab (record { 0 = i })) (node_name lab (record { 0 = n }))
  node_is i n h g = elim (cases_eq i n) [
    | inl same ↦ eq-eqb i n same ∙ sym ((bytes_eq-Decides _ _).1 (ap (λ (k : ℕ). node_name lab (record { 0 = k })) same))
    | inr apart ↦ ne_eqb i n apart ∙ sym (elim (cases_Bool (bytes_eq (node_name lab (record { 0 = i })) (node_name lab (record { 0 = n })))) [
      | inl equal ↦ absurd (apart (one_node i n h g ((bytes_eq-Decides _ _).0 equal)))
      | inr other ↦ other
    ])
  ]

  placed_on : (n : ℕ) → n < length lab.nodes → (places : List Place) → ((p : Place) → Has places p → p.0.0 < length lab.nodes)
      → is_in n (map (λ m. m.0) (map (λ p. p.0) places)) ≡ list_any (λ p. bytes_eq (node_name lab p.0) (node_name lab (record { 0 = n }))) places
  placed_on n h [] within = refl
  placed_on n h (p ∷ places) within = (λ i. node_is p.0.0 n (within p (inl refl)) h i || placed_on n h places (λ q g. within q (inr g)) i)

  side_nodes : (n : ℕ) → n < length lab.nodes → (o : Option Mapped) → ((m : Mapped) → o ≡ Some m → Suits lab m) → is_in n (nodes_in (hold_in lab o)) ≡ is_placed lab o (node_name lab (record { 0 = n }))
  side_nodes n h None fits = refl
  side_nodes n h (Some m) fits = placed_on n h m.mapping.places (λ p g. All-has (λ (q : Place). q.0.0 < length lab.nodes) m.mapping.places p (fits m refl).shaped.in_nodes g)

  standing_node : (n : ℕ) → n < length lab.nodes → (e : Experiment) → ((which : Which) (m : Mapped) → claimed e which ≡ Some m → Suits lab m)
      → test_if (λ c. is_in n (claim_nodes c)) (standing lab e) ≡ claims_it lab e (node_name lab (record { 0 = n }))
  standing_node n h e fits = by e.phase refl
    where
      both : is_in n (claim_nodes (claim_of lab e)) ≡ claims_it lab e (node_name lab (record { 0 = n }))
      both =
          list_any-append (λ m. m == n) (nodes_in (hold_in lab (claimed e Old))) (nodes_in (hold_in lab (claimed e New)))
          ∙ (λ i. side_nodes n h (claimed e Old) (fits Old) i || side_nodes n h (claimed e New) (fits New) i)

      by : (p : Phase) → e.phase ≡ p → test_if (λ c. is_in n (claim_nodes c)) (standing_in lab e p) ≡ claims_it lab e (node_name lab (record { 0 = n }))
      by Out is = sym (ap (λ (p : Phase). is_placed lab (claimed_in e.wiring p Old) (node_name lab (record { 0 = n })) || is_placed lab (claimed_in e.wiring p New) (node_name lab (record { 0 = n }))) is)
      by (In mapping tags) is = both
      by (Moving old new) is = both

  pub node_by : (fs : List Entry) (es : List Experiment) (n : ℕ) → n < length lab.nodes → ((e : Experiment) → Has es e → (which : Which) (m : Mapped) → claimed e which ≡ Some m → Suits lab m) → Match lab fs es
      → has_node fs n ≡ is_claimed lab es (node_name lab (record { 0 = n }))
  node_by fs es n h fits m = anys lab (λ c. is_in n (claim_nodes c)) (λ e. claims_it lab e (node_name lab (record { 0 = n }))) fs es (λ e g. standing_node n h e (fits e g)) m

-- ---- VLAN ids
pub side_tags : (lab : Lab) (o : Option Mapped) → tags_in (hold_in lab o) ≡ tags_of o
side_tags lab None = refl
side_tags lab (Some m) = refl

standing_id : (lab : Lab) (id : ℕ) (e : Experiment) → test_if (λ c. is_in id (claim_tags c)) (standing lab e) ≡ is_in id (claimed_tags e)
standing_id lab id e = by e.phase refl
  where
    both : is_in id (claim_tags (claim_of lab e)) ≡ is_in id (claimed_tags e)
    both = λ i. is_in id (side_tags lab (claimed e Old) i ++ side_tags lab (claimed e New) i)

    by : (p : Phase) → e.phase ≡ p → test_if (λ c. is_in id (claim_tags c)) (standing_in lab e p) ≡ is_in id (claimed_tags e)
    by Out is = sym (ap (λ (p : Phase). is_in id (tags_of (claimed_in e.wiring p Old) ++ tags_of (claimed_in e.wiring p New))) is)
    by (In mapping tags) is = both
    by (Moving old new) is = both

pub id_by : (lab : Lab) (fs : List Entry) (es : List Experiment) (id : ℕ) → Match lab fs es → has_id fs id ≡ is_in id (flat_map claimed_tags es)
id_by lab fs es id m = anys lab (λ c. is_in id (claim_tags c)) (λ e. is_in id (claimed_tags e)) fs es (λ e h. standing_id lab id e) m ∙ in_flat claimed_tags es id

side_segments : (lab : Lab) (o : Option Mapped) → ((m : Mapped) → o ≡ Some m → Suits lab m) → segments_in o ≡ length (tags_of o)
side_segments lab None fits = refl
side_segments lab (Some m) fits = sym (length-map m.tags (λ tag. tag.0) ∙ (fits m refl).tags)

sum_same : (f g : Experiment → ℕ) (es : List Experiment) → ((e : Experiment) → Has es e → f e ≡ g e) → sum_by f es ≡ sum_by g es
sum_same f g [] same = refl
sum_same f g (e ∷ es) same = omega (arith, sum_by-cons f e es, sum_by-cons g e es, same e (inl refl), sum_same f g es (λ d h. same d (inr h)))

-- a segment has a VLAN id
segments_are : (lab : Lab) (es : List Experiment) → Holding lab es → sum_by claimed_segments es ≡ length (flat_map claimed_tags es)
segments_are lab es holding =
    sum_same claimed_segments (λ e. length (claimed_tags e)) es (λ e h.
    omega (arith, side_segments lab (claimed e Old) (λ m is. holding.fits e Old m h is), side_segments lab (claimed e New) (λ m is. holding.fits e New m h is), length-append (tags_of (claimed e Old)) (tags_of (claimed e New))))
    ∙ sym (length-flat_map claimed_tags es)

pub ids_left : (lab : Lab) (fs : List Entry) (es : List Experiment) → Holding lab es → Match lab fs es → count_by (λ id. not (has_id fs id)) (ids lab.range) + sum_by claimed_segments es ≡ ids_of lab
ids_left lab fs es holding m =
    let taken = flat_map claimed_tags es in
    let same : count_by (λ id. not (has_id fs id)) (ids lab.range) ≡ count_by (λ id. not (is_in id taken)) (ids lab.range) = λ i. count_by (λ id. not (id_by lab fs es id m i)) (ids lab.range) in
    omega (arith, same, segments_are lab es holding, rest_of_range taken lab.range.0 (size_of lab.range) holding.tags (λ id h. let within = holding.in_range id h in (within.0, omega (arith, within.0, within.1))))

-- ---- WHAT THE CLAIMS LEAVE
-- experiments whose names differ
pub named_apart : (es : List Experiment) → AllDiffer (map (λ e. e.name) es) → Apart (λ (d e : Experiment). d.name ≢ e.name) es
named_apart [] differ = tt
named_apart (e ∷ es) differ = (λ d h. differ.0 d.name (Has-mapped (λ x. x.name) es d h), named_apart es differ.1)

module _ (lab : Lab) (a b : List Experiment) (own : Experiment) (held : Held) (of_es : ClaimsOf lab (a ++ own ∷ b) held) where
  pub matching : AllDiffer (map (λ e. e.name) (a ++ own ∷ b)) → Match lab held.entries (a ++ own ∷ b)
  matching names = record { once = of_es.once; known = of_es.known; claims = of_es.claims; names = named_apart (a ++ own ∷ b) names }

  moved : sum_by claimed_segments (own ∷ (a ++ b)) ≡ sum_by claimed_segments (a ++ own ∷ b)
  moved = omega (arith, sum_by-cons claimed_segments own (a ++ b), sum_by-append claimed_segments a b, sum_by-append claimed_segments a (own ∷ b), sum_by-cons claimed_segments own b)

  pub is_left : (free : Free) → IsLab lab → Holding lab (a ++ own ∷ b) → AllDiffer (map (λ e. e.name) (a ++ own ∷ b)) → IsLeftTo held own.name free → IsLeft lab (a ++ b) own free
  is_left free is_lab holding names left =
      let m = matching names in
      let rest = match_rest lab held.entries a b own m in
      let trunks : length held.kbps ≡ length lab.trunks = ap length of_es.kbps ∙ length-map lab.trunks (λ (t : Trunk). t.kbps) in
      record {
        sizes = record { nodes = left.nodes ∙ of_es.nodes; trunks = left.trunks ∙ trunks };
        unclaimed = λ n h.
            left.unclaimed n (omega (arith, h, of_es.nodes))
            ∙ ap not (node_by lab is_lab (others own.name held.entries) (a ++ b) n h (λ e g which mapped is. holding.fits e which mapped (Has_other a b own e (Has-append a b e g)) is) rest);
        room = λ t h.
            let kbps : get_or held.kbps t 0 ≡ (trunk_at lab.trunks t).kbps = ap (λ l. get_or l t 0) of_es.kbps ∙ get_or-map (λ (x : Trunk). x.kbps) lab.trunks t no_trunk 0 h in
            omega (arith, left.room t (omega (arith, h, trunks)), used_by lab (others own.name held.entries) (a ++ b) t h rest, kbps);
        ids =
            let count : free.vlans ≡ count_by (λ id. not (has_id held.entries id)) (ids lab.range) =
            left.ids ∙ length-filter (λ id. not (has_id held.entries id)) (ids held.range) ∙ ap (λ (range : ℕ × ℕ). count_by (λ id. not (has_id held.entries id)) (ids range)) of_es.range in
            omega (arith, count, moved, ids_left lab held.entries (a ++ own ∷ b) holding m);
      }
