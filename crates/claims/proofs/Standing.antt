-- The claims and their tables after one is taken off, and after one is put on.
use Rattle.std.proofs.Common.{◌≡◌, ◌≢◌, inl, inr, ℕ, ◌+◌, ◌-◌, ◌<◌, ◌≤◌, ◌||◌, ◌==◌, Bool, true, false, if◌then◌else◌, Option, Some, None, List, [], ◌∷◌, ◌++◌, length, map, get_or, refl, sym, ap, ◌∙◌, subst, arith}
use Rattle.std.proofs.lemmas.Bool.{cases_eq, eq-eqb, ne_eqb, cases_Bool}
use Rattle.std.proofs.lemmas.List.Folds.{list_any-append}
use Rattle.lab_base.specs.Lists.{Has}
use Rattle.lab_base.specs.declared.ids.VlanId.{VlanId}
use Rattle.lab_base.proofs.Members.{Has-append, Has-left, Has-right, Apart-left, Apart-right}
use Rattle.claims.specs.declared.hold.Hold.{Hold}
use Rattle.claims.specs.declared.claim.Claim.{Claim}
use Rattle.claims.specs.declared.claim.Entry.{Entry}
use Rattle.claims.specs.declared.tables.Tables.{Tables}
use Rattle.claims.specs.Held.{Held, nodes_in, tags_in, claim_nodes, claim_tags, claim_use, is_in, owner_of, claim_named, others}
use Rattle.claims.specs.Adding.{IsWithin, ShareNothing, MayAdd, side_of}
use Rattle.claims.specs.Kept.{AreTwo, held_in, Keeps, MayStand}
use Rattle.claims.specs.Marks.{marked, id_places, places_in, claim_places}
use Rattle.claims.proofs.Entries.{has_if, marked_at, others_has, others_apart, share_nothing, other_names, owner_none, owner_rest, owner_pushed, use_rest, use_pushed, apart_pushed, named}

-- ---- places in the table of VLAN ids
place_is : (first i id : ℕ) → first ≤ id → (id - first == i) ≡ (id == first + i)
place_is first i id within = elim (cases_eq (id - first) i) [
  | inl same ↦ eq-eqb (id - first) i same ∙ sym (eq-eqb id (first + i) (omega (arith, same, within)))
  | inr apart ↦ ne_eqb (id - first) i apart ∙ sym (ne_eqb id (first + i) (λ e. apart (omega (arith, e))))
]

list_places : (first i : ℕ) (tags : List VlanId) → ((id : ℕ) → Has (map (λ tag. tag.0) tags) id → first ≤ id) → is_in i (id_places first tags) ≡ is_in (first + i) (map (λ tag. tag.0) tags)
list_places first i [] within = refl
list_places first i (tag ∷ tags) within = (λ j. place_is first i tag.0 (within tag.0 (inl refl)) j || list_places first i tags (λ id h. within id (inr h)) j)

side_places : (first i : ℕ) (h : Option Hold) → ((id : ℕ) → Has (tags_in h) id → first ≤ id) → is_in i (places_in first h) ≡ is_in (first + i) (tags_in h)
side_places first i None within = refl
side_places first i (Some h) within = list_places first i h.tags within

pub places_are : (first i : ℕ) (c : Claim) → ((id : ℕ) → Has (claim_tags c) id → first ≤ id) → is_in i (claim_places first c) ≡ is_in (first + i) (claim_tags c)
places_are first i c within =
    list_any-append (λ m. m == i) (places_in first c.old) (places_in first c.new)
    ∙ (λ j. side_places first i c.old (λ id h. within id (Has-left (tags_in c.old) (tags_in c.new) id h)) j || side_places first i c.new (λ id h. within id (Has-right (tags_in c.old) (tags_in c.new) id h)) j)
    ∙ sym (list_any-append (λ m. m == first + i) (tags_in c.old) (tags_in c.new))

-- ---- an owner less, and an owner more
owner_taken : (numbers : Claim → List ℕ) (exp : List ℕ) (es : List Entry) (c : Claim) (n : ℕ) → claim_named exp es ≡ Some c
    → ((e : Entry) → Has (others exp es) e → Has (numbers e.claim) n → Has (numbers c) n → ⊥)
    → (if is_in n (numbers c) then None else owner_of numbers es n) ≡ owner_of numbers (others exp es) n
owner_taken numbers exp es c n h apart = elim (cases_Bool (is_in n (numbers c))) [
  | inl inside ↦ ap (λ b. if b then None else owner_of numbers es n) inside ∙ sym (owner_none numbers (others exp es) n (λ e g k. apart e g k (has_if n (numbers c) inside)))
  | inr outside ↦ ap (λ b. if b then None else owner_of numbers es n) outside ∙ owner_rest numbers exp es c n h outside
]

within_moved : (range : ℕ × ℕ) (kbps : List ℕ) (es fs : List Entry) (tables after : Tables) (c : Claim) → length after.nodes.items ≡ length tables.nodes.items → IsWithin (held_in range kbps es tables) c → IsWithin (held_in range kbps fs after) c
within_moved range kbps es fs tables after c len w = record { nodes = λ n h. omega (arith, w.nodes n h, len); tags = w.tags; differ = w.differ; old_uses = w.old_uses; new_uses = w.new_uses }

-- the claim of an experiment is within the lab, and its uses are among those of all
pub within_named : (range : ℕ × ℕ) (kbps : List ℕ) (es : List Entry) (tables : Tables) (exp : List ℕ) (c : Claim) → Keeps range kbps es tables → claim_named exp es ≡ Some c → IsWithin (held_in range kbps es tables) c
within_named range kbps es tables exp c k h =
    let n = named exp es c h in
    subst (λ d. IsWithin (held_in range kbps es tables) d) n.claim (k.together.within n.entry n.among)

pub use_within : (range : ℕ × ℕ) (kbps : List ℕ) (es : List Entry) (tables : Tables) (exp : List ℕ) (c : Claim) → Keeps range kbps es tables → claim_named exp es ≡ Some c → (t : ℕ) → t < length tables.used.items → claim_use t c ≤ get_or tables.used.items t 0
use_within range kbps es tables exp c k h t g =
    let in_kbps : t < length kbps = omega (arith, g, k.are_tables.trunks) in
    omega (arith, k.are_tables.used_is t in_kbps, use_rest t exp es c h)

module _ (range : ℕ × ℕ) (kbps : List ℕ) (es : List Entry) (tables after : Tables) (keeps : Keeps range kbps es tables) (nodes_len : length after.nodes.items ≡ length tables.nodes.items) (ids_len : length after.ids.items ≡ length tables.ids.items) (used_len : length after.used.items ≡ length tables.used.items) where
  abbrev held : Held
  held = held_in range kbps es tables

  -- A CLAIM IS TAKEN OFF
  pub taken_kept : (exp : List ℕ) (c : Claim) → claim_named exp es ≡ Some c → IsWithin held c → after.nodes.items ≡ marked None tables.nodes.items (claim_nodes c) → after.ids.items ≡ marked None tables.ids.items (claim_places range.0 c)
      → ((t : ℕ) → t < length tables.used.items → get_or after.used.items t 0 + claim_use t c ≡ get_or tables.used.items t 0) → Keeps range kbps (others exp es) after
  taken_kept exp c h w nodes ids used =
      let k = keeps.are_tables in
      let apart = share_nothing exp es c keeps.together.apart h in
      record {
        few_nodes = omega (arith, keeps.few_nodes, nodes_len);
        first_id = keeps.first_id;
        last_id = keeps.last_id;
        slow = keeps.slow;
        together = record {
          within = λ e g. within_moved range kbps es (others exp es) tables after e.claim nodes_len (keeps.together.within e (others_has exp es e g));
          apart = others_apart AreTwo exp es keeps.together.apart;
          trunks = λ t g. omega (arith, keeps.together.trunks t g, use_rest t exp es c h);
        };
        are_tables = record {
          trunks = used_len ∙ k.trunks;
          ids = ids_len ∙ k.ids;
          nodes_are = λ n g.
              let in_table : n < length tables.nodes.items = omega (arith, g, nodes_len) in
              ap (λ l. get_or l n None) nodes ∙ marked_at None None tables.nodes.items (claim_nodes c) n in_table
              ∙ ap (λ o. if is_in n (claim_nodes c) then None else o) (k.nodes_are n in_table)
              ∙ owner_taken claim_nodes exp es c n h (λ e x. (apart e x).nodes n);
          used_is = λ t g.
              let in_table : t < length tables.used.items = omega (arith, g, k.trunks) in
              omega (arith, used t in_table, k.used_is t g, use_rest t exp es c h);
          ids_are = λ i g.
              let in_table : i < length tables.ids.items = omega (arith, g, k.ids) in
              ap (λ l. get_or l i None) ids ∙ marked_at None None tables.ids.items (claim_places range.0 c) i in_table
              ∙ (λ j. if places_are range.0 i c (λ id x. (w.tags id x).0) j then None else k.ids_are i g j)
              ∙ owner_taken claim_tags exp es c (range.0 + i) h (λ e x. (apart e x).tags (range.0 + i));
        };
      }

  -- A CLAIM IS PUT ON
  pub put_kept : (exp : List ℕ) (c : Claim) → MayStand held exp c → after.nodes.items ≡ marked (Some exp) tables.nodes.items (claim_nodes c) → after.ids.items ≡ marked (Some exp) tables.ids.items (claim_places range.0 c)
      → ((t : ℕ) → t < length tables.used.items → get_or after.used.items t 0 ≡ get_or tables.used.items t 0 + claim_use t c) → Keeps range kbps (es ++ record { exp = exp; claim = c } ∷ []) after
  put_kept exp c may nodes ids used =
      let k = keeps.are_tables in
      let entry : Entry = record { exp = exp; claim = c } in
      record {
        few_nodes = omega (arith, keeps.few_nodes, nodes_len);
        first_id = keeps.first_id;
        last_id = keeps.last_id;
        slow = keeps.slow;
        together = record {
          within = λ e g. elim (Has-append es (entry ∷ []) e g) [
            | inl x ↦ within_moved range kbps es (es ++ entry ∷ []) tables after e.claim nodes_len (keeps.together.within e x)
            | inr x ↦ elim x [
              | inl same ↦ subst (λ (f : Entry). IsWithin (held_in range kbps (es ++ entry ∷ []) after) f.claim) same (within_moved range kbps es (es ++ entry ∷ []) tables after c nodes_len may.within)
              | inr none ↦ absurd none
            ]
          ];
          apart = apart_pushed AreTwo es entry keeps.together.apart (λ f x. record { names = may.names f x; share = may.apart f x });
          trunks = λ t g. omega (arith, may.trunks t g, use_pushed t es entry);
        };
        are_tables = record {
          trunks = used_len ∙ k.trunks;
          ids = ids_len ∙ k.ids;
          nodes_are = λ n g.
              let in_table : n < length tables.nodes.items = omega (arith, g, nodes_len) in
              ap (λ l. get_or l n None) nodes ∙ marked_at (Some exp) None tables.nodes.items (claim_nodes c) n in_table
              ∙ ap (λ o. if is_in n (claim_nodes c) then Some exp else o) (k.nodes_are n in_table)
              ∙ sym (owner_pushed claim_nodes es entry n (λ f x. (may.apart f x).nodes n));
          used_is = λ t g.
              let in_table : t < length tables.used.items = omega (arith, g, k.trunks) in
              omega (arith, used t in_table, k.used_is t g, use_pushed t es entry);
          ids_are = λ i g.
              let in_table : i < length tables.ids.items = omega (arith, g, k.ids) in
              ap (λ l. get_or l i None) ids ∙ marked_at (Some exp) None tables.ids.items (claim_places range.0 c) i in_table
              ∙ (λ j. if places_are range.0 i c (λ id x. (may.within.tags id x).0) j then Some exp else k.ids_are i g j)
              ∙ sym (owner_pushed claim_tags es entry (range.0 + i) (λ f x. (may.apart f x).tags (range.0 + i)));
        };
      }

-- what may be added may stand beside the claims of the others
pub may_stand : (range : ℕ × ℕ) (kbps : List ℕ) (es : List Entry) (tables after : Tables) (exp : List ℕ) (c : Claim) → Keeps range kbps es tables → length after.nodes.items ≡ length tables.nodes.items → MayAdd (held_in range kbps es tables) exp c
    → MayStand (held_in range kbps (others exp es) after) exp c
may_stand range kbps es tables after exp c k len may = record {
  within = within_moved range kbps es (others exp es) tables after c len may.within;
  names = other_names exp es k.together.apart;
  apart = may.apart;
  trunks = may.trunks;
}

-- so may one side of the experiment's own claim
side_within : (held : Held) (keep_new : Bool) (c : Claim) → IsWithin held c → IsWithin held (side_of keep_new c)
side_within lab true c w = record {
  nodes = λ n h. w.nodes n (Has-right (nodes_in c.old) (nodes_in c.new) n h);
  tags = λ id h. w.tags id (Has-right (tags_in c.old) (tags_in c.new) id h);
  differ = Apart-right (λ x y. x ≢ y) (tags_in c.old) (tags_in c.new) w.differ;
  old_uses = tt;
  new_uses = w.new_uses;
}
side_within lab false c w = record {
  nodes = λ n h. w.nodes n (Has-left (nodes_in c.old) (nodes_in c.new) n h);
  tags = λ id h. w.tags id (Has-left (tags_in c.old) (tags_in c.new) id h);
  differ = Apart-left (λ x y. x ≢ y) (tags_in c.old) (tags_in c.new) w.differ;
  old_uses = tt;
  new_uses = w.old_uses;
}

side_less : (keep_new : Bool) (c : Claim) (t : ℕ) → claim_use t (side_of keep_new c) ≤ claim_use t c
side_less true c t = omega arith
side_less false c t = omega arith

side_shares : (keep_new : Bool) (c d : Claim) → ShareNothing d c → ShareNothing d (side_of keep_new c)
side_shares true c d s = record { nodes = λ n a b. s.nodes n a (Has-right (nodes_in c.old) (nodes_in c.new) n b); tags = λ id a b. s.tags id a (Has-right (tags_in c.old) (tags_in c.new) id b) }
side_shares false c d s = record { nodes = λ n a b. s.nodes n a (Has-left (nodes_in c.old) (nodes_in c.new) n b); tags = λ id a b. s.tags id a (Has-left (tags_in c.old) (tags_in c.new) id b) }

pub side_stands : (range : ℕ × ℕ) (kbps : List ℕ) (es : List Entry) (tables after : Tables) (exp : List ℕ) (keep_new : Bool) (c : Claim) → Keeps range kbps es tables → length after.nodes.items ≡ length tables.nodes.items → claim_named exp es ≡ Some c
    → MayStand (held_in range kbps (others exp es) after) exp (side_of keep_new c)
side_stands range kbps es tables after exp keep_new c k len h = record {
  within = side_within (held_in range kbps (others exp es) after) keep_new c (within_moved range kbps es (others exp es) tables after c len (within_named range kbps es tables exp c k h));
  names = other_names exp es k.together.apart;
  apart = λ e g. side_shares keep_new c e.claim (share_nothing exp es c k.together.apart h e g);
  trunks = λ t g. omega (arith, side_less keep_new c t, use_rest t exp es c h, k.together.trunks t g);
}
