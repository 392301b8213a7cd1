-- Counts of tables, and what they say of the claims.
use Rattle.std.specs.List.{list_any, count_by, filter, range_with_len}
use Rattle.std.specs.Prelude.{is_none, is_some}
use Rattle.std.specs.Str.{bytes_eq}
use Rattle.std.proofs.Common.{◌≡◌, ◌≢◌, inl, inr, ℕ, zero, suc, ◌+◌, ◌<◌, ◌≤◌, ◌||◌, Bool, true, false, not, cond, if◌then◌else◌, Option, Some, None, List, [], ◌∷◌, ◌++◌, length, map, take, get_or, refl, sym, ap, ◌∙◌, subst, arith}
use Rattle.std.proofs.lemmas.Bool.{cases_Bool}
use Rattle.std.proofs.lemmas.List.Sums.{sum_by-cons, length-filter}
use Rattle.std.proofs.lemmas.Slice.Eq.{bytes_eq-Decides}
use Rattle.std.proofs.lemmas.List.{append-nil, length-take, length-map, take_more, map-append}
use Rattle.std.proofs.Math.Nat.{add-zero}
use Rattle.lab_base.specs.declared.ids.VlanId.{VlanId}
use Rattle.lab_base.specs.Lists.{Has, Apart}
use Rattle.lab_base.proofs.Bytes.{bytes_self}
use Rattle.claims.specs.declared.claim.Claim.{Claim}
use Rattle.claims.specs.declared.claim.Entry.{Entry}
use Rattle.claims.specs.Held.{is_in, owner_of, claim_named, others, free_ids, free_nodes, nodes_of, ids_of, ids, has_node, has_id, claim_nodes, claim_tags}
use Rattle.claims.specs.Counts.{is_owned_by, is_free_to, free_from}
use Rattle.claims.specs.Kept.{AreTwo, Keeps, held_in}
use Rattle.claims.specs.declared.tables.Tables.{Tables}
use Rattle.claims.proofs.Entries.{has_if, out_if, others_all, other_names, owner_none, owner_rest, named, share_nothing}

-- a table and the numbers of its places are counted alike
pub count_places : {X : Type 0} (q : X → Bool) (p : ℕ → Bool) (xs : List X) (d : X) (a : ℕ) → ((i : ℕ) → i < length xs → q (get_or xs i d) ≡ p (a + i)) → count_by q xs ≡ count_by p (range_with_len a (length xs))
count_places q p [] d a h = refl
count_places q p (x ∷ xs) d a h =
    let here : q x ≡ p a = h 0 (omega arith) ∙ ap p (add-zero a) in
    let more = count_places q p xs d (a + 1) (λ i g. h (suc i) (omega (arith, g)) ∙ ap p (next a i)) in
    sum_by-cons (λ y. cond (q y) 1 0) x xs ∙ (λ i. cond (here i) 1 0 + more i) ∙ sym (sum_by-cons (λ y. cond (p y) 1 0) a (range_with_len (a + 1) (length xs)))
  where
    next : (a i : ℕ) → a + suc i ≡ a + 1 + i
    next a i = omega arith

-- no owner, and an owner that is the experiment
pub unowned : (numbers : Claim → List ℕ) (es : List Entry) (n : ℕ) → is_none (owner_of numbers es n) ≡ not (list_any (λ e. is_in n (numbers e.claim)) es)
unowned numbers [] n = refl
unowned numbers (e ∷ es) n = by (is_in n (numbers e.claim)) (unowned numbers es n)
  where
    by : (b : Bool) → is_none (owner_of numbers es n) ≡ not (list_any (λ f. is_in n (numbers f.claim)) es) → is_none (if b then Some e.exp else owner_of numbers es n) ≡ not (b || list_any (λ f. is_in n (numbers f.claim)) es)
    by true more = refl
    by false more = more

not_owned : (numbers : Claim → List ℕ) (exp : List ℕ) (es : List Entry) (n : ℕ) → ((e : Entry) → Has es e → e.exp ≢ exp) → is_owned_by exp (owner_of numbers es n) ≡ false
not_owned numbers exp [] n others = refl
not_owned numbers exp (e ∷ es) n names = by (is_in n (numbers e.claim)) (not_owned numbers exp es n (λ f h. names f (inr h)))
  where
    other : bytes_eq e.exp exp ≡ false
    other = elim (cases_Bool (bytes_eq e.exp exp)) [ inl same ↦ absurd (names e (inl refl) ((bytes_eq-Decides e.exp exp).0 same)) | inr apart ↦ apart ]

    by : (b : Bool) → is_owned_by exp (owner_of numbers es n) ≡ false → is_owned_by exp (if b then Some e.exp else owner_of numbers es n) ≡ false
    by true more = other
    by false more = more

owner_named : (numbers : Claim → List ℕ) (share : (e f : Entry) → AreTwo e f → (n : ℕ) → Has (numbers e.claim) n → Has (numbers f.claim) n → ⊥) (es : List Entry) (e : Entry) (n : ℕ) → Apart AreTwo es → Has es e → is_in n (numbers e.claim) ≡ true → owner_of numbers es n ≡ Some e.exp
owner_named numbers share [] e n apart h inside = absurd h
owner_named numbers share (f ∷ es) e n apart (inl same) inside = subst (λ (x : Entry). owner_of numbers (f ∷ es) n ≡ Some x.exp) same (ap (λ b. if b then Some f.exp else owner_of numbers es n) (subst (λ (x : Entry). is_in n (numbers x.claim) ≡ true) (sym same) inside))
owner_named numbers share (f ∷ es) e n apart (inr h) inside =
    let out = out_if n (numbers f.claim) (λ g. share f e (apart.0 e h) n g (has_if n (numbers e.claim) inside)) in
    ap (λ b. if b then Some f.exp else owner_of numbers es n) out ∙ owner_named numbers share es e n apart.1 h inside

-- whether the experiment's claim has the number
abbrev pub has_in : (Claim → List ℕ) → Option Claim → ℕ → Bool
has_in numbers None n = false
has_in numbers (Some c) n = is_in n (numbers c)

pub owned : (numbers : Claim → List ℕ) (share : (e f : Entry) → AreTwo e f → (n : ℕ) → Has (numbers e.claim) n → Has (numbers f.claim) n → ⊥) (exp : List ℕ) (es : List Entry) (n : ℕ) (o : Option Claim) → Apart AreTwo es → claim_named exp es ≡ o
    → is_owned_by exp (owner_of numbers es n) ≡ has_in numbers o n
owned numbers share exp es n None apart h =
    ap (λ l. is_owned_by exp (owner_of numbers l n)) (sym (others_all exp es h)) ∙ not_owned numbers exp (others exp es) n (other_names exp es apart)
owned numbers share exp es n (Some c) apart h = elim (cases_Bool (is_in n (numbers c))) [
  | inl inside ↦
      let k = named exp es c h in
      let there : owner_of numbers es n ≡ Some k.entry.exp = owner_named numbers share es k.entry n apart k.among (ap (λ d. is_in n (numbers d)) k.claim ∙ inside) in
      ap (is_owned_by exp) there ∙ ap (λ name. bytes_eq name exp) k.name ∙ bytes_self exp ∙ sym inside
  | inr outside ↦ ap (is_owned_by exp) (owner_rest numbers exp es c n h outside) ∙ not_owned numbers exp (others exp es) n (other_names exp es apart) ∙ sym outside
]

count_none : (xs : List ℕ) → count_by (λ n. false) xs ≡ 0
count_none [] = refl
count_none (x ∷ xs) = sum_by-cons (λ n. cond false 1 0) x xs ∙ ap (λ n. 0 + n) (count_none xs)

-- ---- the counts of claims
module _ (range : ℕ × ℕ) (kbps : List ℕ) (es : List Entry) (tables : Tables) (k : Keeps range kbps es tables) where
  pub nodes_free : count_by is_none tables.nodes.items ≡ free_nodes (held_in range kbps es tables)
  nodes_free = count_places is_none (λ n. not (has_node es n)) tables.nodes.items None 0 (λ i h. ap is_none (k.are_tables.nodes_are i h) ∙ unowned claim_nodes es i ∙ ap (λ m. not (has_node es m)) (zero_less i))
    where
      zero_less : (i : ℕ) → i ≡ 0 + i
      zero_less i = omega arith

  pub ids_free : count_by is_none tables.ids.items ≡ length (free_ids (held_in range kbps es tables))
  ids_free =
      count_places is_none (λ id. not (has_id es id)) tables.ids.items None range.0 (λ i h. ap is_none (k.are_tables.ids_are i (omega (arith, h, k.are_tables.ids))) ∙ unowned claim_tags es (range.0 + i))
      ∙ ap (λ n. count_by (λ id. not (has_id es id)) (range_with_len range.0 n)) k.are_tables.ids
      ∙ sym (length-filter (λ id. not (has_id es id)) (ids range))

  pub nodes_owned : (exp : List ℕ) → count_by (is_owned_by exp) tables.nodes.items ≡ nodes_of (length tables.nodes.items) (claim_named exp es)
  nodes_owned exp = by (claim_named exp es) refl
    where
      counted : (o : Option Claim) → claim_named exp es ≡ o → count_by (is_owned_by exp) tables.nodes.items ≡ count_by (has_in claim_nodes o) (range_with_len 0 (length tables.nodes.items))
      counted o h = count_places (is_owned_by exp) (has_in claim_nodes o) tables.nodes.items None 0 (λ i g. ap (is_owned_by exp) (k.are_tables.nodes_are i g) ∙ owned claim_nodes (λ e f two. two.share.nodes) exp es i o k.together.apart h ∙ ap (has_in claim_nodes o) (zero_less i))
        where
          zero_less : (i : ℕ) → i ≡ 0 + i
          zero_less i = omega arith

      by : (o : Option Claim) → claim_named exp es ≡ o → count_by (is_owned_by exp) tables.nodes.items ≡ nodes_of (length tables.nodes.items) o
      by None h = counted None h ∙ count_none (range_with_len 0 (length tables.nodes.items))
      by (Some c) h = counted (Some c) h

  pub ids_owned : (exp : List ℕ) → count_by (is_owned_by exp) tables.ids.items ≡ ids_of range (claim_named exp es)
  ids_owned exp = by (claim_named exp es) refl
    where
      counted : (o : Option Claim) → claim_named exp es ≡ o → count_by (is_owned_by exp) tables.ids.items ≡ count_by (has_in claim_tags o) (ids range)
      counted o h =
          count_places (is_owned_by exp) (has_in claim_tags o) tables.ids.items None range.0 (λ i g. ap (is_owned_by exp) (k.are_tables.ids_are i (omega (arith, g, k.are_tables.ids))) ∙ owned claim_tags (λ e f two. two.share.tags) exp es (range.0 + i) o k.together.apart h)
          ∙ ap (λ n. count_by (has_in claim_tags o) (range_with_len range.0 n)) k.are_tables.ids

      by : (o : Option Claim) → claim_named exp es ≡ o → count_by (is_owned_by exp) tables.ids.items ≡ ids_of range o
      by None h = counted None h ∙ count_none (ids range)
      by (Some c) h = counted (Some c) h

-- ---- the free VLAN ids in order
pub free_pushed : (first : ℕ) (xs : List (Option (List ℕ))) (o : Option (List ℕ)) → free_from first (xs ++ o ∷ []) ≡ free_from first xs ++ (if is_none o then (first + length xs) ∷ [] else [])
free_pushed first [] o = by (is_none o)
  where
    by : (b : Bool) → (if b then first ∷ [] else []) ≡ (if b then (first + 0) ∷ [] else [])
    by true = let e : first ≡ first + 0 = omega arith in ap (λ n. n ∷ []) e
    by false = refl
free_pushed first (x ∷ xs) o = by (is_none x) (free_pushed (first + 1) xs o ∙ ap (λ n. free_from (first + 1) xs ++ (if is_none o then n ∷ [] else [])) next)
  where
    next : first + 1 + length xs ≡ first + length (x ∷ xs)
    next = omega arith

    by : (b : Bool) → free_from (first + 1) (xs ++ o ∷ []) ≡ free_from (first + 1) xs ++ (if is_none o then (first + length (x ∷ xs)) ∷ [] else [])
        → (if b then first ∷ free_from (first + 1) (xs ++ o ∷ []) else free_from (first + 1) (xs ++ o ∷ [])) ≡ (if b then first ∷ free_from (first + 1) xs else free_from (first + 1) xs) ++ (if is_none o then (first + length (x ∷ xs)) ∷ [] else [])
    by true e = ap (λ l. first ∷ l) e
    by false e = e

pub free_filter : (first : ℕ) (xs : List (Option (List ℕ))) (p : ℕ → Bool) → ((i : ℕ) → i < length xs → is_none (get_or xs i None) ≡ p (first + i)) → free_from first xs ≡ filter p (range_with_len first (length xs))
free_filter first [] p h = refl
free_filter first (x ∷ xs) p h = by (is_none x) (p first) (h 0 (omega arith) ∙ ap p zero_more) (free_filter (first + 1) xs p (λ i g. h (suc i) (omega (arith, g)) ∙ ap p (next i)))
  where
    zero_more : first + 0 ≡ first
    zero_more = omega arith

    next : (i : ℕ) → first + suc i ≡ first + 1 + i
    next i = omega arith

    by : (b c : Bool) → b ≡ c → free_from (first + 1) xs ≡ filter p (range_with_len (first + 1) (length xs))
        → (if b then first ∷ free_from (first + 1) xs else free_from (first + 1) xs) ≡ (if c then first ∷ filter p (range_with_len (first + 1) (length xs)) else filter p (range_with_len (first + 1) (length xs)))
    by true true e more = ap (λ l. first ∷ l) more
    by true false e more = absurd (cc e)
    by false true e more = absurd (cc e)
    by false false e more = more

-- so many at the front, and one more
pub take_pushed : (n : ℕ) (xs : List ℕ) (x : ℕ) → length (take n xs) < n → take n (xs ++ x ∷ []) ≡ take n xs ++ x ∷ []
take_pushed zero xs x h = absurd (omega (arith, h))
take_pushed (suc n) [] x h = ap (λ l. x ∷ l) (none n)
  where
    nothing : List ℕ
    nothing = []

    none : (n : ℕ) → take n nothing ≡ nothing
    none zero = refl
    none (suc n) = refl
take_pushed (suc n) (y ∷ xs) x h = ap (λ l. y ∷ l) (take_pushed n xs x (omega (arith, h)))

pub take_enough : (n : ℕ) (xs ys : List ℕ) → n ≤ length (take n xs) → take n (xs ++ ys) ≡ take n xs
take_enough zero xs ys h = refl
take_enough (suc n) [] ys h = absurd (omega (arith, h))
take_enough (suc n) (y ∷ xs) ys h = ap (λ l. y ∷ l) (take_enough n xs ys (omega (arith, h)))

module _ (range : ℕ × ℕ) (kbps : List ℕ) (es : List Entry) (tables : Tables) (k : Keeps range kbps es tables) where
  pub all_free : free_from range.0 tables.ids.items ≡ free_ids (held_in range kbps es tables)
  all_free =
      free_filter range.0 tables.ids.items (λ id. not (has_id es id)) (λ i h. ap is_none (k.are_tables.ids_are i (omega (arith, h, k.are_tables.ids))) ∙ unowned claim_tags es (range.0 + i))
      ∙ ap (λ n. filter (λ id. not (has_id es id)) (range_with_len range.0 n)) k.are_tables.ids

-- ---- what is free to an experiment
free_if_other : (es : List Entry) (exp : List ℕ) (n : ℕ) → ((e : Entry) → Has es e → e.exp ≢ exp) → is_free_to exp (owner_of claim_nodes es n) ≡ is_none (owner_of claim_nodes es n)
free_if_other [] exp n names = refl
free_if_other (e ∷ es) exp n names = by (is_in n (claim_nodes e.claim)) (free_if_other es exp n (λ f h. names f (inr h)))
  where
    other : bytes_eq e.exp exp ≡ false
    other = elim (cases_Bool (bytes_eq e.exp exp)) [ inl same ↦ absurd (names e (inl refl) ((bytes_eq-Decides e.exp exp).0 same)) | inr apart ↦ apart ]

    by : (b : Bool) → is_free_to exp (owner_of claim_nodes es n) ≡ is_none (owner_of claim_nodes es n) → is_free_to exp (if b then Some e.exp else owner_of claim_nodes es n) ≡ is_none (if b then Some e.exp else owner_of claim_nodes es n)
    by true more = other
    by false more = more

pub free_to : (exp : List ℕ) (es : List Entry) (n : ℕ) (o : Option Claim) → Apart AreTwo es → claim_named exp es ≡ o → is_free_to exp (owner_of claim_nodes es n) ≡ not (has_node (others exp es) n)
free_to exp es n None apart h =
    ap (λ l. is_free_to exp (owner_of claim_nodes l n)) (sym (others_all exp es h)) ∙ free_if_other (others exp es) exp n (other_names exp es apart) ∙ unowned claim_nodes (others exp es) n
free_to exp es n (Some c) apart h = elim (cases_Bool (is_in n (claim_nodes c))) [
  | inl inside ↦
      let k = named exp es c h in
      let there : owner_of claim_nodes es n ≡ Some k.entry.exp = owner_named claim_nodes (λ e f two. two.share.nodes) es k.entry n apart k.among (ap (λ d. is_in n (claim_nodes d)) k.claim ∙ inside) in
      let none = owner_none claim_nodes (others exp es) n (λ e g x. (share_nothing exp es c apart h e g).nodes n x (has_if n (claim_nodes c) inside)) in
      ap (is_free_to exp) there ∙ ap (λ name. bytes_eq name exp) k.name ∙ bytes_self exp ∙ sym (sym (unowned claim_nodes (others exp es) n) ∙ ap is_none none)
  | inr outside ↦ ap (is_free_to exp) (owner_rest claim_nodes exp es c n h outside) ∙ free_if_other (others exp es) exp n (other_names exp es apart) ∙ unowned claim_nodes (others exp es) n
]

-- one place more: its number is taken, or not
module _ (count first i : ℕ) (tags : List VlanId) (owners : List (Option (List ℕ))) (d : Option (List ℕ)) (within : i < length owners) (so_far : map (λ tag. tag.0) tags ≡ take count (free_from first (take i owners))) where
  abbrev here : Option (List ℕ)
  here = get_or owners i d

  longer : free_from first (take (i + 1) owners) ≡ free_from first (take i owners) ++ (if is_none here then (first + i) ∷ [] else [])
  longer =
      let size : length (take i owners) ≡ i = omega (arith, length-take i owners, within) in
      ap (free_from first) (take_more owners i d within) ∙ free_pushed first (take i owners) here ∙ ap (λ n. free_from first (take i owners) ++ (if is_none here then (first + n) ∷ [] else [])) size

  pub id_taken : (tag : VlanId) → tag.0 ≡ first + i → is_none here ≡ true → length tags < count → map (λ t. t.0) (tags ++ tag ∷ []) ≡ take count (free_from first (take (i + 1) owners))
  id_taken tag is none few =
      let room : length (take count (free_from first (take i owners))) < count = omega (arith, ap length so_far, length-map tags (λ (t : VlanId). t.0), few) in
      map-append (λ (t : VlanId). t.0) tags (tag ∷ []) ∙ (λ j. so_far j ++ is j ∷ [])
      ∙ sym (take_pushed count (free_from first (take i owners)) (first + i) room)
      ∙ sym (ap (take count) (longer ∙ ap (λ b. free_from first (take i owners) ++ (if b then (first + i) ∷ [] else [])) none))

  pub id_passed : is_none here ≡ false → map (λ t. t.0) tags ≡ take count (free_from first (take (i + 1) owners))
  id_passed some = so_far ∙ sym (ap (take count) (longer ∙ ap (λ b. free_from first (take i owners) ++ (if b then (first + i) ∷ [] else [])) some ∙ append-nil (free_from first (take i owners))))

  pub ids_enough : count ≤ length tags → map (λ t. t.0) tags ≡ take count (free_from first (take (i + 1) owners))
  ids_enough many =
      let full : count ≤ length (take count (free_from first (take i owners))) = omega (arith, ap length so_far, length-map tags (λ (t : VlanId). t.0), many) in
      so_far ∙ sym (take_enough count (free_from first (take i owners)) (if is_none here then (first + i) ∷ [] else []) full) ∙ sym (ap (take count) longer)

pub none_if : (o : Option (List ℕ)) → is_some o ≡ false → is_none o ≡ true
none_if None h = refl
none_if (Some x) h = absurd (cc h)

pub some_if : (o : Option (List ℕ)) → is_some o ≡ true → is_none o ≡ false
some_if None h = absurd (cc h)
some_if (Some x) h = refl
