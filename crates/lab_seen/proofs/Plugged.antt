-- The switches of each node's interfaces, of the first so many of a lab.
use Rattle.std.proofs.Common.{◌≡◌, ◌≢◌, inl, inr, ℕ, ◌+◌, ◌<◌, ◌==◌, Bool, true, false, cond, List, [], ◌∷◌, ◌++◌, length, map, filter, take, get_or, set, replicate, refl, sym, ap, subst, ◌∙◌, arith}
use Rattle.std.specs.Str.{bytes_eq}
use Rattle.std.proofs.lemmas.Bool.{cases_Bool, cases_eq, eq-eqb, ne_eqb}
use Rattle.std.proofs.lemmas.List.{append-nil, ext_get_or, get_or-map, get_or-replicate, get_or-set_other, get_or-set_same, length-map, map-append}
use Rattle.std.proofs.lemmas.List.Elements.{filter_more}
use Rattle.std.proofs.lemmas.Slice.Eq.{bytes_eq-Decides}
use Rattle.lab_base.specs.Lists.{Has}
use Rattle.lab_base.proofs.Members.{Apart-right, differ_at}
use Rattle.phys_lab.specs.Labs.{Lab}
use Rattle.phys_lab.specs.Kept.{IsLab}
use Rattle.phys_lab.specs.declared.parts.Iface.{Iface}
use Rattle.lab_model.specs.Shapes.{no_node}
use Rattle.lab_model.specs.Wants.{node_name}
use Rattle.lab_model.proofs.WiringLaws.{All-has}
use Rattle.lab_seen.specs.Claimed.{is_plug_of, plugs_of}

-- by interface of the node of that number, in order, the number of its switch
abbrev pub plugs_at : List Iface → ℕ → List ℕ
plugs_at ifaces n = map (λ i. i.switch.0) (filter (λ i. i.node.0 == n) ifaces)

pub begun : (nodes n : ℕ) → n < nodes → get_or (replicate nodes []) n [] ≡ plugs_at [] n
begun nodes n lt = get_or-replicate nodes n [] [] lt

-- one interface more
pub one_more : (ifaces : List Iface) (k : ℕ) (d : Iface) (lists : List (List ℕ)) (n : ℕ) → k < length ifaces → (get_or ifaces k d).node.0 < length lists
    → get_or lists n [] ≡ plugs_at (take k ifaces) n → get_or lists (get_or ifaces k d).node.0 [] ≡ plugs_at (take k ifaces) (get_or ifaces k d).node.0
    → get_or (set lists (get_or ifaces k d).node.0 (get_or lists (get_or ifaces k d).node.0 [] ++ (get_or ifaces k d).switch.0 ∷ [])) n [] ≡ plugs_at (take (k + 1) ifaces) n
one_more ifaces k d lists n lt within before own = elim (cases_eq m n) [
  | inl same ↦
      ap (λ (j : ℕ). get_or (set lists m (get_or lists m [] ++ x.switch.0 ∷ [])) j []) (sym same)
      ∙ get_or-set_same lists m (get_or lists m [] ++ x.switch.0 ∷ []) [] within
      ∙ ap (λ (l : List ℕ). l ++ x.switch.0 ∷ []) own
      ∙ sym (step m ∙ ap (λ (b : Bool). plugs_at (take k ifaces) m ++ cond b (x.switch.0 ∷ []) []) (eq-eqb m m refl))
      ∙ ap (λ (j : ℕ). plugs_at (take (k + 1) ifaces) j) same
  | inr other ↦
      get_or-set_other lists m n (get_or lists m [] ++ x.switch.0 ∷ []) [] (λ e. other (sym e))
      ∙ before
      ∙ sym (step n ∙ ap (λ (b : Bool). plugs_at (take k ifaces) n ++ cond b (x.switch.0 ∷ []) []) (ne_eqb m n other) ∙ append-nil (plugs_at (take k ifaces) n))
]
  where
    x : Iface
    x = get_or ifaces k d

    m : ℕ
    m = x.node.0

    parted : (b : Bool) (xs : List Iface) → map (λ (i : Iface). i.switch.0) (xs ++ cond b (x ∷ []) []) ≡ map (λ (i : Iface). i.switch.0) xs ++ cond b (x.switch.0 ∷ []) []
    parted true xs = map-append (λ (i : Iface). i.switch.0) xs (x ∷ [])
    parted false xs = map-append (λ (i : Iface). i.switch.0) xs []

    step : (j : ℕ) → plugs_at (take (k + 1) ifaces) j ≡ plugs_at (take k ifaces) j ++ cond (m == j) (x.switch.0 ∷ []) []
    step j =
        ap (map (λ (i : Iface). i.switch.0)) (filter_more (λ (i : Iface). i.node.0 == j) ifaces k d lt)
        ∙ parted (m == j) (filter (λ (i : Iface). i.node.0 == j) (take k ifaces))

abbrev Each : List Iface → ℕ → ℕ → List (List ℕ) → Type 0
Each ifaces nodes k lists = (n : ℕ) → n < nodes → get_or lists n [] ≡ plugs_at (take k ifaces) n

pub one_seen : (ifaces seen : List Iface) → seen ≡ ifaces → (nodes k : ℕ) (x : Iface) (lists new : List (List ℕ)) → k < length seen → x ≡ get_or seen k x → x.node.0 < nodes → length lists ≡ nodes
    → new ≡ set lists x.node.0 (get_or lists x.node.0 [] ++ x.switch.0 ∷ []) → Each ifaces nodes k lists → Each ifaces nodes (k + 1) new
one_seen ifaces seen same = subst
    (λ (s : List Iface). (nodes k : ℕ) (x : Iface) (lists new : List (List ℕ)) → k < length s → x ≡ get_or s k x → x.node.0 < nodes → length lists ≡ nodes
    → new ≡ set lists x.node.0 (get_or lists x.node.0 [] ++ x.switch.0 ∷ []) → Each ifaces nodes k lists → Each ifaces nodes (k + 1) new)
    (sym same)
    (λ nodes k x lists new lt read inside many is before. λ n under.
    let within : (get_or ifaces k x).node.0 < nodes = subst (λ (i : Iface). i.node.0 < nodes) read inside in
    ap (λ (l : List (List ℕ)). get_or l n []) (is ∙ ap (λ (i : Iface). set lists i.node.0 (get_or lists i.node.0 [] ++ i.switch.0 ∷ [])) read)
    ∙ one_more ifaces k x lists n lt (omega (arith, within, many)) (before n under) (before (get_or ifaces k x).node.0 within))

filter_on : {X : Type 0} (p q : X → Bool) (xs : List X) → ((x : X) → Has xs x → p x ≡ q x) → filter p xs ≡ filter q xs
filter_on p q [] same = refl
filter_on {X} p q (x ∷ xs) same = λ i. cond (same x (inl refl) i) (x ∷ filter_on p q xs (λ y h. same y (inr h)) i) (filter_on p q xs (λ y h. same y (inr h)) i)

module _ (lab : Lab) (is_lab : IsLab lab) where
  one_node : (i j : ℕ) → i < length lab.nodes → j < length lab.nodes → (get_or lab.nodes i no_node).name ≡ (get_or lab.nodes j no_node).name → i ≡ j
  one_node i j h g same =
      differ_at (map (λ n. n.name) lab.nodes) i j [] (Apart-right (λ x y. x ≢ y) lab.switches (map (λ n. n.name) lab.nodes) is_lab.devices_differ)
      (omega (arith, h, length-map lab.nodes (λ n. n.name))) (omega (arith, g, length-map lab.nodes (λ n. n.name)))
      (get_or-map (λ n. n.name) lab.nodes i no_node [] h ∙ same ∙ sym (get_or-map (λ n. n.name) lab.nodes j no_node [] g))

  by_name : (n : ℕ) → n < length lab.nodes → (x : Iface) → Has lab.ifaces x → (x.node.0 == n) ≡ is_plug_of lab (get_or lab.nodes n no_node).name x
  by_name n lt x has = elim (cases_eq x.node.0 n) [
    | inl same ↦ eq-eqb x.node.0 n same ∙ sym ((bytes_eq-Decides _ _).1 (ap (λ (k : ℕ). (get_or lab.nodes k no_node).name) same))
    | inr apart ↦ ne_eqb x.node.0 n apart ∙ sym (elim (cases_Bool (bytes_eq (node_name lab x.node) (get_or lab.nodes n no_node).name)) [
      | inl equal ↦ absurd (apart (one_node x.node.0 n (there x has) lt ((bytes_eq-Decides _ _).0 equal)))
      | inr other ↦ other
    ])
  ]
    where
      there : (y : Iface) → Has lab.ifaces y → y.node.0 < length lab.nodes
      there y h = All-has (λ (i : Iface). i.node.0 < length lab.nodes) lab.ifaces y is_lab.linked.nodes h

  -- the lists by number are those by name
  pub by_names : (lists : List (List ℕ)) → length lists ≡ length lab.nodes → ((n : ℕ) → n < length lab.nodes → get_or lists n [] ≡ plugs_at lab.ifaces n)
      → lists ≡ map (λ node. plugs_of lab node.name) lab.nodes
  by_names lists many each =
      ext_get_or [] lists (map (λ node. plugs_of lab node.name) lab.nodes) (many ∙ sym (length-map lab.nodes (λ node. plugs_of lab node.name))) (λ n lt.
      let inside : n < length lab.nodes = omega (arith, lt, many) in
      each n inside
      ∙ ap (map (λ (i : Iface). i.switch.0)) (filter_on (λ (i : Iface). i.node.0 == n) (is_plug_of lab (get_or lab.nodes n no_node).name) lab.ifaces (by_name n inside))
      ∙ sym (get_or-map (λ node. plugs_of lab node.name) lab.nodes n no_node [] inside))
