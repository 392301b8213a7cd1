-- The interface rule, node by node.
use Rattle.std.proofs.Common.{◌≡◌, ◌≢◌, ◌<◌, ◌∙◌, ◌∷◌, ◌++◌, [], ℕ, suc, List, length, get_or, filter, Bool, true, false, cond, eqb, Some, All, refl, ap, sym, subst, arith, append_assoc}
use Rattle.std.specs.Option.{option_map}
use Rattle.std.proofs.lemmas.Bool.{eq-eqb, eqb-true, ne_eqb}
use Rattle.std.proofs.lemmas.List.{append-nil}
use Rattle.std.proofs.lemmas.List.Elements.{All-filter}
use Rattle.std.proofs.lemmas.Option.{option_and_then_some}
use Rattle.lab_base.specs.declared.ids.IfaceId.{IfaceId}
use Rattle.lab_base.specs.declared.ids.NodeId.{NodeId}
use Rattle.phys_lab.specs.Labs.{Lab}
use Rattle.virt_topo.specs.declared.loads.Load.{Load}
use Rattle.lab_model.specs.Shapes.{Place}
use Rattle.lab_model.specs.Uses.{no_iface, iface_at}
use Rattle.lab_model.specs.Rules.{no_place, Laid, loads_on}
use Rattle.node_maps.specs.declared.ends.End.{End}
use Rattle.node_maps.specs.NodeMaps.{load_of, may_take, first_iface, with_plug, laid_from, plugs_in, plugs_from}
use Rattle.node_maps.proofs.PlugLaws.{adds, laying, step_is}
use Rattle.node_maps.proofs.KeptPlugs.{on_push, first_same, may_node}
use Rattle.map_state.specs.Nodes.{is_on, plugs_where}

-- the same is on each interface of node n in both
pub record AgreeOn (lab : Lab) (n : ℕ) (had own : List Laid) : Type 0 where
  pub each : (k : ℕ) → k < length lab.ifaces → (get_or lab.ifaces k no_iface).node.0 ≡ n → loads_on k had ≡ loads_on k own

agree_first : (lab : Lab) (node : NodeId) (load : Load) (had own : List Laid) → AgreeOn lab node.0 had own → first_iface 0 lab.ifaces had node load ≡ first_iface 0 lab.ifaces own node load
agree_first lab node load had own agree =
    first_same 0 lab.ifaces had own node load (λ k m at lt on.
    let same : m ≡ k = omega (arith, at) in
    subst (λ (j : ℕ). loads_on j had ≡ loads_on j own) (sym same) (agree.each k lt on))

-- both get one more
agree_both : (lab : Lab) (n : ℕ) (had own : List Laid) (x : Load) (i : IfaceId) → AgreeOn lab n had own → AgreeOn lab n (had ++ (x, i) ∷ []) (own ++ (x, i) ∷ [])
agree_both lab n had own x i agree = record {
  each = λ k lt on. on_push k had x i ∙ ap (λ (l : List Load). l ++ cond (eqb i.0 k) (x ∷ []) []) (agree.each k lt on) ∙ sym (on_push k own x i);
}

-- one gets a load on an interface of another node
agree_one : (lab : Lab) (n : ℕ) (had own : List Laid) (x : Load) (i : IfaceId) → AgreeOn lab n had own → (iface_at lab i).node.0 ≢ n → AgreeOn lab n (had ++ (x, i) ∷ []) own
agree_one lab n had own x i agree apart = record {
  each = λ k lt on.
      on_push k had x i
      ∙ ap (λ (b : Bool). loads_on k had ++ cond b (x ∷ []) []) (ne_eqb i.0 k (λ e. apart (ap (λ (j : ℕ). (get_or lab.ifaces j no_iface).node.0) e ∙ on)))
      ∙ append-nil (loads_on k had) ∙ agree.each k lt on;
}

-- ends with these plugs
abbrev pub laid_of : List End → List IfaceId → List Laid
laid_of [] plugs = []
laid_of (e ∷ es) [] = []
laid_of (e ∷ es) (i ∷ plugs) = (load_of e, i) ∷ laid_of es plugs

-- the interface that an end gets is of its node
on_its_node : (lab : Lab) (places : List Place) (e : End) (had : List Laid) (i : IfaceId) → may_take i.0 (iface_at lab i) had (get_or places e.node no_place).0 (load_of e) ≡ true
    → (iface_at lab i).node.0 ≡ (get_or places e.node no_place).0.0
on_its_node lab places e had i may = may_node lab i had (get_or places e.node no_place).0 (load_of e) may

record Gets (lab : Lab) (places : List Place) (e : End) (had : List Laid) (i : IfaceId) : Type 0 where
  first : first_iface 0 lab.ifaces had (get_or places e.node no_place).0 (load_of e) ≡ Some i
  may : may_take i.0 (iface_at lab i) had (get_or places e.node no_place).0 (load_of e) ≡ true

-- WHAT THE RULE GIVES, and what it gives the ends of one node alone
pub record Parted (lab : Lab) (places : List Place) (es : List End) (had q : List Laid) : Type 0 where
  pub more : List IfaceId
  pub is : q ≡ had ++ laid_of es more
  pub count : length more ≡ length es
  pub each : (n : ℕ) (own : List Laid) → AgreeOn lab n had own
      → laid_from lab places (filter (is_on places n) es) own ≡ Some (own ++ laid_of (filter (is_on places n) es) (plugs_where (is_on places n) es more))

cond_list : {X : Type 0} (b : Bool) (x y : X) (P : X → Type 0) → (b ≡ true → P x) → (b ≡ false → P y) → P (cond b x y)
cond_list true x y P holds fails = holds refl
cond_list false x y P holds fails = fails refl

append_none : (xs : List Laid) → xs ++ [] ≡ xs
append_none [] = refl
append_none (x ∷ xs) = ap (λ l. x ∷ l) (append_none xs)

pub parted : (lab : Lab) (places : List Place) (es : List End) (had q : List Laid) → All (λ (e : End). e.node < length places) es
    → laid_from lab places es had ≡ Some q → Parted lab places es had q
parted lab places [] had q placed eq =
    let same : had ≡ q = cc eq in
    record { more = []; is = sym same ∙ sym (append_none had); count = refl; each = λ n own agree. ap Some (sym (append_none own)) }
parted lab places (e ∷ es) had q placed eq =
    option_and_then_some (λ h. laid_from lab places es h) (with_plug lab places e had) q eq
    (λ h first rest.
    let here : e.node < length places = placed 0 e (omega arith) in
    let later : All (λ (d : End). d.node < length places) es = λ k d lt. placed (suc k) d (omega (arith, lt)) in
    let a = adds lab places e had h here first in
    let i = a.iface in
    let p = parted lab places es (had ++ (load_of e, i) ∷ []) q later (subst (λ l. laid_from lab places es l ≡ Some q) a.is rest) in
    record {
      more = i ∷ p.more;
      is = p.is ∙ append_assoc had ((load_of e, i) ∷ []) (laid_of es p.more);
      count = ap (λ (k : ℕ). suc k) p.count;
      each = λ n own agree. each_node lab places e es had q i p here (record { first = a.first; may = a.may }) n own agree (is_on places n e) refl;
    })
  where
    each_node : (lab : Lab) (places : List Place) (e : End) (es : List End) (had q : List Laid) (i : IfaceId) (p : Parted lab places es (had ++ (load_of e, i) ∷ []) q) → e.node < length places
        → (a : Gets lab places e had i) → (n : ℕ) (own : List Laid) → AgreeOn lab n had own → (b : Bool) → is_on places n e ≡ b
        → laid_from lab places (cond b (e ∷ filter (is_on places n) es) (filter (is_on places n) es)) own
        ≡ Some (own ++ laid_of (cond b (e ∷ filter (is_on places n) es) (filter (is_on places n) es)) (cond b (i ∷ plugs_where (is_on places n) es p.more) (plugs_where (is_on places n) es p.more)))
    each_node lab places e es had q i p here a n own agree true on =
        let node : (get_or places e.node no_place).0.0 ≡ n = eqb-true (get_or places e.node no_place).0.0 n on in
        let first = sym (agree_first lab (get_or places e.node no_place).0 (load_of e) had own (subst (λ (k : ℕ). AgreeOn lab k had own) (sym node) agree)) ∙ a.first in
        step_is lab places e (filter (is_on places n) es) own i here first
        ∙ p.each n (own ++ (load_of e, i) ∷ []) (agree_both lab n had own (load_of e) i agree)
        ∙ ap Some (append_assoc own ((load_of e, i) ∷ []) (laid_of (filter (is_on places n) es) (plugs_where (is_on places n) es p.more)))
    each_node lab places e es had q i p here a n own agree false off =
        p.each n own (agree_one lab n had own (load_of e) i agree (λ is. absurd (let both : true ≡ false = sym (eq-eqb (get_or places e.node no_place).0.0 n (sym (on_its_node lab places e had i a.may) ∙ is)) ∙ off in cc both)))

-- the first load that the ends of the node put
head_is : (own rest other : List Laid) (i j : Laid) → own ++ i ∷ rest ≡ own ++ j ∷ other → i ≡ j
head_is [] rest other i j eq = cc eq
head_is (x ∷ own) rest other i j eq = head_is own rest other i j (tail_is x (own ++ i ∷ rest) (own ++ j ∷ other) eq)
  where
    tail_is : (y : Laid) (xs ys : List Laid) → y ∷ xs ≡ y ∷ ys → xs ≡ ys
    tail_is y xs ys e = cc e

abbrev one_more : (ℕ → List Laid) → ℕ → Laid → ℕ → List Laid
one_more own m x n = cond (eqb m n) (own n ++ x ∷ []) (own n)

all_filter : (lab : Lab) (places : List Place) (n : ℕ) (es : List End) → All (λ (e : End). e.node < length places) es → All (λ (e : End). e.node < length places) (filter (is_on places n) es)
all_filter lab places n es all = All-filter (is_on places n) (λ (e : End). e.node < length places) es all

agree_next : (lab : Lab) (places : List Place) (had : List Laid) (own : ℕ → List Laid) (m : ℕ) (x : Load) (i : IfaceId) (n : ℕ) → AgreeOn lab n had (own n) → (iface_at lab i).node.0 ≡ m
    → AgreeOn lab n (had ++ (x, i) ∷ []) (one_more own m (x, i) n)
agree_next lab places had own m x i n agree of = cond_list (eqb m n) (own n ++ (x, i) ∷ []) (own n) (λ l. AgreeOn lab n (had ++ (x, i) ∷ []) l)
    (λ here. agree_both lab n had (own n) x i agree)
    (λ apart. agree_one lab n had (own n) x i agree (λ is. absurd (let both : true ≡ false = sym (eq-eqb m n (sym of ∙ is)) ∙ apart in cc both)))

abbrev gives_node : Lab → List Place → List End → List IfaceId → ℕ → List Laid → Type 0
gives_node lab places es more n own = laid_from lab places (filter (is_on places n) es) own ≡ Some (own ++ laid_of (filter (is_on places n) es) (plugs_where (is_on places n) es more))

each_next : (lab : Lab) (places : List Place) (e : End) (es : List End) (more : List IfaceId) (own : ℕ → List Laid) (m : ℕ) (i : IfaceId) (n : ℕ) → m ≡ (get_or places e.node no_place).0.0
    → e.node < length places → first_iface 0 lab.ifaces (own m) (get_or places e.node no_place).0 (load_of e) ≡ Some i
    → gives_node lab places (e ∷ es) (i ∷ more) n (own n) → gives_node lab places es more n (one_more own m (load_of e, i) n)
each_next lab places e es more own m i n is here got each = by (eqb m n) refl
  where
    by : (b : Bool) → eqb m n ≡ b → gives_node lab places es more n (cond b (own n ++ (load_of e, i) ∷ []) (own n))
    by true same_node =
        let on : is_on places n e ≡ true = ap (λ (k : ℕ). eqb k n) (sym is) ∙ same_node in
        let same : m ≡ n = eqb-true m n same_node in
        let first = ap (λ (k : ℕ). first_iface 0 lab.ifaces (own k) (get_or places e.node no_place).0 (load_of e)) (sym same) ∙ got in
        sym (step_is lab places e (filter (is_on places n) es) (own n) i here first)
        ∙ (λ j. laid_from lab places (cond (sym on j) (e ∷ filter (is_on places n) es) (filter (is_on places n) es)) (own n)) ∙ each
        ∙ (λ j. Some (own n ++ laid_of (cond (on j) (e ∷ filter (is_on places n) es) (filter (is_on places n) es)) (cond (on j) (i ∷ plugs_where (is_on places n) es more) (plugs_where (is_on places n) es more))))
        ∙ ap Some (sym (append_assoc (own n) ((load_of e, i) ∷ []) (laid_of (filter (is_on places n) es) (plugs_where (is_on places n) es more))))
    by false apart =
        let off : is_on places n e ≡ false = ap (λ (k : ℕ). eqb k n) (sym is) ∙ apart in
        (λ j. laid_from lab places (cond (sym off j) (e ∷ filter (is_on places n) es) (filter (is_on places n) es)) (own n)) ∙ each
        ∙ (λ j. Some (own n ++ laid_of (cond (off j) (e ∷ filter (is_on places n) es) (filter (is_on places n) es)) (cond (off j) (i ∷ plugs_where (is_on places n) es more) (plugs_where (is_on places n) es more))))

-- AND BACK: where each node's ends get their plugs by the rule for that node alone, all get theirs by the rule
pub together : (lab : Lab) (places : List Place) (es : List End) (had : List Laid) (more : List IfaceId) (own : ℕ → List Laid) → All (λ (e : End). e.node < length places) es → length more ≡ length es
    → ((n : ℕ) → AgreeOn lab n had (own n)) → ((n : ℕ) → gives_node lab places es more n (own n))
    → laid_from lab places es had ≡ Some (had ++ laid_of es more)
together lab places [] had [] own placed count agree each = ap Some (sym (append_none had))
together lab places [] had (i ∷ more) own placed count agree each = absurd (omega (arith, count))
together lab places (e ∷ es) had [] own placed count agree each = absurd (omega (arith, count))
together lab places (e ∷ es) had (i ∷ more) own placed count agree each =
    let node = (get_or places e.node no_place).0 in
    let m = node.0 in
    let x = load_of e in
    let here : e.node < length places = placed 0 e (omega arith) in
    let later : All (λ (d : End). d.node < length places) es = λ k d lt. placed (suc k) d (omega (arith, lt)) in
    let on : is_on places m e ≡ true = eq-eqb m m refl in
    let es_m = filter (is_on places m) es in
    let more_m = plugs_where (is_on places m) es more in
    let its : laid_from lab places (e ∷ es_m) (own m) ≡ Some (own m ++ (x, i) ∷ laid_of es_m more_m) =
    (λ j. laid_from lab places (cond (sym on j) (e ∷ es_m) es_m) (own m)) ∙ each m ∙ (λ j. Some (own m ++ laid_of (cond (on j) (e ∷ es_m) es_m) (cond (on j) (i ∷ more_m) more_m))) in
    option_and_then_some (λ h. laid_from lab places es_m h) (with_plug lab places e (own m)) (own m ++ (x, i) ∷ laid_of es_m more_m) its
    (λ h first rest.
    let a = adds lab places e (own m) h here first in
    let p = parted lab places es_m h (own m ++ (x, i) ∷ laid_of es_m more_m) (all_filter lab places m es later) rest in
    let same : i ≡ a.iface = ap (λ (y : Laid). y.1) (head_is (own m) (laid_of es_m more_m) (laid_of es_m p.more) (x, i) (x, a.iface) (p.is ∙ ap (λ l. l ++ laid_of es_m p.more) a.is ∙ append_assoc (own m) ((x, a.iface) ∷ []) (laid_of es_m p.more))) in
    let got : first_iface 0 lab.ifaces (own m) node x ≡ Some i = a.first ∙ ap Some (sym same) in
    let may : may_take i.0 (iface_at lab i) (own m) node x ≡ true = subst (λ y. may_take y.0 (iface_at lab y) (own m) node x ≡ true) (sym same) a.may in
    let of : (iface_at lab i).node.0 ≡ m = may_node lab i (own m) node x may in
    step_is lab places e es had i here (agree_first lab node x had (own m) (agree m) ∙ got)
    ∙ together lab places es (had ++ (x, i) ∷ []) more (one_more own m (x, i)) later (omega (arith, count))
    (λ n. agree_next lab places had own m x i n (agree n) of)
    (λ n. each_next lab places e es more own m i n refl here got (each n))
    ∙ ap Some (append_assoc had ((x, i) ∷ []) (laid_of es more)))

-- THE SAME OF PLUGS ALONE
plugs_laid : (es : List End) (plugs : List IfaceId) → length plugs ≡ length es → plugs_in (laid_of es plugs) ≡ plugs
plugs_laid [] [] same = refl
plugs_laid [] (i ∷ plugs) same = absurd (omega (arith, same))
plugs_laid (e ∷ es) [] same = absurd (omega (arith, same))
plugs_laid (e ∷ es) (i ∷ plugs) same = ap (λ (l : List IfaceId). i ∷ l) (plugs_laid es plugs (omega (arith, same)))

where_count : (p : End → Bool) (es : List End) (plugs : List IfaceId) → length plugs ≡ length es → length (plugs_where p es plugs) ≡ length (filter p es)
where_count p [] [] same = refl
where_count p [] (i ∷ plugs) same = absurd (omega (arith, same))
where_count p (e ∷ es) [] same = absurd (omega (arith, same))
where_count p (e ∷ es) (i ∷ plugs) same = by (p e) (where_count p es plugs (omega (arith, same)))
  where
    by : (b : Bool) → length (plugs_where p es plugs) ≡ length (filter p es) → length (cond b (i ∷ plugs_where p es plugs) (plugs_where p es plugs)) ≡ length (cond b (e ∷ filter p es) (filter p es))
    by true is = ap (λ (k : ℕ). suc k) is
    by false is = is

-- the plugs of the rule come from these loads
pub record IsLaying (lab : Lab) (places : List Place) (es : List End) (plugs : List IfaceId) : Type 0 where
  pub from : laid_from lab places es [] ≡ Some (laid_of es plugs)
  pub count : length plugs ≡ length es

pub laying_is : (lab : Lab) (places : List Place) (es : List End) (plugs : List IfaceId) → All (λ (e : End). e.node < length places) es → plugs_from lab places es ≡ Some plugs → IsLaying lab places es plugs
laying_is lab places es plugs placed eq =
    let lay = laying lab places es plugs eq in
    let p = parted lab places es [] lay.laid placed lay.from in
    let same : p.more ≡ plugs = sym (plugs_laid es p.more p.count) ∙ ap (λ l. plugs_in l) (sym p.is) ∙ lay.is in
    record { from = lay.from ∙ ap Some p.is ∙ ap (λ (l : List IfaceId). Some (laid_of es l)) same; count = ap (λ (l : List IfaceId). length l) (sym same) ∙ p.count }

pub plugs_are : (lab : Lab) (places : List Place) (es : List End) (plugs : List IfaceId) → length plugs ≡ length es → laid_from lab places es [] ≡ Some (laid_of es plugs) → plugs_from lab places es ≡ Some plugs
plugs_are lab places es plugs count from = ap (option_map (λ laid. plugs_in laid)) from ∙ ap Some (plugs_laid es plugs count)

pub agree_self : (lab : Lab) (n : ℕ) (had : List Laid) → AgreeOn lab n had had
agree_self lab n had = record { each = λ k lt on. refl }

-- the plugs of one node alone, where the rule serves all
pub own_plugs : (lab : Lab) (places : List Place) (es : List End) (plugs : List IfaceId) (n : ℕ) → All (λ (e : End). e.node < length places) es → plugs_from lab places es ≡ Some plugs
    → plugs_from lab places (filter (is_on places n) es) ≡ Some (plugs_where (is_on places n) es plugs)
own_plugs lab places es plugs n placed eq =
    let lay = laying lab places es plugs eq in
    let p = parted lab places es [] lay.laid placed lay.from in
    let same : p.more ≡ plugs = sym (plugs_laid es p.more p.count) ∙ ap (λ l. plugs_in l) (sym p.is) ∙ lay.is in
    plugs_are lab places (filter (is_on places n) es) (plugs_where (is_on places n) es p.more) (where_count (is_on places n) es p.more p.count) (p.each n [] (agree_self lab n []))
    ∙ ap (λ (l : List IfaceId). Some (plugs_where (is_on places n) es l)) same

-- the plugs of all, where each node's ends get theirs
pub all_plugs : (lab : Lab) (places : List Place) (es : List End) (plugs : List IfaceId) → All (λ (e : End). e.node < length places) es → length plugs ≡ length es
    → ((n : ℕ) → plugs_from lab places (filter (is_on places n) es) ≡ Some (plugs_where (is_on places n) es plugs)) → plugs_from lab places es ≡ Some plugs
all_plugs lab places es plugs placed count each =
    plugs_are lab places es plugs count (together lab places es [] plugs (λ n. []) placed count (λ n. agree_self lab n [])
    (λ n. (laying_is lab places (filter (is_on places n) es) (plugs_where (is_on places n) es plugs) (all_filter lab places n es placed) (each n)).from))
