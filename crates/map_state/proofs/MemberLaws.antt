-- The members of classes, counted by class and type.
use Rattle.std.proofs.Common.{◌≡◌, ◌<◌, ◌≤◌, ◌+◌, ◌*◌, ◌/◌, ◌∙◌, ◌∷◌, ◌++◌, [], ℕ, List, length, take, drop, get_or, Bool, true, false, cond, eqb, ◌||◌, Option, Some, None, refl, ap, sym, subst, arith}
use Rattle.std.specs.Prelude.{nat_lt, count_by, not, ◌&&◌}
use Rattle.std.specs.Option.{option_map, IfSome}
use Rattle.std.specs.List.{list_any, position_or_len}
use Rattle.std.proofs.lemmas.Bool.{and_parts, leb-true, lt-ltb, ltb-true, eq-eqb, eqb-true, ne_eqb}
use Rattle.std.proofs.lemmas.Bool.Decides.{nat_tests}
use Rattle.std.proofs.lemmas.Nat.{div-mul-add}
use Rattle.std.proofs.lemmas.Option.{same_Some}
use Rattle.std.proofs.lemmas.List.{drop_all, drop_more}
use Rattle.std.proofs.lemmas.List.Sums.{sum_by-cons, sum_by-append}
use Rattle.std.proofs.lemmas.List.Quantifiers.{position-Some}
use Rattle.std.proofs.lemmas.Slice.Eq.{bytes_eq-Decides}
use Rattle.lab_base.specs.Names.{same_name}
use Rattle.lab_base.proofs.Members.{all_has, Has-get_or}
use Rattle.virt_topo.specs.declared.limits.TheConstants.{MAX_TYPES}
use Rattle.virt_topo.specs.declared.wiring.Asks.{Asks}
use Rattle.virt_topo.specs.declared.wiring.Asks.TheVariants.{Plain, Class as InClass}
use Rattle.virt_topo.specs.declared.wiring.VirtNode.{VirtNode}
use Rattle.virt_topo.specs.declared.wiring.Wiring.{Wiring}
use Rattle.virt_topo.specs.declared.mapping.Mapping.{Mapping}
use Rattle.virt_topo.specs.Soundness.{IsSound, limits_class}
use Rattle.virt_topo.specs.Wirings.{virt_at, no_virt}
use Rattle.virt_topo.proofs.CableLaws.{sound_limits}
use Rattle.lab_model.specs.Shapes.{Place}
use Rattle.lab_model.specs.Rules.{class_at, no_class, no_place, is_asked, is_member, place_at}
use Rattle.cost_rule.specs.Cost.{types_of}
use Rattle.cost_rule.specs.Counting.{types_from}
use Rattle.map_state.specs.declared.members.Members.{Members}
use Rattle.map_state.specs.Hosted.{kind_soft, asked_soft, placed_at}
use Rattle.map_state.specs.Members.{AreMembers, members_at, type_index, class_index, asked_index, one_at}
use Rattle.map_state.proofs.HostingLaws.{types_same, types_at, types_set}

abbrev one_if : Bool → ℕ
one_if b = cond b 1 0

-- 1 where a virtual node that asks so is a member of class c, and its type is this
abbrev pub counts : ℕ → List ℕ → Asks → List ℕ → ℕ
counts c kind asks type = one_if (is_member c asks && same_name kind type)

pub if_some : {X : Type 0} {P : X → Type 0} (o : Option X) → ((x : X) → o ≡ Some x → P x) → IfSome o P
if_some None each = tt
if_some (Some x) each = each x refl

-- WHERE THEY ARE COUNTED
pub few_types : (w : Wiring) (c : ℕ) → IsSound w → c < length w.classes → length (class_at w c).types ≤ MAX_TYPES
few_types w c sound lt =
    leb-true _ _ (and_parts _ _ (and_parts _ _ (all_has limits_class w.classes (class_at w c) (sound_limits w sound).each_class (Has-get_or w.classes c no_class lt))).1).1

record IsThere (w : Wiring) (c : ℕ) (kind : List ℕ) (n : ℕ) : Type 0 where
  pub place : ℕ
  pub at : n ≡ c * MAX_TYPES + place
  pub within : place < length (class_at w c).types
  pub named : get_or (class_at w c).types place [] ≡ kind

there : (w : Wiring) (c n : ℕ) (kind : List ℕ) → class_index w c kind ≡ Some n → IsThere w c kind n
there w c n kind is = by (type_index w c kind) refl is
  where
    by : (o : Option ℕ) → type_index w c kind ≡ o → option_map (λ (k : ℕ). c * MAX_TYPES + k) o ≡ Some n → IsThere w c kind n
    by None first is = absurd (cc is)
    by (Some k) first is =
        let found = position-Some (λ (t : List ℕ). same_name t kind) (class_at w c).types k [] first in
        record {
          place = k;
          at = sym (same_Some (c * MAX_TYPES + k) n is);
          within = found.0;
          named = (bytes_eq-Decides (get_or (class_at w c).types k []) kind).0 found.1;
        }

-- one place is that of one class and one type
same_class : (w : Wiring) (c d n : ℕ) (a b : List ℕ) → IsSound w → c < length w.classes → d < length w.classes → class_index w c a ≡ Some n → class_index w d b ≡ Some n → c ≡ d
same_class w c d n a b sound c_lt d_lt one other =
    let x = there w c n a one in
    let y = there w d n b other in
    let few_c = few_types w c sound c_lt in
    let few_d = few_types w d sound d_lt in
    let x_at = x.at in
    let y_at = y.at in
    let x_within = x.within in
    let y_within = y.within in
    omega (arith, few_c, few_d, x_at, y_at, x_within, y_within)

same_type : (w : Wiring) (c n : ℕ) (a b : List ℕ) → class_index w c a ≡ Some n → class_index w c b ≡ Some n → a ≡ b
same_type w c n a b one other =
    let x = there w c n a one in
    let y = there w c n b other in
    let x_at = x.at in
    let y_at = y.at in
    let same : x.place ≡ y.place = omega (arith, x_at, y_at) in
    sym x.named ∙ ap (λ (k : ℕ). get_or (class_at w c).types k []) same ∙ y.named

-- the class asked for, where the members of it are counted
pub record IsAskedAt (w : Wiring) (asks : Asks) (kind : List ℕ) (n : ℕ) : Type 0 where
  pub class : ℕ
  pub asked : asks ≡ InClass class
  pub within : class < length w.classes
  pub place : class_index w class kind ≡ Some n

pub asked_there : (w : Wiring) (asks : Asks) (kind : List ℕ) (n : ℕ) → asked_index w asks kind ≡ Some n → IsAskedAt w asks kind n
asked_there w (Plain t) kind n is = absurd (cc is)
asked_there w (InClass c) kind n is = by (nat_lt c (length w.classes)) refl is
  where
    by : (b : Bool) → nat_lt c (length w.classes) ≡ b → cond b (class_index w c kind) None ≡ Some n → IsAskedAt w (InClass c) kind n
    by false out is = absurd (cc is)
    by true within is = record { class = c; asked = refl; within = ltb-true c (length w.classes) within; place = is }

-- there is room for all classes
pub class_within : (w : Wiring) (c n : ℕ) (kind : List ℕ) → IsSound w → c < length w.classes → class_index w c kind ≡ Some n → n < length w.classes * MAX_TYPES
class_within w c n kind sound lt is =
    let few = few_types w c sound lt in
    let x = there w c n kind is in
    let at = x.at in
    let within = x.within in
    omega (arith, few, lt, at, within)

pub asked_within : (w : Wiring) (asks : Asks) (kind : List ℕ) (n : ℕ) → IsSound w → asked_index w asks kind ≡ Some n → n < length w.classes * MAX_TYPES
asked_within w asks kind n sound is =
    let x = asked_there w asks kind n is in
    class_within w x.class n kind sound x.within x.place

-- a virtual node is counted where the members of its class that have its type are
pub counted_at : (w : Wiring) (d n : ℕ) (kind : List ℕ) (asks : Asks) (type : List ℕ) → IsSound w → d < length w.classes → class_index w d kind ≡ Some n
    → one_at (asked_index w asks type) n ≡ counts d kind asks type
counted_at w d n kind (Plain t) type sound d_lt is = refl
counted_at w d n kind (InClass c) type sound d_lt is = by (nat_lt c (length w.classes)) (class_index w c type) refl refl (eqb c d) (same_name kind type) refl refl
  where
    by : (l : Bool) (o : Option ℕ) → nat_lt c (length w.classes) ≡ l → class_index w c type ≡ o → (b t : Bool) → eqb c d ≡ b → same_name kind type ≡ t
        → one_at (cond l o None) n ≡ one_if (b && t)
    by false o out place false t apart typed = refl
    by false o out place true t same typed =
        let c_lt : nat_lt c (length w.classes) ≡ true = lt-ltb c (length w.classes) (subst (λ (e : ℕ). e < length w.classes) (sym (eqb-true c d same)) d_lt) in
        absurd (cc (out, c_lt))
    by true None within place false t apart typed = refl
    by true None within place true false same typed = refl
    by true None within place true true same typed =
        let here : class_index w c type ≡ Some n = (λ j. class_index w (eqb-true c d same j) (sym ((bytes_eq-Decides kind type).0 typed) j)) ∙ is in
        absurd (cc (here, place))
    by true (Some k) within place false t apart typed =
        ap one_if (ne_eqb k n (λ e. absurd (cc (apart, eq-eqb c d (same_class w c d n type kind sound (ltb-true c (length w.classes) within) d_lt (place ∙ ap Some e) is)))))
    by true (Some k) within place true false same typed =
        ap one_if (ne_eqb k n (λ e.
        let here : class_index w d type ≡ Some n = (λ j. class_index w (sym (eqb-true c d same) j) type) ∙ place ∙ ap Some e in
        absurd (cc (typed, (bytes_eq-Decides kind type).1 (same_type w d n kind type is here)))))
    by true (Some k) within place true true same typed =
        let here : class_index w c type ≡ Some n = (λ j. class_index w (eqb-true c d same j) (sym ((bytes_eq-Decides kind type).0 typed) j)) ∙ is in
        ap one_if (eq-eqb k n (same_Some k n (sym place ∙ here)))

pub counts_own : (c : ℕ) (kind : List ℕ) (asks : Asks) → asks ≡ InClass c → counts c kind asks kind ≡ 1
counts_own c kind asks is = (λ j. counts c kind (is j) kind) ∙ (λ j. one_if (eq-eqb c c refl j && (bytes_eq-Decides kind kind).1 refl j))

-- HOW MANY THEY ARE
counted_cons : (kind x : List ℕ) (xs : List (List ℕ)) → count_by (same_name kind) (x ∷ xs) ≡ one_if (same_name kind x) + count_by (same_name kind) xs
counted_cons kind x xs = sum_by-cons (λ (y : List ℕ). cond (same_name kind y) 1 0) x xs

counted_within : (kind a : List ℕ) (front back : List (List ℕ))
    → count_by (same_name kind) (front ++ a ∷ back) ≡ count_by (same_name kind) front + (one_if (same_name kind a) + count_by (same_name kind) back)
counted_within kind a front back =
    let parts = sum_by-append (λ (y : List ℕ). cond (same_name kind y) 1 0) front (a ∷ back) in
    let own = counted_cons kind a back in
    omega (arith, parts, own)

-- one is there where some are counted
pub any_counted : (kind : List ℕ) (xs : List (List ℕ)) → list_any (same_name kind) xs ≡ nat_lt 0 (count_by (same_name kind) xs)
any_counted kind [] = refl
any_counted kind (x ∷ xs) = by (same_name kind x) refl (any_counted kind xs)
  where
    by : (b : Bool) → same_name kind x ≡ b → list_any (same_name kind) xs ≡ nat_lt 0 (count_by (same_name kind) xs)
        → (b || list_any (same_name kind) xs) ≡ nat_lt 0 (count_by (same_name kind) (x ∷ xs))
    by true is later =
        let own : ◌≡◌ {A = ℕ} (one_if (same_name kind x)) 1 = ap one_if is in
        let step = counted_cons kind x xs in
        sym (lt-ltb 0 (count_by (same_name kind) (x ∷ xs)) (omega (arith, own, step)))
    by false is later =
        let own : ◌≡◌ {A = ℕ} (one_if (same_name kind x)) 0 = ap one_if is in
        let step = counted_cons kind x xs in
        let same : count_by (same_name kind) xs ≡ count_by (same_name kind) (x ∷ xs) = omega (arith, own, step) in
        later ∙ ap (nat_lt 0) same

pub members_few : (c : ℕ) (kind : List ℕ) (vs : List VirtNode) (places : List Place) → count_by (same_name kind) (types_of c vs places) ≤ length vs
members_few c kind [] places = omega arith
members_few c kind (v ∷ vs) [] = omega arith
members_few c kind (v ∷ vs) (p ∷ places) = by (is_member c v.asks) (same_name kind p.1) refl (members_few c kind vs places)
  where
    by : (b t : Bool) → same_name kind p.1 ≡ t → count_by (same_name kind) (types_of c vs places) ≤ length vs
        → count_by (same_name kind) (cond b (p.1 ∷ types_of c vs places) (types_of c vs places)) ≤ length (v ∷ vs)
    by false t typed few = omega (arith, few)
    by true true typed few =
        let step = counted_cons kind p.1 (types_of c vs places) in
        let own : ◌≡◌ {A = ℕ} (one_if (same_name kind p.1)) 1 = ap one_if typed in
        omega (arith, few, step, own)
    by true false typed few =
        let step = counted_cons kind p.1 (types_of c vs places) in
        let own : ◌≡◌ {A = ℕ} (one_if (same_name kind p.1)) 0 = ap one_if typed in
        omega (arith, few, step, own)

-- a virtual node counts with its class and its type
pub own_counted : (w : Wiring) (m : Mapping) (v d : ℕ) (kind : List ℕ) → v < length w.nodes → v < length m.places
    → counts d kind (virt_at w v).asks (get_or m.places v no_place).1 ≤ members_at w m d kind
own_counted w m v d kind lt few = by (is_member d (virt_at w v).asks) refl
  where
    by : (b : Bool) → is_member d (virt_at w v).asks ≡ b → one_if (b && same_name kind (get_or m.places v no_place).1) ≤ members_at w m d kind
    by false is = omega arith
    by true is =
        let whole = ap (count_by (same_name kind)) (types_at d w.nodes m.places v lt few is) in
        let parts = counted_within kind (get_or m.places v no_place).1 (types_of d (take v w.nodes) (take v m.places)) (types_of d (drop (v + 1) w.nodes) (drop (v + 1) m.places)) in
        omega (arith, whole, parts)

-- the counts once it has another place
pub members_went : (w : Wiring) (m : Mapping) (v : ℕ) (p : Place) (d : ℕ) (kind : List ℕ) → v < length w.nodes → v < length m.places
    → members_at w (placed_at m v p) d kind + counts d kind (virt_at w v).asks (get_or m.places v no_place).1 ≡ members_at w m d kind + counts d kind (virt_at w v).asks p.1
members_went w m v p d kind lt few = by (is_member d (virt_at w v).asks) refl
  where
    by : (b : Bool) → is_member d (virt_at w v).asks ≡ b
        → members_at w (placed_at m v p) d kind + one_if (b && same_name kind (get_or m.places v no_place).1) ≡ members_at w m d kind + one_if (b && same_name kind p.1)
    by false is = ap (λ (l : List (List ℕ)). count_by (same_name kind) l + 0) (types_same d w.nodes m.places v p is)
    by true is =
        let front = types_of d (take v w.nodes) (take v m.places) in
        let back = types_of d (drop (v + 1) w.nodes) (drop (v + 1) m.places) in
        let old = ap (count_by (same_name kind)) (types_at d w.nodes m.places v lt few is) in
        let old_parts = counted_within kind (get_or m.places v no_place).1 front back in
        let new = ap (count_by (same_name kind)) (types_set d w.nodes m.places v p lt few is) in
        let new_parts = counted_within kind p.1 front back in
        omega (arith, old, old_parts, new, new_parts)

-- the counts from virtual node v on
pub members_step : (w : Wiring) (m : Mapping) (d v : ℕ) (kind : List ℕ) → v < length w.nodes → v < length m.places
    → count_by (same_name kind) (types_from w m d v) ≡ counts d kind (virt_at w v).asks (place_at m v).1 + count_by (same_name kind) (types_from w m d (v + 1))
members_step w m d v kind lt few =
    let nodes = drop_more w.nodes v no_virt lt in
    let places = drop_more m.places v no_place few in
    (λ j. count_by (same_name kind) (types_of d (nodes j) (places j))) ∙ by (is_member d (virt_at w v).asks)
  where
    later : List (List ℕ)
    later = types_from w m d (v + 1)

    by : (b : Bool) → count_by (same_name kind) (cond b ((place_at m v).1 ∷ later) later) ≡ one_if (b && same_name kind (place_at m v).1) + count_by (same_name kind) later
    by true = counted_cons kind (place_at m v).1 later
    by false = omega arith

pub members_end : (w : Wiring) (m : Mapping) (d v : ℕ) (kind : List ℕ) → length w.nodes ≤ v → count_by (same_name kind) (types_from w m d v) ≡ 0
members_end w m d v kind le = (λ j. count_by (same_name kind) (types_of d (drop_all v w.nodes le j) (drop v m.places)))

-- WHAT A CLASS COSTS LESS ONCE A MEMBER HAS ANOTHER TYPE
-- one that passes is found
found : {X : Type 0} (test : X → Bool) (xs : List X) → list_any test xs ≡ true → position_or_len test xs < length xs
found test [] any = absurd (cc any)
found test (x ∷ xs) any = by (test x) any (found test xs)
  where
    by : (b : Bool) → (b || list_any test xs) ≡ true → (list_any test xs ≡ true → position_or_len test xs < length xs)
        → cond (not b) (1 + position_or_len test xs) 0 < length (x ∷ xs)
    by true any later = omega arith
    by false any later = let rest = later any in omega (arith, rest)

-- a type that a class lists has a place
listed : (w : Wiring) (c : ℕ) (kind : List ℕ) → list_any (λ t. same_name t kind) (class_at w c).types ≡ true → class_index w c kind ≡ None → ⊥
listed w c kind any none =
    let test : List ℕ → Bool = λ t. same_name t kind in
    let types = (class_at w c).types in
    let here : class_index w c kind ≡ Some (c * MAX_TYPES + position_or_len test types) =
    ap (λ (b : Bool). option_map (λ (k : ℕ). c * MAX_TYPES + k) (cond b (Some (position_or_len test types)) None)) (lt-ltb (position_or_len test types) (length types) (found test types any)) in
    absurd (cc (here, none))

-- a virtual node that is counted nowhere has no class
pub uncounted : (w : Wiring) (m : Mapping) (asks : Asks) (kind : List ℕ) → is_asked w asks kind ≡ true → asked_index w asks kind ≡ None → asked_soft w m asks kind ≡ 0
uncounted w m (Plain t) kind asked none = refl
uncounted w m (InClass c) kind asked none = by (nat_lt c (length w.classes)) none
  where
    by : (b : Bool) → cond b (class_index w c kind) None ≡ None → cond b (kind_soft w m c kind) 0 ≡ 0
    by false none = refl
    by true none = absurd (listed w c kind asked none)

-- the class of a place
class_of : (w : Wiring) (c n : ℕ) (kind : List ℕ) → IsSound w → c < length w.classes → class_index w c kind ≡ Some n → n / MAX_TYPES ≡ c
class_of w c n kind sound lt is =
    let few = few_types w c sound lt in
    let x = there w c n kind is in
    let within = x.within in
    ap (λ (k : ℕ). k / MAX_TYPES) x.at ∙ div-mul-add c MAX_TYPES x.place (omega (arith, few, within))

one_before : (k n : ℕ) → k + 1 ≡ n → not (nat_lt 0 k) ≡ eqb n 1
one_before k n is = grind (arith, nat_tests)

-- no member has the type any more, where one had it
soft_left : (w : Wiring) (m : Mapping) (v n : ℕ) (p : Place) (x : IsAskedAt w (virt_at w v).asks (place_at m v).1 n) → v < length w.nodes → v < length m.places
    → same_name (place_at m v).1 p.1 ≡ false
    → asked_soft w (placed_at m v p) (virt_at w v).asks (place_at m v).1
    ≡ cond (nat_lt (class_at w x.class).weight 1000 && eqb (members_at w m x.class (place_at m v).1) 1) (class_at w x.class).weight 0
soft_left w m v n p x lt few other =
    let kind = (place_at m v).1 in
    let asks = (virt_at w v).asks in
    let weight = (class_at w x.class).weight in
    let went = members_went w m v p x.class kind lt few in
    let own = counts_own x.class kind asks x.asked in
    let gone : counts x.class kind asks p.1 ≡ 0 = (λ j. counts x.class kind (x.asked j) p.1) ∙ (λ j. one_if (eq-eqb x.class x.class refl j && other j)) in
    let none : not (list_any (same_name kind) (types_of x.class w.nodes (placed_at m v p).places)) ≡ eqb (members_at w m x.class kind) 1 =
    ap not (any_counted kind (types_of x.class w.nodes (placed_at m v p).places)) ∙ one_before _ _ (omega (arith, went, own, gone)) in
    (λ j. asked_soft w (placed_at m v p) (x.asked j) kind) ∙ ap (λ (b : Bool). cond b (kind_soft w (placed_at m v p) x.class kind) 0) (lt-ltb x.class (length w.classes) x.within)
    ∙ ap (λ (b : Bool). cond (nat_lt weight 1000 && b) weight 0) none

-- virtual node v is counted at place n
pub record IsCounted (w : Wiring) (m : Mapping) (x : Members) (v n : ℕ) : Type 0 where
  pub class : n / MAX_TYPES < length w.classes
  pub within : n < length x.counts.items
  pub left : (p : Place) → same_name (place_at m v).1 p.1 ≡ false → asked_soft w (placed_at m v p) (virt_at w v).asks (place_at m v).1
      ≡ cond (nat_lt (class_at w (n / MAX_TYPES)).weight 1000 && eqb (get_or x.counts.items n 0) 1) (class_at w (n / MAX_TYPES)).weight 0

pub counted : (w : Wiring) (m : Mapping) (x : Members) (v n : ℕ) → IsSound w → AreMembers w m x → v < length w.nodes → length m.places ≡ length w.nodes → get_or x.own.items v None ≡ Some n
    → IsCounted w m x v n
counted w m x v n sound are lt all is =
    let kind = (place_at m v).1 in
    let here = asked_there w (virt_at w v).asks kind n (sym (are.own v lt) ∙ is) in
    let class = class_of w here.class n kind sound here.within here.place in
    let count = are.each here.class n kind here.within here.place in
    let room = are.room in
    let within = class_within w here.class n kind sound here.within here.place in
    let c_lt = here.within in
    record {
      class = omega (arith, class, c_lt);
      within = omega (arith, room, within);
      left = λ p other. soft_left w m v n p here lt (omega (arith, lt, all)) other
          ∙ (λ j. cond (nat_lt (class_at w (sym class j)).weight 1000 && eqb (sym count j) 1) (class_at w (sym class j)).weight 0);
    }
