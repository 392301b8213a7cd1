-- Types of a class's members: what a step leaves as it was.
use Rattle.std.proofs.Common.{◌≡◌, ◌≢◌, ◌<◌, ◌∙◌, ◌∷◌, [], inl, inr, ℕ, zero, suc, List, length, get_or, Bool, true, false, cond, nat_lt, ◌&&◌, ◌||◌, not, refl, ap, sym, subst, arith, get_or-set_same, get_or-set_other}
use Rattle.std.specs.List.{list_any}
use Rattle.std.proofs.Math.ListN.{set}
use Rattle.std.proofs.lemmas.Bool.{cases_eq, eq-eqb}
use Rattle.std.proofs.lemmas.List.{length-set, set-get_or}
use Rattle.std.proofs.Math.Bool.{or-true}
use Rattle.lab_base.specs.Names.{same_name}
use Rattle.lab_base.proofs.Bytes.{bytes_self, bytes_same}
use Rattle.lab_base.proofs.Tests.{same_tests}
use Rattle.virt_topo.specs.declared.wiring.Asks.{Asks}
use Rattle.virt_topo.specs.declared.wiring.Asks.TheVariants.{Plain, Class as InClass}
use Rattle.virt_topo.specs.declared.wiring.VirtNode.{VirtNode}
use Rattle.virt_topo.specs.declared.wiring.Wiring.{Wiring}
use Rattle.virt_topo.specs.declared.mapping.Mapping.{Mapping}
use Rattle.virt_topo.specs.Wirings.{no_virt, virt_at}
use Rattle.lab_model.specs.Shapes.{Place}
use Rattle.lab_model.specs.Rules.{class_at, is_member, no_place, place_at}
use Rattle.cost_rule.specs.Cost.{types_of}
use Rattle.map_state.specs.Hosted.{asked_soft, placed_at}
use Rattle.map_anneal.specs.Steps.{IsStaying, HasTwo, KeepsTypes}

-- a member of this type
pub record IsTyped (c : ℕ) (type : List ℕ) (vs : List VirtNode) (places : List Place) : Type 0 where
  pub virt : ℕ
  pub within : virt < length vs
  pub placed : virt < length places
  pub member : is_member c (get_or vs virt no_virt).asks ≡ true
  pub typed : (get_or places virt no_place).1 ≡ type

pub any_from : (c : ℕ) (type : List ℕ) (vs : List VirtNode) (places : List Place) (u : ℕ) → u < length vs → u < length places → is_member c (get_or vs u no_virt).asks ≡ true
    → (get_or places u no_place).1 ≡ type → list_any (same_name type) (types_of c vs places) ≡ true
any_from c type [] places u lt less member typed = absurd (omega (arith, lt))
any_from c type (v ∷ vs) [] u lt less member typed = absurd (omega (arith, less))
any_from c type (v ∷ vs) (p ∷ places) zero lt less member typed =
    ap (λ (b : Bool). list_any (same_name type) (cond b (p.1 ∷ types_of c vs places) (types_of c vs places))) member
    ∙ ap (λ (b : Bool). b || list_any (same_name type) (types_of c vs places)) (subst (λ (t : List ℕ). same_name type t ≡ true) (sym typed) (bytes_self type))
any_from c type (v ∷ vs) (p ∷ places) (suc u) lt less member typed =
    later (is_member c v.asks) (any_from c type vs places u (omega (arith, lt)) (omega (arith, less)) member typed)
  where
    later : (b : Bool) → list_any (same_name type) (types_of c vs places) ≡ true → list_any (same_name type) (cond b (p.1 ∷ types_of c vs places) (types_of c vs places)) ≡ true
    later true is = ap (λ (d : Bool). same_name type p.1 || d) is ∙ or-true (same_name type p.1)
    later false is = is

pub any_to : (c : ℕ) (type : List ℕ) (vs : List VirtNode) (places : List Place) → list_any (same_name type) (types_of c vs places) ≡ true → IsTyped c type vs places
any_to c type [] places is = absurd (cc is)
any_to c type (v ∷ vs) [] is = absurd (cc is)
any_to c type (v ∷ vs) (p ∷ places) is = by (any_to c type vs places) (is_member c v.asks) refl is
  where
    next : IsTyped c type vs places → IsTyped c type (v ∷ vs) (p ∷ places)
    next x = record { virt = suc x.virt; within = (let lt = x.within in omega (arith, lt)); placed = (let lt = x.placed in omega (arith, lt)); member = x.member; typed = x.typed }

    here : (list_any (same_name type) (types_of c vs places) ≡ true → IsTyped c type vs places) → (b : Bool) → same_name type p.1 ≡ b → is_member c v.asks ≡ true → (b || list_any (same_name type) (types_of c vs places)) ≡ true
        → IsTyped c type (v ∷ vs) (p ∷ places)
    here rest true same member any = record { virt = 0; within = omega arith; placed = omega arith; member = member; typed = sym (bytes_same type p.1 same) }
    here rest false same member any = next (rest any)

    by : (list_any (same_name type) (types_of c vs places) ≡ true → IsTyped c type vs places) → (b : Bool) → is_member c v.asks ≡ b
        → list_any (same_name type) (cond b (p.1 ∷ types_of c vs places) (types_of c vs places)) ≡ true → IsTyped c type (v ∷ vs) (p ∷ places)
    by rest true member any = here rest (same_name type p.1) refl member any
    by rest false member any = next (rest any)

-- the other way round
staying_back : (w : Wiring) (x y : Mapping) (c : ℕ) (type : List ℕ) (u : ℕ) → IsStaying w x y c type u → IsStaying w y x c type u
staying_back w x y c type u is = record { within = is.within; member = is.member; stays = sym is.stays; typed = ap (λ (p : Place). p.1) (sym is.stays) ∙ is.typed }

two_back : (w : Wiring) (x y : Mapping) (c : ℕ) (type : List ℕ) → HasTwo w x y c type → HasTwo w y x c type
two_back w x y c type is = record { one = is.one; other = is.other; apart = is.apart; first = staying_back w x y c type is.one is.first; second = staying_back w x y c type is.other is.second }

keeps_back : (w : Wiring) (x y : Mapping) (c : ℕ) → KeepsTypes w x y c → KeepsTypes w y x c
keeps_back w x y c keeps u lt member = elim (keeps u lt member) [
  | inl same ↦ inl (sym same)
  | inr two ↦ inr (two_back w x y c (place_at y u).1 two.1, two_back w x y c (place_at x u).1 two.0)
]

-- one of the class's types is one after the step too, where virtual node v is at a place p in both
still_typed : (w : Wiring) (x y : Mapping) (c v : ℕ) (p : Place) (type : List ℕ) → length x.places ≡ length w.nodes → length y.places ≡ length w.nodes → v < length w.nodes → KeepsTypes w x y c
    → list_any (same_name type) (types_of c w.nodes (set x.places v p)) ≡ true → list_any (same_name type) (types_of c w.nodes (set y.places v p)) ≡ true
still_typed w x y c v p type x_all y_all v_in keeps is =
    let was = any_to c type w.nodes (set x.places v p) is in
    elim (cases_eq was.virt v) [
      | inl same ↦ (
          let typed : p.1 ≡ type = ap (λ (q : Place). q.1) (sym (get_or-set_same x.places v p no_place (omega (arith, v_in, x_all)))) ∙ ap (λ (k : ℕ). (get_or (set x.places v p) k no_place).1) (sym same) ∙ was.typed in
          let member : is_member c (virt_at w v).asks ≡ true = ap (λ (k : ℕ). is_member c (virt_at w k).asks) (sym same) ∙ was.member in
          any_from c type w.nodes (set y.places v p) v v_in (omega (arith, v_in, y_all, length-set y.places v p)) member
          (ap (λ (q : Place). q.1) (get_or-set_same y.places v p no_place (omega (arith, v_in, y_all))) ∙ typed))
      | inr apart ↦ (
          let typed : (place_at x was.virt).1 ≡ type = ap (λ (q : Place). q.1) (sym (get_or-set_other x.places v was.virt p no_place apart)) ∙ was.typed in
          elim (keeps was.virt was.within was.member) [
            | inl same ↦ there was.virt was.within was.member apart (sym same ∙ typed)
            | inr two ↦ (
                let one = two.0 in
                elim (cases_eq one.one v) [
                  | inl is_v ↦ served one.other one.second typed (λ e. one.apart (is_v ∙ sym e))
                  | inr not_v ↦ served one.one one.first typed not_v
                ])
          ])
    ]
  where
    there : (u : ℕ) → u < length w.nodes → is_member c (virt_at w u).asks ≡ true → u ≢ v → (place_at y u).1 ≡ type → list_any (same_name type) (types_of c w.nodes (set y.places v p)) ≡ true
    there u lt member apart typed =
        any_from c type w.nodes (set y.places v p) u lt (omega (arith, lt, y_all, length-set y.places v p)) member
        (ap (λ (q : Place). q.1) (get_or-set_other y.places v u p no_place apart) ∙ typed)

    served : {t : List ℕ} (u : ℕ) → IsStaying w x y c t u → t ≡ type → u ≢ v → list_any (same_name type) (types_of c w.nodes (set y.places v p)) ≡ true
    served u so same apart = there u so.within so.member apart (ap (λ (q : Place). q.1) (sym so.stays) ∙ so.typed ∙ same)

-- WHAT ONE MORE MEMBER OF A TYPE WOULD COST is not changed by the step
pub types_alike : (w : Wiring) (x y : Mapping) (c v : ℕ) (p : Place) (type : List ℕ) → length x.places ≡ length w.nodes → length y.places ≡ length w.nodes → v < length w.nodes → KeepsTypes w x y c
    → list_any (same_name type) (types_of c w.nodes (set x.places v p)) ≡ list_any (same_name type) (types_of c w.nodes (set y.places v p))
types_alike w x y c v p type x_all y_all v_in keeps =
    same_tests (list_any (same_name type) (types_of c w.nodes (set x.places v p))) (list_any (same_name type) (types_of c w.nodes (set y.places v p)))
    (still_typed w x y c v p type x_all y_all v_in keeps) (still_typed w y x c v p type y_all x_all v_in (keeps_back w x y c keeps))

pub soft_alike : (w : Wiring) (x y : Mapping) (v : ℕ) (p : Place) (asks : Asks) (type : List ℕ) → length x.places ≡ length w.nodes → length y.places ≡ length w.nodes → v < length w.nodes
    → ((c : ℕ) → is_member c asks ≡ true → KeepsTypes w x y c) → asked_soft w (placed_at x v p) asks type ≡ asked_soft w (placed_at y v p) asks type
soft_alike w x y v p (Plain t) type x_all y_all v_in keeps = refl
soft_alike w x y v p (InClass c) type x_all y_all v_in keeps =
    ap (λ (b : Bool). cond (nat_lt c (length w.classes)) (cond (nat_lt (class_at w c).weight 1000 && not b) (class_at w c).weight 0) 0)
    (types_alike w x y c v p type x_all y_all v_in (keeps c (same c)))
  where
    same : (k : ℕ) → is_member k (InClass k) ≡ true
    same k = eq-eqb k k refl

-- the same where virtual node v is at one place in both
pub soft_now : (w : Wiring) (x y : Mapping) (v : ℕ) (asks : Asks) (type : List ℕ) → length x.places ≡ length w.nodes → length y.places ≡ length w.nodes → v < length w.nodes → place_at x v ≡ place_at y v
    → ((c : ℕ) → is_member c asks ≡ true → KeepsTypes w x y c) → asked_soft w x asks type ≡ asked_soft w y asks type
soft_now w x y v asks type x_all y_all v_in same keeps =
    sym (ap (λ (l : List Place). asked_soft w (record { places = l; plugs = x.plugs }) asks type) (set-get_or x.places v no_place))
    ∙ soft_alike w x y v (place_at x v) asks type x_all y_all v_in keeps
    ∙ ap (λ (l : List Place). asked_soft w (record { places = l; plugs = y.plugs }) asks type) (ap (λ (q : Place). set y.places v q) same ∙ set-get_or y.places v no_place)
