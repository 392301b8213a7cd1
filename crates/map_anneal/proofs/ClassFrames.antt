-- F3's words on classes of weight 1000 or more carry over from one map to another in which the virtual node has the same place.
use Rattle.std.proofs.Common.{◌≡◌, ◌<◌, ◌∙◌, ◌∷◌, [], inl, inr, ℕ, zero, suc, List, length, get_or, Bool, true, false, cond, ◌||◌, refl, ap, sym, arith}
use Rattle.std.specs.Prelude.{nat_lt}
use Rattle.std.proofs.lemmas.Slice.Eq.{bytes_eq-Decides}
use Rattle.lab_base.specs.Names.{same_name}
use Rattle.lab_base.proofs.Bytes.{bytes_same}
use Rattle.virt_topo.specs.declared.wiring.Asks.{Asks}
use Rattle.virt_topo.specs.declared.wiring.Asks.TheVariants.{Plain, Class as InClass}
use Rattle.virt_topo.specs.declared.wiring.VirtNode.{VirtNode}
use Rattle.virt_topo.specs.declared.wiring.Wiring.{Wiring}
use Rattle.virt_topo.specs.Wirings.{virt_at, no_virt}
use Rattle.lab_model.specs.Shapes.{Place}
use Rattle.lab_model.specs.Rules.{class_at, first_type, is_member, is_of_one_type, no_place}
use Rattle.lab_model.specs.Feasible.{AllPass}
use Rattle.node_maps.specs.Moved.{has_class_type}
use Rattle.map_anneal.proofs.PriceFrames.{AreFour, place_by_place}

-- the first member of a class, whatever the places
pub record FirstMember (c : ℕ) (vs : List VirtNode) : Type 0 where
  pub at : ℕ
  pub within : at < length vs
  pub is : (places : List Place) → length places ≡ length vs → first_type c vs places ≡ (get_or places at no_place).1

pub first_member : (c : ℕ) (vs : List VirtNode) (u : ℕ) → u < length vs → is_member c (get_or vs u no_virt).asks ≡ true → FirstMember c vs
first_member c [] u lt is = absurd (omega (arith, lt))
first_member c (v ∷ vs) u lt is = by (is_member c v.asks) refl u lt is (λ k less h. first_member c vs k less h)
  where
    first : (places : List Place) → length places ≡ length (v ∷ vs) → is_member c v.asks ≡ true → first_type c (v ∷ vs) places ≡ (get_or places 0 no_place).1
    first [] count yes_so = absurd (omega (arith, count))
    first (p ∷ places) count yes_so = ap (λ (b : Bool). cond b p.1 (first_type c vs places)) yes_so

    later : (f : FirstMember c vs) (places : List Place) → length places ≡ length (v ∷ vs) → is_member c v.asks ≡ false → first_type c (v ∷ vs) places ≡ (get_or places (suc f.at) no_place).1
    later f [] count no_so = absurd (omega (arith, count))
    later f (p ∷ places) count no_so = ap (λ (b : Bool). cond b p.1 (first_type c vs places)) no_so ∙ f.is places (omega (arith, count))

    by : (b : Bool) → is_member c v.asks ≡ b → (u : ℕ) → u < length (v ∷ vs) → is_member c (get_or (v ∷ vs) u no_virt).asks ≡ true
        → ((k : ℕ) → k < length vs → is_member c (get_or vs k no_virt).asks ≡ true → FirstMember c vs) → FirstMember c (v ∷ vs)
    by true is u lt member rest = record { at = 0; within = omega arith; is = λ places count. first places count is }
    by false is zero lt member rest = absurd (let both : true ≡ false = sym member ∙ is in cc both)
    by false is (suc u) lt member rest =
        let f = rest u (omega (arith, lt)) member in
        record { at = suc f.at; within = (let less = f.within in omega (arith, less)); is = λ places count. later f places count is }

abbrev type_at : List Place → ℕ → List ℕ
type_at places u = (get_or places u no_place).1

so_same : (a b : List ℕ) → a ≡ b → same_name a b ≡ true
so_same a b e = (bytes_eq-Decides a b).1 e

-- THE TRY ON THE FIRST MAP KEEPS F3's WORDS where that on the second does, with no word on who else is in the class
pub typed_frame : (w : Wiring) (a b : ℕ) (m n x y : List Place) → AreFour a b m n x y → length n ≡ length w.nodes
    → AllPass (length w.nodes) (has_class_type w m) → AllPass (length w.nodes) (has_class_type w x)
    → AllPass (length w.nodes) (has_class_type w y) → AllPass (length w.nodes) (has_class_type w n)
typed_frame w a b m n x y four n_all m_typed x_typed y_typed u lt = by (virt_at w u).asks refl
  where
    by : (asks : Asks) → (virt_at w u).asks ≡ asks → has_class_type w n u ≡ true
    by (Plain t) is = ap (λ (q : Asks). is_of_one_type w (record { places = n; plugs = [] }) q (get_or n u no_place).1) is
    by (InClass c) is = ap (λ (q : Asks). is_of_one_type w (record { places = n; plugs = [] }) q (get_or n u no_place).1) is ∙ ruled_out (nat_lt (class_at w c).weight 1000) refl
      where
        f : FirstMember c w.nodes
        f = first_member c w.nodes u lt (ap (is_member c) is ∙ itself c)
          where
            itself : (k : ℕ) → is_member k (InClass k) ≡ true
            itself k = grind arith

        m_all : length m ≡ length w.nodes
        m_all = sym four.one.count ∙ n_all

        y_all : length y ≡ length w.nodes
        y_all = sym four.after.count ∙ n_all

        x_all : length x ≡ length w.nodes
        x_all = sym four.two.count ∙ y_all

        -- the types of the first member and of u are one
        alike : nat_lt (class_at w c).weight 1000 ≡ false → (places : List Place) → length places ≡ length w.nodes → has_class_type w places u ≡ true → type_at places f.at ≡ type_at places u
        alike heavy places count typed =
            bytes_same (type_at places f.at) (type_at places u)
            (sym (ap (λ (t : Bool). t || same_name (type_at places f.at) (type_at places u)) heavy)
            ∙ ap (λ (t : List ℕ). nat_lt (class_at w c).weight 1000 || same_name t (type_at places u)) (sym (f.is places count))
            ∙ sym (ap (λ (q : Asks). is_of_one_type w (record { places = places; plugs = [] }) q (get_or places u no_place).1) is) ∙ typed)

        type : {p q : Place} → p ≡ q → p.1 ≡ q.1
        type e = ap (λ (q : Place). q.1) e

        heavy_so : nat_lt (class_at w c).weight 1000 ≡ false → type_at n f.at ≡ type_at n u
        heavy_so heavy =
            let in_m = alike heavy m m_all (m_typed u lt) in
            let in_x = alike heavy x x_all (x_typed u lt) in
            let in_y = alike heavy y y_all (y_typed u lt) in
            let f_in = f.within in
            elim (place_by_place a b m n x y f.at no_place four (omega (arith, f_in, n_all))) [
              | inl first ↦ elim (place_by_place a b m n x y u no_place four (omega (arith, lt, n_all))) [
                | inl own ↦ type first.0 ∙ in_m ∙ sym (type own.0)
                | inr own ↦ type first.0 ∙ in_m ∙ type own.1 ∙ sym in_x ∙ sym (type first.1) ∙ in_y ∙ sym (type own.0)
              ]
              | inr first ↦ elim (place_by_place a b m n x y u no_place four (omega (arith, lt, n_all))) [
                | inl own ↦ type first.0 ∙ in_y ∙ type own.1 ∙ sym in_x ∙ sym (type first.1) ∙ in_m ∙ sym (type own.0)
                | inr own ↦ type first.0 ∙ in_y ∙ sym (type own.0)
              ]
            ]

        ruled_out : (t : Bool) → nat_lt (class_at w c).weight 1000 ≡ t → (nat_lt (class_at w c).weight 1000 || same_name (first_type c w.nodes n) (type_at n u)) ≡ true
        ruled_out true light = ap (λ (t : Bool). t || same_name (first_type c w.nodes n) (type_at n u)) light
        ruled_out false heavy =
            ap (λ (t : Bool). t || same_name (first_type c w.nodes n) (type_at n u)) heavy
            ∙ so_same _ _ (f.is n n_all ∙ heavy_so heavy)
