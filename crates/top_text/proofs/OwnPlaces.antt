-- The place of what has a key of its own.
use Rattle.std.proofs.Common.{◌≡◌, ◌≢◌, ℕ, zero, suc, ◌+◌, ◌<◌, Bool, true, false, not, cond, ltb, List, [], ◌∷◌, length, map, get_or, Some, None, refl, sym, ap, ◌∙◌, arith, inl, inr}
use Rattle.std.specs.List.{list_any, position, prefix_len}
use Rattle.std.proofs.lemmas.Bool.{or_parts, or_from}
use Rattle.lab_base.specs.Lists.{Has, AllDiffer}
use Rattle.line_text.proofs.PartsAgain.{less}
use Rattle.std.proofs.Math.ListN.{get_or-map}
use Rattle.lab_base.specs.Names.{same_name}
use Rattle.lab_base.proofs.Bytes.{bytes_turned, bytes_self}
use Rattle.virt_topo.specs.Repeats.{stands_again}
use Rattle.virt_topo.specs.Soundness.{IsSound}
use Rattle.virt_topo.specs.declared.wiring.VirtNode.{VirtNode}
use Rattle.virt_topo.specs.declared.wiring.Segment.{Segment}
use Rattle.virt_topo.specs.declared.wiring.Wiring.{Wiring}
use Rattle.top_text.specs.Adding.{virt_named, segment_named}
use Rattle.top_text.proofs.SoundTests.{nodes_once, segments_once}

module _ {X K : Type 0} (same : K → K → Bool) (self : (k : K) → same k k ≡ true) (symm : (a b : K) → same a b ≡ same b a) (key : X → K) where
  none_at : (k : K) (xs : List X) (i : ℕ) (d : K) → list_any (λ y. same k (key y)) xs ≡ false → i < length xs → same k (get_or (map key xs) i d) ≡ false
  none_at k [] i d none lt = absurd (omega arith)
  none_at k (x ∷ xs) zero d none lt = (or_parts _ _ none).0
  none_at k (x ∷ xs) (suc i) d none lt = none_at k xs i d (or_parts (same k (key x)) (list_any (λ y. same k (key y)) xs) none).1 (omega arith)

  own_prefix : (xs : List X) (i : ℕ) (d : K) → stands_again (λ a b. same (key a) (key b)) xs ≡ false → i < length xs → prefix_len (λ y. not (same (get_or (map key xs) i d) (key y))) xs ≡ i
  own_prefix [] i d once lt = absurd (omega arith)
  own_prefix (x ∷ xs) zero d once lt = ap (λ (b : Bool). cond (not b) (1 + prefix_len (λ y. not (same (key x) (key y))) xs) 0) (self (key x))
  own_prefix (x ∷ xs) (suc i) d once lt =
      let parts = or_parts (list_any (λ y. same (key x) (key y)) xs) (stands_again (λ a b. same (key a) (key b)) xs) once in
      let k = get_or (map key xs) i d in
      let other : same k (key x) ≡ false = symm k (key x) ∙ none_at (key x) xs i d parts.0 (omega arith) in
      let one : 1 + i ≡ suc i = omega arith in
      ap (λ (b : Bool). cond (not b) (1 + prefix_len (λ y. not (same k (key y))) xs) 0) other
      ∙ ap (λ (n : ℕ). 1 + n) (own_prefix xs i d parts.1 (omega arith)) ∙ one

  -- the first place of the key at i is i
  pub own_place : (xs : List X) (i : ℕ) (d : K) → stands_again (λ a b. same (key a) (key b)) xs ≡ false → i < length xs → position (λ y. same (get_or (map key xs) i d) (key y)) xs ≡ Some i
  own_place xs i d once lt =
      let at = own_prefix xs i d once lt in
      (λ j. cond (ltb (at j) (length xs)) (Some (at j)) None) ∙ ap (λ (b : Bool). cond b (Some i) None) (less i (length xs) lt)

  -- keys that differ stand once
  pub differ_once : ((a b : K) → same a b ≡ true → a ≡ b) → (xs : List X) → AllDiffer (map key xs) → stands_again (λ a b. same (key a) (key b)) xs ≡ false
  differ_once sound [] differ = refl
  differ_once sound (x ∷ xs) differ = or_from _ _ (others xs (λ y h. differ.0 y h)) (differ_once sound xs differ.1)
    where
      others : (ys : List X) → ((k : K) → Has (map key ys) k → key x ≢ k) → list_any (λ y. same (key x) (key y)) ys ≡ false
      others [] apart = refl
      others (y ∷ ys) apart = or_from _ _ (one (same (key x) (key y)) refl) (others ys (λ k h. apart k (inr h)))
        where
          one : (b : Bool) → same (key x) (key y) ≡ b → b ≡ false
          one false e = refl
          one true e = absurd (apart (key y) (inl refl) (sound (key x) (key y) e))

-- NAMES

-- the first virtual node of a name
pub virt_own : (w : Wiring) → IsSound w → (i : ℕ) (v : VirtNode) → i < length w.nodes → v ≡ get_or w.nodes i v → virt_named w v.name ≡ Some i
virt_own w sound i v lt is =
    let name : get_or (map (λ (n : VirtNode). n.name) w.nodes) i v.name ≡ v.name = get_or-map (λ (n : VirtNode). n.name) w.nodes i v ∙ sym (ap (λ (n : VirtNode). n.name) is) in
    ap (λ (k : List ℕ). position (λ n. same_name k n.name) w.nodes) (sym name)
    ∙ own_place same_name bytes_self bytes_turned (λ (n : VirtNode). n.name) w.nodes i v.name (nodes_once w sound) lt

-- the first segment of a name
pub segment_own : (w : Wiring) → IsSound w → (i : ℕ) (s : Segment) → i < length w.segments → s ≡ get_or w.segments i s → segment_named w s.name ≡ Some i
segment_own w sound i s lt is =
    let name : get_or (map (λ (x : Segment). x.name) w.segments) i s.name ≡ s.name = get_or-map (λ (x : Segment). x.name) w.segments i s ∙ sym (ap (λ (x : Segment). x.name) is) in
    ap (λ (k : List ℕ). position (λ x. same_name k x.name) w.segments) (sym name)
    ∙ own_place same_name bytes_self bytes_turned (λ (x : Segment). x.name) w.segments i s.name (segments_once w sound) lt
