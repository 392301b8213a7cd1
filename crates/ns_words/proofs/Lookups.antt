-- Looking a unit up by its text.
use Rattle.std.proofs.Common.{◌≡◌, ℕ, Bool, true, false, List, [], ◌∷◌, Some, refl, sym, ap, ◌∙◌, inl, inr}
use Rattle.std.specs.List.{list_any}
use Rattle.std.proofs.lemmas.Bool.{or_parts}
use Rattle.lab_base.specs.Lists.{Has}
use Rattle.lab_base.specs.Names.{same_name}
use Rattle.lab_base.proofs.Bytes.{bytes_self, bytes_same}
use Rattle.virt_topo.specs.Repeats.{stands_again}
use Rattle.ns_words.specs.Quantities.{Units}
use Rattle.ns_words.specs.Values.{scale_of}

-- what is found is in the list
pub scale_found : (units : Units) (unit : List ℕ) (scale : ℕ) → scale_of units unit ≡ Some scale → Has units (unit, scale)
scale_found [] unit scale found = absurd cc
scale_found (u ∷ units) unit scale found = by (same_name unit u.0) refl (scale_found units unit scale)
  where
    by : (b : Bool) → same_name unit u.0 ≡ b → (scale_of units unit ≡ Some scale → Has units (unit, scale)) → Has (u ∷ units) (unit, scale)
    by true is later =
        let number : Some u.1 ≡ Some scale = rw is at found in
        let value : u.1 ≡ scale = cc in
        inl (λ i. (sym (bytes_same unit u.0 is) i, value i))
    by false is later = let rest : scale_of units unit ≡ Some scale = rw is at found in inr (later rest)

none_same : (text : List ℕ) (units : Units) (unit : List ℕ) (scale : ℕ) → list_any (λ (u : List ℕ × ℕ). same_name u.0 text) units ≡ false → Has units (unit, scale)
    → same_name unit text ≡ false
none_same text [] unit scale none has = absurd has
none_same text (u ∷ units) unit scale none (inl e) =
    let parts = or_parts (same_name u.0 text) (list_any (λ (v : List ℕ × ℕ). same_name v.0 text) units) none in
    ap (λ (v : List ℕ × ℕ). same_name v.0 text) (sym e) ∙ parts.0
none_same text (u ∷ units) unit scale none (inr h) =
    let parts = or_parts (same_name u.0 text) (list_any (λ (v : List ℕ × ℕ). same_name v.0 text) units) none in
    none_same text units unit scale parts.1 h

-- no text stands twice
abbrev pub differ : Units → Bool
differ units = stands_again (λ (a b : List ℕ × ℕ). same_name b.0 a.0) units

-- and what is in the list is found
pub found_scale : (units : Units) (unit : List ℕ) (scale : ℕ) → differ units ≡ false → Has units (unit, scale) → scale_of units unit ≡ Some scale
found_scale [] unit scale apart has = absurd has
found_scale (u ∷ units) unit scale apart (inl e) =
    let same : same_name unit u.0 ≡ true = ap (λ (v : List ℕ × ℕ). same_name v.0 u.0) (sym e) ∙ bytes_self u.0 in
    rw same (ap (λ (v : List ℕ × ℕ). Some v.1) e)
found_scale (u ∷ units) unit scale apart (inr h) =
    let parts = or_parts (list_any (λ (v : List ℕ × ℕ). same_name v.0 u.0) units) (differ units) apart in
    let other : same_name unit u.0 ≡ false = none_same u.0 units unit scale parts.0 h in
    rw other (found_scale units unit scale parts.1 h)
