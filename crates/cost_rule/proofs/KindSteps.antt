-- Virtual nodes and their places, one after another.
use Rattle.std.proofs.Common.{◌≡◌, ℕ, ◌+◌, ◌<◌, ◌≤◌, Bool, true, false, cond, List, ◌∷◌, length, map, refl, sym, ap, ◌∙◌, arith}
use Rattle.std.specs.Prelude.{◌&&◌, ◌||◌, not, ◌==◌}
use Rattle.std.specs.List.{list_any}
use mir.Val.{bool_byte}
use Rattle.std.proofs.lemmas.List.{drop_more}
use Rattle.lab_base.specs.Names.{same_name}
use Rattle.lab_base.proofs.Members.{any_map}
use Rattle.virt_topo.specs.declared.wiring.Wiring.{Wiring}
use Rattle.virt_topo.specs.declared.mapping.Mapping.{Mapping}
use Rattle.virt_topo.specs.Wirings.{virt_at, no_virt}
use Rattle.lab_model.specs.Shapes.{Place}
use Rattle.lab_model.specs.Rules.{is_member, place_at, no_place}
use Rattle.cost_rule.specs.Cost.{different, same_node, types_of}
use Rattle.cost_rule.specs.Counting.{is_of_kind, types_from}

pub byte_is : (b : Bool) → bool_byte b ≡ cond b 1 0
byte_is true = refl
byte_is false = refl

pub byte_one : (b : Bool) → bool_byte b ≤ 1
byte_one true = omega arith
byte_one false = omega arith

-- the types from virtual node v on: its own where it is a member, and the later ones
pub types_step : (w : Wiring) (m : Mapping) (c v : ℕ) → v < length w.nodes → v < length m.places
    → types_from w m c v ≡ cond (is_member c (virt_at w v).asks) ((place_at m v).1 ∷ types_from w m c (v + 1)) (types_from w m c (v + 1))
types_step w m c v lt few =
    let one = drop_more w.nodes v no_virt lt in
    let two = drop_more m.places v no_place few in
    λ j. types_of c (one j) (two j)

pub any_step : (w : Wiring) (m : Mapping) (c v : ℕ) (kind : List ℕ) → v < length w.nodes → v < length m.places
    → list_any (same_name kind) (types_from w m c v) ≡ cond (is_of_kind w m c kind v) true (list_any (same_name kind) (types_from w m c (v + 1)))
any_step w m c v kind lt few =
    ap (list_any (same_name kind)) (types_step w m c v lt few) ∙ by (is_member c (virt_at w v).asks) (same_name kind (place_at m v).1) refl
  where
    by : (b t : Bool) → same_name kind (place_at m v).1 ≡ t → list_any (same_name kind) (cond b ((place_at m v).1 ∷ types_from w m c (v + 1)) (types_from w m c (v + 1)))
        ≡ cond (b && t) true (list_any (same_name kind) (types_from w m c (v + 1)))
    by false t is = refl
    by true true is = ap (λ (t : Bool). t || list_any (same_name kind) (types_from w m c (v + 1))) is
    by true false is = ap (λ (t : Bool). t || list_any (same_name kind) (types_from w m c (v + 1))) is

-- the last one of its type counts
pub kinds_step : (w : Wiring) (m : Mapping) (c v : ℕ) → v < length w.nodes → v < length m.places
    → different same_name (types_from w m c v) ≡ cond (is_member c (virt_at w v).asks && not (list_any (same_name (place_at m v).1) (types_from w m c (v + 1)))) 1 0 + different same_name (types_from w m c (v + 1))
kinds_step w m c v lt few =
    ap (different same_name) (types_step w m c v lt few) ∙ by (is_member c (virt_at w v).asks) (list_any (same_name (place_at m v).1) (types_from w m c (v + 1))) refl
  where
    by : (b t : Bool) → list_any (same_name (place_at m v).1) (types_from w m c (v + 1)) ≡ t
        → different same_name (cond b ((place_at m v).1 ∷ types_from w m c (v + 1)) (types_from w m c (v + 1))) ≡ cond (b && not t) 1 0 + different same_name (types_from w m c (v + 1))
    by false t is = omega arith
    by true true is =
        ap (λ (t : Bool). cond t (different same_name (types_from w m c (v + 1))) (different same_name (types_from w m c (v + 1)) + 1)) is ∙ omega arith
    by true false is =
        ap (λ (t : Bool). cond t (different same_name (types_from w m c (v + 1))) (different same_name (types_from w m c (v + 1)) + 1)) is ∙ omega arith

-- the node of one place more counts where no later place is on it
pub nodes_step : (p : Place) (rest others : List Place) (b : Bool) (k : ℕ) → rest ≡ p ∷ others → b ≡ list_any (λ q. p.0.0 == q.0.0) others → k ≡ cond (not b) 1 0
    → different same_node (map (λ q. q.0.0) rest) ≡ k + different same_node (map (λ q. q.0.0) others)
nodes_step p rest others b k is any counted =
    ap (λ (l : List Place). different same_node (map (λ q. q.0.0) l)) is
    ∙ ap (λ (t : Bool). cond t later (later + 1)) (any_map (same_node p.0.0) (λ (q : Place). q.0.0) others ∙ sym any)
    ∙ by b ∙ ap (λ (n : ℕ). n + later) (sym counted)
  where
    later : ℕ
    later = different same_node (map (λ q. q.0.0) others)

    by : (t : Bool) → cond t later (later + 1) ≡ cond (not t) 1 0 + later
    by true = omega arith
    by false = omega arith
