-- WHAT A MOVE READS, and two maps that agree on it.
use Rattle.std.specs.Prelude.{◌≡◌, ◌⊎◌, ◌<◌, ◌+◌, ℕ, Bool, true, false, length, slice_set}
use Rattle.phys_lab.specs.Labs.{Lab}
use Rattle.virt_topo.specs.declared.wiring.Wiring.{Wiring}
use Rattle.virt_topo.specs.declared.mapping.Mapping.{Mapping}
use Rattle.virt_topo.specs.Wirings.{virt_at}
use Rattle.lab_model.specs.Shapes.{Place}
use Rattle.lab_model.specs.Rules.{place_at}
use Rattle.trunk_sums.proofs.Replugged.{IsIn}
use Rattle.map_state.specs.Hosted.{asked_soft, placed_at}
use Rattle.map_anneal.proofs.Switches.{AreAlikeAt}
use Rattle.map_anneal.proofs.Frames.{IsOff, AlikeOn, end_place, KeepsSwitch}

-- both maps agree on what the move of virtual node v to place p reads: its place; who is on the node that it takes and on the one that it leaves;
-- the switches of all ends of each segment of which an end goes to another switch; whether another member of its class has the type that it gets, and the one that it had
pub record ReadAlike (lab : Lab) (w : Wiring) (m x : Mapping) (v : ℕ) (p : Place) (touched : ℕ → Bool) : Type 0 where
  pub within : v < length w.nodes
  pub same : place_at m v ≡ place_at x v
  pub hosted : AlikeOn p.0.0 (place_at m v).0.0 m.places x.places
  pub switches : (s : ℕ) → s < length w.segments → touched s ≡ true → AreAlikeAt lab w m x s
  pub untouched : (s e : ℕ) → touched s ≡ false → IsIn w.segments s e → IsOff p.0.0 (place_at m v).0.0 (end_place w m.places e) ⊎ KeepsSwitch lab w m (slice_set m.places v p) e
  pub taken : asked_soft w m (virt_at w v).asks p.1 ≡ asked_soft w x (virt_at w v).asks p.1
  pub left : asked_soft w (placed_at m v p) (virt_at w v).asks (place_at m v).1 ≡ asked_soft w (placed_at x v p) (virt_at w v).asks (place_at m v).1

-- what the classes of virtual nodes v and u cost more where v goes to place p and then u to place q
abbrev pub gained : Wiring → Mapping → (v u : ℕ) → (p q : Place) → ℕ
gained w m v u p q = asked_soft w m (virt_at w v).asks p.1 + asked_soft w (placed_at m v p) (virt_at w u).asks q.1

-- what they cost less, where v was at place q and u at place p
abbrev pub spared : Wiring → Mapping → (v u : ℕ) → (p q : Place) → ℕ
spared w m v u p q = asked_soft w (placed_at m v p) (virt_at w v).asks q.1 + asked_soft w (placed_at (placed_at m v p) u q) (virt_at w u).asks p.1

-- both agree on what the exchange of virtual nodes v and u reads: their places; who is on their nodes; the switches of all ends of each segment
-- of which an end goes to another switch; and what it changes of the cost of their classes
pub record ExchangeAlike (lab : Lab) (w : Wiring) (m x : Mapping) (v u : ℕ) (touched : ℕ → Bool) : Type 0 where
  pub v_in : v < length w.nodes
  pub u_in : u < length w.nodes
  pub apart : v ≡ u → ⊥
  pub same_v : place_at m v ≡ place_at x v
  pub same_u : place_at m u ≡ place_at x u
  pub hosted : AlikeOn (place_at m v).0.0 (place_at m u).0.0 m.places x.places
  pub switches : (s : ℕ) → s < length w.segments → touched s ≡ true → AreAlikeAt lab w m x s
  pub untouched : (s e : ℕ) → touched s ≡ false → IsIn w.segments s e
      → IsOff (place_at m v).0.0 (place_at m u).0.0 (end_place w m.places e) ⊎ KeepsSwitch lab w m (slice_set (slice_set m.places v (place_at m u)) u (place_at m v)) e
  pub classes : gained w m v u (place_at m u) (place_at m v) + spared w x v u (place_at m u) (place_at m v)
      ≡ gained w x v u (place_at m u) (place_at m v) + spared w m v u (place_at m u) (place_at m v)
