-- The lists of commands are what the invariants ask.
use Rattle.std.specs.List.{filter, enumerate_from}
use Rattle.std.proofs.Common.{◌≡◌, inl, inr, ℕ, zero, suc, ◌+◌, Bool, true, ◌&&◌, not, Option, Some, None, slice_get, List, [], ◌∷◌, ◌++◌, map, refl, sym, ap, ◌∙◌, subst, arith}
use Rattle.std.proofs.lemmas.Bool.{and_parts, and_from, not-true}
use Rattle.std.proofs.lemmas.Option.{same_Some}
use Rattle.lab_base.specs.Lists.{Has}
use Rattle.lab_base.proofs.Members.{Has-append, Has-map, Has-left, Has-right, Has-mapped, Has-flat_map, Has-filter, Has-filtered}
use Rattle.phys_lab.specs.Labs.{Lab}
use Rattle.virt_topo.specs.declared.experiment.Experiment.{Experiment}
use Rattle.virt_topo.specs.declared.mapping.Mapped.{Mapped}
use Rattle.virt_topo.specs.declared.experiment.Phase.TheVariants.{Moving}
use Rattle.plant.specs.declared.device.DeviceOp.{DeviceOp}
use Rattle.plant.specs.declared.device.DeviceOp.TheVariants.{Wipe}
use Rattle.lab_model.specs.Wants.{Owned, rows_of, pipes_on}
use Rattle.lab_model.specs.Claims.{Which, Old, New, claimed, places_it}
use Rattle.lab_model.specs.Kept.{is_kept}
use Rattle.lab_model.specs.Holding.{Suits}
use Rattle.lab_model.specs.Courses.{op_node, op_join, op_pipe, join, leave, shape, load_node, load_nodes, rows_from, node_names}
use Rattle.lab_model.proofs.CourseLaws.{AddsOnly}
use Rattle.lab_model.proofs.Moves.{Cleared, SparesKept}
use Rattle.lab_model.proofs.Kept.{places_it_from, placed_listed}

enumerated_get : {X : Type 0} (n : ℕ) (xs : List X) (p : ℕ × X) → Has (enumerate_from n xs) p → (j : ℕ) × (p.0 ≡ n + j) × (slice_get xs j ≡ Some p.1)
enumerated_get n [] p h = absurd h
enumerated_get n (x ∷ xs) p (inl e) = (zero, (let k = ap (λ q. q.0) e in omega arith), ap (λ q. Some q.1) e)
enumerated_get n (x ∷ xs) p (inr h) = let r = enumerated_get (n + 1) xs p h in (suc r.0, omega (arith, r.1), r.2)

-- a command that wipes or leaves, and what it is for
pub data Clears (lab : Lab) (rows : List Owned) (names : List (List ℕ)) : DeviceOp → Type 0 where
  leaving : (o : Owned) → Has rows o → Clears lab rows names (leave o)
  wiping : (name : List ℕ) → Has names name → Clears lab rows names (Wipe name)

pub clears : (lab : Lab) (rows : List Owned) (names : List (List ℕ)) (op : DeviceOp) → Has (map leave rows ++ map Wipe names) op → Clears lab rows names op
clears lab rows names op h = elim (Has-append (map leave rows) (map Wipe names) op h) [
  | inl a ↦ let r = Has-map leave rows op a in subst (λ p. Clears lab rows names p) r.2 (leaving r.0 r.1)
  | inr b ↦ let r = Has-map Wipe names op b in subst (λ p. Clears lab rows names p) r.2 (wiping r.0 r.1)
]

clears_none : (lab : Lab) (rows : List Owned) (names : List (List ℕ)) (op : DeviceOp) → Clears lab rows names op → (op_join op ≡ None) × (op_pipe op ≡ None)
clears_none lab rows names op (leaving o h) = (refl, refl)
clears_none lab rows names op (wiping name h) = (refl, refl)

pub clears_node : (lab : Lab) (rows : List Owned) (names : List (List ℕ)) (op : DeviceOp) (name : List ℕ) → Clears lab rows names op → op_node op ≡ Some name → Has names name
clears_node lab rows names op name (leaving o h) goes = cc
clears_node lab rows names op name (wiping n h) goes = subst (λ x. Has names x) (same_Some n name goes) h

module _ (lab : Lab) (e : Experiment) (old new : Option Mapped) (moving : e.phase ≡ Moving old new) where
  abbrev side : Which → Option Mapped
  side Old = old
  side New = new

  -- the nodes that a clearing wipes: those of the mapping that is cleared, and in an undo those of both
  abbrev pub wiped_names : (List ℕ → Bool) → List (List ℕ)
  wiped_names placed = filter (λ name. placed name && not (is_kept lab old new name)) (node_names lab)

  pub clears_all : (from : Which) (o : Option Mapped) (placed : List ℕ → Bool) → claimed e from ≡ o → ((n : Mapped) → o ≡ Some n → Suits lab n)
      → ((n : Mapped) (name : List ℕ) → o ≡ Some n → places_it lab n name ≡ true → placed name ≡ true)
      → Cleared lab e old new moving from (map leave (rows_from lab o) ++ map Wipe (wiped_names placed))
  clears_all from o placed mine suits covers = record {
    adds_none = λ op h. clears_none lab (rows_from lab o) (wiped_names placed) op (clears lab (rows_from lab o) (wiped_names placed) op h);
    leaves = λ n row link is wants.
        Has-left (map leave (rows_from lab o)) (map Wipe (wiped_names placed)) (leave (record { row = row; owner = link }))
        (Has-mapped leave (rows_from lab o) (record { row = row; owner = link }) (subst (λ x. Has (rows_from lab x) (record { row = row; owner = link })) (sym is ∙ mine) wants));
    wipes = λ n name is there not_kept.
        let of_o : o ≡ Some n = sym mine ∙ is in
        Has-right (map leave (rows_from lab o)) (map Wipe (wiped_names placed)) (Wipe name)
        (Has-mapped Wipe (wiped_names placed) name (Has-filtered (λ x. placed x && not (is_kept lab old new x)) (node_names lab) name (placed_listed lab n name (suits n of_o) there)
        (and_from _ _ (covers n name of_o (places_it_from lab n name there)) (ap not not_kept))));
  }

  pub clears_spares : (rows : List Owned) (placed : List ℕ → Bool) (op : DeviceOp) → Has (map leave rows ++ map Wipe (wiped_names placed)) op → SparesKept lab e old new moving op
  clears_spares rows placed op h name goes =
      let named = clears_node lab rows (wiped_names placed) op name (clears lab rows (wiped_names placed) op h) goes in
      not-true (is_kept lab old new name) (and_parts _ _ (Has-filter (λ x. placed x && not (is_kept lab old new x)) (node_names lab) name named).1).1

-- what cabling and loading add is wanted
pub cable_adds : (lab : Lab) (m : Mapped) (op : DeviceOp) → Has (map join (rows_of lab m)) op → AddsOnly lab m op
cable_adds lab m op h =
    let r = Has-map join (rows_of lab m) op h in
    subst (λ p. AddsOnly lab m p) r.2 (record {
      row = λ row is. (r.0.owner, subst (λ x. Has (rows_of lab m) (record { row = x; owner = r.0.owner })) (same_Some r.0.row row is) r.1);
      pipe = λ name k row is. cc;
    })

load_adds_at : (lab : Lab) (m : Mapped) (name : List ℕ) (op : DeviceOp) → Has (load_node lab m name) op → AddsOnly lab m op
load_adds_at lab m name op (inl e) = subst (λ p. AddsOnly lab m p) e (record { row = λ row is. cc; pipe = λ n k row is. cc })
load_adds_at lab m name op (inr h) =
    let r = Has-map (shape name) (enumerate_from 0 (pipes_on lab m name)) op h in
    let g = enumerated_get 0 (pipes_on lab m name) r.0 r.1 in
    let at : slice_get (pipes_on lab m name) r.0.0 ≡ Some r.0.1 = ap (λ n. slice_get (pipes_on lab m name) n) (omega (arith, g.1)) ∙ g.2 in
    subst (λ p. AddsOnly lab m p) r.2 (record {
      row = λ row is. cc;
      pipe = λ n k row is.
          let both = same_Some _ _ is in
          subst (λ x. slice_get (pipes_on lab m x) k ≡ Some row) (ap (λ t. t.0) both) (subst (λ x. slice_get (pipes_on lab m name) x ≡ Some row) (ap (λ t. t.1) both) (at ∙ ap (λ t. Some t.2) both));
    })

pub load_adds : (lab : Lab) (m : Mapped) (names : List (List ℕ)) (op : DeviceOp) → Has (load_nodes lab (Some m) names) op → AddsOnly lab m op
load_adds lab m names op h = let r = Has-flat_map (load_node lab m) names op h in load_adds_at lab m r.0 op r.2
