-- The part of an experiment after a done course, as a promise that steps of others keep.
use Rattle.std.specs.Str.{bytes_eq}
use Rattle.std.specs.List.{enumerate_from}
use Rattle.std.proofs.Common.{◌≡◌, ◌⊎◌, inl, inr, ℕ, true, false, cond, Some, None, Ok, List, [], ◌∷◌, map, refl, sym, ap, ◌∙◌, subst}
use Rattle.std.proofs.lemmas.Option.{same_Some}
use Rattle.std.proofs.lemmas.Slice.Eq.{bytes_eq-Decides}
use Rattle.lab_base.specs.Lists.{Has}
use Rattle.lab_base.proofs.Members.{Has-append, Has-map, Has-flat_map}
use Rattle.lab_base.specs.declared.boot.Boot.TheVariants.{IsUp}
use Rattle.phys_lab.specs.Labs.{Lab}
use Rattle.virt_topo.specs.declared.experiment.Experiment.{Experiment}
use Rattle.virt_topo.specs.declared.mapping.Mapped.{Mapped}
use Rattle.plant.specs.Worlds.{World, wiped, node_after, node_polled}
use Rattle.plant.specs.declared.device.Answer.TheVariants.{Done, State}
use Rattle.plant.specs.declared.device.DeviceOp.{DeviceOp}
use Rattle.plant.specs.declared.device.DeviceOp.TheVariants.{Boot as BootIt, Poll, Wipe}
use Rattle.lab_model.specs.Leavings.{did, Sent, ran}
use Rattle.lab_model.specs.Wants.{Owned, rows_of, pipes_on}
use Rattle.lab_model.specs.Holding.{Suits}
use Rattle.lab_model.specs.Courses.{op_node, join, shape, load_node, load_nodes, Watch, Going, Goes, nothing_left}
use Rattle.lab_model.proofs.Steps.{did_node}
use Rattle.lab_model.proofs.Clearing.{done}
use Rattle.lab_model.proofs.Commands.{Clears, leaving, wiping}
use Rattle.lab_model.proofs.Along.{boots_run}
use Rattle.lab_model.proofs.Finished.{builds}

-- a node that no command goes to stays
pub done_spares : (ops : List DeviceOp) (w : World) (name : List ℕ) → ((op : DeviceOp) → Has ops op → op_node op ≡ Some name → ⊥) → (done w ops).node name ≡ w.node name
done_spares [] w name spares = refl
done_spares (op ∷ ops) w name spares = done_spares ops (did w op true (Ok Done)) name (λ p h. spares p (inr h)) ∙ did_node w op true (Ok Done) name (spares op (inl refl))

-- a node that one of the clearing commands wipes is wiped after them
pub wiped_clear : (lab : Lab) (rows : List Owned) (names : List (List ℕ)) (ops : List DeviceOp) (w : World) (name : List ℕ) → ((op : DeviceOp) → Has ops op → Clears lab rows names op) → (w.node name ≡ wiped) ⊎ Has ops (Wipe name) → (done w ops).node name ≡ wiped
wiped_clear lab rows names [] w name all (inl is) = is
wiped_clear lab rows names [] w name all (inr h) = absurd h
wiped_clear lab rows names (op ∷ ops) w name all (inl is) = wiped_clear lab rows names ops (did w op true (Ok Done)) name (λ p h. all p (inr h)) (inl (stays op (all op (inl refl))))
  where
    stays : (op : DeviceOp) → Clears lab rows names op → (did w op true (Ok Done)).node name ≡ wiped
    stays op (leaving o h) = is
    stays op (wiping n h) = elim (bytes_eq name n) as (λ b. cond b wiped (w.node name) ≡ wiped) [ true ↦ refl | false ↦ is ]
wiped_clear lab rows names (op ∷ ops) w name all (inr (inl same)) = wiped_clear lab rows names ops (did w op true (Ok Done)) name (λ p h. all p (inr h))
    (inl (ap (λ p. node_polled p (Ok Done) name (node_after p name (w.node name))) same ∙ ap (λ b. cond b wiped (w.node name)) ((bytes_eq-Decides name name).1 refl)))
wiped_clear lab rows names (op ∷ ops) w name all (inr (inr h)) = wiped_clear lab rows names ops (did w op true (Ok Done)) name (λ p g. all p (inr g)) (inr h)

-- building goes to its nodes alone
pub builds_node : (lab : Lab) (e : Experiment) (m : Mapped) (suits : Suits lab m) (names : List (List ℕ)) (op : DeviceOp) (name : List ℕ) → Has (builds lab e m suits names) op → op_node op ≡ Some name → Has names name
builds_node lab e m suits names op name h goes = elim (Has-append (map join (rows_of lab m)) (load_nodes lab (Some m) names) op h) [
  | inl a ↦ let r = Has-map join (rows_of lab m) op a in let none : None ≡ Some name = ap op_node r.2 ∙ goes in cc none
  | inr b ↦
      let r = Has-flat_map (load_node lab m) names op b in
      let at : Some r.0 ≡ Some name = elim r.2 [
        | inl e' ↦ ap op_node e' ∙ goes
        | inr g ↦ let s = Has-map (shape r.0) (enumerate_from 0 (pipes_on lab m r.0)) op g in ap op_node s.2 ∙ goes
      ] in
      subst (λ n. Has names n) (same_Some r.0 name at) r.1
]

-- so do boots
pub boots_spare : (cs : Sent) (w : World) (boot : List (List ℕ)) (name : List ℕ) → Goes cs (Going (record { todo = []; boot = boot; watch = None })) (Going nothing_left) → (Has boot name → ⊥) → (ran w cs).node name ≡ w.node name
boots_spare cs w boot name goes unlisted =
    (boots_run (λ v l x. (v.node name ≡ w.node name) × (Has l name → ⊥) × ((y : Watch) → x ≡ Some y → y.node ≡ name → ⊥))
    (λ v l x y answer same p. (did_node v (Poll x.node) true answer name (λ is. p.2 x refl (same_Some _ _ is)) ∙ p.0, p.1, λ z is at. p.2 x refl (sym same ∙ ap (λ u. u.node) (same_Some y z is) ∙ at)))
    (λ v l x p. (did_node v (Poll x.node) true (Ok (State IsUp)) name (λ is. p.2 x refl (same_Some _ _ is)) ∙ p.0, p.1, λ z is at. cc is))
    (λ v l node y answer same p. (did_node v (BootIt node) true answer name (λ is. p.1 (inl (same_Some _ _ is))) ∙ p.0, λ h. p.1 (inr h), λ z is at. p.1 (inl (sym same ∙ ap (λ u. u.node) (same_Some y z is) ∙ at))))
    cs w boot None goes (refl, unlisted, λ y is at. cc is)).0
