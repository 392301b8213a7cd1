-- The use of a trunk is what is used of the cut that its first side makes.
use Rattle.std.specs.List.{sum_by, count_by}
use Rattle.std.proofs.Common.{◌≡◌, inl, inr, ℕ, min, ◌+◌, ◌-◌, ◌*◌, ◌<◌, Bool, false, cond, List, [], ◌∷◌, length, drop, fold, refl, ap, ◌∙◌, subst, All}
use Rattle.std.proofs.lemmas.List.{get_or-map}
use Rattle.std.proofs.lemmas.List.Elements.{All-take, All-drop}
use Rattle.lab_base.specs.Lists.{Has}
use Rattle.lab_base.specs.declared.ids.IfaceId.{IfaceId}
use Rattle.phys_lab.specs.Labs.{Lab}
use Rattle.phys_lab.specs.Sides.{on_first_side}
use Rattle.phys_lab.specs.Forests.{first_side_of}
use Rattle.virt_topo.specs.declared.wiring.Segment.{Segment}
use Rattle.virt_topo.specs.declared.wiring.Wiring.{Wiring}
use Rattle.virt_topo.specs.declared.mapping.Mapping.{Mapping}
use Rattle.virt_topo.specs.Cables.{Cable, cables, plugs_on, cable_use, cut_use}
use Rattle.lab_model.specs.Uses.{no_iface, on_first, cables_of, use_of}
use Rattle.lab_model.proofs.WiringLaws.{All-has}

fold_same : {A X : Type 0} (f g : A → X → A) (xs : List X) (a : A) → ((b : A) (x : X) → Has xs x → f b x ≡ g b x) → fold f a xs ≡ fold g a xs
fold_same f g [] a same = refl
fold_same f g (x ∷ xs) a same = ap (λ b. fold f b xs) (same a x (inl refl)) ∙ fold_same f g xs (g a x) (λ b y h. same b y (inr h))

sum_same : {X : Type 0} (f g : X → ℕ) (xs : List X) → ((x : X) → Has xs x → f x ≡ g x) → sum_by f xs ≡ sum_by g xs
sum_same f g xs same = fold_same (λ a x. a + f x) (λ a x. a + g x) xs 0 (λ b x h. ap (λ n. b + n) (same x h))

count_same : {X : Type 0} (p q : X → Bool) (xs : List X) → ((x : X) → Has xs x → p x ≡ q x) → count_by p xs ≡ count_by q xs
count_same p q xs same = sum_same (λ x. cond (p x) 1 0) (λ x. cond (q x) 1 0) xs (λ x h. ap (λ b. cond b 1 0) (same x h))

-- the plugs of each cable are plugs of the mapping
cable_plugs : (P : IfaceId → Type 0) (segments : List Segment) (plugs : List IfaceId) → All P plugs → (c : Cable) → Has (cables segments plugs) c → All P c.plugs
cable_plugs P [] plugs all c h = absurd h
cable_plugs P (s ∷ segments) plugs all c (inl e) = subst (λ x. All P x.plugs) e (All-take P (length s.ends) plugs all)
cable_plugs P (s ∷ segments) plugs all c (inr h) = cable_plugs P segments (drop (length s.ends) plugs) (All-drop P (length s.ends) plugs all) c h

-- THE USE OF A TRUNK
pub cut_is_use : (lab : Lab) (w : Wiring) (m : Mapping) (t : ℕ) → All (λ i. i.0 < length lab.ifaces) m.plugs → cut_use (first_side_of lab.ifaces lab.trunks t) (cables_of w m) ≡ use_of lab w m t
cut_is_use lab w m t in_lab =
    sum_same (cable_use side) (λ c. min (on_first lab t c) (length c.plugs - on_first lab t c) * c.segment.kbps) (cables_of w m)
    (λ c h. ap (λ n. min n (length c.plugs - n) * c.segment.kbps) (plugs_alike c (cable_plugs (λ i. i.0 < length lab.ifaces) w.segments m.plugs in_lab c h)))
  where
    side : List Bool
    side = first_side_of lab.ifaces lab.trunks t

    plugs_alike : (c : Cable) → All (λ i. i.0 < length lab.ifaces) c.plugs → plugs_on side c.plugs ≡ on_first lab t c
    plugs_alike c all = count_same _ _ c.plugs (λ i h. get_or-map (λ iface. on_first_side lab.trunks t iface.switch.0) lab.ifaces i.0 no_iface false (All-has (λ i. i.0 < length lab.ifaces) c.plugs i all h))
