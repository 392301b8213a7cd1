-- The rows of a mapping: where each comes from.
use Rattle.std.specs.List.{flat_map, enumerate_from}
use Rattle.std.proofs.Common.{◌≡◌, ◌⊎◌, inl, inr, ℕ, ◌+◌, ◌<◌, Bool, true, false, List, [], ◌∷◌, ◌++◌, length, map, replicate, take, drop, get_or, sym, ap, ◌∙◌, subst, arith, cond, length-append, length-take, get_or-drop, get_or-take}
use Rattle.std.proofs.lemmas.List.{length-map, length-replicate, get_or_append_left, get_or-append-add, get_or-replicate}
use Rattle.lab_base.specs.Lists.{Has, AllDiffer}
use Rattle.lab_base.proofs.Members.{Has-append, Has-map, Has-flat_map, Has-place}
use Rattle.lab_base.specs.declared.ids.IfaceId.{IfaceId}
use Rattle.lab_base.specs.declared.ids.VlanId.{VlanId}
use Rattle.phys_lab.specs.Labs.{Lab}
use Rattle.phys_lab.specs.declared.parts.Trunk.{Trunk}
use Rattle.virt_topo.specs.Ends.{end_nodes, end_owners}
use Rattle.virt_topo.specs.declared.wiring.Segment.{Segment}
use Rattle.virt_topo.specs.Cables.{Cable, cables}
use Rattle.plant.specs.Worlds.{Row}
use Rattle.lab_model.specs.Uses.{iface_at, is_carried}
use Rattle.lab_model.specs.Wants.{Owned, switch_name, plug_row, trunk_rows, cable_rows, owned_rows}
use Rattle.lab_model.specs.Reach.{IsFirstEnd, IsSecondEnd}

Has-if : {X : Type 0} (b : Bool) (xs : List X) (x : X) → Has (cond b xs []) x → Has xs x
Has-if true xs x h = h
Has-if false xs x h = absurd h

Has-enumerated : {X : Type 0} (n : ℕ) (xs : List X) (p : ℕ × X) → Has (enumerate_from n xs) p → Has xs p.1
Has-enumerated n [] p h = absurd h
Has-enumerated n (x ∷ xs) p (inl e) = inl (ap (λ q. q.1) e)
Has-enumerated n (x ∷ xs) p (inr h) = inr (Has-enumerated (n + 1) xs p h)

abbrev pub no_plug : IfaceId
no_plug = record { 0 = 0 }

-- the row is that of an end's plug, whose segment has that owner
pub record FromPlug (lab : Lab) (segments : List Segment) (plugs : List IfaceId) (row : Row) (link : List ℕ) : Type 0 where
  pub number : ℕ
  pub is_end : number < length (end_nodes segments)
  pub owner_is : get_or (end_owners segments) number [] ≡ link
  pub switch_is : row.switch ≡ switch_name lab (iface_at lab (get_or plugs number no_plug)).switch.0
  pub port_is : row.port ≡ (iface_at lab (get_or plugs number no_plug)).port

-- the row is that of a trunk
pub record FromTrunk (lab : Lab) (row : Row) : Type 0 where
  pub trunk : Trunk
  pub in_lab : Has lab.trunks trunk
  pub ends : IsFirstEnd lab trunk row ⊎ IsSecondEnd lab trunk row

pub record InCable (lab : Lab) (vlan : ℕ) (c : Cable) (row : Row) : Type 0 where
  pub vlan_is : row.vlan ≡ vlan
  pub from : ((i : IfaceId) × Has c.plugs i × (plug_row lab vlan i ≡ row)) ⊎ FromTrunk lab row

cable_row : (lab : Lab) (vlan : ℕ) (c : Cable) (row : Row) → Has (cable_rows lab vlan c) row → InCable lab vlan c row
cable_row lab vlan c row h = elim (Has-append (map (plug_row lab vlan) c.plugs) (flat_map (trunk_rows lab vlan c) (enumerate_from 0 lab.trunks)) row h) [
  | inl a ↦ let r = Has-map (plug_row lab vlan) c.plugs row a in record { vlan_is = sym (ap (λ w. w.vlan) r.2); from = inl r }
  | inr b ↦
      let r = Has-flat_map (trunk_rows lab vlan c) (enumerate_from 0 lab.trunks) row b in
      let two = Has-if (is_carried lab r.0.0 c) _ row r.2 in
      let in_lab = Has-enumerated 0 lab.trunks r.0 r.1 in
      elim two [
        | inl e ↦ record { vlan_is = sym (ap (λ w. w.vlan) e); from = inr (record { trunk = r.0.1; in_lab = in_lab; ends = inl (sym (ap (λ w. w.switch) e), sym (ap (λ w. w.port) e)) }) }
        | inr more ↦ elim more [
          | inl e ↦ record { vlan_is = sym (ap (λ w. w.vlan) e); from = inr (record { trunk = r.0.1; in_lab = in_lab; ends = inr (sym (ap (λ w. w.switch) e), sym (ap (λ w. w.port) e)) }) }
          | inr none ↦ absurd none
        ]
      ]
]

owned : (lab : Lab) (c : Cable) (cs : List Cable) (tag : VlanId) (tags : List VlanId) (o : Owned) → Has (owned_rows lab (c ∷ cs) (tag ∷ tags)) o
    → ((c.segment.owner ≡ o.owner) × InCable lab tag.0 c o.row) ⊎ Has (owned_rows lab cs tags) o
owned lab c cs tag tags o h = elim (Has-append (map (λ (row : Row). let r : Owned = record { row = row; owner = c.segment.owner } in r) (cable_rows lab tag.0 c)) (owned_rows lab cs tags) o h) [
  | inl a ↦
      let r = Has-map (λ (row : Row). let r : Owned = record { row = row; owner = c.segment.owner } in r) (cable_rows lab tag.0 c) o a in
      inl (ap (λ w. w.owner) r.2, cable_row lab tag.0 c o.row (subst (λ v. Has (cable_rows lab tag.0 c) v) (ap (λ w. w.row) r.2) r.1))
  | inr b ↦ inr b
]

-- the VLAN id of a row is a tag
pub owned_tag : (lab : Lab) (cs : List Cable) (tags : List VlanId) (o : Owned) → Has (owned_rows lab cs tags) o → Has (map (λ tag. tag.0) tags) o.row.vlan
owned_tag lab [] tags o h = absurd h
owned_tag lab (c ∷ cs) [] o h = absurd h
owned_tag lab (c ∷ cs) (tag ∷ tags) o h = elim (owned lab c cs tag tags o h) [
  | inl a ↦ inl (sym a.1.vlan_is)
  | inr b ↦ inr (owned_tag lab cs tags o b)
]

-- rows of one VLAN have one owner
pub owned_once : (lab : Lab) (cs : List Cable) (tags : List VlanId) (a b : Owned) → AllDiffer (map (λ tag. tag.0) tags) → Has (owned_rows lab cs tags) a → Has (owned_rows lab cs tags) b → a.row.vlan ≡ b.row.vlan → a.owner ≡ b.owner
owned_once lab [] tags a b differ h g same = absurd h
owned_once lab (c ∷ cs) [] a b differ h g same = absurd h
owned_once lab (c ∷ cs) (tag ∷ tags) a b differ h g same = elim (owned lab c cs tag tags a h) [
  | inl p ↦ elim (owned lab c cs tag tags b g) [
    | inl q ↦ sym p.0 ∙ q.0
    | inr q ↦ absurd (differ.0 _ (owned_tag lab cs tags b q) (sym p.1.vlan_is ∙ same))
  ]
  | inr p ↦ elim (owned lab c cs tag tags b g) [
    | inl q ↦ absurd (differ.0 _ (owned_tag lab cs tags a p) (sym q.1.vlan_is ∙ sym same))
    | inr q ↦ owned_once lab cs tags a b differ.1 p q same
  ]
]

-- each row is that of an end's plug or of a trunk
pub owned_from : (lab : Lab) (segments : List Segment) (plugs : List IfaceId) (tags : List VlanId) (o : Owned) → Has (owned_rows lab (cables segments plugs) tags) o → FromPlug lab segments plugs o.row o.owner ⊎ FromTrunk lab o.row
owned_from lab [] plugs tags o h = absurd h
owned_from lab (s ∷ segments) plugs [] o h = absurd h
owned_from lab (s ∷ segments) plugs (tag ∷ tags) o h = elim (owned lab (record { segment = s; plugs = take (length s.ends) plugs }) (cables segments (drop (length s.ends) plugs)) tag tags o h) [
  | inl a ↦ elim a.1.from [
    | inl p ↦
        let k = Has-place (take (length s.ends) plugs) p.0 no_plug p.1 in
        let below : k.0 < length s.ends = omega (arith, k.1, length-take (length s.ends) plugs) in
        let plug : get_or plugs k.0 no_plug ≡ p.0 = sym (get_or-take (length s.ends) plugs k.0 no_plug below) ∙ k.2 in
        inl (record {
          number = k.0;
          is_end = omega (arith, below, length-append (map (λ e. e.node) s.ends) (end_nodes segments), length-map s.ends (λ e. e.node));
          owner_is = get_or_append_left (replicate (length s.ends) s.owner) (end_owners segments) [] k.0 (omega (arith, below, length-replicate (length s.ends) s.owner)) ∙ get_or-replicate (length s.ends) k.0 s.owner [] below ∙ a.0;
          switch_is = sym (ap (λ w. w.switch) p.2) ∙ ap (λ i. switch_name lab (iface_at lab i).switch.0) (sym plug);
          port_is = sym (ap (λ w. w.port) p.2) ∙ ap (λ i. (iface_at lab i).port) (sym plug);
        })
    | inr t ↦ inr t
  ]
  | inr b ↦ elim (owned_from lab segments (drop (length s.ends) plugs) tags o b) [
    | inl r ↦
        let plug : get_or (drop (length s.ends) plugs) r.number no_plug ≡ get_or plugs (length s.ends + r.number) no_plug = get_or-drop (length s.ends) plugs r.number no_plug in
        inl (record {
          number = length s.ends + r.number;
          is_end = omega (arith, r.is_end, length-append (map (λ e. e.node) s.ends) (end_nodes segments), length-map s.ends (λ e. e.node));
          owner_is = subst (λ n. get_or (replicate (length s.ends) s.owner ++ end_owners segments) (n + r.number) [] ≡ get_or (end_owners segments) r.number []) (length-replicate (length s.ends) s.owner) (get_or-append-add (replicate (length s.ends) s.owner) (end_owners segments) r.number []) ∙ r.owner_is;
          switch_is = r.switch_is ∙ ap (λ i. switch_name lab (iface_at lab i).switch.0) plug;
          port_is = r.port_is ∙ ap (λ i. (iface_at lab i).port) plug;
        })
    | inr t ↦ inr t
  ]
]
