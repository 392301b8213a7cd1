-- The tests of rows, owners and neighbours, and the facts that they decide.
use Rattle.std.proofs.Common.{◌≡◌, ◌⊎◌, inl, inr, ℕ, true, List, refl, sym, ap, ◌∙◌, subst}
use Rattle.std.proofs.lemmas.Bool.{and_parts, and_from, or_cases, or_left, or_right, eqb-true, eq-eqb}
use Rattle.lab_base.specs.declared.ids.IfaceId.{IfaceId}
use Rattle.lab_base.proofs.Members.{any_has, Has-place, Has-get_or, any_from}
use Rattle.lab_base.proofs.Bytes.{bytes_same, bytes_alike}
use Rattle.phys_lab.specs.Labs.{Lab}
use Rattle.phys_lab.specs.declared.parts.Iface.{Iface}
use Rattle.phys_lab.specs.declared.parts.Trunk.{Trunk}
use Rattle.plant.specs.Worlds.{Row, PipeRow, World}
use Rattle.lab_model.specs.Uses.{no_iface, iface_at}
use Rattle.lab_model.specs.Wants.{switch_name, node_name}
use Rattle.lab_model.specs.Claims.{Which, Old, New}
use Rattle.lab_model.specs.Reach.{IsAt, IsFirstEnd, IsSecondEnd, Next, by_switch, by_trunk, by_pipe}
use Rattle.lab_model.specs.Isolated.{Owner, IsPipe}
use Rattle.plain_model.specs.Isolation.{PipeEnds, same_row, same_half, same_owner, is_at_port, is_at, is_over_trunk, is_over_pipe, is_next, IsSeen}

pub row_is : (p q : Row) → same_row p q ≡ true → p ≡ q
row_is p q e =
    let a = and_parts _ _ e in
    let b = and_parts _ _ a.1 in
    let s = bytes_same _ _ a.0 in
    let o = eqb-true _ _ b.0 in
    let v = eqb-true _ _ b.1 in
    (λ i. record { switch = s i; port = o i; vlan = v i })

pub row_same : (p q : Row) → p ≡ q → same_row p q ≡ true
row_same p q e = and_from _ _ (bytes_alike _ _ (ap (λ r. r.switch) e)) (and_from _ _ (eq-eqb _ _ (ap (λ r. r.port) e)) (eq-eqb _ _ (ap (λ r. r.vlan) e)))

half_is : (a b : Which) → same_half a b ≡ true → a ≡ b
half_is Old Old e = refl
half_is New New e = refl
half_is Old New e = absurd (cc e)
half_is New Old e = absurd (cc e)

half_self : (a : Which) → same_half a a ≡ true
half_self Old = refl
half_self New = refl

pub owner_is : (a b : Owner) → same_owner a b ≡ true → a ≡ b
owner_is a b e =
    let x = and_parts _ _ e in
    let y = and_parts _ _ x.1 in
    let s = bytes_same _ _ x.0 in
    let h = half_is _ _ y.0 in
    let l = bytes_same _ _ y.1 in
    (λ i. record { exp = s i; which = h i; link = l i })

pub owner_same : (a b : Owner) → a ≡ b → same_owner a b ≡ true
owner_same a b e = subst (λ x. same_owner a x ≡ true) e (and_from _ _ (bytes_alike a.exp a.exp refl) (and_from _ _ (half_self a.which) (bytes_alike a.link a.link refl)))

-- at the port of a switch
port_is : (lab : Lab) (switch port : ℕ) (row : Row) → is_at_port lab switch port row ≡ true → (row.switch ≡ switch_name lab switch) × (row.port ≡ port)
port_is lab switch port row e = let a = and_parts _ _ e in (bytes_same _ _ a.0, eqb-true _ _ a.1)

port_same : (lab : Lab) (switch port : ℕ) (row : Row) → row.switch ≡ switch_name lab switch → row.port ≡ port → is_at_port lab switch port row ≡ true
port_same lab switch port row a b = and_from _ _ (bytes_alike _ _ a) (eq-eqb _ _ b)

at_is : (lab : Lab) (node iface : List ℕ) (row : Row) → is_at lab node iface row ≡ true → IsAt lab node iface row
at_is lab node iface row e =
    let r = any_from _ lab.ifaces e in
    let k = Has-place lab.ifaces r.0 no_iface r.1 in
    let a = and_parts _ _ r.2 in
    let b = and_parts _ _ a.1 in
    let c = port_is lab r.0.switch.0 r.0.port row b.1 in
    let number : IfaceId = record { 0 = k.0 } in
    record {
      number = number;
      in_lab = k.1;
      node_is = ap (λ (i : Iface). node_name lab i.node) k.2 ∙ bytes_same _ _ a.0;
      name_is = ap (λ (i : Iface). i.name) k.2 ∙ bytes_same _ _ b.0;
      switch_is = c.0 ∙ sym (ap (λ (i : Iface). switch_name lab i.switch.0) k.2);
      port_is = c.1 ∙ sym (ap (λ (i : Iface). i.port) k.2);
    }

at_same : (lab : Lab) (node iface : List ℕ) (row : Row) → IsAt lab node iface row → is_at lab node iface row ≡ true
at_same lab node iface row at =
    any_has _ lab.ifaces (iface_at lab at.number) (Has-get_or lab.ifaces at.number.0 no_iface at.in_lab)
    (and_from _ _ (bytes_alike _ _ at.node_is) (and_from _ _ (bytes_alike _ _ at.name_is) (port_same lab _ _ row at.switch_is at.port_is)))

module _ (lab : Lab) (w : World) (rows : List Row) (pipes : List PipeEnds) (seen : IsSeen w rows pipes) where
  pub next_is : (p q : Row) → is_next lab pipes p q ≡ true → Next lab (IsPipe w) p q
  next_is p q e = elim (or_cases _ _ e) [
    | inl flat ↦
        let a = and_parts _ _ flat in
        let vlan = eqb-true _ _ a.0 in
        elim (or_cases _ _ a.1) [
          | inl same ↦ by_switch vlan (bytes_same _ _ same)
          | inr over ↦
              let t = any_from (is_over_trunk lab p q) lab.trunks over in
              by_trunk t.0 t.1 vlan (elim (or_cases _ _ t.2) [
                | inl there ↦ let b = and_parts _ _ there in inl (port_is lab _ _ p b.0, port_is lab _ _ q b.1)
                | inr back ↦ let b = and_parts _ _ back in inr (port_is lab _ _ p b.0, port_is lab _ _ q b.1)
              ])
        ]
    | inr over ↦
        let x = any_from (is_over_pipe lab p q) pipes over in
        let pipe = seen.pipes_stand x.0 x.1 in
        by_pipe x.0.node pipe.0 pipe.1 (elim (or_cases _ _ x.2) [
          | inl there ↦
              let b = and_parts _ _ there in
              inl (subst (λ n. IsAt lab x.0.node n p) (sym pipe.2) (at_is lab _ _ p b.0), subst (λ n. IsAt lab x.0.node n q) (sym pipe.3) (at_is lab _ _ q b.1))
          | inr back ↦
              let b = and_parts _ _ back in
              inr (subst (λ n. IsAt lab x.0.node n p) (sym pipe.3) (at_is lab _ _ p b.0), subst (λ n. IsAt lab x.0.node n q) (sym pipe.2) (at_is lab _ _ q b.1))
        ])
  ]

  trunk_ends : (p q : Row) (t : Trunk) → ((IsFirstEnd lab t p × IsSecondEnd lab t q) ⊎ (IsSecondEnd lab t p × IsFirstEnd lab t q)) → is_over_trunk lab p q t ≡ true
  trunk_ends p q t (inl x) = or_left _ _ (and_from _ _ (port_same lab _ _ p x.0.0 x.0.1) (port_same lab _ _ q x.1.0 x.1.1))
  trunk_ends p q t (inr x) = or_right _ _ (and_from _ _ (port_same lab _ _ p x.0.0 x.0.1) (port_same lab _ _ q x.1.0 x.1.1))

  pipe_ends : (p q : Row) (node : List ℕ) (pipe : PipeRow) → ((IsAt lab node pipe.from p × IsAt lab node pipe.to q) ⊎ (IsAt lab node pipe.to p × IsAt lab node pipe.from q))
      → is_over_pipe lab p q (record { node = node; from = pipe.from; to = pipe.to }) ≡ true
  pipe_ends p q node pipe (inl x) = or_left _ _ (and_from _ _ (at_same lab _ _ p x.0) (at_same lab _ _ q x.1))
  pipe_ends p q node pipe (inr x) = or_right _ _ (and_from _ _ (at_same lab _ _ p x.0) (at_same lab _ _ q x.1))

  pub next_same : (p q : Row) → Next lab (IsPipe w) p q → is_next lab pipes p q ≡ true
  next_same p q (by_switch vlan switch) = or_left _ _ (and_from _ _ (eq-eqb _ _ vlan) (or_left _ _ (bytes_alike _ _ switch)))
  next_same p q (by_trunk t in_lab vlan ends) = or_left _ _ (and_from _ _ (eq-eqb _ _ vlan) (or_right _ _ (any_has (is_over_trunk lab p q) lab.trunks t in_lab (trunk_ends p q t ends))))
  next_same p q (by_pipe node pipe is ends) = or_right _ _ (any_has (is_over_pipe lab p q) pipes (record { node = node; from = pipe.from; to = pipe.to }) (seen.pipes_there node pipe is) (pipe_ends p q node pipe ends))
