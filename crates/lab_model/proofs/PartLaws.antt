-- The law of parts.
use Rattle.std.proofs.Common.{◌≡◌, inl, inr, ℕ, ◌<◌, List, [], ◌∷◌, length, get_or, refl, sym, ap, ◌∙◌, subst, arith}
use Rattle.lab_base.specs.Lists.{Has}
use Rattle.lab_base.proofs.Members.{Has-left, Has-right, Has-mapped, Apart-same, flat-same, Has-get_or}
use Rattle.phys_lab.specs.Labs.{Lab}
use Rattle.phys_lab.specs.Kept.{IsLab}
use Rattle.virt_topo.specs.Ends.{end_nodes}
use Rattle.virt_topo.specs.declared.mapping.Mapped.{Mapped}
use Rattle.virt_topo.specs.declared.experiment.Experiment.{Experiment}
use Rattle.plant.specs.Worlds.{Row, PipeRow, World}
use Rattle.lab_model.specs.Uses.{iface_at}
use Rattle.lab_model.specs.Wants.{Owned, node_name, place_of, rows_of, cables_in}
use Rattle.lab_model.specs.Rules.{no_place, plug_at}
use Rattle.lab_model.specs.Claims.{Which, Old, New, claimed, Wants, Places, Claims, claimed_tags, tags_of, IsOf}
use Rattle.lab_model.specs.Reach.{IsAt, Next, by_switch, by_trunk, by_pipe, LeadsOn}
use Rattle.lab_model.specs.Holding.{Suits, Holding}
use Rattle.lab_model.specs.Isolated.{Owner, IsRow, IsPipe, Isolated}
use Rattle.lab_model.specs.Cabled.{Cabled, AllWanted}
use Rattle.lab_model.specs.Parts.{Parts}
use Rattle.lab_model.proofs.LabFacts.{one_port, no_trunk_port}
use Rattle.lab_model.proofs.SuitLaws.{plug_in, plug_node}
use Rattle.lab_model.proofs.WiringLaws.{sound_ends}
use Rattle.lab_model.proofs.Rows.{owned_from, owned_tag}

-- a row at an interface of a node is wanted by a mapping that places something on that node
pub placed_at : (lab : Lab) (m : Mapped) (node iface : List ℕ) (o : Owned) → IsLab lab → Suits lab m → IsAt lab node iface o.row → Has (rows_of lab m) o → Places lab m node
placed_at lab m node iface o is_lab suits at wanted = elim (owned_from lab m.wiring.segments m.mapping.plugs m.tags o wanted) [
  | inl r ↦
      let end : r.number < length m.mapping.plugs = omega (arith, r.is_end, suits.shaped.plugs) in
      let one : at.number.0 ≡ (plug_at m.mapping r.number).0 = one_port lab is_lab at.number (plug_at m.mapping r.number) at.in_lab (plug_in lab m suits r.number end) (sym at.switch_is ∙ r.switch_is) (sym at.port_is ∙ r.port_is) in
      let v = get_or (end_nodes m.wiring.segments) r.number 0 in
      let there : place_of lab m v ≡ node = sym (plug_node lab m suits r.number end) ∙ ap (λ n. node_name lab (iface_at lab (record { 0 = n })).node) (sym one) ∙ at.node_is in
      let h = Has-get_or m.mapping.places v no_place (omega (arith, suits.shaped.places, sound_ends m.wiring suits.sound r.number r.is_end)) in
      subst (λ n. Places lab m n) there (Has-mapped (λ p. node_name lab p.0) m.mapping.places _ h)
  | inr t ↦
      let apart = no_trunk_port lab is_lab at.number t.trunk at.in_lab t.in_lab in
      absurd (elim t.ends [
        | inl a ↦ apart.0 (sym at.switch_is ∙ a.0) (sym at.port_is ∙ a.1)
        | inr b ↦ apart.1 (sym at.switch_is ∙ b.0) (sym at.port_is ∙ b.1)
      ])
]

pub wants_tag : (lab : Lab) (e : Experiment) (row : Row) (which : Which) (link : List ℕ) → Wants lab e row which link → Has (claimed_tags e) row.vlan
wants_tag lab e row Old link w = Has-left _ _ _ (subst (λ o. Has (tags_of o) row.vlan) (sym w.is) (owned_tag lab (cables_in w.mapped) w.mapped.tags _ w.row_of))
wants_tag lab e row New link w = Has-right (tags_of (claimed e Old)) _ _ (subst (λ o. Has (tags_of o) row.vlan) (sym w.is) (owned_tag lab (cables_in w.mapped) w.mapped.tags _ w.row_of))

module _ (lab : Lab) (es : List Experiment) (is_lab : IsLab lab) (holding : Holding lab es) where
  -- rows of one VLAN are of one experiment
  pub same_vlan : (e f : Experiment) (p q : Row) → Has es e → Has es f → IsOf lab e p → IsOf lab f q → p.vlan ≡ q.vlan → e ≡ f
  same_vlan e f p q in_e in_f of_e of_f same =
      flat-same claimed_tags es e f q.vlan holding.tags in_e in_f (subst (λ v. Has (claimed_tags e) v) same (wants_tag lab e p of_e.0 of_e.1 of_e.2)) (wants_tag lab f q of_f.0 of_f.1 of_f.2)

  -- the node of an interface where a row stands is claimed by the row's experiment
  pub claims_at : (e : Experiment) (node iface : List ℕ) (row : Row) → Has es e → IsAt lab node iface row → IsOf lab e row → Claims lab e node
  claims_at e node iface row in_e at of_e = let w = of_e.2 in record {
    which = of_e.0;
    mapped = w.mapped;
    is = w.is;
    placed = placed_at lab w.mapped node iface (record { row = row; owner = of_e.1 }) is_lab (holding.fits e of_e.0 w.mapped in_e w.is) at w.row_of;
  }

  pub same_node : (e f : Experiment) (node : List ℕ) → Has es e → Has es f → Claims lab e node → Claims lab f node → e ≡ f
  same_node e f node in_e in_f a b = Apart-same _ es e f holding.nodes in_e in_f (λ r. r node a b) (λ r. r node b a)

  module _ (w : World) where
    -- the pipes and the points of one experiment's part
    abbrev PartPipe : Experiment → List ℕ → PipeRow → Type 0
    PartPipe e name row = Claims lab e name × IsPipe w name row

    abbrev PartRow : Experiment → Row → Type 0
    PartRow e row = IsOf lab e row × IsRow w row

    -- a neighbour of an experiment's row that an experiment wants is the same experiment's, and a neighbour in its part
    next_within : (e f : Experiment) (p q : Row) → Has es e → Has es f → IsOf lab e p → IsOf lab f q → Next lab (IsPipe w) p q → (e ≡ f) × Next lab (PartPipe e) p q
    next_within e f p q in_e in_f of_e of_f (by_switch vlan switch) = (same_vlan e f p q in_e in_f of_e of_f vlan, by_switch vlan switch)
    next_within e f p q in_e in_f of_e of_f (by_trunk t in_lab vlan ends) = (same_vlan e f p q in_e in_f of_e of_f vlan, by_trunk t in_lab vlan ends)
    next_within e f p q in_e in_f of_e of_f (by_pipe node row stands (inl at)) =
        let mine = claims_at e node row.from p in_e at.0 of_e in
        (same_node e f node in_e in_f mine (claims_at f node row.to q in_f at.1 of_f), by_pipe node row (mine, stands) (inl at))
    next_within e f p q in_e in_f of_e of_f (by_pipe node row stands (inr at)) =
        let mine = claims_at e node row.to p in_e at.0 of_e in
        (same_node e f node in_e in_f mine (claims_at f node row.from q in_f at.1 of_f), by_pipe node row (mine, stands) (inr at))

    -- so a path stays in the part that it begins in
    stays_within : AllWanted lab es w → (e : Experiment) (p : Row) (path : List Row) (q : Row) → Has es e → IsOf lab e p → LeadsOn lab (IsPipe w) (IsRow w) p path q → IsOf lab e q × LeadsOn lab (PartPipe e) (PartRow e) p path q
    stays_within wanted e p [] q in_e of_e leads = (subst (λ r. IsOf lab e r) leads of_e, leads)
    stays_within wanted e p (mid ∷ path) q in_e of_e leads =
        let by = wanted mid leads.0 in
        let next = next_within e by.0 p mid in_e by.1 of_e by.2 leads.1 in
        let of_mid = subst (λ f. IsOf lab f mid) (sym next.0) by.2 in
        let rest = stays_within wanted e mid path q in_e of_mid leads.2 in
        (rest.0, ((of_mid, leads.0), next.1, rest.1))

    wider_next : (e : Experiment) (p q : Row) → Next lab (PartPipe e) p q → Next lab (IsPipe w) p q
    wider_next e p q (by_switch vlan switch) = by_switch vlan switch
    wider_next e p q (by_trunk t in_lab vlan ends) = by_trunk t in_lab vlan ends
    wider_next e p q (by_pipe node row stands ends) = by_pipe node row stands.1 ends

    wider : (e : Experiment) (p : Row) (path : List Row) (q : Row) → LeadsOn lab (PartPipe e) (PartRow e) p path q → LeadsOn lab (IsPipe w) (IsRow w) p path q
    wider e p [] q leads = leads
    wider e p (mid ∷ path) q leads = (leads.0.1, wider_next e p mid leads.1, wider e mid path q leads.2)

    -- what the parts say together is what is said of the whole
    pub whole_from_parts : Parts lab es w → Isolated lab es w × Cabled lab es w
    whole_from_parts parts = (
      record {
        owned = λ p is. let by = parts.wanted p is in
            (record { exp = by.0.name; which = by.2.0; link = by.2.1 }, record { by = by.0; listed = by.1; name_is = refl; wants = by.2.2 });
        apart = λ p q a b reach own_a own_b.
            let within = stays_within parts.wanted own_a.by p reach.1.0 q own_a.listed (a.which, a.link, own_a.wants) reach.1.1 in
            let same : own_a.by ≡ own_b.by = same_vlan own_a.by own_b.by q q own_a.listed own_b.listed within.0 (b.which, b.link, own_b.wants) refl in
            let r = (parts.each own_a.by own_a.listed).apart p q a.which a.link b.which b.link
            (((a.which, a.link, own_a.wants), reach.0), (reach.1.0, within.1)) own_a.wants (subst (λ e. Wants lab e q b.which b.link) (sym same) own_b.wants) in
            let name : a.exp ≡ b.exp = sym own_a.name_is ∙ ap (λ e. e.name) same ∙ own_b.name_is in
            (λ i. record { exp = name i; which = r.0 i; link = r.1 i });
      },
      record { wanted = parts.wanted; phases = λ e in_e. (parts.each e in_e).phase; free = parts.free },
    )

    -- and the other way round
    pub parts_from_whole : Isolated lab es w → Cabled lab es w → Parts lab es w
    parts_from_whole isolated cabled = record {
      wanted = cabled.wanted;
      free = cabled.free;
      each = λ e in_e. record {
        apart = λ p q which link which' link' reach wants wants'.
            let a : Owner = record { exp = e.name; which = which; link = link } in
            let b : Owner = record { exp = e.name; which = which'; link = link' } in
            let same : a ≡ b = isolated.apart p q a b (reach.0.1, (reach.1.0, wider e p reach.1.0 q reach.1.1))
            (record { by = e; listed = in_e; name_is = refl; wants = wants }) (record { by = e; listed = in_e; name_is = refl; wants = wants' }) in
            (ap (λ o. o.which) same, ap (λ o. o.link) same);
        phase = cabled.phases e in_e;
      };
    }
