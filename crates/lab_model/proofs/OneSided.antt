-- Rows and pipes of one mapping alone are isolated.
use Rattle.std.specs.List.{filter_map, cons_option}
use Rattle.std.specs.Str.{bytes_eq}
use Rattle.std.proofs.Common.{◌≡◌, ◌≢◌, inl, inr, ℕ, suc, ◌+◌, ◌-◌, ◌<◌, cond, eqb, Some, None, List, [], ◌∷◌, false, length, map, get_or, refl, sym, ap, ◌∙◌, subst, arith}
use Rattle.std.proofs.lemmas.Bool.{cases_Bool, eqb-true}
use Rattle.std.proofs.lemmas.Slice.Eq.{bytes_eq-Decides}
use Rattle.lab_base.specs.Lists.{Has, AllDiffer}
use Rattle.lab_base.proofs.Members.{Apart-left, Apart-right, Apart-across, Has-slice_get}
use Rattle.phys_lab.specs.Labs.{Lab}
use Rattle.phys_lab.specs.Kept.{IsLab}
use Rattle.virt_topo.specs.Ends.{end_nodes, end_owners, end_multiplexed, end_number, pipe_from, pipe_to}
use Rattle.virt_topo.specs.declared.wiring.Pipe.{Pipe}
use Rattle.virt_topo.specs.declared.mapping.Mapped.{Mapped}
use Rattle.virt_topo.specs.declared.experiment.Experiment.{Experiment}
use Rattle.plant.specs.Worlds.{Row, PipeRow, World}
use Rattle.lab_model.specs.Leavings.{OneSided}
use Rattle.lab_model.specs.Wants.{Owned, place_of, plug_name, pipe_row, pipes_on, rows_of, cables_in}
use Rattle.lab_model.specs.Claims.{Which, Old, New, claimed, Wants, Claims, claimed_tags, tags_of, IsOf}
use Rattle.lab_model.specs.Reach.{IsAt, Next, by_switch, by_trunk, by_pipe, LeadsOn, Reaches}
use Rattle.lab_model.specs.Holding.{Suits}
use Rattle.lab_model.specs.Rules.{plug_at}
use Rattle.lab_model.specs.Isolated.{IsRow, IsPipe}
use Rattle.lab_model.proofs.LabFacts.{one_port, no_trunk_port, one_name}
use Rattle.lab_model.proofs.SuitLaws.{plug_in, plug_node, plug_alone, flag_at}
use Rattle.lab_model.proofs.WiringLaws.{sound_pipes}
use Rattle.lab_model.proofs.Rows.{owned_from, owned_tag, owned_once}

-- the end with that number is of that virtual node
pub end_number-at : (xs : List ℕ) (v k : ℕ) → end_number xs v k < length xs → get_or xs (end_number xs v k) 0 ≡ v
end_number-at [] v k h = absurd (omega arith)
end_number-at (x ∷ xs) v k h = elim (cases_Bool (eqb x v)) [
  | inl same ↦ elim (cases_Bool (eqb k 0)) [
    | inl first ↦
        let e : end_number (x ∷ xs) v k ≡ 0 = ap (λ b. cond b (cond (eqb k 0) 0 (end_number xs v (k - 1) + 1)) (end_number xs v k + 1)) same ∙ ap (λ b. cond b 0 (end_number xs v (k - 1) + 1)) first in
        ap (λ n. get_or (x ∷ xs) n 0) e ∙ eqb-true x v same
    | inr later ↦
        let e : end_number (x ∷ xs) v k ≡ suc (end_number xs v (k - 1)) = ap (λ b. cond b (cond (eqb k 0) 0 (end_number xs v (k - 1) + 1)) (end_number xs v k + 1)) same ∙ ap (λ b. cond b 0 (end_number xs v (k - 1) + 1)) later ∙ omega arith in
        ap (λ n. get_or (x ∷ xs) n 0) e ∙ end_number-at xs v (k - 1) (omega (arith, e, h))
  ]
  | inr other ↦
      let e : end_number (x ∷ xs) v k ≡ suc (end_number xs v k) = ap (λ b. cond b (cond (eqb k 0) 0 (end_number xs v (k - 1) + 1)) (end_number xs v k + 1)) other ∙ omega arith in
      ap (λ n. get_or (x ∷ xs) n 0) e ∙ end_number-at xs v k (omega (arith, e, h))
]

-- a pipe that is wanted on a node is one of the wiring's there
pub record WantedPipe (lab : Lab) (m : Mapped) (name : List ℕ) (row : PipeRow) : Type 0 where
  pub from : Pipe
  pub in_wiring : Has m.wiring.pipes from
  pub placed : place_of lab m from.node ≡ name
  pub row_is : pipe_row lab m from ≡ row

module _ (lab : Lab) (m : Mapped) (name : List ℕ) (row : PipeRow) where
  some_pipe : (ps : List Pipe) → Has (filter_map (λ p. cond (bytes_eq (place_of lab m p.node) name) (Some (pipe_row lab m p)) None) ps) row
      → (p : Pipe) × Has ps p × (place_of lab m p.node ≡ name) × (pipe_row lab m p ≡ row)
  some_pipe [] h = absurd h
  some_pipe (p ∷ ps) h = elim (cases_Bool (bytes_eq (place_of lab m p.node) name)) [
    | inl is ↦
        let h' : Has (pipe_row lab m p ∷ filter_map (λ q. cond (bytes_eq (place_of lab m q.node) name) (Some (pipe_row lab m q)) None) ps) row =
        subst (λ b. Has (cons_option (cond b (Some (pipe_row lab m p)) None) (filter_map (λ q. cond (bytes_eq (place_of lab m q.node) name) (Some (pipe_row lab m q)) None) ps)) row) is h in
        elim h' [
          | inl e ↦ (p, inl refl, (bytes_eq-Decides _ _).0 is, e)
          | inr g ↦ let r = some_pipe ps g in (r.0, inr r.1, r.2, r.3)
        ]
    | inr is_not ↦
        let h' : Has (filter_map (λ q. cond (bytes_eq (place_of lab m q.node) name) (Some (pipe_row lab m q)) None) ps) row =
        subst (λ b. Has (cons_option (cond b (Some (pipe_row lab m p)) None) (filter_map (λ q. cond (bytes_eq (place_of lab m q.node) name) (Some (pipe_row lab m q)) None) ps)) row) is_not h in
        let r = some_pipe ps h' in (r.0, inr r.1, r.2, r.3)
  ]

  pub wanted_pipe : Has (pipes_on lab m name) row → WantedPipe lab m name row
  wanted_pipe h = let r = some_pipe m.wiring.pipes h in record { from = r.0; in_wiring = r.1; placed = r.2; row_is = r.3 }

module _ (lab : Lab) (m : Mapped) (is_lab : IsLab lab) (suits : Suits lab m) where
  -- a row at the interface of an end whose segment isn't multiplexed is owned by that segment's owner
  end_owner : (e : ℕ) (name : List ℕ) (row : Row) (link : List ℕ) → e < length (end_nodes m.wiring.segments) → place_of lab m (get_or (end_nodes m.wiring.segments) e 0) ≡ name
      → get_or (end_multiplexed m.wiring.segments) e false ≡ false → IsAt lab name (plug_name lab m e) row → Has (rows_of lab m) (record { row = row; owner = link }) → get_or (end_owners m.wiring.segments) e [] ≡ link
  end_owner e name row link end placed alone at wanted = elim (owned_from lab m.wiring.segments m.mapping.plugs m.tags (record { row = row; owner = link }) wanted) [
    | inl r ↦
        let in_plugs : e < length m.mapping.plugs = omega (arith, end, suits.shaped.plugs) in
        let r_in : r.number < length m.mapping.plugs = omega (arith, r.is_end, suits.shaped.plugs) in
        let here : at.number.0 ≡ (plug_at m.mapping e).0 = one_name lab is_lab at.number (plug_at m.mapping e) at.in_lab (plug_in lab m suits e in_plugs) (at.node_is ∙ sym placed ∙ sym (plug_node lab m suits e in_plugs)) at.name_is in
        let there : at.number.0 ≡ (plug_at m.mapping r.number).0 = one_port lab is_lab at.number (plug_at m.mapping r.number) at.in_lab (plug_in lab m suits r.number r_in) (sym at.switch_is ∙ r.switch_is) (sym at.port_is ∙ r.port_is) in
        let one : e ≡ r.number = plug_alone lab m suits e r.number in_plugs r_in (flag_at m.wiring e ∙ alone) (sym here ∙ there) in
        ap (λ n. get_or (end_owners m.wiring.segments) n []) one ∙ r.owner_is
    | inr t ↦
        let apart = no_trunk_port lab is_lab at.number t.trunk at.in_lab t.in_lab in
        absurd (elim t.ends [
          | inl a ↦ apart.0 (sym at.switch_is ∙ a.0) (sym at.port_is ∙ a.1)
          | inr b ↦ apart.1 (sym at.switch_is ∙ b.0) (sym at.port_is ∙ b.1)
        ])
  ]

  -- the rows at the two interfaces of a wanted pipe have one owner
  pub pipe_owner : (name : List ℕ) (row : PipeRow) (p q : Row) (a b : List ℕ) → Has (pipes_on lab m name) row → IsAt lab name row.from p → IsAt lab name row.to q
      → Has (rows_of lab m) (record { row = p; owner = a }) → Has (rows_of lab m) (record { row = q; owner = b }) → a ≡ b
  pipe_owner name row p q a b has at_p at_q wants_p wants_q =
      let w = wanted_pipe lab m name row has in
      let sound = sound_pipes m.wiring suits.sound w.from w.in_wiring in
      let placed_from : place_of lab m (get_or (end_nodes m.wiring.segments) (pipe_from m.wiring w.from) 0) ≡ name = ap (λ v. place_of lab m v) (end_number-at (end_nodes m.wiring.segments) w.from.node w.from.from sound.from_end) ∙ w.placed in
      let placed_to : place_of lab m (get_or (end_nodes m.wiring.segments) (pipe_to m.wiring w.from) 0) ≡ name = ap (λ v. place_of lab m v) (end_number-at (end_nodes m.wiring.segments) w.from.node w.from.to sound.to_end) ∙ w.placed in
      let at_from = subst (λ n. IsAt lab name n p) (sym (ap (λ r. r.from) w.row_is)) at_p in
      let at_to = subst (λ n. IsAt lab name n q) (sym (ap (λ r. r.to) w.row_is)) at_q in
      sym (end_owner (pipe_from m.wiring w.from) name p a sound.from_end placed_from sound.from_alone at_from wants_p)
      ∙ sound.one_owner
      ∙ end_owner (pipe_to m.wiring w.from) name q b sound.to_end placed_to sound.to_alone at_to wants_q

pub last_point : (lab : Lab) (Pipe : List ℕ → PipeRow → Type 0) (Point : Row → Type 0) (p : Row) (path : List Row) (q : Row) → Point p → LeadsOn lab Pipe Point p path q → Point q
last_point lab Pipe Point p [] q here same = subst (λ r. Point r) same here
last_point lab Pipe Point p (mid ∷ path) q here leads = last_point lab Pipe Point mid path q leads.0 leads.2

module _ (lab : Lab) (w : World) (e : Experiment) (which : Which) (m : Mapped) (is_lab : IsLab lab) (suits : Suits lab m) (mine : claimed e which ≡ Some m) (differ : AllDiffer (claimed_tags e)) where
  tags_differ : AllDiffer (map (λ tag. tag.0) m.tags)
  tags_differ = elim which as (λ x. claimed e x ≡ Some m → AllDiffer (map (λ tag. tag.0) m.tags)) [
    | Old ↦ λ is. subst (λ o. AllDiffer (tags_of o)) is (Apart-left (λ x y. x ≢ y) (tags_of (claimed e Old)) (tags_of (claimed e New)) differ)
    | New ↦ λ is. subst (λ o. AllDiffer (tags_of o)) is (Apart-right (λ x y. x ≢ y) (tags_of (claimed e Old)) (tags_of (claimed e New)) differ)
  ] mine

  tag_in : (x : Which) (n : Mapped) (o : Owned) → claimed e x ≡ Some n → Has (rows_of lab n) o → Has (tags_of (claimed e x)) o.row.vlan
  tag_in x n o is has = subst (λ c. Has (tags_of c) o.row.vlan) (sym is) (owned_tag lab (cables_in n) n.tags o has)

  one_side : (x y : Which) (n : Mapped) (row : Row) (link link' : List ℕ) → claimed e x ≡ Some m → claimed e y ≡ Some n → Has (rows_of lab m) (record { row = row; owner = link }) → Has (rows_of lab n) (record { row = row; owner = link' }) → (y ≡ x) × (link' ≡ link)
  one_side Old Old n row link link' is_m is_n h g = let same : n ≡ m = cc in (refl, owned_once lab (cables_in m) m.tags (record { row = row; owner = link' }) (record { row = row; owner = link }) tags_differ (subst (λ c. Has (rows_of lab c) (record { row = row; owner = link' })) same g) h refl)
  one_side New New n row link link' is_m is_n h g = let same : n ≡ m = cc in (refl, owned_once lab (cables_in m) m.tags (record { row = row; owner = link' }) (record { row = row; owner = link }) tags_differ (subst (λ c. Has (rows_of lab c) (record { row = row; owner = link' })) same g) h refl)
  one_side Old New n row link link' is_m is_n h g = absurd (Apart-across (λ x y. x ≢ y) (tags_of (claimed e Old)) (tags_of (claimed e New)) row.vlan row.vlan differ (tag_in Old m _ is_m h) (tag_in New n _ is_n g) refl)
  one_side New Old n row link link' is_m is_n h g = absurd (Apart-across (λ x y. x ≢ y) (tags_of (claimed e Old)) (tags_of (claimed e New)) row.vlan row.vlan differ (tag_in Old n _ is_n g) (tag_in New m _ is_m h) refl)

  -- a row of the mapping is wanted by no other, and for one link
  one_owner : (row : Row) (link : List ℕ) (which' : Which) (link' : List ℕ) → Has (rows_of lab m) (record { row = row; owner = link }) → Wants lab e row which' link' → (which' ≡ which) × (link' ≡ link)
  one_owner row link which' link' has wants = one_side which which' wants.mapped row link link' mine wants.is has wants.row_of

  next_owner : OneSided lab w e m → (p q : Row) (a b : List ℕ) → Has (rows_of lab m) (record { row = p; owner = a }) → Has (rows_of lab m) (record { row = q; owner = b })
      → Next lab (λ name row. Claims lab e name × IsPipe w name row) p q → a ≡ b
  next_owner sided p q a b has_p has_q (by_switch vlan switch) = owned_once lab (cables_in m) m.tags _ _ tags_differ has_p has_q vlan
  next_owner sided p q a b has_p has_q (by_trunk t in_lab vlan ends) = owned_once lab (cables_in m) m.tags _ _ tags_differ has_p has_q vlan
  next_owner sided p q a b has_p has_q (by_pipe node row stands (inl at)) = pipe_owner lab m is_lab suits node row p q a b (Has-slice_get _ stands.1.0 row (sided.pipes node stands.1.0 row stands.0 stands.1.1)) at.0 at.1 has_p has_q
  next_owner sided p q a b has_p has_q (by_pipe node row stands (inr at)) = sym (pipe_owner lab m is_lab suits node row q p b a (Has-slice_get _ stands.1.0 row (sided.pipes node stands.1.0 row stands.0 stands.1.1)) at.1 at.0 has_q has_p)

  leads_owner : OneSided lab w e m → (p : Row) (path : List Row) (q : Row) (a b : List ℕ) → Has (rows_of lab m) (record { row = p; owner = a }) → Has (rows_of lab m) (record { row = q; owner = b })
      → LeadsOn lab (λ name row. Claims lab e name × IsPipe w name row) (λ row. IsOf lab e row × IsRow w row) p path q → a ≡ b
  leads_owner sided p [] q a b has_p has_q same = owned_once lab (cables_in m) m.tags _ _ tags_differ has_p has_q (ap (λ r. r.vlan) same)
  leads_owner sided p (mid ∷ path) q a b has_p has_q leads =
      let here = sided.rows mid leads.0.0 leads.0.1 in
      next_owner sided p mid a here.0 has_p here.1 leads.1 ∙ leads_owner sided mid path q here.0 b here.1 has_q leads.2

  -- so the part is isolated
  pub one_sided_apart : OneSided lab w e m → (p q : Row) (which' : Which) (link' : List ℕ) (which'' : Which) (link'' : List ℕ)
      → Reaches lab (λ name row. Claims lab e name × IsPipe w name row) (λ row. IsOf lab e row × IsRow w row) p q
      → Wants lab e p which' link' → Wants lab e q which'' link'' → (which' ≡ which'') × (link' ≡ link'')
  one_sided_apart sided p q which' link' which'' link'' reach wants_p wants_q =
      let end = last_point lab (λ name row. Claims lab e name × IsPipe w name row) (λ row. IsOf lab e row × IsRow w row) p reach.1.0 q reach.0 reach.1.1 in
      let here = sided.rows p reach.0.0 reach.0.1 in
      let there = sided.rows q end.0 end.1 in
      let a = one_owner p here.0 which' link' here.1 wants_p in
      let b = one_owner q there.0 which'' link'' there.1 wants_q in
      (a.0 ∙ sym b.0, a.1 ∙ leads_owner sided p reach.1.0 q here.0 there.0 here.1 there.1 reach.1.1 ∙ sym b.1)
