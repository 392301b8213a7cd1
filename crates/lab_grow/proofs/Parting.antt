-- The parts of experiments that don't move: what is cabled is isolated.
use Rattle.std.proofs.Common.{◌≡◌, inl, inr, ℕ, true, false, Some, None, Ok, List, [], ◌∷◌, ◌++◌, refl, sym, ap, ◌∙◌, subst}
use Rattle.std.proofs.lemmas.Bool.{and_from, or_left, or_right, eq-eqb, false≢true}
use Rattle.std.proofs.lemmas.Option.{same_Some}
use Rattle.std.proofs.lemmas.Slice.Eq.{bytes_eq-Decides}
use Rattle.lab_base.specs.Lists.{Has, AllDiffer}
use Rattle.lab_base.specs.declared.ids.VlanId.{VlanId}
use Rattle.lab_base.proofs.Members.{flat-each}
use Rattle.phys_lab.specs.Labs.{Lab}
use Rattle.phys_lab.specs.Kept.{IsLab}
use Rattle.virt_topo.specs.Wirings.{mapped}
use Rattle.virt_topo.specs.declared.wiring.Wiring.{Wiring}
use Rattle.virt_topo.specs.declared.mapping.Mapping.{Mapping}
use Rattle.virt_topo.specs.declared.mapping.Mapped.{Mapped}
use Rattle.virt_topo.specs.declared.experiment.Experiment.{Experiment}
use Rattle.virt_topo.specs.declared.experiment.Phase.{Phase}
use Rattle.virt_topo.specs.declared.experiment.Phase.TheVariants.{Out, In, Moving}
use Rattle.plant.specs.Worlds.{Row, PipeRow, NodeRow, World, is_row}
use Rattle.plant.specs.declared.device.Answer.TheVariants.{Done}
use Rattle.plant.specs.declared.device.DeviceOp.{DeviceOp}
use Rattle.lab_model.specs.Wants.{Owned, rows_of}
use Rattle.lab_model.specs.Claims.{Which, Old, New, claimed, claimed_in, claimed_tags, tags_of, Wants, Places, Claims, IsOf}
use Rattle.lab_model.specs.Reach.{Next, by_switch, by_trunk, by_pipe, LeadsOn, Reaches}
use Rattle.lab_model.specs.Isolated.{IsRow, IsPipe}
use Rattle.lab_model.specs.Courses.{join}
use Rattle.lab_model.specs.Leavings.{did, OneSided}
use Rattle.lab_model.specs.Holding.{Suits, Holding}
use Rattle.lab_model.specs.Cabled.{CabledPhase, Cabled}
use Rattle.lab_model.specs.Parts.{Part, Parts}
use Rattle.lab_model.proofs.CourseLaws.{AddsOnly, sided_after}
use Rattle.lab_model.proofs.Safe.{Building, safe}
use Rattle.lab_model.proofs.PartLaws.{whole_from_parts}
use Rattle.records_model.specs.Labs.{HasText}
use Rattle.records_model.proofs.Finding.{none_some}
use Rattle.lab_state.specs.Texts.{the_texts}
use Rattle.lab_grow.specs.Carried.{IsAtRest, IsSamePhase, AreSame}
use Rattle.lab_grow.specs.Named.{AreStaying}
use Rattle.lab_grow.proofs.Staying.{world_stays}

-- what an experiment has of a frame reaches only ports of its own link or LAN
abbrev Apartness : Lab → World → Experiment → Type 0
Apartness lab w e = (p q : Row) (which : Which) (link : List ℕ) (which' : Which) (link' : List ℕ)
    → Reaches lab (λ name pipe. Claims lab e name × IsPipe w name pipe) (λ row. IsOf lab e row × IsRow w row) p q
    → Wants lab e p which link → Wants lab e q which' link' → (which ≡ which') × (link ≡ link')

-- a path over pipes and points is one over any that have these
leads_as : (lab : Lab) (Pipe Wider : List ℕ → PipeRow → Type 0) (Point Also : Row → Type 0) → ((name : List ℕ) (pipe : PipeRow) → Pipe name pipe → Wider name pipe)
    → ((row : Row) → Point row → Also row) → (p : Row) (path : List Row) (q : Row) → LeadsOn lab Pipe Point p path q → LeadsOn lab Wider Also p path q
leads_as lab Pipe Wider Point Also pipes points p [] q leads = leads
leads_as lab Pipe Wider Point Also pipes points p (mid ∷ path) q leads = (points mid leads.0, next leads.1, leads_as lab Pipe Wider Point Also pipes points mid path q leads.2)
  where
    next : Next lab Pipe p mid → Next lab Wider p mid
    next (by_switch vlan switch) = by_switch vlan switch
    next (by_trunk t in_lab vlan ends) = by_trunk t in_lab vlan ends
    next (by_pipe node pipe stands ends) = by_pipe node pipe (pipes node pipe stands) ends

-- the world with these rows joined
abbrev joined : List Owned → World → World
joined [] w = w
joined (o ∷ os) w = joined os (did w (join o) true (Ok Done))

joined_nodes : (os : List Owned) (w : World) (name : List ℕ) → (joined os w).node name ≡ w.node name
joined_nodes [] w name = refl
joined_nodes (o ∷ os) w name = joined_nodes os (did w (join o) true (Ok Done)) name

joined_stays : (os : List Owned) (w : World) (row : Row) → IsRow w row → IsRow (joined os w) row
joined_stays [] w row is = is
joined_stays (o ∷ os) w row is = joined_stays os (did w (join o) true (Ok Done)) row (or_right (is_row o.row.switch o.row.port o.row.vlan row) (w.rows row) is)

joined_rows : (os : List Owned) (w : World) (o : Owned) → Has os o → IsRow (joined os w) o.row
joined_rows [] w o has = absurd has
joined_rows (x ∷ os) w o (inl is) =
    let here : is_row x.row.switch x.row.port x.row.vlan x.row ≡ true =
    and_from _ _ (and_from _ _ ((bytes_eq-Decides x.row.switch x.row.switch).1 refl) (eq-eqb x.row.port x.row.port refl)) (eq-eqb x.row.vlan x.row.vlan refl) in
    joined_stays os (did w (join x) true (Ok Done)) o.row (subst (λ (y : Owned). IsRow (did w (join x) true (Ok Done)) y.row) is (or_left (is_row x.row.switch x.row.port x.row.vlan x.row) (w.rows x.row) here))
joined_rows (x ∷ os) w o (inr more) = joined_rows os (did w (join x) true (Ok Done)) o more

-- An experiment that is In, in a world where its nodes are as its mapping wants them and its rows stand. As one that moves in it has its part where
-- none of its rows stand yet, and each row that is joined keeps that.
module _ (lab : Lab) (w : World) (f : Experiment) (a : Mapping) (tags : List VlanId) (inside : f.phase ≡ In a tags) (is_lab : IsLab lab)
    (suits : Suits lab (mapped f.wiring a tags)) (differ : AllDiffer (claimed_tags f)) (cabled : CabledPhase lab w f (In a tags)) where
  abbrev m : Mapped
  m = mapped f.wiring a tags

  abbrev moving : Experiment
  moving = record f { phase = Moving None (Some m) }

  abbrev rowless : World
  rowless = record { rows = λ row. false; node = w.node }

  same_claims : (which : Which) (n : Mapped) → claimed f which ≡ Some n → claimed moving which ≡ Some n
  same_claims Old n is = none_some n (sym (ap (λ (p : Phase). claimed_in f.wiring p Old) inside) ∙ is)
  same_claims New n is = sym (ap (λ (p : Phase). claimed_in f.wiring p New) inside) ∙ is

  only_one : (which : Which) (n : Mapped) → claimed moving which ≡ Some n → m ≡ n
  only_one Old n is = none_some n is
  only_one New n is = same_Some m n is

  wants_too : (row : Row) (which : Which) (link : List ℕ) → Wants lab f row which link → Wants lab moving row which link
  wants_too row which link wants = record { mapped = wants.mapped; is = same_claims which wants.mapped wants.is; row_of = wants.row_of }

  claims_too : (name : List ℕ) → Claims lab f name → Claims lab moving name
  claims_too name claims = record { which = claims.which; mapped = claims.mapped; is = same_claims claims.which claims.mapped claims.is; placed = claims.placed }

  row_of_m : (row : Row) → IsOf lab moving row → (link : List ℕ) × Has (rows_of lab m) (record { row = row; owner = link })
  row_of_m row of = (of.1, subst (λ (x : Mapped). Has (rows_of lab x) (record { row = row; owner = of.1 })) (sym (only_one of.0 of.2.mapped of.2.is)) of.2.row_of)

  placed_by : (name : List ℕ) → Claims lab moving name → Places lab m name
  placed_by name claims = subst (λ (x : Mapped). Places lab x name) (sym (only_one claims.which claims.mapped claims.is)) claims.placed

  sided_first : OneSided lab rowless moving m
  sided_first = record {
    rows = λ row of is. absurd (false≢true is);
    pipes = λ name k pipe claims stands. sym ((cabled.1 name (placed_by name claims)).pipes k) ∙ stands;
  }

  part_first : Part lab rowless moving
  part_first = record {
    apart = λ p q which link which' link' reach first second. absurd (false≢true reach.0.1);
    phase = (λ n name claims is kept. absurd (false≢true kept), λ name k pipe claims not_kept stands. inr (sided_first.pipes name k pipe claims stands));
  }

  differ_moving : AllDiffer (claimed_tags moving)
  differ_moving = subst (λ (p : Phase). AllDiffer (tags_of (claimed_in f.wiring p Old) ++ tags_of (claimed_in f.wiring p New))) inside differ

  part_joined : (os : List Owned) (v : World) → ((o : Owned) → Has os o → Has (rows_of lab m) o) → OneSided lab v moving m → Part lab v moving → Part lab (joined os v) moving
  part_joined [] v among sided part = part
  part_joined (o ∷ os) v among sided part =
      let wanted = among o (inl refl) in
      let adds : AddsOnly lab m (join o) = record {
        row = λ row is. (o.owner, subst (λ (r : Row). Has (rows_of lab m) (record { row = r; owner = o.owner })) (same_Some o.row row is) wanted);
        pipe = λ name k pipe is. none_some (name, k, pipe) is;
      } in
      part_joined os (did v (join o) true (Ok Done)) (λ x has. among x (inr has)) (sided_after lab v moving m (join o) true (Ok Done) sided adds)
      (safe lab moving None (Some m) refl New m is_lab suits refl differ_moving [] (join o ∷ []) [] [] v (record { todo = join o ∷ []; boot = []; watch = None }) (join o) true (Ok Done)
      (λ x has. absurd has)
      (record {
        todo = λ x has. elim has [ inl is ↦ subst (λ (y : DeviceOp). Building lab moving None (Some m) refl New m is_lab suits refl differ_moving y) is (adds, λ name goes. refl) | inr none ↦ absurd none ];
        boot = λ name has. absurd has;
        watch = λ x is. none_some x is;
      })
      sided part refl refl)

  -- so the part is isolated
  apart_in : Apartness lab w f
  apart_in p q which link which' link' reach first second =
      let rows = rows_of lab m in
      let part = part_joined rows rowless (λ o has. has) sided_first part_first in
      let point : (row : Row) → IsOf lab f row × IsRow w row → IsOf lab moving row × IsRow (joined rows rowless) row = λ row on.
      let of : IsOf lab moving row = (on.0.0, on.0.1, wants_too row on.0.0 on.0.1 on.0.2) in
      let has = row_of_m row of in
      (of, joined_rows rows rowless (record { row = row; owner = has.0 }) has.1) in
      let pipe : (name : List ℕ) (pipe : PipeRow) → Claims lab f name × IsPipe w name pipe → Claims lab moving name × IsPipe (joined rows rowless) name pipe = λ name pipe on.
      (claims_too name on.0, (on.1.0, ap (λ (n : NodeRow). n.pipes on.1.0) (joined_nodes rows rowless name) ∙ on.1.1)) in
      let leads = leads_as lab (λ name pipe. Claims lab f name × IsPipe w name pipe) (λ name pipe. Claims lab moving name × IsPipe (joined rows rowless) name pipe)
      (λ row. IsOf lab f row × IsRow w row) (λ row. IsOf lab moving row × IsRow (joined rows rowless) row) pipe point p reach.1.0 q reach.1.1 in
      part.apart p q which link which' link' (point p reach.0, (reach.1.0, leads)) (wants_too p which link first) (wants_too q which' link' second)

module _ (lab : Lab) (es : List Experiment) (world : World) (is_lab : IsLab lab) (holding : Holding lab es) (cabled : Cabled lab es world) where
  apart_of : (e : Experiment) (p : Phase) → Has es e → e.phase ≡ p → IsAtRest p → Apartness lab world e
  apart_of e Out among is rest = λ p q which link which' link' reach first second. none_some first.mapped (sym (ap (λ (x : Phase). claimed_in e.wiring x which) is) ∙ first.is)
  apart_of e (In a tags) among is rest = apart_in lab world e a tags is is_lab
      (holding.fits e New (mapped e.wiring a tags) among (ap (λ (x : Phase). claimed_in e.wiring x New) is)) (flat-each claimed_tags es e holding.tags among)
      (subst (λ (x : Phase). CabledPhase lab world e x) is (cabled.phases e among))
  apart_of e (Moving a b) among is rest = absurd rest

  -- what is cabled has its parts, where nothing moves
  parts_of : ((e : Experiment) → Has es e → IsAtRest e.phase) → Parts lab es world
  parts_of rest = record {
    wanted = cabled.wanted;
    free = cabled.free;
    each = λ e among. record { apart = apart_of e e.phase among refl (rest e among); phase = cabled.phases e among };
  }

rest_in : (old new : Lab) (w : Wiring) (p q : Phase) → IsSamePhase the_texts old new w p q → IsAtRest q
rest_in old new w Out Out same = tt
rest_in old new w (In a tags) (In b ids) same = tt
rest_in old new w Out (In b ids) same = absurd same
rest_in old new w Out (Moving b c) same = absurd same
rest_in old new w (In a tags) Out same = absurd same
rest_in old new w (In a tags) (Moving b c) same = absurd same
rest_in old new w (Moving a c) q same = absurd same

rest_there : (old new : Lab) (es fs : List Experiment) → AreSame the_texts old new es fs → (f : Experiment) → Has fs f → IsAtRest f.phase
rest_there old new es [] same f among = absurd among
rest_there old new [] (y ∷ fs) same f among = absurd same
rest_there old new (x ∷ es) (y ∷ fs) same f (inl is) = subst (λ (z : Experiment). IsAtRest z.phase) is (rest_in old new x.wiring x.phase y.phase same.0.phase)
rest_there old new (x ∷ es) (y ∷ fs) same f (inr more) = rest_there old new es fs same.1 f more

-- THE PARTS STAY: what the controller keeps of the devices for the old lab, it finds kept for the new one
pub parts_stay : (old new : Lab) (es fs : List Experiment) (world : World) → IsLab old → IsLab new → Holding old es → Holding new fs
    → ((e : Experiment) → Has es e → HasText the_texts e.wiring) → AreSame the_texts old new es fs → AreStaying old new es fs → Parts old es world → Parts new fs world
parts_stay old new es fs world old_is new_is holding there text same stays parts =
    let cabled = (whole_from_parts old es old_is holding world parts).1 in
    parts_of new fs world new_is there (world_stays old new es fs world old_is new_is holding text same stays cabled) (rest_there old new es fs same)
