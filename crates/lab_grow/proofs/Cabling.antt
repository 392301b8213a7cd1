-- Devices that are cabled for the old lab are so for the new one, where each mapping has the same names and rows.
use Rattle.std.specs.Str.{bytes_eq}
use Rattle.std.specs.List.{filter_map, cons_option}
use Rattle.std.specs.Prelude.{slice_get}
use Rattle.std.proofs.Common.{◌≡◌, inl, inr, ℕ, drop, ◌<◌, if◌then◌else◌, Option, Some, None, List, [], ◌∷◌, map, length, get_or, refl, sym, ap, ◌∙◌, subst, arith}
use Rattle.std.proofs.Math.ListN.{get_or-map}
use Rattle.std.proofs.lemmas.Bool.{and_parts, ltb-true}
use Rattle.std.proofs.lemmas.List.{get_or_default, length-map}
use Rattle.std.proofs.lemmas.Option.{same_Some}
use Rattle.lab_base.specs.Lists.{Has}
use Rattle.lab_base.specs.declared.boot.Boot.TheVariants.{IsUp}
use Rattle.lab_base.specs.declared.ids.VlanId.{VlanId}
use Rattle.lab_base.proofs.Members.{all_has, Has-map, Has-mapped}
use Rattle.phys_lab.specs.Labs.{Lab}
use Rattle.virt_topo.specs.Ends.{end_nodes, pipe_from, pipe_to}
use Rattle.virt_topo.specs.Soundness.{IsSound, knows_pipe}
use Rattle.virt_topo.specs.Wirings.{mapped}
use Rattle.virt_topo.specs.declared.wiring.Pipe.{Pipe}
use Rattle.virt_topo.specs.declared.wiring.VirtNode.{VirtNode}
use Rattle.virt_topo.specs.declared.wiring.Wiring.{Wiring}
use Rattle.virt_topo.specs.declared.mapping.Mapping.{Mapping}
use Rattle.virt_topo.specs.declared.mapping.Mapped.{Mapped}
use Rattle.virt_topo.specs.declared.experiment.Experiment.{Experiment}
use Rattle.virt_topo.specs.declared.experiment.Phase.{Phase}
use Rattle.virt_topo.specs.declared.experiment.Phase.TheVariants.{Out, In, Moving}
use Rattle.plant.specs.Worlds.{Row, PipeRow, NodeRow, World}
use Rattle.lab_model.specs.Shapes.{Place, IsShaped}
use Rattle.lab_model.specs.Uses.{iface_at}
use Rattle.lab_model.specs.Rules.{no_place, place_at, plug_at}
use Rattle.lab_model.specs.Wants.{Owned, node_name, rows_of, place_of, os_on, pipe_row, pipes_on, node_row_of}
use Rattle.lab_model.specs.Claims.{Which, Old, New, claimed_in, Places, Claims, IsOf}
use Rattle.lab_model.specs.Cabled.{SameNode, CabledPhase, Cabled}
use Rattle.records_model.proofs.Finding.{none_some}
use Rattle.lab_model.proofs.WiringLaws.{known, sound_pipes}
use Rattle.lab_grow.proofs.Still.{named_place, named_plug, HasSameNames, IsStill, IsStillIn, AreStill}

-- an element of two lists that are one by their names
one_of : {X Y Z : Type 0} (f : X → Z) (g : Y → Z) (xs : List X) (ys : List Y) (i : ℕ) (x : X) (y : Y) → map f xs ≡ map g ys → i < length xs → f (get_or xs i x) ≡ g (get_or ys i y)
one_of {X} {Y} {Z} f g xs ys i x y same inside =
    let within : i < length (map f xs) = omega (arith, inside, length-map xs f) in
    sym (get_or-map f xs i x) ∙ get_or_default (map f xs) i (f x) (g y) within ∙ ap (λ (l : List Z). get_or l i (g y)) same ∙ get_or-map g ys i y

module _ (old new : Lab) (w : Wiring) (m n : Mapping) (tags ids : List VlanId) (sound : IsSound w) (shaped : IsShaped old w m) (names : HasSameNames old new m n) where
  place_same : (v : ℕ) → v < length w.nodes → node_name old (place_at m v).0 ≡ node_name new (place_at n v).0
  place_same v inside = ap (λ (x : List ℕ × List ℕ). x.0) (one_of (named_place old) (named_place new) m.places n.places v no_place no_place names.places (omega (arith, inside, shaped.places)))

  plug_same : (e : ℕ) → e < length (end_nodes w.segments) → (iface_at old (plug_at m e)).name ≡ (iface_at new (plug_at n e)).name
  plug_same e inside = ap (λ (x : List ℕ × List ℕ). x.1) (one_of (named_plug old) (named_plug new) m.plugs n.plugs e (record { 0 = 0 }) (record { 0 = 0 }) names.plugs (omega (arith, inside, shaped.plugs)))

  pipe_same : (p : Pipe) → Has w.pipes p → pipe_row old (mapped w m tags) p ≡ pipe_row new (mapped w n ids) p
  pipe_same p h =
      let is = sound_pipes w sound p h in
      let from = plug_same (pipe_from w p) is.from_end in
      let to = plug_same (pipe_to w p) is.to_end in
      λ i. record { from = from i; to = to i; there = p.there; back = p.back }

  pipe_on : (name : List ℕ) (p : Pipe) → Has w.pipes p
      → ◌≡◌ {A = Option PipeRow} (if bytes_eq (place_of old (mapped w m tags) p.node) name then Some (pipe_row old (mapped w m tags) p) else None) (if bytes_eq (place_of new (mapped w n ids) p.node) name then Some (pipe_row new (mapped w n ids) p) else None)
  pipe_on name p h =
      let knows = all_has (knows_pipe w) w.pipes p (and_parts _ _ (and_parts _ _ (known w sound).knows).1).1 h in
      let on = place_same p.node (ltb-true _ _ (and_parts _ _ knows).0) in
      let row = pipe_same p h in
      λ i. if bytes_eq (on i) name then Some (row i) else None

-- what is filtered by the same of each is the same
filtered : {X Y : Type 0} (f g : X → Option Y) (xs : List X) → ((x : X) → Has xs x → f x ≡ g x) → filter_map f xs ≡ filter_map g xs
filtered f g [] same = refl
filtered f g (x ∷ xs) same = let more = filtered f g xs (λ y h. same y (inr h)) in λ i. cons_option (same x (inl refl) i) (more i)

-- the OS on a machine
os_same : (old new : Lab) (vs : List VirtNode) (ps qs : List Place) (name : List ℕ) → map (named_place old) ps ≡ map (named_place new) qs → os_on old vs ps name ≡ os_on new vs qs name
os_same old new [] ps qs name same = refl
os_same old new (v ∷ vs) [] [] name same = refl
os_same old new (v ∷ vs) [] (q ∷ qs) name same = absurd (omega (arith, ap (λ (l : List (List ℕ × List ℕ)). length l) same))
os_same old new (v ∷ vs) (p ∷ ps) [] name same = absurd (omega (arith, ap (λ (l : List (List ℕ × List ℕ)). length l) same))
os_same old new (v ∷ vs) (p ∷ ps) (q ∷ qs) name same =
    let head : node_name old p.0 ≡ node_name new q.0 = ap (λ (l : List (List ℕ × List ℕ)). (get_or l 0 ([], [])).0) same in
    let more = os_same old new vs ps qs name (ap (λ (l : List (List ℕ × List ℕ)). drop 1 l) same) in
    λ i. if bytes_eq (head i) name then Some v.os else more i

-- names of places
names_of : (lab : Lab) (ps : List Place) → map (λ (x : List ℕ × List ℕ). x.0) (map (named_place lab) ps) ≡ map (λ p. node_name lab p.0) ps
names_of lab [] = refl
names_of lab (p ∷ ps) = ap (λ (l : List (List ℕ)). node_name lab p.0 ∷ l) (names_of lab ps)

-- a row among owned ones has an owner
owned_by : (os : List Owned) (row : Row) → Has (map (λ (o : Owned). o.row) os) row → (owner : List ℕ) × Has os (record { row = row; owner = owner })
owned_by os row h = let at = Has-map (λ (o : Owned). o.row) os row h in (at.0.owner, subst (λ (r : Row). Has os (record { row = r; owner = at.0.owner })) at.2 at.1)

module _ (old new : Lab) (m n : Mapped) (still : IsStill old new m n) where
  placed_same : map (λ p. node_name old p.0) m.mapping.places ≡ map (λ p. node_name new p.0) n.mapping.places
  placed_same = sym (names_of old m.mapping.places) ∙ ap (λ l. map (λ (x : List ℕ × List ℕ). x.0) l) still.names.places ∙ names_of new n.mapping.places

  places_there : (name : List ℕ) → Places old m name → Places new n name
  places_there name h = subst (λ (l : List (List ℕ)). Has l name) placed_same h

  places_here : (name : List ℕ) → Places new n name → Places old m name
  places_here name h = subst (λ (l : List (List ℕ)). Has l name) (sym placed_same) h

  node_same : (name : List ℕ) → node_row_of old m name ≡ node_row_of new n name
  node_same name =
      let w = m.wiring in
      let os : os_on old w.nodes m.mapping.places name ≡ os_on new n.wiring.nodes n.mapping.places name =
      os_same old new w.nodes m.mapping.places n.mapping.places name still.names.places ∙ ap (λ (v : Wiring). os_on new v.nodes n.mapping.places name) (sym still.wiring) in
      let pipes : pipes_on old m name ≡ pipes_on new (mapped w n.mapping n.tags) name =
      filtered _ _ w.pipes (pipe_on old new w m.mapping n.mapping m.tags n.tags still.sound still.shaped still.names name) in
      let all : pipes_on old m name ≡ pipes_on new n name = pipes ∙ ap (λ (v : Wiring). pipes_on new (mapped v n.mapping n.tags) name) (sym still.wiring) in
      λ i. record { os = os i; pipes = slice_get (all i); boot = Some IsUp }

  row_there : (row : Row) (link : List ℕ) → Has (rows_of old m) (record { row = row; owner = link }) → (other : List ℕ) × Has (rows_of new n) (record { row = row; owner = other })
  row_there row link h = owned_by (rows_of new n) row (still.rows.there row (Has-mapped (λ (o : Owned). o.row) (rows_of old m) (record { row = row; owner = link }) h))

  row_here : (row : Row) (link : List ℕ) → Has (rows_of new n) (record { row = row; owner = link }) → (other : List ℕ) × Has (rows_of old m) (record { row = row; owner = other })
  row_here row link h = owned_by (rows_of old m) row (still.rows.here row (Has-mapped (λ (o : Owned). o.row) (rows_of new n) (record { row = row; owner = link }) h))

-- the claimed mapping of the one and of the other
pub record Pair (old new : Lab) (a : Option Mapped) (b : Option Mapped) : Type 0 where
  pub first : Mapped
  pub second : Mapped
  pub has_first : a ≡ Some first
  pub has_second : b ≡ Some second
  pub still : IsStill old new first second

pair_there : (old new : Lab) (w v : Wiring) (p q : Phase) (which : Which) (m : Mapped) → IsStillIn old new w v p q → claimed_in w p which ≡ Some m → Pair old new (claimed_in w p which) (claimed_in v q which)
pair_there old new w v Out Out which m still is = none_some m is
pair_there old new w v (In a tags) (In b ids) Old m still is = none_some m is
pair_there old new w v (In a tags) (In b ids) New m still is = record { first = mapped w a tags; second = mapped v b ids; has_first = refl; has_second = refl; still = still }
pair_there old new w v Out (In b ids) which m still is = absurd still
pair_there old new w v Out (Moving b c) which m still is = absurd still
pair_there old new w v (In a tags) Out which m still is = absurd still
pair_there old new w v (In a tags) (Moving b c) which m still is = absurd still
pair_there old new w v (Moving a c) q which m still is = absurd still

pair_here : (old new : Lab) (w v : Wiring) (p q : Phase) (which : Which) (m : Mapped) → IsStillIn old new w v p q → claimed_in v q which ≡ Some m → Pair old new (claimed_in w p which) (claimed_in v q which)
pair_here old new w v Out Out which m still is = none_some m is
pair_here old new w v (In a tags) (In b ids) Old m still is = none_some m is
pair_here old new w v (In a tags) (In b ids) New m still is = record { first = mapped w a tags; second = mapped v b ids; has_first = refl; has_second = refl; still = still }
pair_here old new w v Out (In b ids) which m still is = absurd still
pair_here old new w v Out (Moving b c) which m still is = absurd still
pair_here old new w v (In a tags) Out which m still is = absurd still
pair_here old new w v (In a tags) (Moving b c) which m still is = absurd still
pair_here old new w v (Moving a c) q which m still is = absurd still

abbrev StillOne : Lab → Lab → Experiment → Experiment → Type 0
StillOne old new e f = IsStillIn old new e.wiring f.wiring e.phase f.phase

partner : (old new : Lab) (es fs : List Experiment) (e : Experiment) → AreStill old new es fs → Has es e → (f : Experiment) × Has fs f × StillOne old new e f
partner old new [] fs e still h = absurd h
partner old new (x ∷ es) [] e still h = absurd still
partner old new (x ∷ es) (y ∷ fs) e still (inl is) = (y, inl refl, subst (λ (z : Experiment). StillOne old new z y) is still.0)
partner old new (x ∷ es) (y ∷ fs) e still (inr h) = let more = partner old new es fs e still.1 h in (more.0, inr more.1, more.2)

partner_back : (old new : Lab) (es fs : List Experiment) (f : Experiment) → AreStill old new es fs → Has fs f → (e : Experiment) × Has es e × StillOne old new e f
partner_back old new es [] f still h = absurd h
partner_back old new [] (y ∷ fs) f still h = absurd still
partner_back old new (x ∷ es) (y ∷ fs) f still (inl is) = (x, inl refl, subst (λ (z : Experiment). StillOne old new x z) is still.0)
partner_back old new (x ∷ es) (y ∷ fs) f still (inr h) = let more = partner_back old new es fs f still.1 h in (more.0, inr more.1, more.2)

-- what an experiment wants and claims
wanted_there : (old new : Lab) (e f : Experiment) (row : Row) → StillOne old new e f → IsOf old e row → IsOf new f row
wanted_there old new e f row still of =
    let wants = of.2 in
    let pair = pair_there old new e.wiring f.wiring e.phase f.phase of.0 wants.mapped still wants.is in
    let same : wants.mapped ≡ pair.first = same_Some wants.mapped pair.first (sym wants.is ∙ pair.has_first) in
    let there = row_there old new pair.first pair.second pair.still row of.1 (subst (λ (m : Mapped). Has (rows_of old m) (record { row = row; owner = of.1 })) same wants.row_of) in
    (of.0, there.0, record { mapped = pair.second; is = pair.has_second; row_of = there.1 })

claims_there : (old new : Lab) (e f : Experiment) (name : List ℕ) → StillOne old new e f → Claims old e name → Claims new f name
claims_there old new e f name still c =
    let pair = pair_there old new e.wiring f.wiring e.phase f.phase c.which c.mapped still c.is in
    let same : c.mapped ≡ pair.first = same_Some c.mapped pair.first (sym c.is ∙ pair.has_first) in
    record { which = c.which; mapped = pair.second; is = pair.has_second; placed = places_there old new pair.first pair.second pair.still name (subst (λ (m : Mapped). Places old m name) same c.placed) }

phase_there : (old new : Lab) (world : World) (e f : Experiment) (p q : Phase) → IsStillIn old new e.wiring f.wiring p q → CabledPhase old world e p → CabledPhase new world f q
phase_there old new world e f Out Out still h = tt
phase_there old new world e f (In a tags) (In b ids) still h =
    let m = mapped e.wiring a tags in
    let n = mapped f.wiring b ids in (
      λ row link there. let here = row_here old new m n still row link there in h.0 row here.0 here.1,
      λ name there. subst (λ (r : NodeRow). SameNode (world.node name) r) (node_same old new m n still name) (h.1 name (places_here old new m n still name there)),
    )
phase_there old new world e f Out (In b ids) still h = absurd still
phase_there old new world e f Out (Moving b c) still h = absurd still
phase_there old new world e f (In a tags) Out still h = absurd still
phase_there old new world e f (In a tags) (Moving b c) still h = absurd still
phase_there old new world e f (Moving a c) q still h = absurd still

-- A WORLD THAT IS CABLED BY THE OLD LAB IS SO BY THE NEW ONE
pub cabled_there : (old new : Lab) (es fs : List Experiment) (world : World) → AreStill old new es fs → Cabled old es world → Cabled new fs world
cabled_there old new es fs world still c = record {
  wanted = λ row is.
      let of = c.wanted row is in
      let other = partner old new es fs of.0 still of.1 in
      (other.0, other.1, wanted_there old new of.0 other.0 row other.2 of.2);
  phases = λ f h.
      let other = partner_back old new es fs f still h in
      phase_there old new world other.0 f other.0.phase f.phase other.2 (c.phases other.0 other.1);
  free = λ name free. c.free name (λ e h claims. let other = partner old new es fs e still h in free other.0 other.1 (claims_there old new e other.0 name other.2 claims));
}
