-- The test of cabled says what cabled is.
use Rattle.std.specs.List.{list_any}
use Rattle.std.specs.Str.{bytes_eq}
use Rattle.std.specs.Prelude.{slice_get, is_some, is_none, if◌then◌else◌}
use Rattle.std.proofs.Common.{◌≡◌, ◌⊎◌, inl, inr, ℕ, ◌<◌, Bool, true, false, not, ◌||◌, ◌&&◌, Option, Some, None, List, [], ◌∷◌, length, fold, refl, sym, ap, ◌∙◌, subst}
use Rattle.std.proofs.lemmas.Bool.{cases_Bool, and_parts, and_from, or_cases, or_left, or_right, not-true, not_from_false, both_ways}
use Rattle.std.proofs.lemmas.Slice.Eq.{bytes_eq-Decides}
use Rattle.std.proofs.lemmas.Option.{same_Some}
use Rattle.lab_base.specs.Lists.{Has}
use Rattle.lab_base.specs.declared.ids.VlanId.{VlanId}
use Rattle.lab_base.proofs.Members.{Has-map, any_has, all_has, any_from, all_from}
use Rattle.phys_lab.specs.Labs.{Lab}
use Rattle.virt_topo.specs.declared.mapping.Mapping.{Mapping}
use Rattle.virt_topo.specs.declared.mapping.Mapped.{Mapped}
use Rattle.virt_topo.specs.declared.experiment.Experiment.{Experiment}
use Rattle.virt_topo.specs.declared.experiment.Phase.{Phase}
use Rattle.virt_topo.specs.declared.experiment.Phase.TheVariants.{Out, In, Moving}
use Rattle.plant.specs.Worlds.{PipeRow, NodeRow, World, wiped, blank}
use Rattle.lab_model.specs.Shapes.{Place}
use Rattle.lab_model.specs.Wants.{Owned, node_name, node_row_of, os_on, pipes_on, rows_of}
use Rattle.lab_model.specs.Claims.{Old, New, claimed_in, Claims, Places, places_it, is_placed, claims_it}
use Rattle.lab_model.specs.Kept.{is_kept}
use Rattle.lab_model.specs.Beside.{is_claimed}
use Rattle.lab_model.specs.Courses.{op_node}
use Rattle.lab_model.specs.Holding.{Suits}
use Rattle.lab_model.specs.Isolated.{Owns}
use Rattle.lab_model.specs.Cabled.{SameNode, WantsPipe, CabledPhase, AllWanted, FreeWiped, Cabled}
use Rattle.lab_model.proofs.Steps.{did_node}
use Rattle.lab_model.proofs.Kept.{Places_from, places_it_from}
use Rattle.lab_model.proofs.Claiming.{claims_from, claims_test, node_claimed}
use Rattle.lab_model.proofs.WiringLaws.{All-has}
use Rattle.swap_plan.specs.Plans.{both_os}
use Rattle.swap_plan.proofs.PlanLaws.{some_is, kept_if}
use Rattle.plain_model.specs.declared.world.Sent.{Sent}
use Rattle.plain_model.specs.Holds.{fits_in, fits, all_fit}
use Rattle.plain_model.specs.Isolation.{Wanted, same_row, wanted_in}
use Rattle.plain_model.specs.Rows.{sent_to, world_sent, has_row, node_sent, rows_of as rows_left}
use Rattle.plain_model.specs.Cabling.{same_some, pipe_left, is_of_one, are_sets_of, held, is_node, os_wanted, pipes_wanted, is_right, stays, is_right_in, is_right_at, rows_stand, is_cabled_by, all_wanted, is_free_wiped, are_free_wiped, is_cabled}
use Rattle.plain_model.proofs.HoldsLaws.{pass_from, pass_test, suits_from, fits_from, in_suits, moving_fits}
use Rattle.plain_model.proofs.Neighbours.{row_is, row_same}
use Rattle.plain_model.proofs.IsolationLaws.{wanted_owns, owns_wanted}
use Rattle.plain_model.proofs.RowLaws.{row_told, pipe_told}
use Rattle.plain_model.proofs.SeenLaws.{rows_there, rows_stand as left_stand}
use Rattle.plain_model.proofs.NodeLaws.{some_are, some_same, sets_from, sets_test, node_from, node_test}

-- what the mapping, if there is one, wants
wants_from : (lab : Lab) (o : Option Mapped) (name : List ℕ) (k : ℕ) (row : PipeRow) → same_some (Some row) (slice_get (pipes_wanted lab o name) k) ≡ true → WantsPipe lab o name k row
wants_from lab None name k row t = absurd (cc t)
wants_from lab (Some m) name k row t = sym (some_are (Some row) (slice_get (pipes_on lab m name) k) t)

wants_test : (lab : Lab) (o : Option Mapped) (name : List ℕ) (k : ℕ) (row : PipeRow) → WantsPipe lab o name k row → same_some (Some row) (slice_get (pipes_wanted lab o name) k) ≡ true
wants_test lab None name k row h = absurd h
wants_test lab (Some m) name k row h = some_same (Some row) (slice_get (pipes_on lab m name) k) (sym h)

-- a node with a virtual node is wanted with an OS
placed_os : (lab : Lab) (o : Option Mapped) (name : List ℕ) → fits_in lab o ≡ true → is_placed lab o name ≡ is_some (os_wanted lab o name)
placed_os lab None name fits = refl
placed_os lab (Some m) name fits = some_is lab m.wiring.nodes m.mapping.places name (suits_from lab m fits).shaped.places

none_or : (o : Option (List ℕ)) → is_some o ≡ not (is_none o)
none_or None = refl
none_or (Some x) = refl

-- a move keeps the nodes that stay
stays_is : (lab : Lab) (old new : Option Mapped) (name : List ℕ) → fits_in lab old ≡ true → fits_in lab new ≡ true
    → stays (os_wanted lab old name) (pipes_wanted lab old name) (os_wanted lab new name) (pipes_wanted lab new name) ≡ is_kept lab old new name
stays_is lab None None name one other = refl
stays_is lab None (Some b) name one other = refl
stays_is lab (Some a) None name one other = no_other (os_wanted lab (Some a) name) _
  where
    no_other : (o : Option (List ℕ)) (b : Bool) → (both_os o None && b) ≡ false
    no_other None b = refl
    no_other (Some x) b = refl
stays_is lab (Some a) (Some b) name one other =
    kept_if (places_it lab a name) (places_it lab b name) (os_wanted lab (Some a) name) (os_wanted lab (Some b) name) _ (placed_os lab (Some a) name one) (placed_os lab (Some b) name other)

-- a node that is placed on is one of the lab
placed_at : (lab : Lab) (m : Mapped) (name : List ℕ) → Suits lab m → Places lab m name → (n : ℕ) × (n < length lab.nodes) × (node_name lab (record { 0 = n }) ≡ name)
placed_at lab m name suits placed =
    let p = Has-map (λ (p : Place). node_name lab p.0) m.mapping.places name placed in
    (p.0.0.0, All-has (λ (p : Place). p.0.0 < length lab.nodes) m.mapping.places p.0 suits.shaped.in_nodes p.1, p.2)

-- a node that is off, without OS and pipes, is wiped
wiped_from : (n : NodeRow) → SameNode n (held None false []) → SameNode n wiped
wiped_from n same = record { os = same.os; pipes = same.pipes; boot = same.boot }

wiped_test : (n : NodeRow) → SameNode n wiped → SameNode n (held None false [])
wiped_test n same = record { os = same.os; pipes = same.pipes; boot = same.boot }

-- a node that is kept is one that the new mapping places something on
kept_there : (lab : Lab) (old : Option Mapped) (n : Mapped) (name : List ℕ) → is_kept lab old (Some n) name ≡ true → places_it lab n name ≡ true
kept_there lab None n name kept = absurd (cc kept)
kept_there lab (Some x) n name kept = (and_parts _ _ (and_parts _ _ (and_parts _ _ kept).0).0).1

-- a command goes to the node, or it doesn't
goes_or_not : (o : Option (List ℕ)) (name : List ℕ) → (o ≡ Some name) ⊎ (o ≡ Some name → ⊥)
goes_or_not None name = inr (λ e. cc e)
goes_or_not (Some x) name = elim (cases_Bool (bytes_eq x name)) [
  | inl is ↦ inl (ap (λ n. Some n) ((bytes_eq-Decides x name).0 is))
  | inr not_is ↦ inr (λ e. both_ways (bytes_eq x name) not_is ((bytes_eq-Decides x name).1 (same_Some x name e)))
]

-- some command went to the node, or it is as it was
named_or_same : (xs : List Sent) (w : World) (name : List ℕ) → ((s : Sent) × Has xs s × (op_node s.op ≡ Some name)) ⊎ ((fold sent_to w xs).node name ≡ w.node name)
named_or_same [] w name = inr refl
named_or_same (s ∷ xs) w name = elim (named_or_same xs (sent_to w s) name) [
  | inl later ↦ inl (later.0, inr later.1, later.2)
  | inr same ↦ elim (goes_or_not (op_node s.op) name) [
    | inl goes ↦ inl (s, inl refl, goes)
    | inr not_so ↦ inr (same ∙ did_node w s.op s.applied s.answer name not_so)
  ]
]

module _ (commands : List Sent) (lab : Lab) where
  -- EACH ROW IS WANTED

  wanted_from : (es : List Experiment) → all_wanted commands lab es ≡ true → AllWanted lab es (world_sent commands)
  wanted_from es t row is =
      let a = any_from (λ (a : Wanted). same_row row a.row) (wanted_in lab es) (all_has (λ p. list_any (λ (a : Wanted). same_row p a.row) (wanted_in lab es)) (rows_left commands commands) row t (rows_there commands row is)) in
      let same : row ≡ a.0.row = row_is row a.0.row a.2 in
      let owns : Owns lab es row a.0.owner = subst (λ r. Owns lab es r a.0.owner) (sym same) (wanted_owns lab es a.0 a.1) in
      (owns.by, owns.listed, (a.0.owner.which, a.0.owner.link, owns.wants))

  wanted_test : (es : List Experiment) → AllWanted lab es (world_sent commands) → all_wanted commands lab es ≡ true
  wanted_test es wanted = all_from (λ p. list_any (λ (a : Wanted). same_row p a.row) (wanted_in lab es)) (rows_left commands commands) (λ p h.
      let by = wanted p (left_stand commands p h) in
      let owns : Owns lab es p (record { exp = by.0.name; which = by.2.0; link = by.2.1 }) = record { by = by.0; listed = by.1; name_is = refl; wants = by.2.2 } in
      any_has (λ (a : Wanted). same_row p a.row) (wanted_in lab es) (record { row = p; owner = record { exp = by.0.name; which = by.2.0; link = by.2.1 } }) (owns_wanted lab es p _ owns) (row_same p p refl))

  -- FREE NODES ARE WIPED

  free_at : (es : List Experiment) (o : Option (List ℕ)) (name : List ℕ) → is_free_wiped commands lab es o ≡ true → o ≡ Some name → ((e : Experiment) → Has es e → Claims lab e name → ⊥) → is_node commands name None false [] ≡ true
  free_at es o name t is none =
      elim (or_cases (is_claimed lab es name) (is_node commands name None false []) (subst (λ x. is_free_wiped commands lab es x ≡ true) is t)) [
        | inl claimed ↦ let e = any_from (λ e. claims_it lab e name) es claimed in absurd (none e.0 e.1 (claims_from lab e.0 name e.2))
        | inr wiped ↦ wiped
      ]

  free_from : (es : List Experiment) → are_free_wiped commands lab es ≡ true → FreeWiped lab es (world_sent commands)
  free_from es t name none = elim (named_or_same commands blank name) [
    | inl s ↦ wiped_from (node_sent commands name) (node_from commands name None false [] (free_at es (op_node s.0.op) name (all_has (λ sent. is_free_wiped commands lab es (op_node sent.op)) commands s.0 t s.1) s.2 none))
    | inr same ↦ subst (λ n. SameNode n wiped) (sym same) (record { os = refl; pipes = λ k. refl; boot = refl })
  ]

  free_one : (es : List Experiment) (o : Option (List ℕ)) → FreeWiped lab es (world_sent commands) → is_free_wiped commands lab es o ≡ true
  free_one es None free = refl
  free_one es (Some name) free = elim (cases_Bool (is_claimed lab es name)) [
    | inl is ↦ or_left _ _ is
    | inr not_is ↦ or_right _ _ (node_test commands name None false [] (wiped_test (node_sent commands name) (free name (λ e h c. both_ways (is_claimed lab es name) not_is (any_has (λ e. claims_it lab e name) es e h (claims_test lab e name c))))))
  ]

  free_test : (es : List Experiment) → FreeWiped lab es (world_sent commands) → are_free_wiped commands lab es ≡ true
  free_test es free = all_from (λ sent. is_free_wiped commands lab es (op_node sent.op)) commands (λ s h. free_one es (op_node s.op) free)

  -- WHAT A PHASE SAYS

  module _ (e : Experiment) (fit : fits lab e ≡ true) where
    -- a node that is right is what a mapping wants of it
    right_from : (m : Mapped) (name : List ℕ) → Suits lab m → Places lab m name → is_right commands name (os_on lab m.wiring.nodes m.mapping.places name) (pipes_on lab m name) ≡ true
        → SameNode (node_sent commands name) (node_row_of lab m name)
    right_from m name suits placed t =
        let os = os_on lab m.wiring.nodes m.mapping.places name in
        let some : is_some os ≡ true = sym (some_is lab m.wiring.nodes m.mapping.places name suits.shaped.places) ∙ places_it_from lab m name placed in
        elim (or_cases (is_none os) _ t) [
          | inl none ↦ absurd (both_ways (is_none os) (not-true (is_none os) (sym (none_or os) ∙ some)) none)
          | inr is ↦ node_from commands name os true (pipes_on lab m name) is
        ]

    right_test : (m : Mapped) (name : List ℕ) (os : Option (List ℕ)) → Suits lab m → os ≡ os_on lab m.wiring.nodes m.mapping.places name → (Places lab m name → SameNode (node_sent commands name) (node_row_of lab m name))
        → is_right commands name os (pipes_on lab m name) ≡ true
    right_test m name None suits is says = refl
    right_test m name (Some x) suits is says =
        let placed : Places lab m name = Places_from lab m name (some_is lab m.wiring.nodes m.mapping.places name suits.shaped.places ∙ ap (λ o. is_some o) (sym is)) in
        subst (λ o. is_node commands name o true (pipes_on lab m name) ≡ true) (sym is) (node_test commands name (os_on lab m.wiring.nodes m.mapping.places name) true (pipes_on lab m name) (says placed))

    in_from : (mapping : Mapping) (tags : List VlanId) → e.phase ≡ In mapping tags → rows_stand commands lab e.wiring (In mapping tags) ≡ true
        → ((n : ℕ) → n < length lab.nodes → is_right_in commands lab e.wiring (In mapping tags) (node_name lab (record { 0 = n })) ≡ true) → CabledPhase lab (world_sent commands) e (In mapping tags)
    in_from mapping tags is rows nodes =
        let m : Mapped = record { wiring = e.wiring; mapping = mapping; tags = tags } in
        let suits = in_suits lab e mapping tags is fit in (
          λ row link h. row_told row commands ∙ all_has (λ (o : Owned). has_row commands o.row) (rows_of lab m) (record { row = row; owner = link }) rows h,
          λ name h. let at = placed_at lab m name suits h in right_from m name suits h
              (subst (λ x. is_right commands x (os_on lab e.wiring.nodes mapping.places x) (pipes_on lab m x) ≡ true) at.2 (nodes at.0 at.1)),
        )

    in_rows : (mapping : Mapping) (tags : List VlanId) → CabledPhase lab (world_sent commands) e (In mapping tags) → rows_stand commands lab e.wiring (In mapping tags) ≡ true
    in_rows mapping tags says =
        let m : Mapped = record { wiring = e.wiring; mapping = mapping; tags = tags } in
        all_from (λ (o : Owned). has_row commands o.row) (rows_of lab m) (λ o h. sym (row_told o.row commands) ∙ says.0 o.row o.owner h)

    in_nodes : (mapping : Mapping) (tags : List VlanId) → e.phase ≡ In mapping tags → CabledPhase lab (world_sent commands) e (In mapping tags) → (name : List ℕ) → is_right_in commands lab e.wiring (In mapping tags) name ≡ true
    in_nodes mapping tags is says name =
        let m : Mapped = record { wiring = e.wiring; mapping = mapping; tags = tags } in
        right_test m name (os_on lab e.wiring.nodes mapping.places name) (in_suits lab e mapping tags is fit) refl (says.1 name)

    -- a node of a move
    module _ (old new : Option Mapped) (is : e.phase ≡ Moving old new) where
      old_fit : fits_in lab old ≡ true
      old_fit = (moving_fits lab e old new is fit).0

      new_fit : fits_in lab new ≡ true
      new_fit = (moving_fits lab e old new is fit).1

      abbrev keeps : List ℕ → Bool
      keeps name = stays (os_wanted lab old name) (pipes_wanted lab old name) (os_wanted lab new name) (pipes_wanted lab new name)

      right_of : (name : List ℕ) (kept : Bool) → is_kept lab old new name ≡ kept → is_right_in commands lab e.wiring (Moving old new) name ≡
          (if kept then is_node commands name (os_wanted lab new name) true (pipes_wanted lab new name)
          else ((is_none (os_wanted lab old name) && is_none (os_wanted lab new name)) || are_sets_of commands name (pipes_wanted lab old name) (pipes_wanted lab new name)))
      right_of name kept at = ap (λ (b : Bool). if b then is_node commands name (os_wanted lab new name) true (pipes_wanted lab new name)
          else ((is_none (os_wanted lab old name) && is_none (os_wanted lab new name)) || are_sets_of commands name (pipes_wanted lab old name) (pipes_wanted lab new name))) (stays_is lab old new name old_fit new_fit ∙ at)

      -- no OS is wanted exactly where nothing is claimed
      claims_some : (name : List ℕ) → claims_it lab e name ≡ not (is_none (os_wanted lab old name) && is_none (os_wanted lab new name))
      claims_some name =
          ap (λ p. is_placed lab (claimed_in e.wiring p Old) name || is_placed lab (claimed_in e.wiring p New) name) is
          ∙ (λ i. (placed_os lab old name old_fit ∙ none_or (os_wanted lab old name)) i || (placed_os lab new name new_fit ∙ none_or (os_wanted lab new name)) i)
          ∙ not_both (is_none (os_wanted lab old name)) (is_none (os_wanted lab new name))
        where
          not_both : (a b : Bool) → (not a || not b) ≡ not (a && b)
          not_both true b = refl
          not_both false b = refl

      claimed_at : (name : List ℕ) → Claims lab e name → (n : ℕ) × (n < length lab.nodes) × (node_name lab (record { 0 = n }) ≡ name)
      claimed_at name claims = placed_at lab claims.mapped name (fits_from lab e fit claims.which claims.mapped claims.is) claims.placed

      moving_from : ((n : ℕ) → n < length lab.nodes → is_right_in commands lab e.wiring (Moving old new) (node_name lab (record { 0 = n })) ≡ true) → CabledPhase lab (world_sent commands) e (Moving old new)
      moving_from nodes = (
        λ m name claims some kept. subst (λ (o : Option Mapped). SameNode (node_sent commands name) (held (os_wanted lab o name) true (pipes_wanted lab o name))) some
            (node_from commands name (os_wanted lab new name) true (pipes_wanted lab new name) (sym (right_of name true kept) ∙ right name claims)),
        λ name k row claims not_kept at. elim (or_cases (is_none (os_wanted lab old name) && is_none (os_wanted lab new name)) _ (sym (right_of name false not_kept) ∙ right name claims)) [
          | inl none ↦ absurd (both_ways _ (not-true _ (sym (claims_some name) ∙ claims_test lab e name claims)) none)
          | inr sets ↦ elim (or_cases _ _ (sets_from commands name (pipes_wanted lab old name) (pipes_wanted lab new name) sets k row (sym (pipe_told name k commands) ∙ at))) [
            | inl a ↦ inl (wants_from lab old name k row a)
            | inr b ↦ inr (wants_from lab new name k row b)
          ]
        ],
      )
        where
          right : (name : List ℕ) → Claims lab e name → is_right_in commands lab e.wiring (Moving old new) name ≡ true
          right name claims = let at = claimed_at name claims in subst (λ x. is_right_in commands lab e.wiring (Moving old new) x ≡ true) at.2 (nodes at.0 at.1)

      kept_new : (o : Option Mapped) (name : List ℕ) → is_kept lab old o name ≡ true → (m : Mapped) × (o ≡ Some m)
      kept_new None name kept = absurd (both_ways (is_kept lab old None name) (none_kept old name) kept)
        where
          none_kept : (old : Option Mapped) (name : List ℕ) → is_kept lab old None name ≡ false
          none_kept None name = refl
          none_kept (Some a) name = refl
      kept_new (Some m) name kept = (m, refl)

      allowed : (name : List ℕ) (k : ℕ) (o : Option PipeRow) → pipe_left commands name k ≡ o → Claims lab e name → is_kept lab old new name ≡ false → CabledPhase lab (world_sent commands) e (Moving old new)
          → is_of_one (pipes_wanted lab old name) (pipes_wanted lab new name) k o ≡ true
      allowed name k None at claims not_kept says = refl
      allowed name k (Some row) at claims not_kept says = elim (says.1 name k row claims not_kept (pipe_told name k commands ∙ at)) [
        | inl a ↦ or_left _ _ (wants_test lab old name k row a)
        | inr b ↦ or_right _ _ (wants_test lab new name k row b)
      ]

      moving_test : CabledPhase lab (world_sent commands) e (Moving old new) → (name : List ℕ) → is_right_in commands lab e.wiring (Moving old new) name ≡ true
      moving_test says name = elim (cases_Bool (is_kept lab old new name)) [
        | inl kept ↦
            let m = kept_new new name kept in
            let placed : is_placed lab new name ≡ true = ap (λ o. is_placed lab o name) m.1 ∙ kept_there lab old m.0 name (sym (ap (λ o. is_kept lab old o name) m.1) ∙ kept) in
            let claims : Claims lab e name = node_claimed lab e New new name (ap (λ p. claimed_in e.wiring p New) is) placed in
            right_of name true kept ∙ node_test commands name (os_wanted lab new name) true (pipes_wanted lab new name)
            (subst (λ (o : Option Mapped). SameNode (node_sent commands name) (held (os_wanted lab o name) true (pipes_wanted lab o name))) (sym m.1) (says.0 m.0 name claims m.1 kept))
        | inr not_kept ↦ right_of name false not_kept ∙ elim (cases_Bool (is_none (os_wanted lab old name) && is_none (os_wanted lab new name))) [
          | inl none ↦ or_left _ _ none
          | inr some ↦
              let claims : Claims lab e name = claims_from lab e name (claims_some name ∙ not_from_false _ some) in
              or_right _ _ (sets_test commands name (pipes_wanted lab old name) (pipes_wanted lab new name) (λ k. allowed name k (pipe_left commands name k) refl claims not_kept says))
        ]
      ]

    nodes_from : (p : Phase) → e.phase ≡ p → rows_stand commands lab e.wiring p ≡ true → ((n : ℕ) → n < length lab.nodes → is_right_in commands lab e.wiring p (node_name lab (record { 0 = n })) ≡ true)
        → CabledPhase lab (world_sent commands) e p
    nodes_from Out is rows nodes = tt
    nodes_from (In mapping tags) is rows nodes = in_from mapping tags is rows nodes
    nodes_from (Moving old new) is rows nodes = moving_from old new is nodes

    rows_test : (p : Phase) → e.phase ≡ p → CabledPhase lab (world_sent commands) e p → rows_stand commands lab e.wiring p ≡ true
    rows_test Out is says = refl
    rows_test (In mapping tags) is says = in_rows mapping tags says
    rows_test (Moving old new) is says = refl

    nodes_test : (p : Phase) → e.phase ≡ p → CabledPhase lab (world_sent commands) e p → (name : List ℕ) → is_right_in commands lab e.wiring p name ≡ true
    nodes_test Out is says name = refl
    nodes_test (In mapping tags) is says name = in_nodes mapping tags is says name
    nodes_test (Moving old new) is says name = moving_test old new is says name

    phase_from : is_cabled_by commands lab e ≡ true → CabledPhase lab (world_sent commands) e e.phase
    phase_from t = let parts = and_parts _ _ t in nodes_from e.phase refl parts.0 (pass_from (length lab.nodes) (is_right_at commands lab e) parts.1)

    phase_test : CabledPhase lab (world_sent commands) e e.phase → is_cabled_by commands lab e ≡ true
    phase_test says = and_from _ _ (rows_test e.phase refl says) (pass_test (length lab.nodes) (is_right_at commands lab e) (λ n lt. nodes_test e.phase refl says (node_name lab (record { 0 = n }))))

  -- THE TEST IS TRUE exactly where rows and nodes are as the claimed mappings want them
  pub cabled_from : (es : List Experiment) → all_fit lab es ≡ true → is_cabled commands lab es ≡ true → Cabled lab es (world_sent commands)
  cabled_from es fit t =
      let a = and_parts _ _ t in
      let b = and_parts _ _ a.1 in
      record {
        wanted = wanted_from es a.0;
        phases = λ e h. phase_from e (all_has (fits lab) es e fit h) (all_has (is_cabled_by commands lab) es e b.0 h);
        free = free_from es b.1;
      }

  pub cabled_test : (es : List Experiment) → all_fit lab es ≡ true → Cabled lab es (world_sent commands) → is_cabled commands lab es ≡ true
  cabled_test es fit is = and_from _ _ (wanted_test es is.wanted)
      (and_from _ _ (all_from (is_cabled_by commands lab) es (λ e h. phase_test e (all_has (fits lab) es e fit h) (is.phases e h))) (free_test es is.free))
