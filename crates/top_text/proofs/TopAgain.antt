-- The canonical text of a wiring is read as the wiring.
use Rattle.std.proofs.Common.{◌≡◌, ℕ, ◌<◌, Bool, true, false, cond, List, [], ◌∷◌, ◌++◌, length, get_or, map, set, Option, Some, None, Result, Ok, Err, refl, sym, ap, subst, ◌∙◌, arith, inl, inr, append_assoc, length-append}
use Rattle.std.specs.Prelude.{codes, is_some, nat_lt}
use Rattle.std.specs.List.{list_all, position, flat_map}
use Rattle.std.proofs.lemmas.Bool.{and_parts, ltb-true}
use Rattle.std.proofs.lemmas.List.{append-nil, map-append, get_or_default}
use Rattle.std.proofs.lemmas.Simd.{map-map}
use Rattle.std.proofs.Math.Seq.{get_or-append_seam, set-append_seam}
use Rattle.lab_base.specs.Names.{is_name, same_name}
use Rattle.lab_base.specs.Lists.{Has}
use Rattle.lab_base.specs.declared.fault.Kind.{Kind}
use Rattle.lab_base.specs.declared.fault.Kind.TheVariants as kinds
use Rattle.lab_base.proofs.Members.{Has-right, none_has}
use Rattle.line_text.specs.Reading.{and_then}
use Rattle.line_text.proofs.SliceLaws.{position-map}
use Rattle.line_text.proofs.PartsAgain.{all_has}
use Rattle.line_text.proofs.LinesAgain.{Adds, adds_append, adds_each}
use Rattle.virt_topo.specs.declared.wiring.Asks.{Asks}
use Rattle.virt_topo.specs.declared.wiring.Asks.TheVariants.{Plain, Class as InClass}
use Rattle.virt_topo.specs.declared.wiring.Class.{Class}
use Rattle.virt_topo.specs.declared.wiring.VirtNode.{VirtNode}
use Rattle.virt_topo.specs.declared.wiring.VirtEnd.{VirtEnd}
use Rattle.virt_topo.specs.declared.wiring.Segment.{Segment}
use Rattle.virt_topo.specs.declared.wiring.Pipe.{Pipe}
use Rattle.virt_topo.specs.declared.wiring.Wiring.{Wiring}
use Rattle.virt_topo.specs.Ends.{end_nodes, end_number}
use Rattle.virt_topo.specs.Soundness.{IsSound, are_rates, limits_class, limits_node, limits_segment, limits_pipe, knows_class, knows_node, knows_pipe, asks_class_name}
use Rattle.virt_topo.proofs.CableLaws.{limits_of, segment_limits, passes_at}
use Rattle.top_text.specs.Lines.{NodeRead, LinkRead, PipeRead}
use Rattle.top_text.specs.Adding.{kept, with_class, with_node, virt_named, virt_number, number_or_none, end_at, segment_of, with_segment, pipe_of, with_pipe, placed, no_segment, segment_at, segment_named, marked, added, start}
use Rattle.top_text.specs.Canonical.{virt_name, class_name, asked_name, class_fields, node_fields, fix_at, fix_lines, link_fields, multiplex_if, multiplex_lines, pipe_fields, wiring_lines}
use Rattle.top_text.specs.Printable.{named_class, named_asks, named_node, named_place, named_segment, is_printable}
use Rattle.top_text.proofs.SoundTests.{sound_tests, some_nodes, classes_once, types_apart}
use Rattle.top_text.proofs.KeptLaws.{sound_of}
use Rattle.top_text.proofs.PartLaws.{unfixed, part_kept}
use Rattle.top_text.proofs.MarkLaws.{unmarked, AreAlike, kept_alike, names_alike}
use Rattle.std.proofs.Math.ListN.{get_or-map}
use Rattle.virt_topo.specs.Wirings.{virt_at, no_virt}
use Rattle.top_text.proofs.OwnPlaces.{virt_own, segment_own}
use Rattle.top_text.proofs.TopLines.{end_read, class_again, node_again, asks_again, fix_again, link_again, multiplex_again, pipe_again, number_high}

-- what the names of a printable wiring are
pub record IsNamed (w : Wiring) : Type 0 where
  pub classes : list_all named_class w.classes ≡ true
  pub nodes : list_all named_node w.nodes ≡ true
  pub places : list_all (λ v. named_place v.fixed) w.nodes ≡ true
  pub segments : list_all named_segment w.segments ≡ true

pub named_of : (w : Wiring) → is_printable w ≡ true → IsNamed w
named_of w h =
    let a = and_parts (list_all named_class w.classes) _ h in
    let b = and_parts (list_all named_node w.nodes) _ a.1 in
    let c = and_parts (list_all (λ v. named_place v.fixed) w.nodes) (list_all named_segment w.segments) b.1 in
    record { classes = a.0; nodes = b.0; places = c.0; segments = c.1 }

there : {X : Type 0} (front : List X) (x : X) (rest whole : List X) → front ++ x ∷ rest ≡ whole → Has whole x
there front x rest whole e = subst (λ l. Has l x) e (Has-right front (x ∷ rest) x (inl refl))

map_same : {X : Type 0} (f : X → X) (xs : List X) → ((x : X) → Has xs x → f x ≡ x) → map f xs ≡ xs
map_same f [] each = refl
map_same f (x ∷ xs) each = λ i. each x (inl refl) i ∷ map_same f xs (λ y h. each y (inr h)) i

half_alike : (front rest : List Segment) {whole : List Segment} → front ++ rest ≡ whole → AreAlike (front ++ map unmarked rest) whole
half_alike front rest e =
    map-append unmarked front (map unmarked rest) ∙ ap (λ (l : List Segment). map unmarked front ++ l) (map-map unmarked unmarked rest) ∙ sym (map-append unmarked front rest) ∙ ap (map unmarked) e

module _ (w : Wiring) (sound : IsSound w) (named : IsNamed w) where
  -- NAMES BY NUMBER

  pub node_named_at : (v : ℕ) → v < length w.nodes → is_name (virt_name w v) ≡ true
  node_named_at v lt =
      let node : VirtNode = get_or w.nodes v no_virt in
      let is : virt_name w v ≡ node.name = get_or-map (λ (n : VirtNode). n.name) w.nodes v no_virt in
      subst (λ (k : List ℕ). is_name k ≡ true) (sym is) (and_parts (is_name node.name) _ (passes_at named_node w.nodes v node named.nodes lt (get_or_default w.nodes v no_virt node lt))).0

  class_named_at : (c : ℕ) → c < length w.classes → is_name (class_name w c) ≡ true
  class_named_at c lt =
      let class : Class = get_or w.classes c no_class in
      let is : class_name w c ≡ class.name = get_or-map (λ (n : Class). n.name) w.classes c no_class in
      subst (λ (k : List ℕ). is_name k ≡ true) (sym is) (and_parts (is_name class.name) _ (passes_at named_class w.classes c class named.classes lt (get_or_default w.classes c no_class class lt))).0
    where
      no_class : Class
      no_class = record { name = []; weight = 0; types = [] }

  number_again : (v : ℕ) → v < length w.nodes → virt_number w (virt_name w v) ≡ v
  number_again v lt =
      let node : VirtNode = get_or w.nodes v no_virt in
      let is : virt_name w v ≡ node.name = get_or-map (λ (n : VirtNode). n.name) w.nodes v no_virt in
      ap (virt_number w) is ∙ ap number_or_none (virt_own w sound v node lt (get_or_default w.nodes v no_virt node lt))

  pub asked_named : (asks : Asks) → named_asks asks ≡ true → knows_class w asks ≡ true → is_name (asked_name w asks) ≡ true
  asked_named (Plain type) h known = h
  asked_named (InClass c) h known = class_named_at c (ltb-true c (length w.classes) known)

  -- THE WIRING AFTER SOME OF ITS LINES

  class_part : (front rest : List Class) → front ++ rest ≡ w.classes → kept (record { classes = front; nodes = []; segments = []; pipes = [] }) ≡ Ok (record { classes = front; nodes = []; segments = []; pipes = [] })
  class_part front rest e = part_kept w (record { classes = front; nodes = []; segments = []; pipes = [] }) sound (record {
    more_classes = rest;
    classes = sym e;
    more_nodes = map unfixed w.nodes;
    nodes = refl;
    more_segments = w.segments;
    segments = refl;
    more_pipes = w.pipes;
    pipes = refl;
    asked = inl refl;
    ended = inl refl;
    piped = inl refl;
  })

  node_part : (nodes rest : List VirtNode) → map unfixed w.nodes ≡ map unfixed nodes ++ rest → kept (record { classes = w.classes; nodes = nodes; segments = []; pipes = [] }) ≡ Ok (record { classes = w.classes; nodes = nodes; segments = []; pipes = [] })
  node_part nodes rest e = part_kept w (record { classes = w.classes; nodes = nodes; segments = []; pipes = [] }) sound (record {
    more_classes = [];
    classes = sym (append-nil w.classes);
    more_nodes = rest;
    nodes = e;
    more_segments = w.segments;
    segments = refl;
    more_pipes = w.pipes;
    pipes = refl;
    asked = inr refl;
    ended = inl refl;
    piped = inl refl;
  })

  pipe_part : (front rest : List Pipe) → front ++ rest ≡ w.pipes → kept (record { classes = w.classes; nodes = w.nodes; segments = w.segments; pipes = front }) ≡ Ok (record { classes = w.classes; nodes = w.nodes; segments = w.segments; pipes = front })
  pipe_part front rest e = part_kept w (record { classes = w.classes; nodes = w.nodes; segments = w.segments; pipes = front }) sound (record {
    more_classes = [];
    classes = sym (append-nil w.classes);
    more_nodes = [];
    nodes = sym (append-nil (map unfixed w.nodes));
    more_segments = [];
    segments = sym (append-nil w.segments);
    more_pipes = rest;
    pipes = sym e;
    asked = inr refl;
    ended = inr refl;
    piped = inr (refl, refl);
  })

  -- the virtual nodes alone, and segments that differ from its own alone in which are multiplexed
  mark_part : (segments : List Segment) → AreAlike segments w.segments → kept (record { classes = w.classes; nodes = w.nodes; segments = segments; pipes = [] }) ≡ Ok (record { classes = w.classes; nodes = w.nodes; segments = segments; pipes = [] })
  mark_part segments alike = kept_alike (record { classes = w.classes; nodes = w.nodes; segments = w.segments; pipes = [] }) segments (pipe_part [] w.pipes refl) alike

  link_part : (front rest : List Segment) → front ++ rest ≡ w.segments
      → kept (record { classes = w.classes; nodes = w.nodes; segments = map unmarked front; pipes = [] }) ≡ Ok (record { classes = w.classes; nodes = w.nodes; segments = map unmarked front; pipes = [] })
  link_part front rest e =
      let whole : Wiring = record { classes = w.classes; nodes = w.nodes; segments = map unmarked w.segments; pipes = [] } in
      let all_sound : IsSound whole = sound_of whole (mark_part (map unmarked w.segments) (map-map unmarked unmarked w.segments)) (some_nodes w sound) in
      part_kept whole (record { classes = w.classes; nodes = w.nodes; segments = map unmarked front; pipes = [] }) all_sound (record {
        more_classes = [];
        classes = sym (append-nil w.classes);
        more_nodes = [];
        nodes = sym (append-nil (map unfixed w.nodes));
        more_segments = map unmarked rest;
        segments = ap (map unmarked) (sym e) ∙ map-append unmarked front rest;
        more_pipes = [];
        pipes = refl;
        asked = inr refl;
        ended = inr refl;
        piped = inl refl;
      })

  -- LINES

  class_adds : (front : List Class) (c : Class) (rest : List Class) → front ++ c ∷ rest ≡ [] ++ w.classes
      → added (record { classes = front; nodes = []; segments = []; pipes = [] }) (class_fields c) ≡ Ok (record { classes = front ++ c ∷ []; nodes = []; segments = []; pipes = [] })
  class_adds front c rest e =
      let h = there front c rest w.classes e in
      let so_far : Wiring = record { classes = front; nodes = []; segments = []; pipes = [] } in
      let limits = (limits_of w (sound_tests w sound).limits).each_class in
      ap (λ (r : Result Class Kind). and_then r (λ class. kept (with_class so_far class))) (class_again c (all_has named_class w.classes named.classes c h) (all_has limits_class w.classes limits c h))
      ∙ class_part (front ++ c ∷ []) rest (append_assoc front (c ∷ []) rest ∙ e)

  node_adds : (front : List VirtNode) (v : VirtNode) (rest : List VirtNode) → front ++ v ∷ rest ≡ [] ++ w.nodes
      → added (record { classes = w.classes; nodes = map unfixed front; segments = []; pipes = [] }) (node_fields w v) ≡ Ok (record { classes = w.classes; nodes = map unfixed (front ++ v ∷ []); segments = []; pipes = [] })
  node_adds front v rest e =
      let h = there front v rest w.nodes e in
      let so_far : Wiring = record { classes = w.classes; nodes = map unfixed front; segments = []; pipes = [] } in
      let limits = (limits_of w (sound_tests w sound).limits).each_node in
      let known : knows_class w v.asks ≡ true = all_has (λ v. knows_class w v.asks) w.nodes (and_parts (list_all (λ v. knows_class w v.asks) w.nodes) _ (sound_tests w sound).known).0 v h in
      let node = all_has named_node w.nodes named.nodes v h in
      let asks = (and_parts (named_asks v.asks) _ (and_parts (is_name v.name) _ node).1).0 in
      let apart : asks_class_name w.classes v.asks ≡ false = none_has (λ v. asks_class_name w.classes v.asks) w.nodes v (types_apart w sound) h in
      let nodes : map unfixed front ++ unfixed v ∷ [] ≡ map unfixed (front ++ v ∷ []) = sym (map-append unfixed front (v ∷ [])) in
      let whole : map unfixed w.nodes ≡ map unfixed (map unfixed (front ++ v ∷ [])) ++ map unfixed rest =
      ap (map unfixed) (sym e ∙ sym (append_assoc front (v ∷ []) rest)) ∙ map-append unfixed (front ++ v ∷ []) rest ∙ ap (λ (l : List VirtNode). l ++ map unfixed rest) (sym (map-map unfixed unfixed (front ++ v ∷ []))) in
      ap (λ (r : Result NodeRead Kind). and_then r (λ node. kept (with_node so_far node))) (node_again v (asked_name w v.asks) node (all_has limits_node w.nodes limits v h) (asked_named v.asks asks known))
      ∙ ap (λ (a : Asks). kept (record { classes = w.classes; nodes = map unfixed front ++ record { name = v.name; asks = a; desires = v.desires; os = v.os; fixed = None } ∷ []; segments = []; pipes = [] })) (asks_again w v.asks (classes_once w sound) known apart)
      ∙ ap (λ (l : List VirtNode). kept (record { classes = w.classes; nodes = l; segments = []; pipes = [] })) nodes
      ∙ node_part (map unfixed (front ++ v ∷ [])) (map unfixed rest) whole

  -- a virtual node is still named by its number while places are read
  fix_number : (front : List VirtNode) (v : VirtNode) (rest : List VirtNode) → front ++ v ∷ rest ≡ w.nodes
      → virt_named (record { classes = w.classes; nodes = front ++ map unfixed (v ∷ rest); segments = []; pipes = [] }) v.name ≡ Some (length front)
  fix_number front v rest e =
      let within : length front < length w.nodes = omega (arith, ap length e, length-append front (v ∷ rest)) in
      let at : v ≡ get_or w.nodes (length front) v = sym (ap (λ (l : List VirtNode). get_or l (length front) v) (sym e) ∙ get_or-append_seam front v rest v) in
      let names : map (λ (n : VirtNode). n.name) (front ++ map unfixed (v ∷ rest)) ≡ map (λ (n : VirtNode). n.name) w.nodes =
      map-append (λ (n : VirtNode). n.name) front (map unfixed (v ∷ rest))
      ∙ ap (λ (l : List (List ℕ)). map (λ (n : VirtNode). n.name) front ++ l) (map-map (λ (n : VirtNode). n.name) unfixed (v ∷ rest))
      ∙ sym (map-append (λ (n : VirtNode). n.name) front (v ∷ rest)) ∙ ap (map (λ (n : VirtNode). n.name)) e in
      sym (position-map (same_name v.name) (λ (n : VirtNode). n.name) (front ++ map unfixed (v ∷ rest)))
      ∙ ap (λ (l : List (List ℕ)). position (same_name v.name) l) names
      ∙ position-map (same_name v.name) (λ (n : VirtNode). n.name) w.nodes
      ∙ virt_own w sound (length front) v within at

  one_fix : (front : List VirtNode) (v : VirtNode) (rest : List VirtNode) → front ++ v ∷ rest ≡ w.nodes
      → Adds added (record { classes = w.classes; nodes = front ++ map unfixed (v ∷ rest); segments = []; pipes = [] }) (fix_lines v) (record { classes = w.classes; nodes = (front ++ v ∷ []) ++ map unfixed rest; segments = []; pipes = [] })
  one_fix front v rest e = by v.fixed refl
    where
      next : List VirtNode
      next = (front ++ v ∷ []) ++ map unfixed rest

      -- the virtual node with its place
      set_to : (fixed : Option (List ℕ)) → v.fixed ≡ fixed → front ++ record v { fixed = fixed } ∷ map unfixed rest ≡ (front ++ v ∷ []) ++ map unfixed rest
      set_to fixed is = ap (λ (f : Option (List ℕ)). front ++ record v { fixed = f } ∷ map unfixed rest) (sym is) ∙ sym (append_assoc front (v ∷ []) (map unfixed rest))

      by : (fixed : Option (List ℕ)) → v.fixed ≡ fixed
          → Adds added (record { classes = w.classes; nodes = front ++ map unfixed (v ∷ rest); segments = []; pipes = [] }) (fix_at v.name fixed) (record { classes = w.classes; nodes = (front ++ v ∷ []) ++ map unfixed rest; segments = []; pipes = [] })
      by None is = ap (λ (l : List VirtNode). record { classes = w.classes; nodes = l; segments = []; pipes = [] }) (set_to None is)
      by (Some place) is =
          let h = there front v rest w.nodes e in
          let so_far : Wiring = record { classes = w.classes; nodes = front ++ map unfixed (v ∷ rest); segments = []; pipes = [] } in
          let name = (and_parts (is_name v.name) _ (all_has named_node w.nodes named.nodes v h)).0 in
          let placed_named : is_name place ≡ true = sym (ap named_place is) ∙ all_has (λ v. named_place v.fixed) w.nodes named.places v h in
          let seam : virt_at so_far (length front) ≡ unfixed v = get_or-append_seam front (unfixed v) (map unfixed rest) no_virt in
          let set_is : set so_far.nodes (length front) (record v { fixed = Some place }) ≡ (front ++ v ∷ []) ++ map unfixed rest = set-append_seam front (unfixed v) (map unfixed rest) (record v { fixed = Some place }) ∙ set_to (Some place) is in
          let whole : map unfixed w.nodes ≡ map unfixed ((front ++ v ∷ []) ++ map unfixed rest) ++ [] =
          ap (map unfixed) (sym e ∙ sym (append_assoc front (v ∷ []) rest)) ∙ map-append unfixed (front ++ v ∷ []) rest ∙ ap (λ (l : List VirtNode). map unfixed (front ++ v ∷ []) ++ l) (sym (map-map unfixed unfixed rest))
          ∙ sym (map-append unfixed (front ++ v ∷ []) (map unfixed rest)) ∙ sym (append-nil (map unfixed ((front ++ v ∷ []) ++ map unfixed rest))) in
          let adds : added so_far (codes "fix-node" ∷ v.name ∷ place ∷ []) ≡ Ok (record { classes = w.classes; nodes = (front ++ v ∷ []) ++ map unfixed rest; segments = []; pipes = [] }) =
          ap (λ (r : Result (List ℕ × List ℕ) Kind). and_then r (λ fix. placed so_far fix.1 (virt_named so_far fix.0))) (fix_again v.name place name placed_named)
          ∙ ap (placed so_far place) (fix_number front v rest e)
          ∙ ap (λ (n : VirtNode). cond (is_some n.fixed) (Err kinds.Twice) (kept (record so_far { nodes = set so_far.nodes (length front) (record n { fixed = Some place }) }))) seam
          ∙ ap (λ (l : List VirtNode). kept (record { classes = w.classes; nodes = l; segments = []; pipes = [] })) set_is
          ∙ node_part ((front ++ v ∷ []) ++ map unfixed rest) [] whole in
          (record { classes = w.classes; nodes = (front ++ v ∷ []) ++ map unfixed rest; segments = []; pipes = [] }, adds, refl)

  fixes_add : (front rest : List VirtNode) → front ++ rest ≡ w.nodes
      → Adds added (record { classes = w.classes; nodes = front ++ map unfixed rest; segments = []; pipes = [] }) (flat_map fix_lines rest) (record { classes = w.classes; nodes = w.nodes; segments = []; pipes = [] })
  fixes_add front [] e = ap (λ (l : List VirtNode). record { classes = w.classes; nodes = l; segments = []; pipes = [] }) e
  fixes_add front (v ∷ rest) e =
      adds_append added (record { classes = w.classes; nodes = front ++ map unfixed (v ∷ rest); segments = []; pipes = [] }) (record { classes = w.classes; nodes = (front ++ v ∷ []) ++ map unfixed rest; segments = []; pipes = [] }) (record { classes = w.classes; nodes = w.nodes; segments = []; pipes = [] })
      (fix_lines v) (flat_map fix_lines rest) (one_fix front v rest e) (fixes_add (front ++ v ∷ []) rest (append_assoc front (v ∷ []) rest ∙ e))

  -- the virtual node of an end of a segment
  pub end_within : (s : Segment) → Has w.segments s → (e : VirtEnd) → Has s.ends e → e.node < length w.nodes
  end_within s h e g =
      let a = and_parts (list_all (λ v. knows_class w v.asks) w.nodes) _ (sound_tests w sound).known in
      let b = and_parts (list_all (λ s. list_all (λ e. knows_node w e.node) s.ends) w.segments) (list_all (knows_pipe w) w.pipes) a.1 in
      ltb-true e.node (length w.nodes) (all_has (λ (e : VirtEnd). knows_node w e.node) s.ends (all_has (λ (s : Segment). list_all (λ e. knows_node w e.node) s.ends) w.segments b.0 s h) e g)

  link_adds : (front : List Segment) (s : Segment) (rest : List Segment) → front ++ s ∷ rest ≡ [] ++ w.segments
      → added (record { classes = w.classes; nodes = w.nodes; segments = map unmarked front; pipes = [] }) (link_fields w s) ≡ Ok (record { classes = w.classes; nodes = w.nodes; segments = map unmarked (front ++ s ∷ []); pipes = [] })
  link_adds front s rest e =
      let h = there front s rest w.segments e in
      let so_far : Wiring = record { classes = w.classes; nodes = w.nodes; segments = map unmarked front; pipes = [] } in
      let limits = segment_limits s (all_has limits_segment w.segments (limits_of w (sound_tests w sound).limits).each_segment s h) in
      let ends : map (end_at so_far) (map (end_read w) s.ends) ≡ s.ends =
      map-map (end_at so_far) (end_read w) s.ends ∙ map_same (λ (x : VirtEnd). end_at so_far (end_read w x)) s.ends (λ x g. ap (λ (n : ℕ). record { node = n; address = x.address }) (number_again x.node (end_within s h x g))) in
      ap (λ (r : Result LinkRead Kind). and_then r (λ link. kept (with_segment so_far (segment_of so_far link)))) (link_again w s (all_has named_segment w.segments named.segments s h) limits (λ x g. node_named_at x.node (end_within s h x g)))
      ∙ ap (λ (l : List VirtEnd). kept (with_segment so_far (record { name = s.name; owner = s.owner; kbps = s.kbps; multiplexed = false; ends = l }))) ends
      ∙ ap (λ (l : List Segment). kept (record { classes = w.classes; nodes = w.nodes; segments = l; pipes = [] })) (sym (map-append unmarked front (s ∷ [])))
      ∙ link_part (front ++ s ∷ []) rest (append_assoc front (s ∷ []) rest ∙ e)

  -- a segment is still named by its number while those that are multiplexed are read
  mark_number : (front : List Segment) (s : Segment) (rest : List Segment) → front ++ s ∷ rest ≡ w.segments
      → segment_named (record { classes = w.classes; nodes = w.nodes; segments = front ++ map unmarked (s ∷ rest); pipes = [] }) s.name ≡ Some (length front)
  mark_number front s rest e =
      let within : length front < length w.segments = omega (arith, ap length e, length-append front (s ∷ rest)) in
      let at : s ≡ get_or w.segments (length front) s = sym (ap (λ (l : List Segment). get_or l (length front) s) (sym e) ∙ get_or-append_seam front s rest s) in
      let names : map (λ (x : Segment). x.name) (front ++ map unmarked (s ∷ rest)) ≡ map (λ (x : Segment). x.name) w.segments = names_alike (front ++ map unmarked (s ∷ rest)) w.segments (half_alike front (s ∷ rest) e) in
      sym (position-map (same_name s.name) (λ (x : Segment). x.name) (front ++ map unmarked (s ∷ rest)))
      ∙ ap (λ (l : List (List ℕ)). position (same_name s.name) l) names
      ∙ position-map (same_name s.name) (λ (x : Segment). x.name) w.segments
      ∙ segment_own w sound (length front) s within at

  one_mark : (front : List Segment) (s : Segment) (rest : List Segment) → front ++ s ∷ rest ≡ w.segments
      → Adds added (record { classes = w.classes; nodes = w.nodes; segments = front ++ map unmarked (s ∷ rest); pipes = [] }) (multiplex_lines s) (record { classes = w.classes; nodes = w.nodes; segments = (front ++ s ∷ []) ++ map unmarked rest; pipes = [] })
  one_mark front s rest e = by s.multiplexed refl
    where
      -- the segment with its flag
      set_to : (multiplexed : Bool) → s.multiplexed ≡ multiplexed → front ++ record s { multiplexed = multiplexed } ∷ map unmarked rest ≡ (front ++ s ∷ []) ++ map unmarked rest
      set_to multiplexed is = ap (λ (b : Bool). front ++ record s { multiplexed = b } ∷ map unmarked rest) (sym is) ∙ sym (append_assoc front (s ∷ []) (map unmarked rest))

      by : (multiplexed : Bool) → s.multiplexed ≡ multiplexed
          → Adds added (record { classes = w.classes; nodes = w.nodes; segments = front ++ map unmarked (s ∷ rest); pipes = [] }) (multiplex_if s.name multiplexed) (record { classes = w.classes; nodes = w.nodes; segments = (front ++ s ∷ []) ++ map unmarked rest; pipes = [] })
      by false is = ap (λ (l : List Segment). record { classes = w.classes; nodes = w.nodes; segments = l; pipes = [] }) (set_to false is)
      by true is =
          let h = there front s rest w.segments e in
          let so_far : Wiring = record { classes = w.classes; nodes = w.nodes; segments = front ++ map unmarked (s ∷ rest); pipes = [] } in
          let name = (and_parts (is_name s.name) _ (all_has named_segment w.segments named.segments s h)).0 in
          let seam : segment_at so_far (length front) ≡ unmarked s = get_or-append_seam front (unmarked s) (map unmarked rest) no_segment in
          let set_is : set so_far.segments (length front) (record s { multiplexed = true }) ≡ (front ++ s ∷ []) ++ map unmarked rest = set-append_seam front (unmarked s) (map unmarked rest) (record s { multiplexed = true }) ∙ set_to true is in
          let adds : added so_far (codes "multiplex" ∷ s.name ∷ []) ≡ Ok (record { classes = w.classes; nodes = w.nodes; segments = (front ++ s ∷ []) ++ map unmarked rest; pipes = [] }) =
          ap (λ (r : Result (List ℕ) Kind). and_then r (λ name. marked so_far (segment_named so_far name))) (multiplex_again s.name name)
          ∙ ap (marked so_far) (mark_number front s rest e)
          ∙ ap (λ (x : Segment). cond x.multiplexed (Err kinds.Twice) (kept (record so_far { segments = set so_far.segments (length front) (record x { multiplexed = true }) }))) seam
          ∙ ap (λ (l : List Segment). kept (record { classes = w.classes; nodes = w.nodes; segments = l; pipes = [] })) set_is
          ∙ mark_part ((front ++ s ∷ []) ++ map unmarked rest) (half_alike (front ++ s ∷ []) rest (append_assoc front (s ∷ []) rest ∙ e)) in
          (record { classes = w.classes; nodes = w.nodes; segments = (front ++ s ∷ []) ++ map unmarked rest; pipes = [] }, adds, refl)

  marks_add : (front rest : List Segment) → front ++ rest ≡ w.segments
      → Adds added (record { classes = w.classes; nodes = w.nodes; segments = front ++ map unmarked rest; pipes = [] }) (flat_map multiplex_lines rest) (record { classes = w.classes; nodes = w.nodes; segments = w.segments; pipes = [] })
  marks_add front [] e = ap (λ (l : List Segment). record { classes = w.classes; nodes = w.nodes; segments = l; pipes = [] }) e
  marks_add front (s ∷ rest) e =
      adds_append added (record { classes = w.classes; nodes = w.nodes; segments = front ++ map unmarked (s ∷ rest); pipes = [] }) (record { classes = w.classes; nodes = w.nodes; segments = (front ++ s ∷ []) ++ map unmarked rest; pipes = [] }) (record { classes = w.classes; nodes = w.nodes; segments = w.segments; pipes = [] })
      (multiplex_lines s) (flat_map multiplex_lines rest) (one_mark front s rest e) (marks_add (front ++ s ∷ []) rest (append_assoc front (s ∷ []) rest ∙ e))

  pub record PipeFacts (p : Pipe) : Type 0 where
    pub node : p.node < length w.nodes
    pub from : p.from < 4096
    pub to : p.to < 4096
    pub there : are_rates p.there ≡ true
    pub back : are_rates p.back ≡ true

  pub pipe_facts : (p : Pipe) → Has w.pipes p → PipeFacts p
  pipe_facts p h =
      let limits = limits_of w (sound_tests w sound).limits in
      let rates = and_parts (are_rates p.there) (are_rates p.back) (all_has limits_pipe w.pipes limits.each_pipe p h) in
      let a = and_parts (list_all (λ v. knows_class w v.asks) w.nodes) _ (sound_tests w sound).known in
      let b = and_parts (list_all (λ s. list_all (λ e. knows_node w e.node) s.ends) w.segments) (list_all (knows_pipe w) w.pipes) a.1 in
      let known = and_parts (knows_node w p.node) _ (all_has (knows_pipe w) w.pipes b.1 p h) in
      let ends = and_parts (nat_lt (end_number (end_nodes w.segments) p.node p.from) (length (end_nodes w.segments))) (nat_lt (end_number (end_nodes w.segments) p.node p.to) (length (end_nodes w.segments))) known.1 in
      let from_end = ltb-true (end_number (end_nodes w.segments) p.node p.from) (length (end_nodes w.segments)) ends.0 in
      let to_end = ltb-true (end_number (end_nodes w.segments) p.node p.to) (length (end_nodes w.segments)) ends.1 in
      record {
        node = ltb-true p.node (length w.nodes) known.0;
        from = omega (arith, from_end, limits.ends, number_high (end_nodes w.segments) p.node p.from from_end);
        to = omega (arith, to_end, limits.ends, number_high (end_nodes w.segments) p.node p.to to_end);
        there = rates.0;
        back = rates.1;
      }

  pipe_adds : (front : List Pipe) (p : Pipe) (rest : List Pipe) → front ++ p ∷ rest ≡ [] ++ w.pipes
      → added (record { classes = w.classes; nodes = w.nodes; segments = w.segments; pipes = front }) (pipe_fields w p) ≡ Ok (record { classes = w.classes; nodes = w.nodes; segments = w.segments; pipes = front ++ p ∷ [] })
  pipe_adds front p rest e =
      let h = there front p rest w.pipes e in
      let so_far : Wiring = record { classes = w.classes; nodes = w.nodes; segments = w.segments; pipes = front } in
      let facts = pipe_facts p h in
      ap (λ (r : Result PipeRead Kind). and_then r (λ pipe. kept (with_pipe so_far (pipe_of so_far pipe)))) (pipe_again (virt_name w p.node) p (node_named_at p.node facts.node) (omega (arith, facts.from)) (omega (arith, facts.to)) facts.there facts.back)
      ∙ ap (λ (n : ℕ). kept (with_pipe so_far (record { node = n; from = p.from; to = p.to; there = p.there; back = p.back }))) (number_again p.node facts.node)
      ∙ pipe_part (front ++ p ∷ []) rest (append_assoc front (p ∷ []) rest ∙ e)

  -- ALL LINES
  pub wiring_adds : Adds added start (wiring_lines w) w
  wiring_adds =
      adds_append added start (record { classes = w.classes; nodes = w.nodes; segments = w.segments; pipes = [] }) w _ (map (pipe_fields w) w.pipes)
      (adds_append added start (record { classes = w.classes; nodes = w.nodes; segments = map unmarked w.segments; pipes = [] }) (record { classes = w.classes; nodes = w.nodes; segments = w.segments; pipes = [] }) _ (flat_map multiplex_lines w.segments)
      (adds_append added start (record { classes = w.classes; nodes = w.nodes; segments = []; pipes = [] }) (record { classes = w.classes; nodes = w.nodes; segments = map unmarked w.segments; pipes = [] }) _ (map (link_fields w) w.segments)
      (adds_append added start (record { classes = w.classes; nodes = map unfixed w.nodes; segments = []; pipes = [] }) (record { classes = w.classes; nodes = w.nodes; segments = []; pipes = [] }) _ (flat_map fix_lines w.nodes)
      (adds_append added start (record { classes = w.classes; nodes = []; segments = []; pipes = [] }) (record { classes = w.classes; nodes = map unfixed w.nodes; segments = []; pipes = [] }) (map class_fields w.classes) (map (node_fields w) w.nodes)
      (adds_each added class_fields (λ l. record { classes = l; nodes = []; segments = []; pipes = [] }) [] w.classes class_adds)
      (adds_each added (node_fields w) (λ l. record { classes = w.classes; nodes = map unfixed l; segments = []; pipes = [] }) [] w.nodes node_adds))
      (fixes_add [] w.nodes refl))
      (adds_each added (link_fields w) (λ l. record { classes = w.classes; nodes = w.nodes; segments = map unmarked l; pipes = [] }) [] w.segments link_adds))
      (marks_add [] w.segments refl))
      (adds_each added (pipe_fields w) (λ l. record { classes = w.classes; nodes = w.nodes; segments = w.segments; pipes = l }) [] w.pipes pipe_adds)
