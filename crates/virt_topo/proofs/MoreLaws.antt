-- The tests of a wiring with one class, virtual node, segment or pipe more.
use Rattle.std.specs.Prelude.{nat_le, nat_lt}
use Rattle.std.proofs.Common.{◌≡◌, ℕ, ◌+◌, Bool, true, false, not, ◌&&◌, ◌||◌, eqb, List, [], ◌∷◌, ◌++◌, length, refl, ap, ◌∙◌, arith, length-append}
use Rattle.std.specs.List.{list_all, list_any}
use Rattle.std.proofs.lemmas.Bool.{and_parts, and_from, or_parts}
use Rattle.std.proofs.lemmas.Bool.Decides.{nat_tests}
use Rattle.std.proofs.lemmas.Grind.{flat_map-append}
use Rattle.std.proofs.lemmas.List.{append-nil, length-map}
use Rattle.std.proofs.lemmas.List.Folds.{list_all-append, list_any-append}
use Rattle.std.proofs.Math.Bool.{or-false, and-true}
use Rattle.lab_base.specs.Names.{same_name}
use Rattle.lab_base.proofs.Members.{all_weaker}
use Rattle.lab_base.proofs.Bytes.{bytes_turned}
use Rattle.lab_base.proofs.Numbers.{eqb_turned}
use Rattle.lab_base.proofs.Tests.{or_swapped}
use Rattle.virt_topo.specs.declared.wiring.Asks.{Asks}
use Rattle.virt_topo.specs.declared.wiring.Asks.TheVariants.{Plain, Class as InClass}
use Rattle.virt_topo.specs.declared.wiring.Class.{Class}
use Rattle.virt_topo.specs.declared.wiring.VirtNode.{VirtNode}
use Rattle.virt_topo.specs.declared.wiring.VirtEnd.{VirtEnd}
use Rattle.virt_topo.specs.declared.wiring.Segment.{Segment}
use Rattle.virt_topo.specs.declared.wiring.Pipe.{Pipe}
use Rattle.virt_topo.specs.declared.wiring.Wiring.{Wiring}
use Rattle.virt_topo.specs.Ends.{end_nodes}
use Rattle.virt_topo.specs.Repeats.{stands_again}
use Rattle.virt_topo.specs.Soundness.{limits_class, limits_node, limits_segment, limits_pipe, keeps_limits, knows_class, knows_node, knows_pipe, is_end, knows_all, same_address, all_ends, asks_class_name, has_twice, has_same, is_bad_pipe, shares_end, has_bad_pipe}
use Rattle.virt_topo.specs.Topos.{asks_type}
use Rattle.virt_topo.proofs.EndLaws.{nodes_of}
use Rattle.virt_topo.proofs.MoreEnds.{nodes_more, owner_kept, flag_kept, end_kept}

-- ONE ELEMENT MORE

pub all_more : {X : Type 0} (test : X → Bool) (xs : List X) (x : X) → list_all test xs ≡ true → list_all test (xs ++ x ∷ []) ≡ test x
all_more test xs x all = list_all-append test xs (x ∷ []) ∙ (λ i. all i && (test x && true)) ∙ and-true (test x)

pub any_more : {X : Type 0} (test : X → Bool) (xs : List X) (x : X) → list_any test xs ≡ false → list_any test (xs ++ x ∷ []) ≡ test x
any_more test xs x none = list_any-append test xs (x ∷ []) ∙ (λ i. none i || (test x || false)) ∙ or-false (test x)

-- the one more stands again where an earlier one is the same
pub again_more : {X : Type 0} (same : X → X → Bool) → ((a b : X) → same a b ≡ same b a) → (xs : List X) (x : X) → stands_again same xs ≡ false → stands_again same (xs ++ x ∷ []) ≡ list_any (same x) xs
again_more same symm [] x once = refl
again_more same symm (y ∷ xs) x once =
    let parts = or_parts (list_any (same y) xs) (stands_again same xs) once in
    λ i. (any_more (same y) xs x parts.0 ∙ symm y x) i || again_more same symm xs x parts.1 i

any_alike : {X : Type 0} (p q r : X → Bool) → ((x : X) → r x ≡ true → p x ≡ q x) → (xs : List X) → list_all r xs ≡ true → list_any p xs ≡ list_any q xs
any_alike p q r alike [] all = refl
any_alike p q r alike (x ∷ xs) all = let parts = and_parts (r x) (list_all r xs) all in λ i. alike x parts.0 i || any_alike p q r alike xs parts.1 i

le_more : {X : Type 0} (xs : List X) (x : X) (most : ℕ) → nat_le (length (xs ++ x ∷ [])) most ≡ nat_lt (length xs) most
le_more xs x most = ap (λ (n : ℕ). nat_le n most) (length-append xs (x ∷ [])) ∙ next (length xs) most
  where
    next : (n m : ℕ) → nat_le (n + 1) m ≡ nat_lt n m
    next n m = grind (arith, nat_tests)

lt_more : {X : Type 0} (xs : List X) (x : X) (n : ℕ) → nat_lt n (length xs) ≡ true → nat_lt n (length (xs ++ x ∷ [])) ≡ true
lt_more xs x n lt = ap (λ (m : ℕ). nat_lt n m) (length-append xs (x ∷ [])) ∙ next n (length xs) lt
  where
    next : (n m : ℕ) → nat_lt n m ≡ true → nat_lt n (m + 1) ≡ true
    next n m h = grind (arith, nat_tests)

-- WHAT IS GIVEN ONCE

pub record IsOnce (w : Wiring) : Type 0 where
  pub classes : stands_again (λ a b. same_name a.name b.name) w.classes ≡ false
  pub nodes : stands_again (λ a b. same_name a.name b.name) w.nodes ≡ false
  pub segments : stands_again (λ a b. same_name a.name b.name) w.segments ≡ false
  pub types : list_any (λ c. stands_again same_name c.types) w.classes ≡ false
  pub desires : list_any (λ v. stands_again (λ a b. same_name a.0 b.0) v.desires) w.nodes ≡ false
  pub addresses : stands_again same_address (all_ends w.segments) ≡ false
  pub asked : list_any (λ v. asks_class_name w.classes v.asks) w.nodes ≡ false

pub once_of : (w : Wiring) → has_twice w ≡ false → IsOnce w
once_of w h =
    let a = or_parts (stands_again (λ a b. same_name a.name b.name) w.classes) _ h in
    let b = or_parts (stands_again (λ a b. same_name a.name b.name) w.nodes) _ a.1 in
    let c = or_parts (stands_again (λ a b. same_name a.name b.name) w.segments) _ b.1 in
    let d = or_parts (list_any (λ c. stands_again same_name c.types) w.classes) _ c.1 in
    let e = or_parts (list_any (λ v. stands_again (λ a b. same_name a.0 b.0) v.desires) w.nodes) _ d.1 in
    let f = or_parts (stands_again same_address (all_ends w.segments)) (list_any (λ v. asks_class_name w.classes v.asks) w.nodes) e.1 in
    record { classes = a.0; nodes = b.0; segments = c.0; types = d.0; desires = e.0; addresses = f.0; asked = f.1 }

-- the virtual nodes that ask for a type with a class's name, where a class more stands
asked_more : (classes : List Class) (c : Class) (nodes : List VirtNode) → list_any (λ v. asks_class_name classes v.asks) nodes ≡ false
    → list_any (λ v. asks_class_name (classes ++ c ∷ []) v.asks) nodes ≡ list_any (λ v. asks_type c.name v.asks) nodes
asked_more classes c [] none = refl
asked_more classes c (v ∷ nodes) none =
    let parts = or_parts (asks_class_name classes v.asks) (list_any (λ v. asks_class_name classes v.asks) nodes) none in
    λ i. one v.asks parts.0 i || asked_more classes c nodes parts.1 i
  where
    one : (a : Asks) → asks_class_name classes a ≡ false → asks_class_name (classes ++ c ∷ []) a ≡ asks_type c.name a
    one (Plain type) h = any_more (λ (d : Class). same_name d.name type) classes c h
    one (InClass n) h = refl

pub twice_with_class : (w : Wiring) (c : Class) → has_twice w ≡ false
    → has_twice (record w { classes = w.classes ++ c ∷ [] }) ≡ (list_any (λ d. same_name c.name d.name) w.classes || (stands_again same_name c.types || list_any (λ v. asks_type c.name v.asks) w.nodes))
twice_with_class w c h =
    let once = once_of w h in
    λ i. again_more (λ (a b : Class). same_name a.name b.name) (λ a b. bytes_turned a.name b.name) w.classes c once.classes i
    || (once.nodes i || (once.segments i || (any_more (λ (d : Class). stands_again same_name d.types) w.classes c once.types i
    || (once.desires i || (once.addresses i || asked_more w.classes c w.nodes once.asked i)))))

pub twice_with_node : (w : Wiring) (n : VirtNode) → has_twice w ≡ false
    → has_twice (record w { nodes = w.nodes ++ n ∷ [] }) ≡ (list_any (λ v. same_name n.name v.name) w.nodes || (stands_again (λ a b. same_name a.0 b.0) n.desires || asks_class_name w.classes n.asks))
twice_with_node w n h =
    let once = once_of w h in
    λ i. once.classes i || (again_more (λ (a b : VirtNode). same_name a.name b.name) (λ a b. bytes_turned a.name b.name) w.nodes n once.nodes i
    || (once.segments i || (once.types i || (any_more (λ (v : VirtNode). stands_again (λ a b. same_name a.0 b.0) v.desires) w.nodes n once.desires i
    || (once.addresses i || any_more (λ (v : VirtNode). asks_class_name w.classes v.asks) w.nodes n once.asked i)))))

ends_more : (segments : List Segment) (s : Segment) → all_ends (segments ++ s ∷ []) ≡ all_ends segments ++ s.ends
ends_more segments s = flat_map-append (λ (t : Segment). t.ends) segments (s ∷ []) ∙ ap (λ (l : List VirtEnd). all_ends segments ++ l) (append-nil s.ends)

pub twice_with_segment : (w : Wiring) (s : Segment) → has_twice w ≡ false
    → has_twice (record w { segments = w.segments ++ s ∷ [] }) ≡ (list_any (λ t. same_name s.name t.name) w.segments || stands_again same_address (all_ends w.segments ++ s.ends))
twice_with_segment w s h =
    let once = once_of w h in
    (λ i. once.classes i || (once.nodes i || (again_more (λ (a b : Segment). same_name a.name b.name) (λ a b. bytes_turned a.name b.name) w.segments s once.segments i
    || (once.types i || (once.desires i || (stands_again same_address (ends_more w.segments s i) || once.asked i))))))
    ∙ ap (λ (b : Bool). list_any (λ t. same_name s.name t.name) w.segments || b) (or-false (stands_again same_address (all_ends w.segments ++ s.ends)))

-- WHAT NUMBERS NAME

pub record IsKnown (w : Wiring) : Type 0 where
  pub classes : list_all (λ v. knows_class w v.asks) w.nodes ≡ true
  pub nodes : list_all (λ s. list_all (λ e. knows_node w e.node) s.ends) w.segments ≡ true
  pub pipes : list_all (knows_pipe w) w.pipes ≡ true

pub known_of : (w : Wiring) → knows_all w ≡ true → IsKnown w
known_of w h =
    let a = and_parts (list_all (λ v. knows_class w v.asks) w.nodes) _ h in
    let b = and_parts (list_all (λ s. list_all (λ e. knows_node w e.node) s.ends) w.segments) (list_all (knows_pipe w) w.pipes) a.1 in
    record { classes = a.0; nodes = b.0; pipes = b.1 }

pub known_with_class : (w : Wiring) (c : Class) → knows_all w ≡ true → knows_all (record w { classes = w.classes ++ c ∷ [] }) ≡ true
known_with_class w c h =
    let known = known_of w h in
    and_from _ _ (all_weaker (λ v. knows_class w v.asks) (λ v. knows_class (record w { classes = w.classes ++ c ∷ [] }) v.asks) (λ v g. one v.asks g) w.nodes known.classes)
    (and_from _ _ known.nodes known.pipes)
  where
    one : (a : Asks) → knows_class w a ≡ true → knows_class (record w { classes = w.classes ++ c ∷ [] }) a ≡ true
    one (Plain type) g = refl
    one (InClass n) g = lt_more w.classes c n g

pub known_with_node : (w : Wiring) (n : VirtNode) → knows_all w ≡ true → knows_all (record w { nodes = w.nodes ++ n ∷ [] }) ≡ knows_class w n.asks
known_with_node w n h =
    let known = known_of w h in
    let more = record w { nodes = w.nodes ++ n ∷ [] } in
    let ends : list_all (λ s. list_all (λ e. knows_node more e.node) s.ends) w.segments ≡ true =
    all_weaker (λ s. list_all (λ e. knows_node w e.node) s.ends) (λ s. list_all (λ e. knows_node more e.node) s.ends)
    (λ s g. all_weaker (λ e. knows_node w e.node) (λ e. knows_node more e.node) (λ e k. lt_more w.nodes n e.node k) s.ends g) w.segments known.nodes in
    let pipes : list_all (knows_pipe more) w.pipes ≡ true = all_weaker (knows_pipe w) (knows_pipe more) one w.pipes known.pipes in
    (λ i. all_more (λ (v : VirtNode). knows_class w v.asks) w.nodes n known.classes i && (ends i && pipes i)) ∙ and-true (knows_class w n.asks)
  where
    one : (p : Pipe) → knows_pipe w p ≡ true → knows_pipe (record w { nodes = w.nodes ++ n ∷ [] }) p ≡ true
    one p g = let parts = and_parts (knows_node w p.node) _ g in and_from _ _ (lt_more w.nodes n p.node parts.0) parts.1

pub known_with_segment : (w : Wiring) (s : Segment) → knows_all w ≡ true → knows_all (record w { segments = w.segments ++ s ∷ [] }) ≡ list_all (λ e. knows_node w e.node) s.ends
known_with_segment w s h =
    let known = known_of w h in
    let more = record w { segments = w.segments ++ s ∷ [] } in
    let pipes : list_all (knows_pipe more) w.pipes ≡ true = all_weaker (knows_pipe w) (knows_pipe more) one w.pipes known.pipes in
    (λ i. known.classes i && (all_more (λ (t : Segment). list_all (λ e. knows_node w e.node) t.ends) w.segments s known.nodes i && pipes i)) ∙ and-true (list_all (λ e. knows_node w e.node) s.ends)
  where
    one : (p : Pipe) → knows_pipe w p ≡ true → knows_pipe (record w { segments = w.segments ++ s ∷ [] }) p ≡ true
    one p g =
        let a = and_parts (knows_node w p.node) _ g in
        let b = and_parts (is_end w p.node p.from) (is_end w p.node p.to) a.1 in
        and_from _ _ a.0 (and_from _ _ (end_kept w.segments s p.node p.from b.0) (end_kept w.segments s p.node p.to b.1))

pub known_with_pipe : (w : Wiring) (p : Pipe) → knows_all w ≡ true → knows_all (record w { pipes = w.pipes ++ p ∷ [] }) ≡ knows_pipe w p
known_with_pipe w p h =
    let known = known_of w h in
    λ i. known.classes i && (known.nodes i && all_more (knows_pipe w) w.pipes p known.pipes i)

-- ONE VIRTUAL NODE TWICE IN A SEGMENT

pub same_with_segment : (w : Wiring) (s : Segment) → has_same w ≡ false → has_same (record w { segments = w.segments ++ s ∷ [] }) ≡ stands_again (λ a b. eqb a.node b.node) s.ends
same_with_segment w s h = any_more (λ (t : Segment). stands_again (λ a b. eqb a.node b.node) t.ends) w.segments s h

-- PIPES

pub bad_with_segment : (w : Wiring) (s : Segment) → knows_all w ≡ true → has_bad_pipe w ≡ false → has_bad_pipe (record w { segments = w.segments ++ s ∷ [] }) ≡ false
bad_with_segment w s known h =
    let parts = or_parts (list_any (is_bad_pipe w) w.pipes) (stands_again shares_end w.pipes) h in
    let more = record w { segments = w.segments ++ s ∷ [] } in
    λ i. (any_alike (is_bad_pipe more) (is_bad_pipe w) (knows_pipe w) one w.pipes (known_of w known).pipes ∙ parts.0) i || parts.1 i
  where
    one : (p : Pipe) → knows_pipe w p ≡ true → is_bad_pipe (record w { segments = w.segments ++ s ∷ [] }) p ≡ is_bad_pipe w p
    one p g =
        let a = and_parts (knows_node w p.node) _ g in
        let b = and_parts (is_end w p.node p.from) (is_end w p.node p.to) a.1 in
        λ i. eqb p.from p.to
        || (not (same_name (owner_kept w.segments s p.node p.from b.0 i) (owner_kept w.segments s p.node p.to b.1 i))
        || (flag_kept w.segments s p.node p.from b.0 i || flag_kept w.segments s p.node p.to b.1 i))

symm_shares : (p q : Pipe) → shares_end p q ≡ shares_end q p
symm_shares p q =
    (λ i. eqb_turned p.node q.node i && (eqb_turned p.from q.from i || (eqb_turned p.from q.to i || (eqb_turned p.to q.from i || eqb_turned p.to q.to i))))
    ∙ ap (λ (b : Bool). eqb q.node p.node && (eqb q.from p.from || b)) (or_swapped (eqb q.to p.from) (eqb q.from p.to) (eqb q.to p.to))

pub bad_with_pipe : (w : Wiring) (p : Pipe) → has_bad_pipe w ≡ false → has_bad_pipe (record w { pipes = w.pipes ++ p ∷ [] }) ≡ (is_bad_pipe w p || list_any (shares_end p) w.pipes)
bad_with_pipe w p h =
    let parts = or_parts (list_any (is_bad_pipe w) w.pipes) (stands_again shares_end w.pipes) h in
    λ i. any_more (is_bad_pipe w) w.pipes p parts.0 i || again_more shares_end symm_shares w.pipes p parts.1 i

-- LIMITS

record AreWithin (w : Wiring) : Type 0 where
  classes : nat_le (length w.classes) 64 ≡ true
  nodes : nat_le (length w.nodes) 256 ≡ true
  segments : nat_le (length w.segments) 512 ≡ true
  ends : nat_le (length (end_nodes w.segments)) 4096 ≡ true
  each_class : list_all limits_class w.classes ≡ true
  each_node : list_all limits_node w.nodes ≡ true
  each_segment : list_all limits_segment w.segments ≡ true
  each_pipe : list_all limits_pipe w.pipes ≡ true

within : (w : Wiring) → keeps_limits w ≡ true → AreWithin w
within w h =
    let a = and_parts _ _ h in
    let b = and_parts _ _ a.1 in
    let c = and_parts _ _ b.1 in
    let d = and_parts _ _ c.1 in
    let e = and_parts _ _ d.1 in
    let f = and_parts _ _ e.1 in
    let g = and_parts _ _ f.1 in
    record { classes = a.0; nodes = b.0; segments = c.0; ends = d.0; each_class = e.0; each_node = f.0; each_segment = g.0; each_pipe = g.1 }

pub limits_with_class : (w : Wiring) (c : Class) → keeps_limits w ≡ true → keeps_limits (record w { classes = w.classes ++ c ∷ [] }) ≡ (nat_lt (length w.classes) 64 && limits_class c)
limits_with_class w c h =
    let l = within w h in
    (λ i. le_more w.classes c 64 i && (l.nodes i && (l.segments i && (l.ends i && (all_more limits_class w.classes c l.each_class i && (l.each_node i && (l.each_segment i && l.each_pipe i)))))))
    ∙ ap (λ (b : Bool). nat_lt (length w.classes) 64 && b) (and-true (limits_class c))

pub limits_with_node : (w : Wiring) (n : VirtNode) → keeps_limits w ≡ true → keeps_limits (record w { nodes = w.nodes ++ n ∷ [] }) ≡ (nat_lt (length w.nodes) 256 && limits_node n)
limits_with_node w n h =
    let l = within w h in
    (λ i. l.classes i && (le_more w.nodes n 256 i && (l.segments i && (l.ends i && (l.each_class i && (all_more limits_node w.nodes n l.each_node i && (l.each_segment i && l.each_pipe i)))))))
    ∙ ap (λ (b : Bool). nat_lt (length w.nodes) 256 && b) (and-true (limits_node n))

pub count_more : (segments : List Segment) (s : Segment) → length (end_nodes (segments ++ s ∷ [])) ≡ length (end_nodes segments) + length s.ends
count_more segments s = ap length (nodes_more segments s) ∙ length-append (end_nodes segments) (nodes_of s.ends) ∙ ap (λ (n : ℕ). length (end_nodes segments) + n) (length-map s.ends (λ (e : VirtEnd). e.node))

pub limits_with_segment : (w : Wiring) (s : Segment) → keeps_limits w ≡ true
    → keeps_limits (record w { segments = w.segments ++ s ∷ [] }) ≡ (nat_lt (length w.segments) 512 && (nat_le (length (end_nodes w.segments) + length s.ends) 4096 && limits_segment s))
limits_with_segment w s h =
    let l = within w h in
    (λ i. l.classes i && (l.nodes i && (le_more w.segments s 512 i && (nat_le (count_more w.segments s i) 4096 && (l.each_class i && (l.each_node i && (all_more limits_segment w.segments s l.each_segment i && l.each_pipe i)))))))
    ∙ ap (λ (b : Bool). nat_lt (length w.segments) 512 && (nat_le (length (end_nodes w.segments) + length s.ends) 4096 && b)) (and-true (limits_segment s))

pub limits_with_pipe : (w : Wiring) (p : Pipe) → keeps_limits w ≡ true → keeps_limits (record w { pipes = w.pipes ++ p ∷ [] }) ≡ limits_pipe p
limits_with_pipe w p h =
    let l = within w h in
    λ i. l.classes i && (l.nodes i && (l.segments i && (l.ends i && (l.each_class i && (l.each_node i && (l.each_segment i && all_more limits_pipe w.pipes p l.each_pipe i))))))
