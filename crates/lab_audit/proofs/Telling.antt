-- The lines of a switch are those that tell something.
use Rattle.std.proofs.Common.{◌≡◌, inl, inr, ℕ, zero, suc, ◌+◌, ◌<◌, Bool, true, false, List, [], ◌∷◌, ◌++◌, get_or, length, map, take, Option, Some, None, refl, sym, ap, ◌∙◌, subst, arith, add-one, if◌then◌else◌}
use Rattle.std.specs.Prelude.{◌==◌, ◌&&◌, ◌↔◌, not, filter_map}
use Rattle.std.specs.List.{list_any, cons_option}
use Rattle.std.specs.Str.{bytes_eq}
use Rattle.std.proofs.lemmas.Bool.{and_parts, and_from, eqb-true, eq-eqb, true≢false, false≢true, not-true, false_from_ne_true, not_from_false}
use Rattle.std.proofs.lemmas.Slice.Eq.{bytes_eq-Decides}
use Rattle.lab_base.specs.declared.ids.VlanId.{VlanId}
use Rattle.lab_base.specs.Lists.{Has, listed}
use Rattle.lab_base.proofs.Members.{Has-append, Has-left, Has-right, Has-map, Has-mapped, any_from, any_has}
use Rattle.phys_lab.specs.Labs.{Lab}
use Rattle.virt_topo.specs.declared.experiment.Experiment.{Experiment}
use Rattle.plant.specs.Worlds.{Row, World}
use Rattle.plant.specs.Readings.{IsEntry, entry_of}
use Rattle.script_text.specs.declared.reply.AuditLine.{AuditLine}
use Rattle.script_text.specs.declared.reply.AuditLine.TheVariants.{Lacks, Strange, Node}
use Rattle.lab_audit.specs.declared.wanted.Wanted.{Wanted}
use Rattle.lab_audit.specs.Diff.{Tells, AreLinesOf, entry_in}
use Rattle.lab_audit.specs.Lines.{AreAllWanted, is_entry, is_found, is_wanted_at, lacking_line, strange_line, unordered, in_order}
use Rattle.lab_audit.proofs.Sorting.{ordered_rises, ordered_from, ordered_has}

-- elements of what is kept of a list
kept_from : {X Y : Type 0} (f : X → Option Y) (xs : List X) (y : Y) → Has (filter_map f xs) y → (x : X) × Has xs x × (f x ≡ Some y)
kept_from f [] y h = absurd h
kept_from {X} {Y} f (x ∷ xs) y h = by (f x) refl (λ g. kept_from f xs y g) h
  where
    by : (o : Option Y) → f x ≡ o → (Has (filter_map f xs) y → (v : X) × Has xs v × (f v ≡ Some y)) → Has (cons_option o (filter_map f xs)) y → (v : X) × Has (x ∷ xs) v × (f v ≡ Some y)
    by None is rest g = let k = rest g in (k.0, inr k.1, k.2)
    by (Some z) is rest (inl e) = (x, inl refl, is ∙ ap Some e)
    by (Some z) is rest (inr g) = let k = rest g in (k.0, inr k.1, k.2)

kept_to : {X Y : Type 0} (f : X → Option Y) (xs : List X) (x : X) (y : Y) → Has xs x → f x ≡ Some y → Has (filter_map f xs) y
kept_to f [] x y h is = absurd h
kept_to {X} {Y} f (z ∷ xs) x y h is = by (f z) refl (λ g. kept_to f xs x y g is) h
  where
    by : (o : Option Y) → f z ≡ o → (Has xs x → Has (filter_map f xs) y) → Has (z ∷ xs) x → Has (cons_option o (filter_map f xs)) y
    by None none rest (inl e) = absurd (let never : None ≡ Some y = sym none ∙ ap f e ∙ is in cc never)
    by None none rest (inr g) = rest g
    by (Some v) some rest (inl e) = inl (let same : Some v ≡ Some y = sym some ∙ ap f e ∙ is in cc same)
    by (Some v) some rest (inr g) = inr (rest g)

-- what a choice gave, by its test
chosen : {X : Type 0} (test : Bool) (x y : X) → (if test then Some x else None) ≡ Some y → (test ≡ true) × (x ≡ y)
chosen true x y e = (refl, cc e)
chosen false x y e = absurd (cc e)

left : {X : Type 0} (test : Bool) (x y : X) → (if test then None else Some x) ≡ Some y → (test ≡ false) × (x ≡ y)
left true x y e = absurd (cc e)
left false x y e = (refl, cc e)

-- what is got within a list, whatever stands for what is not there
pub same_get : {X : Type 0} (xs : List X) (i : ℕ) (d e : X) → i < length xs → get_or xs i d ≡ get_or xs i e
same_get [] i d e lt = absurd (omega (arith, lt))
same_get (x ∷ xs) zero d e lt = refl
same_get (x ∷ xs) (suc i) d e lt = same_get xs i d e (omega (arith, lt))

-- what is kept of one element more
pub kept_more : {X Y : Type 0} (f : X → Option Y) (xs : List X) (i : ℕ) (x : X) → i < length xs → x ≡ get_or xs i x → filter_map f (take (i + 1) xs) ≡ filter_map f (take i xs) ++ listed (f x)
kept_more f xs i x lt is = ap (λ (n : ℕ). filter_map f (take n xs)) (add-one i) ∙ more f xs i x lt is
  where
    one : {X Y : Type 0} (f : X → Option Y) (x : X) (o : Option Y) → cons_option o [] ≡ listed o
    one f x None = refl
    one f x (Some y) = refl

    behind : {Y : Type 0} (o : Option Y) (ys zs : List Y) → cons_option o (ys ++ zs) ≡ cons_option o ys ++ zs
    behind None ys zs = refl
    behind (Some y) ys zs = refl

    more : {X Y : Type 0} (f : X → Option Y) (xs : List X) (i : ℕ) (x : X) → i < length xs → x ≡ get_or xs i x → filter_map f (take (suc i) xs) ≡ filter_map f (take i xs) ++ listed (f x)
    more f [] i x lt is = absurd (omega (arith, lt))
    more f (y ∷ xs) zero x lt is = ap (λ v. cons_option (f v) []) (sym is) ∙ one f x (f x)
    more f (y ∷ xs) (suc i) x lt is = ap (λ l. cons_option (f y) l) (more f xs i x (omega (arith, lt)) is) ∙ behind (f y) (filter_map f (take i xs)) (listed (f x))

module _ (lab : Lab) (es : List Experiment) (w : World) (switch : List ℕ) (found : List (ℕ × VlanId)) (wanted : List Wanted)
    (all : AreAllWanted lab es wanted) (exact : (e : ℕ × ℕ) → Has (map entry_of found) e ↔ IsEntry w switch e) where
  -- whether an entry stands
  stands : (port vlan : ℕ) → list_any (is_entry port vlan) found ≡ true → w.rows (record { switch = switch; port = port; vlan = vlan }) ≡ true
  stands port vlan is =
      let f = any_from (is_entry port vlan) found is in
      let p = and_parts (f.0.0 == port) (f.0.1.0 == vlan) f.2 in
      subst (λ (e : ℕ × ℕ). IsEntry w switch e) (λ i. (eqb-true f.0.0 port p.0 i, eqb-true f.0.1.0 vlan p.1 i)) ((exact (entry_of f.0)).0 (Has-mapped entry_of found f.0 f.1))

  stood : (port vlan : ℕ) → w.rows (record { switch = switch; port = port; vlan = vlan }) ≡ true → list_any (is_entry port vlan) found ≡ true
  stood port vlan is =
      let f = Has-map entry_of found (port, vlan) ((exact (port, vlan)).1 is) in
      any_has (is_entry port vlan) found f.0 f.1 (and_from _ _ (eq-eqb f.0.0 port (ap (λ (e : ℕ × ℕ). e.0) f.2)) (eq-eqb f.0.1.0 vlan (ap (λ (e : ℕ × ℕ). e.1) f.2)))

  lacking : (x : Wanted) (line : AuditLine) → Has wanted x → lacking_line switch found x ≡ Some line → Tells lab es w switch line
  lacking x line has is =
      let c = chosen (x.stands && (bytes_eq x.row.switch switch && not (is_found x.row found))) (Lacks switch x.row.port (record { 0 = x.row.vlan })) line is in
      let p = and_parts x.stands (bytes_eq x.row.switch switch && not (is_found x.row found)) c.0 in
      let q = and_parts (bytes_eq x.row.switch switch) (not (is_found x.row found)) p.1 in
      let named : x.row.switch ≡ switch = (bytes_eq-Decides x.row.switch switch).0 q.0 in
      let row : Row = record { switch = switch; port = x.row.port; vlan = x.row.vlan } in
      let same : Path Wanted x (record { row = row; stands = true }) = λ i. record { row = record { switch = named i; port = x.row.port; vlan = x.row.vlan }; stands = p.0 i } in
      let gone : w.rows row ≡ false = false_from_ne_true (w.rows row) (λ there. true≢false (sym (stood x.row.port x.row.vlan there) ∙ not-true (is_found x.row found) q.1)) in
      subst (λ (l : AuditLine). Tells lab es w switch l) c.1 (refl, (all.stands row).1 (subst (λ (v : Wanted). Has wanted v) same has), gone)

  strange : (e : ℕ × VlanId) (line : AuditLine) → Has found e → strange_line switch wanted e ≡ Some line → Tells lab es w switch line
  strange e line has is =
      let c = left (list_any (is_wanted_at switch e) wanted) (Strange switch e.0 e.1) line is in
      let row : Row = record { switch = switch; port = e.0; vlan = e.1.0 } in
      let there : w.rows row ≡ true = (exact (entry_of e)).0 (Has-mapped entry_of found e has) in
      subst (λ (l : AuditLine). Tells lab es w switch l) c.1 (
        refl,
        there,
        λ claim.
            let g = (all.claimed row).0 claim in
            let test = and_from _ _ ((bytes_eq-Decides switch switch).1 refl) (and_from _ _ (eq-eqb e.0 e.0 refl) (eq-eqb e.1.0 e.1.0 refl)) in
            true≢false (sym (any_has (is_wanted_at switch e) wanted (record { row = row; stands = g.0 }) g.1 test) ∙ c.0),
      )

  told : (line : AuditLine) → Has (unordered switch found wanted) line → Tells lab es w switch line
  told line h = elim (Has-append (filter_map (lacking_line switch found) wanted) (filter_map (strange_line switch wanted) found) line h) [
    | inl g ↦ let k = kept_from (lacking_line switch found) wanted line g in lacking k.0 line k.1 k.2
    | inr g ↦ let k = kept_from (strange_line switch wanted) found line g in strange k.0 line k.1 k.2
  ]

  pick : {X : Type 0} (test : Bool) (x : X) → test ≡ true → (if test then Some x else None) ≡ Some x
  pick true x is = refl
  pick false x is = absurd (false≢true is)

  leave : {X : Type 0} (test : Bool) (x : X) → test ≡ false → (if test then None else Some x) ≡ Some x
  leave true x is = absurd (true≢false is)
  leave false x is = refl

  tells : (line : AuditLine) → Tells lab es w switch line → Has (unordered switch found wanted) line
  tells (Lacks named port vlan) t =
      let row : Row = record { switch = named; port = port; vlan = vlan.0 } in
      let x : Wanted = record { row = row; stands = true } in
      let has : Has wanted x = (all.stands row).0 t.1 in
      let none : is_found row found ≡ false = false_from_ne_true (is_found row found) (λ there. true≢false (sym (subst (λ (s : List ℕ). w.rows (record { switch = s; port = port; vlan = vlan.0 }) ≡ true) (sym t.0) (stands port vlan.0 there)) ∙ t.2)) in
      let test : (x.stands && (bytes_eq x.row.switch switch && not (is_found x.row found))) ≡ true = and_from _ _ refl (and_from _ _ ((bytes_eq-Decides named switch).1 t.0) (not_from_false (is_found row found) none)) in
      let line : lacking_line switch found x ≡ Some (Lacks named port vlan) = pick _ (Lacks switch port (record { 0 = vlan.0 })) test ∙ (λ i. Some (Lacks (sym t.0 i) port vlan)) in
      Has-left _ (filter_map (strange_line switch wanted) found) _ (kept_to (lacking_line switch found) wanted x _ has line)
  tells (Strange named port vlan) t =
      let row : Row = record { switch = named; port = port; vlan = vlan.0 } in
      let there : IsEntry w switch (port, vlan.0) = subst (λ (s : List ℕ). w.rows (record { switch = s; port = port; vlan = vlan.0 }) ≡ true) t.0 t.1 in
      let f = Has-map entry_of found (port, vlan.0) ((exact (port, vlan.0)).1 there) in
      let same : Path (ℕ × VlanId) f.0 (port, vlan) = λ i. ((f.2 i).0, record { 0 = (f.2 i).1 }) in
      let has : Has found (port, vlan) = subst (λ (e : ℕ × VlanId). Has found e) same f.1 in
      let none : list_any (is_wanted_at switch (port, vlan)) wanted ≡ false = false_from_ne_true _ (λ any.
      let g = any_from (is_wanted_at switch (port, vlan)) wanted any in
      let p = and_parts (bytes_eq g.0.row.switch switch) ((g.0.row.port == port) && (g.0.row.vlan == vlan.0)) g.2 in
      let q = and_parts (g.0.row.port == port) (g.0.row.vlan == vlan.0) p.1 in
      let is : Path Row g.0.row row = λ i. record { switch = ((bytes_eq-Decides g.0.row.switch switch).0 p.0 ∙ sym t.0) i; port = eqb-true g.0.row.port port q.0 i; vlan = eqb-true g.0.row.vlan vlan.0 q.1 i } in
      t.2 ((all.claimed row).1 (g.0.stands, subst (λ (r : Row). Has wanted (record { row = r; stands = g.0.stands })) is g.1))) in
      let line : strange_line switch wanted (port, vlan) ≡ Some (Strange named port vlan) = leave _ (Strange switch port vlan) none ∙ (λ i. Some (Strange (sym t.0 i) port vlan)) in
      Has-right (filter_map (lacking_line switch found) wanted) _ _ (kept_to (strange_line switch wanted) found (port, vlan) _ has line)
  tells (Node node) t = absurd t

  -- of each entry one line tells
  one_each : (a b : AuditLine) → Tells lab es w switch a → Tells lab es w switch b → entry_in a ≡ entry_in b → a ≡ b
  one_each (Lacks n p v) (Lacks m q u) t s e = λ i. Lacks ((t.0 ∙ sym s.0) i) (e i).0 (record { 0 = (e i).1 })
  one_each (Lacks n p v) (Strange m q u) t s e = absurd (true≢false (sym s.1 ∙ (λ i. w.rows (record { switch = (s.0 ∙ sym t.0) i; port = (sym e i).0; vlan = (sym e i).1 })) ∙ t.2))
  one_each (Lacks n p v) (Node m) t s e = absurd s
  one_each (Strange n p v) (Lacks m q u) t s e = absurd (true≢false (sym t.1 ∙ (λ i. w.rows (record { switch = (t.0 ∙ sym s.0) i; port = (e i).0; vlan = (e i).1 })) ∙ s.2))
  one_each (Strange n p v) (Strange m q u) t s e = λ i. Strange ((t.0 ∙ sym s.0) i) (e i).0 (record { 0 = (e i).1 })
  one_each (Strange n p v) (Node m) t s e = absurd s
  one_each (Node n) b t s e = absurd t

  pub lines_are : AreLinesOf lab es w switch (in_order (unordered switch found wanted))
  lines_are = record {
    rising = ordered_rises (unordered switch found wanted) [] tt;
    exact = λ line. (
      (λ h. elim (ordered_from (unordered switch found wanted) [] line h) [ inl none ↦ absurd none | inr g ↦ told line g ]),
      (λ t. ordered_has (Tells lab es w switch) one_each (unordered switch found wanted) [] (λ x none. absurd none) told line (inr (tells line t))),
    );
  }
