-- The packed records of a lab stand for it.
use Rattle.std.specs.Str.{bytes_eq}
use Rattle.std.specs.List.{flat_map, sum_by}
use Rattle.std.proofs.Common.{◌≡◌, ◌≢◌, inl, inr, ℕ, ◌+◌, ◌≤◌, Bool, true, false, ◌&&◌, if◌then◌else◌, Option, Some, None, is_none, List, [], ◌∷◌, ◌++◌, map, length, nat_le, refl, sym, ap, ◌∙◌, subst, arith, length-append, append_assoc}
use Rattle.std.proofs.lemmas.Bool.{cond-true, cond-false, le-leb}
use Rattle.std.proofs.lemmas.List.{append-nil}
use Rattle.std.proofs.lemmas.List.Sums.{sum_by-append}
use Rattle.std.proofs.lemmas.Slice.Eq.{bytes_eq-Decides}
use Rattle.lab_base.specs.Lists.{Has, AllDiffer}
use Rattle.lab_base.proofs.Members.{Has-right, Has-mapped, Apart-across, flat-each}
use Rattle.lab_base.proofs.Bytes.{bytes_other}
use Rattle.phys_lab.specs.Labs.{Lab}
use Rattle.phys_lab.specs.Kept.{IsLab}
use Rattle.virt_topo.specs.declared.wiring.Wiring.{Wiring}
use Rattle.virt_topo.specs.declared.mapping.Mapped.{Mapped}
use Rattle.virt_topo.specs.declared.experiment.Experiment.{Experiment}
use Rattle.virt_topo.specs.declared.experiment.Phase.{Phase}
use Rattle.virt_topo.specs.declared.experiment.Phase.TheVariants.{Out, In, Moving}
use Rattle.virt_topo.specs.Sharing.{has_multiplexed}
use Rattle.virt_topo.specs.Wirings.{mapped}
use Rattle.journal_rec.specs.declared.record.Way.TheVariants.{Out as WayOut}
use Rattle.journal_rec.specs.declared.record.Record.{Record}
use Rattle.journal_rec.specs.declared.record.Record.TheVariants.{Begin, Commit}
use Rattle.lab_model.specs.Claims.{Which, Old, New, claimed, claimed_tags, tags_of}
use Rattle.lab_model.specs.Holding.{Holding}
use Rattle.lab_model.specs.Beside.{claimed_segments, ids_of}
use Rattle.lab_model.proofs.FeasibleLaws.{TakesOne, takes_claimed}
use Rattle.records_model.specs.Labs.{LabState, Move, SetLab, Creates, BeginsIn, BeginsOut, BeginsChange, Commits, find, replace, others, can_take, becomes, moved_one, moved_in, with_replaced, in_state, Texts, HasText, Says, Follows, FoldsTo, LabOf, Sane}
use Rattle.records_model.proofs.LabLaws.{lab_sane, create_says, change_says}
use Rattle.lab_state.specs.Packing.{creation, entry, turn, stand, packed_phase, packed_one, packed_in, packed_of}
use Rattle.lab_state.proofs.Formed.{IsFormedPhase, AreFormed, lab_formed}
use Rattle.lab_state.proofs.Taken.{taken, ids_fit, holding_first}

-- ---- an experiment after others
pub record AtEnd (name : List ℕ) (done : List Experiment) (g : Experiment) : Type 0 where
  pub found : find name (done ++ g ∷ []) ≡ Some g
  pub replaced : (f : Experiment) → replace name f (done ++ g ∷ []) ≡ done ++ f ∷ []
  pub rest : others name (done ++ g ∷ []) ≡ done

abbrev IsNew : List ℕ → List Experiment → Type 0
IsNew name done = (x : Experiment) → Has done x → x.name ≢ name

at_end : (name : List ℕ) (done : List Experiment) (g : Experiment) → IsNew name done → g.name ≡ name → AtEnd name done g
at_end name [] g new is =
    let yes' : bytes_eq g.name name ≡ true = (bytes_eq-Decides g.name name).1 is in
    record {
      found = cond-true (bytes_eq g.name name) (Some g) None yes';
      replaced = λ f. cond-true (bytes_eq g.name name) (f ∷ []) (g ∷ []) yes';
      rest = cond-true (bytes_eq g.name name) [] (g ∷ []) yes';
    }
at_end name (x ∷ done) g new is =
    let no' : bytes_eq x.name name ≡ false = bytes_other x.name name (new x (inl refl)) in
    let more = at_end name done g (λ y h. new y (inr h)) is in
    record {
      found = cond-false (bytes_eq x.name name) (Some x) (find name (done ++ g ∷ [])) no' ∙ more.found;
      replaced = λ f. cond-false (bytes_eq x.name name) (f ∷ (done ++ g ∷ [])) (x ∷ replace name f (done ++ g ∷ [])) no' ∙ ap (λ l. x ∷ l) (more.replaced f);
      rest = cond-false (bytes_eq x.name name) (done ++ g ∷ []) (x ∷ others name (done ++ g ∷ [])) no' ∙ ap (λ l. x ∷ l) more.rest;
    }

not_there : (name : List ℕ) (done : List Experiment) → IsNew name done → find name done ≡ None
not_there name [] new = refl
not_there name (x ∷ done) new = cond-false (bytes_eq x.name name) (Some x) (find name done) (bytes_other x.name name (new x (inl refl))) ∙ not_there name done (λ y h. new y (inr h))

abbrev state : Lab → List Experiment → LabState
state lab es = record { lab = Some lab; experiments = es }

abbrev standing : List ℕ → Mapped → Experiment
standing name m = record { name = name; wiring = m.wiring; phase = In m.mapping m.tags }

abbrev entering : List ℕ → Mapped → Experiment
entering name m = record { name = name; wiring = m.wiring; phase = Moving None (Some m) }

abbrev outside : List ℕ → Wiring → Experiment
outside name wiring = record { name = name; wiring = wiring; phase = Out }

module _ (t : Texts) (lab : Lab) (is_lab : IsLab lab) (name : List ℕ) (done : List Experiment) (new : IsNew name done) where
  -- a record of the last experiment
  one_follows : (g f : Experiment) (r : Record) (move : Move) → g.name ≡ name → Says t (state lab (done ++ g ∷ [])) r move → moved_in lab (done ++ g ∷ []) move ≡ moved_one lab (done ++ g ∷ []) name (find name (done ++ g ∷ [])) move
      → becomes lab (done ++ g ∷ []) g g.phase move ≡ Some f → Follows t (state lab (done ++ g ∷ [])) r (state lab (done ++ f ∷ []))
  one_follows g f r move is says same h =
      let end = at_end name done g new is in
      record {
        move = move;
        says = says;
        gives = ap (in_state lab) (same ∙ ap (λ o. moved_one lab (done ++ g ∷ []) name o move) end.found ∙ ap (with_replaced name (done ++ g ∷ [])) h ∙ ap (λ l. Some l) (end.replaced f));
      }

  created : (wiring : Wiring) → HasText t wiring → length done ≤ 255 → Follows t (state lab done) (creation t name wiring) (state lab (done ++ outside name wiring ∷ []))
  created wiring text few =
      let test : (is_none (find name done) && nat_le (length done) 255) ≡ true = (λ i. is_none (not_there name done new i) && le-leb (length done) 255 few i) in
      record {
        move = Creates name wiring;
        says = create_says t (state lab done) name (t.top wiring) (has_multiplexed wiring) (Creates name wiring) (wiring, record { text = text; says = refl; format = refl }, refl);
        gives = ap (λ (b : Bool). in_state lab (if b then Some (done ++ outside name wiring ∷ []) else None)) test;
      }

  entered : (m : Mapped) (takes : TakesOne lab done [] (Some m)) → HasText t m.wiring → length m.wiring.segments + sum_by claimed_segments (outside name m.wiring ∷ done) ≤ ids_of lab
      → Follows t (state lab (done ++ outside name m.wiring ∷ [])) (entry t lab name m) (state lab (done ++ entering name m ∷ []))
  entered m takes text ids =
      let out = outside name m.wiring in
      let end = at_end name done out new refl in
      let can : can_take lab (done ++ out ∷ []) out m ≡ true = taken lab done out m takes end.rest (λ v mine none. none) ids in
      one_follows out (entering name m) (entry t lab name m) (BeginsIn name m.mapping m.tags) refl
      (lab, out, m.mapping, refl, end.found, is_lab, text, (takes.fits m refl).shaped, refl, refl) refl
      (ap (λ (b : Bool). if b then Some (entering name m) else None) can)

  committed : (m : Mapped) → Follows t (state lab (done ++ entering name m ∷ [])) (Commit name) (state lab (done ++ standing name m ∷ []))
  committed m = one_follows (entering name m) (standing name m) (Commit name) (Commits name) refl refl refl refl

  leaving : (m : Mapped) → Follows t (state lab (done ++ standing name m ∷ [])) (Begin name WayOut) (state lab (done ++ record { name = name; wiring = m.wiring; phase = Moving (Some m) None } ∷ []))
  leaving m = one_follows (standing name m) (record { name = name; wiring = m.wiring; phase = Moving (Some m) None }) (Begin name WayOut) (BeginsOut name) refl refl refl refl

  turning : (old m : Mapped) (takes : TakesOne lab done [] (Some m)) → HasText t m.wiring → ((v : ℕ) → Has (tags_of (Some m)) v → Has (tags_of (Some old)) v → ⊥)
      → length m.wiring.segments + sum_by claimed_segments (standing name old ∷ done) ≤ ids_of lab
      → Follows t (state lab (done ++ standing name old ∷ [])) (turn t lab name m) (state lab (done ++ record { name = name; wiring = old.wiring; phase = Moving (Some old) (Some m) } ∷ []))
  turning old m takes text apart ids =
      let g = standing name old in
      let f : Experiment = record { name = name; wiring = old.wiring; phase = Moving (Some old) (Some m) } in
      let end = at_end name done g new refl in
      let can : can_take lab (done ++ g ∷ []) g m ≡ true = taken lab done g m takes end.rest apart ids in
      let move : Move = BeginsChange name m.wiring m.mapping m.tags in
      let says = change_says t (state lab (done ++ g ∷ [])) name (t.top m.wiring) (t.solution lab m.wiring m.mapping) m.tags (has_multiplexed m.wiring) move
      (lab, m.wiring, m.mapping, refl, is_lab, record { text = text; says = refl; format = refl }, (takes.fits m refl).shaped, refl, refl) in
      one_follows g f (turn t lab name m) move refl says refl
      (ap (λ (b : Bool). if b then Some f else None) can)

  stands : (m : Mapped) (takes : TakesOne lab done [] (Some m)) → HasText t m.wiring → length done ≤ 255 → length m.wiring.segments + sum_by claimed_segments (outside name m.wiring ∷ done) ≤ ids_of lab
      → FoldsTo t (state lab done) (stand t lab name m) (state lab (done ++ standing name m ∷ []))
  stands m takes text few ids =
      (state lab (done ++ outside name m.wiring ∷ []), created m.wiring text few, (state lab (done ++ entering name m ∷ []), entered m takes text ids, (state lab (done ++ standing name m ∷ []), committed m, refl)))

-- ---- lists of records
folds_append : (t : Texts) (s mid end : LabState) (xs ys : List Record) → FoldsTo t s xs mid → FoldsTo t mid ys end → FoldsTo t s (xs ++ ys) end
folds_append t s mid end [] ys h g = subst (λ x. FoldsTo t x ys end) (sym h) g
folds_append t s mid end (r ∷ xs) ys h g = (h.0, h.1, folds_append t h.0 mid end xs ys h.2 g)

folds_one : (t : Texts) (s u : LabState) (r : Record) → Follows t s r u → FoldsTo t s (r ∷ []) u
folds_one t s u r f = (u, f, refl)

-- the VLAN ids of the others, and of one mapping of the last
module _ (lab : Lab) (done : List Experiment) (e : Experiment) (holding : Holding lab (done ++ e ∷ [])) where
  count : sum_by claimed_segments done + claimed_segments e ≤ ids_of lab
  count = omega (arith, ids_fit lab (done ++ e ∷ []) holding, sum_by-append claimed_segments done (e ∷ []))

  ids_in : (n : ℕ) (out : Experiment) → claimed_segments out ≡ 0 → n ≤ claimed_segments e → n + sum_by claimed_segments (out ∷ done) ≤ ids_of lab
  ids_in n out none fits = omega (arith, count, none, fits, sum_by-append claimed_segments (out ∷ []) done)

  ids_turned : (n : ℕ) (own : Experiment) → n + claimed_segments own ≤ claimed_segments e → n + sum_by claimed_segments (own ∷ done) ≤ ids_of lab
  ids_turned n own fits = omega (arith, count, fits, sum_by-append claimed_segments (own ∷ []) done)

  mine : (which : Which) (m : Mapped) → claimed e which ≡ Some m → TakesOne lab done [] (Some m)
  mine which m is = subst (λ o. TakesOne lab done [] o) is (takes_claimed lab done [] e which holding)

  tags_apart : (v : ℕ) → Has (tags_of (claimed e New)) v → Has (tags_of (claimed e Old)) v → ⊥
  tags_apart v new old =
      Apart-across (λ x y. x ≢ y) (tags_of (claimed e Old)) (tags_of (claimed e New)) v v
      (flat-each claimed_tags (done ++ e ∷ []) e holding.tags (Has-right done (e ∷ []) e (inl refl))) old new refl

-- ONE EXPERIMENT
one_folds : (t : Texts) (lab : Lab) (done : List Experiment) (name : List ℕ) (wiring : Wiring) (phase : Phase) → IsLab lab → IsNew name done → length done ≤ 255 → HasText t wiring → IsFormedPhase t wiring phase
    → Holding lab (done ++ record { name = name; wiring = wiring; phase = phase } ∷ []) → FoldsTo t (state lab done) (packed_phase t lab name wiring phase) (state lab (done ++ record { name = name; wiring = wiring; phase = phase } ∷ []))
one_folds t lab done name wiring Out is_lab new few text formed holding =
    folds_one t (state lab done) (state lab (done ++ outside name wiring ∷ [])) (creation t name wiring) (created t lab is_lab name done new wiring text few)
one_folds t lab done name wiring (In mapping tags) is_lab new few text formed holding =
    let m = mapped wiring mapping tags in
    let e : Experiment = standing name m in
    stands t lab is_lab name done new m (mine lab done e holding New m refl) text few (ids_in lab done e holding (length wiring.segments) (outside name wiring) refl (omega arith))
one_folds t lab done name wiring (Moving None None) is_lab new few text formed holding = absurd formed
one_folds t lab done name wiring (Moving None (Some m)) is_lab new few text formed holding =
    let e : Experiment = record { name = name; wiring = wiring; phase = Moving None (Some m) } in
    let worded : HasText t m.wiring = subst (HasText t) (sym formed) text in
    let takes = mine lab done e holding New m refl in
    let ids = ids_in lab done e holding (length m.wiring.segments) (outside name m.wiring) refl (omega arith) in
    subst (λ w. FoldsTo t (state lab done) (packed_phase t lab name wiring (Moving None (Some m))) (state lab (done ++ record { name = name; wiring = w; phase = Moving None (Some m) } ∷ []))) formed
    (state lab (done ++ outside name m.wiring ∷ []), created t lab is_lab name done new m.wiring worded few, (state lab (done ++ entering name m ∷ []), entered t lab is_lab name done new m takes worded ids, refl))
one_folds t lab done name wiring (Moving (Some m) None) is_lab new few text formed holding =
    let e : Experiment = record { name = name; wiring = wiring; phase = Moving (Some m) None } in
    let worded : HasText t m.wiring = subst (HasText t) (sym formed) text in
    let takes = mine lab done e holding Old m refl in
    let ids = ids_in lab done e holding (length m.wiring.segments) (outside name m.wiring) refl (omega arith) in
    subst (λ w. FoldsTo t (state lab done) (packed_phase t lab name wiring (Moving (Some m) None)) (state lab (done ++ record { name = name; wiring = w; phase = Moving (Some m) None } ∷ []))) formed
    (let mid = state lab (done ++ standing name m ∷ []) in
    let end = state lab (done ++ record { name = name; wiring = m.wiring; phase = Moving (Some m) None } ∷ []) in
    folds_append t (state lab done) mid end (stand t lab name m) (Begin name WayOut ∷ []) (stands t lab is_lab name done new m takes worded few ids) (folds_one t mid end (Begin name WayOut) (leaving t lab is_lab name done new m)))
one_folds t lab done name wiring (Moving (Some m) (Some n)) is_lab new few text formed holding =
    let e : Experiment = record { name = name; wiring = wiring; phase = Moving (Some m) (Some n) } in
    let worded : HasText t m.wiring = subst (HasText t) (sym formed.0) text in
    let takes = mine lab done e holding Old m refl in
    let next = mine lab done e holding New n refl in
    let ids = ids_in lab done e holding (length m.wiring.segments) (outside name m.wiring) refl (omega arith) in
    let more = ids_turned lab done e holding (length n.wiring.segments) (standing name m) (omega arith) in
    subst (λ w. FoldsTo t (state lab done) (packed_phase t lab name wiring (Moving (Some m) (Some n))) (state lab (done ++ record { name = name; wiring = w; phase = Moving (Some m) (Some n) } ∷ []))) formed.0
    (let mid = state lab (done ++ standing name m ∷ []) in
    let end = state lab (done ++ record { name = name; wiring = m.wiring; phase = Moving (Some m) (Some n) } ∷ []) in
    folds_append t (state lab done) mid end (stand t lab name m) (turn t lab name n ∷ []) (stands t lab is_lab name done new m takes worded few ids)
    (folds_one t mid end (turn t lab name n) (turning t lab is_lab name done new m n next formed.1 (tags_apart lab done e holding) more)))

-- the names of the experiments before one are others
new_after : (done rest : List Experiment) (e : Experiment) → AllDiffer (map (λ x. x.name) (done ++ e ∷ rest)) → IsNew e.name done
new_after [] rest e differ x h = absurd h
new_after (y ∷ done) rest e differ x (inl is) = λ same. differ.0 e.name (Has-mapped (λ z. z.name) (done ++ e ∷ rest) e (Has-right done (e ∷ rest) e (inl refl))) (ap (λ z. z.name) is ∙ same)
new_after (y ∷ done) rest e differ x (inr h) = new_after done rest e differ.1 x h

-- ALL OF THEM, in order of creation
all_folds : (t : Texts) (lab : Lab) (done rest : List Experiment) → IsLab lab → AreFormed t (done ++ rest) → AllDiffer (map (λ x. x.name) (done ++ rest)) → length (done ++ rest) ≤ 256 → Holding lab (done ++ rest)
    → FoldsTo t (state lab done) (flat_map (packed_one t lab) rest) (state lab (done ++ rest))
all_folds t lab done [] is_lab formed differ few holding = ap (state lab) (sym (append-nil done))
all_folds t lab done (e ∷ rest) is_lab formed differ few holding =
    let whole : (done ++ e ∷ []) ++ rest ≡ done ++ e ∷ rest = append_assoc done (e ∷ []) rest in
    let first = formed e (Has-right done (e ∷ rest) e (inl refl)) in
    let held : Holding lab ((done ++ e ∷ []) ++ rest) = subst (Holding lab) (sym whole) holding in
    let one = one_folds t lab done e.name e.wiring e.phase is_lab (new_after done rest e differ) (omega (arith, few, length-append done (e ∷ rest))) first.wiring first.phase (holding_first lab (done ++ e ∷ []) rest held) in
    let more = all_folds t lab (done ++ e ∷ []) rest is_lab (subst (AreFormed t) (sym whole) formed) (subst (λ l. AllDiffer (map (λ x. x.name) l)) (sym whole) differ) (subst (λ l. length l ≤ 256) (sym whole) few) held in
    folds_append t (state lab done) (state lab (done ++ e ∷ [])) (state lab (done ++ e ∷ rest)) (packed_one t lab e) (flat_map (packed_one t lab) rest) one
    (subst (λ l. FoldsTo t (state lab (done ++ e ∷ [])) (flat_map (packed_one t lab) rest) (state lab l)) whole more)

by_lab : (t : Texts) (o : Option Lab) (es : List Experiment) → Sane (record { lab = o; experiments = es }) → AreFormed t es → LabOf t (packed_in t o es) (record { lab = o; experiments = es })
by_lab t None es sane formed = ap (λ (l : List Experiment). let s : LabState = record { lab = None; experiments = l } in s) (sym (sane.none refl))
by_lab t (Some lab) es sane formed =
    (state lab [], record { move = SetLab lab; says = (lab, sane.is_lab, refl, refl); gives = refl }, all_folds t lab [] es sane.is_lab formed sane.names sane.few sane.holding)

-- THE LAW OF PACKING: the packed records stand for the lab of any records
pub packed_law : (t : Texts) (rs : List Record) (s : LabState) → LabOf t rs s → LabOf t (packed_of t s) s
packed_law t rs s h = by_lab t s.lab s.experiments (lab_sane t rs s h) (lab_formed t rs s h)
