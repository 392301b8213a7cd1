-- Records of experiments of one lab that follow in another lab give the same experiments there.
use Rattle.std.specs.Str.{bytes_eq}
use Rattle.std.specs.List.{flat_map}
use Rattle.std.proofs.Common.{◌≡◌, ◌≢◌, inl, inr, ℕ, Bool, true, false, ◌&&◌, if◌then◌else◌, Option, Some, None, is_none, List, [], ◌∷◌, ◌++◌, length, nat_le, refl, sym, ap, ◌∙◌, subst, append_assoc}
use Rattle.std.proofs.lemmas.Bool.{cond-true, cond-false}
use Rattle.std.proofs.lemmas.List.{append-nil}
use Rattle.std.proofs.lemmas.Option.{same_Some}
use Rattle.std.proofs.lemmas.Slice.Eq.{bytes_eq-Decides}
use Rattle.lab_base.specs.Lists.{Has}
use Rattle.lab_base.specs.declared.ids.VlanId.{VlanId}
use Rattle.lab_base.proofs.Bytes.{bytes_other}
use Rattle.phys_lab.specs.Labs.{Lab}
use Rattle.phys_lab.specs.Kept.{IsLab}
use Rattle.virt_topo.specs.declared.wiring.Wiring.{Wiring}
use Rattle.virt_topo.specs.declared.mapping.Mapping.{Mapping}
use Rattle.virt_topo.specs.declared.mapping.Mapped.{Mapped}
use Rattle.virt_topo.specs.declared.experiment.Experiment.{Experiment}
use Rattle.virt_topo.specs.declared.experiment.Phase.{Phase}
use Rattle.virt_topo.specs.declared.experiment.Phase.TheVariants.{Out, In, Moving}
use Rattle.virt_topo.specs.Sharing.{has_multiplexed}
use Rattle.virt_topo.specs.Wirings.{mapped}
use Rattle.journal_rec.specs.declared.record.Way.TheVariants.{In as WayIn}
use Rattle.journal_rec.specs.declared.record.Record.{Record}
use Rattle.journal_rec.specs.declared.record.Record.TheVariants.{Lab as LabRecord, Begin, Commit}
use Rattle.lab_model.specs.Shapes.{IsShaped}
use Rattle.records_model.specs.Labs.{LabState, at_first, Move, SetLab, Creates, BeginsIn, Commits, find, replace, can_take, becomes, moved, moved_one, moved_in, Texts, HasText, AreCanonical, Says, Follows, FoldsTo, LabOf}
use Rattle.records_model.proofs.Finding.{none_some, not_found}
use Rattle.records_model.proofs.LabLaws.{lab_sane, says_create, in_state-some, with_replaced-some, found_one}
use Rattle.lab_state.specs.Packing.{creation, packed_phase, packed_one, packed_of}
use Rattle.lab_grow.specs.Carried.{IsSamePhase, IsSame, AreSame, HaveTexts, IsAtRest, AreAtRest, IsGrown, grown_records}

abbrev state : Lab → List Experiment → LabState
state lab es = record { lab = Some lab; experiments = es }

abbrev standing : List ℕ → Mapped → Experiment
standing name m = record { name = name; wiring = m.wiring; phase = In m.mapping m.tags }

abbrev entering : List ℕ → Mapped → Experiment
entering name m = record { name = name; wiring = m.wiring; phase = Moving None (Some m) }

abbrev outside : List ℕ → Wiring → Experiment
outside name wiring = record { name = name; wiring = wiring; phase = Out }

if_some : {X : Type 0} (b : Bool) (x y : X) → ◌≡◌ {A = Option X} (if b then Some x else None) (Some y) → (b ≡ true) × (x ≡ y)
if_some true x y h = (refl, same_Some x y h)
if_some false x y h = none_some y h

none_of : {X : Type 0} (o : Option X) (b : Bool) → (is_none o && b) ≡ true → o ≡ None
none_of None b h = refl
none_of (Some x) true h = absurd (cc h)
none_of (Some x) false h = absurd (cc h)

-- an experiment after others
pub record IsLast (name : List ℕ) (done : List Experiment) (g : Experiment) : Type 0 where
  pub found : find name (done ++ g ∷ []) ≡ Some g
  pub replaced : (f : Experiment) → replace name f (done ++ g ∷ []) ≡ done ++ f ∷ []

-- so it is where they have other names
at_end : (name : List ℕ) (done : List Experiment) (g : Experiment) → ((x : Experiment) → Has done x → x.name ≢ name) → g.name ≡ name → IsLast name done g
at_end name [] g new is =
    let yes' : bytes_eq g.name name ≡ true = (bytes_eq-Decides g.name name).1 is in
    record {
      found = cond-true (bytes_eq g.name name) (Some g) None yes';
      replaced = λ f. cond-true (bytes_eq g.name name) (f ∷ []) (g ∷ []) yes';
    }
at_end name (x ∷ done) g new is =
    let no' : bytes_eq x.name name ≡ false = bytes_other x.name name (new x (inl refl)) in
    let more = at_end name done g (λ y h. new y (inr h)) is in
    record {
      found = cond-false (bytes_eq x.name name) (Some x) (find name (done ++ g ∷ [])) no' ∙ more.found;
      replaced = λ f. cond-false (bytes_eq x.name name) (f ∷ (done ++ g ∷ [])) (x ∷ replace name f (done ++ g ∷ [])) no' ∙ ap (λ l. x ∷ l) (more.replaced f);
    }

folds_apart : (t : Texts) (s end : LabState) (xs ys : List Record) → FoldsTo t s (xs ++ ys) end → (mid : LabState) × FoldsTo t s xs mid × FoldsTo t mid ys end
folds_apart t s end [] ys h = (s, refl, h)
folds_apart t s end (r ∷ xs) ys h = let more = folds_apart t h.0 end xs ys h.2 in (more.0, (h.0, h.1, more.1), more.2)

module _ (t : Texts) (canon : AreCanonical t) (lab : Lab) (name : List ℕ) (done : List Experiment) where
  -- a new experiment
  created : (w : Wiring) (mid : LabState) → HasText t w → Follows t (state lab done) (creation t name w) mid → (find name done ≡ None) × (mid ≡ state lab (done ++ outside name w ∷ []))
  created w mid text f =
      let says = says_create t (state lab done) name (t.top w) (has_multiplexed w) f.move f.says in
      let same : says.0 ≡ w = canon.tops says.0 w says.1.text text (sym says.1.says) in
      let move : f.move ≡ Creates name w = says.2 ∙ ap (Creates name) same in
      let gives : moved (state lab done) (Creates name w) ≡ Some mid = subst (λ m. moved (state lab done) m ≡ Some mid) move f.gives in
      let some = in_state-some lab (moved_in lab done (Creates name w)) mid gives in
      let both = if_some (is_none (find name done) && nat_le (length done) 255) (done ++ outside name w ∷ []) some.0 some.1 in
      (none_of (find name done) (nat_le (length done) 255) both.0, sym some.2 ∙ ap (state lab) (sym both.1))

  -- a move of the last experiment
  stepped : (g : Experiment) (move : Move) (mid : LabState) → IsLast name done g → moved_in lab (done ++ g ∷ []) move ≡ moved_one lab (done ++ g ∷ []) name (find name (done ++ g ∷ [])) move
      → moved (state lab (done ++ g ∷ [])) move ≡ Some mid → (f : Experiment) × (becomes lab (done ++ g ∷ []) g g.phase move ≡ Some f) × (mid ≡ state lab (done ++ f ∷ []))
  stepped g move mid end same gives =
      let es = done ++ g ∷ [] in
      let some = in_state-some lab (moved_in lab es move) mid gives in
      let one = found_one lab es name move (find name es) some.0 (sym same ∙ some.1) in
      let is : one.0 ≡ g = same_Some one.0 g (sym one.1 ∙ end.found) in
      let put = with_replaced-some name es (becomes lab es one.0 one.0.phase move) some.0 one.2 in
      (put.0, subst (λ x. becomes lab es x x.phase move ≡ Some put.0) is put.1, sym some.2 ∙ ap (state lab) (sym put.2 ∙ end.replaced put.0))

  -- its way into the lab, with a mapping of another lab as text
  pub record Entered (text : List ℕ) (w : Wiring) (tags : List VlanId) (mid : LabState) : Type 0 where
    pub mapping : Mapping
    pub shaped : IsShaped lab w mapping
    pub says : text ≡ t.solution lab w mapping
    pub after : mid ≡ state lab (done ++ entering name (mapped w mapping tags) ∷ [])

  entered : (text : List ℕ) (w : Wiring) (tags : List VlanId) (mid : LabState) → IsLast name done (outside name w)
      → Follows t (state lab (done ++ outside name w ∷ [])) (Begin name (WayIn text tags)) mid → Entered text w tags mid
  entered text w tags mid end f =
      let g = outside name w in
      let es = done ++ g ∷ [] in
      let h : Says t (state lab es) (Begin name (WayIn text tags)) f.move = f.says in
      let of_lab : h.0 ≡ lab = same_Some h.0 lab (sym h.3) in
      let of_one : h.1 ≡ g = same_Some h.1 g (sym h.4 ∙ end.found) in
      let n : Mapping = h.2 in
      let shaped : IsShaped lab w n = subst (λ (x : Experiment). IsShaped lab x.wiring n) of_one (subst (λ l. IsShaped l h.1.wiring n) of_lab h.7) in
      let says : text ≡ t.solution lab w n = subst (λ (x : Experiment). text ≡ t.solution lab x.wiring n) of_one (subst (λ l. text ≡ t.solution l h.1.wiring n) of_lab h.8) in
      let step = stepped g (BeginsIn name n tags) mid end refl (subst (λ m. moved (state lab es) m ≡ Some mid) h.9 f.gives) in
      let m = mapped w n tags in
      let both = if_some (can_take lab es g m) (entering name m) step.0 step.1 in
      record { mapping = n; shaped = shaped; says = says; after = step.2 ∙ ap (λ x. state lab (done ++ x ∷ [])) (sym both.1) }

  committed : (m : Mapped) (mid : LabState) → IsLast name done (entering name m) → Follows t (state lab (done ++ entering name m ∷ [])) (Commit name) mid → mid ≡ state lab (done ++ standing name m ∷ [])
  committed m mid end f =
      let es = done ++ entering name m ∷ [] in
      let step = stepped (entering name m) (Commits name) mid end refl (subst (λ x. moved (state lab es) x ≡ Some mid) f.says f.gives) in
      step.2 ∙ ap (λ x. state lab (done ++ x ∷ [])) (sym (same_Some (standing name m) step.0 step.1))

-- one experiment over another lab
pub record Carried (t : Texts) (old new : Lab) (done : List Experiment) (e : Experiment) (end : LabState) : Type 0 where
  pub one : Experiment
  pub same : IsSame t old new e one
  pub after : end ≡ state new (done ++ one ∷ [])

one_carried : (t : Texts) (canon : AreCanonical t) (old new : Lab) (done : List Experiment) (name : List ℕ) (w : Wiring) (phase : Phase) (end : LabState) → HasText t w → IsAtRest phase
    → FoldsTo t (state new done) (packed_phase t old name w phase) end → Carried t old new done (record { name = name; wiring = w; phase = phase }) end
one_carried t canon old new done name w Out end text rest h =
    let first = created t canon new name done w h.0 text h.1 in
    record { one = outside name w; same = record { name = refl; wiring = refl; phase = tt }; after = sym h.2 ∙ first.1 }
one_carried t canon old new done name w (In m tags) end text rest h =
    let first = created t canon new name done w h.0 text h.1 in
    let apart = not_found name done first.0 in
    let second = h.2 in
    let map : List ℕ = t.solution old w m in
    let entry_at : Follows t (state new (done ++ outside name w ∷ [])) (Begin name (WayIn map tags)) second.0 = subst (λ s. Follows t s (Begin name (WayIn map tags)) second.0) first.1 second.1 in
    let into = entered t canon new name done map w tags second.0 (at_end name done (outside name w) apart refl) entry_at in
    let own = mapped w into.mapping tags in
    let third = second.2 in
    let commit_at : Follows t (state new (done ++ entering name own ∷ [])) (Commit name) third.0 = subst (λ s. Follows t s (Commit name) third.0) into.after third.1 in
    let last = committed t canon new name done own third.0 (at_end name done (entering name own) apart refl) commit_at in
    record {
      one = standing name own;
      same = record { name = refl; wiring = refl; phase = record { wiring = refl; tags = refl; shaped = into.shaped; text = sym into.says } };
      after = sym third.2 ∙ last;
    }
one_carried t canon old new done name w (Moving a b) end text rest h = absurd rest

-- ALL OF THEM, in order of creation
all_carried : (t : Texts) (canon : AreCanonical t) (old new : Lab) (done es : List Experiment) (end : LabState) → HaveTexts t es → AreAtRest es
    → FoldsTo t (state new done) (flat_map (packed_one t old) es) end → (fs : List Experiment) × AreSame t old new es fs × (end ≡ state new (done ++ fs))
all_carried t canon old new done [] end texts rest h = ([], tt, sym h ∙ ap (state new) (sym (append-nil done)))
all_carried t canon old new done (e ∷ es) end texts rest h =
    let parts = folds_apart t (state new done) end (packed_one t old e) (flat_map (packed_one t old) es) h in
    let one = one_carried t canon old new done e.name e.wiring e.phase parts.0 (texts e (inl refl)) rest.0 parts.1 in
    let more = all_carried t canon old new (done ++ one.one ∷ []) es end (λ x m. texts x (inr m)) rest.1 (subst (λ s. FoldsTo t s (flat_map (packed_one t old) es) end) one.after parts.2) in
    (one.one ∷ more.0, (one.same, more.1), more.2 ∙ ap (state new) (append_assoc done (one.one ∷ []) more.0))

-- the records of the same experiments are the same ones
same_packed : (t : Texts) (old new : Lab) (name : List ℕ) (w : Wiring) (p q : Phase) → IsSamePhase t old new w p q → packed_phase t new name w q ≡ packed_phase t old name w p
same_packed t old new name w Out Out same = refl
same_packed t old new name w (In m tags) (In n ids) same = λ i. creation t name w ∷ Begin name (WayIn (same.text i) (same.tags i)) ∷ Commit name ∷ []
same_packed t old new name w Out (In n ids) same = absurd same
same_packed t old new name w Out (Moving a b) same = absurd same
same_packed t old new name w (In m tags) Out same = absurd same
same_packed t old new name w (In m tags) (Moving a b) same = absurd same
same_packed t old new name w (Moving a b) q same = absurd same

same_one : (t : Texts) (old new : Lab) (e f : Experiment) → IsSame t old new e f → packed_one t new f ≡ packed_one t old e
same_one t old new e f same = (λ i. packed_phase t new (same.name i) (same.wiring i) f.phase) ∙ same_packed t old new e.name e.wiring e.phase f.phase same.phase

same_all : (t : Texts) (old new : Lab) (es fs : List Experiment) → AreSame t old new es fs → flat_map (packed_one t new) fs ≡ flat_map (packed_one t old) es
same_all t old new [] [] same = refl
same_all t old new [] (f ∷ fs) same = absurd same
same_all t old new (e ∷ es) [] same = absurd same
same_all t old new (e ∷ es) (f ∷ fs) same = λ i. same_one t old new e f same.0 i ++ same_all t old new es fs same.1 i

pub grown_law : (t : Texts) → AreCanonical t → (es : List Experiment) (old new : Lab) (end : LabState) → HaveTexts t es → IsLab new → AreAtRest es
    → LabOf t (grown_records t old new es) end → IsGrown t old new es end
grown_law t canon es old new end texts new_is rest h =
    let first = h.1 in
    let says = first.says in
    let same : says.0 ≡ new = canon.ptops says.0 new says.1 new_is (sym says.2) in
    let gives : moved at_first (SetLab new) ≡ Some h.0 = subst (λ m. moved at_first m ≡ Some h.0) (says.3 ∙ ap SetLab same) first.gives in
    let start : h.0 ≡ state new [] = sym (same_Some (state new []) h.0 gives) in
    let all = all_carried t canon old new [] es end texts rest (subst (λ x. FoldsTo t x (flat_map (packed_one t old) es) end) start h.2) in
    let packed : packed_of t (state new all.0) ≡ grown_records t old new es = ap (λ (rs : List Record). LabRecord (t.ptop new) ∷ rs) (same_all t old new es all.0 all.1) in
    let ends : end ≡ state new all.0 = all.2 in
    record {
      lab = ap (λ (x : LabState). x.lab) ends;
      same = subst (λ (x : LabState). AreSame t old new es x.experiments) (sym ends) all.1;
      sane = lab_sane t (grown_records t old new es) end h;
      packed = ap (packed_of t) ends ∙ packed;
      stands = subst (λ (rs : List Record). LabOf t rs end) (sym (ap (packed_of t) ends ∙ packed)) h;
    }
