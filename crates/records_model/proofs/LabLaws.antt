-- Each record keeps the state sane, and the parts of the world.
use Rattle.std.proofs.Common.{◌≡◌, ◌≢◌, inl, inr, ℕ, zero, suc, ◌≤◌, Bool, true, false, ◌&&◌, if◌then◌else◌, is_none, nat_le, Option, Some, None, List, [], ◌∷◌, ◌++◌, map, length, refl, sym, ap, ◌∙◌, subst, arith, length-append, ◌<◌}
use Rattle.std.proofs.lemmas.Bool.{and_parts, leb-true}
use Rattle.std.proofs.lemmas.List.{append-nil}
use Rattle.std.proofs.lemmas.Option.{same_Some}
use Rattle.lab_base.specs.Lists.{Has, AllDiffer}
use Rattle.lab_base.proofs.Members.{Has-append, Has-map, Has-mapped, Has-right}
use Rattle.lab_base.specs.Names.{is_name}
use Rattle.lab_base.specs.declared.ids.VlanId.{VlanId}
use Rattle.lab_base.proofs.Tests.{none_is}
use Rattle.phys_lab.specs.Labs.{Lab}
use Rattle.phys_lab.specs.Kept.{IsLab}
use Rattle.virt_topo.specs.declared.wiring.Wiring.{Wiring}
use Rattle.virt_topo.specs.declared.experiment.Experiment.{Experiment}
use Rattle.virt_topo.specs.declared.experiment.Phase.{Phase}
use Rattle.virt_topo.specs.declared.experiment.Phase.TheVariants.{Out, In, Moving}
use Rattle.virt_topo.specs.Soundness.{IsSound}
use Rattle.plant.specs.Worlds.{World}
use Rattle.journal_rec.specs.declared.record.Way.TheVariants.{In as WayIn, Out as WayOut, Change as WayChange, Change2 as WayChange2}
use Rattle.journal_rec.specs.declared.record.Record.{Record}
use Rattle.journal_rec.specs.declared.record.Record.TheVariants.{Lab as LabRecord, Create, Delete, Begin, Commit, Abort, Create2}
use Rattle.journal_rec.specs.Payloads.{IsRecord}
use Rattle.lab_model.specs.Holding.{Holding}
use Rattle.lab_model.specs.Parts.{Parts}
use Rattle.lab_model.specs.Shapes.{IsShaped}
use Rattle.phys_lab.proofs.Adding.{empty_kept}
use Rattle.lab_model.proofs.Records.{Has_mid, Has_other}
use Rattle.lab_model.proofs.ListLaws.{holding_drop, holding_add, parts_drop, parts_add}
use Rattle.records_model.specs.Labs.{LabState, at_first, StopsAt, Move, SetLab, Creates, Deletes, BeginsIn, BeginsOut, BeginsChange, Commits, Aborts, find, replace, others, becomes, is_out, with_replaced, moved_one, deleted, in_state, moved_of, moved, Texts, AreCanonical, create_in, change_in, SaysCreate, SaysChange, SaysBegin, Says, Follows, FoldsTo, LabOf, no_lab, Sane, IsRightFor, KeepsParts}
use Rattle.records_model.proofs.Finding.{none_some, found_from, not_found, names_mid}
use Rattle.records_model.proofs.Turning.{ShapedFor, ReadyOne, Turned, turned}

-- what the texts of a record say of its values
abbrev pub Shaped : LabState → Move → Type 0
Shaped s (SetLab lab) = IsLab lab
Shaped s (Creates name w) = IsSound w
Shaped s (BeginsIn name m tags) = (lab : Lab) (e : Experiment) → s.lab ≡ Some lab → find name s.experiments ≡ Some e → IsShaped lab e.wiring m
Shaped s (BeginsChange name w m tags) = IsSound w × ((lab : Lab) → s.lab ≡ Some lab → IsShaped lab w m)
Shaped s move = Unit {0}

-- a record of either format says what its text does
pub says_create : (t : Texts) (s : LabState) (exp top : List ℕ) (second : Bool) (move : Move) → Says t s (create_in second exp top) move → SaysCreate t exp top second move
says_create t s exp top false move h = h
says_create t s exp top true move h = h

pub create_says : (t : Texts) (s : LabState) (exp top : List ℕ) (second : Bool) (move : Move) → SaysCreate t exp top second move → Says t s (create_in second exp top) move
create_says t s exp top false move h = h
create_says t s exp top true move h = h

pub says_change : (t : Texts) (s : LabState) (exp top map : List ℕ) (tags : List VlanId) (second : Bool) (move : Move) → SaysBegin t s exp (change_in second top map tags) move → SaysChange t s exp top map tags second move
says_change t s exp top map tags false move h = h
says_change t s exp top map tags true move h = h

pub change_says : (t : Texts) (s : LabState) (exp top map : List ℕ) (tags : List VlanId) (second : Bool) (move : Move) → SaysChange t s exp top map tags second move → SaysBegin t s exp (change_in second top map tags) move
change_says t s exp top map tags false move h = h
change_says t s exp top map tags true move h = h

create_shaped : (t : Texts) (s : LabState) (exp top : List ℕ) (second : Bool) (move : Move) → SaysCreate t exp top second move → Shaped s move
create_shaped t s exp top second move h = subst (λ m. Shaped s m) (sym h.2) h.1.text.sound

change_shaped : (t : Texts) (s : LabState) (exp top map : List ℕ) (tags : List VlanId) (second : Bool) (move : Move) → SaysChange t s exp top map tags second move → Shaped s move
change_shaped t s exp top map tags second move h = subst (λ m. Shaped s m) (sym h.8) (
  h.5.text.sound,
  λ lab is_lab.
      let one : h.0 ≡ lab = same_Some _ _ (sym h.3 ∙ is_lab) in
      subst (λ l. IsShaped l h.1 h.2) one h.6,
)

pub says_shaped : (t : Texts) (s : LabState) (r : Record) (move : Move) → Says t s r move → Shaped s move
says_shaped t s (LabRecord ptop) move h = subst (λ m. Shaped s m) (sym h.3) h.1
says_shaped t s (Create exp top) move h = create_shaped t s exp top false move h
says_shaped t s (Create2 exp top) move h = create_shaped t s exp top true move h
says_shaped t s (Delete exp) move h = subst (λ m. Shaped s m) (sym h) tt
says_shaped t s (Begin exp (WayIn map tags)) move h = subst (λ m. Shaped s m) (sym h.9) (λ lab e is_lab is_e.
    let one : h.0 ≡ lab = same_Some _ _ (sym h.3 ∙ is_lab) in
    let two : h.1 ≡ e = same_Some _ _ (sym h.4 ∙ is_e) in
    subst (λ l. IsShaped l e.wiring h.2) one (subst (λ x. IsShaped h.0 x.wiring h.2) two h.7))
says_shaped t s (Begin exp WayOut) move h = subst (λ m. Shaped s m) (sym h) tt
says_shaped t s (Begin exp (WayChange top map tags)) move h = change_shaped t s exp top map tags false move h
says_shaped t s (Begin exp (WayChange2 top map tags)) move h = change_shaped t s exp top map tags true move h
says_shaped t s (Commit exp) move h = subst (λ m. Shaped s m) (sym h) tt
says_shaped t s (Abort exp) move h = subst (λ m. Shaped s m) (sym h) tt

-- the experiments' names are names
abbrev pub AreNamed : LabState → Type 0
AreNamed s = (e : Experiment) → Has s.experiments e → is_name e.name ≡ true

abbrev pub IsNamed : Move → Type 0
IsNamed (Creates name w) = is_name name ≡ true
IsNamed move = Unit {0}

-- what a move gives
pub record Stepped (s : LabState) (move : Move) (u : LabState) : Type 0 where
  pub sane : Sane u
  pub parts : (w : World) → IsRightFor s w move → KeepsParts w s → KeepsParts w u
  pub named : AreNamed s → IsNamed move → AreNamed u

abbrev pub state : Lab → List Experiment → LabState
state lab es = record { lab = Some lab; experiments = es }

names_push : (es : List Experiment) (e : Experiment) → AllDiffer (map (λ x. x.name) es) → ((x : Experiment) → Has es x → x.name ≢ e.name) → AllDiffer (map (λ x. x.name) (es ++ e ∷ []))
names_push [] e differ none = ((λ y h. absurd h), tt)
names_push (x ∷ es) e differ none = (
  λ y h same. by y (Has-map (λ z. z.name) (es ++ e ∷ []) y h) same,
  names_push es e differ.1 (λ z g. none z (inr g)),
)
  where
    by : (y : List ℕ) → (z : Experiment) × Has (es ++ e ∷ []) z × (z.name ≡ y) → x.name ≢ y
    by y r same = elim (Has-append es (e ∷ []) r.0 r.1) [
      | inl g ↦ differ.0 y (subst (λ n. Has (map (λ z. z.name) es) n) r.2 (Has-mapped (λ z. z.name) es r.0 g)) same
      | inr g ↦ elim g [
        | inl is ↦ none x (inl refl) (same ∙ sym r.2 ∙ sym (ap (λ z. z.name) is))
        | inr no' ↦ no'
      ]
    ]

names_drop : (a b : List Experiment) (e : Experiment) → AllDiffer (map (λ x. x.name) (a ++ e ∷ b)) → AllDiffer (map (λ x. x.name) (a ++ b))
names_drop [] b e differ = differ.1
names_drop (x ∷ a) b e differ = (
  λ y h same. let r = Has-map (λ z. z.name) (a ++ b) y h in differ.0 y (subst (λ n. Has (map (λ z. z.name) (a ++ e ∷ b)) n) r.2 (Has-mapped (λ z. z.name) (a ++ e ∷ b) r.0 (Has_other a b e r.0 (Has-append a b r.0 r.1)))) same,
  names_drop a b e differ.1,
)

no_parts : (lab l : Lab) (w : World) → Parts lab [] w → Parts l [] w
no_parts lab l w p = record {
  wanted = λ row is. absurd (p.wanted row is).1;
  free = λ name none. p.free name (λ e h c. absurd h);
  each = λ e h. absurd h;
}

no_holding : (lab : Lab) → Holding lab []
no_holding lab = record {
  fits = λ e which m h is. absurd h;
  nodes = tt;
  trunks = λ t h. omega arith;
  tags = tt;
  in_range = λ v h. absurd h;
}

-- the first record
step_lab : (es : List Experiment) (lab : Lab) → Sane (record { lab = None; experiments = es }) → IsLab lab → Stepped (record { lab = None; experiments = es }) (SetLab lab) (state lab [])
step_lab es lab sane is_lab = record {
  sane = record { is_lab = is_lab; none = λ e. refl; names = tt; wirings = λ e h. absurd h; few = omega arith; holding = no_holding lab };
  parts = λ w ready p. no_parts no_lab lab w (subst (λ l. Parts no_lab l w) (sane.none refl) p);
  named = λ all one' e h. absurd h;
}

step_create : (lab : Lab) (es : List Experiment) (name : List ℕ) (w : Wiring) → Sane (state lab es) → IsSound w → find name es ≡ None → length es ≤ 255 → Stepped (state lab es) (Creates name w) (state lab (es ++ record { name = name; wiring = w; phase = Out } ∷ []))
step_create lab es name w sane wired none few =
    let e : Experiment = record { name = name; wiring = w; phase = Out } in
    let whole : es ++ [] ≡ es = append-nil es in
    record {
      sane = record {
        is_lab = sane.is_lab;
        none = λ h. none_some lab (sym h);
        names = names_push es e sane.names (not_found name es none);
        wirings = λ f h. elim (Has_mid es [] e f h) [
          | inl same ↦ subst (λ x. IsSound x.wiring) same wired
          | inr other ↦ elim other [ inl g ↦ sane.wirings f g | inr no' ↦ absurd no' ]
        ];
        few = omega (arith, few, length-append es (e ∷ []));
        holding = holding_add lab es [] e refl (subst (λ l. Holding lab l) (sym whole) sane.holding);
      };
      parts = λ v ready p. parts_add lab es [] e refl v (subst (λ l. Parts lab l v) (sym whole) p);
      named = λ all mine f h. elim (Has_mid es [] e f h) [
        | inl same ↦ subst (λ x. is_name x.name ≡ true) same mine
        | inr other ↦ elim other [ inl g ↦ all f g | inr no' ↦ absurd no' ]
      ];
    }

step_delete : (lab : Lab) (es : List Experiment) (name : List ℕ) (e : Experiment) → Sane (state lab es) → find name es ≡ Some e → e.phase ≡ Out → Stepped (state lab es) (Deletes name) (state lab (others name es))
step_delete lab es name e sane is out =
    let f = found_from name es e is in
    let was : Sane (state lab (f.before ++ e ∷ f.after)) = subst (λ l. Sane (state lab l)) f.whole sane in
    subst (λ l. Stepped (state lab es) (Deletes name) (state lab l)) (sym f.others_are) (record {
      sane = record {
        is_lab = sane.is_lab;
        none = λ h. none_some lab (sym h);
        names = names_drop f.before f.after e was.names;
        wirings = λ g h. was.wirings g (Has_other f.before f.after e g (Has-append f.before f.after g h));
        few = omega (arith, was.few, length-append f.before f.after, length-append f.before (e ∷ f.after));
        holding = holding_drop lab f.before f.after e out was.holding;
      };
      parts = λ v ready p. parts_drop lab f.before f.after e out v (subst (λ l. Parts lab l v) f.whole p);
      named = λ all mine g h. all g (subst (λ l. Has l g) (sym f.whole) (Has_other f.before f.after e g (Has-append f.before f.after g h)));
    })

-- a move of one experiment
step_one : (lab : Lab) (es : List Experiment) (name : List ℕ) (e g : Experiment) (move : Move) → Sane (state lab es) → find name es ≡ Some e → becomes lab es e e.phase move ≡ Some g → ShapedFor lab e move
    → ((w : World) → IsRightFor (state lab es) w move → ReadyOne lab w e move) → Stepped (state lab es) move (state lab (replace name g es))
step_one lab es name e g move sane is h shaped ready =
    let f = found_from name es e is in
    let a = f.before in
    let b = f.after in
    let was : Sane (state lab (a ++ e ∷ b)) = subst (λ l. Sane (state lab l)) f.whole sane in
    let rest : others e.name es ≡ a ++ b = ap (λ n. others n es) f.name_is ∙ f.others_are in
    let own : IsSound e.wiring = was.wirings e (Has-right a (e ∷ b) e (inl refl)) in
    let turn : Turned lab a b e g move = turned lab a b e sane.is_lab was.holding own es g e.phase move f.whole rest refl h shaped in
    subst (λ l. Stepped (state lab es) move (state lab l)) (sym (f.replaced g)) (record {
      sane = record {
        is_lab = sane.is_lab;
        none = λ h. none_some lab (sym h);
        names = subst (λ l. AllDiffer l) (sym (names_mid a b e g turn.name)) was.names;
        wirings = λ x h. elim (Has_mid a b g x h) [
          | inl same ↦ subst (λ y. IsSound y.wiring) same turn.wiring
          | inr other ↦ was.wirings x (Has_other a b e x other)
        ];
        few = omega (arith, was.few, length-append a (g ∷ b), length-append a (e ∷ b));
        holding = turn.holding;
      };
      parts = λ w r p. turn.parts w (ready w r) (subst (λ l. Parts lab l w) f.whole p);
      named = λ all mine x h. elim (Has_mid a b g x h) [
        | inl same ↦ subst (λ y. is_name y.name ≡ true) same (subst (λ n. is_name n ≡ true) (sym turn.name) (all e (subst (λ l. Has l e) (sym f.whole) (Has-right a (e ∷ b) e (inl refl)))))
        | inr other ↦ all x (subst (λ l. Has l x) (sym f.whole) (Has_other a b e x other))
      ];
    })

pub in_state-some : (lab : Lab) (o : Option (List Experiment)) (u : LabState) → in_state lab o ≡ Some u → (es : List Experiment) × (o ≡ Some es) × (state lab es ≡ u)
in_state-some lab None u h = none_some u h
in_state-some lab (Some es) u h = (es, refl, same_Some (state lab es) u h)

pub with_replaced-some : (name : List ℕ) (es : List Experiment) (o : Option Experiment) (xs : List Experiment) → with_replaced name es o ≡ Some xs → (g : Experiment) × (o ≡ Some g) × (replace name g es ≡ xs)
with_replaced-some name es None xs h = none_some xs h
with_replaced-some name es (Some g) xs h = (g, refl, same_Some _ xs h)

pub found_one : (lab : Lab) (es : List Experiment) (name : List ℕ) (move : Move) (o : Option Experiment) (xs : List Experiment) → moved_one lab es name o move ≡ Some xs → (e : Experiment) × (o ≡ Some e) × (with_replaced name es (becomes lab es e e.phase move) ≡ Some xs)
found_one lab es name move None xs h = none_some xs h
found_one lab es name move (Some e) xs h = (e, refl, h)

one : (lab : Lab) (es : List Experiment) (name : List ℕ) (move : Move) (u : LabState) → Sane (state lab es) → in_state lab (moved_one lab es name (find name es) move) ≡ Some u
    → ((e : Experiment) → find name es ≡ Some e → ShapedFor lab e move) → ((e : Experiment) → find name es ≡ Some e → (w : World) → IsRightFor (state lab es) w move → ReadyOne lab w e move) → Stepped (state lab es) move u
one lab es name move u sane h shaped ready =
    let in_it = in_state-some lab (moved_one lab es name (find name es) move) u h in
    let e = found_one lab es name move (find name es) in_it.0 in_it.1 in
    let g = with_replaced-some name es (becomes lab es e.0 e.0.phase move) in_it.0 e.2 in
    subst (λ x. Stepped (state lab es) move x) (ap (λ l. state lab l) g.2 ∙ in_it.2)
    (step_one lab es name e.0 g.0 move sane e.1 g.1 (shaped e.0 e.1) (ready e.0 e.1))

if_list : (t : Bool) (xs ys : List Experiment) → ◌≡◌ {A = Option (List Experiment)} (if t then Some xs else None) (Some ys) → (t ≡ true) × (xs ≡ ys)
if_list true xs ys h = (refl, same_Some xs ys h)
if_list false xs ys h = none_some ys h

pub out_is : (p : Phase) → is_out p ≡ true → p ≡ Out
out_is Out h = refl
out_is (In m tags) h = absurd (cc h)
out_is (Moving old new) h = absurd (cc h)

deleted-some : (name : List ℕ) (es : List Experiment) (o : Option Experiment) (xs : List Experiment) → deleted name es o ≡ Some xs → (e : Experiment) × (o ≡ Some e) × (e.phase ≡ Out) × (others name es ≡ xs)
deleted-some name es None xs h = none_some xs h
deleted-some name es (Some e) xs h = let r = if_list (is_out e.phase) (others name es) xs h in (e, refl, out_is e.phase r.0, r.1)

-- EACH MOVE
steps : (o : Option Lab) (es : List Experiment) (move : Move) (u : LabState) → Sane (record { lab = o; experiments = es }) → Shaped (record { lab = o; experiments = es }) move → moved_of o es move ≡ Some u → Stepped (record { lab = o; experiments = es }) move u
steps None es (SetLab lab) u sane shaped h = subst (λ x. Stepped (record { lab = None; experiments = es }) (SetLab lab) x) (same_Some _ u h) (step_lab es lab sane shaped)
steps None es move u sane shaped h = none_some u h
steps (Some lab) es (SetLab l) u sane shaped h = none_some u h
steps (Some lab) es (Creates name w) u sane shaped h =
    let e : Experiment = record { name = name; wiring = w; phase = Out } in
    let in_it = in_state-some lab (if is_none (find name es) && nat_le (length es) 255 then Some (es ++ e ∷ []) else None) u h in
    let both = if_list (is_none (find name es) && nat_le (length es) 255) (es ++ e ∷ []) in_it.0 in_it.1 in
    let tests : (is_none (find name es) ≡ true) × (nat_le (length es) 255 ≡ true) = and_parts _ _ both.0 in
    subst (λ x. Stepped (state lab es) (Creates name w) x) (ap (λ l. state lab l) both.1 ∙ in_it.2)
    (step_create lab es name w sane shaped (none_is (find name es) tests.0) (leb-true _ _ tests.1))
steps (Some lab) es (Deletes name) u sane shaped h =
    let in_it = in_state-some lab (deleted name es (find name es)) u h in
    let d = deleted-some name es (find name es) in_it.0 in_it.1 in
    subst (λ x. Stepped (state lab es) (Deletes name) x) (ap (λ l. state lab l) d.3 ∙ in_it.2) (step_delete lab es name d.0 sane d.1 d.2)
steps (Some lab) es (BeginsIn name m tags) u sane shaped h = one lab es name (BeginsIn name m tags) u sane h (λ e is. shaped lab e refl is) (λ e is w r. tt)
steps (Some lab) es (BeginsOut name) u sane shaped h = one lab es name (BeginsOut name) u sane h (λ e is. tt) (λ e is w r. tt)
steps (Some lab) es (BeginsChange name v m tags) u sane shaped h = one lab es name (BeginsChange name v m tags) u sane h (λ e is. (shaped.0, shaped.1 lab refl)) (λ e is w r. tt)
steps (Some lab) es (Commits name) u sane shaped h = one lab es name (Commits name) u sane h (λ e is. tt) (λ e is w r. r e is)
steps (Some lab) es (Aborts name) u sane shaped h = one lab es name (Aborts name) u sane h (λ e is. tt) (λ e is w r. r e is)

-- A RECORD THAT CAN FOLLOW keeps the state sane; and the world that keeps the parts before keeps them after, where it is ready.
pub follows_sane : (t : Texts) (s : LabState) (r : Record) (u : LabState) → Sane s → Follows t s r u → Sane u
follows_sane t s r u sane f = (steps s.lab s.experiments f.move u sane (says_shaped t s r f.move f.says) f.gives).sane

pub follows_parts : (t : Texts) (s : LabState) (r : Record) (u : LabState) (w : World) → Sane s → (f : Follows t s r u) → IsRightFor s w f.move → KeepsParts w s → KeepsParts w u
follows_parts t s r u w sane f ready parts = (steps s.lab s.experiments f.move u sane (says_shaped t s r f.move f.says) f.gives).parts w ready parts

move_named : (t : Texts) (s : LabState) (r : Record) (move : Move) → IsRecord r → Says t s r move → IsNamed move
move_named t s (LabRecord ptop) move is h = subst (λ m. IsNamed m) (sym h.3) tt
move_named t s (Create exp top) move is h = subst (λ m. IsNamed m) (sym h.2) is.fields
move_named t s (Create2 exp top) move is h = subst (λ m. IsNamed m) (sym h.2) is.fields
move_named t s (Delete exp) move is h = subst (λ m. IsNamed m) (sym h) tt
move_named t s (Begin exp (WayIn map tags)) move is h = subst (λ m. IsNamed m) (sym h.9) tt
move_named t s (Begin exp WayOut) move is h = subst (λ m. IsNamed m) (sym h) tt
move_named t s (Begin exp (WayChange top map tags)) move is h = subst (λ m. IsNamed m) (sym h.8) tt
move_named t s (Begin exp (WayChange2 top map tags)) move is h = subst (λ m. IsNamed m) (sym h.8) tt
move_named t s (Commit exp) move is h = subst (λ m. IsNamed m) (sym h) tt
move_named t s (Abort exp) move is h = subst (λ m. IsNamed m) (sym h) tt

pub follows_named : (t : Texts) (s : LabState) (r : Record) (u : LabState) → Sane s → IsRecord r → Follows t s r u → AreNamed s → AreNamed u
follows_named t s r u sane is f named = (steps s.lab s.experiments f.move u sane (says_shaped t s r f.move f.says) f.gives).named named (move_named t s r f.move is f.says)

no_forest : IsLab no_lab
no_forest = empty_kept 2 2 refl

pub first_sane : Sane at_first
first_sane = record { is_lab = no_forest; none = λ h. refl; names = tt; wirings = λ e h. absurd h; few = omega arith; holding = no_holding no_lab }

-- THE FOLD
pub folds_push : (t : Texts) (s : LabState) (rs : List Record) (r : Record) (mid end : LabState) → FoldsTo t s rs mid → Follows t mid r end → FoldsTo t s (rs ++ r ∷ []) end
folds_push t s [] r mid end h f = (end, subst (λ x. Follows t x r end) (sym h) f, refl)
folds_push t s (q ∷ rs) r mid end h f = (h.0, h.1, folds_push t h.0 rs r mid end h.2 f)

pub folds_split : (t : Texts) (s : LabState) (rs : List Record) (r : Record) (end : LabState) → FoldsTo t s (rs ++ r ∷ []) end → (mid : LabState) × FoldsTo t s rs mid × Follows t mid r end
folds_split t s [] r end h = (s, refl, subst (λ x. Follows t s r x) h.2 h.1)
folds_split t s (q ∷ rs) r end h = let d = folds_split t h.0 rs r end h.2 in (d.0, (h.0, h.1, d.1), d.2)

pub folds_sane : (t : Texts) (s : LabState) (rs : List Record) (end : LabState) → Sane s → FoldsTo t s rs end → Sane end
folds_sane t s [] end sane h = subst (λ x. Sane x) h sane
folds_sane t s (r ∷ rs) end sane h = folds_sane t h.0 rs end (follows_sane t s r h.0 sane h.1) h.2

pub lab_sane : (t : Texts) (rs : List Record) (s : LabState) → LabOf t rs s → Sane s
lab_sane t rs s h = folds_sane t at_first rs s first_sane h

folds_named : (t : Texts) (s : LabState) (rs : List Record) (end : LabState) → Sane s → ((r : Record) → Has rs r → IsRecord r) → FoldsTo t s rs end → AreNamed s → AreNamed end
folds_named t s [] end sane written h named = subst (λ x. AreNamed x) h named
folds_named t s (r ∷ rs) end sane written h named = folds_named t h.0 rs end (follows_sane t s r h.0 sane h.1) (λ q g. written q (inr g)) h.2 (follows_named t s r h.0 sane (written r (inl refl)) h.1 named)

pub lab_named : (t : Texts) (rs : List Record) (s : LabState) → ((r : Record) → Has rs r → IsRecord r) → LabOf t rs s → AreNamed s
lab_named t rs s written h = folds_named t at_first rs s first_sane written h (λ e g. absurd g)

create_once : (t : Texts) (exp top : List ℕ) (second : Bool) (m n : Move) → AreCanonical t → SaysCreate t exp top second m → SaysCreate t exp top second n → m ≡ n
create_once t exp top second m n can p q = p.2 ∙ ap (λ w. Creates exp w) (can.tops p.0 q.0 p.1.text q.1.text (sym p.1.says ∙ q.1.says)) ∙ sym q.2

change_once : (t : Texts) (s : LabState) (exp top map : List ℕ) (tags : List VlanId) (second : Bool) (m n : Move) → AreCanonical t → SaysChange t s exp top map tags second m → SaysChange t s exp top map tags second n → m ≡ n
change_once t s exp top map tags second m n can p q =
    let lab : p.0 ≡ q.0 = same_Some _ _ (sym p.3 ∙ q.3) in
    let w : p.1 ≡ q.1 = can.tops p.1 q.1 p.5.text q.5.text (sym p.5.says ∙ q.5.says) in
    let shaped : IsShaped q.0 q.1 p.2 = subst (λ l. IsShaped l q.1 p.2) lab (subst (λ x. IsShaped p.0 x p.2) w p.6) in
    let text : map ≡ t.solution q.0 q.1 p.2 = p.7 ∙ (λ i. t.solution (lab i) (w i) p.2) in
    p.8 ∙ (λ i. BeginsChange exp (w i) (can.solutions q.0 q.1 p.2 q.2 q.4 q.5.text shaped q.6 (sym text ∙ q.7) i) tags) ∙ sym q.8

-- one record says one move, and so the lab of records is one
pub says_once : (t : Texts) (s : LabState) (r : Record) (m n : Move) → AreCanonical t → Says t s r m → Says t s r n → m ≡ n
says_once t s (LabRecord ptop) m n can p q = p.3 ∙ ap (λ l. SetLab l) (can.ptops p.0 q.0 p.1 q.1 (sym p.2 ∙ q.2)) ∙ sym q.3
says_once t s (Create exp top) m n can p q = create_once t exp top false m n can p q
says_once t s (Create2 exp top) m n can p q = create_once t exp top true m n can p q
says_once t s (Delete exp) m n can p q = p ∙ sym q
says_once t s (Begin exp (WayIn map tags)) m n can p q =
    let lab : p.0 ≡ q.0 = same_Some _ _ (sym p.3 ∙ q.3) in
    let e : p.1 ≡ q.1 = same_Some _ _ (sym p.4 ∙ q.4) in
    let shaped : IsShaped q.0 q.1.wiring p.2 = subst (λ l. IsShaped l q.1.wiring p.2) lab (subst (λ x. IsShaped p.0 x.wiring p.2) e p.7) in
    let text : map ≡ t.solution q.0 q.1.wiring p.2 = p.8 ∙ (λ i. t.solution (lab i) (e i).wiring p.2) in
    p.9 ∙ ap (λ x. BeginsIn exp x tags) (can.solutions q.0 q.1.wiring p.2 q.2 q.5 q.6 shaped q.7 (sym text ∙ q.8)) ∙ sym q.9
says_once t s (Begin exp WayOut) m n can p q = p ∙ sym q
says_once t s (Begin exp (WayChange top map tags)) m n can p q = change_once t s exp top map tags false m n can p q
says_once t s (Begin exp (WayChange2 top map tags)) m n can p q = change_once t s exp top map tags true m n can p q
says_once t s (Commit exp) m n can p q = p ∙ sym q
says_once t s (Abort exp) m n can p q = p ∙ sym q

pub follows_once : (t : Texts) (s : LabState) (r : Record) (u v : LabState) → AreCanonical t → Follows t s r u → Follows t s r v → u ≡ v
follows_once t s r u v can f g = same_Some u v (sym f.gives ∙ ap (λ m. moved s m) (says_once t s r f.move g.move can f.says g.says) ∙ g.gives)

pub folds_once : (t : Texts) (s : LabState) (rs : List Record) (u v : LabState) → AreCanonical t → FoldsTo t s rs u → FoldsTo t s rs v → u ≡ v
folds_once t s [] u v can h g = sym h ∙ g
folds_once t s (r ∷ rs) u v can h g =
    let same = follows_once t s r h.0 g.0 can h.1 g.1 in
    folds_once t g.0 rs u v can (subst (λ x. FoldsTo t x rs u) same h.2) g.2

-- a list that has a lab has no record that can't follow, and the first one that can't is one
pub folds_or_stops : (t : Texts) (s : LabState) (rs : List Record) (u : LabState) (n : ℕ) → AreCanonical t → FoldsTo t s rs u → StopsAt t s rs n → ⊥
folds_or_stops t s [] u n can h g = g
folds_or_stops t s (r ∷ rs) u zero can h g = g h.0 h.1
folds_or_stops t s (r ∷ rs) u (suc n) can h g =
    let same = follows_once t s r h.0 g.0 can h.1 g.1 in
    folds_or_stops t g.0 rs u n can (subst (λ x. FoldsTo t x rs u) same h.2) g.2

pub stops_once : (t : Texts) (s : LabState) (rs : List Record) (m n : ℕ) → AreCanonical t → StopsAt t s rs m → StopsAt t s rs n → m ≡ n
stops_once t s [] m n can h g = absurd h
stops_once t s (r ∷ rs) zero zero can h g = refl
stops_once t s (r ∷ rs) zero (suc n) can h g = absurd (h g.0 g.1)
stops_once t s (r ∷ rs) (suc m) zero can h g = absurd (g h.0 h.1)
stops_once t s (r ∷ rs) (suc m) (suc n) can h g =
    let same = follows_once t s r h.0 g.0 can h.1 g.1 in
    ap suc (stops_once t g.0 rs m n can (subst (λ x. StopsAt t x rs m) same h.2) g.2)

-- the first record that can't follow is one of them
pub stops_within : (t : Texts) (s : LabState) (rs : List Record) (n : ℕ) → StopsAt t s rs n → n < length rs
stops_within t s [] n stops = absurd stops
stops_within t s (r ∷ rs) zero stops = omega arith
stops_within t s (r ∷ rs) (suc n) stops = omega (arith, stops_within t stops.0 rs n stops.2)
