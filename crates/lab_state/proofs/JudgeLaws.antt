-- Which records can follow.
use Rattle.std.proofs.Common.{◌≡◌, ◌≤◌, ◌<◌, ℕ, Bool, true, false, Option, Some, None, is_some, is_none, List, [], ◌∷◌, ◌++◌, length, nat_le, ◌&&◌, if◌then◌else◌, refl, sym, ap, subst, ◌∙◌, arith, Err, Bor, option_copied}
use Rattle.std.proofs.lemmas.Bool.{and_parts, leb-true, le-leb}
use Rattle.std.proofs.lemmas.Option.{same_Some}
use Rattle.lab_base.proofs.Tests.{none_is}
use Rattle.phys_lab.specs.Labs.{Lab}
use Rattle.phys_lab.specs.Kept.{IsLab}
use Rattle.virt_topo.specs.declared.experiment.Experiment.{Experiment}
use Rattle.virt_topo.specs.declared.experiment.Phase.TheVariants.{Out}
use Rattle.virt_topo.specs.declared.wiring.Wiring.{Wiring}
use Rattle.journal_rec.specs.declared.record.Record.{Record}
use Rattle.journal_rec.specs.declared.record.Record.TheVariants.{Lab as LabRecord, Delete}
use Rattle.records_model.specs.Labs.{LabState, SetLab, Creates, Deletes, create_in, SaysTop, Follows, CannotFollow, find, others, replace, deleted, is_out, moved, moved_of, moved_in, in_state}
use Rattle.records_model.proofs.Finding.{none_some}
use Rattle.records_model.proofs.LabLaws.{in_state-some, says_create, create_says, out_is}
use Rattle.claims.specs.Answered.{none_of}
use Rattle.lab_state.specs.declared.claimed_lab.ClaimedLab.{ClaimedLab}
use Rattle.lab_state.specs.declared.fault.PrepareFault.{PrepareFault}
use Rattle.lab_state.specs.declared.fault.PrepareFault.TheVariants as faults
use Rattle.lab_state.specs.declared.prepared.Change.{Change}
use Rattle.lab_state.specs.declared.prepared.Change.TheVariants as changes
use Rattle.lab_state.specs.Answers.{OnBad}
use Rattle.lab_state.specs.Texts.{the_texts}
use Rattle.lab_state.specs.Kept.{IsKept, lab_of, state_of}
use Rattle.lab_state.specs.Changes.{ending, ending_record, or_stays}
use Rattle.lab_state.specs.Ends.{may_end, ended}
use Rattle.lab_state.specs.Judged.{CanFollow, IsJudged}
use Rattle.lab_state.proofs.MoveLaws.{turn_of, turned, ending_of, ends_where, ends_not, ending_follows, follows_ending, state}

-- ---- a lab
pub lab_twice : (o : Option ClaimedLab) (es : List Experiment) (ptop : List ℕ) → is_some o ≡ true → CannotFollow the_texts (state_of o es) (LabRecord ptop)
lab_twice None es ptop some u f = absurd (cc some)
lab_twice (Some claimed_lab) es ptop some u f = none_some u (sym (ap (λ m. moved (state_of (Some claimed_lab) es) m) f.says.3) ∙ f.gives)

pub lab_unread : (s : LabState) (ptop : List ℕ) → ((lab : Lab) → IsLab lab → ptop ≡ the_texts.ptop lab → ⊥) → CannotFollow the_texts s (LabRecord ptop)
lab_unread s ptop none u f = none f.says.0 f.says.1 f.says.2

pub lab_follows : (o : Option ClaimedLab) (es : List Experiment) (ptop : List ℕ) (claimed_lab : ClaimedLab) → is_some o ≡ false → IsLab claimed_lab.lab → ptop ≡ the_texts.ptop claimed_lab.lab → claimed_lab.claims ≡ none_of claimed_lab.lab
    → CanFollow (state_of o es) (LabRecord ptop) (changes.Set claimed_lab)
lab_follows None es ptop claimed_lab none is text claims = record {
  follows = record { move = SetLab claimed_lab.lab; says = (claimed_lab.lab, is, text, refl); gives = refl };
  fits = (refl, claims);
}
lab_follows (Some p) es ptop claimed_lab none is text claims = absurd (cc none)

-- ---- a new experiment
if_some : {X : Type 0} (t : Bool) (x y : X) → ◌≡◌ {A = Option X} (if t then Some x else None) (Some y) → (t ≡ true) × (x ≡ y)
if_some true x y h = (refl, same_Some x y h)
if_some false x y h = none_some y h

not_some : {X : Type 0} (o : Option X) → is_some o ≡ false → o ≡ None
not_some None h = refl
not_some (Some x) h = absurd (cc h)

-- what a look-up says
pub looked_up : {X : Type 0} (o : Option (Bor X)) (p : Option X) (b : Bool) → option_copied o ≡ p → b ≡ is_some o → is_some p ≡ b
looked_up None p b is some = ap (λ x. is_some x) (sym is) ∙ sym some
looked_up (Some x) p b is some = ap (λ x. is_some x) (sym is) ∙ sym some

-- a fault is Memory, or the record can't follow
pub unjudged : (s : LabState) (entry : Record) (fault : PrepareFault) (fact : Type 0) → OnBad {X = Unit {0}} (Err fault) fact → (fact → CannotFollow the_texts s entry) → IsJudged s entry (Err fault)
unjudged s entry faults.Bad fact bad so = so bad
unjudged s entry faults.Memory fact bad so = tt

pub bad_is : (s : LabState) (entry : Record) (fault : PrepareFault) → IsJudged s entry (Err fault) → OnBad {X = Change} (Err fault) (CannotFollow the_texts s entry)
bad_is s entry faults.Bad judged = judged
bad_is s entry faults.Memory judged = tt

pub record Created (o : Option ClaimedLab) (es : List Experiment) (exp top : List ℕ) (second : Bool) : Type 0 where
  pub claimed_lab : ClaimedLab
  pub there : o ≡ Some claimed_lab
  pub new : find exp es ≡ None
  pub few : length es ≤ 255
  pub wiring : Wiring
  pub says : SaysTop the_texts wiring top second

create_found : (o : Option ClaimedLab) (es : List Experiment) (exp top : List ℕ) (second : Bool) (u : LabState) → Follows the_texts (state_of o es) (create_in second exp top) u → Created o es exp top second
create_found None es exp top second u f =
    let says = says_create the_texts (state_of None es) exp top second f.move f.says in
    none_some u (sym (ap (λ m. moved (state_of None es) m) says.2) ∙ f.gives)
create_found (Some claimed_lab) es exp top second u f =
    let says = says_create the_texts (state_of (Some claimed_lab) es) exp top second f.move f.says in
    let w = says.0 in
    let e : Experiment = record { name = exp; wiring = w; phase = Out } in
    let gives : moved_of (Some claimed_lab.lab) es (Creates exp w) ≡ Some u = sym (ap (λ m. moved_of (Some claimed_lab.lab) es m) says.2) ∙ f.gives in
    let there = in_state-some claimed_lab.lab (moved_in claimed_lab.lab es (Creates exp w)) u gives in
    let both = if_some (is_none (find exp es) && nat_le (length es) 255) (es ++ e ∷ []) there.0 there.1 in
    let tests : (is_none (find exp es) ≡ true) × (nat_le (length es) 255 ≡ true) = and_parts _ _ both.0 in
    record { claimed_lab = claimed_lab; there = refl; new = none_is (find exp es) tests.0; few = leb-true _ _ tests.1; wiring = w; says = says.1 }

pub create_nowhere : (o : Option ClaimedLab) (es : List Experiment) (exp top : List ℕ) (second : Bool) → is_some o ≡ false → CannotFollow the_texts (state_of o es) (create_in second exp top)
create_nowhere o es exp top second none u f = let c = create_found o es exp top second u f in none_some c.claimed_lab (sym (not_some o none) ∙ c.there)

pub create_full : (o : Option ClaimedLab) (es : List Experiment) (exp top : List ℕ) (second : Bool) → 256 ≤ length es → CannotFollow the_texts (state_of o es) (create_in second exp top)
create_full o es exp top second full u f = let c = create_found o es exp top second u f in omega (arith, c.few)

pub create_twice : (o : Option ClaimedLab) (es : List Experiment) (exp top : List ℕ) (second : Bool) → is_some (find exp es) ≡ true → CannotFollow the_texts (state_of o es) (create_in second exp top)
create_twice o es exp top second some u f =
    let c = create_found o es exp top second u f in
    let both : false ≡ true = sym (ap (λ (x : Option Experiment). is_some x) c.new) ∙ some in cc both

pub create_unread : (o : Option ClaimedLab) (es : List Experiment) (exp top : List ℕ) (second : Bool) → ((w : Wiring) → SaysTop the_texts w top second → ⊥) → CannotFollow the_texts (state_of o es) (create_in second exp top)
create_unread o es exp top second none u f = let c = create_found o es exp top second u f in none c.wiring c.says

pub create_follows : (o : Option ClaimedLab) (es : List Experiment) (exp top : List ℕ) (second : Bool) (w : Wiring) → is_some o ≡ true → length es < 256 → is_some (find exp es) ≡ false → SaysTop the_texts w top second
    → CanFollow (state_of o es) (create_in second exp top) (changes.Add (record { name = exp; wiring = w; phase = Out }))
create_follows None es exp top second w some few new says = absurd (cc some)
create_follows (Some claimed_lab) es exp top second w some few new says =
    let none : find exp es ≡ None = not_some (find exp es) new in
    let test : (is_none (find exp es) && nat_le (length es) 255) ≡ true = (λ i. is_none (none i) && le-leb (length es) 255 (omega arith) i) in
    let e : Experiment = record { name = exp; wiring = w; phase = Out } in
    record {
      follows = record {
        move = Creates exp w;
        says = create_says the_texts (state_of (Some claimed_lab) es) exp top second (Creates exp w) (w, says, refl);
        gives = ap (λ (t : Bool). in_state claimed_lab.lab (if t then Some (es ++ e ∷ []) else None)) test;
      };
      fits = (none, refl, record { wiring = says.text.printable; moving = λ which m h. none_some m h });
    }

-- ---- an experiment that goes
deleted_one : (name : List ℕ) (es : List Experiment) (o : Option Experiment) (xs : List Experiment) → deleted name es o ≡ Some xs → (e : Experiment) × (o ≡ Some e) × (is_out e.phase ≡ true)
deleted_one name es None xs h = none_some xs h
deleted_one name es (Some e) xs h = let r = if_some (is_out e.phase) (others name es) xs h in (e, refl, r.0)

delete_says : (o : Option ClaimedLab) (es : List Experiment) (exp : List ℕ) (u : LabState) → Follows the_texts (state_of o es) (Delete exp) u → (e : Experiment) × (find exp es ≡ Some e) × (is_out e.phase ≡ true)
delete_says None es exp u f = none_some u (sym (ap (λ m. moved (state_of None es) m) f.says) ∙ f.gives)
delete_says (Some claimed_lab) es exp u f =
    let gives : moved_of (Some claimed_lab.lab) es (Deletes exp) ≡ Some u = sym (ap (λ m. moved_of (Some claimed_lab.lab) es m) f.says) ∙ f.gives in
    let there = in_state-some claimed_lab.lab (moved_in claimed_lab.lab es (Deletes exp)) u gives in
    deleted_one exp es (find exp es) there.0 there.1

pub delete_nothing : (o : Option ClaimedLab) (es : List Experiment) (exp : List ℕ) → find exp es ≡ None → CannotFollow the_texts (state_of o es) (Delete exp)
delete_nothing o es exp none u f = let d = delete_says o es exp u f in none_some d.0 (sym none ∙ d.1)

pub delete_inside : (o : Option ClaimedLab) (es : List Experiment) (exp : List ℕ) (e : Experiment) → find exp es ≡ Some e → is_out e.phase ≡ false → CannotFollow the_texts (state_of o es) (Delete exp)
delete_inside o es exp e found inside u f =
    let d = delete_says o es exp u f in
    let same : e ≡ d.0 = same_Some e d.0 (sym found ∙ d.1) in
    let both : false ≡ true = sym inside ∙ ap (λ (x : Experiment). is_out x.phase) same ∙ d.2 in cc both

pub delete_follows : (o : Option ClaimedLab) (es : List Experiment) (exp : List ℕ) (e : Experiment) → IsKept o es → find exp es ≡ Some e → is_out e.phase ≡ true → CanFollow (state_of o es) (Delete exp) (changes.Remove exp)
delete_follows None es exp e kept found out =
    let none : find exp es ≡ None = ap (find exp) (kept.sane.none refl) in none_some e (sym none ∙ found)
delete_follows (Some claimed_lab) es exp e kept found out = record {
  follows = record {
    move = Deletes exp;
    says = refl;
    gives = ap (λ x. in_state claimed_lab.lab (deleted exp es x)) found ∙ ap (λ (t : Bool). in_state claimed_lab.lab (if t then Some (others exp es) else None)) out;
  };
  fits = (e, found, out_is e.phase out);
}

-- ---- a move ends
pub end_nothing : (o : Option ClaimedLab) (es : List Experiment) (exp : List ℕ) (commit : Bool) → find exp es ≡ None → CannotFollow the_texts (state_of o es) (ending_record exp commit)
end_nothing o es exp commit none u f =
    let t = turn_of (lab_of o) es exp (ending exp commit) u (ending_of exp commit) (follows_ending (state_of o es) u exp commit f) in
    none_some t.before (sym none ∙ t.found)

pub end_still : (o : Option ClaimedLab) (es : List Experiment) (exp : List ℕ) (commit : Bool) (e : Experiment) → find exp es ≡ Some e → may_end commit e.phase ≡ false → CannotFollow the_texts (state_of o es) (ending_record exp commit)
end_still o es exp commit e found still u f =
    let t = turn_of (lab_of o) es exp (ending exp commit) u (ending_of exp commit) (follows_ending (state_of o es) u exp commit f) in
    let same : e ≡ t.before = same_Some e t.before (sym found ∙ t.found) in
    ends_not t.lab es t.before t.now exp commit t.before.phase (subst (λ (x : Experiment). may_end commit x.phase ≡ false) same still) t.becomes

pub end_follows : (o : Option ClaimedLab) (es : List Experiment) (exp : List ℕ) (commit : Bool) (e : Experiment) → IsKept o es → find exp es ≡ Some e → may_end commit e.phase ≡ true
    → CanFollow (state_of o es) (ending_record exp commit) (changes.End exp commit)
end_follows None es exp commit e kept found may =
    let none : find exp es ≡ None = ap (find exp) (kept.sane.none refl) in none_some e (sym none ∙ found)
end_follows (Some claimed_lab) es exp commit e kept found may =
    let s = state_of (Some claimed_lab) es in
    let u = state claimed_lab.lab (replace exp (ended commit e) es) in
    let gives : moved s (ending exp commit) ≡ Some u
    = turned (Some claimed_lab.lab) es exp (ending exp commit) claimed_lab.lab e (ended commit e) (ending_of exp commit) refl found (ends_where claimed_lab.lab es e exp commit e.phase may) in
    record {
      follows = subst (λ x. Follows the_texts s (ending_record exp commit) x) (sym (ap (or_stays s) gives)) (ending_follows s u exp commit gives);
      fits = (u, gives);
    }
