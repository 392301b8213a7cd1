-- Which swaps can begin.
use Rattle.std.proofs.Common.{◌≡◌, ℕ, Bool, true, false, Option, Some, None, List, refl, sym, ap, subst, ◌∙◌, if◌then◌else◌, Result, Ok, Err}
use Rattle.std.proofs.lemmas.Option.{same_Some}
use Rattle.lab_base.specs.declared.ids.VlanId.{VlanId}
use Rattle.phys_lab.specs.Labs.{Lab}
use Rattle.phys_lab.specs.Kept.{IsLab}
use Rattle.virt_topo.specs.declared.experiment.Experiment.{Experiment}
use Rattle.virt_topo.specs.declared.experiment.Phase.{Phase}
use Rattle.virt_topo.specs.declared.experiment.Phase.TheVariants.{Out, In, Moving}
use Rattle.virt_topo.specs.declared.mapping.Mapping.{Mapping}
use Rattle.virt_topo.specs.declared.wiring.Wiring.{Wiring}
use Rattle.virt_topo.specs.Sharing.{has_multiplexed}
use Rattle.virt_topo.specs.Wirings.{mapped}
use Rattle.lab_model.specs.Shapes.{IsShaped}
use Rattle.journal_rec.specs.declared.record.Way.{Way}
use Rattle.journal_rec.specs.declared.record.Way.TheVariants.{In as WayIn, Out as WayOut, Change as WayChange, Change2 as WayChange2}
use Rattle.journal_rec.specs.declared.record.Record.TheVariants.{Begin}
use Rattle.records_model.specs.Labs.{LabState, BeginsIn, BeginsOut, BeginsChange, HasText, change_in, SaysTop, Follows, CannotFollow, find, replace, in_phase, becomes, is_out, can_take, moved}
use Rattle.records_model.proofs.Finding.{none_some, found_from}
use Rattle.records_model.proofs.LabLaws.{says_change, change_says}
use Rattle.claims.specs.Holds.{claim_of}
use Rattle.solution_text.proofs.SolutionAgain.{canonical_again}
use Rattle.top_text.proofs.TopWhole.{top_again}
use Rattle.top_text.specs.Adding.{wiring_of_text}
use Rattle.solution_text.specs.Solutions.{mapping_of_text}
use Rattle.lab_state.specs.declared.claimed_lab.ClaimedLab.{ClaimedLab}
use Rattle.lab_state.specs.declared.fault.PrepareFault.{PrepareFault}
use Rattle.lab_state.specs.declared.fault.PrepareFault.TheVariants as faults
use Rattle.lab_state.specs.declared.prepared.Change.{Change}
use Rattle.lab_state.specs.declared.prepared.Change.TheVariants as changes
use Rattle.lab_state.specs.Texts.{the_texts}
use Rattle.lab_state.specs.Kept.{IsKept, state_of}
use Rattle.lab_state.specs.Ends.{is_in}
use Rattle.lab_state.specs.Moves.{moving, standing_in}
use Rattle.lab_state.specs.Judged.{CanFollow, IsJudged, IsTaken}
use Rattle.lab_state.proofs.TextLaws.{are_named_of}
use Rattle.lab_state.proofs.MoveLaws.{IsOfOne, turn_of, turned, state}
use Rattle.lab_state.proofs.BeginLaws.{IsOut, IsIn, begins_to, begins_out, own_sound, own_printable}

-- ---- texts are of one value
pub one_solution : (lab : Lab) (w : Wiring) (m n : Mapping) → IsLab lab → HasText the_texts w → IsShaped lab w m → IsShaped lab w n → the_texts.solution lab w m ≡ the_texts.solution lab w n → m ≡ n
one_solution lab w m n is text a b same =
    let again : (x : Mapping) → IsShaped lab w x → mapping_of_text lab w (the_texts.solution lab w x) ≡ Ok x = (λ x shaped. canonical_again lab w x is text.sound (are_named_of w text.printable) shaped) in
    let both : Ok m ≡ Ok n = sym (again m a) ∙ ap (mapping_of_text lab w) same ∙ again n b in cc both

pub one_top : (w v : Wiring) → HasText the_texts w → HasText the_texts v → the_texts.top w ≡ the_texts.top v → w ≡ v
one_top w v a b same =
    let both : Ok w ≡ Ok v = sym (top_again w a.sound a.printable) ∙ ap wiring_of_text same ∙ top_again v b.sound b.printable in cc both

-- a text of a wiring that wants the other format is that of none that wants this one
pub other_format : (w : Wiring) (top : List ℕ) (second : Bool) → HasText the_texts w → top ≡ the_texts.top w → (has_multiplexed w ≡ second → ⊥) → (v : Wiring) → SaysTop the_texts v top second → ⊥
other_format w top second text says other v said =
    let same : v ≡ w = one_top v w said.text text (sym said.says ∙ says) in
    other (ap has_multiplexed (sym same) ∙ said.format)

-- ---- moves that begin are of one experiment
of_in : (exp : List ℕ) (m : Mapping) (tags : List VlanId) → IsOfOne exp (BeginsIn exp m tags)
of_in exp m tags = record { nowhere = λ es. refl; inside = λ lab es. refl }

of_out : (exp : List ℕ) → IsOfOne exp (BeginsOut exp)
of_out exp = record { nowhere = λ es. refl; inside = λ lab es. refl }

of_change : (exp : List ℕ) (w : Wiring) (m : Mapping) (tags : List VlanId) → IsOfOne exp (BeginsChange exp w m tags)
of_change exp w m tags = record { nowhere = λ es. refl; inside = λ lab es. refl }

if_some : (t : Bool) (x y : Experiment) → ◌≡◌ {A = Option Experiment} (if t then Some x else None) (Some y) → t ≡ true
if_some true x y h = refl
if_some false x y h = none_some y h

becomes_in : (lab : Lab) (es : List Experiment) (e f : Experiment) (exp : List ℕ) (m : Mapping) (tags : List VlanId) (p : Phase) → becomes lab es e p (BeginsIn exp m tags) ≡ Some f
    → (is_out p ≡ true) × (can_take lab es e (mapped e.wiring m tags) ≡ true)
becomes_in lab es e f exp m tags Out h = (refl, if_some (can_take lab es e (mapped e.wiring m tags)) _ f h)
becomes_in lab es e f exp m tags (In old old_tags) h = none_some f h
becomes_in lab es e f exp m tags (Moving None None) h = none_some f h
becomes_in lab es e f exp m tags (Moving None (Some n)) h = none_some f h
becomes_in lab es e f exp m tags (Moving (Some o) None) h = none_some f h
becomes_in lab es e f exp m tags (Moving (Some o) (Some n)) h = none_some f h

becomes_out : (lab : Lab) (es : List Experiment) (e f : Experiment) (exp : List ℕ) (p : Phase) → becomes lab es e p (BeginsOut exp) ≡ Some f → is_in p ≡ true
becomes_out lab es e f exp (In mapping tags) h = refl
becomes_out lab es e f exp Out h = none_some f h
becomes_out lab es e f exp (Moving None None) h = none_some f h
becomes_out lab es e f exp (Moving None (Some n)) h = none_some f h
becomes_out lab es e f exp (Moving (Some o) None) h = none_some f h
becomes_out lab es e f exp (Moving (Some o) (Some n)) h = none_some f h

becomes_change : (lab : Lab) (es : List Experiment) (e f : Experiment) (exp : List ℕ) (w : Wiring) (m : Mapping) (tags : List VlanId) (p : Phase) → becomes lab es e p (BeginsChange exp w m tags) ≡ Some f
    → (is_in p ≡ true) × (can_take lab es e (mapped w m tags) ≡ true)
becomes_change lab es e f exp w m tags (In old old_tags) h = (refl, if_some (can_take lab es e (mapped w m tags)) _ f h)
becomes_change lab es e f exp w m tags Out h = none_some f h
becomes_change lab es e f exp w m tags (Moving None None) h = none_some f h
becomes_change lab es e f exp w m tags (Moving None (Some n)) h = none_some f h
becomes_change lab es e f exp w m tags (Moving (Some o) None) h = none_some f h
becomes_change lab es e f exp w m tags (Moving (Some o) (Some n)) h = none_some f h

-- ---- what a record of a beginning says that follows
pub record BegunIn (claimed_lab : ClaimedLab) (es : List Experiment) (exp map : List ℕ) (tags : List VlanId) : Type 0 where
  pub before : Experiment
  pub found : find exp es ≡ Some before
  pub out : is_out before.phase ≡ true
  pub mapping : Mapping
  pub shaped : IsShaped claimed_lab.lab before.wiring mapping
  pub says : map ≡ the_texts.solution claimed_lab.lab before.wiring mapping
  pub can : can_take claimed_lab.lab es before (mapped before.wiring mapping tags) ≡ true

in_says : (claimed_lab : ClaimedLab) (es : List Experiment) (exp map : List ℕ) (tags : List VlanId) (u : LabState) → Follows the_texts (state_of (Some claimed_lab) es) (Begin exp (WayIn map tags)) u → BegunIn claimed_lab es exp map tags
in_says claimed_lab es exp map tags u f =
    let lab : f.says.0 ≡ claimed_lab.lab = sym (same_Some claimed_lab.lab f.says.0 f.says.3) in
    let m = f.says.2 in
    let t = turn_of (Some claimed_lab.lab) es exp (BeginsIn exp m tags) u (of_in exp m tags) (sym (ap (λ x. moved (state_of (Some claimed_lab) es) x) f.says.9) ∙ f.gives) in
    let same : f.says.1 ≡ t.before = same_Some f.says.1 t.before (sym f.says.4 ∙ t.found) in
    let here : t.lab ≡ claimed_lab.lab = sym (same_Some claimed_lab.lab t.lab t.is_lab) in
    let b = becomes_in t.lab es t.before t.now exp m tags t.before.phase t.becomes in
    record {
      before = t.before;
      found = t.found;
      out = b.0;
      mapping = m;
      shaped = subst (λ l. IsShaped l t.before.wiring m) lab (subst (λ (x : Experiment). IsShaped f.says.0 x.wiring m) same f.says.7);
      says = f.says.8 ∙ (λ i. the_texts.solution (lab i) (same i).wiring m);
      can = subst (λ l. can_take l es t.before (mapped t.before.wiring m tags) ≡ true) here b.1;
    }

pub record BegunChange (claimed_lab : ClaimedLab) (es : List Experiment) (exp top map : List ℕ) (tags : List VlanId) (second : Bool) : Type 0 where
  pub before : Experiment
  pub found : find exp es ≡ Some before
  pub inside : is_in before.phase ≡ true
  pub wiring : Wiring
  pub says_top : SaysTop the_texts wiring top second
  pub mapping : Mapping
  pub shaped : IsShaped claimed_lab.lab wiring mapping
  pub says : map ≡ the_texts.solution claimed_lab.lab wiring mapping
  pub can : can_take claimed_lab.lab es before (mapped wiring mapping tags) ≡ true

change_found : (claimed_lab : ClaimedLab) (es : List Experiment) (exp top map : List ℕ) (tags : List VlanId) (second : Bool) (u : LabState) → Follows the_texts (state_of (Some claimed_lab) es) (Begin exp (change_in second top map tags)) u
    → BegunChange claimed_lab es exp top map tags second
change_found claimed_lab es exp top map tags second u f =
    let said = says_change the_texts (state_of (Some claimed_lab) es) exp top map tags second f.move f.says in
    let lab : said.0 ≡ claimed_lab.lab = sym (same_Some claimed_lab.lab said.0 said.3) in
    let w = said.1 in
    let m = said.2 in
    let t = turn_of (Some claimed_lab.lab) es exp (BeginsChange exp w m tags) u (of_change exp w m tags) (sym (ap (λ x. moved (state_of (Some claimed_lab) es) x) said.8) ∙ f.gives) in
    let here : t.lab ≡ claimed_lab.lab = sym (same_Some claimed_lab.lab t.lab t.is_lab) in
    let b = becomes_change t.lab es t.before t.now exp w m tags t.before.phase t.becomes in
    record {
      before = t.before;
      found = t.found;
      inside = b.0;
      wiring = w;
      says_top = said.5;
      mapping = m;
      shaped = subst (λ l. IsShaped l w m) lab said.6;
      says = said.7 ∙ ap (λ l. the_texts.solution l w m) lab;
      can = subst (λ l. can_take l es t.before (mapped w m tags) ≡ true) here b.1;
    }

pub record BegunOut (claimed_lab : ClaimedLab) (es : List Experiment) (exp : List ℕ) : Type 0 where
  pub before : Experiment
  pub found : find exp es ≡ Some before
  pub inside : is_in before.phase ≡ true

out_says : (claimed_lab : ClaimedLab) (es : List Experiment) (exp : List ℕ) (u : LabState) → Follows the_texts (state_of (Some claimed_lab) es) (Begin exp WayOut) u → BegunOut claimed_lab es exp
out_says claimed_lab es exp u f =
    let t = turn_of (Some claimed_lab.lab) es exp (BeginsOut exp) u (of_out exp) (sym (ap (λ x. moved (state_of (Some claimed_lab) es) x) f.says) ∙ f.gives) in
    record { before = t.before; found = t.found; inside = becomes_out t.lab es t.before t.now exp t.before.phase t.becomes }

-- ---- no lab, no experiment
pub begin_nowhere : (o : Option ClaimedLab) (es : List Experiment) (exp : List ℕ) (way : Way) → o ≡ None → CannotFollow the_texts (state_of o es) (Begin exp way)
begin_nowhere (Some claimed_lab) es exp way none u f = absurd (cc none)
begin_nowhere None es exp (WayIn map tags) none u f = none_some f.says.0 f.says.3
begin_nowhere None es exp WayOut none u f = none_some u (sym (ap (λ m. moved (state_of None es) m) f.says) ∙ f.gives)
begin_nowhere None es exp (WayChange top map tags) none u f = none_some f.says.0 f.says.3
begin_nowhere None es exp (WayChange2 top map tags) none u f = none_some f.says.0 f.says.3

pub begin_nothing : (claimed_lab : ClaimedLab) (es : List Experiment) (exp : List ℕ) (way : Way) → find exp es ≡ None → CannotFollow the_texts (state_of (Some claimed_lab) es) (Begin exp way)
begin_nothing claimed_lab es exp (WayIn map tags) none u f = let x = in_says claimed_lab es exp map tags u f in none_some x.before (sym none ∙ x.found)
begin_nothing claimed_lab es exp WayOut none u f = let x = out_says claimed_lab es exp u f in none_some x.before (sym none ∙ x.found)
begin_nothing claimed_lab es exp (WayChange top map tags) none u f = let x = change_found claimed_lab es exp top map tags false u f in none_some x.before (sym none ∙ x.found)
begin_nothing claimed_lab es exp (WayChange2 top map tags) none u f = let x = change_found claimed_lab es exp top map tags true u f in none_some x.before (sym none ∙ x.found)

-- ---- the experiment that is found
module _ (claimed_lab : ClaimedLab) (es : List Experiment) (exp : List ℕ) (e : Experiment) (kept : IsKept (Some claimed_lab) es) (found : find exp es ≡ Some e) where
  is_before : (x : Experiment) → find exp es ≡ Some x → x ≡ e
  is_before x h = same_Some x e (sym h ∙ found)

  name_is : e.name ≡ exp
  name_is = (found_from exp es e found).name_is

  pub own_text : HasText the_texts e.wiring
  own_text = record { sound = own_sound claimed_lab es exp e kept found; printable = (own_printable claimed_lab es exp e kept found).wiring }

  -- in another phase
  pub in_inside : (map : List ℕ) (tags : List VlanId) → is_out e.phase ≡ false → CannotFollow the_texts (state_of (Some claimed_lab) es) (Begin exp (WayIn map tags))
  in_inside map tags inside u f =
      let x = in_says claimed_lab es exp map tags u f in
      let both : false ≡ true = sym inside ∙ ap (λ (y : Experiment). is_out y.phase) (sym (is_before x.before x.found)) ∙ x.out in cc both

  pub out_outside : is_in e.phase ≡ false → CannotFollow the_texts (state_of (Some claimed_lab) es) (Begin exp WayOut)
  out_outside outside u f =
      let x = out_says claimed_lab es exp u f in
      let both : false ≡ true = sym outside ∙ ap (λ (y : Experiment). is_in y.phase) (sym (is_before x.before x.found)) ∙ x.inside in cc both

  pub change_outside : (top map : List ℕ) (tags : List VlanId) (second : Bool) → is_in e.phase ≡ false → CannotFollow the_texts (state_of (Some claimed_lab) es) (Begin exp (change_in second top map tags))
  change_outside top map tags second outside u f =
      let x = change_found claimed_lab es exp top map tags second u f in
      let both : false ≡ true = sym outside ∙ ap (λ (y : Experiment). is_in y.phase) (sym (is_before x.before x.found)) ∙ x.inside in cc both

  -- texts that aren't canonical
  pub in_unread : (map : List ℕ) (tags : List VlanId) → ((m : Mapping) → IsShaped claimed_lab.lab e.wiring m → map ≡ the_texts.solution claimed_lab.lab e.wiring m → ⊥) → CannotFollow the_texts (state_of (Some claimed_lab) es) (Begin exp (WayIn map tags))
  in_unread map tags none u f =
      let x = in_says claimed_lab es exp map tags u f in
      let same = is_before x.before x.found in
      none x.mapping (subst (λ (y : Experiment). IsShaped claimed_lab.lab y.wiring x.mapping) same x.shaped) (x.says ∙ ap (λ (y : Experiment). the_texts.solution claimed_lab.lab y.wiring x.mapping) same)

  pub change_unread_top : (top map : List ℕ) (tags : List VlanId) (second : Bool) → ((w : Wiring) → SaysTop the_texts w top second → ⊥) → CannotFollow the_texts (state_of (Some claimed_lab) es) (Begin exp (change_in second top map tags))
  change_unread_top top map tags second none u f = let x = change_found claimed_lab es exp top map tags second u f in none x.wiring x.says_top

  pub change_unread : (top map : List ℕ) (tags : List VlanId) (second : Bool) (w : Wiring) → SaysTop the_texts w top second → ((m : Mapping) → IsShaped claimed_lab.lab w m → map ≡ the_texts.solution claimed_lab.lab w m → ⊥)
      → CannotFollow the_texts (state_of (Some claimed_lab) es) (Begin exp (change_in second top map tags))
  change_unread top map tags second w says none u f =
      let x = change_found claimed_lab es exp top map tags second u f in
      let same : x.wiring ≡ w = one_top x.wiring w x.says_top.text says.text (sym x.says_top.says ∙ says.says) in
      none x.mapping (subst (λ v. IsShaped claimed_lab.lab v x.mapping) same x.shaped) (x.says ∙ ap (λ v. the_texts.solution claimed_lab.lab v x.mapping) same)

  -- it cannot take the mapping
  in_refused : (map : List ℕ) (tags : List VlanId) (m : Mapping) → IsShaped claimed_lab.lab e.wiring m → map ≡ the_texts.solution claimed_lab.lab e.wiring m → can_take claimed_lab.lab es e (mapped e.wiring m tags) ≡ false
      → CannotFollow the_texts (state_of (Some claimed_lab) es) (Begin exp (WayIn map tags))
  in_refused map tags m shaped says cannot u f =
      let x = in_says claimed_lab es exp map tags u f in
      let same = is_before x.before x.found in
      let shaped_x : IsShaped claimed_lab.lab e.wiring x.mapping = subst (λ (y : Experiment). IsShaped claimed_lab.lab y.wiring x.mapping) same x.shaped in
      let says_x : map ≡ the_texts.solution claimed_lab.lab e.wiring x.mapping = x.says ∙ ap (λ (y : Experiment). the_texts.solution claimed_lab.lab y.wiring x.mapping) same in
      let one : x.mapping ≡ m = one_solution claimed_lab.lab e.wiring x.mapping m kept.sane.is_lab own_text shaped_x shaped (sym says_x ∙ says) in
      let can : can_take claimed_lab.lab es e (mapped e.wiring m tags) ≡ true = subst (λ n. can_take claimed_lab.lab es e (mapped e.wiring n tags) ≡ true) one (subst (λ (y : Experiment). can_take claimed_lab.lab es y (mapped y.wiring x.mapping tags) ≡ true) same x.can) in
      let both : false ≡ true = sym cannot ∙ can in cc both

  change_refused : (top map : List ℕ) (tags : List VlanId) (second : Bool) (w : Wiring) (m : Mapping) → SaysTop the_texts w top second → IsShaped claimed_lab.lab w m → map ≡ the_texts.solution claimed_lab.lab w m
      → can_take claimed_lab.lab es e (mapped w m tags) ≡ false → CannotFollow the_texts (state_of (Some claimed_lab) es) (Begin exp (change_in second top map tags))
  change_refused top map tags second w m says_top shaped says cannot u f =
      let x = change_found claimed_lab es exp top map tags second u f in
      let same = is_before x.before x.found in
      let wired : x.wiring ≡ w = one_top x.wiring w x.says_top.text says_top.text (sym x.says_top.says ∙ says_top.says) in
      let shaped_x : IsShaped claimed_lab.lab w x.mapping = subst (λ v. IsShaped claimed_lab.lab v x.mapping) wired x.shaped in
      let says_x : map ≡ the_texts.solution claimed_lab.lab w x.mapping = x.says ∙ ap (λ v. the_texts.solution claimed_lab.lab v x.mapping) wired in
      let one : x.mapping ≡ m = one_solution claimed_lab.lab w x.mapping m kept.sane.is_lab says_top.text shaped_x shaped (sym says_x ∙ says) in
      let can : can_take claimed_lab.lab es e (mapped w m tags) ≡ true
      = subst (λ n. can_take claimed_lab.lab es e (mapped w n tags) ≡ true) one (subst (λ v. can_take claimed_lab.lab es e (mapped v x.mapping tags) ≡ true) wired (subst (λ (y : Experiment). can_take claimed_lab.lab es y (mapped x.wiring x.mapping tags) ≡ true) same x.can)) in
      let both : false ≡ true = sym cannot ∙ can in cc both

  -- ---- and those that can begin
  after_is : (f : Experiment) → f.name ≡ e.name → state claimed_lab.lab (replace exp f es) ≡ record { lab = Some claimed_lab.lab; experiments = replace f.name f es }
  after_is f same = ap (λ n. state claimed_lab.lab (replace n f es)) (sym (same ∙ name_is))

  turns_in : (m : Mapping) (tags : List VlanId) (p : Phase) → is_out p ≡ true → can_take claimed_lab.lab es e (mapped e.wiring m tags) ≡ true
      → becomes claimed_lab.lab es e p (BeginsIn exp m tags) ≡ Some (in_phase e (Moving (standing_in e.wiring p) (Some (mapped e.wiring m tags))))
  turns_in m tags Out out can = ap (λ (t : Bool). if t then Some (in_phase e (Moving None (Some (mapped e.wiring m tags)))) else None) can
  turns_in m tags (In old old_tags) out can = absurd (cc out)
  turns_in m tags (Moving old new) out can = absurd (cc out)

  turns_change : (w : Wiring) (m : Mapping) (tags : List VlanId) (p : Phase) → is_in p ≡ true → can_take claimed_lab.lab es e (mapped w m tags) ≡ true
      → becomes claimed_lab.lab es e p (BeginsChange exp w m tags) ≡ Some (in_phase e (Moving (standing_in e.wiring p) (Some (mapped w m tags))))
  turns_change w m tags Out inside can = absurd (cc inside)
  turns_change w m tags (In old old_tags) inside can = ap (λ (t : Bool). if t then Some (in_phase e (Moving (Some (mapped e.wiring old old_tags)) (Some (mapped w m tags)))) else None) can
  turns_change w m tags (Moving old new) inside can = absurd (cc inside)

  turns_out : (p : Phase) → is_in p ≡ true → becomes claimed_lab.lab es e p (BeginsOut exp) ≡ Some (in_phase e (Moving (standing_in e.wiring p) None))
  turns_out Out inside = absurd (cc inside)
  turns_out (In old old_tags) inside = refl
  turns_out (Moving old new) inside = absurd (cc inside)

  in_follows : (map : List ℕ) (tags : List VlanId) (m : Mapping) → is_out e.phase ≡ true → IsShaped claimed_lab.lab e.wiring m → map ≡ the_texts.solution claimed_lab.lab e.wiring m → can_take claimed_lab.lab es e (mapped e.wiring m tags) ≡ true
      → CanFollow (state_of (Some claimed_lab) es) (Begin exp (WayIn map tags)) (changes.Begin (moving e (Some (mapped e.wiring m tags))) (claim_of claimed_lab.lab (moving e (Some (mapped e.wiring m tags)))))
  in_follows map tags m out shaped says can =
      let f = moving e (Some (mapped e.wiring m tags)) in
      record {
        follows = record {
          move = BeginsIn exp m tags;
          says = (claimed_lab.lab, e, m, refl, found, kept.sane.is_lab, own_text, shaped, says, refl);
          gives = turned (Some claimed_lab.lab) es exp (BeginsIn exp m tags) claimed_lab.lab e f (of_in exp m tags) refl found (turns_in m tags e.phase out can) ∙ ap Some (after_is f refl);
        };
        fits = begins_to claimed_lab es exp e kept found (IsOut out) (mapped e.wiring m tags) own_text shaped can;
      }

  change_follows : (top map : List ℕ) (tags : List VlanId) (second : Bool) (w : Wiring) (m : Mapping) → is_in e.phase ≡ true → SaysTop the_texts w top second → IsShaped claimed_lab.lab w m → map ≡ the_texts.solution claimed_lab.lab w m
      → can_take claimed_lab.lab es e (mapped w m tags) ≡ true
      → CanFollow (state_of (Some claimed_lab) es) (Begin exp (change_in second top map tags)) (changes.Begin (moving e (Some (mapped w m tags))) (claim_of claimed_lab.lab (moving e (Some (mapped w m tags)))))
  change_follows top map tags second w m inside says_top shaped says can =
      let f = moving e (Some (mapped w m tags)) in
      record {
        follows = record {
          move = BeginsChange exp w m tags;
          says = change_says the_texts (state_of (Some claimed_lab) es) exp top map tags second (BeginsChange exp w m tags) (claimed_lab.lab, w, m, refl, kept.sane.is_lab, says_top, shaped, says, refl);
          gives = turned (Some claimed_lab.lab) es exp (BeginsChange exp w m tags) claimed_lab.lab e f (of_change exp w m tags) refl found (turns_change w m tags e.phase inside can) ∙ ap Some (after_is f refl);
        };
        fits = begins_to claimed_lab es exp e kept found (IsIn inside) (mapped w m tags) says_top.text shaped can;
      }

  out_follows : is_in e.phase ≡ true → CanFollow (state_of (Some claimed_lab) es) (Begin exp WayOut) (changes.Begin (moving e None) (claim_of claimed_lab.lab (moving e None)))
  out_follows inside =
      let f = moving e None in
      record {
        follows = record {
          move = BeginsOut exp;
          says = refl;
          gives = turned (Some claimed_lab.lab) es exp (BeginsOut exp) claimed_lab.lab e f (of_out exp) refl found (turns_out e.phase inside) ∙ ap Some (after_is f refl);
        };
        fits = begins_out claimed_lab es exp e kept found (IsIn inside);
      }

  -- ---- by what was taken
  pub judged_in : (map : List ℕ) (tags : List VlanId) (m : Mapping) (result : Result Change PrepareFault) → is_out e.phase ≡ true → IsShaped claimed_lab.lab e.wiring m → map ≡ the_texts.solution claimed_lab.lab e.wiring m
      → IsTaken claimed_lab.lab es e (mapped e.wiring m tags) result → IsJudged (state_of (Some claimed_lab) es) (Begin exp (WayIn map tags)) result
  judged_in map tags m (Ok change) out shaped says taken =
      subst (λ c. CanFollow (state_of (Some claimed_lab) es) (Begin exp (WayIn map tags)) c) (sym taken.1) (in_follows map tags m out shaped says taken.0)
  judged_in map tags m (Err faults.Bad) out shaped says taken = in_refused map tags m shaped says taken
  judged_in map tags m (Err faults.Memory) out shaped says taken = tt

  pub judged_change : (top map : List ℕ) (tags : List VlanId) (second : Bool) (w : Wiring) (m : Mapping) (result : Result Change PrepareFault) → is_in e.phase ≡ true → SaysTop the_texts w top second → IsShaped claimed_lab.lab w m
      → map ≡ the_texts.solution claimed_lab.lab w m → IsTaken claimed_lab.lab es e (mapped w m tags) result → IsJudged (state_of (Some claimed_lab) es) (Begin exp (change_in second top map tags)) result
  judged_change top map tags second w m (Ok change) inside says_top shaped says taken =
      subst (λ c. CanFollow (state_of (Some claimed_lab) es) (Begin exp (change_in second top map tags)) c) (sym taken.1) (change_follows top map tags second w m inside says_top shaped says taken.0)
  judged_change top map tags second w m (Err faults.Bad) inside says_top shaped says taken = change_refused top map tags second w m says_top shaped says taken
  judged_change top map tags second w m (Err faults.Memory) inside says_top shaped says taken = tt

  pub judged_out : (change : Change) → is_in e.phase ≡ true → change ≡ changes.Begin (moving e None) (claim_of claimed_lab.lab (moving e None)) → CanFollow (state_of (Some claimed_lab) es) (Begin exp WayOut) change
  judged_out change inside is = subst (λ c. CanFollow (state_of (Some claimed_lab) es) (Begin exp WayOut) c) (sym is) (out_follows inside)
