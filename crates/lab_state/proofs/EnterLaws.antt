-- A change that is entered keeps the invariant of a lab.
use Rattle.std.proofs.Common.{◌≡◌, ◌≢◌, ◌<◌, ℕ, Bool, true, false, inl, inr, Option, Some, None, List, [], ◌∷◌, ◌++◌, length, map, refl, sym, ap, subst, ◌∙◌, is_some, IfSome, if◌then◌else◌, arith}
use Rattle.std.proofs.lemmas.Option.{same_Some}
use Rattle.lab_base.specs.Lists.{AllDiffer}
use Rattle.lab_base.proofs.Members.{Has-append, Has-right}
use Rattle.phys_lab.specs.Labs.{Lab}
use Rattle.virt_topo.specs.declared.experiment.Experiment.{Experiment}
use Rattle.virt_topo.specs.declared.experiment.Phase.{Phase}
use Rattle.virt_topo.specs.declared.experiment.Phase.TheVariants.{Out, In, Moving}
use Rattle.virt_topo.specs.declared.mapping.Mapped.{Mapped}
use Rattle.virt_topo.specs.declared.wiring.Wiring.{Wiring}
use Rattle.top_text.specs.Printable.{is_printable}
use Rattle.lab_model.specs.Claims.{Which, Old, New, claimed, claimed_in}
use Rattle.lab_model.proofs.Records.{Has_mid, Has_other}
use Rattle.records_model.specs.Labs.{Sane, find, others, replace, moved, inside}
use Rattle.records_model.proofs.Finding.{Found, found_from, not_found, none_some}
use Rattle.records_model.proofs.LabLaws.{follows_sane}
use Rattle.claims.specs.declared.claim.Claim.{Claim}
use Rattle.claims.specs.Held.{Held, others as other_claims}
use Rattle.claims.specs.Holds.{claim_of, hold_in}
use Rattle.claims.specs.Adding.{MayAdd, with_claim, side_of}
use Rattle.claims.specs.Answered.{none_of}
use Rattle.claims.specs.Experiments.{ClaimsOf}
use Rattle.claims.proofs.Replacing.{made_claims, gone_claims, put_claims, dropped_claims, narrowed_claims, few_claims, stands}
use Rattle.lab_state.specs.declared.claimed_lab.ClaimedLab.{ClaimedLab}
use Rattle.lab_state.specs.Texts.{the_texts}
use Rattle.lab_state.specs.Claimed.{with_claims, kept_side, noted, settled}
use Rattle.lab_state.specs.Kept.{IsKept, ArePrintable, ClaimsStand, lab_of, state_of}
use Rattle.lab_state.specs.Changes.{Begins, CanEnd, ending, ending_record, is_moving}
use Rattle.lab_state.specs.Ends.{kept_of, standing, ended}
use Rattle.lab_state.proofs.MoveLaws.{Turn, turn_of, ending_of, ends_as, ending_follows}

no_claims : (lab : Lab) → ClaimsOf lab [] (none_of lab)
no_claims lab = record { range = refl; nodes = refl; kbps = refl; once = tt; known = λ f h. absurd h; claims = λ e h. absurd h }

-- ---- the lab is set
pub set_kept : (old : Option ClaimedLab) (es : List Experiment) (claimed_lab : ClaimedLab) → IsKept old es → lab_of old ≡ None → claimed_lab.claims ≡ none_of claimed_lab.lab
    → Sane (record { lab = Some claimed_lab.lab; experiments = [] }) → IsKept (Some claimed_lab) es
set_kept old es claimed_lab kept none claims sane =
    subst (λ l. IsKept (Some claimed_lab) l) (sym (kept.sane.none none)) (record {
      sane = sane;
      printable = λ e h. absurd h;
      claims = subst (λ held. ClaimsOf claimed_lab.lab [] held) (sym claims) (no_claims claimed_lab.lab);
    })

-- ---- one experiment more, and one fewer
add_claims : (claimed_lab : Option ClaimedLab) (es : List Experiment) (e : Experiment) → ClaimsStand claimed_lab es → e.phase ≡ Out → find e.name es ≡ None → ClaimsStand claimed_lab (es ++ e ∷ [])
add_claims None es e h out new = tt
add_claims (Some claimed_lab) es e h out new = made_claims claimed_lab.lab es e claimed_lab.claims h out (not_found e.name es new)

pub add_kept : (claimed_lab : Option ClaimedLab) (es : List Experiment) (e : Experiment) → IsKept claimed_lab es → find e.name es ≡ None → e.phase ≡ Out → ArePrintable e
    → Sane (state_of claimed_lab (es ++ e ∷ [])) → IsKept claimed_lab (es ++ e ∷ [])
add_kept claimed_lab es e kept new out printable sane = record {
  sane = sane;
  printable = λ f h. elim (Has-append es (e ∷ []) f h) [
    | inl g ↦ kept.printable f g
    | inr g ↦ elim g [ inl same ↦ subst ArePrintable same printable | inr no' ↦ absurd no' ]
  ];
  claims = add_claims claimed_lab es e kept.claims out new;
}

remove_claims : (claimed_lab : Option ClaimedLab) (a b : List Experiment) (e : Experiment) → ClaimsStand claimed_lab (a ++ e ∷ b) → AllDiffer (map (λ x. x.name) (a ++ e ∷ b)) → e.phase ≡ Out → ClaimsStand claimed_lab (a ++ b)
remove_claims None a b e h names out = tt
remove_claims (Some claimed_lab) a b e h names out = gone_claims claimed_lab.lab a b e claimed_lab.claims names h out

pub remove_kept : (claimed_lab : Option ClaimedLab) (es : List Experiment) (name : List ℕ) (e : Experiment) → IsKept claimed_lab es → find name es ≡ Some e → e.phase ≡ Out
    → Sane (state_of claimed_lab (others name es)) → IsKept claimed_lab (others name es)
remove_kept claimed_lab es name e kept is out sane =
    let f = found_from name es e is in
    let was : IsKept claimed_lab (f.before ++ e ∷ f.after) = subst (λ l. IsKept claimed_lab l) f.whole kept in
    subst (λ l. IsKept claimed_lab l) (sym f.others_are) (record {
      sane = subst (λ l. Sane (state_of claimed_lab l)) f.others_are sane;
      printable = λ g h. was.printable g (Has_other f.before f.after e g (Has-append f.before f.after g h));
      claims = remove_claims claimed_lab f.before f.after e was.claims was.sane.names out;
    })

-- ---- one in the place of another
replaced : (claimed_lab : ClaimedLab) (es : List Experiment) (name : List ℕ) (e g : Experiment) (held : Held) → IsKept (Some claimed_lab) es → (f : Found name es e) → ArePrintable g
    → Sane (state_of (Some claimed_lab) (replace name g es)) → ClaimsOf claimed_lab.lab (f.before ++ g ∷ f.after) held → IsKept (Some (with_claims claimed_lab held)) (replace name g es)
replaced claimed_lab es name e g held kept f printable sane claims =
    let was : IsKept (Some claimed_lab) (f.before ++ e ∷ f.after) = subst (λ l. IsKept (Some claimed_lab) l) f.whole kept in
    subst (λ l. IsKept (Some (with_claims claimed_lab held)) l) (sym (f.replaced g)) (record {
      sane = subst (λ l. Sane (state_of (Some claimed_lab) l)) (f.replaced g) sane;
      printable = λ x h. elim (Has_mid f.before f.after g x h) [
        | inl same ↦ subst ArePrintable same printable
        | inr other ↦ was.printable x (Has_other f.before f.after e x other)
      ];
      claims = claims;
    })

not_out : (p : Phase) → is_moving p ≡ true → p ≢ Out
not_out p h out = let both : false ≡ true = sym (ap is_moving out) ∙ h in cc both

-- ---- a move begins
module _ (claimed_lab : ClaimedLab) (es : List Experiment) (f : Experiment) (claim : Claim) (kept : IsKept (Some claimed_lab) es) (begins : Begins (state_of (Some claimed_lab) es) f claim) where
  at_name : Found f.name es begins.before
  at_name = found_from f.name es begins.before begins.found

  same_lab : claimed_lab.lab ≡ begins.lab
  same_lab = same_Some claimed_lab.lab begins.lab begins.is_lab

  of_lab : ClaimsOf begins.lab es claimed_lab.claims
  of_lab = subst (λ l. ClaimsOf l es claimed_lab.claims) same_lab kept.claims

  pub may_note : MayAdd claimed_lab.claims f.name claim
  may_note = begins.may claimed_lab.claims of_lab

  was : IsKept (Some claimed_lab) (at_name.before ++ begins.before ∷ at_name.after)
  was = subst (λ l. IsKept (Some claimed_lab) l) at_name.whole kept

  pub few_others : length (other_claims f.name claimed_lab.claims.entries) < 256
  few_others =
      let few = few_claims claimed_lab.lab at_name.before at_name.after begins.before claimed_lab.claims was.sane.names was.claims in
      subst (λ n. length (other_claims n claimed_lab.claims.entries) < 256) at_name.name_is (omega (arith, few, was.sane.few))

  pub begin_kept : Sane (state_of (Some claimed_lab) (replace f.name f es)) → IsKept (Some (with_claims claimed_lab (with_claim f.name claim claimed_lab.claims))) (replace f.name f es)
  begin_kept sane =
      let is : claim ≡ claim_of claimed_lab.lab f = begins.claimed ∙ ap (λ l. claim_of l f) (sym same_lab) in
      let put : ClaimsOf claimed_lab.lab (at_name.before ++ f ∷ at_name.after) (with_claim begins.before.name (claim_of claimed_lab.lab f) claimed_lab.claims)
      = put_claims claimed_lab.lab at_name.before at_name.after begins.before claimed_lab.claims was.sane.names was.claims f (claim_of claimed_lab.lab f) (sym at_name.name_is) (stands claimed_lab.lab f (not_out f.phase begins.moving)) in
      let here : ClaimsOf claimed_lab.lab (at_name.before ++ f ∷ at_name.after) (with_claim f.name claim claimed_lab.claims)
      = subst (λ c. ClaimsOf claimed_lab.lab (at_name.before ++ f ∷ at_name.after) (with_claim f.name c claimed_lab.claims)) (sym is)
      (subst (λ n. ClaimsOf claimed_lab.lab (at_name.before ++ f ∷ at_name.after) (with_claim n (claim_of claimed_lab.lab f) claimed_lab.claims)) at_name.name_is put) in
      replaced claimed_lab es f.name begins.before f (with_claim f.name claim claimed_lab.claims) kept at_name begins.printable sane here

-- ---- a move ends
abbrev pub side : Bool → Which
side commit = if commit then New else Old

kept_claimed : (commit : Bool) (w : Wiring) (p : Phase) (m : Mapped) → kept_of commit p ≡ Some m → claimed_in w p (side commit) ≡ Some m
kept_claimed true w Out m h = none_some m h
kept_claimed false w Out m h = none_some m h
kept_claimed true w (In mapping tags) m h = none_some m h
kept_claimed false w (In mapping tags) m h = none_some m h
kept_claimed true w (Moving old new) m h = h
kept_claimed false w (Moving old new) m h = h

kept_not_out : (commit : Bool) (p : Phase) (m : Mapped) → kept_of commit p ≡ Some m → p ≢ Out
kept_not_out commit p m h out = none_some m (sym (ap (kept_of commit) out) ∙ h)

side_claim : (lab : Lab) (e : Experiment) (commit : Bool) (m : Mapped) → claimed e (side commit) ≡ Some m → side_of commit (claim_of lab e) ≡ record { old = None; new = hold_in lab (Some m) }
side_claim lab e true m h = λ i. record { old = None; new = hold_in lab (h i) }
side_claim lab e false m h = λ i. record { old = None; new = hold_in lab (h i) }

ended_printable : (e : Experiment) (commit : Bool) (o : Option Mapped) → kept_of commit e.phase ≡ o → ArePrintable e → ArePrintable (standing e o)
ended_printable e commit None is printable = record { wiring = printable.wiring; moving = λ which m h. none_some m h }
ended_printable e commit (Some m) is printable =
    let own : is_printable m.wiring ≡ true = printable.moving (side commit) m (kept_claimed commit e.wiring e.phase m is) in
    record { wiring = own; moving = by own }
  where
    by : is_printable m.wiring ≡ true → (which : Which) (n : Mapped) → claimed (inside e m) which ≡ Some n → is_printable n.wiring ≡ true
    by own Old n h = none_some n h
    by own New n h = subst (λ (x : Mapped). is_printable x.wiring ≡ true) (same_Some _ n h) own

ended_claims : (lab : Lab) (a b : List Experiment) (e : Experiment) (held : Held) (commit : Bool) (o : Option Mapped) → AllDiffer (map (λ x. x.name) (a ++ e ∷ b)) → ClaimsOf lab (a ++ e ∷ b) held
    → kept_of commit e.phase ≡ o → ClaimsOf lab (a ++ standing e o ∷ b) (kept_side (is_some o) e.name commit held)
ended_claims lab a b e held commit None names of_es is = dropped_claims lab a b e held names of_es (standing e None) refl refl
ended_claims lab a b e held commit (Some m) names of_es is =
    narrowed_claims lab a b e held names of_es (standing e (Some m)) m commit (kept_not_out commit e.phase m is) (side_claim lab e commit m (kept_claimed commit e.wiring e.phase m is)) refl refl refl

module _ (claimed_lab : ClaimedLab) (es : List Experiment) (exp : List ℕ) (commit : Bool) (kept : IsKept (Some claimed_lab) es) (can : CanEnd (state_of (Some claimed_lab) es) exp commit) where
  pub turn : Turn (Some claimed_lab.lab) es exp (ending exp commit) can.0
  turn = turn_of (Some claimed_lab.lab) es exp (ending exp commit) can.0 (ending_of exp commit) can.1

  same : claimed_lab.lab ≡ turn.lab
  same = same_Some claimed_lab.lab turn.lab turn.is_lab

  is_ended : turn.now ≡ ended commit turn.before
  is_ended = ends_as turn.lab es turn.before turn.now exp commit turn.before.phase turn.becomes

  pub end_state : state_of (Some claimed_lab) (replace exp (ended commit turn.before) es) ≡ can.0
  end_state = (λ i. record { lab = Some (same i); experiments = replace exp (sym is_ended i) es }) ∙ turn.after

  end_sane : Sane (state_of (Some claimed_lab) (replace exp (ended commit turn.before) es))
  end_sane = subst Sane (sym end_state) (follows_sane the_texts (state_of (Some claimed_lab) es) (ending_record exp commit) can.0 kept.sane (ending_follows (state_of (Some claimed_lab) es) can.0 exp commit can.1))

  at_exp : Found exp es turn.before
  at_exp = found_from exp es turn.before turn.found

  pub end_kept : IsKept (Some (with_claims claimed_lab (kept_side (is_some (kept_of commit turn.before.phase)) exp commit claimed_lab.claims))) (replace exp (ended commit turn.before) es)
  end_kept =
      let e = turn.before in
      let o = kept_of commit e.phase in
      let f = at_exp in
      let is : IsKept (Some claimed_lab) (f.before ++ e ∷ f.after) = subst (λ l. IsKept (Some claimed_lab) l) f.whole kept in
      let printable : ArePrintable e = is.printable e (Has-right f.before (e ∷ f.after) e (inl refl)) in
      let claims : ClaimsOf claimed_lab.lab (f.before ++ ended commit e ∷ f.after) (kept_side (is_some o) exp commit claimed_lab.claims)
      = subst (λ n. ClaimsOf claimed_lab.lab (f.before ++ ended commit e ∷ f.after) (kept_side (is_some o) n commit claimed_lab.claims)) f.name_is
      (ended_claims claimed_lab.lab f.before f.after e claimed_lab.claims commit o is.sane.names is.claims refl) in
      replaced claimed_lab es exp e (ended commit e) (kept_side (is_some o) exp commit claimed_lab.claims) kept f (ended_printable e commit o refl printable) end_sane claims

-- ---- the same where it is not known whether there is a lab
pub begins_may : (o : Option ClaimedLab) (es : List Experiment) (f : Experiment) (claim : Claim) → IsKept o es → Begins (state_of o es) f claim → IfSome o (λ p. MayAdd p.claims f.name claim)
begins_may None es f claim kept begins = tt
begins_may (Some claimed_lab) es f claim kept begins = may_note claimed_lab es f claim kept begins

pub begins_few : (o : Option ClaimedLab) (es : List Experiment) (f : Experiment) (claim : Claim) → IsKept o es → Begins (state_of o es) f claim
    → IfSome o (λ p. length (other_claims f.name p.claims.entries) < 256)
begins_few None es f claim kept begins = tt
begins_few (Some claimed_lab) es f claim kept begins = few_others claimed_lab es f claim kept begins

pub begins_kept : (o : Option ClaimedLab) (es : List Experiment) (f : Experiment) (claim : Claim) → IsKept o es → Begins (state_of o es) f claim → Sane (state_of o (replace f.name f es))
    → IsKept (noted f.name claim o) (replace f.name f es)
begins_kept None es f claim kept begins sane = none_some begins.lab begins.is_lab
begins_kept (Some claimed_lab) es f claim kept begins sane = begin_kept claimed_lab es f claim kept begins sane

pub noted_lab : (o : Option ClaimedLab) (exp : List ℕ) (claim : Claim) → lab_of (noted exp claim o) ≡ lab_of o
noted_lab None exp claim = refl
noted_lab (Some claimed_lab) exp claim = refl

-- what an end is of, and what it leaves
pub record Ending (o : Option ClaimedLab) (es : List Experiment) (exp : List ℕ) (commit : Bool) : Type 0 where
  pub before : Experiment
  pub found : find exp es ≡ Some before
  pub kept : IsKept (settled (is_some (kept_of commit before.phase)) exp commit o) (replace exp (ended commit before) es)
  pub moves : (stands : Bool) → moved (state_of o es) (ending exp commit) ≡ Some (state_of (settled stands exp commit o) (replace exp (ended commit before) es))

pub ending_kept : (o : Option ClaimedLab) (es : List Experiment) (exp : List ℕ) (commit : Bool) → IsKept o es → CanEnd (state_of o es) exp commit → Ending o es exp commit
ending_kept None es exp commit kept can =
    let t = turn_of None es exp (ending exp commit) can.0 (ending_of exp commit) can.1 in none_some t.lab t.is_lab
ending_kept (Some claimed_lab) es exp commit kept can = record {
  before = (turn claimed_lab es exp commit kept can).before;
  found = (turn claimed_lab es exp commit kept can).found;
  kept = end_kept claimed_lab es exp commit kept can;
  moves = λ stands. can.1 ∙ ap Some (sym (end_state claimed_lab es exp commit kept can));
}
