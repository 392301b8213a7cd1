-- A swap that stays open is the same one, and a command that finds the controller open leaves the lab itself as it was.
use Rattle.std.proofs.Common.{◌≡◌, ◌≢◌, inl, inr, ℕ, Bool, true, false, if◌then◌else◌, is_some, not, List, [], ◌∷◌, ◌++◌, Option, Some, None, Result, Ok, Err, refl, sym, ap, ◌∙◌, subst}
use Rattle.std.specs.Str.{bytes_eq}
use Rattle.std.proofs.lemmas.Bool.{cases_Bool}
use Rattle.std.proofs.lemmas.Option.{same_Some}
use Rattle.std.proofs.lemmas.Slice.Eq.{bytes_eq-Decides}
use Rattle.lab_base.specs.Lists.{AllDiffer, Has}
use Rattle.lab_base.proofs.Members.{Has-append, Has-mapped}
use Rattle.plant.specs.Events.{Event}
use Rattle.records_model.specs.Labs.{LabState}
use Rattle.recovery.specs.Due.{is_busy}
use Rattle.script_text.specs.declared.command.Command.{Command}
use Rattle.script_text.specs.declared.command.Command.TheVariants as commands
use Rattle.script_text.specs.declared.reply.Reply.{Reply}
use Rattle.swap_turns.specs.Turning.{Outcome, More, TurnsBack, Ended, Stuck, Unwritten, Stopped as Halted}
use Rattle.lab_tasks.specs.Tasks.{Task, Tell, Append, Swap, BeginOnly, Turn, Finish, Recover}
use Rattle.lab_core.specs.LabSteps.{begun_at, turned_on}
use Rattle.lab_core.specs.Commands.{is_about, LabStep}
use Rattle.lab_core.specs.Sessions.{OpenSwap, Session, Open, Setting, After, name_in, names_of, open_at, Terms}
use Rattle.lab_tasks.specs.OpenNames.{name_of}
use Rattle.lab_core.specs.Tells.{busy_of, opens_of, settles}
use Rattle.lab_core.proofs.OpenLaws.{IsNext, Leaves, at_turned, at_without, goes, stands}
use Rattle.lab_core.proofs.OpenMoves.{beside_one}
use Rattle.lab_tasks.proofs.Busy.{has_busy}
use Rattle.lab_core.proofs.OpenSwaps.{open_at_none, open_at_one}
use Rattle.lab_core.proofs.ListSteps.{batch_stays, named_so, all_stay}

-- THE OPEN SWAP of a name is one of them, of that name
by_test : (b : Bool) (exp : List ℕ) (x o : OpenSwap) (rest : List OpenSwap) → bytes_eq (name_in x) exp ≡ b → (if b then Some x else open_at exp rest) ≡ Some o → (open_at exp rest ≡ Some o → Has rest o × (name_in o ≡ exp)) → Has (x ∷ rest) o × (name_in o ≡ exp)
by_test true exp x o rest test is more = let same : x ≡ o = same_Some x o is in (inl same, ap name_in (sym same) ∙ (bytes_eq-Decides (name_in x) exp).0 test)
by_test false exp x o rest test is more = let r = more is in (inr r.0, r.1)

pub has_at : (exp : List ℕ) (opens : List OpenSwap) (o : OpenSwap) → open_at exp opens ≡ Some o → Has opens o × (name_in o ≡ exp)
has_at exp [] o is = absurd (cc is)
has_at exp (x ∷ opens) o is = by_test (bytes_eq (name_in x) exp) exp x o opens refl is (λ more. has_at exp opens o more)

-- it is so with more after
pub at_front : (exp : List ℕ) (opens more : List OpenSwap) (o : OpenSwap) → open_at exp opens ≡ Some o → open_at exp (opens ++ more) ≡ Some o
at_front exp [] more o is = absurd (cc is)
at_front exp (x ∷ opens) more o is = by (bytes_eq (name_in x) exp) (λ next. at_front exp opens more o next) is
  where
    by : (b : Bool) → (open_at exp opens ≡ Some o → open_at exp (opens ++ more) ≡ Some o) → (if b then Some x else open_at exp opens) ≡ Some o → (if b then Some x else open_at exp (opens ++ more)) ≡ Some o
    by true next is = is
    by false next is = next is

module _ (exp : List ℕ) (front rest : List OpenSwap) (one : OpenSwap) (differ : AllDiffer (names_of (front ++ one ∷ rest))) (named : name_in one ≡ exp) where
  before : (q : OpenSwap) → Has front q → name_in q ≢ exp
  before q there = λ same. beside_one front rest one q differ (inl there) (named ∙ sym same)

  pub at_itself : open_at exp (front ++ one ∷ rest) ≡ Some one
  at_itself = open_at_one exp front one rest before named

  pub at_none : open_at exp (front ++ rest) ≡ None
  at_none = open_at_none exp (front ++ rest) (λ q there same. beside_one front rest one q differ (Has-append front rest q there) (named ∙ sym same))

  kept : (x q : OpenSwap) → name_in x ≡ name_in one → x.running.swap ≡ one.running.swap → open_at exp (front ++ x ∷ rest) ≡ Some q → q.running.swap ≡ one.running.swap
  kept x q same swap is = ap (λ (y : OpenSwap). y.running.swap) (same_Some q x (sym is ∙ open_at_one exp front x rest before (same ∙ named))) ∙ swap

  gone : {X : Type 0} (q : OpenSwap) → open_at exp (front ++ rest) ≡ Some q → X
  gone q is = let both : None ≡ Some q = sym at_none ∙ is in absurd (cc both)

  pub turned_at : (steps : List Event) (outcome : Outcome) (q : OpenSwap) → open_at exp (front ++ (turned_on one steps outcome ++ rest)) ≡ Some q → q.running.swap ≡ one.running.swap
  turned_at steps More q is = kept _ q refl refl is
  turned_at steps (TurnsBack why) q is = kept _ q refl refl is
  turned_at steps (Ended leg) q is = gone q is
  turned_at steps (Stuck trouble) q is = gone q is
  turned_at steps Unwritten q is = gone q is
  turned_at steps Halted q is = gone q is

-- AFTER A STEP that leaves the controller open
module _ (exp : List ℕ) (opens to : List OpenSwap) (differ : AllDiffer (names_of opens)) (o q : OpenSwap) (was_at : open_at exp opens ≡ Some o) (is_at : open_at exp to ≡ Some q) where
  abbrev SameSwap : Type 0
  SameSwap = q.running.swap ≡ o.running.swap

  one_of : (x : OpenSwap) → open_at exp to ≡ Some x → x.running.swap ≡ o.running.swap → SameSwap
  one_of x is same = ap (λ (y : OpenSwap). y.running.swap) (same_Some q x (sym is_at ∙ is)) ∙ same

  as_before : to ≡ opens → SameSwap
  as_before next = one_of o (ap (λ l. open_at exp l) next ∙ was_at) refl

  itself : (front rest : List OpenSwap) (one : OpenSwap) → opens ≡ front ++ one ∷ rest → name_in one ≡ exp → one ≡ o
  itself front rest one are named =
      same_Some one o (sym (at_itself exp front rest one (subst (λ l. AllDiffer (names_of l)) are differ) named) ∙ ap (λ l. open_at exp l) (sym are) ∙ was_at)

  next_same : (devices : ℕ) (judgement : Result Task Reply) → IsNext devices opens judgement to → SameSwap
  next_same devices (Err refusal) next = as_before next
  next_same devices (Ok (Tell told)) next = as_before next
  next_same devices (Ok (Append entry told)) next = as_before next
  next_same devices (Ok (Swap e way)) next = as_before next
  next_same devices (Ok Recover) next = as_before next
  next_same devices (Ok (BeginOnly e way)) (inl same) = as_before same
  next_same devices (Ok (BeginOnly e way)) (inr (p, named, is)) = one_of o (ap (λ l. open_at exp l) is ∙ at_front exp opens (begun_at p devices ∷ []) o was_at) refl
  next_same devices (Ok (Turn e)) (one, steps, outcome, is) = elim (cases_Bool (bytes_eq (name_in one.swap) exp)) [
    | inl yes' ↦
        let named = (bytes_eq-Decides (name_in one.swap) exp).0 yes' in
        turned_at exp one.front one.rest one.swap (subst (λ l. AllDiffer (names_of l)) one.are differ) named steps outcome q (ap (λ l. open_at exp l) (sym is) ∙ is_at)
        ∙ ap (λ (y : OpenSwap). y.running.swap) (itself one.front one.rest one.swap one.are named)
    | inr no' ↦
        one_of o
        (ap (λ l. open_at exp l) is
        ∙ at_turned exp one.front one.rest one.swap steps outcome (λ same. (let bad : false ≡ true = sym no' ∙ (bytes_eq-Decides (name_in one.swap) exp).1 same in cc bad))
        ∙ ap (λ l. open_at exp l) (sym one.are) ∙ was_at) refl
  ]
  next_same devices (Ok (Finish e)) (one, is) = elim (cases_Bool (bytes_eq (name_in one.swap) exp)) [
    | inl yes' ↦
        let named = (bytes_eq-Decides (name_in one.swap) exp).0 yes' in
        gone exp one.front one.rest one.swap (subst (λ l. AllDiffer (names_of l)) one.are differ) named q (ap (λ l. open_at exp l) (sym is) ∙ is_at)
    | inr no' ↦
        one_of o
        (ap (λ l. open_at exp l) is
        ∙ sym (at_without exp one.front one.rest one.swap (λ same. (let bad : false ≡ true = sym no' ∙ (bytes_eq-Decides (name_in one.swap) exp).1 same in cc bad)))
        ∙ ap (λ l. open_at exp l) (sym one.are) ∙ was_at) refl
  ]

pub same_swap : (exp : List ℕ) (set : Setting) (session : Session) (command : Command) (judgement : Result Task Reply) (to : List OpenSwap) (o q : OpenSwap) → AllDiffer (busy_of session) → open_at exp (opens_of session) ≡ Some o → open_at exp to ≡ Some q
    → Leaves set session command judgement to → q.running.swap ≡ o.running.swap
same_swap exp set session command judgement to o q differ was_at is_at (goes mid may next) = next_same exp (opens_of session) to differ o q was_at is_at set.devices judgement next
same_swap exp set session command judgement to o q differ was_at is_at (stands same) = as_before exp (opens_of session) to differ o q was_at is_at same

-- THE LAB ITSELF is as it was: by an experiment that the command is not about, and does not settle
settles_not : {X : Type 0} (opens : List OpenSwap) (command : Command) (name other : List ℕ) → name_of command ≡ Some name → settles (Open opens) command other ≡ true → X
settles_not opens commands.Recover name other named settled = absurd (cc named)
settles_not opens command name other named settled = absurd (cc settled)

settles_busy : {X : Type 0} (opens : List OpenSwap) (command : Command) (name : List ℕ) → is_busy (names_of opens) name ≡ true → settles (Open opens) command name ≡ true → X
settles_busy opens commands.Recover name busy settled = absurd (cc (ap not busy, settled))
settles_busy opens command name busy settled = absurd (cc settled)

longer : (exp : List ℕ) → exp ≢ 0 ∷ exp
longer [] = λ same. cc same
longer (x ∷ exp) = λ same. (let rest : exp ≡ x ∷ exp = cc same in let first : x ≡ 0 = cc same in longer exp (rest ∙ ap (λ n. n ∷ exp) first))

plain_same : (terms : Terms) (at : Option (List Event)) (set : Setting) (s : LabState) (opens : List OpenSwap) (command : Command) → ((name : List ℕ) → name_of command ≢ Some name → is_about command name ≡ false) → (opening own : List Event) (after : After) (exp : List ℕ) (o : OpenSwap) → is_some s.lab ≡ true → open_at exp opens ≡ Some o
    → LabStep terms at set s (Open opens) command opening own after → after.lab.lab ≡ s.lab
plain_same terms at set s opens command others opening own after exp o there is step = by (name_of command) refl
  where
    busy : is_busy (names_of opens) exp ≡ true
    busy = let h = has_at exp opens o is in has_busy (names_of opens) exp (subst (λ (n : List ℕ). Has (names_of opens) n) h.1 (Has-mapped name_in opens o h.0))

    by_name : (name : List ℕ) → name_of command ≢ Some name → (settles (Open opens) command name ≡ true → ⊥) → after.lab.lab ≡ s.lab
    by_name name other never =
        (all_stay terms at set s (Open opens) opening own after command name there (others name other) (λ settled. absurd (never settled)) step).lab

    by : (name : Option (List ℕ)) → name_of command ≡ name → after.lab.lab ≡ s.lab
    by None named = by_name exp (λ same. (let both : None ≡ Some exp = sym named ∙ same in cc both)) (λ settled. settles_busy opens command exp busy settled)
    by (Some name) named = by_name (0 ∷ name) (λ same. longer name (same_Some name (0 ∷ name) (sym named ∙ same))) (λ settled. settles_not opens command name (0 ∷ name) named settled)

pub lab_same : (terms : Terms) (at : Option (List Event)) (set : Setting) (s : LabState) (opens : List OpenSwap) (command : Command) (opening own : List Event) (after : After) (exp : List ℕ) (o : OpenSwap) → is_some s.lab ≡ true → open_at exp opens ≡ Some o
    → LabStep terms at set s (Open opens) command opening own after → after.lab.lab ≡ s.lab
lab_same terms at set s opens (commands.Batch moment lines text) opening own after exp o there is step =
    let h = has_at exp opens o is in
    (batch_stays terms at set s opens moment lines text opening own after exp there (has_busy (names_of opens) exp (subst (λ (n : List ℕ). Has (names_of opens) n) h.1 (Has-mapped name_in opens o h.0))) step).lab
lab_same terms at set s opens command opening own after exp o there is step = plain_same terms at set s opens command (λ name other. named_so (name_of command) name other) opening own after exp o there is step
