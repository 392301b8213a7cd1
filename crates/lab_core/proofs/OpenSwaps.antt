-- The open swaps of a session beside the pairs of a manager: where one of them stands, and what was counted since it was opened.
use Rattle.std.proofs.Common.{◌≡◌, ◌≢◌, inl, inr, ◌≤◌, ℕ, List, [], ◌∷◌, ◌++◌, map, length, Some, None, Result, Ok, Err, refl, sym, ap, ◌∙◌, subst, append_assoc, arith}
use Rattle.std.proofs.lemmas.Bool.{cond-true, cond-false, false_from_ne_true}
use Rattle.std.proofs.lemmas.List.{map-append}
use Rattle.std.proofs.lemmas.Slice.Eq.{bytes_eq-Decides}
use Rattle.std.specs.Str.{bytes_eq}
use Rattle.lab_base.specs.Lists.{Has, Apart}
use Rattle.lab_base.proofs.Members.{Has-left, Has-right, Has-append, Has-map, Has-mapped, Apart-across}
use Rattle.plant.specs.Events.{Event}
use Rattle.plant.specs.Seen.{Seen}
use Rattle.lab_model.specs.Courses.{Trouble, Device, Late, Unlawful}
use Rattle.swap_txn.specs.declared.live.Live.{Live}
use Rattle.swap_mgr.specs.Open.{HasOpen}
use Rattle.swap_mgr.proofs.Holding.{named_open}
use Rattle.swap_turns.specs.Causes.{IsCaused, IsLater}
use Rattle.swap_turns.specs.Legs.{Leg, Forth, Undo, Settling}
use Rattle.swap_turns.specs.Running.{OpenSwap as RunningSwap}
use Rattle.swap_turns.specs.Turning.{Outcome, More, TurnsBack, Ended, Stuck, Unwritten, Stopped, IsOutcomeCaused, open_after}
use Rattle.swap_turns.proofs.Pushing.{rose_later}
use Rattle.journal_disk.specs.declared.fault.OpenFault.{OpenFault}
use Rattle.lab_core.specs.Controller.{Control, Works, WorksWith}
use Rattle.lab_core.specs.LabSteps.{turned_on}
use Rattle.script_text.specs.declared.reply.Reply.TheVariants as replies
use Rattle.lab_core.specs.Sessions.{OpenSwap, IsSince, HasRisenBy, name_in, open_at, AreOpenedBy, WasOpen}
use Rattle.std.specs.Prelude.{IfOk}
use Rattle.lab_core.proofs.HowFar.{WereOpen}

abbrev pub Pair : Type 0
Pair = RunningSwap × Live

-- the running swaps of pairs, and of open swaps
abbrev pub swaps_in : List Pair → List RunningSwap
swaps_in pairs = map (λ q. q.0) pairs

abbrev pub running_of : List OpenSwap → List RunningSwap
running_of opens = map (λ o. o.running) opens

heads : {X : Type 0} (x y : X) (xs ys : List X) → x ∷ xs ≡ y ∷ ys → x ≡ y
heads x y xs ys e = cc

tails : {X : Type 0} (x y : X) (xs ys : List X) → x ∷ xs ≡ y ∷ ys → xs ≡ ys
tails x y xs ys e = cc

-- WHERE ONE STANDS among the open swaps, as its pair does among the pairs
pub record Place (a : List Pair) (x : RunningSwap) (b : List Pair) (opens : List OpenSwap) : Type 0 where
  pub front : List OpenSwap
  pub one : OpenSwap
  pub rest : List OpenSwap
  pub are : opens ≡ front ++ one ∷ rest
  pub running : one.running ≡ x
  pub before : running_of front ≡ swaps_in a
  pub behind : running_of rest ≡ swaps_in b

pub place : (a : List Pair) (x : RunningSwap) (b : List Pair) (opens : List OpenSwap) → swaps_in a ++ x ∷ swaps_in b ≡ running_of opens → Place a x b opens
place [] x b [] is = absurd (cc is)
place [] x b (o ∷ opens) is = record { front = []; one = o; rest = opens; are = refl; running = sym (heads x o.running (swaps_in b) (running_of opens) is); before = refl; behind = sym (tails x o.running (swaps_in b) (running_of opens) is) }
place (y ∷ a) x b [] is = absurd (cc is)
place (y ∷ a) x b (o ∷ opens) is =
    let p = place a x b opens (tails y.0 o.running (swaps_in a ++ x ∷ swaps_in b) (running_of opens) is) in
    let same : o.running ≡ y.0 = sym (heads y.0 o.running (swaps_in a ++ x ∷ swaps_in b) (running_of opens) is) in
    record { front = o ∷ p.front; one = p.one; rest = p.rest; are = ap (λ l. o ∷ l) p.are; running = p.running; before = λ i. same i ∷ p.before i; behind = p.behind }

pub place_of : (pairs a : List Pair) (x : Pair) (b : List Pair) (opens : List OpenSwap) → pairs ≡ a ++ x ∷ b → swaps_in pairs ≡ running_of opens → Place a x.0 b opens
place_of pairs a x b opens pairs_are are = place a x.0 b opens (sym (ap swaps_in pairs_are ∙ map-append (λ (q : Pair). q.0) a (x ∷ b)) ∙ are)

-- the open swap of a running one
pub running_has : (pairs : List Pair) (opens : List OpenSwap) → running_of opens ≡ swaps_in pairs → (o : OpenSwap) → Has opens o → (q : Pair) × Has pairs q × (q.0 ≡ o.running)
running_has pairs opens are o has = Has-map (λ (q : Pair). q.0) pairs o.running (subst (λ l. Has l o.running) are (Has-mapped (λ (x : OpenSwap). x.running) opens o has))

-- those before it have other names
pub others_before : (pairs a : List Pair) (x : Pair) (b : List Pair) (opens : List OpenSwap) (p : Place a x.0 b opens) → pairs ≡ a ++ x ∷ b → Apart (λ o q. o.0.swap.name ≢ q.0.swap.name) pairs
    → (q : OpenSwap) → Has p.front q → name_in q ≢ name_in p.one
others_before pairs a x b opens p pairs_are differ q has same =
    let y = running_has a p.front p.before q has in
    Apart-across (λ (o z : Pair). o.0.swap.name ≢ z.0.swap.name) a (x ∷ b) y.0 x (subst (λ l. Apart (λ (o z : Pair). o.0.swap.name ≢ z.0.swap.name) l) pairs_are differ) y.1 (inl refl)
    (ap (λ r. r.swap.name) y.2 ∙ same ∙ ap (λ r. r.swap.name) p.running)

pub others_after : (pairs a : List Pair) (x : Pair) (b : List Pair) (opens : List OpenSwap) (p : Place a x.0 b opens) → pairs ≡ a ++ x ∷ b → Apart (λ o q. o.0.swap.name ≢ q.0.swap.name) pairs
    → (q : OpenSwap) → Has p.rest q → name_in q ≢ name_in p.one
others_after pairs a x b opens p pairs_are differ q has same =
    let y = running_has b p.rest p.behind q has in
    Apart-across (λ (o z : Pair). o.0.swap.name ≢ z.0.swap.name) (a ++ x ∷ []) b x y.0 (subst (λ l. Apart (λ (o z : Pair). o.0.swap.name ≢ z.0.swap.name) l) (pairs_are ∙ sym (append_assoc a (x ∷ []) b)) differ) (Has-right a (x ∷ []) x (inl refl)) y.1
    (sym (ap (λ r. r.swap.name) p.running) ∙ sym same ∙ sym (ap (λ r. r.swap.name) y.2))

-- THE OPEN SWAP of a name
pub open_at_one : (name : List ℕ) (front : List OpenSwap) (one : OpenSwap) (rest : List OpenSwap) → ((q : OpenSwap) → Has front q → name_in q ≢ name) → name_in one ≡ name → open_at name (front ++ one ∷ rest) ≡ Some one
open_at_one name [] one rest apart is = cond-true (bytes_eq (name_in one) name) (Some one) (open_at name rest) ((bytes_eq-Decides (name_in one) name).1 is)
open_at_one name (q ∷ front) one rest apart is =
    cond-false (bytes_eq (name_in q) name) (Some q) (open_at name (front ++ one ∷ rest)) (false_from_ne_true (bytes_eq (name_in q) name) (λ h. apart q (inl refl) ((bytes_eq-Decides (name_in q) name).0 h)))
    ∙ open_at_one name front one rest (λ x has. apart x (inr has)) is

pub open_at_none : (name : List ℕ) (opens : List OpenSwap) → ((q : OpenSwap) → Has opens q → name_in q ≢ name) → open_at name opens ≡ None
open_at_none name [] apart = refl
open_at_none name (q ∷ opens) apart =
    cond-false (bytes_eq (name_in q) name) (Some q) (open_at name opens) (false_from_ne_true (bytes_eq (name_in q) name) (λ h. apart q (inl refl) ((bytes_eq-Decides (name_in q) name).0 h)))
    ∙ open_at_none name opens (λ x has. apart x (inr has))

-- none has the name of an experiment with no open swap
pub none_named : (now : Seen) (c : Control) (opens : List OpenSwap) (exp : List ℕ) → WorksWith now c opens → (HasOpen c.swaps exp → ⊥) → (q : OpenSwap) → Has opens q → name_in q ≢ exp
none_named now c opens exp works none q has same =
    let y = running_has works.pairs opens (sym works.are) q has in
    none (record { state = y.0.1; stands = works.holds.stands y.0 y.1; named = named_open c.lab y.0.0 y.0.1 (works.working.each y.0 y.1) ∙ ap (λ r. r.swap.name) y.2 ∙ same })

-- the only one of a name is the last one
no_end : {X Y : Type 0} (xs : List X) (x : X) (ys : List X) → [] ≡ xs ++ x ∷ ys → Y
no_end [] x ys is = absurd (cc is)
no_end (z ∷ xs) x ys is = absurd (cc is)

pub record IsLast (opens : List OpenSwap) (last : OpenSwap) (front : List OpenSwap) (one : OpenSwap) (rest : List OpenSwap) : Type 0 where
  pub front_is : front ≡ opens
  pub one_is : one ≡ last
  pub rest_is : rest ≡ []

pub only_last : (exp : List ℕ) (opens : List OpenSwap) (last : OpenSwap) (front : List OpenSwap) (one : OpenSwap) (rest : List OpenSwap) → opens ++ last ∷ [] ≡ front ++ one ∷ rest → name_in one ≡ exp → ((q : OpenSwap) → Has opens q → name_in q ≢ exp)
    → IsLast opens last front one rest
only_last exp [] last [] one rest is named apart = record { front_is = refl; one_is = sym (heads last one [] rest is); rest_is = sym (tails last one [] rest is) }
only_last exp (o ∷ opens) last [] one rest is named apart = absurd (apart o (inl refl) (ap name_in (heads o one (opens ++ last ∷ []) rest is) ∙ named))
only_last exp [] last (x ∷ front) one rest is named apart = no_end front one rest (tails last x [] (front ++ one ∷ rest) is)
only_last exp (o ∷ opens) last (x ∷ front) one rest is named apart =
    let r = only_last exp opens last front one rest (tails o x (opens ++ last ∷ []) (front ++ one ∷ rest) is) named (λ q has. apart q (inr has)) in
    let same : x ≡ o = sym (heads o x (opens ++ last ∷ []) (front ++ one ∷ rest) is) in
    record { front_is = λ i. same i ∷ r.front_is i; one_is = r.one_is; rest_is = r.rest_is }

-- ---- WHAT IS COUNTED
pub risen_later : (leg : Leg) (devices was now : ℕ) → was ≤ now → HasRisenBy leg devices was → HasRisenBy leg devices now
risen_later Forth devices was now later h = tt
risen_later (Undo (Device name)) devices was now later h = rose_later devices devices was now (omega arith) h later
risen_later (Undo (Late node)) devices was now later h = tt
risen_later (Undo (Unlawful node from to)) devices was now later h = tt
risen_later Settling devices was now later h = tt

pub since_later : (o : OpenSwap) (was now : ℕ) → was ≤ now → IsSince was o → IsSince now o
since_later o was now later s = record { later = omega (arith, s.later, later); caused = risen_later o.running.leg o.devices was now later s.caused }

pub risen_by : (why : Trouble) (devices : ℕ) (was now : Seen) → devices ≤ was.faults.devices → IsCaused why was now → HasRisenBy (Undo why) devices now.faults.devices
risen_by (Device name) devices was now before cause = rose_later devices was.faults.devices now.faults.devices now.faults.devices before cause (omega arith)
risen_by (Late node) devices was now before cause = tt
risen_by (Unlawful node from to) devices was now before cause = tt

-- after a turn of one
pub since_turned : (o : OpenSwap) (steps : List Event) (outcome : Outcome) (was now : Seen) → IsLater was now → IsOutcomeCaused outcome was now → IsSince was.faults.devices o → (x : OpenSwap) → Has (turned_on o steps outcome) x → IsSince now.faults.devices x
since_turned o steps More was now later cause s x (inl is) =
    subst (λ (y : OpenSwap). IsSince now.faults.devices y) is (record { later = omega (arith, s.later, later.devices); caused = risen_later o.running.leg o.devices was.faults.devices now.faults.devices later.devices s.caused })
since_turned o steps More was now later cause s x (inr none) = absurd none
since_turned o steps (TurnsBack why) was now later cause s x (inl is) =
    subst (λ (y : OpenSwap). IsSince now.faults.devices y) is (record { later = omega (arith, s.later, later.devices); caused = risen_by why o.devices was now s.later cause })
since_turned o steps (TurnsBack why) was now later cause s x (inr none) = absurd none
since_turned o steps (Ended leg) was now later cause s x none = absurd none
since_turned o steps (Stuck trouble) was now later cause s x none = absurd none
since_turned o steps Unwritten was now later cause s x none = absurd none
since_turned o steps Stopped was now later cause s x none = absurd none

-- it is the same swap, opened at the same count
turned_same : (o : OpenSwap) (steps : List Event) (outcome : Outcome) (x : OpenSwap) → Has (turned_on o steps outcome) x → (name_in o ≡ name_in x) × (o.devices ≡ x.devices)
turned_same o steps More x (inl is) = (ap name_in is, ap (λ (y : OpenSwap). y.devices) is)
turned_same o steps More x (inr none) = absurd none
turned_same o steps (TurnsBack why) x (inl is) = (ap name_in is, ap (λ (y : OpenSwap). y.devices) is)
turned_same o steps (TurnsBack why) x (inr none) = absurd none
turned_same o steps (Ended leg) x none = absurd none
turned_same o steps (Stuck trouble) x none = absurd none
turned_same o steps Unwritten x none = absurd none
turned_same o steps Stopped x none = absurd none

-- the running swap of it
pub turned_running : (o : OpenSwap) (steps : List Event) (outcome : Outcome) → running_of (turned_on o steps outcome) ≡ Rattle.lab_base.specs.Lists.listed (open_after o.running steps outcome)
turned_running o steps More = refl
turned_running o steps (TurnsBack why) = refl
turned_running o steps (Ended leg) = refl
turned_running o steps (Stuck trouble) = refl
turned_running o steps Unwritten = refl
turned_running o steps Stopped = refl

-- WHEN THEY WERE OPENED: before, each, where one of them was turned, or is open no longer; or one of them now
module _ (opens front : List OpenSwap) (o : OpenSwap) (rest : List OpenSwap) (are : opens ≡ front ++ o ∷ rest) where
  pub has_one : Has opens o
  has_one = subst (λ (l : List OpenSwap). Has l o) (sym are) (Has-right front (o ∷ rest) o (inl refl))

  pub has_front : (x : OpenSwap) → Has front x → Has opens x
  has_front x has = subst (λ (l : List OpenSwap). Has l x) (sym are) (Has-left front (o ∷ rest) x has)

  pub has_rest : (x : OpenSwap) → Has rest x → Has opens x
  has_rest x has = subst (λ (l : List OpenSwap). Has l x) (sym are) (Has-right front (o ∷ rest) x (inr has))

  itself : (x : OpenSwap) → Has opens x → WasOpen opens x
  itself x has = (x, has, refl, refl)

  pub open_turned : (steps : List Event) (outcome : Outcome) → WereOpen opens (front ++ (turned_on o steps outcome ++ rest))
  open_turned steps outcome x has = elim (Has-append front (turned_on o steps outcome ++ rest) x has) [
    | inl in_front ↦ itself x (has_front x in_front)
    | inr behind ↦ elim (Has-append (turned_on o steps outcome) rest x behind) [
      | inl here ↦ let same = turned_same o steps outcome x here in (o, has_one, same.0, same.1)
      | inr in_rest ↦ itself x (has_rest x in_rest)
    ]
  ]

  pub open_without : WereOpen opens (front ++ rest)
  open_without x has = elim (Has-append front rest x has) [ inl in_front ↦ itself x (has_front x in_front) | inr in_rest ↦ itself x (has_rest x in_rest) ]

-- one more, which has begun
pub opened_more : (exp : List ℕ) (opens : List OpenSwap) (last : OpenSwap) (count : ℕ) → name_in last ≡ exp → last.devices ≡ count → AreOpenedBy (Some exp) (Some (replies.More exp)) opens (opens ++ last ∷ []) count
opened_more exp opens last count named is x has = elim (Has-append opens (last ∷ []) x has) [
  | inl old ↦ inr (refl, (x, old, refl, refl))
  | inr at_end ↦ elim at_end [
    | inl here ↦
        let same : exp ≡ name_in x = sym named ∙ ap name_in here in
        inl (ap (λ (n : List ℕ). Some n) same, ap (λ (n : List ℕ). Some (replies.More n)) same, sym (ap (λ (y : OpenSwap). y.devices) here) ∙ is)
    | inr none ↦ absurd none
  ]
]

-- A CONTROLLER THAT WORKS with no open swap
alone_works : (now : Seen) (c : Control) → Works now.told c → c.swaps ≡ [] → WorksWith now c []
alone_works now c works none = record {
  pairs = [];
  are = refl;
  working = record { work = works; differ = tt; each = λ o there. absurd there; running = λ o there. absurd there };
  holds = record { listed_of = λ x there. absurd (subst (λ l. Has l x) none there); stands = λ q there. absurd there; count = sym (ap length none); plain = λ q there. absurd there };
  since = λ o there. absurd there;
}

pub opened_alone : (now : Seen) (old : Control) (result : Result Control OpenFault) → old.swaps ≡ [] → IfOk result (λ c. Works now.told c) → IfOk result (λ c. c.swaps ≡ old.swaps) → IfOk result (λ c. WorksWith now c [])
opened_alone now old (Ok c) none works same = alone_works now c works (same ∙ none)
opened_alone now old (Err fault) none works same = tt
