-- One call of the plant after another, up to one that failed or stopped.
use Rattle.std.proofs.Common.{◌≡◌, inl, inr, ℕ, Bool, true, false, List, [], ◌∷◌, ◌++◌, length, Option, Result, Ok, Err, refl, sym, ap, ◌∙◌, append_assoc}
use Rattle.std.specs.Prelude.{OnOk}
use Rattle.std.proofs.lemmas.List.{append-nil}
use Rattle.plant.specs.DiskCalls.{WriteSteps, SyncSteps}
use Rattle.plant.specs.Events.{Event, Wrote, Synced, Missed}
use Rattle.plant.specs.Told.{Told, with_steps}
use Rattle.plant.specs.declared.device.Fault.{Fault}
use Rattle.plant.specs.declared.device.Fault.TheVariants.{Failed, Stopped}
use Rattle.plant.specs.declared.step.Side.{Side}
use Rattle.plant.proofs.Traces.{with_steps-append}
use Rattle.journal_disk.specs.Reaching.{IsLast, Reaches}

-- a call more
pub chain : (told one two : Option Told) (a b c : List Event) → one ≡ with_steps told a → two ≡ with_steps one b → a ++ b ≡ c → two ≡ with_steps told c
chain told one two a b c first second is = second ∙ ap (λ t. with_steps t b) first ∙ with_steps-append told a b ∙ ap (with_steps told) is

pub write_ok : (side : Side) (at : ℕ) (bytes : List ℕ) (stopped : Bool) (u : Unit {0}) (steps : List Event) → WriteSteps side at bytes stopped (Ok u) steps → steps ≡ Wrote side at bytes ∷ []
write_ok side at bytes true u steps h = absurd (cc h.0)
write_ok side at bytes false u steps h = h

pub sync_ok : (side : Side) (stopped : Bool) (u : Unit {0}) (steps : List Event) → SyncSteps side stopped (Ok u) steps → steps ≡ Synced side ∷ []
sync_ok side true u steps h = absurd (cc h.0)
sync_ok side false u steps h = h

-- how far some calls came until one failed or stopped: a part of their steps, and what stands last
pub record Came {X : Type 0} (steps_of : X → List Event) (P : X → Type 0) (old new : Option Told) (side : Side) (fault : Fault) : Type 0 where
  pub far : X
  pub may : P far
  pub more : List Event
  pub trace : new ≡ with_steps old (steps_of far ++ more)
  pub last : IsLast side fault more

pub broke : {X : Type 0} (steps_of : X → List Event) (P : X → Type 0) (goal : X) (old new : Option Told) (side : Side) (fault : Fault) → Came steps_of P old new side fault → Reaches steps_of P goal side old new (Err fault)
broke steps_of P goal old new side fault c = record { far = c.far; may = c.may; more = c.more; trace = c.trace; ends = c.last }

-- where all were acknowledged
pub reached : {X : Type 0} (steps_of : X → List Event) (P : X → Type 0) (goal : X) (old new : Option Told) (side : Side) (result : Result (Unit {0}) Fault) → Reaches steps_of P goal side old new result
    → OnOk result (new ≡ with_steps old (steps_of goal))
reached steps_of P goal old new side (Ok u) r = r.trace ∙ ap (with_steps old) ((λ i. steps_of (r.ends.0 i) ++ r.ends.1 i) ∙ append-nil (steps_of goal))
reached steps_of P goal old new side (Err fault) r = tt

module _ {X : Type 0} (steps_of : X → List Event) (P : X → Type 0) (old one two : Option Told) (side : Side) where
  -- a sync that was not acknowledged: before it they had come so far, and with it so far
  pub sync_came : (before after : X) (stopped : Bool) (fault : Fault) (steps : List Event) → P before → P after → one ≡ with_steps old (steps_of before) → steps_of before ++ Synced side ∷ [] ≡ steps_of after
      → two ≡ with_steps one steps → SyncSteps side stopped (Err fault) steps → Came steps_of P old two side fault
  sync_came before after true Failed steps p q first joined second h = absurd (cc h.0)
  sync_came before after true Stopped steps p q first joined second h =
      record { far = before; may = p; more = []; trace = chain old one two _ steps _ first second (ap (λ l. steps_of before ++ l) h.1); last = refl }
  sync_came before after false Failed steps p q first joined second h =
      record { far = before; may = p; more = Missed side ∷ []; trace = chain old one two _ steps _ first second (ap (λ l. steps_of before ++ l) h); last = refl }
  sync_came before after false Stopped steps p q first joined second (inl h) =
      record { far = before; may = p; more = []; trace = chain old one two _ steps _ first second (ap (λ l. steps_of before ++ l) h); last = refl }
  sync_came before after false Stopped steps p q first joined second (inr h) =
      record { far = after; may = q; more = []; trace = chain old one two _ steps _ first second (ap (λ l. steps_of before ++ l) h ∙ joined ∙ sym (append-nil _)); last = refl }

  -- a write that was not acknowledged: with other bytes they came so far, which are its own where the plant stopped
  pub write_came : (before : X) (after : List ℕ → X) (at : ℕ) (bytes : List ℕ) (stopped : Bool) (fault : Fault) (steps : List Event) → P before → ((other : List ℕ) → length other ≡ length bytes → (fault ≡ Stopped → other ≡ bytes) → P (after other)) → one ≡ with_steps old (steps_of before)
      → ((other : List ℕ) → length other ≡ length bytes → steps_of before ++ Wrote side at other ∷ [] ≡ steps_of (after other))
      → two ≡ with_steps one steps → WriteSteps side at bytes stopped (Err fault) steps → Came steps_of P old two side fault
  write_came before after at bytes true Failed steps p q first joined second h = absurd (cc h.0)
  write_came before after at bytes true Stopped steps p q first joined second h =
      record { far = before; may = p; more = []; trace = chain old one two _ steps _ first second (ap (λ l. steps_of before ++ l) h.1); last = refl }
  write_came before after at bytes false Failed steps p q first joined second (inl h) =
      record { far = before; may = p; more = Missed side ∷ []; trace = chain old one two _ steps _ first second (ap (λ l. steps_of before ++ l) h); last = refl }
  write_came before after at bytes false Failed steps p q first joined second (inr h) =
      let both : steps_of before ++ (Wrote side at h.0 ∷ Missed side ∷ []) ≡ steps_of (after h.0) ++ Missed side ∷ [] =
      sym (append_assoc (steps_of before) (Wrote side at h.0 ∷ []) (Missed side ∷ [])) ∙ ap (λ l. l ++ Missed side ∷ []) (joined h.0 h.1) in
      record { far = after h.0; may = q h.0 h.1 (λ e. absurd (cc e)); more = Missed side ∷ []; trace = chain old one two _ steps _ first second (ap (λ l. steps_of before ++ l) h.2 ∙ both); last = refl }
  write_came before after at bytes false Stopped steps p q first joined second (inl h) =
      record { far = before; may = p; more = []; trace = chain old one two _ steps _ first second (ap (λ l. steps_of before ++ l) h); last = refl }
  write_came before after at bytes false Stopped steps p q first joined second (inr h) =
      record { far = after bytes; may = q bytes refl (λ e. refl); more = []; trace = chain old one two _ steps _ first second (ap (λ l. steps_of before ++ l) h ∙ joined bytes refl ∙ sym (append-nil _)); last = refl }

  -- a sync as the last call
  pub sync_reaches : (before goal : X) (stopped : Bool) (result : Result (Unit {0}) Fault) (steps : List Event) → P before → P goal → one ≡ with_steps old (steps_of before) → steps_of before ++ Synced side ∷ [] ≡ steps_of goal
      → two ≡ with_steps one steps → SyncSteps side stopped result steps → Reaches steps_of P goal side old two result
  sync_reaches before goal stopped (Ok u) steps p q first joined second h =
      let is = chain old one two _ steps _ first second (ap (λ l. steps_of before ++ l) (sync_ok side stopped u steps h) ∙ joined) in
      record { far = goal; may = q; more = []; trace = is ∙ ap (with_steps old) (sym (append-nil (steps_of goal))); ends = (refl, refl) }
  sync_reaches before goal stopped (Err fault) steps p q first joined second h = broke steps_of P goal old two side fault (sync_came before goal stopped fault steps p q first joined second h)
