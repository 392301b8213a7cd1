-- A step more, whose bytes are the last ones.
use Rattle.std.proofs.Common.{◌≡◌, ℕ, ◌-◌, ◌≤◌, Bool, true, false, ◌&&◌, List, [], ◌∷◌, ◌++◌, length, take, drop, nat_le, refl, sym, ◌∙◌, ap, subst, arith, length-append, append_assoc}
use Rattle.std.specs.Prelude.{slice_range, fold}
use Rattle.std.proofs.lemmas.List.{map-append, drop-append-le, take-append-le, take_all, length-drop, append-nil}
use Rattle.std.proofs.Math.Seq.{drop-append_seam}
use Rattle.std.proofs.lemmas.Bool.{and_from, leb-true, le-leb}
use Rattle.plant.specs.declared.step.Step.{Step}
use Rattle.plant.specs.declared.step.Step.TheVariants as step
use Rattle.plant.specs.declared.step.Side.{Side}
use Rattle.plant.specs.Disks.{disk, disk_after}
use Rattle.plant.specs.Events.{Event}
use Rattle.plant.specs.Events as events
use Rattle.plant.specs.Worlds.{world_of, world_after, blank}
use Rattle.plant.proofs.Traces.{disk_push}
use Rattle.plant_mem.specs.Steps.{event_of, trace_of, is_range, is_within, are_within}

both : (a b : Bool) → (a && b) ≡ true → (a ≡ true) × (b ≡ true)
both true b is = (refl, is)
both false b is = absurd (cc is)

range_grows : (bytes more : List ℕ) (start end : ℕ) → is_range (length bytes) start end ≡ true → slice_range (bytes ++ more) start end ≡ slice_range bytes start end
range_grows bytes more start end is =
    let b = both (nat_le start end) (nat_le end (length bytes)) is in
    let ordered : start ≤ end = leb-true start end b.0 in
    let within : end ≤ length bytes = leb-true end (length bytes) b.1 in
    ap (λ (l : List ℕ). take (end - start) l) (drop-append-le start bytes more (omega arith)) ∙ take-append-le (end - start) (drop start bytes) more (omega (arith, length-drop start bytes))

event_grows : (bytes more : List ℕ) (step : Step) → is_within (length bytes) step ≡ true → event_of (bytes ++ more) step ≡ event_of bytes step
event_grows bytes more (step.Wrote side at start end) is = ap (λ (l : List ℕ). events.Wrote side at l) (range_grows bytes more start end is)
event_grows bytes more (step.Restarted a b) is =
    let two = both (is_range (length bytes) a.0 a.1) (is_range (length bytes) b.0 b.1) is in
    (λ i. events.Restarted (range_grows bytes more a.0 a.1 two.0 i) (range_grows bytes more b.0 b.1 two.1 i))
event_grows bytes more (step.Synced side) is = refl
event_grows bytes more (step.Cut side size) is = refl
event_grows bytes more (step.Missed side) is = refl
event_grows bytes more (step.Did op applied answer) is = refl
event_grows bytes more (step.Unread device) is = refl

trace_grows : (bytes more : List ℕ) (steps : List Step) → are_within (length bytes) steps ≡ true → trace_of (bytes ++ more) steps ≡ trace_of bytes steps
trace_grows bytes more [] is = refl
trace_grows bytes more (step ∷ steps) is =
    let b = both (is_within (length bytes) step) (are_within (length bytes) steps) is in
    λ i. event_grows bytes more step b.0 i ∷ trace_grows bytes more steps b.1 i

range_in : (m n start end : ℕ) → m ≤ n → is_range m start end ≡ true → is_range n start end ≡ true
range_in m n start end more is =
    let b = both (nat_le start end) (nat_le end m) is in
    let short : end ≤ m = leb-true end m b.1 in
    and_from (nat_le start end) (nat_le end n) b.0 (le-leb end n (omega arith))

step_in : (m n : ℕ) (step : Step) → m ≤ n → is_within m step ≡ true → is_within n step ≡ true
step_in m n (step.Wrote side at start end) more is = range_in m n start end more is
step_in m n (step.Restarted a b) more is =
    let two = both (is_range m a.0 a.1) (is_range m b.0 b.1) is in
    and_from (is_range n a.0 a.1) (is_range n b.0 b.1) (range_in m n a.0 a.1 more two.0) (range_in m n b.0 b.1 more two.1)
step_in m n (step.Synced side) more is = refl
step_in m n (step.Cut side size) more is = refl
step_in m n (step.Missed side) more is = refl
step_in m n (step.Did op applied answer) more is = refl
step_in m n (step.Unread device) more is = refl

steps_in : (m n : ℕ) (steps : List Step) (step : Step) → m ≤ n → are_within m steps ≡ true → is_within n step ≡ true → are_within n (steps ++ step ∷ []) ≡ true
steps_in m n [] step more is last = and_from (is_within n step) true last refl
steps_in m n (s ∷ steps) step more is last =
    let b = both (is_within m s) (are_within m steps) is in
    and_from (is_within n s) (are_within n (steps ++ step ∷ [])) (step_in m n s more b.0) (steps_in m n steps step more b.1 last)

pub fold-push : {X Y : Type 0} (f : Y → X → Y) (b : Y) (xs : List X) (x : X) → fold f b (xs ++ x ∷ []) ≡ f (fold f b xs) x
fold-push f b [] x = refl
fold-push f b (y ∷ xs) x = fold-push f (f b y) xs x

-- what is known of more steps over more bytes
pub record Grown (bytes : List ℕ) (steps : List Step) (bytes' : List ℕ) (steps' : List Step) (event : Event) : Type 0 where
  pub trace : trace_of bytes' steps' ≡ trace_of bytes steps ++ event ∷ []
  pub within : are_within (length bytes') steps' ≡ true
  pub disks : (side : Side) → disk side (trace_of bytes' steps') ≡ disk_after side (disk side (trace_of bytes steps)) event
  pub worlds : world_of (trace_of bytes' steps') ≡ world_after (world_of (trace_of bytes steps)) event

pub grown : (bytes more bytes' : List ℕ) (steps steps' : List Step) (step : Step) (event : Event) → bytes' ≡ bytes ++ more → steps' ≡ steps ++ step ∷ [] → are_within (length bytes) steps ≡ true
    → is_within (length (bytes ++ more)) step ≡ true → event_of (bytes ++ more) step ≡ event → Grown bytes steps bytes' steps' event
grown bytes more bytes' steps steps' step event longer pushed within last is =
    let longer' : trace_of bytes' steps' ≡ trace_of (bytes ++ more) (steps ++ step ∷ []) = (λ i. trace_of (longer i) (pushed i)) in
    let trace : trace_of bytes' steps' ≡ trace_of bytes steps ++ event ∷ [] =
    longer' ∙ map-append (event_of (bytes ++ more)) steps (step ∷ []) ∙ (λ i. trace_grows bytes more steps within i ++ is i ∷ []) in
    record {
      trace = trace;
      within = (λ i. are_within (length (longer i)) (pushed i)) ∙ steps_in (length bytes) (length (bytes ++ more)) steps step (omega (arith, length-append bytes more)) within last;
      disks = λ side. ap (disk side) trace ∙ disk_push side (trace_of bytes steps) event;
      worlds = ap world_of trace ∙ fold-push world_after blank (trace_of bytes steps) event;
    }

-- a step without bytes
pub grown_by : (bytes : List ℕ) (steps steps' : List Step) (step : Step) (event : Event) → steps' ≡ steps ++ step ∷ [] → are_within (length bytes) steps ≡ true
    → is_within (length bytes) step ≡ true → event_of bytes step ≡ event → Grown bytes steps bytes steps' event
grown_by bytes steps steps' step event pushed within last is =
    let none : bytes ≡ bytes ++ [] = sym (append-nil bytes) in
    grown bytes [] bytes steps steps' step event none pushed within (subst (λ (l : List ℕ). is_within (length l) step ≡ true) none last) (subst (λ (l : List ℕ). event_of l step ≡ event) none is)

range_last : (bytes more : List ℕ) → is_range (length (bytes ++ more)) (length bytes) (length (bytes ++ more)) ≡ true
range_last bytes more =
    let n = length (bytes ++ more) in
    and_from (nat_le (length bytes) n) (nat_le n n) (le-leb (length bytes) n (omega (arith, length-append bytes more))) (le-leb n n (omega arith))

-- the new bytes are the last range
pub last_range : (bytes more : List ℕ) → slice_range (bytes ++ more) (length bytes) (length (bytes ++ more)) ≡ more
last_range bytes more =
    ap (λ (l : List ℕ). take (length (bytes ++ more) - length bytes) l) (drop-append_seam bytes more) ∙ take_all (length (bytes ++ more) - length bytes) more (omega (arith, length-append bytes more))

-- a write more, whose bytes are the last ones
pub grown_wrote : (bytes more bytes' : List ℕ) (steps steps' : List Step) (side : Side) (at start end : ℕ) → bytes' ≡ bytes ++ more → start ≡ length bytes → end ≡ length (bytes ++ more)
    → steps' ≡ steps ++ step.Wrote side at start end ∷ [] → are_within (length bytes) steps ≡ true → Grown bytes steps bytes' steps' (events.Wrote side at more)
grown_wrote bytes more bytes' steps steps' side at start end longer from to pushed within =
    let n = length (bytes ++ more) in
    let pushed' : steps' ≡ steps ++ step.Wrote side at (length bytes) n ∷ [] = pushed ∙ (λ i. steps ++ step.Wrote side at (from i) (to i) ∷ []) in
    grown bytes more bytes' steps steps' (step.Wrote side at (length bytes) n) (events.Wrote side at more) longer pushed' within
    (range_last bytes more) (ap (λ (l : List ℕ). events.Wrote side at l) (last_range bytes more))

-- a restart, whose bytes are the last ones
pub grown_restart : (bytes x y bytes' : List ℕ) (steps steps' : List Step) (start middle end : ℕ) → bytes' ≡ (bytes ++ x) ++ y → start ≡ length bytes → middle ≡ length (bytes ++ x) → end ≡ length ((bytes ++ x) ++ y)
    → steps' ≡ steps ++ step.Restarted (start, middle) (middle, end) ∷ [] → are_within (length bytes) steps ≡ true → Grown bytes steps bytes' steps' (events.Restarted x y)
grown_restart bytes x y bytes' steps steps' start middle end longer from mid to pushed within =
    let m = length (bytes ++ x) in
    let n = length ((bytes ++ x) ++ y) in
    let last : Step = step.Restarted (length bytes, m) (m, n) in
    let pushed' : steps' ≡ steps ++ last ∷ [] = pushed ∙ (λ i. steps ++ step.Restarted (from i, mid i) (mid i, to i) ∷ []) in
    let flat : (bytes ++ x) ++ y ≡ bytes ++ (x ++ y) = append_assoc bytes x y in
    let a : is_range n (length bytes) m ≡ true = range_in m n (length bytes) m (omega (arith, length-append (bytes ++ x) y)) (range_last bytes x) in
    let inside : is_within n last ≡ true = and_from (is_range n (length bytes) m) (is_range n m n) a (range_last (bytes ++ x) y) in
    let first : slice_range ((bytes ++ x) ++ y) (length bytes) m ≡ x = range_grows (bytes ++ x) y (length bytes) m (range_last bytes x) ∙ last_range bytes x in
    let is : event_of ((bytes ++ x) ++ y) last ≡ events.Restarted x y = (λ i. events.Restarted (first i) (last_range (bytes ++ x) y i)) in
    grown bytes (x ++ y) bytes' steps steps' last (events.Restarted x y) (longer ∙ flat) pushed' within
    (subst (λ (l : List ℕ). is_within (length l) last ≡ true) flat inside) (subst (λ (l : List ℕ). event_of l last ≡ events.Restarted x y) flat is)
