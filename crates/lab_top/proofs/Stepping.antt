-- Lab steps of pieces, from what an opening and an open controller leave.
use Rattle.std.proofs.Common.{◌≡◌, inl, inr, ⊎_elim, ℕ, ◌^◌, Bool, true, false, ◌||◌, ◌&&◌, List, [], ◌∷◌, ◌++◌, Option, Some, None, refl, sym, ◌∙◌, ap, subst, append_assoc}
use Rattle.std.specs.Prelude.{not, IfSome, Ok}
use Rattle.std.specs.List.{list_any}
use Rattle.std.proofs.lemmas.List.{append-nil}
use Rattle.std.proofs.lemmas.List.Folds.{list_any-append}
use Rattle.std.proofs.Math.Bool.{and-false}
use Rattle.lab_base.proofs.Tests.{and_first, and_rest}
use Rattle.plant.specs.declared.drill.Drill.{Drill}
use Rattle.plant.specs.declared.moment.Faults.{Faults}
use Rattle.plant.specs.declared.step.Side.{Side}
use Rattle.plant.specs.declared.step.Side.TheVariants.{A, B}
use Rattle.plant.specs.Disks.{disk, ArePossible}
use Rattle.plant.specs.Events.{Event, Restarted}
use Rattle.journal_model.specs.Journals.{journal_length}
use Rattle.records_model.specs.Labs.{LabState}
use Rattle.records_model.specs.Works.{IsSound}
use Rattle.records_model.proofs.Starts.{restarted}
use Rattle.journal_disk.specs.Before.{is_sync_of, are_synced}
use Rattle.journal_disk.specs.Standing.{side_of, length_of, limit_of}
use Rattle.swap_turns.specs.Pieces.{is_miss, is_outer, is_restart, has_restart, EndsRestarted}
use Rattle.swap_turns.proofs.Blank.{restarted_reads, restarted_stand}
use Rattle.swap_turns.proofs.Images.{on_image, reads_possible}
use Rattle.swap_turns.proofs.Quiet.{shows}
use Rattle.swap_turns.proofs.Stood.{stood_alike, stood_once}
use Rattle.lab_state.specs.Texts.{the_texts}
use Rattle.lab_state.proofs.Canonical.{texts_once}
use Rattle.swap_turns.specs.Running.{Stands}
use Rattle.swap_turns.proofs.Showing.{settles_show}
use Rattle.script_text.specs.declared.command.Command.{Command}
use Rattle.script_text.specs.declared.reply.Reply.{Reply}
use Rattle.script_text.specs.declared.reply.Reply.TheVariants as replies
use Rattle.script_text.specs.Drills.{drill_of}
use Rattle.lab_core.specs.Controller.{Control}
use Rattle.lab_core.specs.LabSteps.{StepOf, opened}
use Rattle.lab_core.specs.Commands.{DoesCommand, LabStep}
use Rattle.lab_core.specs.Moments.{StandForLab, IsLabAt, IsLabOfImage, AllStandFor, IsLengthAt}
use Rattle.lab_core.specs.Obey.{Doing, Shuts, Start, start_of}
use Rattle.lab_core.specs.Compaction.{IsCompacted, IsPlaced, moves, stays}
use Rattle.lab_core.specs.Opening.{OpenSteps, has_change}
use Rattle.lab_core.specs.Recovery.{Opens}
use Rattle.lab_core.specs.Sessions.{OpenSwap, Session, Closed, Open, Setting, After, Terms}
use Rattle.lab_core.proofs.OuterSteps.{no_start}
use Rattle.lab_core.proofs.Composing.{standing_length}
use Rattle.lab_top.specs.Pieces.{Piece, ButForReply, HasLed, HasOpened, IsDone, MovesDue, OpensTo, StepsFrom, FirstLab, ImagesAfter, is_closed, is_early, leaves_one, steps_of}
use Rattle.lab_top.specs.Answering.{Does, WasOpened, piece_of}
use Rattle.lab_top.proofs.Compact.{compact_after, compacted_quiet}

abbrev pub AsRead : List Event → Type 0
AsRead trace = ArePossible trace (disk A trace).reads (disk B trace).reads

-- what holds of what is told
pub all_some : {X : Type 0} {P : X → Type 0} (o : Option X) → ((x : X) → P x) → IfSome o P
all_some None f = tt
all_some (Some x) f = f x

-- A CONTROLLER THAT STANDS
pub standing_all : (trace : List Event) (c : Control) → Stands the_texts trace c.journal c.lab → AllStandFor trace c.lab
standing_all trace c s a b possible = record { records = s.records; read = (on_image trace (side_of c.journal) s.records s.at.opened a b possible).reads; lab_of = s.lab_of }

pub standing_lab : (trace : List Event) (c : Control) → Stands the_texts trace c.journal c.lab → IsLabAt trace c.lab
standing_lab trace c s = standing_all trace c s _ _ (reads_possible trace (side_of c.journal) s.records s.at.opened)

-- THE LENGTH where the sides stand for a lab
pub lab_length : (trace : List Event) (s : LabState) → IsLabAt trace s → (n : ℕ) × IsLengthAt trace n
lab_length trace s at = (journal_length (disk A trace).reads (disk B trace).reads at.records, record { records = at.records; read = at.read; is = refl })

-- A PLANT THAT WAS STARTED AGAIN with images
pub restarted_lab : (trace : List Event) (a b : List ℕ) (s : LabState) → StandForLab a b s → IsLabAt (trace ++ Restarted a b ∷ []) s
restarted_lab trace a b s stand =
    let reads = restarted_reads trace a b in
    subst (λ l. StandForLab l (disk B (trace ++ Restarted a b ∷ [])).reads s) (sym reads.0) (subst (λ l. StandForLab a l s) (sym reads.1) stand)

pub has_started : (events : List Event) → EndsRestarted events → has_restart events ≡ true
has_started events ends = shows is_restart events ends.front (Restarted ends.a ends.b ∷ []) false true ends.is (no_start ends.front ends.once) refl

-- WHETHER IT STOPPED EARLY
pub not_early : (from : Session) (opening : List Event) → has_restart opening ≡ false → (is_closed from && (has_restart opening && not (are_synced opening))) ≡ false
not_early Closed opening none = ap (λ b. b && not (are_synced opening)) none
not_early (Open opens) opening none = refl

pub still_synced : (steps more : List Event) → are_synced steps ≡ true → are_synced (steps ++ more) ≡ true
still_synced steps more is i =
    (list_any-append (is_sync_of A) steps more ∙ ap (λ b. b || list_any (is_sync_of A) more) (and_first (list_any (is_sync_of A) steps) (list_any (is_sync_of B) steps) is)) i
    && (list_any-append (is_sync_of B) steps more ∙ ap (λ b. b || list_any (is_sync_of B) more) (and_rest (list_any (is_sync_of A) steps) (list_any (is_sync_of B) steps) is)) i

pub late_enough : (opening : List Event) → are_synced opening ≡ true → (true && (has_restart opening && not (are_synced opening))) ≡ false
late_enough opening synced = ap (λ b. has_restart opening && not b) synced ∙ and-false (has_restart opening)

abbrev pub after_of : Option Reply → LabState → Session → After
after_of reply lab session = record { reply = reply; lab = lab; session = session }

-- WHERE NO REPLY IS WRITTEN the command is done all the same
pub told_so : (reply : Option Reply) (to : Session) → ButForReply reply to reply to []
told_so None to = inl refl
told_so (Some reply) to = (refl, refl, refl)

silent_told : (reply told : Option Reply) (to session : Session) (behind : List Event) → ButForReply reply to told session behind → ButForReply None Closed told session behind
silent_told None told to session behind is = is
silent_told (Some reply) told to session behind is = inl is.2

-- a first lab is that of an image
pub first_image : (trace : List Event) → AsRead trace → (early : Bool) (s : LabState) → FirstLab early trace s → IsLabOfImage trace s
first_image trace readable true s image = image
first_image trace readable false s at = record { a = (disk A trace).reads; b = (disk B trace).reads; possible = readable; stand = at }

module _ (terms : Terms) (trace : List Event) (command : Command) (mark : Faults) (from to : Session) (opening own : List Event) (reply : Option Reply) (readable : AsRead trace) where
  abbrev answered_piece : Piece
  answered_piece = piece_of command mark from to opening own reply

  abbrev silent_piece : Piece
  silent_piece = piece_of command mark from Closed opening own None

  silent_steps : (s after : LabState) → StepsFrom terms trace answered_piece s after → StepsFrom terms trace silent_piece s after
  silent_steps s after x =
      record { length = x.length; length_is = x.length_is; told = x.told; session = x.session; behind = x.behind; is_told = silent_told reply x.told to x.session x.behind x.is_told; step = x.step }

  silent_images : (one : Bool) (first last : LabState) → IsLabOfImage trace first → StepsFrom terms trace answered_piece first last → ImagesAfter terms one trace answered_piece last → ImagesAfter terms false trace silent_piece last
  silent_images true first last image steps all a b possible = (first, last, image, all a b possible, silent_steps first last steps)
  silent_images false first last image steps images a b possible = let x = images a b possible in (x.0, x.1, x.2, x.3, silent_steps x.0 x.1 x.4)

  pub silent_done : IsDone terms trace answered_piece → IsDone terms trace silent_piece
  silent_done done =
      let l = done.leads in
      record {
        leads = record { first = l.first; last = l.last; before = l.before; behind = l.behind; steps = silent_steps l.first l.last l.steps };
        opened = λ opens.
            let to = done.opened (record { no_drill = opens.no_drill; closed = opens.closed; no_miss = opens.no_miss; no_restart = opens.no_restart; went_on = ⊎_elim (λ some. absurd (cc some)) (λ other. inr other) opens.went_on }) in
            (to.0, record { opens = to.1.opens; images = to.1.images; sound = to.1.sound });
        images = silent_images (leaves_one to reply) l.first l.last (first_image trace readable (is_early answered_piece) l.first l.before) l.steps done.images;
        sound = done.sound;
      }

-- A PIECE IS DONE, over the trace as it is after it
module _ (terms : Terms) (trace : List Event) (piece : Piece) where
  abbrev pub ImagesAt : Bool → List Event → LabState → Type 0
  ImagesAt true now last = AllStandFor now last
  ImagesAt false now last = (a b : List ℕ) → ArePossible now a b → (s : LabState) × (after : LabState) × IsLabOfImage trace s × StandForLab a b after × StepsFrom terms trace piece s after

  abbrev Comes : List Event → Type 0
  Comes now = (first last : LabState) → FirstLab (is_early piece) trace first → StepsFrom terms trace piece first last → (HasOpened piece → (mid : LabState) × OpensTo trace piece first mid) → IsSound the_texts now → IsLabAt now last
      → ImagesAt (leaves_one piece.to piece.reply) now last → IsDone terms trace piece

  images_after : (one : Bool) (last : LabState) → ImagesAt one (trace ++ steps_of piece) last → ImagesAfter terms one trace piece last
  images_after true last images = images
  images_after false last images = images

  pub done_at : (now : List Event) → trace ++ steps_of piece ≡ now → Comes now
  done_at now is = subst Comes is (λ first last from steps opens sound at images. record {
    leads = record { first = first; last = last; before = from; behind = at; steps = steps };
    opened = opens;
    images = images_after (leaves_one piece.to piece.reply) last images;
    sound = sound;
  })

-- A COMMAND THAT IS NO DRILL
pub step_of : (terms : Terms) (trace : List Event) (set : Setting) (s : LabState) (from : Session) (command : Command) (opening own : List Event) (after : After) → drill_of command ≡ None
    → StepOf None (DoesCommand terms.rule command (Some (trace ++ opening)) set) terms s from opening own after → LabStep terms (Some trace) set s from command opening own after
step_of terms trace set s from command opening own after no_drill step = subst (λ (d : Option Drill). StepOf d (DoesCommand terms.rule command (Some (trace ++ opening)) set) terms s from opening own after) (sym no_drill) step

-- WHAT AN OPEN CONTROLLER DOES OF ITS OWN
module _ (terms : Terms) (mark : Faults) (before : List Event) (from : Session) (opening : List Event) (c : Control) (swaps : List OpenSwap) (w : WasOpened before from opening c swaps) (command : Command) (no_drill : drill_of command ≡ None) where
  abbrev start : Start
  start = start_of mark.devices c swaps

  abbrev Done : Doing
  Done trace own after = DoesCommand terms.rule command trace start.set swaps c.lab own after

  abbrev IsDoneOf : List Event → Option Reply → LabState → Session → Type 0
  IsDoneOf own reply lab session = Done (Some (before ++ opening)) own (after_of reply lab session)

  abbrev of : List Event → Session → Option Reply → Piece
  of own to reply = piece_of command mark from to opening own reply

  abbrev Steps : List Event → Session → Option Reply → LabState → Type 0
  Steps own to reply lab = StepsFrom terms before (of own to reply) w.start lab

  own_steps : (own : List Event) (to : Session) (reply : Option Reply) (lab : LabState) (told : Option Reply) (session : Session) (behind : List Event) → ButForReply reply to told session behind → IsDoneOf (own ++ behind) told lab session
      → Steps own to reply lab
  own_steps own to reply lab told session behind is done = record {
    length = length_of c.journal;
    length_is = standing_length (before ++ opening) c w.stands;
    told = told;
    session = session;
    behind = behind;
    is_told = is;
    step = w.step terms (record { length = length_of c.journal; limit = 2 ^ 32; devices = mark.devices }) command (own ++ behind) (after_of told lab session) no_drill
        (subst (λ n. DoesCommand terms.rule command (Some (before ++ opening)) (record { length = length_of c.journal; limit = n; devices = mark.devices }) swaps c.lab (own ++ behind) (after_of told lab session)) w.limit done);
  }

  -- as its reply says
  so_steps : (own : List Event) (to : Session) (reply : Option Reply) (lab : LabState) → IsDoneOf own reply lab to → Steps own to reply lab
  so_steps own to reply lab done = own_steps own to reply lab reply to [] (told_so reply to) (subst (λ l. IsDoneOf l reply lab to) (sym (append-nil own)) done)

  left_steps : (own : List Event) (reply : Reply) (lab : LabState) → IsDoneOf (own ++ []) (Some reply) lab Closed → Steps own Closed (Some reply) lab
  left_steps own reply lab done = own_steps own Closed (Some reply) lab (Some reply) Closed [] (told_so (Some reply) Closed) done

  first_lab : FirstLab (is_early (of [] Closed None)) before w.start
  first_lab = subst (λ b. FirstLab b before w.start) (sym (not_early from opening w.no_restart)) w.first

  from_there : IsLabOfImage before w.start
  from_there = record { a = (disk A before).reads; b = (disk B before).reads; possible = w.readable; stand = w.first }

  -- after its steps, over any trace and over a sound one
  done_after : (own : List Event) (to : Session) (reply : Option Reply) (now : List Event) → before ++ (opening ++ own) ≡ now → (lab : LabState) → Steps own to reply lab → IsSound the_texts now → IsLabAt now lab
      → ImagesAt terms before (of own to reply) (leaves_one to reply) now lab → IsSound the_texts before → IsDone terms before (of own to reply)
  done_after own to reply now is lab steps sound at images first =
      done_at terms before (of own to reply) now is w.start lab first_lab steps (λ opens. (c.lab, record { opens = w.opens opens.closed; images = standing_all (before ++ opening) c w.stands; sound = w.sound first })) sound at images

  does_after : (own : List Event) (to : Session) (reply : Option Reply) (lab : LabState) → Steps own to reply lab → (is_closed to ≡ false → IsLabAt (before ++ (opening ++ own)) lab) → (IsSound the_texts before → IsDone terms before (of own to reply))
      → Does terms before (of own to reply)
  does_after own to reply lab steps at done = record {
    steps = λ s there. (lab, subst (λ u. StepsFrom terms before (of own to reply) u lab) (stood_once the_texts _ _ w.start s texts_once w.first there) steps);
    leads = λ open_now. record { first = w.start; last = lab; before = first_lab; behind = at open_now; steps = steps };
    done = done;
  }

  module _ (own : List Event) (sound : IsSound the_texts (before ++ opening) → IsSound the_texts ((before ++ opening) ++ own)) where
    abbrev now : List Event
    now = (before ++ opening) ++ own

    there : before ++ (opening ++ own) ≡ now
    there = sym (append_assoc before opening own)

    -- it goes on
    pub own_answered : (new : Control) (to : List OpenSwap) (reply : Reply) → IsDoneOf own (Some reply) new.lab (Open to) → Stands the_texts now new.journal new.lab → Does terms before (of own (Open to) (Some reply))
    own_answered new to reply done stands =
        let steps = so_steps own (Open to) (Some reply) new.lab done in
        does_after own (Open to) (Some reply) new.lab steps (λ open_now. subst (λ l. IsLabAt l new.lab) (sym there) (standing_lab now new stands))
        (λ first. done_after own (Open to) (Some reply) now there new.lab steps (sound (w.sound first)) (standing_lab now new stands) (standing_all now new stands) first)

    -- memory was wanting
    pub own_unmade : (new : Control) → IsDoneOf own None new.lab Closed → Stands the_texts now new.journal new.lab → Does terms before (of own Closed None)
    own_unmade new done stands =
        let steps = so_steps own Closed None new.lab done in
        does_after own Closed None new.lab steps (λ open_now. absurd (cc open_now))
        (λ first. done_after own Closed None now there new.lab steps (sound (w.sound first)) (standing_lab now new stands) (λ a b at. (w.start, new.lab, from_there, standing_all now new stands a b at, steps)) first)

    -- a reply closes it
    pub own_closed : (reply : Reply) → leaves_one Closed (Some reply) ≡ false → Shuts Done (Some (before ++ opening)) own reply (λ a b. []) → AsRead now → Does terms before (of own Closed (Some reply))
    own_closed reply other leaves readable =
        does_after own Closed (Some reply) leaves.lab (left_steps own reply leaves.lab (leaves.done [] [])) (λ open_now. absurd (cc open_now))
        (λ first.
        let image = leaves.images (w.sound first) in
        let x = image _ _ readable in
        done_after own Closed (Some reply) now there x.0 (left_steps own reply x.0 x.2) (sound (w.sound first)) x.1
        (subst (λ b. ImagesAt terms before (of own Closed (Some reply)) b now x.0) (sym other) (λ a b at. let y = image a b at in (w.start, y.0, from_there, y.1, left_steps own reply y.0 y.2))) first)

    module _ (leaves : Shuts Done (Some (before ++ opening)) own replies.Stopped (λ a b. Restarted a b ∷ [])) where
      -- the plant stopped, and is started again with an image
      pub own_stopped : (a b : List ℕ) → ArePossible now a b → Does terms before (of (own ++ Restarted a b ∷ []) Closed (Some replies.Stopped))
      own_stopped a b possible =
          let more = own ++ Restarted a b ∷ [] in
          does_after more Closed (Some replies.Stopped) leaves.lab (so_steps more Closed (Some replies.Stopped) leaves.lab (leaves.done a b)) (λ open_now. absurd (cc open_now))
          (λ first.
          let x = leaves.images (w.sound first) a b possible in
          done_after more Closed (Some replies.Stopped) (now ++ Restarted a b ∷ []) (sym (append_assoc (before ++ opening) own (Restarted a b ∷ []) ∙ append_assoc before opening more)) x.0
          (so_steps more Closed (Some replies.Stopped) x.0 x.2) (restarted the_texts now a b possible (sound (w.sound first))).0 (restarted_lab now a b x.0 x.1) (restarted_stand the_texts now a b x.0 x.1) first)

      -- and isn't
      stays_steps : (a b : List ℕ) (lab : LabState) → IsDoneOf (own ++ Restarted a b ∷ []) (Some replies.Stopped) lab Closed → Steps own Closed None lab
      stays_steps a b lab done = own_steps own Closed None lab (Some replies.Stopped) Closed (Restarted a b ∷ []) (inr (a, b, refl)) done

      pub own_stays : AsRead now → Does terms before (of own Closed None)
      own_stays readable =
          does_after own Closed None leaves.lab (stays_steps [] [] leaves.lab (leaves.done [] [])) (λ open_now. absurd (cc open_now))
          (λ first.
          let image = leaves.images (w.sound first) in
          let x = image _ _ readable in
          done_after own Closed None now there x.0 (stays_steps _ _ x.0 x.2) (sound (w.sound first)) x.1 (λ a b at. let y = image a b at in (w.start, y.0, from_there, y.1, stays_steps a b y.0 y.2)) first)

-- A CONTROLLER THAT WAS OPEN, or is opened
pub was_open : (trace : List Event) (c : Control) (swaps : List OpenSwap) → Stands the_texts trace c.journal c.lab → limit_of c.journal ≡ 2 ^ 32 → WasOpened trace (Open swaps) [] c swaps
was_open trace c swaps stands limit = record {
  start = c.lab;
  readable = reads_possible trace (side_of c.journal) stands.records stands.at.opened;
  first = standing_lab trace c stands;
  no_restart = refl;
  stands = subst (λ l. Stands the_texts l c.journal c.lab) (sym (append-nil trace)) stands;
  sound = λ sound. subst (λ l. IsSound the_texts l) (sym (append-nil trace)) sound;
  limit = limit;
  opens = λ closed. absurd (cc closed);
  step = λ terms set command own after no_drill done. step_of terms trace set c.lab (Open swaps) command [] own after no_drill (refl, done);
}

module _ (trace reading behind : List Event) (c : Control) (o : OpenSteps trace reading behind (2 ^ 32) (Ok c)) where
  abbrev opens_so : Opens o.ends.settled.start (reading ++ behind) c.lab
  opens_so =
      let e = o.ends in
      let s = e.settled in
      record {
        reading = reading;
        moving = e.moving;
        shifting = e.shifting;
        is = ap (λ l. reading ++ l) e.parts;
        reads = o.reads.no_command;
        outcomes = s.outcomes;
        settles = s.settles;
        shifts = e.shifts;
        no_miss = shows is_miss (reading ++ behind) reading behind false false refl s.read.no_miss (shows is_miss behind e.moving e.shifting false false e.parts (settles_show _ _ _ _ _ s.settles).miss_is (compacted_quiet e.compacts));
        no_outer = shows is_outer (reading ++ behind) reading behind false false refl o.reads.no_outer o.no_outer;
      }

  opened_at : IsLabAt trace o.ends.settled.start
  opened_at = (stood_alike the_texts _ _ _ _ o.ends.settled.start o.reads.alike).0 o.ends.settled.read.lab

  -- the journal was moved where it was to move
  due_by : {length : ℕ} {side : Side} {epoch : ℕ} → IsPlaced trace (trace ++ (reading ++ o.ends.moving)) length side epoch → IsCompacted (trace ++ (reading ++ o.ends.moving)) o.ends.shifting length side epoch c.lab
      → disk side ((trace ++ (reading ++ o.ends.moving)) ++ o.ends.shifting) ≡ disk side (trace ++ (reading ++ o.ends.moving)) → MovesDue trace (reading ++ o.ends.moving) o.ends.shifting c.lab
  due_by placed (stays not none) aside changed = absurd (cc (ap has_change none, changed))
  due_by placed (moves due quiet moved) aside changed = record { length = _; side = _; epoch = _; placed = placed; to_move = due; moves = o.ends.shifting; behind = []; are = sym (append-nil o.ends.shifting); aside = aside; nothing = refl }

  -- from whatever lab the sides stood for
  pub has_led : Stands the_texts (trace ++ (reading ++ behind)) c.journal c.lab → (s : LabState) → IsLabAt trace s → HasLed trace (reading ++ behind) s
  has_led stands s at = subst (λ u. HasLed trace (reading ++ behind) u) (stood_once the_texts _ _ o.ends.settled.start s texts_once opened_at at) (record {
    mid = c.lab;
    opens = opens_so;
    makes = o.reads.changes;
    moves = due_by o.ends.settled.placed o.ends.compacts o.ends.aside;
    compact = compact_after trace reading behind c o.ends (standing_lab (trace ++ (reading ++ behind)) c stands);
  })

  pub is_opened : Stands the_texts (trace ++ (reading ++ behind)) c.journal c.lab → limit_of c.journal ≡ 2 ^ 32 → AsRead trace → WasOpened trace Closed (reading ++ behind) c []
  is_opened stands limit readable = record {
    start = o.ends.settled.start;
    readable = readable;
    first = opened_at;
    no_restart = no_start (reading ++ behind) opens_so.no_outer;
    stands = stands;
    sound = o.sound;
    limit = limit;
    opens = λ closed. opens_so;
    step = λ terms set command own after no_drill done. step_of terms trace set o.ends.settled.start Closed command (reading ++ behind) own after no_drill (opened c.lab opens_so done);
  }
