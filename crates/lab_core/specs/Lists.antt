-- A LIST OF COMMANDS inside one command.
use Rattle.std.specs.Prelude.{◌≡◌, ◌+◌, ℕ, Bool, true, false, List, [], ◌++◌, Option, Some, None, Result, Ok, Err}
use Rattle.plant.specs.Events.{Event}
use Rattle.records_model.specs.Labs.{LabState}
use Rattle.swap_turns.specs.Lengths.{appended}
use Rattle.script_text.specs.declared.reply.Reply.{Reply}
use Rattle.script_text.specs.declared.reply.Reply.TheVariants as replies
use Rattle.lab_tasks.specs.Tasks.{Task}
use Rattle.lab_core.specs.LabSteps.{IsDoneBy, Replies, WantsMemory}
use Rattle.lab_core.specs.Moments.{IsLengthAfter}
use Rattle.lab_core.specs.Sessions.{OpenSwap, Setting, After, open_by, shut_by}

-- WHAT A LIST IS, by the places in it: whether nothing is left there; what is judged of the command that comes next, in a lab and beside open swaps, by the
-- journal's length and limit; the place after a reply to it; and the reply to the whole, where it ends there
pub record Listing (X : Type 0) : Type 1 where
  pub is_over : X → Bool
  pub Judges : X → Setting → LabState → List OpenSwap → Result Task Reply → Type 0
  pub behind : X → Reply → X
  pub whole : X → Reply

-- what does not change over it: the journal's length where it begins, its limit, and the count of device faults at which a swap of it is opened
pub record Ground : Type 0 where
  pub length : ℕ
  pub limit : ℕ
  pub devices : ℕ

abbrev pub set_at : Ground → ℕ → Setting
set_at base length = record { length = length; limit = base.limit; devices = base.devices }

-- the reply to the whole where the last command closes the controller, or stops: `stopped` stands alone
abbrev pub last_reply : {X : Type 0} → Listing X → X → Option Reply → Option Reply
last_reply l at None = None
last_reply l at (Some replies.Stopped) = Some replies.Stopped
last_reply l at (Some reply) = Some (l.whole (l.behind at reply))

module _ {X : Type 0} (l : Listing X) (base : Ground) (trace : Option (List Event)) where
  -- THE NEXT COMMAND, after these steps: judged in that lab, by the journal's length there, which is longer by the records that they append; and where the
  -- trace is told, it is as the sides read
  pub record DoesNext (front : List Event) (at : X) (s : LabState) (opens : List OpenSwap) (steps : List Event) (after : After) : Type 0 where
    pub more : l.is_over at ≡ false
    pub length : ℕ
    pub length_is : IsLengthAfter trace front base.limit length
    pub longer : length ≡ base.length + appended front
    pub done : IsDoneBy (l.Judges at (set_at base length) s opens) (set_at base length) s opens steps after

  -- SOME OF THEM ARE DONE, each answered and with the controller open after it: the steps, the place, the lab and the open swaps after them
  pub data Past (start : X) (s : LabState) (opens : List OpenSwap) : List Event → X → LabState → List OpenSwap → Type 0 where
    none : Past start s opens [] start s opens
    more : (front : List Event) (at : X) (mid : LabState) (between : List OpenSwap) → Past start s opens front at mid between
        → (steps : List Event) (reply : Reply) (lab : LabState) (to : List OpenSwap) → DoesNext front at mid between steps (open_by reply lab to)
        → Past start s opens (front ++ steps) (l.behind at reply) lab to

  -- THE WHOLE LIST, from that place: all are answered, or a reply ended it; or the last one closes the controller, or isn't answered; or memory is wanting
  -- between two
  pub data Lists (start : X) (s : LabState) (opens : List OpenSwap) (own : List Event) (after : After) : Type 0 where
    over : (at : X) (lab : LabState) (to : List OpenSwap) → Past start s opens own at lab to → l.is_over at ≡ true → after ≡ open_by (l.whole at) lab to → Lists start s opens own after
    broken : (front steps : List Event) (at : X) (mid : LabState) (between : List OpenSwap) (reply : Option Reply) (lab : LabState) → own ≡ front ++ steps → Past start s opens front at mid between
        → DoesNext front at mid between steps (shut_by reply lab) → after ≡ shut_by (last_reply l at reply) lab → Lists start s opens own after
    wanting : (at : X) (lab : LabState) (to : List OpenSwap) → Past start s opens own at lab to → after ≡ shut_by None lab → Lists start s opens own after

-- A COMMAND THAT IS A LIST, by what is judged of the whole: nothing refuses it, and it is done from the first place; or it is refused; or memory is
-- wanting before anything is done
pub data DoesList {X : Type 0} (l : Listing X) (JudgedList : Result X Reply → Type 0) (base : Ground) (trace : Option (List Event)) (s : LabState) (opens : List OpenSwap) (own : List Event) (after : After) : Type 0 where
  refused : (reply : Reply) → JudgedList (Err reply) → Replies s opens reply own after → DoesList l JudgedList base trace s opens own after
  listed : (start : X) → JudgedList (Ok start) → Lists l base trace start s opens own after → DoesList l JudgedList base trace s opens own after
  no_memory : WantsMemory s own after → DoesList l JudgedList base trace s opens own after

-- HOW MEMORY IS WANTING in a list: at a place that it came to, with those open swaps, and nothing of the next command is done; or before the first
pub data WantsInList {X : Type 0} (l : Listing X) (JudgedList : Result X Reply → Type 0) (base : Ground) (trace : Option (List Event)) (s : LabState) (opens : List OpenSwap) (own : List Event) (lab : LabState) (to : List OpenSwap) : Type 0 where
  undone : own ≡ [] → lab ≡ s → to ≡ opens → WantsInList l JudgedList base trace s opens own lab to
  between : (start at : X) → JudgedList (Ok start) → Past l base trace start s opens own at lab to → WantsInList l JudgedList base trace s opens own lab to
