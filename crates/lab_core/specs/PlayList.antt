-- LINK EVENTS IN TURN: the list that `play` is.
use Rattle.std.specs.Prelude.{ℕ, ◌+◌, Bool, true, false, ◌||◌, is_some, List, [], ◌∷◌, drop, length, Some, Result}
use Rattle.virt_topo.specs.declared.wiring.Wiring.{Wiring}
use Rattle.records_model.specs.Labs.{LabState}
use Rattle.recovery.specs.Due.{is_busy}
use Rattle.ns_events.specs.declared.event.Event.{Event as LinkEvent}
use Rattle.script_text.specs.Replies.{played_of}
use Rattle.script_text.specs.declared.reply.Reply.{Reply}
use Rattle.script_text.specs.declared.reply.Reply.TheVariants as replies
use Rattle.lab_tasks.specs.Tasks.{Task}
use Rattle.lab_core.specs.Sessions.{OpenSwap, names_of}
use Rattle.lab_core.specs.Lists.{Listing}
use Rattle.lab_tasks.specs.Playing.{JudgedEventAt, JudgedPlayAt, Playing}

module _ (exp : List ℕ) where
  -- what is judged of an event, and of the first of those that are left
  abbrev pub JudgedEvent : Wiring → LinkEvent → LabState → List OpenSwap → Result Task Reply → Type 0
  JudgedEvent text event s opens = JudgedEventAt exp text event s (is_busy (names_of opens) exp) (length opens)

  abbrev pub JudgedNext : Wiring → List LinkEvent → LabState → List OpenSwap → Result Task Reply → Type 0
  JudgedNext text [] s opens = λ judgement. ⊥
  JudgedNext text (event ∷ left) s opens = JudgedEvent text event s opens

  abbrev pub none_left : List LinkEvent → Bool
  none_left [] = true
  none_left (event ∷ left) = false

  -- up to the first that isn't answered `in`
  abbrev pub after_event : Playing → Reply → Playing
  after_event p (replies.In name) = record p { left = drop 1 p.left; played = p.played + 1 }
  after_event p reply = record p { left = drop 1 p.left; ended = Some reply }

  -- EVENTS IN TURN: the reply to the whole is `played E K`, with the reply that ended it
  abbrev pub events_in_turn : Listing Playing
  events_in_turn = record {
    is_over = λ p. is_some p.ended || none_left p.left;
    Judges = λ p set s opens. JudgedNext p.text p.left s opens;
    behind = after_event;
    whole = λ p. played_of exp p.played p.ended;
  }

-- beside these open swaps
abbrev pub JudgedPlay : LabState → List OpenSwap → List ℕ → ℕ → ℕ → List ℕ → Result Playing Reply → Type 0
JudgedPlay s opens exp from to text = JudgedPlayAt s (is_busy (names_of opens) exp) exp from to text
