-- THE WIRING AFTER A PLAY: the events that were answered `in` led to it, one after another.
use Rattle.std.specs.Prelude.{◌≡◌, ℕ, false, List, [], ◌∷◌, ◌++◌, length, Option, Some, None, Ok}
use Rattle.virt_topo.specs.declared.experiment.Experiment.{Experiment}
use Rattle.virt_topo.specs.declared.wiring.Wiring.{Wiring}
use Rattle.records_model.specs.Labs.{HasText, LabState, find}
use Rattle.lab_state.specs.Texts.{the_texts}
use Rattle.ns_events.specs.declared.event.Event.{Event as LinkEvent}
use Rattle.ns_events.specs.Changes.{IsApplied}
use Rattle.ns_events.specs.Pipes.{lacks_shape}
use Rattle.ns_events.specs.Schedules.{IsSchedule}
use Rattle.ns_text.specs.Wirings.{ScriptOf}
use Rattle.ns_text.specs.declared.read.Script.{Script}
use Rattle.script_text.specs.Replies.{played_of}
use Rattle.script_text.specs.declared.reply.Reply.{Reply}

-- after one event, whose link has its shape: the wiring whose canonical text is that of the one that the event leaves
pub record IsWiredBy (event : LinkEvent) (text before after : Wiring) : Type 0 where
  pub shaped : lacks_shape event.link text before ≡ false
  pub left : Wiring
  pub applied : IsApplied event text before left
  pub as_text : the_texts.top after ≡ the_texts.top left
  pub has_text : HasText the_texts after

-- after some of them
abbrev pub AreWiredBy : Wiring → List LinkEvent → Wiring → Wiring → Type 0
AreWiredBy text [] before after = after ≡ before
AreWiredBy text (event ∷ events) before after = (mid : Wiring) × IsWiredBy event text before mid × AreWiredBy text events mid after

-- the very wirings that they leave, one after another: so it is where wirings have texts and events keep the limits
abbrev pub AreApplied : Wiring → List LinkEvent → Wiring → Wiring → Type 0
AreApplied text [] before after = after ≡ before
AreApplied text (event ∷ events) before after = (mid : Wiring) × IsApplied event text before mid × AreApplied text events mid after

-- THE REPLY TO A PLAY of that text counts the first of its due events, all where no reply ended it; and from the experiment's wiring in that lab they led to
-- the wiring of one that is so
pub record PlayWires (Is : Experiment → Type 0) (s : LabState) (exp : List ℕ) (from until : ℕ) (text : List ℕ) (reply : Reply) : Type 0 where
  pub script : Script
  pub means : ScriptOf text (Ok script)
  pub played : List LinkEvent
  pub left : List LinkEvent
  pub due : IsSchedule from until script.events (played ++ left)
  pub ended : Option Reply
  pub reply_is : reply ≡ played_of exp (length played) ended
  pub all : ended ≡ None → left ≡ []
  pub before : Experiment
  pub was : find exp s.experiments ≡ Some before
  pub after : Experiment
  pub is : Is after
  pub behind : AreWiredBy script.wiring played before.wiring after.wiring

-- it is the experiment of that name there
abbrev pub found_there : LabState → List ℕ → Experiment → Type 0
found_there u exp = λ e. find exp u.experiments ≡ Some e
