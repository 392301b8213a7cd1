-- A folder as it tells itself.
use Rattle.std.specs.Prelude.{◌≡◌, ◌⊎◌, ℕ, Bool, true, false, List, [], ◌∷◌, ◌++◌, length, Option, Some, None, option_map, Result, Ok, Err}
use Rattle.plant.specs.declared.device.Answer.{Answer}
use Rattle.plant.specs.declared.device.DeviceOp.{DeviceOp}
use Rattle.plant.specs.declared.device.Fault.{Fault}
use Rattle.plant.specs.declared.device.Fault.TheVariants.{Failed, Stopped}
use Rattle.plant.specs.declared.moment.Faults.{Faults}
use Rattle.plant.specs.Events.{Event, Did}
use Rattle.plant.specs.Told.{Told}

-- a text that the tables had, and the length of the trace when they last had it
pub record Old : Type 0 where
  pub text : List ℕ
  pub at : ℕ

-- WHAT A FOLDER HOLDS that tells it: all that happened to its sides and devices, whichever program did it; the text of the tables, as it
-- reads; and the older texts that a loss of power may leave in its place, the newest first
pub record Held : Type 0 where
  pub past : Told
  pub text : List ℕ
  pub older : List Old

-- the past alone
abbrev pub past_of : Option Held → Option Told
past_of held = option_map (λ (h : Held). h.past) held

-- some steps more, the text as it was
abbrev pub more : Held → List Event → Held
more h steps = record h { past = record h.past { trace = h.past.trace ++ steps } }

abbrev pub with_steps : Option Held → List Event → Option Held
with_steps None steps = None
with_steps (Some h) steps = Some (more h steps)

-- the moment is marked
abbrev pub with_mark : Option Held → Faults → Option Held
with_mark None now = None
with_mark (Some h) now = Some (record h { past = record h.past { marks = h.past.marks ++ record { at = length h.past.trace; faults = now } ∷ [] } })

-- the text is made durable
abbrev pub made_sure : Option Held → Option Held
made_sure None = None
made_sure (Some h) = Some (record h { older = [] })

-- it is durable
abbrev pub IsDurable : Held → Type 0
IsDurable h = h.older ≡ []

-- another text, which is not durable, in the place of the old one; or not
abbrev pub put_text : Bool → List ℕ → Held → Held
put_text true text h = record h { text = text; older = record { text = h.text; at = length h.past.trace } ∷ h.older }
put_text false text h = h

-- WHAT A COMMAND LEAVES whose text is put in the place of the old one. Where that failed, or the folder stopped in it, the old text is there
-- or the new one, and the command was applied by that
abbrev pub Put : DeviceOp → Answer → List ℕ → Result (Unit {0}) Fault → Held → Held → Type 0
Put op answer text (Ok done) h new = new ≡ more (put_text true text h) (Did op true (Ok answer) ∷ [])
Put op answer text (Err Failed) h new = (applied : Bool) × (new ≡ more (put_text applied text h) (Did op applied (Err Failed) ∷ []))
Put op answer text (Err Stopped) h new = (new ≡ h) ⊎ ((applied : Bool) × (new ≡ more (put_text applied text h) (Did op applied (Err Stopped) ∷ [])))

-- the text is made durable, or it isn't
abbrev pub sure_if : Bool → Held → Held
sure_if true h = record h { older = [] }
sure_if false h = h

-- the old text may have been made durable first
abbrev pub Sent : DeviceOp → Answer → List ℕ → Bool → Result (Unit {0}) Fault → Held → Held → Type 0
Sent op answer text true result h new = (result ≡ Err Stopped) × (new ≡ h)
Sent op answer text false result h new = (sure : Bool) × Put op answer text result (sure_if sure h) new

abbrev pub IsSent : DeviceOp → Answer → List ℕ → Bool → Result (Unit {0}) Fault → Option Held → Option Held → Type 0
IsSent op answer text stopped result None new = new ≡ None
IsSent op answer text stopped result (Some h) new = (now : Held) × (new ≡ Some now) × Sent op answer text stopped result h now
