-- COURSES AS LISTS: what a done course is, and where one is cut.
use Rattle.std.specs.Prelude.{◌≡◌, ◌≢◌, ◌⊎◌, ◌+◌, ◌<◌, ℕ, true, false, List, [], ◌∷◌, ◌++◌, length, map, Result, Ok, Err}
use Rattle.lab_base.specs.declared.boot.Boot.{Boot}
use Rattle.lab_base.specs.declared.boot.Boot.TheVariants.{Booting, IsUp}
use Rattle.plant.specs.declared.device.Answer.{Answer}
use Rattle.plant.specs.declared.device.Answer.TheVariants.{Done, State}
use Rattle.plant.specs.declared.device.Fault.{Fault}
use Rattle.plant.specs.declared.device.Fault.TheVariants.{Failed, Stopped}
use Rattle.plant.specs.declared.device.DeviceOp.{DeviceOp}
use Rattle.plant.specs.declared.device.DeviceOp.TheVariants.{Boot as BootIt, Poll}
use Rattle.lab_model.specs.Courses.{Plan, Trouble, Device, Late, Unlawful, device, lawful}
use Rattle.lab_model.specs.Leavings.{Sent}

-- these commands in order, each acknowledged
abbrev pub AreAcknowledged : List DeviceOp → Sent → Type 0
AreAcknowledged [] [] = Unit {0}
AreAcknowledged [] (c ∷ cs) = ⊥
AreAcknowledged (op ∷ ops) [] = ⊥
AreAcknowledged (op ∷ ops) (c ∷ cs) = (c.0 ≡ op) × ((answer : Answer) × (c.1 ≡ Ok answer)) × AreAcknowledged ops cs

-- polls of a node that are answered with these states
abbrev pub polls : List ℕ → List Boot → Sent
polls node states = map (λ state. (Poll node, Ok (State state))) states

-- while a node boots: each state may follow the one before it, and none is ISUP
abbrev pub AreWaited : Boot → List Boot → Type 0
AreWaited from [] = Unit {0}
AreWaited from (state ∷ states) = (lawful from state ≡ true) × (state ≢ IsUp) × AreWaited state states

abbrev pub last_state : Boot → List Boot → Boot
last_state from [] = from
last_state from (state ∷ states) = last_state state states

-- from that state on, after n polls: the polls end at the first ISUP, and are 64 in all at most
pub record IsPolledUp (node : List ℕ) (from : Boot) (n : ℕ) (cs : Sent) : Type 0 where
  pub states : List Boot
  pub waited : AreWaited from states
  pub up : lawful (last_state from states) IsUp ≡ true
  pub few : n + length states < 64
  pub is : cs ≡ polls node states ++ (Poll node, Ok (State IsUp)) ∷ []

-- the node's Boot, acknowledged, and its polls until it is up
abbrev pub ComesUp : List ℕ → Sent → Type 0
ComesUp node cs = (answer : Answer) × (polled : Sent) × (cs ≡ (BootIt node, Ok answer) ∷ polled) × IsPolledUp node Booting 0 polled

-- these nodes come up, one after another
abbrev pub ComeUp : List (List ℕ) → Sent → Type 0
ComeUp [] cs = cs ≡ []
ComeUp (node ∷ nodes) cs = (own : Sent) × (rest : Sent) × (cs ≡ own ++ rest) × ComesUp node own × ComeUp nodes rest

-- the commands of a plan that go before its boots
abbrev pub ops_of : Plan → List DeviceOp
ops_of plan = plan.clear ++ plan.cable ++ plan.load

-- A DONE COURSE: the commands in order, each acknowledged, and then each node comes up. A plant acknowledges a command with Done, and a poll with a state.
abbrev pub IsDoneList : Plan → Sent → Type 0
IsDoneList plan cs = (acks : Sent) × (boots : Sent) × (cs ≡ acks ++ boots) × AreAcknowledged (ops_of plan) acks × ComeUp plan.boot boots

-- what a poll's answer is trouble by, in that state after n polls: it failed, or the pair of states is unlawful, or it is the 64th without ISUP
abbrev pub IsTrouble : List ℕ → Boot → ℕ → Result Answer Fault → Trouble → Type 0
IsTrouble node from n (Err Failed) what = what ≡ Device node
IsTrouble node from n (Err Stopped) what = ⊥
IsTrouble node from n (Ok Done) what = ⊥
IsTrouble node from n (Ok (State state)) what =
    ((lawful from state ≡ false) × (what ≡ Unlawful node from state))
    ⊎ ((lawful from state ≡ true) × (state ≢ IsUp) × (n + 1 ≡ 64) × (what ≡ Late node))

-- from that state on, after n polls: the polls are cut by that trouble
pub record ArePollsCut (node : List ℕ) (from : Boot) (n : ℕ) (cs : Sent) (what : Trouble) : Type 0 where
  pub states : List Boot
  pub waited : AreWaited from states
  pub few : n + length states < 64
  pub answer : Result Answer Fault
  pub trouble : IsTrouble node (last_state from states) (n + length states) answer what
  pub is : cs ≡ polls node states ++ (Poll node, answer) ∷ []

-- the node's Boot failed, or its polls are cut
abbrev pub IsBootCut : List ℕ → Sent → Trouble → Type 0
IsBootCut node cs what =
    ((cs ≡ (BootIt node, Err Failed) ∷ []) × (what ≡ Device node))
    ⊎ ((answer : Answer) × (polled : Sent) × (cs ≡ (BootIt node, Ok answer) ∷ polled) × ArePollsCut node Booting 0 polled what)

-- some of these nodes came up, and the boot of the next is cut
abbrev pub AreBootsCut : List (List ℕ) → Sent → Trouble → Type 0
AreBootsCut [] cs what = ⊥
AreBootsCut (node ∷ nodes) cs what =
    IsBootCut node cs what ⊎ ((own : Sent) × (rest : Sent) × (cs ≡ own ++ rest) × ComesUp node own × AreBootsCut nodes rest what)

-- some of these commands were acknowledged, and the next failed
abbrev pub AreOpsCut : List DeviceOp → Sent → Trouble → Type 0
AreOpsCut [] cs what = ⊥
AreOpsCut (op ∷ ops) [] what = ⊥
AreOpsCut (op ∷ ops) (c ∷ cs) what = (c.0 ≡ op)
    × (((c.1 ≡ Err Failed) × (cs ≡ []) × (what ≡ Device (device op))) ⊎ (((answer : Answer) × (c.1 ≡ Ok answer)) × AreOpsCut ops cs what))

-- A CUT COURSE: a command failed, or all are acknowledged and a boot is cut
abbrev pub IsCutList : Plan → Sent → Trouble → Type 0
IsCutList plan cs what = AreOpsCut (ops_of plan) cs what
    ⊎ ((acks : Sent) × (boots : Sent) × (cs ≡ acks ++ boots) × AreAcknowledged (ops_of plan) acks × AreBootsCut plan.boot boots what)
