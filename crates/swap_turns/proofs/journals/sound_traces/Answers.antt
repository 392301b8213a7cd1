use Rattle.swap_turns.proofs.Stood.{sound_stands, sound_not_bad, sound_follows, sound_room}
use Rattle.swap_turns.proofs.journals.sound_traces.Goals as goal

pub returns-clause-stands : goal.returns-clause-stands
returns-clause-stands c = λ t trace a b possible sound. sound_stands t trace a b possible sound

pub returns-clause-not_bad : goal.returns-clause-not_bad
returns-clause-not_bad c = λ t trace a b side at possible sound bad. sound_not_bad t trace a b side at possible sound bad

pub returns-clause-follows : goal.returns-clause-follows
returns-clause-follows c = λ t trace a b rs n possible sound can read stops. sound_follows t trace a b rs n possible sound can read stops

pub returns-clause-room : goal.returns-clause-room
returns-clause-room c = λ t trace a b rs s possible sound can read lab. sound_room t trace a b rs s possible sound can read lab
