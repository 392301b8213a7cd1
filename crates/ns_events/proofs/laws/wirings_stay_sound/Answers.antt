use Rattle.ns_events.proofs.Behind.{sound_behind}
use Rattle.ns_events.proofs.laws.wirings_stay_sound.Goals as goal

pub returns : goal.returns
returns c = sound_behind
