-- The state after the calls of the disk.
use Rattle.std.specs.Prelude.{◌&&◌, Bool, true, false, [], ◌∷◌, Option, Some, None, Result, Ok, Err, if◌then◌else◌}
use Rattle.plant.specs.Events.{Event, Missed}
use Rattle.plant.specs.declared.device.Fault.{Fault}
use Rattle.plant.specs.declared.device.Fault.TheVariants.{Failed, Stopped}
use Rattle.plant.specs.declared.drill.Pick.{Pick}
use Rattle.plant.specs.declared.drill.Pick.TheVariants.{Nothing}
use Rattle.plant.specs.declared.step.Side.{Side}
use Rattle.plant_mem.specs.DiskPlans.{counted_all, fails_next, stops_next, stop_counted, is_done}
use Rattle.plant_mem.specs.Held.{Held, with_events, effect_if, one_more, halted}
use Rattle.plant_mem.specs.declared.call_end.CallEnd.{CallEnd}
use Rattle.plant_mem.specs.declared.call_end.CallEnd.TheVariants.{Done, Fails, Stops, AlreadyStopped}

-- how a call ends at which the plant stops so, or that fails so; a stop wins
abbrev pub met : Option Pick → Bool → CallEnd
met (Some pick) fails = Stops pick
met None true = Fails
met None false = Done

-- HOW A WRITE, A SYNC OR A CUT ENDS, by whether there is room for it
abbrev pub call_end : Bool → Held → CallEnd
call_end room h = if h.stopped then AlreadyStopped else (if room then met (stops_next h.stop) (fails_next h.disk_plans) else Stops Nothing)

-- HOW A CALL THAT READS ENDS, by whether there is room for a step
abbrev pub read_end : Bool → Held → CallEnd
read_end room h = if h.stopped then AlreadyStopped else (if fails_next h.disk_plans && room then Fails else Done)

-- it is answered with that, where it is done
abbrev pub answered : {T : Type 0} → CallEnd → T → Result T Fault
answered Done value = Ok value
answered Fails value = Err Failed
answered (Stops pick) value = Err Stopped
answered AlreadyStopped value = Err Stopped

abbrev pub has_effect : CallEnd → Bool
has_effect Done = true
has_effect Fails = false
has_effect (Stops pick) = is_done pick
has_effect AlreadyStopped = false

-- a failure is a step and is counted; a stop is by its pick
abbrev pub ended : CallEnd → Side → Held → Held
ended Done side h = h
ended Fails side h = record (with_events (Missed side ∷ []) h) { faults = record h.faults { disk = one_more h.faults.disk } }
ended (Stops pick) side h = halted pick h
ended AlreadyStopped side h = h

-- a write, a sync or a cut is counted in what waits where there is room for it, a call that reads always; a stopped plant counts none
abbrev pub counted_call : Bool → Held → Held
counted_call room h = if h.stopped then h else (if room then record h { disk_plans = counted_all h.disk_plans; stop = stop_counted h.stop } else h)

abbrev pub counted_read : Held → Held
counted_read h = if h.stopped then h else record h { disk_plans = counted_all h.disk_plans }

-- WHAT A WRITE, A SYNC OR A CUT LEAVES: it is counted, has its effect or not, and ends
abbrev pub after_call : Bool → Side → Event → Held → Held
after_call room side effect h = ended (call_end room h) side (with_events (effect_if (has_effect (call_end room h)) effect) (counted_call room h))

-- WHAT A CALL LEAVES THAT READS
abbrev pub after_read : Bool → Side → Held → Held
after_read room side h = ended (read_end room h) side (counted_read h)
