use Rattle.std.proofs.Common.{◌≡◌, ap, ◌∙◌, subst, rules}
use Rattle.plant.specs.DiskCalls.{DiskCause}
use Rattle.plant.specs.Events.{Synced}
use Rattle.plant_mem.specs.CallEnds.{call_end, answered, after_call, has_effect}
use Rattle.plant_mem.specs.Held.{Held, held_of}
use Rattle.plant_mem.specs.Rooms.{KeepsRooms, can_sync, rooms_of}
use Rattle.plant_mem.proofs.Calls.{synced_steps, counted_faults}
use Rattle.plant_mem.proofs.Keeping.{written}
use Rattle.plant_mem.proofs.mem_plant.MemLabPlant.sync.Goals as goal

pub returns-clause-trace : goal.returns-clause-trace
returns-clause-trace c =
    let self = c.args.self.now in
    let room = can_sync self c.args.side in
    let h = held_of self in
    let answer : c.end.result ≡ answered (call_end room h) tt = search rules in
    let leaves : held_of c.end.new.self ≡ after_call room c.args.side (Synced c.args.side) h = search rules in
    synced_steps room c.args.side h (held_of c.end.new.self) c.end.result answer leaves

pub returns-clause-cause : goal.returns-clause-cause
returns-clause-cause c =
    let faults = ap (λ (h : Held). h.faults) c.sync_if.ensures.held ∙ ap (λ (h : Held). h.faults) c.count_call-call_end.ensures.held ∙ counted_faults c.can_sync-has_room.result (held_of c.args.self.now) in
    subst (λ before. DiskCause before c.end.new.self.faults c.end.result) faults c.end.ensures.cause

pub returns-clause-rooms : goal.returns-clause-rooms
returns-clause-rooms c =
    let self = c.args.self.now in
    let met : rooms_of c.count_call-call_end.new.self ≡ rooms_of self = search rules in
    let done : KeepsRooms 1 0 (rooms_of self) (rooms_of c.sync_if.new.self) = subst (λ r. KeepsRooms 1 0 r (rooms_of c.sync_if.new.self)) met c.sync_if.ensures.rooms in
    let effect : c.has_effect.result ≡ has_effect c.count_call-call_end.result = c.has_effect.ensures in
    written c.count_call-call_end.result 0 (rooms_of self) (rooms_of c.sync_if.new.self) (rooms_of c.end.new.self) done (λ none. c.sync_if.ensures.same (rw effect none) ∙ met) c.end.ensures.rooms c.end.ensures.same
