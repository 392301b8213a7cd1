use Rattle.std.proofs.Common.{◌∙◌, cond, Some, None, sym}
use Rattle.map_state.specs.Reverted.{reverted}
use Rattle.node_maps.proofs.Assembled.{parts_of_map}
use Rattle.map_state.proofs.StateLaws.{kept_by_room, not_joined}
use Rattle.map_state.proofs.state.MapState.is_kept.Goals as goal

pub returns-else-is_still_joined : goal.returns-else-is_still_joined
returns-else-is_still_joined c = λ last was given.
    let x = c.args.search.now.mapper in
    let m = c.args.self.now.mapping in
    let before = parts_of_map x.lab.now x.free.now x.wiring.now last (record { places = last; plugs = reverted m.plugs c.args.self.now.back.items }) was.mapped in
    not_joined x.lab.now x.free.now x.wiring.now m c.is_still_joined.result given (c.is_still_joined.ensures last before.joined) c.if-is_still_joined.false
    ∙ (λ j. cond (sym c.if-is_still_joined.false j) (Some m) None)

pub returns-then-is_still_joined : goal.returns-then-is_still_joined
returns-then-is_still_joined c = λ last was given.
    let x = c.args.search.now in
    let lab = x.mapper.lab.now in
    let m = c.args.self.now.mapping in
    let laid = c.requires.state in
    let stays = c.requires.stays in
    let old = reverted m.plugs c.args.self.now.back.items in
    let before = parts_of_map lab x.mapper.free.now x.mapper.wiring.now last (record { places = last; plugs = old }) was.mapped in
    kept_by_room lab x.mapper.free.now x.mapper.wiring.now m c.args._first.0 c.args._second.0 last old c.has_room.result
    (record {
      kept = c.range-kept.ensures.lab;
      sound = c.requires.search.mapper.sound;
      choice = laid.choice;
      shaped = laid.shaped;
      first = c.requires.first;
      second = c.requires.second;
      mapped = was.mapped;
      alike = was.alike;
      given = given;
    })
    (record {
      typed = stays.typed;
      joined = (c.is_still_joined.ensures last before.joined).0 c.if-is_still_joined.true;
    })
    stays.first stays.second c.has_room.ensures
