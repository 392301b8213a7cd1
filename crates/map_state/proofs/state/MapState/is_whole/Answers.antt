use Rattle.std.proofs.Common.{◌∙◌, sym}
use Rattle.node_maps.proofs.Assembled.{no_map}
use Rattle.map_state.proofs.StateLaws.{whole_by_room, not_joined, not_typed}
use Rattle.map_state.proofs.ServedLaws.{all_given}
use Rattle.map_state.proofs.state.MapState.is_whole.Goals as goal

pub returns-then-not-has_ids : goal.returns-then-not-has_ids
returns-then-not-has_ids c =
    let x = c.args.search.now.mapper in
    no_map x.lab.now x.free.now x.wiring.now c.args.self.now.mapping.places (λ plugs all.
    let both = sym all.ids ∙ sym c.has_ids.ensures ∙ c.if-not-has_ids.true in
    absurd (cc both))

pub returns-then-not-has_types : goal.returns-then-not-has_types
returns-then-not-has_types c =
    let x = c.args.search.now.mapper in
    not_typed x.lab.now x.free.now x.wiring.now c.args.self.now.mapping.places c.has_types.result c.has_types.ensures c.if-not-has_types.true

pub returns-then-not-is_joined : goal.returns-then-not-is_joined
returns-then-not-is_joined c =
    let x = c.args.search.now in
    let m = c.args.self.now.mapping in
    not_joined x.mapper.lab.now x.mapper.free.now x.mapper.wiring.now m c.is_joined.result (all_given x m c.requires.search c.requires.state.shaped c.requires.served) c.is_joined.ensures c.if-not-is_joined.true

pub returns : goal.returns
returns c =
    let x = c.args.search.now in
    let m = c.args.self.now.mapping in
    let laid = c.requires.state in
    let set = c.requires.search in
    whole_by_room x.mapper.lab.now x.mapper.free.now x.mapper.wiring.now m c.has_room.result
    (record {
      kept = c.range-kept.ensures.lab;
      sound = set.mapper.sound;
      choice = laid.choice;
      shaped = laid.shaped;
      given = all_given x m set laid.shaped c.requires.served;
      shared = λ n lt. (c.requires.served n lt).shares;
      ids = sym c.has_ids.ensures ∙ c.if-not-has_ids.false;
    })
    (record {
      typed = c.has_types.ensures.0 c.if-not-has_types.false;
      joined = c.is_joined.ensures.0 c.if-not-is_joined.false;
    })
    c.has_room.ensures
