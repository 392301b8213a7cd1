use Rattle.swap_txn.specs.declared.live.Live.TheVariants.{Begun, Clearing, Cabling, Loading, Booting, Ready, Undoing, Undone}
use Rattle.swap_txn.specs.Turns.{held}
use Rattle.swap_txn.proofs.Knowing.{hands_on}
use Rattle.swap_txn.proofs.Standing.{turn_stops, turn_stands, turn_limit, turn_live}
use Rattle.swap_txn.proofs.Turning.{turns_as}
use Rattle.swap_txn.proofs.live.Live.turn.Goals as goal

pub returns-in-Begun : goal.returns-in-Begun
returns-in-Begun g c =
    let turns = turns_as (Begun c.in-Begun.state) c.args.self _ _ _ _ (held (λ x. Begun x) c.turn.result) c.any.result c.in-Begun.is c.any.ensures c.turn.ensures.turns in
    record {
      turns = turns;
      stopped = λ work. turn_stops c.args.self _ _ _ _ c.any.result turns work;
      stands = turn_stands c.args.self _ _ _ _ c.any.result turns c.requires.stands;
      facts = hands_on c.args.self _ _ _ _ c.any.result turns;
      limit = turn_limit c.args.self _ _ _ _ c.any.result turns;
      live = turn_live c.args.self _ _ _ _ c.any.result turns;
    }

pub returns-in-Clearing : goal.returns-in-Clearing
returns-in-Clearing g c =
    let turns = turns_as (Clearing c.in-Clearing.state) c.args.self _ _ _ _ (held (λ x. Clearing x) c.turn-in-Clearing.result) c.any-in-Clearing.result c.in-Clearing.is c.any-in-Clearing.ensures c.turn-in-Clearing.ensures.turns in
    record {
      turns = turns;
      stopped = λ work. turn_stops c.args.self _ _ _ _ c.any-in-Clearing.result turns work;
      stands = turn_stands c.args.self _ _ _ _ c.any-in-Clearing.result turns c.requires.stands;
      facts = hands_on c.args.self _ _ _ _ c.any-in-Clearing.result turns;
      limit = turn_limit c.args.self _ _ _ _ c.any-in-Clearing.result turns;
      live = turn_live c.args.self _ _ _ _ c.any-in-Clearing.result turns;
    }

pub returns-in-Cabling : goal.returns-in-Cabling
returns-in-Cabling g c =
    let turns = turns_as (Cabling c.in-Cabling.state) c.args.self _ _ _ _ (held (λ x. Cabling x) c.turn-in-Cabling.result) c.any-in-Cabling.result c.in-Cabling.is c.any-in-Cabling.ensures c.turn-in-Cabling.ensures.turns in
    record {
      turns = turns;
      stopped = λ work. turn_stops c.args.self _ _ _ _ c.any-in-Cabling.result turns work;
      stands = turn_stands c.args.self _ _ _ _ c.any-in-Cabling.result turns c.requires.stands;
      facts = hands_on c.args.self _ _ _ _ c.any-in-Cabling.result turns;
      limit = turn_limit c.args.self _ _ _ _ c.any-in-Cabling.result turns;
      live = turn_live c.args.self _ _ _ _ c.any-in-Cabling.result turns;
    }

pub returns-in-Loading : goal.returns-in-Loading
returns-in-Loading g c =
    let turns = turns_as (Loading c.in-Loading.state) c.args.self _ _ _ _ (held (λ x. Loading x) c.turn-in-Loading.result) c.any-in-Loading.result c.in-Loading.is c.any-in-Loading.ensures c.turn-in-Loading.ensures.turns in
    record {
      turns = turns;
      stopped = λ work. turn_stops c.args.self _ _ _ _ c.any-in-Loading.result turns work;
      stands = turn_stands c.args.self _ _ _ _ c.any-in-Loading.result turns c.requires.stands;
      facts = hands_on c.args.self _ _ _ _ c.any-in-Loading.result turns;
      limit = turn_limit c.args.self _ _ _ _ c.any-in-Loading.result turns;
      live = turn_live c.args.self _ _ _ _ c.any-in-Loading.result turns;
    }

pub returns-in-Booting : goal.returns-in-Booting
returns-in-Booting g c =
    let turns = turns_as (Booting c.in-Booting.state) c.args.self _ _ _ _ (held (λ x. Booting x) c.turn-in-Booting.result) c.any-in-Booting.result c.in-Booting.is c.any-in-Booting.ensures c.turn-in-Booting.ensures.turns in
    record {
      turns = turns;
      stopped = λ work. turn_stops c.args.self _ _ _ _ c.any-in-Booting.result turns work;
      stands = turn_stands c.args.self _ _ _ _ c.any-in-Booting.result turns c.requires.stands;
      facts = hands_on c.args.self _ _ _ _ c.any-in-Booting.result turns;
      limit = turn_limit c.args.self _ _ _ _ c.any-in-Booting.result turns;
      live = turn_live c.args.self _ _ _ _ c.any-in-Booting.result turns;
    }

pub returns-in-Ready : goal.returns-in-Ready
returns-in-Ready g c =
    let turns = turns_as (Ready c.in-Ready.state) c.args.self _ _ _ _ (held (λ x. Ready x) c.turn-in-Ready.result) c.any-in-Ready.result c.in-Ready.is c.any-in-Ready.ensures c.turn-in-Ready.ensures.turns in
    record {
      turns = turns;
      stopped = λ work. turn_stops c.args.self _ _ _ _ c.any-in-Ready.result turns work;
      stands = turn_stands c.args.self _ _ _ _ c.any-in-Ready.result turns c.requires.stands;
      facts = hands_on c.args.self _ _ _ _ c.any-in-Ready.result turns;
      limit = turn_limit c.args.self _ _ _ _ c.any-in-Ready.result turns;
      live = turn_live c.args.self _ _ _ _ c.any-in-Ready.result turns;
    }

pub returns-in-Undoing : goal.returns-in-Undoing
returns-in-Undoing g c =
    let turns = turns_as (Undoing c.in-Undoing.state) c.args.self _ _ _ _ (held (λ x. Undoing x) c.turn-in-Undoing.result) c.any-in-Undoing.result c.in-Undoing.is c.any-in-Undoing.ensures c.turn-in-Undoing.ensures.turns in
    record {
      turns = turns;
      stopped = λ work. turn_stops c.args.self _ _ _ _ c.any-in-Undoing.result turns work;
      stands = turn_stands c.args.self _ _ _ _ c.any-in-Undoing.result turns c.requires.stands;
      facts = hands_on c.args.self _ _ _ _ c.any-in-Undoing.result turns;
      limit = turn_limit c.args.self _ _ _ _ c.any-in-Undoing.result turns;
      live = turn_live c.args.self _ _ _ _ c.any-in-Undoing.result turns;
    }

pub returns-in-Undone : goal.returns-in-Undone
returns-in-Undone g c =
    let turns = turns_as (Undone c.in-Undone.state) c.args.self _ _ _ _ (held (λ x. Undone x) c.turn-in-Undone.result) c.any-in-Undone.result c.in-Undone.is c.any-in-Undone.ensures c.turn-in-Undone.ensures.turns in
    record {
      turns = turns;
      stopped = λ work. turn_stops c.args.self _ _ _ _ c.any-in-Undone.result turns work;
      stands = turn_stands c.args.self _ _ _ _ c.any-in-Undone.result turns c.requires.stands;
      facts = hands_on c.args.self _ _ _ _ c.any-in-Undone.result turns;
      limit = turn_limit c.args.self _ _ _ _ c.any-in-Undone.result turns;
      live = turn_live c.args.self _ _ _ _ c.any-in-Undone.result turns;
    }
