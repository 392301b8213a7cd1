use Rattle.std.proofs.Common.{sym, ◌∙◌, arith}
use Rattle.std.proofs.lemmas.Nat.{mul-le}
use Rattle.ns_words.specs.Seen.{numeral_seen}
use Rattle.ns_words.proofs.Amounts.{few_places, parts_are}
use Rattle.ns_words.proofs.numeral.Numeral.parts.Goals as goal

pub quotient-requires : goal.quotient-requires
quotient-requires c =
    let places = few_places _ c.requires.numeral.few in
    omega (arith, c.from-2.ensures, mul-le 1 1 c.args.part c.pow-power.result c.requires.part.0 (omega (arith, c.pow-power.ensures, places.0)))

pub returns : goal.returns
returns c =
    c.quotient.ensures
    ∙ parts_are c.args.part c.args.least c.args.most c.args.scale c.pow-power.result c.number.result c.from.result c.from-2.result (numeral_seen c.args.self.now)
    c.requires.scale.0 c.requires.part.0 c.requires.part.1 c.requires.most c.requires.numeral.few c.pow-power.ensures c.number.ensures.value c.from.ensures c.from-2.ensures (sym c.if-is_empty.ensures)
