use Rattle.std.proofs.Common.{false, get_or, refl, arith}
use Rattle.std.proofs.lemmas.List.{get_or-replicate}
use Rattle.virt_topo.specs.declared.limits.TheConstants.{MAX_SEGMENTS}
use Rattle.trunk_sums.proofs.foreseen.are_seen_once.Goals as goal

pub loop-change-init : goal.loop-change-init
loop-change-init c = record {
  count = refl;
  seen = λ j d lt. absurd (omega (arith, lt));
  apart = λ j k d e less lt. absurd (omega (arith, lt));
  fresh = λ apart k e le lt. get_or-replicate MAX_SEGMENTS (get_or c.args.changes.now k e).row.segment false false (c.requires k e lt);
}
