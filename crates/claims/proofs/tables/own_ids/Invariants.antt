use Rattle.std.proofs.Common.{◌≡◌, take}
use Rattle.std.specs.Prelude.{vec_len}
use Rattle.claims.specs.Marks.{marked, id_places}
use Rattle.claims.proofs.tables.own_ids.Given as goal

abbrev pub invariant-loop-tag : goal.invariant-loop-tag
invariant-loop-tag l = record {
  len : vec_len l.owners ≡ vec_len l.fn.owners;
  marked_so : l.owners.items ≡ marked l.owner l.fn.owners.items (id_places l.first (take l.tag-index l.tags));
}
