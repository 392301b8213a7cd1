use Rattle.std.proofs.Common.{◌≡◌, ◌<◌, ◌^◌, ◌++◌, take}
use Rattle.std.specs.List.{flat_map}
use Rattle.lab_base.specs.Lists.{Has}
use Rattle.lab_base.specs.declared.ids.VlanId.{VlanId}
use Rattle.journal_rec.specs.Payloads.{tag_bytes}
use Rattle.journal_rec.proofs.writing.put_tags.Given as goal

abbrev pub invariant-loop-tag : goal.invariant-loop-tag
invariant-loop-tag l = record {
  out : l.out.items ≡ l.initial.out.items ++ flat_map tag_bytes (take l.tag-index l.tags);
  each : (tag : VlanId) → Has (take l.tag-index l.tags) tag → tag.0 < 2 ^ 16;
}
