-- The records that begin a swap to a mapping can be written.
use Rattle.std.proofs.Common.{◌≡◌, ◌≤◌, ◌<◌, ◌^◌, ℕ, Bool, true, false, List, ◌++◌, length, length-append, arith}
use Rattle.lab_base.specs.Lists.{Has}
use Rattle.lab_base.specs.Names.{is_name}
use Rattle.lab_base.specs.declared.ids.VlanId.{VlanId}
use Rattle.lab_base.proofs.Names.{name_short}
use Rattle.journal_rec.specs.Payloads.{IsRecord, tags_bytes, text_bytes, way_bytes}
use Rattle.journal_rec.specs.declared.record.Record.TheVariants.{Begin}
use Rattle.journal_rec.specs.declared.record.Way.TheVariants.{In as WayIn, Change as WayChange, Change2 as WayChange2}
use Rattle.journal_rec.proofs.Fields.{tags_size}
use Rattle.records_model.specs.Labs.{change_in}

pub in_is : (exp map : List ℕ) (tags : List VlanId) → is_name exp ≡ true → length map ≤ 16777216 → length tags ≤ 65535 → ((tag : VlanId) → Has tags tag → tag.0 < 2 ^ 16) → IsRecord (Begin exp (WayIn map tags))
in_is exp map tags named short few each = record {
  fields = (named, record { count = omega (arith, few); each = each });
  size = omega (arith, name_short exp named, short, few, length-append exp (way_bytes (WayIn map tags)), length-append map (tags_bytes tags), tags_size tags);
}

pub over_is : (second : Bool) (exp top map : List ℕ) (tags : List VlanId) → is_name exp ≡ true → length top ≤ 16777216 → length map ≤ 16777216 → length tags ≤ 65535 → ((tag : VlanId) → Has tags tag → tag.0 < 2 ^ 16)
    → IsRecord (Begin exp (change_in second top map tags))
over_is false exp top map tags named top_short short few each = record {
  fields = (named, record { count = omega (arith, few); each = each });
  size = omega (arith, name_short exp named, top_short, short, few, length-append exp (way_bytes (WayChange top map tags)), length-append top (text_bytes map ++ tags_bytes tags), length-append map (tags_bytes tags), tags_size tags);
}
over_is true exp top map tags named top_short short few each = record {
  fields = (named, record { count = omega (arith, few); each = each });
  size = omega (arith, name_short exp named, top_short, short, few, length-append exp (way_bytes (WayChange2 top map tags)), length-append top (text_bytes map ++ tags_bytes tags), length-append map (tags_bytes tags), tags_size tags);
}
