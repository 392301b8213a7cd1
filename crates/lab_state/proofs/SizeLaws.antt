-- The texts of a record are short, since its payload is.
use Rattle.std.proofs.Common.{◌<◌, ◌++◌, ℕ, Bool, true, false, List, length, length-append, arith}
use Rattle.lab_base.specs.declared.ids.VlanId.{VlanId}
use Rattle.journal_rec.specs.declared.record.Way.TheVariants.{In as WayIn, Change as WayChange, Change2 as WayChange2}
use Rattle.journal_rec.specs.declared.record.Record.TheVariants.{Lab, Begin}
use Rattle.journal_rec.specs.Payloads.{IsRecord, text_bytes, tags_bytes, way_bytes}
use Rattle.records_model.specs.Labs.{create_in, change_in}

pub lab_short : (ptop : List ℕ) → IsRecord (Lab ptop) → length ptop < 4294967295
lab_short ptop is = omega (arith, is.size)

pub create_short : (second : Bool) (exp top : List ℕ) → IsRecord (create_in second exp top) → length top < 4294967295
create_short false exp top is = omega (arith, is.size, length-append exp (text_bytes top))
create_short true exp top is = omega (arith, is.size, length-append exp (text_bytes top))

pub in_short : (exp map : List ℕ) (tags : List VlanId) → IsRecord (Begin exp (WayIn map tags)) → length map < 4294967295
in_short exp map tags is = omega (arith, is.size, length-append exp (way_bytes (WayIn map tags)), length-append map (tags_bytes tags))

pub change_short : (second : Bool) (exp top map : List ℕ) (tags : List VlanId) → IsRecord (Begin exp (change_in second top map tags)) → (length top < 4294967295) × (length map < 4294967295)
change_short false exp top map tags is = (
  omega (arith, is.size, length-append exp (way_bytes (WayChange top map tags)), length-append top (text_bytes map ++ tags_bytes tags), length-append map (tags_bytes tags)),
  omega (arith, is.size, length-append exp (way_bytes (WayChange top map tags)), length-append top (text_bytes map ++ tags_bytes tags), length-append map (tags_bytes tags)),
)
change_short true exp top map tags is = (
  omega (arith, is.size, length-append exp (way_bytes (WayChange2 top map tags)), length-append top (text_bytes map ++ tags_bytes tags), length-append map (tags_bytes tags)),
  omega (arith, is.size, length-append exp (way_bytes (WayChange2 top map tags)), length-append top (text_bytes map ++ tags_bytes tags), length-append map (tags_bytes tags)),
)
