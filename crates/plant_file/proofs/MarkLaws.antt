-- Entries of a key have its mark.
use Rattle.std.proofs.Common.{◌≡◌, ◌≢◌, ◌+◌, ◌*◌, ◌%◌, ◌<◌, ℕ, Bool, true, false, eqb, List, [], ◌∷◌, ◌++◌, length, take, get_or, refl, sym, ap, ◌∙◌}
use Rattle.std.specs.Str.{bytes_eq}
use Rattle.std.proofs.lemmas.List.{take_more}
use Rattle.std.proofs.lemmas.Bool.{and_parts}
use Rattle.lab_base.proofs.Bytes.{bytes_same}
use Rattle.plant.specs.Worlds as worlds
use Rattle.plant_file.specs.declared.entry.Entry.{Entry}
use Rattle.plant_file.specs.declared.entry.Entry.TheVariants.{Row, Bare, Node, Pipe}
use Rattle.plant_file.specs.declared.entry.Key.{Key}
use Rattle.plant_file.specs.declared.entry.Key.TheVariants as keys
use Rattle.plant_file.specs.Entries.{is_keyed}
use Rattle.plant_file.specs.Kept.{IsLine}
use Rattle.plant_file.specs.declared.lines_kept.Line.{Line}
use Rattle.plant_file.specs.Marks.{mark_on, name_mark, row_mark, key_mark, key_of}
use Rattle.plant_file.proofs.RowsHold.{row_itself}

-- one byte more
mark_more : (mark : ℕ) (bytes : List ℕ) (byte : ℕ) → mark_on mark (bytes ++ byte ∷ []) ≡ (mark_on mark bytes * 31 + byte) % 4294967291
mark_more mark [] byte = refl
mark_more mark (b ∷ bs) byte = mark_more ((mark * 31 + b) % 4294967291) bs byte

pub mark_next : (bytes : List ℕ) (i d : ℕ) → i < length bytes → mark_on 0 (take (i + 1) bytes) ≡ (mark_on 0 (take i bytes) * 31 + get_or bytes i d) % 4294967291
mark_next bytes i d lt = ap (mark_on 0) (take_more bytes i d lt) ∙ mark_more 0 (take i bytes) (get_or bytes i d)

-- an entry of a key has its mark
pub marked : (key : Key) (entry : Entry) → is_keyed key entry ≡ true → key_mark key ≡ key_mark (key_of entry)
marked (keys.Row switch port vlan) (Row own at id) is =
    sym (ap (λ (r : worlds.Row). row_mark r.switch r.port r.vlan) (row_itself switch port vlan.0 (record { switch = own; port = at; vlan = id.0 }) is))
marked (keys.Row switch port vlan) (Bare node state) is = absurd (cc is)
marked (keys.Row switch port vlan) (Node node state os) is = absurd (cc is)
marked (keys.Row switch port vlan) (Pipe node number from to there back) is = absurd (cc is)
marked (keys.Node name) (Row own at id) is = absurd (cc is)
marked (keys.Node name) (Bare node state) is = sym (ap name_mark (bytes_same node name is))
marked (keys.Node name) (Node node state os) is = sym (ap name_mark (bytes_same node name is))
marked (keys.Node name) (Pipe node number from to there back) is = absurd (cc is)
marked (keys.Pipe name at) (Row own port id) is = absurd (cc is)
marked (keys.Pipe name at) (Bare node state) is = absurd (cc is)
marked (keys.Pipe name at) (Node node state os) is = absurd (cc is)
marked (keys.Pipe name at) (Pipe node number from to there back) is = sym (ap name_mark (bytes_same node name (and_parts (bytes_eq node name) (eqb number at) is).0))
marked (keys.Of name) (Row own port id) is = absurd (cc is)
marked (keys.Of name) (Bare node state) is = sym (ap name_mark (bytes_same node name is))
marked (keys.Of name) (Node node state os) is = sym (ap name_mark (bytes_same node name is))
marked (keys.Of name) (Pipe node number from to there back) is = sym (ap name_mark (bytes_same node name is))

-- a line of another mark has not that key
pub unmarked : (key : Key) (line : Line) (mark : ℕ) → IsLine line → mark ≡ key_mark key → line.mark ≢ mark → is_keyed key line.entry.value ≡ false
unmarked key line mark own is other = by (is_keyed key line.entry.value) refl
  where
    by : (b : Bool) → is_keyed key line.entry.value ≡ b → b ≡ false
    by false e = refl
    by true e = absurd (other (own.mark ∙ sym (marked key line.entry.value e) ∙ sym is))
