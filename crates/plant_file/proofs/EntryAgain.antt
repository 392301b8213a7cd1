-- The line of an entry is read as the entry.
use Rattle.std.proofs.Common.{◌≡◌, true, [], Ok, refl, arith}
use Rattle.std.specs.Prelude.{codes, nat_le}
use Rattle.std.proofs.lemmas.Bool.{and_parts, leb-true}
use Rattle.lab_base.specs.Names.{is_name}
use Rattle.lab_base.specs.Kinds.{both_of}
use Rattle.lab_base.specs.declared.boot.Boot.{Boot}
use Rattle.lab_base.specs.declared.boot.Boot.TheVariants.{Off, Shutdown, Booting, TbSetup, IsUp}
use Rattle.line_text.specs.Rates.{rates_fields, are_held, any_rates}
use Rattle.line_text.proofs.PartsAgain.{IsPlain, name_again, number_back, plain_name, plain_number}
use Rattle.line_text.proofs.LinesAgain.{IsPrinted}
use Rattle.line_text.proofs.Plain.{ArePlain, none, more}
use Rattle.line_text.proofs.RatesAgain.{HoldLimits, held_within, rates_again, rates_plain}
use Rattle.plant_file.specs.declared.entry.Entry.{Entry}
use Rattle.plant_file.specs.declared.entry.Entry.TheVariants.{Row, Bare, Node, Pipe}
use Rattle.plant_file.specs.Lines.{boot_word, boot_of, entry_fields, as_row, as_bare, as_node, as_pipe, entry_of}
use Rattle.plant_file.specs.Printable.{are_pipe_ends, is_printable}

boot_again : (state : Boot) → boot_of (boot_word state) ≡ Ok state
boot_again Off = refl
boot_again Shutdown = refl
boot_again Booting = refl
boot_again TbSetup = refl
boot_again IsUp = refl

held : HoldLimits any_rates
held = record { kbps = omega arith; micros = omega arith; ppm = omega arith }

pub entry_again : (entry : Entry) → is_printable entry ≡ true → entry_of (entry_fields entry) ≡ Ok entry
entry_again (Row switch port vlan) h =
    let a = and_parts (is_name switch) _ h in
    let b = and_parts (nat_le port 65535) (nat_le vlan.0 65535) a.1 in
    λ j. as_row (both_of (name_again switch a.0 j) (both_of (number_back 0 65535 port (omega arith) (leb-true port 65535 b.0) (omega arith) j) (number_back 0 65535 vlan.0 (omega arith) (leb-true vlan.0 65535 b.1) (omega arith) j)))
entry_again (Bare node state) h = λ j. as_bare (both_of (name_again node h j) (boot_again state j))
entry_again (Node node state os) h =
    let a = and_parts (is_name node) (is_name os) h in
    λ j. as_node (both_of (name_again node a.0 j) (both_of (boot_again state j) (name_again os a.1 j)))
entry_again (Pipe node number from to there back) h =
    let a = and_parts (are_pipe_ends node number from to) _ h in
    let b = and_parts (is_name node) _ a.0 in
    let c = and_parts (nat_le number 65535) _ b.1 in
    let d = and_parts (is_name from) (is_name to) c.1 in
    let r = and_parts (are_held there) (are_held back) a.1 in
    λ j. as_pipe (both_of (both_of (name_again node b.0 j) (number_back 0 65535 number (omega arith) (leb-true number 65535 c.0) (omega arith) j))
    (both_of (both_of (name_again from d.0 j) (name_again to d.1 j)) (both_of (rates_again any_rates there held (held_within there r.0) j) (rates_again any_rates back held (held_within back r.1) j))))

-- THE FIELDS ARE PLAIN

row_plain : IsPlain (codes "row")
row_plain = record { filled = refl; no_blank = refl; no_feed = refl }

node_plain : IsPlain (codes "node")
node_plain = record { filled = refl; no_blank = refl; no_feed = refl }

pipe_plain : IsPlain (codes "pipe")
pipe_plain = record { filled = refl; no_blank = refl; no_feed = refl }

boot_plain : (state : Boot) → IsPlain (boot_word state)
boot_plain Off = record { filled = refl; no_blank = refl; no_feed = refl }
boot_plain Shutdown = record { filled = refl; no_blank = refl; no_feed = refl }
boot_plain Booting = record { filled = refl; no_blank = refl; no_feed = refl }
boot_plain TbSetup = record { filled = refl; no_blank = refl; no_feed = refl }
boot_plain IsUp = record { filled = refl; no_blank = refl; no_feed = refl }

fields_plain : (entry : Entry) → is_printable entry ≡ true → ArePlain (entry_fields entry)
fields_plain (Row switch port vlan) h =
    let a = and_parts (is_name switch) _ h in
    let b = and_parts (nat_le port 65535) (nat_le vlan.0 65535) a.1 in
    more _ _ row_plain (more _ _ (plain_name switch a.0) (more _ _ (plain_number port (omega (arith, leb-true port 65535 b.0))) (more _ _ (plain_number vlan.0 (omega (arith, leb-true vlan.0 65535 b.1))) none)))
fields_plain (Bare node state) h = more _ _ node_plain (more _ _ (plain_name node h) (more _ _ (boot_plain state) none))
fields_plain (Node node state os) h =
    let a = and_parts (is_name node) (is_name os) h in
    more _ _ node_plain (more _ _ (plain_name node a.0) (more _ _ (boot_plain state) (more _ _ (plain_name os a.1) none)))
fields_plain (Pipe node number from to there back) h =
    let a = and_parts (are_pipe_ends node number from to) _ h in
    let b = and_parts (is_name node) _ a.0 in
    let c = and_parts (nat_le number 65535) _ b.1 in
    let d = and_parts (is_name from) (is_name to) c.1 in
    let r = and_parts (are_held there) (are_held back) a.1 in
    more _ _ pipe_plain (more _ _ (plain_name node b.0) (more _ _ (plain_number number (omega (arith, leb-true number 65535 c.0))) (more _ _ (plain_name from d.0) (more _ _ (plain_name to d.1)
    (rates_plain any_rates there (rates_fields back) held (held_within there r.0) (rates_plain any_rates back [] held (held_within back r.1) none))))))

pub entry_printed : (entry : Entry) → is_printable entry ≡ true → IsPrinted (entry_fields entry)
entry_printed (Row switch port vlan) h = record { kept = refl; plain = (fields_plain (Row switch port vlan) h).each }
entry_printed (Bare node state) h = record { kept = refl; plain = (fields_plain (Bare node state) h).each }
entry_printed (Node node state os) h = record { kept = refl; plain = (fields_plain (Node node state os) h).each }
entry_printed (Pipe node number from to there back) h = record { kept = refl; plain = (fields_plain (Pipe node number from to there back) h).each }
