-- Printed tables are read as they were.
use Rattle.std.proofs.Common.{◌≡◌, ℕ, true, List, [], ◌∷◌, ◌++◌, map, Result, Ok, refl, ap, subst, inl}
use Rattle.std.specs.List.{list_all}
use Rattle.lab_base.specs.Lists.{Has}
use Rattle.lab_base.specs.declared.fault.Kind.{Kind}
use Rattle.lab_base.proofs.Members.{Has-right, Has-map}
use Rattle.line_text.specs.Reading.{and_then}
use Rattle.line_text.proofs.PartsAgain.{all_has}
use Rattle.line_text.proofs.LinesAgain.{IsPrinted, adds_each, read_again}
use Rattle.plant_file.specs.declared.entry.Entry.{Entry}
use Rattle.plant_file.specs.Lines.{entry_fields, added, tables_text, tables_of_text}
use Rattle.plant_file.specs.Printable.{is_printable}
use Rattle.plant_file.proofs.EntryAgain.{entry_again, entry_printed}

pub tables_again : (entries : List Entry) → list_all is_printable entries ≡ true → tables_of_text (tables_text entries) ≡ Ok entries
tables_again entries h =
    let each : (x : Entry) → Has entries x → is_printable x ≡ true = λ x has. all_has is_printable entries h x has in
    let printed : (line : List (List ℕ)) → Has (map entry_fields entries) line → IsPrinted line = λ line has. let at = Has-map entry_fields entries line has in subst IsPrinted at.2 (entry_printed at.0 (each at.0 at.1)) in
    read_again added 1 [] entries (map entry_fields entries) printed
    (adds_each added entry_fields (λ l. l) [] entries (λ front x rest e.
    let has : Has entries x = subst (λ l. Has l x) e (Has-right front (x ∷ rest) x (inl refl)) in
    ap (λ (r : Result Entry Kind). and_then r (λ entry. Ok (front ++ entry ∷ []))) (entry_again x (each x has))))
