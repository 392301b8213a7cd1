-- Entries of the first lines, and of one more.
use Rattle.std.proofs.Common.{◌≡◌, ◌<◌, ◌+◌, ℕ, List, [], ◌∷◌, ◌++◌, Option, length, get_or, take, sym, ap, ◌∙◌}
use Rattle.std.specs.List.{cons_option, filter_map}
use Rattle.std.proofs.lemmas.List.{take_more}
use Rattle.std.proofs.lemmas.List.Elements.{filter_map-append}
use Rattle.plant_file.specs.declared.entry.Entry.{Entry}
use Rattle.plant_file.specs.declared.lines_kept.Line.{Line}
use Rattle.plant_file.specs.Kept.{entries_of}
use Rattle.plant_file.proofs.KeptLaws.{entries_joined}

pub given_more : {Y : Type 0} (h : Entry → Option Y) (lines : List Line) (k : ℕ) (line : Line) → k < length lines → line ≡ get_or lines k line
    → filter_map h (entries_of (take (k + 1) lines)) ≡ filter_map h (entries_of (take k lines)) ++ cons_option (h line.entry.value) []
given_more h lines k line lt is =
    ap (λ (l : List Line). filter_map h (entries_of l)) (take_more lines k line lt ∙ ap (λ (x : Line). take k lines ++ x ∷ []) (sym is))
    ∙ ap (filter_map h) (entries_joined (take k lines) (line ∷ []))
    ∙ filter_map-append h (entries_of (take k lines)) (line.entry.value ∷ [])
