-- Records, a line each.
use Rattle.std.specs.Prelude.{ℕ, Bool, ◌||◌, ◌-◌, nat_le, if◌then◌else◌, List, [], ◌∷◌, ◌++◌, length, drop, codes, decimal, flat_map}
use Rattle.journal_rec.specs.declared.record.Way.{Way}
use Rattle.journal_rec.specs.declared.record.Way.TheVariants.{In, Out, Change, Change2}
use Rattle.journal_rec.specs.declared.record.Record.{Record}
use Rattle.journal_rec.specs.declared.record.Record.TheVariants.{Lab, Create, Delete, Begin, Commit, Abort, Create2}
use Rattle.journal_rec.specs.declared.record.Found.{Found}

-- a record's kind, with its experiment and the way of its move
abbrev pub way_word : Way → List ℕ
way_word (In map tags) = codes " in"
way_word Out = codes " out"
way_word (Change top map tags) = codes " change"
way_word (Change2 top map tags) = codes " change"

abbrev pub kind_words : Record → List ℕ
kind_words (Lab ptop) = codes " lab"
kind_words (Create exp top) = codes " create " ++ exp
kind_words (Create2 exp top) = codes " create " ++ exp
kind_words (Delete exp) = codes " delete " ++ exp
kind_words (Begin exp way) = codes " begin " ++ exp ++ way_word way
kind_words (Commit exp) = codes " commit " ++ exp
kind_words (Abort exp) = codes " abort " ++ exp

-- A RECORD, with the place of its gate: `  1749 begin E in`
abbrev pub record_line : Found → List ℕ
record_line f = codes "  " ++ decimal f.at ++ kind_words f.entry ++ 10 ∷ []

abbrev pub record_lines : List Found → List ℕ
record_lines founds = flat_map record_line founds

-- how many more stand before those that are listed
unfoldable pub earlier_words : List ℕ
earlier_words = codes " records before these\n"

unfoldable pub earlier_line : ℕ → List ℕ
earlier_line count = codes "  .. " ++ decimal count ++ earlier_words

-- THE RECORDS THAT ARE LISTED: all where all are wanted; else the last 20, after a line that counts those before them
abbrev pub listed : Bool → List Found → List ℕ
listed all found =
    if all || nat_le (length found) 20 then record_lines found
    else earlier_line (length found - 20) ++ record_lines (drop (length found - 20) found)
