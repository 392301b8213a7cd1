-- Where the words of a text stand.
use Rattle.std.specs.Prelude.{ℕ, ◌<◌, ◌≤◌, List, [], ◌∷◌}
use Rattle.std.specs.List.{flat_map}
use Rattle.tcl_words.specs.declared.word.Word.{Word}
use Rattle.tcl_words.specs.declared.word.Command.{Command}

-- the words of commands, in order
abbrev pub words_of : List Command → List Word
words_of commands = flat_map (λ c. c.words) commands

-- SPANS RISE: from a place on, each word has bytes, and none begins before the one before it ends
abbrev pub AreRising : ℕ → List Word → Type 0
AreRising from [] = Unit {0}
AreRising from (w ∷ ws) = (from ≤ w.start) × (w.start < w.end) × AreRising w.end ws
