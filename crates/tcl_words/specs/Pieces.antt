-- Pieces of the code, and the facts that follow from them.
use Rattle.std.specs.Prelude.{ℕ, List, [], ◌∷◌, ◌++◌, Option, Some, None, Result, Ok, Err}
use Rattle.tcl_words.specs.declared.flaw.Flaw.{Flaw}
use Rattle.tcl_words.specs.declared.word.Part.{Part}
use Rattle.tcl_words.specs.declared.parts.Closing.{Closing}
use Rattle.tcl_words.specs.declared.parts.Next.{Next}
use Rattle.tcl_words.specs.declared.parts.Next.TheVariants.{Closed, Unclosed, More}
use Rattle.tcl_words.specs.Words.{ClosesAt, GoesOnAt, IsUnclosed, PartsOf, after_parts, bytes_from}

-- what comes next among parts
abbrev pub ComesNext : List ℕ → Closing → ℕ → Next → Type 0
ComesNext t c i (Closed end) = ClosesAt t c i end
ComesNext t c i (Unclosed e) = IsUnclosed t c i e
ComesNext t c i More = GoesOnAt t c i

-- what follows from a piece where parts go on: a byte, or a part
abbrev pub LeadsBy : List ℕ → ℕ → Option Part → ℕ → Type 0
LeadsBy t i None j = (c : Closing) (s : ℕ) (o : Result (List Part × ℕ) Flaw) → GoesOnAt t c i → PartsOf t c s j o → PartsOf t c s i o
LeadsBy t i (Some p) j = (c : Closing) (s : ℕ) (o : Result (List Part × ℕ) Flaw) → GoesOnAt t c i → PartsOf t c j j o
    → PartsOf t c s i (after_parts (bytes_from s i ++ p ∷ []) o)

-- what follows from a piece, or from a fault in its place
abbrev pub PieceLeads : List ℕ → ℕ → Result (Option Part × ℕ) Flaw → Type 0
PieceLeads t i (Err e) = (c : Closing) (s : ℕ) → GoesOnAt t c i → PartsOf t c s i (Err e)
PieceLeads t i (Ok x) = LeadsBy t i x.0 x.1
