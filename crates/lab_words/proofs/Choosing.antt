-- The choices of words, by the parse of the command.
use Rattle.std.proofs.Common.{◌≡◌, ◌≢◌, ◌∙◌, inl, inr, false, List, [], ◌∷◌, Option, None, Err, String, codes, map, length, string_bytes, refl, sym, ap, arith}
use Rattle.std.specs.Prelude.{if◌then◌else◌}
use Rattle.std.proofs.lemmas.Bool.{ne_eqb}
use Rattle.clap.specs.Walk.{Row, first_of, is_empty, one_of, rows_of}
use Rattle.clap.specs.Simple.{matches_of}
use Rattle.clap.specs.Faults.{fault_of}
use Rattle.clap.specs.Kinds.{HasKind, IsAmong, Kinds}
use Rattle.clap.specs.Matches.{first_value, one_text}
use Rattle.clap.specs.Values.{kind_of}
use Rattle.clap.specs.declared.error.Error.{Error}
use Rattle.clap.specs.declared.error.kind.ErrorKind.TheVariants.{OutOfMemory}
use Rattle.clap.specs.declared.parser.matches.Found.{Found}
use Rattle.clap.proofs.WalkLemmas.{first_value-rows, one_text-rows}
use Rattle.lab_words.specs.Places.{Says}
use Rattle.lab_words.specs.Words.{Choices, choices_of, chosen, command_line}
use Rattle.lab_words.specs.declared.place.PlaceFault.{PlaceFault}
use Rattle.lab_words.specs.declared.place.PlaceFault.TheVariants.{Usage, Memory}

-- the command takes the words
pub taken : {Z : Type 0} (words : List (String Z)) (found : Found) → fault_of command_line (map string_bytes words) ≡ [] → rows_of found ≡ matches_of command_line (map string_bytes words)
    → choices_of words ≡ chosen (first_value found (codes "cost")) (first_value found (codes "dir")) (one_text found (codes "gen"))
unfolding choices_of
taken words found none rows =
    let texts = map string_bytes words in
    let by : List Row → Option Choices = λ r. chosen (first_of (codes "cost") r) (first_of (codes "dir") r) (one_of (codes "gen") r) in
    ap (λ k. if is_empty k then by (matches_of command_line texts) else None) none
    ∙ ap by (sym rows)
    ∙ sym (ap (λ cost. chosen cost (first_value found (codes "dir")) (one_text found (codes "gen"))) (first_value-rows found (codes "cost"))
    ∙ ap (λ dir. chosen (first_of (codes "cost") (rows_of found)) dir (one_text found (codes "gen"))) (first_value-rows found (codes "dir"))
    ∙ ap (chosen (first_of (codes "cost") (rows_of found)) (first_of (codes "dir") (rows_of found))) (one_text-rows found (codes "gen")))

-- it refuses them
pub refused : {Z : Type 0} (words : List (String Z)) (error : Error) → HasKind (fault_of command_line (map string_bytes words)) error → kind_of error ≢ OutOfMemory → choices_of words ≡ None
unfolding choices_of
refused words error (inl memory) other = absurd (other memory)
refused words error (inr among) other =
    let texts = map string_bytes words in
    let by : Option Choices = chosen (first_of (codes "cost") (matches_of command_line texts)) (first_of (codes "dir") (matches_of command_line texts)) (one_of (codes "gen") (matches_of command_line texts)) in
    ap (λ b. if b then by else None) (some (fault_of command_line texts) among)
  where
    some : (kinds : Kinds) → IsAmong (kind_of error) kinds → is_empty kinds ≡ false
    some [] h = absurd h
    some (k ∷ ks) h = ne_eqb (length (k ∷ ks)) 0 (λ is. omega arith)

pub refused_by : {Z : Type 0} (words : List (String Z)) (error : Error) (fault : PlaceFault) → HasKind (fault_of command_line (map string_bytes words)) error → (fault ≡ Usage → kind_of error ≢ OutOfMemory) → Says (choices_of words) (Err fault)
refused_by words error Usage has other = refused words error has (other refl)
refused_by words error Memory has other = tt
