-- The summary that a generated run writes at its end.
use Rattle.std.specs.Prelude.{◌≡◌, ℕ, Bool, true, false, ◌||◌, ◌==◌, not, List, [], ◌∷◌, ◌++◌, length, codes, decimal, count_by, sum_by, if◌then◌else◌}
use Rattle.std.specs.Str.{bytes_eq}
use Rattle.script_text.specs.Replies.{text_of}
use Rattle.script_text.specs.declared.reply.Reply.{Reply}
use Rattle.script_text.specs.declared.reply.Reply.TheVariants.{Lab, LabIsSet, Created, In, Out, Served}
use Rattle.lab_gen.specs.declared.tally.Tally.{Tally}

-- the first word of a text: what stands before its first space or line feed
abbrev pub ends_word : ℕ → Bool
ends_word b = b == 32 || b == 10

abbrev pub first_word : List ℕ → List ℕ
first_word [] = []
first_word (b ∷ text) = if ends_word b then [] else b ∷ first_word text

-- the reply's first word is `lab`, `created`, `in` or `out`; that of a reply with a line for each run of a batch is that of its text
abbrev pub is_lab : Reply → Bool
is_lab (Lab switches nodes trunks) = true
is_lab LabIsSet = true
is_lab (Served served) = bytes_eq (first_word served.lines) (codes "lab")
is_lab reply = false

abbrev pub is_created : Reply → Bool
is_created (Created exp nodes segments) = true
is_created (Served served) = bytes_eq (first_word served.lines) (codes "created")
is_created reply = false

abbrev pub is_in : Reply → Bool
is_in (In exp) = true
is_in (Served served) = bytes_eq (first_word served.lines) (codes "in")
is_in reply = false

abbrev pub is_out : Reply → Bool
is_out (Out exp) = true
is_out (Served served) = bytes_eq (first_word served.lines) (codes "out")
is_out reply = false

abbrev pub is_other : Reply → Bool
is_other reply = not (is_lab reply || (is_created reply || (is_in reply || is_out reply)))

-- so the words are
pub record HasWords (reply : Reply) : Type 0 where
  pub lab : is_lab reply ≡ bytes_eq (first_word (text_of reply)) (codes "lab")
  pub created : is_created reply ≡ bytes_eq (first_word (text_of reply)) (codes "created")
  pub inside : is_in reply ≡ bytes_eq (first_word (text_of reply)) (codes "in")
  pub outside : is_out reply ≡ bytes_eq (first_word (text_of reply)) (codes "out")

-- the virtual nodes of an experiment that is created
abbrev pub nodes_in : Reply → ℕ
nodes_in (Created exp nodes segments) = nodes
nodes_in reply = 0

abbrev pub count_line : List ℕ → ℕ → List ℕ
count_line word n = word ++ decimal n ++ 10 ∷ []

-- THE SUMMARY of a run of that script with these replies
unfoldable pub summary : ℕ → List Reply → List ℕ
summary seed replies =
    count_line (codes "gen ") seed ++ count_line (codes "commands ") (length replies) ++ count_line (codes "nodes ") (sum_by nodes_in replies)
    ++ count_line (codes "lab ") (count_by is_lab replies) ++ count_line (codes "created ") (count_by is_created replies) ++ count_line (codes "in ") (count_by is_in replies)
    ++ count_line (codes "out ") (count_by is_out replies) ++ count_line (codes "other ") (count_by is_other replies)

-- the tally has counted these replies
pub record IsTally (tally : Tally) (replies : List Reply) : Type 0 where
  pub commands : tally.commands ≡ length replies
  pub nodes : tally.nodes ≡ sum_by nodes_in replies
  pub lab : tally.lab ≡ count_by is_lab replies
  pub created : tally.created ≡ count_by is_created replies
  pub inside : tally.inside ≡ count_by is_in replies
  pub outside : tally.outside ≡ count_by is_out replies
  pub other : tally.other ≡ count_by is_other replies
