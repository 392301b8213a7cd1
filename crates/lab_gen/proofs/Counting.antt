-- Counts of replies, and the summary that they make.
use Rattle.std.proofs.Common.{◌≡◌, ◌∙◌, ℕ, ◌+◌, Bool, List, [], ◌∷◌, ◌++◌, length, codes, sym, ap, arith, length-append}
use Rattle.std.specs.Prelude.{count_by, sum_by, if◌then◌else◌}
use Rattle.std.proofs.lemmas.List.Sums.{sum_by_push}
use Rattle.script_text.specs.declared.reply.Reply.{Reply}
use Rattle.lab_gen.specs.Summary.{IsTally, count_line, summary}
use Rattle.lab_gen.specs.declared.tally.Tally.{Tally}

pub one_more : (replies : List Reply) (reply : Reply) (n sum : ℕ) → n ≡ length replies → sum ≡ n + 1 → sum ≡ length (replies ++ reply ∷ [])
one_more replies reply n sum was is = omega (arith, length-append replies (reply ∷ []), was, is)

pub sum_more : (f : Reply → ℕ) (replies : List Reply) (reply : Reply) (n more sum : ℕ) → n ≡ sum_by f replies → more ≡ f reply → sum ≡ n + more → sum ≡ sum_by f (replies ++ reply ∷ [])
sum_more f replies reply n more sum was here is = is ∙ omega (arith, was, here) ∙ sym (sum_by_push f replies reply)

pub count_more : (p : Reply → Bool) (replies : List Reply) (reply : Reply) (n sum : ℕ) (counts : Bool) → n ≡ count_by p replies → counts ≡ p reply → sum ≡ n + (if counts then 1 else 0) → sum ≡ count_by p (replies ++ reply ∷ [])
count_more p replies reply n sum counts was here is = sum_more (λ x. if p x then 1 else 0) replies reply n (if counts then 1 else 0) sum was (ap (λ (b : Bool). if b then 1 else 0) here) is

-- a text that grew by a line
pub grown : (before now front line : List ℕ) → before ≡ front → now ≡ before ++ line → now ≡ front ++ line
grown before now front line was is = is ∙ ap (λ t. t ++ line) was

abbrev pub lines_of : ℕ → ℕ → ℕ → ℕ → ℕ → ℕ → ℕ → ℕ → List ℕ
lines_of seed commands nodes lab created inside outside other =
    count_line (codes "gen ") seed ++ count_line (codes "commands ") commands ++ count_line (codes "nodes ") nodes ++ count_line (codes "lab ") lab ++ count_line (codes "created ") created
    ++ count_line (codes "in ") inside ++ count_line (codes "out ") outside ++ count_line (codes "other ") other

pub summary_is : (seed : ℕ) (tally : Tally) (replies : List Reply) → IsTally tally replies → lines_of seed tally.commands tally.nodes tally.lab tally.created tally.inside tally.outside tally.other ≡ summary seed replies
unfolding summary
summary_is seed tally replies is = λ i. lines_of seed (is.commands i) (is.nodes i) (is.lab i) (is.created i) (is.inside i) (is.outside i) (is.other i)
