-- Replies that were taken, one after another.
use Rattle.std.proofs.Common.{◌≡◌, ◌∙◌, List, [], ◌∷◌, ◌++◌, Some, refl, sym, ap, subst, append_assoc, append-nil}
use Rattle.std.proofs.lemmas.List.Elements.{filter_map-append}
use Rattle.script_text.specs.declared.reply.Reply.{Reply}
use Rattle.lab_gen.specs.Summary.{IsTally}
use Rattle.lab_top.specs.declared.reply_takers.Counter.{Counter}
use Rattle.lab_top.specs.Pieces.{Begun}
use Rattle.lab_top.specs.ReplyTakers.{Counts, Took, replies_of}
use Rattle.lab_top.proofs.Pieces.{TakenBy}

took-push : {A : Type 0} (takes : A → Reply → A → Type 0) (first : A) (replies : List Reply) (mid new : A) (reply : Reply) → Took takes first replies mid → takes mid reply new → Took takes first (replies ++ reply ∷ []) new
took-push takes first [] mid new reply same took = (new, subst (λ x. takes x reply new) same took, refl)
took-push takes first (r ∷ replies) mid new reply (next, one, rest) took = (next, one, took-push takes next replies mid new reply rest took)

replies-push : (begun : List Begun) (b : Begun) (reply : Reply) → b.piece.reply ≡ Some reply → replies_of (begun ++ b ∷ []) ≡ replies_of begun ++ reply ∷ []
replies-push begun b reply is = filter_map-append (λ (x : Begun). x.piece.reply) begun (b ∷ []) ∙ ap (λ l. replies_of begun ++ l) (rw is refl)

-- the reply to one command more
pub took_more : {A : Type 0} (takes : A → Reply → A → Type 0) (first mid new : A) (begun : List Begun) (b : Begun) → Took takes first (replies_of begun) mid → TakenBy (λ reply. takes mid reply new) b
    → Took takes first (replies_of (begun ++ b ∷ [])) new
took_more takes first mid new begun b took (reply, is, one) =
    subst (λ replies. Took takes first replies new) (sym (replies-push begun b reply is)) (took-push takes first (replies_of begun) mid new reply took one)

-- A COUNTER HAS COUNTED the replies that it took
pub counted : (replies before : List Reply) (first new : Counter) → IsTally first.tally before → Took Counts first replies new → IsTally new.tally (before ++ replies)
counted [] before first new tally same = subst (λ (c : Counter). IsTally c.tally (before ++ [])) (sym same) (subst (λ replies. IsTally first.tally replies) (sym (append-nil before)) tally)
counted (r ∷ replies) before first new tally (next, one, rest) =
    subst (λ all. IsTally new.tally all) (append_assoc before (r ∷ []) replies) (counted replies (before ++ r ∷ []) next new (one before tally) rest)
