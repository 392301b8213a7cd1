-- Takers of replies, which take the reply to each command.
use Rattle.std.specs.Prelude.{◌≡◌, List, [], ◌∷◌, ◌++◌}
use Rattle.std.specs.List.{filter_map}
use Rattle.script_text.specs.declared.reply.Reply.{Reply}
use Rattle.lab_gen.specs.Summary.{IsTally}
use Rattle.lab_top.specs.Pieces.{Begun}
use Rattle.lab_top.specs.declared.reply_takers.Counter.{Counter}

-- a counter counts a reply
abbrev pub Counts : Counter → Reply → Counter → Type 0
Counts old reply new = (replies : List Reply) → IsTally old.tally replies → IsTally new.tally (replies ++ reply ∷ [])

-- IT TOOK these replies, one after another
abbrev pub Took : {A : Type 0} → (A → Reply → A → Type 0) → A → List Reply → A → Type 0
Took takes old [] new = new ≡ old
Took {A} takes old (reply ∷ replies) new = (mid : A) × takes old reply mid × Took takes mid replies new

-- the replies of the commands that were begun
abbrev pub replies_of : List Begun → List Reply
replies_of made = filter_map (λ b. b.piece.reply) made
