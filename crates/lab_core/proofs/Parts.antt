-- A command of a list, by its task: it can be done, and what is told of it.
use Rattle.std.proofs.Common.{◌≡◌, ◌≢◌, ◌<◌, ℕ, Bool, true, false, nat_le, List, length, Some, sym, ap, ◌∙◌}
use Rattle.std.proofs.lemmas.Bool.{leb-false}
use Rattle.std.proofs.lemmas.Option.{same_Some}
use Rattle.lab_base.specs.declared.what.What.{What}
use Rattle.lab_base.specs.declared.what.What.TheVariants.{Journal}
use Rattle.script_text.specs.Replies.{closes}
use Rattle.script_text.specs.declared.reply.FailedEnd.{FailedEnd}
use Rattle.script_text.specs.declared.reply.FailedEnd.TheVariants as ends
use Rattle.script_text.specs.declared.reply.Reply.{Reply}
use Rattle.script_text.specs.declared.reply.Reply.TheVariants as replies
use Rattle.swap_mgr.specs.Open.{HasOpen}
use Rattle.swap_txn.specs.declared.live.Live.{Live}
use Rattle.lab_tasks.specs.OpenNames.{has_open}
use Rattle.lab_core.specs.InTurn.{IsPart, stuck_by_journal}
use Rattle.lab_core.specs.Swapping.{IsSwapReply}
use Rattle.lab_tasks.proofs.Busy.{open_busy}

-- a reply that tells of no swap that has begun
abbrev pub is_more : Reply → Bool
is_more (replies.More exp) = true
is_more reply = false

pub no_more : (reply : Reply) → is_more reply ≡ false → (name : List ℕ) → reply ≢ replies.More name
no_more reply is name same = let both : true ≡ false = sym (ap is_more same) ∙ is in absurd (cc both)

-- one that is mild
pub calm_part : (exp : List ℕ) (reply : Reply) → is_more reply ≡ false → closes reply ≡ false → IsPart exp reply
calm_part exp reply more calm = record { ended = no_more reply more; shuts = λ shut. let both : true ≡ false = sym shut ∙ calm in absurd (cc both) }

-- what is told of a swap of the experiment is a part's
module _ (exp : List ℕ) where
  failed_shuts : (own : List ℕ) → own ≡ exp → (end : FailedEnd) (what : What) → closes (replies.Failed own end what) ≡ true → replies.Failed own end what ≡ stuck_by_journal exp
  failed_shuts own same ends.Stuck Journal shut = ap stuck_by_journal same
  failed_shuts own same end what shut = absurd (cc shut)

  pub swap_part : (name : List ℕ) → name ≡ exp → (reply : Reply) → IsSwapReply name reply → IsPart exp reply
  swap_part name same (replies.In own) is = record { ended = λ n more. absurd (cc more); shuts = λ shut. absurd (cc shut) }
  swap_part name same (replies.Out own) is = record { ended = λ n more. absurd (cc more); shuts = λ shut. absurd (cc shut) }
  swap_part name same (replies.FullJournal length) is = record { ended = λ n more. absurd (cc more); shuts = λ shut. absurd (cc shut) }
  swap_part name same (replies.Failed own end what) is = record { ended = λ n more. absurd (cc more); shuts = λ shut. failed_shuts own (is ∙ same) end what shut }
  swap_part name same reply is = absurd is

-- a swap of an experiment that has none open, where there is room for one more
pub swap_ready : (swaps : List Live) (exp name : List ℕ) → (Some exp ≡ Some name) × (has_open swaps exp ≡ false) × (nat_le 16 (length swaps) ≡ false) → (HasOpen swaps name → ⊥) × (length swaps < 16)
swap_ready swaps exp name h =
    let same : exp ≡ name = same_Some exp name h.0 in
    (λ one. let both : true ≡ false = sym (open_busy swaps name one) ∙ ap (has_open swaps) (sym same) ∙ h.1 in absurd (cc both), leb-false 16 (length swaps) h.2)
