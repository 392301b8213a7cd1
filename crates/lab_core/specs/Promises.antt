-- THE PROMISES OF A BATCH, after some of its runs.
use Rattle.std.specs.Prelude.{◌≡◌, Ok, ◌≤◌, ◌<◌, ◌+◌, ℕ, Bool, true, false, List, [], ◌∷◌, ◌++◌, length}
use Rattle.std.specs.List.{list_any}
use Rattle.lab_base.specs.Lists.{Has}
use Rattle.lab_ahead.specs.declared.batch.Batch.{Batch}
use Rattle.lab_ahead.specs.declared.batch.Promise.{Promise}
use Rattle.lab_ahead.specs.declared.batch.Run.{Run}
use Rattle.lab_ahead.specs.declared.ends.End.{End}
use Rattle.lab_ahead.specs.declared.times.Left.{Left}
use Rattle.lab_ahead.specs.Batches.{batch_of_text}
use Rattle.lab_ahead.specs.Ends.{left_for}
use Rattle.lab_ahead.specs.Moments.{FitsAt}
use Rattle.records_model.specs.Labs.{LabState, lab_in}
use Rattle.script_text.specs.Replies.{served_of}
use Rattle.script_text.specs.declared.reply.FailedEnd.TheVariants as ends
use Rattle.script_text.specs.declared.reply.Reply.{Reply}
use Rattle.script_text.specs.declared.reply.Reply.TheVariants as replies
use Rattle.script_text.specs.declared.reply.Served.{Served}
use Rattle.lab_judge.specs.Serving.{claimers_of}

-- what is left for promises alone: a node that no experiment claims at once, and one that a single experiment claims, which the batch swapped in, from
-- its run's end on
abbrev pub left_for_promises : LabState → List End → List Left
left_for_promises u ends = left_for (claimers_of (length (lab_in u.lab).nodes) u.experiments) ends []

-- ALL PROMISES ARE KEPT in that lab: at each moment of each of these runs, from the batch's own moment up to and without the run's end, they fit on what
-- is left then
abbrev pub AreKept : LabState → ℕ → List Promise → List End → Type 0
AreKept u moment promises ends = (end : End) (t : ℕ) → Has ends end → moment ≤ t → t < end.at → FitsAt (lab_in u.lab) (left_for_promises u ends) promises t

-- THE RUNS THAT WERE ANSWERED `in`, each with its end, by the replies to the first runs of a batch
abbrev pub end_if : ℕ → Run → Reply → List End
end_if moment run (replies.In exp) = record { exp = run.exp; at = moment + run.length } ∷ []
end_if moment run reply = []

abbrev pub ends_of : ℕ → List Run → List Reply → List End
ends_of moment runs [] = []
ends_of moment [] (reply ∷ told) = []
ends_of moment (run ∷ runs) (reply ∷ told) = end_if moment run reply ++ ends_of moment runs told

-- the reply tells that an experiment is stuck
abbrev pub is_stuck_reply : Reply → Bool
is_stuck_reply (replies.Failed exp ends.Stuck what) = true
is_stuck_reply reply = false

abbrev pub some_stuck : List Reply → Bool
some_stuck told = list_any is_stuck_reply told

-- A BATCH KEEPS ITS PROMISES: its text has promises and runs, and its reply is that of the runs, in order. Unless an experiment got stuck, in the lab after
-- it all its promises are kept in all the runs that were answered `in`.
abbrev pub KeepsPromises : ℕ → List ℕ → Served → LabState → Type 0
KeepsPromises moment text served u =
    (batch : Batch) × (told : List Reply) × (batch_of_text text ≡ Ok batch) × (served ≡ served_of told) × (some_stuck told ≡ false → AreKept u moment batch.promises (ends_of moment batch.runs told))
