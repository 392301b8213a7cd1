-- The first words of replies.
use Rattle.std.proofs.Common.{[], ◌∷◌, refl}
use Rattle.script_text.specs.declared.reply.Reply.{Reply}
use Rattle.script_text.specs.declared.reply.Reply.TheVariants as replies
use Rattle.lab_gen.specs.Summary.{HasWords}

pub words : (reply : Reply) → HasWords reply
words (replies.Lab switches nodes trunks) = record { lab = refl; created = refl; inside = refl; outside = refl }
words (replies.Created exp nodes segments) = record { lab = refl; created = refl; inside = refl; outside = refl }
words (replies.Shown exp phase top placed) = record { lab = refl; created = refl; inside = refl; outside = refl }
words (replies.Least exp cost solution) = record { lab = refl; created = refl; inside = refl; outside = refl }
words (replies.Local exp cost solution) = record { lab = refl; created = refl; inside = refl; outside = refl }
words (replies.NoneFits exp) = record { lab = refl; created = refl; inside = refl; outside = refl }
words (replies.GaveUp exp) = record { lab = refl; created = refl; inside = refl; outside = refl }
words (replies.Deleted exp) = record { lab = refl; created = refl; inside = refl; outside = refl }
words (replies.Listed [] nodes vlans) = record { lab = refl; created = refl; inside = refl; outside = refl }
words (replies.Listed (e ∷ experiments) nodes vlans) = record { lab = refl; created = refl; inside = refl; outside = refl }
words replies.NoLab = record { lab = refl; created = refl; inside = refl; outside = refl }
words replies.LabIsSet = record { lab = refl; created = refl; inside = refl; outside = refl }
words (replies.Exists exp) = record { lab = refl; created = refl; inside = refl; outside = refl }
words (replies.Unknown exp) = record { lab = refl; created = refl; inside = refl; outside = refl }
words (replies.In exp) = record { lab = refl; created = refl; inside = refl; outside = refl }
words (replies.Out exp) = record { lab = refl; created = refl; inside = refl; outside = refl }
words (replies.More exp) = record { lab = refl; created = refl; inside = refl; outside = refl }
words (replies.Trouble exp what) = record { lab = refl; created = refl; inside = refl; outside = refl }
words (replies.Failed exp end what) = record { lab = refl; created = refl; inside = refl; outside = refl }
words (replies.Recovered done stuck) = record { lab = refl; created = refl; inside = refl; outside = refl }
words (replies.Played exp played last closing blaming) = record { lab = refl; created = refl; inside = refl; outside = refl }
words (replies.Wait exp at need have kinds) = record { lab = refl; created = refl; inside = refl; outside = refl }
words (replies.Served served) = record { lab = refl; created = refl; inside = refl; outside = refl }
words (replies.Audit lines) = record { lab = refl; created = refl; inside = refl; outside = refl }
words (replies.Unread name) = record { lab = refl; created = refl; inside = refl; outside = refl }
words replies.Planned = record { lab = refl; created = refl; inside = refl; outside = refl }
words replies.NoDrill = record { lab = refl; created = refl; inside = refl; outside = refl }
words (replies.Infeasible exp rule subject) = record { lab = refl; created = refl; inside = refl; outside = refl }
words (replies.IsOut exp) = record { lab = refl; created = refl; inside = refl; outside = refl }
words (replies.IsIn exp) = record { lab = refl; created = refl; inside = refl; outside = refl }
words (replies.IsMoving exp) = record { lab = refl; created = refl; inside = refl; outside = refl }
words (replies.Busy exp) = record { lab = refl; created = refl; inside = refl; outside = refl }
words (replies.NotOpen exp) = record { lab = refl; created = refl; inside = refl; outside = refl }
words (replies.Bad exp fault) = record { lab = refl; created = refl; inside = refl; outside = refl }
words (replies.BadPtop fault) = record { lab = refl; created = refl; inside = refl; outside = refl }
words (replies.BadBatch fault) = record { lab = refl; created = refl; inside = refl; outside = refl }
words replies.FullExperiments = record { lab = refl; created = refl; inside = refl; outside = refl }
words replies.FullSwaps = record { lab = refl; created = refl; inside = refl; outside = refl }
words (replies.FullJournal length) = record { lab = refl; created = refl; inside = refl; outside = refl }
words replies.Down = record { lab = refl; created = refl; inside = refl; outside = refl }
words replies.Stopped = record { lab = refl; created = refl; inside = refl; outside = refl }
