use Rattle.std.proofs.Common.{[]}
use Rattle.folder_rows.proofs.limits.reply_under.Goals as goal

-- a controller that was opened works with no open swap
pub third_reply-requires : goal.third_reply-requires
third_reply-requires c c' = record { works = ([], c'.in-Ok.ensures.works) }
