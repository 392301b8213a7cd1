use Rattle.std.proofs.Common.{◌≡◌, false, not, ap, arith}
use Rattle.script_text.specs.Replies.{closes}
use Rattle.folder_rows.proofs.limits.obeyed.Goals as goal

-- it works with the swaps that are open after the command
pub returns-else-closes : goal.returns-else-closes
returns-else-closes g c =
    let works = c.requires.works in
    let o = c.in-Ok.ensures.obeys works.0 (g.P.Plant.seen c.args.plant.now).faults.devices (omega arith) works.1 in
    let goes : closes c.in-Ok.reply ≡ false = cc (c.closes.ensures, c.if-closes.false) in
    record { works = (o.to, o.works (ap not goes)) }
