use Rattle.std.proofs.Common.{refl}
use Rattle.claims.proofs.laws.none.Goals as goal

pub returns : goal.returns
returns c = λ lab. record { range = refl; nodes = refl; kbps = refl; once = tt; known = λ f h. absurd h; claims = λ e h. absurd h }
