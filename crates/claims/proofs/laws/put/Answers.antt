use Rattle.claims.specs.Holds.{claim_of}
use Rattle.claims.proofs.Replacing.{put_claims, stands}
use Rattle.claims.proofs.laws.put.Goals as goal

pub returns : goal.returns
returns c = λ lab a b e f held names of_es name not_out. put_claims lab a b e held names of_es f (claim_of lab f) name (stands lab f not_out)
