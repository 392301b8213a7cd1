-- The claims of the experiments of a lab.
use Rattle.std.specs.Prelude.{◌≡◌, ◌≢◌, List, length, map, Option, None, Some}
use Rattle.lab_base.specs.Lists.{Has, Apart}
use Rattle.phys_lab.specs.Labs.{Lab}
use Rattle.virt_topo.specs.declared.experiment.Experiment.{Experiment}
use Rattle.virt_topo.specs.declared.experiment.Phase.{Phase}
use Rattle.virt_topo.specs.declared.experiment.Phase.TheVariants.{Out, In, Moving}
use Rattle.claims.specs.declared.claim.Claim.{Claim}
use Rattle.claims.specs.declared.claim.Entry.{Entry}
use Rattle.claims.specs.Held.{Held, claim_named}
use Rattle.claims.specs.Holds.{claim_of}

-- the claim that stands for an experiment in that phase: none while it is out
abbrev pub standing_in : Lab → Experiment → Phase → Option Claim
standing_in lab e Out = None
standing_in lab e (In mapping tags) = Some (claim_of lab e)
standing_in lab e (Moving old new) = Some (claim_of lab e)

abbrev pub standing : Lab → Experiment → Option Claim
standing lab e = standing_in lab e e.phase

-- THE CLAIMS ARE THOSE OF THESE EXPERIMENTS: on the lab's range, nodes and trunks each experiment that isn't out has its claim, once, and no other
-- name has one
pub record ClaimsOf (lab : Lab) (es : List Experiment) (held : Held) : Type 0 where
  pub range : held.range ≡ lab.range
  pub nodes : held.nodes ≡ length lab.nodes
  pub kbps : held.kbps ≡ map (λ t. t.kbps) lab.trunks
  pub once : Apart (λ f g. f.exp ≢ g.exp) held.entries
  pub known : (f : Entry) → Has held.entries f → (e : Experiment) × Has es e × (e.name ≡ f.exp)
  pub claims : (e : Experiment) → Has es e → claim_named e.name held.entries ≡ standing lab e
