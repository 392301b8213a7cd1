-- The condition under which a claim may be added, and the claims after each call.
use Rattle.std.specs.Prelude.{◌≡◌, ◌<◌, ◌≤◌, ◌+◌, ℕ, Bool, List, [], ◌∷◌, ◌++◌, length, slice_index_or, Option, None, Some, IfSome, if◌then◌else◌}
use Rattle.lab_base.specs.Lists.{Has, AllDiffer}
use Rattle.claims.specs.declared.claim.Claim.{Claim}
use Rattle.claims.specs.declared.claim.Entry.{Entry}
use Rattle.claims.specs.Held.{Held, claim_nodes, claim_tags, claim_use, use_by, claim_named, others}

-- each trunk has its use, on each side of the claim
pub record HasUses (trunks : ℕ) (c : Claim) : Type 0 where
  pub old : IfSome c.old (λ h. length h.uses ≡ trunks)
  pub new : IfSome c.new (λ h. length h.uses ≡ trunks)

-- each number of the claim names something, each trunk has its use, and the VLAN ids differ
pub record IsWithin (held : Held) (c : Claim) : Type 0 where
  pub nodes : (n : ℕ) → Has (claim_nodes c) n → n < held.nodes
  pub tags : (id : ℕ) → Has (claim_tags c) id → (held.range.0 ≤ id) × (id ≤ held.range.1)
  pub differ : AllDiffer (claim_tags c)
  pub old_uses : IfSome c.old (λ h. length h.uses ≡ length held.kbps)
  pub new_uses : IfSome c.new (λ h. length h.uses ≡ length held.kbps)

-- the claims have no node and no VLAN id in common
pub record ShareNothing (c d : Claim) : Type 0 where
  pub nodes : (n : ℕ) → Has (claim_nodes c) n → Has (claim_nodes d) n → ⊥
  pub tags : (id : ℕ) → Has (claim_tags c) id → Has (claim_tags d) id → ⊥

-- THE CLAIM MAY BE ADDED: beside the claims of the others, and each trunk has room for it
pub record MayAdd (held : Held) (exp : List ℕ) (c : Claim) : Type 0 where
  pub within : IsWithin held c
  pub apart : (e : Entry) → Has (others exp held.entries) e → ShareNothing e.claim c
  pub trunks : (t : ℕ) → t < length held.kbps → use_by t (others exp held.entries) + claim_use t c ≤ slice_index_or held.kbps t 0

-- the claims with that one in the place of the experiment's; without it; with one side of it, as the claim of an experiment that stands
abbrev pub with_entries : Held → List Entry → Held
with_entries held es = record { range = held.range; nodes = held.nodes; kbps = held.kbps; entries = es }

abbrev pub with_claim : List ℕ → Claim → Held → Held
with_claim exp c held = with_entries held (others exp held.entries ++ record { exp = exp; claim = c } ∷ [])

abbrev pub without : List ℕ → Held → Held
without exp held = with_entries held (others exp held.entries)

abbrev pub side_of : Bool → Claim → Claim
side_of keep_new c = record { old = None; new = if keep_new then c.new else c.old }

abbrev pub narrowed_to : Option Claim → List ℕ → Held → Held
narrowed_to None exp held = held
narrowed_to (Some c) exp held = with_claim exp c held

abbrev pub narrowed_side : Bool → Option Claim → Option Claim
narrowed_side keep_new None = None
narrowed_side keep_new (Some c) = Some (side_of keep_new c)

abbrev pub narrowed : List ℕ → Bool → Held → Held
narrowed exp keep_new held = narrowed_to (narrowed_side keep_new (claim_named exp held.entries)) exp held
