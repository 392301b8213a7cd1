-- The invariant of claims: they stand beside one another, and the tables are theirs.
use Rattle.std.specs.Prelude.{◌≡◌, ◌≢◌, ◌<◌, ◌≤◌, ◌+◌, ℕ, List, length, slice_index_or, None, vec_capacity}
use Rattle.lab_base.specs.Lists.{Has, Apart}
use Rattle.claims.specs.declared.claim.Claim.{Claim}
use Rattle.claims.specs.declared.claim.Entry.{Entry}
use Rattle.claims.specs.declared.tables.Tables.{Tables}
use Rattle.claims.specs.declared.claims.Claims.TheInside.{Inside}
use Rattle.claims.specs.Held.{Held, claim_nodes, claim_tags, claim_use, use_by, owner_of, size_of}
use Rattle.claims.specs.Adding.{IsWithin, ShareNothing}

-- claims of two experiments
pub record AreTwo (e f : Entry) : Type 0 where
  pub names : e.exp ≢ f.exp
  pub share : ShareNothing e.claim f.claim

-- the claims stand beside one another
pub record StandTogether (held : Held) : Type 0 where
  pub within : (e : Entry) → Has held.entries e → IsWithin held e.claim
  pub apart : Apart AreTwo held.entries
  pub trunks : (t : ℕ) → t < length held.kbps → use_by t held.entries ≤ slice_index_or held.kbps t 0

-- by node and by VLAN id of the range the experiment that claims it, and by trunk what all claims use
pub record AreTables (held : Held) (tables : Tables) : Type 0 where
  pub trunks : length tables.used.items ≡ length held.kbps
  pub ids : length tables.ids.items ≡ size_of held.range
  pub nodes_are : (n : ℕ) → n < held.nodes → slice_index_or tables.nodes.items n None ≡ owner_of claim_nodes held.entries n
  pub used_is : (t : ℕ) → t < length held.kbps → slice_index_or tables.used.items t 0 ≡ use_by t held.entries
  pub ids_are : (i : ℕ) → i < size_of held.range → slice_index_or tables.ids.items i None ≡ owner_of claim_tags held.entries (held.range.0 + i)

abbrev pub held_in : ℕ × ℕ → List ℕ → List Entry → Tables → Held
held_in range kbps es tables = record { range = range; nodes = length tables.nodes.items; kbps = kbps; entries = es }

pub record Keeps (range : ℕ × ℕ) (kbps : List ℕ) (es : List Entry) (tables : Tables) : Type 0 where
  pub few_nodes : length tables.nodes.items ≤ 1024
  pub first_id : range.0 ≤ range.1
  pub last_id : range.1 ≤ 4094
  pub slow : (t : ℕ) → t < length kbps → slice_index_or kbps t 0 ≤ 1000000000
  pub together : StandTogether (held_in range kbps es tables)
  pub are_tables : AreTables (held_in range kbps es tables) tables

abbrev pub view_of : Inside → Held
view_of c = held_in c.range c.kbps.items c.entries.items c.tables

-- and there is room for the claims of as many experiments as there may be
pub record IsKept (c : Inside) : Type 0 where
  pub keeps : Keeps c.range c.kbps.items c.entries.items c.tables
  pub room : 256 ≤ vec_capacity c.entries

-- a claim that may stand beside these, which are of other experiments
pub record MayStand (held : Held) (exp : List ℕ) (c : Claim) : Type 0 where
  pub within : IsWithin held c
  pub names : (e : Entry) → Has held.entries e → e.exp ≢ exp
  pub apart : (e : Entry) → Has held.entries e → ShareNothing e.claim c
  pub trunks : (t : ℕ) → t < length held.kbps → use_by t held.entries + claim_use t c ≤ slice_index_or held.kbps t 0
