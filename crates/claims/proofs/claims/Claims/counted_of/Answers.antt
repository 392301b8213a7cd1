use Rattle.std.proofs.Common.{ℕ, List, Option, ap, ◌∙◌}
use Rattle.std.specs.List.{count_by}
use Rattle.claims.specs.Held.{Held, nodes_of, ids_of, claim_named}
use Rattle.claims.specs.Counts.{is_owned_by}
use Rattle.claims.proofs.Counting.{nodes_owned, ids_owned}
use Rattle.claims.proofs.claims.Claims.counted_of.Goals as goal

pub returns-clause-nodes : goal.returns-clause-nodes
returns-clause-nodes c =
    let s = c.self.inside in
    c.owned_in-nodes.ensures ∙ ap (λ (l : List (Option (List ℕ))). count_by (is_owned_by c.args.exp) l) c.deref.ensures.value ∙ nodes_owned s.range s.kbps.items s.entries.items s.tables c.self.invariant.keeps c.args.exp ∙ ap (λ (h : Held). nodes_of h.nodes (claim_named c.args.exp h.entries)) c.self.view_is

pub returns-clause-ids : goal.returns-clause-ids
returns-clause-ids c =
    let s = c.self.inside in
    c.owned_in-ids.ensures ∙ ap (λ (l : List (Option (List ℕ))). count_by (is_owned_by c.args.exp) l) c.deref-2.ensures.value ∙ ids_owned s.range s.kbps.items s.entries.items s.tables c.self.invariant.keeps c.args.exp ∙ ap (λ (h : Held). ids_of h.range (claim_named c.args.exp h.entries)) c.self.view_is
