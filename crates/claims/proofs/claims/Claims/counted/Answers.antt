use Rattle.std.proofs.Common.{List, Option, length, ap, ◌∙◌}
use Rattle.std.specs.Prelude.{is_none}
use Rattle.std.specs.List.{count_by}
use Rattle.claims.specs.Held.{Held, free_nodes, free_ids}
use Rattle.claims.proofs.Counting.{nodes_free, ids_free}
use Rattle.claims.proofs.claims.Claims.counted.Goals as goal

pub returns-clause-nodes : goal.returns-clause-nodes
returns-clause-nodes c =
    let s = c.self.inside in
    c.free_in-nodes.ensures ∙ ap (λ (l : List (Option (List Rattle.std.specs.Prelude.ℕ))). count_by is_none l) c.deref.ensures.value ∙ nodes_free s.range s.kbps.items s.entries.items s.tables c.self.invariant.keeps ∙ ap (λ (h : Held). free_nodes h) c.self.view_is

pub returns-clause-ids : goal.returns-clause-ids
returns-clause-ids c =
    let s = c.self.inside in
    c.free_in-ids.ensures ∙ ap (λ (l : List (Option (List Rattle.std.specs.Prelude.ℕ))). count_by is_none l) c.deref-2.ensures.value ∙ ids_free s.range s.kbps.items s.entries.items s.tables c.self.invariant.keeps ∙ ap (λ (h : Held). length (free_ids h)) c.self.view_is
