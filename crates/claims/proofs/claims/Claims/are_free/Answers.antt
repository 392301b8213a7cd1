use Rattle.std.specs.List.{list_all}
use Rattle.std.proofs.Common.{List, Option, ℕ, sym, ap, ◌∙◌}
use Rattle.claims.specs.Answered.{are_free_ids}
use Rattle.claims.specs.Counts.{is_free_id}
use Rattle.claims.proofs.FreeIds.{ids_free}
use Rattle.claims.proofs.claims.Claims.are_free.Goals as goal

pub returns-then-all_differ : goal.returns-then-all_differ
returns-then-all_differ c =
    let s = c.self.inside in
    let tags = c.as_slice-tags.result.now in
    c.all_free.ensures ∙ ap (λ (l : List (Option (List ℕ))). list_all (λ tag. is_free_id s.range.0 l tag.0) tags) c.deref.ensures.value
    ∙ ids_free s.range s.kbps.items s.entries.items s.tables c.self.invariant.keeps tags (sym c.all_differ.ensures ∙ c.if-all_differ.true)
    ∙ (λ i. are_free_ids (c.self.view_is i) (c.as_slice-tags.ensures i))
