use Rattle.std.specs.Prelude.{is_none}
use Rattle.std.specs.List.{count_by}
use Rattle.std.proofs.Common.{◌≡◌, ℕ, List, Option, length, take, ap, ◌∙◌, arith}
use Rattle.claims.specs.Held.{Held, free_ids}
use Rattle.claims.specs.Counts.{free_from}
use Rattle.claims.proofs.Counting.{ids_free, all_free}
use Rattle.claims.proofs.claims.Claims.take_vlans.Goals as goal

pub returns-then-free-n : goal.returns-then-free-n
returns-then-free-n c =
    let s = c.self.inside in (
      c.free_in-free.ensures ∙ ap (λ (l : List (Option (List ℕ))). count_by is_none l) c.deref.ensures.value ∙ ids_free s.range s.kbps.items s.entries.items s.tables c.self.invariant.keeps ∙ ap (λ (h : Held). length (free_ids h)) c.self.view_is,
      c.if-free-n.true,
    )

pub returns : goal.returns
returns c =
    let s = c.self.inside in
    let many : c.free_in-free.result ≡ length (free_ids c.args.self.now) =
    c.free_in-free.ensures ∙ ap (λ (l : List (Option (List ℕ))). count_by is_none l) c.deref.ensures.value ∙ ids_free s.range s.kbps.items s.entries.items s.tables c.self.invariant.keeps ∙ ap (λ (h : Held). length (free_ids h)) c.self.view_is in (
      omega (arith, many, c.if-free-n.false),
      c.in_ok-first_free.ensures ∙ ap (λ (l : List (Option (List ℕ))). take c.args.n (free_from s.range.0 l)) c.deref-2.ensures.value
          ∙ ap (take c.args.n) (all_free s.range s.kbps.items s.entries.items s.tables c.self.invariant.keeps ∙ ap (λ (h : Held). free_ids h) c.self.view_is),
    )
