use Rattle.std.specs.Prelude.{is_none}
use Rattle.std.specs.List.{count_by}
use Rattle.std.proofs.Common.{◌≡◌, ℕ, ◌+◌, ◌<◌, List, Option, length, map, get_or, ap, ◌∙◌, subst}
use Rattle.claims.specs.declared.claim.Entry.{Entry}
use Rattle.claims.specs.Held.{Held, IsLeftTo, use_by, others}
use Rattle.claims.specs.Counts.{is_free_to}
use Rattle.claims.proofs.Leavings.{left_to_so}
use Rattle.claims.proofs.claims.Claims.free_without.Goals as goal

pub returns : goal.returns
returns c =
    let s = c.self.inside in
    let exp = c.args.exp in
    let kbps = s.kbps.items in
    let es = s.entries.items in
    let nodes = c.in_ok-nodes.ensures ∙ ap (λ (l : List (Option (List ℕ))). map (is_free_to exp) l) c.deref-2.ensures.value in
    let len = c.in_ok-left.ensures.len ∙ ap (λ (l : List ℕ). length l) c.deref-3.ensures.value in
    let left : (t : ℕ) → t < length kbps → get_or c.in_ok-left.left t 0 + use_by t (others exp es) ≡ get_or kbps t 0 =
    subst (λ (l : List ℕ). (t : ℕ) → t < length l → get_or c.in_ok-left.left t 0 + use_by t (others exp es) ≡ get_or l t 0) c.deref-3.ensures.value
    (subst (λ (l : List Entry). (t : ℕ) → t < length c.deref-3.result.now → get_or c.in_ok-left.left t 0 + use_by t (others exp l) ≡ get_or c.deref-3.result.now t 0) c.deref-5.ensures.value c.in_ok-left.ensures.left) in
    let vlans = c.free_in-vlans.ensures ∙ ap (λ (l : List (Option (List ℕ))). count_by is_none l) c.deref.ensures.value in
    subst (λ (h : Held). IsLeftTo h exp (record { nodes = c.in_ok-nodes.nodes; left = c.in_ok-left.left; vlans = c.free_in-vlans.result })) c.self.view_is
    (left_to_so s.range kbps es s.tables exp c.in_ok-nodes.nodes c.in_ok-left.left c.free_in-vlans.result c.self.invariant.keeps nodes len left vlans)
