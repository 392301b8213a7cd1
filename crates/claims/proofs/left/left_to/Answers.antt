use Rattle.std.proofs.Common.{◌≡◌, ℕ, ◌+◌, ◌<◌, List, length, get_or, sym, ◌∙◌}
use Rattle.lab_base.proofs.Members.{Has-get_or}
use Rattle.claims.specs.Held.{claim_use, use_by, others}
use Rattle.claims.proofs.Entries.{place_some, place_none}
use Rattle.std.proofs.lemmas.Result.{IfOk-weaker}
use Rattle.claims.proofs.Leavings.{left_beside_so, left_alone_so}
use Rattle.claims.proofs.left.left_to.Goals as goal

pub left_beside-requires-clause-old : goal.left_beside-requires-clause-old
left_beside-requires-clause-old c =
    let es = c.args.entries.now in
    let found = place_some c.args.exp es c.in-Some.at (sym c.place_of.ensures ∙ c.in-Some.is) in
    (c.requires.uses _ (Has-get_or es c.in-Some.at c.index-entries-at.result found.0)).old

pub left_beside-requires-clause-new : goal.left_beside-requires-clause-new
left_beside-requires-clause-new c =
    let es = c.args.entries.now in
    let found = place_some c.args.exp es c.in-Some.at (sym c.place_of.ensures ∙ c.in-Some.is) in
    (c.requires.uses _ (Has-get_or es c.in-Some.at c.index-entries-at.result found.0)).new

pub returns-in-Some-clause-left : goal.returns-in-Some-clause-left
returns-in-Some-clause-left c =
    let es = c.args.entries.now in
    let kbps = c.args.kbps.now in
    let used = c.args.used.now in
    let found = place_some c.args.exp es c.in-Some.at (sym c.place_of.ensures ∙ c.in-Some.is) in
    let claim = (get_or es c.in-Some.at c.index-entries-at.result).claim in
    IfOk-weaker c.left_beside.result (λ (left : List ℕ). (t : ℕ) → t < length kbps → get_or left t 0 + get_or used t 0 ≡ get_or kbps t 0 + claim_use t claim) (λ (left : List ℕ). (t : ℕ) → t < length kbps → get_or left t 0 + use_by t (others c.args.exp es) ≡ get_or kbps t 0)
    (λ left l. left_beside_so kbps used left es c.args.exp claim (found.2 c.index-entries-at.result) c.requires.used l) c.left_beside.ensures.left

pub returns-in-None-clause-left : goal.returns-in-None-clause-left
returns-in-None-clause-left c =
    let es = c.args.entries.now in
    let kbps = c.args.kbps.now in
    let used = c.args.used.now in
    let none = place_none c.args.exp es (sym c.place_of.ensures ∙ c.in-None.is) in
    IfOk-weaker c.left_alone.result (λ (left : List ℕ). (t : ℕ) → t < length kbps → get_or left t 0 + get_or used t 0 ≡ get_or kbps t 0) (λ (left : List ℕ). (t : ℕ) → t < length kbps → get_or left t 0 + use_by t (others c.args.exp es) ≡ get_or kbps t 0)
    (λ left l. left_alone_so kbps used left es c.args.exp none.0 c.requires.used l) c.left_alone.ensures.left
