use Rattle.std.proofs.Common.{◌≡◌, ℕ, ◌+◌, Bool, true, false, not, List, drop, take, sym, ap, ◌∙◌}
use Rattle.std.specs.Prelude.{◌||◌}
use Rattle.std.specs.Bool.{OnTrue}
use Rattle.std.proofs.lemmas.Bool.{not-true, not-false}
use Rattle.virt_topo.specs.declared.wiring.VirtEnd.{VirtEnd}
use Rattle.net_plan.specs.Addresses.{addresses_of, ends_of, uses, all_taken, repeats}
use Rattle.net_plan.proofs.AddressLaws.{repeats-none, links_used, links_to, all_taken-append}
use Rattle.net_plan.proofs.explicit.use_all_explicit.Goals as goal

on_true : (b : Bool) (P : Type 0) → b ≡ true → OnTrue b P → P
on_true true P is h = h
on_true false P is h = absurd (cc is)

pub loop-link-init : goal.loop-link-init
loop-link-init c =
    record {
      used = ap uses c.requires;
      free = sym (repeats-none (addresses_of (ends_of c.args.links.now))) ∙ ap (λ (l : List ℕ). repeats (uses l) (addresses_of (ends_of c.args.links.now))) (sym c.requires);
    }

-- what is found of the ends of the link is found of them
pub returns-then-not-branch-clause-free : goal.returns-then-not-branch-clause-free
returns-then-not-branch-clause-free c =
    let used : ℕ → Bool = uses c.loop-link.used in
    let links = c.args.links.now in
    let i = c.loop-link.link-index in
    let l = c.link-item.result in
    let found : repeats used (addresses_of c.as_slice.result.now) ≡ true = not-false _ (sym c.in_ok-use_explicit.ensures.free ∙ c.if-not-branch.true) in
    let own : repeats used (addresses_of l.ends) ≡ true = ap (λ (es : List VirtEnd). repeats used (addresses_of es)) (sym c.as_slice.ensures) ∙ found in
    let later = repeats (all_taken used (addresses_of l.ends)) (addresses_of (ends_of (drop (i + 1) links))) in
    sym (ap not (c.loop-link.invariant.free ∙ links_used used links i l c.loop-link-test.true c.link-item.is ∙ ap (λ (b : Bool). b || later) own))

pub loop-link-preserved : goal.loop-link-preserved
loop-link-preserved c =
    let used : ℕ → Bool = uses c.loop-link.used in
    let links = c.args.links.now in
    let i = c.loop-link.link-index in
    let l = c.link-item.result in
    let found : repeats used (addresses_of c.as_slice.result.now) ≡ false = not-true _ (sym c.in_ok-use_explicit.ensures.free ∙ c.if-not-branch.false) in
    let own : repeats used (addresses_of l.ends) ≡ false = ap (λ (es : List VirtEnd). repeats used (addresses_of es)) (sym c.as_slice.ensures) ∙ found in
    let now : uses c.use_explicit.new.used ≡ all_taken used (addresses_of c.as_slice.result.now) = on_true _ _ c.if-not-branch.false c.in_ok-use_explicit.ensures.used in
    let next : uses c.use_explicit.new.used ≡ all_taken used (addresses_of l.ends) = now ∙ ap (λ (es : List VirtEnd). all_taken used (addresses_of es)) c.as_slice.ensures in
    let later : (ℕ → Bool) → Bool = λ u. repeats u (addresses_of (ends_of (drop (i + 1) links))) in
    record {
      used = next ∙ ap (λ (u : ℕ → Bool). all_taken u (addresses_of l.ends)) c.loop-link.invariant.used
          ∙ sym (ap (all_taken (λ a. false)) (links_to links i l c.loop-link-test.true c.link-item.is) ∙ all_taken-append (λ a. false) (addresses_of (ends_of (take i links))) (addresses_of l.ends));
      free = c.loop-link.invariant.free ∙ links_used used links i l c.loop-link-test.true c.link-item.is ∙ ap (λ (b : Bool). b || later (all_taken used (addresses_of l.ends))) own ∙ ap later (sym next);
    }
