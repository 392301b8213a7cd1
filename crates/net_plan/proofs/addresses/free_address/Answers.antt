use Rattle.std.proofs.Common.{◌≡◌, ℕ, suc, ◌+◌, ◌-◌, ◌*◌, ◌<◌, ◌≤◌, Bool, true, false, not, cond, Some, None, map, refl, sym, ap, ◌∙◌, arith}
use Rattle.std.specs.List.{find, range_with_len}
use Rattle.net_plan.specs.Addresses.{hosts, uses}
use Rattle.net_plan.proofs.addresses.free_address.Goals as goal

next_host : (p : ℕ → Bool) (f : ℕ → ℕ) (host : ℕ) → host < 255 → find p (map f (range_with_len host (255 - host))) ≡ cond (p (f host)) (Some (f host)) (find p (map f (range_with_len (host + 1) (255 - (host + 1)))))
next_host p f host lt =
    let more : 255 - host ≡ suc (255 - (host + 1)) = omega arith in
    ap (λ (n : ℕ). find p (map f (range_with_len host n))) more

no_host : (p : ℕ → Bool) (f : ℕ → ℕ) (host : ℕ) → 255 ≤ host → find p (map f (range_with_len host (255 - host))) ≡ None
no_host p f host le =
    let none : 255 - host ≡ 0 = omega arith in
    ap (λ (n : ℕ). find p (map f (range_with_len host n))) none

pub loop-host-init : goal.loop-host-init
unfolding hosts
loop-host-init c = refl

pub loop-host-preserved : goal.loop-host-preserved
loop-host-preserved c =
    let p : ℕ → Bool = λ a. not (uses c.args.used.now a) in
    let f : ℕ → ℕ = λ host. c.args.subnet * 256 + host in
    let test : p (f c.loop-host.host) ≡ false = ap not (sym c.if-not-contains.ensures) in
    c.loop-host.invariant ∙ next_host p f c.loop-host.host c.loop-host-test.true ∙ rw test refl

pub returns-then-not-contains : goal.returns-then-not-contains
returns-then-not-contains c =
    let p : ℕ → Bool = λ a. not (uses c.args.used.now a) in
    let f : ℕ → ℕ = λ host. c.args.subnet * 256 + host in
    let test : p (f c.loop-host.host) ≡ true = ap not (sym c.if-not-contains.ensures) in
    sym (c.loop-host.invariant ∙ next_host p f c.loop-host.host c.loop-host-test.true ∙ rw test refl)

pub returns : goal.returns
returns c = sym (c.loop-host.invariant ∙ no_host (λ a. not (uses c.args.used.now a)) (λ host. c.args.subnet * 256 + host) c.loop-host.host (omega arith))
