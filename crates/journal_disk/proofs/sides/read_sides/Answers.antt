use Rattle.std.proofs.Common.{◌≡◌, ℕ, nat_lt, take, refl, sym, ap, subst, ◌∙◌}
use Rattle.std.specs.Prelude.{IfSome}
use Rattle.plant.specs.Disks.{disk}
use Rattle.plant.specs.declared.step.Side.{Side}
use Rattle.plant.specs.declared.step.Side.TheVariants.{A, B}
use Rattle.journal_model.specs.Journals.{head, live}
use Rattle.journal_disk.specs.Heads.{seen_live}
use Rattle.journal_disk.specs.declared.sides.Front.{Front}
use Rattle.journal_disk.proofs.Fronts.{before, either_of, live_seen, none_seen, on_either}
use Rattle.journal_disk.proofs.sides.read_sides.Goals as goal

pub returns-in-New-clause-sides : goal.returns-in-New-clause-sides
returns-in-New-clause-sides g c =
    let told = (g.P.Plant.seen c.args.plant.now).told in
    let one = (g.P.Plant.seen c.read_front.new.plant).told in
    let fa = c.in_ok-a.a.bytes.items in
    let fb = c.in_ok-b.b.bytes.items in
    let on_b = before (λ t. fb ≡ take 18 (disk B t.trace).reads) told one c.in_ok-a.ensures.trace c.in_ok-b.ensures.front in
    let live_side = c.place_in-live_side.ensures ∙ (λ i. seen_live (live (head (c.deref.ensures.value i)) (head (c.deref-2.ensures.value i)))) in
    let short = ap (λ (n : ℕ). nat_lt n 18) (c.len-is_short.ensures ∙ c.in_ok-a.a.bytes.ok.0) in
    none_seen told c.no_live.result fa fb c.in_ok-a.ensures.front on_b (c.no_live.ensures.live_side ∙ live_side) (c.no_live.ensures.is_short ∙ short)
    (λ side here. cc (sym (c.no_live.ensures.live_side ∙ c.in-New.is) ∙ here))

pub returns-in-Wrong-clause-sides : goal.returns-in-Wrong-clause-sides
returns-in-Wrong-clause-sides g c =
    let told = (g.P.Plant.seen c.args.plant.now).told in
    let one = (g.P.Plant.seen c.read_front.new.plant).told in
    let fa = c.in_ok-a.a.bytes.items in
    let fb = c.in_ok-b.b.bytes.items in
    let on_b = before (λ t. fb ≡ take 18 (disk B t.trace).reads) told one c.in_ok-a.ensures.trace c.in_ok-b.ensures.front in
    let live_side = c.place_in-live_side.ensures ∙ (λ i. seen_live (live (head (c.deref.ensures.value i)) (head (c.deref-2.ensures.value i)))) in
    let short = ap (λ (n : ℕ). nat_lt n 18) (c.len-is_short.ensures ∙ c.in_ok-a.a.bytes.ok.0) in
    let none = c.no_live-in-Wrong in
    none_seen told none.result fa fb c.in_ok-a.ensures.front on_b (none.ensures.live_side ∙ live_side) (none.ensures.is_short ∙ short)
    (λ side here. cc (sym (none.ensures.live_side ∙ c.in-Wrong.is) ∙ here))

pub read_whole-requires-clause-front : goal.read_whole-requires-clause-front
read_whole-requires-clause-front g c =
    let one = (g.P.Plant.seen c.read_front.new.plant).told in
    let two = (g.P.Plant.seen c.read_front-2.new.plant).told in
    let a = c.in_ok-a.a in
    let b = c.in_ok-b.b in
    let on_a = before (λ t. a.bytes.items ≡ take 18 (disk A t.trace).reads) two _ (sym (c.in_ok-b.ensures.trace ∙ c.in_ok-a.ensures.trace)) c.in_ok-a.ensures.front in
    let on_b = before (λ t. b.bytes.items ≡ take 18 (disk B t.trace).reads) two one (sym c.in_ok-b.ensures.trace) c.in_ok-b.ensures.front in
    subst (λ (f : Front). IfSome two (λ t. f.bytes.items ≡ take 18 (disk c.in-On.side t.trace).reads)) (sym c.front_of.ensures)
    (on_either (λ (side : Side) (f : Front). IfSome two (λ t. f.bytes.items ≡ take 18 (disk side t.trace).reads)) c.in-On.side a b on_a on_b)

pub returns-in_ok-live-in-On-clause-sides : goal.returns-in_ok-live-in-On-clause-sides
returns-in_ok-live-in-On-clause-sides g c =
    let told = (g.P.Plant.seen c.args.plant.now).told in
    let one = (g.P.Plant.seen c.read_front.new.plant).told in
    let fa = c.in_ok-a.a.bytes.items in
    let fb = c.in_ok-b.b.bytes.items in
    let on_b = before (λ t. fb ≡ take 18 (disk B t.trace).reads) told one c.in_ok-a.ensures.trace c.in_ok-b.ensures.front in
    let live_side = c.place_in-live_side.ensures ∙ (λ i. seen_live (live (head (c.deref.ensures.value i)) (head (c.deref-2.ensures.value i)))) in
    let short = ap (λ (n : ℕ). nat_lt n 18) (c.len-is_short.ensures ∙ c.in_ok-a.a.bytes.ok.0) in
    let two = (g.P.Plant.seen c.read_front-2.new.plant).told in
    let side = c.in-On.side in
    let bytes = c.in_ok-live-in-On.live.items in
    let reads = before (λ t. bytes ≡ (disk side t.trace).reads) told two (c.in_ok-b.ensures.trace ∙ c.in_ok-a.ensures.trace) c.in_ok-live-in-On.ensures.bytes in
    let front = c.in_ok-live-in-On.ensures.front ∙ ap (λ (f : Front). f.bytes.items) c.front_of.ensures ∙ either_of (λ (f : Front). f.bytes.items) side c.in_ok-a.a c.in_ok-b.b in
    live_seen told _ fa fb c.in_ok-a.ensures.front on_b (sym c.in-On.is ∙ live_side) short side bytes reads front refl refl
