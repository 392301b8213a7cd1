-- The table of loads, with one more, and with none.
use Rattle.std.proofs.Common.{◌≡◌, ◌≤◌, ◌<◌, ◌+◌, ◌∷◌, [], ◌++◌, ◌∙◌, inl, inr, ℕ, suc, List, length, get_or, Bool, true, false, cond, eqb, ◌&&◌, All, refl, ap, sym, subst, arith, get_or-set_other, get_or-set_same}
use Rattle.std.specs.Prelude.{replicate, ◌==◌, if◌then◌else◌}
use Rattle.std.specs.List.{list_any}
use Rattle.std.proofs.Math.ListN.{set}
use Rattle.std.proofs.lemmas.Bool.{cases_eq, eq-eqb, ne_eqb, and_parts, or_parts, cases_Bool}
use Rattle.std.proofs.lemmas.List.{length-set, length-replicate, get_or-replicate, append-nil}
use Rattle.std.proofs.lemmas.List.Elements.{All-append, All-cons}
use Rattle.std.proofs.lemmas.List.Sums.{sum_by-cons, sum_by-append}
use Rattle.std.proofs.Math.Bool.{and-true, and-false}
use Rattle.lab_base.specs.declared.ids.IfaceId.{IfaceId}
use Rattle.phys_lab.specs.Labs.{Lab}
use Rattle.virt_topo.specs.declared.loads.Load.{Load}
use Rattle.lab_model.specs.Rules.{Laid, loads_on}
use Rattle.node_maps.specs.declared.ifaces.Given.{Given}
use Rattle.node_maps.specs.NodeMaps.{plugs_in}
use Rattle.node_maps.specs.Indexed.{noted, newest, Marks}
use Rattle.node_maps.proofs.Bearing.{sum_of, all_multiplexed}
use Rattle.node_maps.proofs.KeptPlugs.{on_push}

all_push : (ys : List Load) (x : Load) → all_multiplexed (ys ++ x ∷ []) ≡ (all_multiplexed ys && x.multiplexed)
all_push [] x = and-true x.multiplexed
all_push (y ∷ ys) x = ap (λ (b : Bool). y.multiplexed && b) (all_push ys x) ∙ by y.multiplexed (all_multiplexed ys) x.multiplexed
  where
    by : (a b c : Bool) → (a && (b && c)) ≡ ((a && b) && c)
    by true b c = refl
    by false b c = refl

newest_push : (ys : List Load) (x : Load) → All (λ (y : Load). y.segment ≤ x.segment) ys → newest (ys ++ x ∷ []) ≡ x.segment + 1
newest_push [] x rising = omega arith
newest_push (y ∷ ys) x rising =
    let here : y.segment ≤ x.segment = rising 0 y (omega arith) in
    let later = newest_push ys x (λ k d lt. rising (suc k) d (omega (arith, lt))) in
    omega (arith, here, later)

sum_push : (ys : List Load) (x : Load) → sum_of (ys ++ x ∷ []) ≡ sum_of ys + x.kbps
sum_push ys x =
    let one : sum_of (x ∷ []) ≡ x.kbps + 0 = sum_by-cons (λ (z : Load). z.kbps) x [] in
    let both = sum_by-append (λ (z : Load). z.kbps) ys (x ∷ []) in
    omega (arith, one, both)

-- a load that isn't multiplexed
noted_plain : (ys : List Load) (x : Load) → x.multiplexed ≡ false → noted (ys ++ x ∷ []) ≡ 18446744073709551615
noted_plain ys x plain =
    ap (λ (b : Bool). cond b (sum_of (ys ++ x ∷ [])) 18446744073709551615) (all_push ys x ∙ ap (λ (b : Bool). all_multiplexed ys && b) plain ∙ and-false (all_multiplexed ys))

-- one that is, beside others
noted_shared : (ys : List Load) (x : Load) → x.multiplexed ≡ true → all_multiplexed ys ≡ true → noted (ys ++ x ∷ []) ≡ noted ys + x.kbps
noted_shared ys x shares all =
    ap (λ (b : Bool). cond b (sum_of (ys ++ x ∷ [])) 18446744073709551615) (all_push ys x ∙ (λ j. all j && shares j))
    ∙ sum_push ys x ∙ ap (λ (b : Bool). cond b (sum_of ys) 18446744073709551615 + x.kbps) (sym all)

plugs_push : (had : List Laid) (x : Load) (i : IfaceId) → plugs_in (had ++ (x, i) ∷ []) ≡ plugs_in had ++ i ∷ []
plugs_push [] x i = refl
plugs_push (h ∷ had) x i = ap (λ (l : List IfaceId). h.1 ∷ l) (plugs_push had x i)

-- nothing is on any
pub marks_nothing : (lab : Lab) (given : Given) → given.plugs ≡ [] → given.used.items ≡ replicate (length lab.ifaces) 0 → given.last.items ≡ replicate (length lab.ifaces) 0 → Marks lab given []
marks_nothing lab given plugs used last = record {
  plugs = plugs;
  used_each = ap length used ∙ length-replicate (length lab.ifaces) 0;
  last_each = ap length last ∙ length-replicate (length lab.ifaces) 0;
  used = λ i lt. ap (λ (l : List ℕ). get_or l i 0) used ∙ get_or-replicate (length lab.ifaces) i 0 0 lt;
  last = λ i lt all some. absurd (omega (arith, some));
  some = λ k d lt. absurd (omega (arith, lt));
}

none_on : (i : ℕ) (had : List Laid) → list_any (λ p. p.0 == i) (plugs_in had) ≡ false → loads_on i had ≡ []
none_on i [] none = refl
none_on i (x ∷ had) none =
    let parts = or_parts (eqb x.1.0 i) (list_any (λ p. p.0 == i) (plugs_in had)) none in
    ap (λ (b : Bool). cond b (x.0 ∷ loads_on i had) (loads_on i had)) parts.0 ∙ none_on i had parts.1

-- all is forgotten
pub marks_cleared : (lab : Lab) (old new : Given) (had : List Laid) → Marks lab old had → new.plugs ≡ [] → length new.used.items ≡ length old.used.items → new.last.items ≡ old.last.items
    → ((i : ℕ) → list_any (λ p. p.0 == i) old.plugs ≡ true → get_or new.used.items i 0 ≡ 0) → ((i : ℕ) → get_or old.used.items i 0 ≡ 0 → get_or new.used.items i 0 ≡ 0) → Marks lab new []
marks_cleared lab old new had marks plugs sized last freed kept = record {
  plugs = plugs;
  used_each = sized ∙ marks.used_each;
  last_each = ap length last ∙ marks.last_each;
  used = λ i lt. elim (cases_Bool (list_any (λ p. p.0 == i) old.plugs)) [
    | inl among ↦ freed i among
    | inr apart ↦ kept i (marks.used i lt ∙ ap noted (none_on i had (ap (λ (l : List IfaceId). list_any (λ p. p.0 == i) l) (sym marks.plugs) ∙ apart)))
  ];
  last = λ i lt all some. absurd (omega (arith, some));
  some = λ k d lt. absurd (omega (arith, lt));
}

-- the loads on an interface, with one more
here_push : (had : List Laid) (x : Load) (i : IfaceId) (k : ℕ) → k ≡ i.0 → loads_on k (had ++ (x, i) ∷ []) ≡ loads_on k had ++ x ∷ []
here_push had x i k is = on_push k had x i ∙ ap (λ (b : Bool). loads_on k had ++ cond b (x ∷ []) []) (eq-eqb i.0 k (sym is))

other_push : (had : List Laid) (x : Load) (i : IfaceId) (k : ℕ) → (k ≡ i.0 → ⊥) → loads_on k (had ++ (x, i) ∷ []) ≡ loads_on k had
other_push had x i k apart = on_push k had x i ∙ ap (λ (b : Bool). loads_on k had ++ cond b (x ∷ []) []) (ne_eqb i.0 k (λ e. apart (sym e))) ∙ append-nil (loads_on k had)

-- what is noted of one more
pub record Puts (lab : Lab) (old new : Given) (had : List Laid) (x : Load) (i : IfaceId) : Type 0 where
  pub marks : Marks lab old had
  pub within : i.0 < length lab.ifaces
  pub some : 1 ≤ x.kbps
  pub rising : All (λ (y : Load). y.segment ≤ x.segment) (loads_on i.0 had)
  -- a multiplexed one comes to multiplexed ones alone
  pub shares : x.multiplexed ≡ true → all_multiplexed (loads_on i.0 had) ≡ true
  pub plugs : new.plugs ≡ old.plugs ++ i ∷ []
  pub used : new.used.items ≡ set old.used.items i.0 (if x.multiplexed then get_or old.used.items i.0 0 + x.kbps else 18446744073709551615)
  pub last : new.last.items ≡ (if x.multiplexed then set old.last.items i.0 (x.segment + 1) else old.last.items)

pub marks_push : (lab : Lab) (old new : Given) (had : List Laid) (x : Load) (i : IfaceId) → Puts lab old new had x i → Marks lab new (had ++ (x, i) ∷ [])
marks_push lab old new had x i p = record {
  plugs = p.plugs ∙ ap (λ (l : List IfaceId). l ++ i ∷ []) p.marks.plugs ∙ sym (plugs_push had x i);
  used_each = ap length p.used ∙ length-set old.used.items i.0 _ ∙ p.marks.used_each;
  last_each = ap length p.last ∙ lasts x.multiplexed ∙ p.marks.last_each;
  used = λ k lt. elim (cases_eq k i.0) [
    | inl here ↦ ap (λ (l : List ℕ). get_or l k 0) p.used ∙ ap (λ (j : ℕ). get_or (set old.used.items i.0 (now x.multiplexed)) j 0) here ∙ get_or-set_same old.used.items i.0 (now x.multiplexed) 0 within_used
        ∙ used_now x.multiplexed refl ∙ ap (λ (j : ℕ). noted (loads_on j had ++ x ∷ [])) (sym here) ∙ ap noted (sym (here_push had x i k here))
    | inr apart ↦ ap (λ (l : List ℕ). get_or l k 0) p.used ∙ get_or-set_other old.used.items i.0 k (now x.multiplexed) 0 apart ∙ p.marks.used k lt ∙ ap noted (sym (other_push had x i k apart))
  ];
  last = λ k lt all some. elim (cases_eq k i.0) [
    | inl here ↦ last_here k here (ap all_multiplexed (sym (here_push had x i k here)) ∙ all)
        ∙ sym (newest_push (loads_on k had) x (subst (λ (j : ℕ). All (λ (y : Load). y.segment ≤ x.segment) (loads_on j had)) (sym here) p.rising)) ∙ ap newest (sym (here_push had x i k here))
    | inr apart ↦ (
        let same = other_push had x i k apart in
        last_other k apart x.multiplexed refl ∙ p.marks.last k lt (ap all_multiplexed (sym same) ∙ all) (subst (λ (l : List Load). 0 < length l) same some) ∙ ap newest (sym same))
  ];
  some = All-append (λ (y : Laid). 1 ≤ y.0.kbps) had ((x, i) ∷ []) p.marks.some (All-cons (λ (y : Laid). 1 ≤ y.0.kbps) (x, i) [] p.some (λ k d lt. absurd (omega (arith, lt))));
}
  where
    now : Bool → ℕ
    now b = if b then get_or old.used.items i.0 0 + x.kbps else 18446744073709551615

    within_used : i.0 < length old.used.items
    within_used = omega (arith, p.within, p.marks.used_each)

    lasts : (b : Bool) → length (if b then set old.last.items i.0 (x.segment + 1) else old.last.items) ≡ length old.last.items
    lasts true = length-set old.last.items i.0 (x.segment + 1)
    lasts false = refl

    used_now : (b : Bool) → x.multiplexed ≡ b → now b ≡ noted (loads_on i.0 had ++ x ∷ [])
    used_now false plain = sym (noted_plain (loads_on i.0 had) x plain)
    used_now true shared = ap (λ (n : ℕ). n + x.kbps) (p.marks.used i.0 p.within) ∙ sym (noted_shared (loads_on i.0 had) x shared (p.shares shared))

    last_here : (k : ℕ) → k ≡ i.0 → all_multiplexed (loads_on k had ++ x ∷ []) ≡ true → get_or new.last.items k 0 ≡ x.segment + 1
    last_here k here all =
        let flag : x.multiplexed ≡ true = (and_parts (all_multiplexed (loads_on k had)) x.multiplexed (sym (all_push (loads_on k had) x) ∙ all)).1 in
        ap (λ (l : List ℕ). get_or l k 0) (p.last ∙ ap (λ (b : Bool). if b then set old.last.items i.0 (x.segment + 1) else old.last.items) flag)
        ∙ ap (λ (j : ℕ). get_or (set old.last.items i.0 (x.segment + 1)) j 0) here ∙ get_or-set_same old.last.items i.0 (x.segment + 1) 0 (omega (arith, p.within, p.marks.last_each))

    same_last : (k : ℕ) → (k ≡ i.0 → ⊥) → (b : Bool) → get_or (if b then set old.last.items i.0 (x.segment + 1) else old.last.items) k 0 ≡ get_or old.last.items k 0
    same_last k apart true = get_or-set_other old.last.items i.0 k (x.segment + 1) 0 apart
    same_last k apart false = refl

    last_other : (k : ℕ) → (k ≡ i.0 → ⊥) → (b : Bool) → x.multiplexed ≡ b → get_or new.last.items k 0 ≡ get_or old.last.items k 0
    last_other k apart b is = ap (λ (l : List ℕ). get_or l k 0) (p.last ∙ ap (λ (c : Bool). if c then set old.last.items i.0 (x.segment + 1) else old.last.items) is) ∙ same_last k apart b
