-- The plugs of the ends that pass a test, and new ones for them.
use Rattle.std.proofs.Common.{◌≡◌, ◌<◌, ◌+◌, ◌∙◌, ◌∷◌, ◌++◌, [], ℕ, suc, zero, List, length, map, drop, get_or, filter, Bool, true, false, cond, refl, ap, sym, arith, append_assoc, length-append}
use Rattle.std.proofs.Math.ListN.{set}
use Rattle.lab_base.specs.declared.ids.IfaceId.{IfaceId}
use Rattle.trunk_sums.specs.declared.made.Change.{Change}
use Rattle.trunk_sums.specs.declared.sums.EndRow.{EndRow}
use Rattle.trunk_sums.specs.Remade.{remade}
use Rattle.node_maps.specs.declared.ends.End.{End}
use Rattle.map_state.specs.Nodes.{numbers_of, plugs_where, with_plugs, changes_of}

-- one entry more or not
more_in : {X : Type 0} (b : Bool) (x : X) (xs ys : List X) → xs ≡ ys → cond b (x ∷ xs) xs ≡ cond b (x ∷ ys) ys
more_in true x xs ys e = ap (λ l. x ∷ l) e
more_in false x xs ys e = e

-- tests that agree on all ends
pub filter_alike : (p q : End → Bool) (es : List End) → ((k : ℕ) (d : End) → k < length es → p (get_or es k d) ≡ q (get_or es k d)) → filter p es ≡ filter q es
filter_alike p q [] same = refl
filter_alike p q (e ∷ es) same =
    let later = filter_alike p q es (λ k d lt. same (suc k) d (omega (arith, lt))) in
    ap (λ (b : Bool). cond b (e ∷ filter p es) (filter p es)) (same 0 e (omega arith)) ∙ more_in (q e) e (filter p es) (filter q es) later

pub numbers_alike : (n : ℕ) (p q : End → Bool) (es : List End) → ((k : ℕ) (d : End) → k < length es → p (get_or es k d) ≡ q (get_or es k d)) → numbers_of n p es ≡ numbers_of n q es
numbers_alike n p q [] same = refl
numbers_alike n p q (e ∷ es) same =
    let later = numbers_alike (n + 1) p q es (λ k d lt. same (suc k) d (omega (arith, lt))) in
    ap (λ (b : Bool). cond b (n ∷ numbers_of (n + 1) p es) (numbers_of (n + 1) p es)) (same 0 e (omega arith)) ∙ more_in (q e) n (numbers_of (n + 1) p es) (numbers_of (n + 1) q es) later

pub where_alike : (p q : End → Bool) (es : List End) (plugs : List IfaceId) → ((k : ℕ) (d : End) → k < length es → p (get_or es k d) ≡ q (get_or es k d)) → plugs_where p es plugs ≡ plugs_where q es plugs
where_alike p q [] plugs same = refl
where_alike p q (e ∷ es) [] same = refl
where_alike p q (e ∷ es) (i ∷ plugs) same =
    let later = where_alike p q es plugs (λ k d lt. same (suc k) d (omega (arith, lt))) in
    ap (λ (b : Bool). cond b (i ∷ plugs_where p es plugs) (plugs_where p es plugs)) (same 0 e (omega arith)) ∙ more_in (q e) i (plugs_where p es plugs) (plugs_where q es plugs) later

-- the new plugs are those of these ends
pub where_new : (p : End → Bool) (es : List End) (plugs new : List IfaceId) → length plugs ≡ length es → length new ≡ length (filter p es)
    → plugs_where p es (with_plugs p es plugs new) ≡ new
where_new p [] plugs [] all few = refl
where_new p [] plugs (h ∷ new) all few = absurd (omega (arith, few))
where_new p (e ∷ es) [] new all few = absurd (omega (arith, all))
where_new p (e ∷ es) (i ∷ plugs) new all few =
    by_test p e es i plugs new (p e) refl (omega (arith, all)) few (λ rest count. where_new p es plugs rest (omega (arith, all)) count)
  where
    by_test : (p : End → Bool) (e : End) (es : List End) (i : IfaceId) (plugs new : List IfaceId) (b : Bool) → p e ≡ b → length plugs ≡ length es
        → length new ≡ length (cond (p e) (e ∷ filter p es) (filter p es))
        → ((rest : List IfaceId) → length rest ≡ length (filter p es) → plugs_where p es (with_plugs p es plugs rest) ≡ rest)
        → plugs_where p (e ∷ es) (cond (p e) (get_or new 0 i ∷ with_plugs p es plugs (drop 1 new)) (i ∷ with_plugs p es plugs new)) ≡ new
    by_test p e es i plugs [] true is all few later =
        absurd (let count : 0 ≡ suc (length (filter p es)) = few ∙ ap (λ (b : Bool). length (cond b (e ∷ filter p es) (filter p es))) is in omega (arith, count))
    by_test p e es i plugs (h ∷ new) true is all few later =
        let count : suc (length new) ≡ suc (length (filter p es)) = few ∙ ap (λ (b : Bool). length (cond b (e ∷ filter p es) (filter p es))) is in
        ap (λ (b : Bool). plugs_where p (e ∷ es) (cond b (h ∷ with_plugs p es plugs new) (i ∷ with_plugs p es plugs (h ∷ new)))) is
        ∙ ap (λ (b : Bool). cond b (h ∷ plugs_where p es (with_plugs p es plugs new)) (plugs_where p es (with_plugs p es plugs new))) is
        ∙ ap (λ l. h ∷ l) (later new (omega (arith, count)))
    by_test p e es i plugs new false is all few later =
        let count : length new ≡ length (filter p es) = few ∙ ap (λ (b : Bool). length (cond b (e ∷ filter p es) (filter p es))) is in
        ap (λ (b : Bool). plugs_where p (e ∷ es) (cond b (get_or new 0 i ∷ with_plugs p es plugs (drop 1 new)) (i ∷ with_plugs p es plugs new))) is
        ∙ ap (λ (b : Bool). cond b (i ∷ plugs_where p es (with_plugs p es plugs new)) (plugs_where p es (with_plugs p es plugs new))) is
        ∙ later new count

-- other ends keep theirs
pub where_others : (p q : End → Bool) (es : List End) (plugs new : List IfaceId) → ((e : End) → p e ≡ true → q e ≡ false) → plugs_where q es (with_plugs p es plugs new) ≡ plugs_where q es plugs
where_others p q [] plugs new apart = refl
where_others p q (e ∷ es) [] new apart = refl
where_others p q (e ∷ es) (i ∷ plugs) new apart =
    by_test p q e es i plugs new (p e) refl (apart e) (λ rest. where_others p q es plugs rest apart)
  where
    by_test : (p q : End → Bool) (e : End) (es : List End) (i : IfaceId) (plugs new : List IfaceId) (b : Bool) → p e ≡ b → (p e ≡ true → q e ≡ false)
        → ((rest : List IfaceId) → plugs_where q es (with_plugs p es plugs rest) ≡ plugs_where q es plugs)
        → plugs_where q (e ∷ es) (cond (p e) (get_or new 0 i ∷ with_plugs p es plugs (drop 1 new)) (i ∷ with_plugs p es plugs new)) ≡ plugs_where q (e ∷ es) (i ∷ plugs)
    by_test p q e es i plugs new true is apart later =
        let off : q e ≡ false = apart is in
        ap (λ (b : Bool). plugs_where q (e ∷ es) (cond b (get_or new 0 i ∷ with_plugs p es plugs (drop 1 new)) (i ∷ with_plugs p es plugs new))) is
        ∙ ap (λ (b : Bool). cond b (get_or new 0 i ∷ plugs_where q es (with_plugs p es plugs (drop 1 new))) (plugs_where q es (with_plugs p es plugs (drop 1 new)))) off
        ∙ later (drop 1 new)
        ∙ ap (λ (b : Bool). cond b (i ∷ plugs_where q es plugs) (plugs_where q es plugs)) (sym off)
    by_test p q e es i plugs new false is apart later =
        ap (λ (b : Bool). plugs_where q (e ∷ es) (cond b (get_or new 0 i ∷ with_plugs p es plugs (drop 1 new)) (i ∷ with_plugs p es plugs new))) is
        ∙ more_in (q e) i (plugs_where q es (with_plugs p es plugs new)) (plugs_where q es plugs) (later new)

pub with_length : (p : End → Bool) (es : List End) (plugs new : List IfaceId) → length plugs ≡ length es → length (with_plugs p es plugs new) ≡ length es
with_length p [] plugs new all = all
with_length p (e ∷ es) [] new all = absurd (omega (arith, all))
with_length p (e ∷ es) (i ∷ plugs) new all =
    by_test (p e) (with_length p es plugs (drop 1 new) (omega (arith, all))) (with_length p es plugs new (omega (arith, all)))
  where
    by_test : (b : Bool) → length (with_plugs p es plugs (drop 1 new)) ≡ length es → length (with_plugs p es plugs new) ≡ length es
        → length (cond b (get_or new 0 i ∷ with_plugs p es plugs (drop 1 new)) (i ∷ with_plugs p es plugs new)) ≡ suc (length es)
    by_test true one other = ap (λ (k : ℕ). suc k) one
    by_test false one other = ap (λ (k : ℕ). suc k) other

-- the ends of these numbers
ends_at : (n : ℕ) (front es : List End) (p : End → Bool) (d : End) → n ≡ length front → map (λ (k : ℕ). get_or (front ++ es) k d) (numbers_of n p es) ≡ filter p es
ends_at n front [] p d at = refl
ends_at n front (e ∷ es) p d at =
    let next : n + 1 ≡ length (front ++ e ∷ []) = omega (arith, at, length-append front (e ∷ [])) in
    let later : map (λ (k : ℕ). get_or (front ++ e ∷ es) k d) (numbers_of (n + 1) p es) ≡ filter p es =
    ap (λ (l : List End). map (λ (k : ℕ). get_or l k d) (numbers_of (n + 1) p es)) (sym (append_assoc front (e ∷ []) es)) ∙ ends_at (n + 1) (front ++ e ∷ []) es p d next in
    by_test (p e) (here front es e d n at) later
  where
    here : (front es : List End) (e d : End) (n : ℕ) → n ≡ length front → get_or (front ++ e ∷ es) n d ≡ e
    here [] es e d n at = ap (λ (k : ℕ). get_or (e ∷ es) k d) at
    here (x ∷ front) es e d zero at = absurd (omega (arith, at))
    here (x ∷ front) es e d (suc n) at = here front es e d n (omega (arith, at))

    by_test : (b : Bool) → get_or (front ++ e ∷ es) n d ≡ e → map (λ (k : ℕ). get_or (front ++ e ∷ es) k d) (numbers_of (n + 1) p es) ≡ filter p es
        → map (λ (k : ℕ). get_or (front ++ e ∷ es) k d) (cond b (n ∷ numbers_of (n + 1) p es) (numbers_of (n + 1) p es)) ≡ cond b (e ∷ filter p es) (filter p es)
    by_test true at_n later = (λ j. at_n j ∷ later j)
    by_test false at_n later = later

pub numbered_ends : (es : List End) (p : End → Bool) (d : End) → map (λ (k : ℕ). get_or es k d) (numbers_of 0 p es) ≡ filter p es
numbered_ends es p d = ends_at 0 [] es p d refl

pub remade_both : (plugs : List IfaceId) (cs ds : List Change) → remade plugs (cs ++ ds) ≡ remade (remade plugs cs) ds
remade_both plugs [] ds = refl
remade_both plugs (c ∷ cs) ds = remade_both (set plugs c.end c.to) cs ds

set_here : (front plugs : List IfaceId) (i h : IfaceId) (n : ℕ) → n ≡ length front → set (front ++ i ∷ plugs) n h ≡ front ++ h ∷ plugs
set_here [] plugs i h n at = ap (λ (k : ℕ). set (i ∷ plugs) k h) at
set_here (x ∷ front) plugs i h zero at = absurd (omega (arith, at))
set_here (x ∷ front) plugs i h (suc n) at = ap (λ l. x ∷ l) (set_here front plugs i h n (omega (arith, at)))

no_changes : (rows : List EndRow) (numbers : List ℕ) → changes_of rows numbers [] ≡ []
no_changes rows [] = refl
no_changes rows (k ∷ numbers) = refl

-- the changes set the plugs of these ends
remade_at : (rows : List EndRow) (n : ℕ) (front plugs new : List IfaceId) (es : List End) (p : End → Bool) → n ≡ length front → length plugs ≡ length es → length new ≡ length (filter p es)
    → remade (front ++ plugs) (changes_of rows (numbers_of n p es) new) ≡ front ++ with_plugs p es plugs new
remade_at rows n front plugs new [] p at all few = refl
remade_at rows n front [] new (e ∷ es) p at all few = absurd (omega (arith, all))
remade_at rows n front (i ∷ plugs) new (e ∷ es) p at all few =
    by_test (p e) new refl few (λ h rest count.
    remade_at rows (n + 1) (front ++ h ∷ []) plugs rest es p (omega (arith, at, length-append front (h ∷ []))) (omega (arith, all)) count)
  where
    by_test : (b : Bool) (new : List IfaceId) → p e ≡ b → length new ≡ length (cond (p e) (e ∷ filter p es) (filter p es))
        → ((h : IfaceId) (rest : List IfaceId) → length rest ≡ length (filter p es) → remade ((front ++ h ∷ []) ++ plugs) (changes_of rows (numbers_of (n + 1) p es) rest) ≡ (front ++ h ∷ []) ++ with_plugs p es plugs rest)
        → remade (front ++ i ∷ plugs) (changes_of rows (cond (p e) (n ∷ numbers_of (n + 1) p es) (numbers_of (n + 1) p es)) new)
        ≡ front ++ cond (p e) (get_or new 0 i ∷ with_plugs p es plugs (drop 1 new)) (i ∷ with_plugs p es plugs new)
    by_test true [] is few later = absurd (let count : 0 ≡ suc (length (filter p es)) = few ∙ ap (λ (b : Bool). length (cond b (e ∷ filter p es) (filter p es))) is in omega (arith, count))
    by_test true (h ∷ new) is few later =
        let count : suc (length new) ≡ suc (length (filter p es)) = few ∙ ap (λ (b : Bool). length (cond b (e ∷ filter p es) (filter p es))) is in
        ap (λ (b : Bool). remade (front ++ i ∷ plugs) (changes_of rows (cond b (n ∷ numbers_of (n + 1) p es) (numbers_of (n + 1) p es)) (h ∷ new))) is
        ∙ ap (λ l. remade l (changes_of rows (numbers_of (n + 1) p es) new)) (set_here front plugs i h n at ∙ sym (append_assoc front (h ∷ []) plugs))
        ∙ later h new (omega (arith, count)) ∙ append_assoc front (h ∷ []) (with_plugs p es plugs new)
        ∙ ap (λ (b : Bool). front ++ cond b (h ∷ with_plugs p es plugs new) (i ∷ with_plugs p es plugs (h ∷ new))) (sym is)
    by_test false new is few later =
        let count : length new ≡ length (filter p es) = few ∙ ap (λ (b : Bool). length (cond b (e ∷ filter p es) (filter p es))) is in
        ap (λ (b : Bool). remade (front ++ i ∷ plugs) (changes_of rows (cond b (n ∷ numbers_of (n + 1) p es) (numbers_of (n + 1) p es)) new)) is
        ∙ ap (λ l. remade l (changes_of rows (numbers_of (n + 1) p es) new)) (sym (append_assoc front (i ∷ []) plugs))
        ∙ later i new count ∙ append_assoc front (i ∷ []) (with_plugs p es plugs new)
        ∙ ap (λ (b : Bool). front ++ cond b (get_or new 0 i ∷ with_plugs p es plugs (drop 1 new)) (i ∷ with_plugs p es plugs new)) (sym is)

pub remade_where : (rows : List EndRow) (plugs new : List IfaceId) (es : List End) (p : End → Bool) → length plugs ≡ length es → length new ≡ length (filter p es)
    → remade plugs (changes_of rows (numbers_of 0 p es) new) ≡ with_plugs p es plugs new
remade_where rows plugs new es p all few = remade_at rows 0 [] plugs new es p refl all few
