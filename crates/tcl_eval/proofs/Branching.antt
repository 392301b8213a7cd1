-- The branches of `if` among its words.
use Rattle.std.proofs.Common.{◌≡◌, ℕ, ◌+◌, ◌<◌, ◌≤◌, List, [], ◌∷◌, ◌++◌, length, get_or, drop, map, Option, Some, None, codes, true, false, option_map, slice_index_or, refl, sym, ap, ◌∙◌, arith, drop-cons, add-one, append_assoc}
use Rattle.std.proofs.lemmas.List.{append-nil, map_push, drop_all, get_or_default}
use Rattle.lab_base.proofs.Lists.{item_at}
use Rattle.tcl_eval.specs.declared.branches.Branch.{Branch}
use Rattle.tcl_eval.specs.Short.{branching_of}
use Rattle.tcl_eval.specs.Forms.{Branching, is_text, more_branches, branches_of, with_branch}

-- branches before those that are left
abbrev pub behind : List Branching → Option (List Branching) → Option (List Branching)
behind front None = None
behind front (Some bs) = Some (front ++ bs)

pub after_one : (front : List Branching) (b : Branching) (o : Option (List Branching)) → behind front (with_branch b o) ≡ behind (front ++ b ∷ []) o
after_one front b None = refl
after_one front b (Some bs) = ap (λ (xs : List Branching). Some xs) (sym (append_assoc front (b ∷ []) bs))

pub after_all : (front : List Branching) → behind front (Some []) ≡ Some front
after_all front = ap (λ (xs : List Branching). Some xs) (append-nil front)

-- the words from a place on, one by one
pub at_word : (ws : List (List ℕ)) (i : ℕ) → i < length ws → drop i ws ≡ slice_index_or ws i [] ∷ drop (i + 1) ws
at_word ws i h = rw (add-one i) (drop-cons ws i [] h)

pub one_left : (ws : List (List ℕ)) (i : ℕ) → i + 1 ≡ length ws → more_branches (drop i ws) ≡ None
one_left ws i h =
    rw (at_word ws i (omega arith), drop_all (i + 1) ws (omega arith)) refl

pub two_left : (ws : List (List ℕ)) (i : ℕ) → i + 2 ≡ length ws → drop i ws ≡ slice_index_or ws i [] ∷ slice_index_or ws (i + 1) [] ∷ []
two_left ws i h =
    rw (at_word ws i (omega arith), at_word ws (i + 1) (omega arith), drop_all (i + 1 + 1) ws (omega arith)) refl

pub else_missing : (ws : List (List ℕ)) (i : ℕ) (k : List ℕ) → i + 2 ≡ length ws → k ≡ get_or ws i k → is_text k (codes "else") ≡ false → more_branches (drop i ws) ≡ None
else_missing ws i k h is other =
    let one : drop i ws ≡ k ∷ drop (i + 1) ws = item_at ws i k (omega arith) is in
    let two : drop (i + 1) ws ≡ slice_index_or ws (i + 1) [] ∷ [] = at_word ws (i + 1) (omega arith) ∙ ap (λ (r : List (List ℕ)). slice_index_or ws (i + 1) [] ∷ r) (drop_all (i + 1 + 1) ws (omega arith)) in
    rw (one, two, other) refl

pub three_left : (ws : List (List ℕ)) (i j : ℕ) (k : List ℕ) → j ≡ i + 3 → i + 3 ≤ length ws → k ≡ get_or ws i k
    → drop i ws ≡ k ∷ slice_index_or ws (i + 1) [] ∷ slice_index_or ws (i + 2) [] ∷ drop j ws
three_left ws i j k e h is =
    let one : drop i ws ≡ k ∷ drop (i + 1) ws = item_at ws i k (omega arith) is in
    let n : i + 1 + 1 ≡ i + 2 = omega arith in
    let m : i + 2 + 1 ≡ j = omega arith in
    let two : drop (i + 1) ws ≡ slice_index_or ws (i + 1) [] ∷ drop (i + 2) ws = at_word ws (i + 1) (omega arith) ∙ ap (λ (n : ℕ). slice_index_or ws (i + 1) [] ∷ drop n ws) n in
    let three : drop (i + 2) ws ≡ slice_index_or ws (i + 2) [] ∷ drop j ws = at_word ws (i + 2) (omega arith) ∙ ap (λ (n : ℕ). slice_index_or ws (i + 2) [] ∷ drop n ws) m in
    one ∙ ap (λ (r : List (List ℕ)). k ∷ r) (two ∙ ap (λ (r : List (List ℕ)). slice_index_or ws (i + 1) [] ∷ r) three)

pub elseif_found : (ws : List (List ℕ)) (i j : ℕ) (k : List ℕ) → j ≡ i + 3 → i + 3 ≤ length ws → k ≡ get_or ws i k → is_text k (codes "elseif") ≡ true
    → more_branches (drop i ws) ≡ with_branch (Some (slice_index_or ws (i + 1) []), slice_index_or ws (i + 2) []) (more_branches (drop j ws))
elseif_found ws i j k e h is here = rw (three_left ws i j k e h is, here) refl

pub elseif_missing : (ws : List (List ℕ)) (i : ℕ) (k : List ℕ) → i + 3 ≤ length ws → k ≡ get_or ws i k → is_text k (codes "elseif") ≡ false → more_branches (drop i ws) ≡ None
elseif_missing ws i k h is other = rw (three_left ws i (i + 3) k refl h is, other) refl

pub next_branch : (ws : List (List ℕ)) (bs : List Branch) (i : ℕ) (d : Branch) → i < length bs
    → map (branching_of ws) (drop i bs) ≡ branching_of ws (get_or bs i d) ∷ map (branching_of ws) (drop (i + 1) bs)
next_branch ws bs i d h = rw (add-one i, drop-cons bs i d h) refl

pub with_condition : (ws : List (List ℕ)) (b : Branch) (place : ℕ) (cond : List ℕ) → b.condition ≡ Some place → cond ≡ get_or ws place cond → place < length ws
    → branching_of ws b ≡ (Some cond, slice_index_or ws b.body [])
with_condition ws b place cond some is less =
    let e : get_or ws place [] ≡ cond = get_or_default ws place [] cond less ∙ sym is in
    let c : option_map (λ (place : ℕ). slice_index_or ws place []) b.condition ≡ Some cond =
    rw some (ap (λ (c : List ℕ). Some c) e) in
    ap (λ (o : Option (List ℕ)). (o, slice_index_or ws b.body [])) c

pub no_condition : (ws : List (List ℕ)) (b : Branch) → b.condition ≡ None → branching_of ws b ≡ (None, slice_index_or ws b.body [])
no_condition ws b none =
    let c : option_map (λ (place : ℕ). slice_index_or ws place []) b.condition ≡ None = rw none refl in
    ap (λ (o : Option (List ℕ)). (o, slice_index_or ws b.body [])) c

pub body_of : (ws : List (List ℕ)) (n : ℕ) (body : List ℕ) → body ≡ get_or ws n body → n < length ws → slice_index_or ws n [] ≡ body
body_of ws n body is less = get_or_default ws n [] body less ∙ sym is

-- a branch after those so far
pub pushed_on : (ws : List (List ℕ)) (bs new : List Branch) (b : Branch) (at : ℕ) → new ≡ bs ++ b ∷ []
    → more_branches (drop at ws) ≡ with_branch (branching_of ws b) (more_branches (drop (b.body + 1) ws))
    → behind (map (branching_of ws) bs) (more_branches (drop at ws)) ≡ branches_of ws → behind (map (branching_of ws) new) (more_branches (drop (b.body + 1) ws)) ≡ branches_of ws
pushed_on ws bs new b at pushed next so_far =
    let rest : Option (List Branching) = more_branches (drop (b.body + 1) ws) in
    let items : map (branching_of ws) new ≡ map (branching_of ws) bs ++ branching_of ws b ∷ [] = ap (λ (xs : List Branch). map (branching_of ws) xs) pushed ∙ map_push (branching_of ws) bs b in
    ap (λ (xs : List Branching). behind xs rest) items ∙ (sym (after_one (map (branching_of ws) bs) (branching_of ws b) rest)
    ∙ (ap (λ (o : Option (List Branching)). behind (map (branching_of ws) bs) o) (sym next) ∙ so_far))
