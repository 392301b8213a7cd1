-- Experiments as they are shown.
use Rattle.std.specs.List.{zip}
use Rattle.std.proofs.Common.{◌≡◌, ◌<◌, ◌≤◌, ℕ, zero, suc, ◌+◌, Result, Ok, List, [], ◌∷◌, ◌++◌, length, map, take, get_or, Some, None, slice_get, sym, ap, ◌∙◌, arith}
use Rattle.std.proofs.lemmas.List.{map-append, take_more, take_all}
use Rattle.std.proofs.lemmas.Option.{slice_get_within, get_or_from_slice_get, slice_get-get_or}
use Rattle.phys_lab.specs.Labs.{Lab}
use Rattle.records_model.specs.Labs.{LabState, Sane, lab_in}
use Rattle.claims.specs.Held.{Held, free_nodes, free_ids}
use Rattle.claims.specs.Experiments.{ClaimsOf}
use Rattle.script_text.specs.declared.reply.StatusLine.{StatusLine}
use Rattle.script_text.specs.declared.reply.Reply.{Reply}
use Rattle.script_text.specs.declared.reply.Reply.TheVariants.{Listed}
use Rattle.lab_tasks.specs.Tasks.{Task, Tell}
use Rattle.lab_judge.specs.Judge.{judged_status, status_line, status_reply}
use Rattle.lab_judge.proofs.Claimed.{nodes_left, ids_left_are}

-- one line more
pub next_line : {X Y : Type 0} (f : X → Y) (xs : List X) (n : ℕ) (x : X) → slice_get xs n ≡ Some x → map f (take (n + 1) xs) ≡ map f (take n xs) ++ f x ∷ []
next_line {X} {Y} f xs n x is =
    ap (map f) (take_more xs n x (slice_get_within xs n x is) ∙ ap (λ (y : X). take n xs ++ y ∷ []) (get_or_from_slice_get xs n x x is)) ∙ map-append f (take n xs) (x ∷ [])

-- none is missing before the end
pub none_missing : {X : Type 0} (xs : List X) (n : ℕ) → n < length xs → slice_get xs n ≡ None → {Y : Type 0} → Y
none_missing [] n within is = absurd (nothing n within)
  where
    nothing : (n : ℕ) → n < length {A = ℕ} [] → ⊥
    nothing n h = omega (arith, h)
none_missing (x ∷ xs) n within is = let both : None ≡ Some (get_or (x ∷ xs) n x) = sym is ∙ slice_get-get_or (x ∷ xs) n x within in absurd (cc both)

-- the reply that lists all
pub listed : (s : LabState) (held : Held) (lab : Lab) (lines : List StatusLine) (nodes ids : ℕ) → Sane s → s.lab ≡ Some lab → ClaimsOf (lab_in s.lab) s.experiments held → lines ≡ map (status_line (lab_in s.lab)) s.experiments → nodes ≡ free_nodes held → ids ≡ length (free_ids held)
    → status_reply lab s.experiments ≡ Listed lines nodes ids
listed s held lab lines nodes ids sane is of_es lines_are nodes_are ids_are =
    let l = lab_in s.lab in
    let same : l ≡ lab = ap lab_in is in
    let nodes_so = nodes_are ∙ nodes_left l s.experiments held sane.is_lab sane.holding sane.names of_es in
    let ids_so = ids_are ∙ ids_left_are l s.experiments held sane.is_lab sane.holding sane.names of_es in
    sym ((λ i. Listed (lines_are i) (nodes_so i) (ids_so i)) ∙ ap (λ (x : Lab). status_reply x s.experiments) same)

pub judged_listed : (s : LabState) (held : Held) (lab : Lab) (lines : List StatusLine) (nodes ids : ℕ) → Sane s → s.lab ≡ Some lab → ClaimsOf (lab_in s.lab) s.experiments held → lines ≡ map (status_line (lab_in s.lab)) s.experiments → nodes ≡ free_nodes held → ids ≡ length (free_ids held)
    → judged_status s ≡ Ok (Tell (Listed lines nodes ids))
judged_listed s held lab lines nodes ids sane is of_es lines_are nodes_are ids_are =
    rw is (ap (λ (r : Reply). let x : Result Task Reply = Ok (Tell r) in x) (listed s held lab lines nodes ids sane is of_es lines_are nodes_are ids_are))

-- two lists side by side
pub zip_at : {X Y : Type 0} (xs : List X) (ys : List Y) (n : ℕ) (x : X) (y : Y) → slice_get xs n ≡ Some x → slice_get ys n ≡ Some y → slice_get (zip xs ys) n ≡ Some (x, y)
zip_at [] ys n x y p q = absurd (cc p)
zip_at (a ∷ xs) [] n x y p q = absurd (cc q)
zip_at {X} {Y} (a ∷ xs) (b ∷ ys) zero x y p q = let one : a ≡ x = cc p in let two : b ≡ y = cc q in λ i. Some (one i, two i)
zip_at (a ∷ xs) (b ∷ ys) (suc n) x y p q = zip_at xs ys n x y p q

pub zip_past : {X Y : Type 0} (xs : List X) (ys : List Y) (n : ℕ) → length ys ≤ n → length (zip xs ys) ≤ n
zip_past [] ys n h = omega arith
zip_past (a ∷ xs) [] n h = omega arith
zip_past (a ∷ xs) (b ∷ ys) zero h = absurd (omega (arith, h))
zip_past (a ∷ xs) (b ∷ ys) (suc n) h = omega (arith, zip_past xs ys n (omega (arith, h)))

pub zip_within : {X Y : Type 0} (xs : List X) (ys : List Y) → length (zip xs ys) ≤ length xs
zip_within [] ys = omega arith
zip_within (a ∷ xs) [] = omega arith
zip_within (a ∷ xs) (b ∷ ys) = omega (arith, zip_within xs ys)

pub no_line : {X Y : Type 0} (f : X → Y) (xs : List X) (n : ℕ) → length xs ≤ n → map f (take (n + 1) xs) ≡ map f (take n xs)
no_line f xs n h = ap (map f) (take_all (n + 1) xs (omega (arith, h)) ∙ sym (take_all n xs h))
