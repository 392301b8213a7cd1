-- A payload is read as its record, and what is read as a record is its payload.
use Rattle.std.proofs.Common.{◌≡◌, ℕ, ◌^◌, ◌<◌, Bool, true, false, ◌⊎◌, inl, inr, cond, eqb, ltb, List, [], ◌∷◌, ◌++◌, length, Option, Some, None, refl, sym, ap, subst, ◌∙◌, append_assoc}
use Rattle.std.proofs.lemmas.Bool.{eqb-true, ltb-true}
use Rattle.std.proofs.lemmas.List.{append-nil, nil_from_length}
use Rattle.std.proofs.lemmas.Option.{same_Some}
use Rattle.lab_base.specs.Names.{is_name}
use Rattle.lab_base.specs.declared.ids.VlanId.{VlanId}
use Rattle.journal_rec.specs.declared.record.Way.{Way}
use Rattle.journal_rec.specs.declared.record.Way.TheVariants.{In, Out, Change, Change2}
use Rattle.journal_rec.specs.declared.record.Record.{Record}
use Rattle.journal_rec.specs.declared.record.Record.TheVariants.{Lab, Create, Delete, Begin, Commit, Abort, Create2}
use Rattle.journal_rec.specs.Payloads.{name_bytes, text_bytes, tags_bytes, way_bytes, payload, AreTags, IsWay, HasFields, Decodes}
use Rattle.journal_rec.specs.Reading.{◌>>=◌, byte_at, name_of, field_at, text_at, tags_at, in_at, change_at, change2_at, way_at, lab_at, create_at, create2_at, begin_at, delete_at, commit_at, abort_at, record_at, all_of}
use Rattle.journal_rec.proofs.Numbers.{IsBytes}
use Rattle.journal_rec.proofs.Fields.{bind_some, guard_so, Takes, Takes-then, byte_takes, field_takes, text_takes, text_again, tags_takes, tags_again}

abbrev none : {A : Type 0} → Option A
none = None

-- a chain of tests: which one held
chosen : {A : Type 0} (b : Bool) (x y : Option A) (z : A) → cond b x y ≡ Some z → ((b ≡ true) × (x ≡ Some z)) ⊎ (y ≡ Some z)
chosen true x y z e = inl (refl, e)
chosen false x y z e = inr e

name_takes : (part exp : List ℕ) → name_of part ≡ Some exp → (is_name part ≡ true) × (part ≡ exp)
name_takes part exp e = guard_so (is_name part) part exp e

pub name_again : (exp : List ℕ) → is_name exp ≡ true → name_of exp ≡ Some exp
name_again exp named = rw named refl

-- ---- ways
in_takes : (bytes : List ℕ) (x : Way × List ℕ) → IsBytes bytes → in_at bytes ≡ Some x → Takes (1 ∷ bytes) (way_bytes x.0) x.1 × IsWay x.0
unfolding in_at
in_takes bytes x fits e =
    let a = bind_some (text_at bytes) (λ map. tags_at map.1 >>= λ tags. Some (In map.0 tags.0, tags.1)) x e in
    let b = bind_some (tags_at a.0.1) (λ tags. Some (In a.0.0 tags.0, tags.1)) x a.2 in
    let t0 = text_takes bytes a.0.0 a.0.1 fits a.1 in
    let t1 = tags_takes a.0.1 b.0.0 b.0.1 t0.fits b.1 in
    let all = Takes-then bytes (text_bytes a.0.0) a.0.1 (tags_bytes b.0.0) b.0.1 t0 t1.0 in
    subst (λ (y : Way × List ℕ). Takes (1 ∷ bytes) (way_bytes y.0) y.1 × IsWay y.0) (same_Some (In a.0.0 b.0.0, b.0.1) x b.2)
    (record { parts = ap (λ (l : List ℕ). 1 ∷ l) all.parts; fits = all.fits }, t1.1)

change_takes : (bytes : List ℕ) (x : Way × List ℕ) → IsBytes bytes → change_at bytes ≡ Some x → Takes (3 ∷ bytes) (way_bytes x.0) x.1 × IsWay x.0
unfolding change_at
change_takes bytes x fits e =
    let a = bind_some (text_at bytes) (λ top. text_at top.1 >>= λ map. tags_at map.1 >>= λ tags. Some (Change top.0 map.0 tags.0, tags.1)) x e in
    let b = bind_some (text_at a.0.1) (λ map. tags_at map.1 >>= λ tags. Some (Change a.0.0 map.0 tags.0, tags.1)) x a.2 in
    let c = bind_some (tags_at b.0.1) (λ tags. Some (Change a.0.0 b.0.0 tags.0, tags.1)) x b.2 in
    let t0 = text_takes bytes a.0.0 a.0.1 fits a.1 in
    let t1 = text_takes a.0.1 b.0.0 b.0.1 t0.fits b.1 in
    let t2 = tags_takes b.0.1 c.0.0 c.0.1 t1.fits c.1 in
    let two = Takes-then a.0.1 (text_bytes b.0.0) b.0.1 (tags_bytes c.0.0) c.0.1 t1 t2.0 in
    let all = Takes-then bytes (text_bytes a.0.0) a.0.1 (text_bytes b.0.0 ++ tags_bytes c.0.0) c.0.1 t0 two in
    subst (λ (y : Way × List ℕ). Takes (3 ∷ bytes) (way_bytes y.0) y.1 × IsWay y.0) (same_Some (Change a.0.0 b.0.0 c.0.0, c.0.1) x c.2)
    (record { parts = ap (λ (l : List ℕ). 3 ∷ l) all.parts; fits = all.fits }, t2.1)

change2_takes : (bytes : List ℕ) (x : Way × List ℕ) → IsBytes bytes → change2_at bytes ≡ Some x → Takes (4 ∷ bytes) (way_bytes x.0) x.1 × IsWay x.0
unfolding change2_at
change2_takes bytes x fits e =
    let a = bind_some (text_at bytes) (λ top. text_at top.1 >>= λ map. tags_at map.1 >>= λ tags. Some (Change2 top.0 map.0 tags.0, tags.1)) x e in
    let b = bind_some (text_at a.0.1) (λ map. tags_at map.1 >>= λ tags. Some (Change2 a.0.0 map.0 tags.0, tags.1)) x a.2 in
    let c = bind_some (tags_at b.0.1) (λ tags. Some (Change2 a.0.0 b.0.0 tags.0, tags.1)) x b.2 in
    let t0 = text_takes bytes a.0.0 a.0.1 fits a.1 in
    let t1 = text_takes a.0.1 b.0.0 b.0.1 t0.fits b.1 in
    let t2 = tags_takes b.0.1 c.0.0 c.0.1 t1.fits c.1 in
    let two = Takes-then a.0.1 (text_bytes b.0.0) b.0.1 (tags_bytes c.0.0) c.0.1 t1 t2.0 in
    let all = Takes-then bytes (text_bytes a.0.0) a.0.1 (text_bytes b.0.0 ++ tags_bytes c.0.0) c.0.1 t0 two in
    subst (λ (y : Way × List ℕ). Takes (4 ∷ bytes) (way_bytes y.0) y.1 × IsWay y.0) (same_Some (Change2 a.0.0 b.0.0 c.0.0, c.0.1) x c.2)
    (record { parts = ap (λ (l : List ℕ). 4 ∷ l) all.parts; fits = all.fits }, t2.1)

abbrev way_of : ℕ → List ℕ → Option (Way × List ℕ)
way_of k rest = cond (eqb k 1) (in_at rest) (cond (eqb k 2) (Some (Out, rest)) (cond (eqb k 3) (change_at rest) (cond (eqb k 4) (change2_at rest) None)))

abbrev IsKind : ℕ → List ℕ → Way × List ℕ → Type 0
IsKind k rest x = Takes (k ∷ rest) (way_bytes x.0) x.1 × IsWay x.0

way_kind : (k : ℕ) (rest : List ℕ) (x : Way × List ℕ) → IsBytes rest → way_of k rest ≡ Some x → IsKind k rest x
way_kind k rest x fits e = one (chosen (eqb k 1) (in_at rest) (cond (eqb k 2) (Some (Out, rest)) (cond (eqb k 3) (change_at rest) (cond (eqb k 4) (change2_at rest) None))) x e)
  where
    four : ((eqb k 4 ≡ true) × (change2_at rest ≡ Some x)) ⊎ (none ≡ Some x) → IsKind k rest x
    four (inl h) = subst (λ k. IsKind k rest x) (sym (eqb-true k 4 h.0)) (change2_takes rest x fits h.1)
    four (inr h) = absurd (cc h)

    three : ((eqb k 3 ≡ true) × (change_at rest ≡ Some x)) ⊎ (cond (eqb k 4) (change2_at rest) None ≡ Some x) → IsKind k rest x
    three (inl h) = subst (λ k. IsKind k rest x) (sym (eqb-true k 3 h.0)) (change_takes rest x fits h.1)
    three (inr h) = four (chosen (eqb k 4) (change2_at rest) None x h)

    two : ((eqb k 2 ≡ true) × (Some (Out, rest) ≡ Some x)) ⊎ (cond (eqb k 3) (change_at rest) (cond (eqb k 4) (change2_at rest) None) ≡ Some x) → IsKind k rest x
    two (inl h) = subst (λ k. IsKind k rest x) (sym (eqb-true k 2 h.0))
        (subst (λ (y : Way × List ℕ). IsKind 2 rest y) (same_Some (Out, rest) x h.1) (record { parts = refl; fits = fits }, tt))
    two (inr h) = three (chosen (eqb k 3) (change_at rest) (cond (eqb k 4) (change2_at rest) None) x h)

    one : ((eqb k 1 ≡ true) × (in_at rest ≡ Some x)) ⊎ (cond (eqb k 2) (Some (Out, rest)) (cond (eqb k 3) (change_at rest) (cond (eqb k 4) (change2_at rest) None)) ≡ Some x) → IsKind k rest x
    one (inl h) = subst (λ k. IsKind k rest x) (sym (eqb-true k 1 h.0)) (in_takes rest x fits h.1)
    one (inr h) = two (chosen (eqb k 2) (Some (Out, rest)) (cond (eqb k 3) (change_at rest) (cond (eqb k 4) (change2_at rest) None)) x h)

way_takes : (bytes : List ℕ) (x : Way × List ℕ) → IsBytes bytes → way_at bytes ≡ Some x → Takes bytes (way_bytes x.0) x.1 × IsWay x.0
unfolding way_at
way_takes bytes x fits e =
    let b = bind_some (byte_at bytes) (λ kind. way_of kind.0 kind.1) x e in
    let first = byte_takes bytes b.0.0 b.0.1 fits b.1 in
    let way = way_kind b.0.0 b.0.1 x first.fits b.2 in
    (record { parts = first.parts ∙ way.0.parts; fits = way.0.fits }, way.1)

pub in_again : (map : List ℕ) (tags : List VlanId) (rest : List ℕ) → length map < 2 ^ 32 → AreTags tags → in_at ((text_bytes map ++ tags_bytes tags) ++ rest) ≡ Some (In map tags, rest)
unfolding in_at
in_again map tags rest short are =
    ap in_at (append_assoc (text_bytes map) (tags_bytes tags) rest)
    ∙ ap (λ (read : Option (List ℕ × List ℕ)). read >>= λ map. tags_at map.1 >>= λ tags. Some (In map.0 tags.0, tags.1)) (text_again map (tags_bytes tags ++ rest) short)
    ∙ ap (λ (read : Option (List VlanId × List ℕ)). read >>= λ tags. Some (In map tags.0, tags.1)) (tags_again tags rest are)

pub change_again : (top map : List ℕ) (tags : List VlanId) (rest : List ℕ) → length top < 2 ^ 32 → length map < 2 ^ 32 → AreTags tags
    → change_at ((text_bytes top ++ (text_bytes map ++ tags_bytes tags)) ++ rest) ≡ Some (Change top map tags, rest)
unfolding change_at
change_again top map tags rest short small are =
    ap change_at (append_assoc (text_bytes top) (text_bytes map ++ tags_bytes tags) rest ∙ ap (λ (l : List ℕ). text_bytes top ++ l) (append_assoc (text_bytes map) (tags_bytes tags) rest))
    ∙ ap (λ (read : Option (List ℕ × List ℕ)). read >>= λ top. text_at top.1 >>= λ map. tags_at map.1 >>= λ tags. Some (Change top.0 map.0 tags.0, tags.1)) (text_again top (text_bytes map ++ (tags_bytes tags ++ rest)) short)
    ∙ ap (λ (read : Option (List ℕ × List ℕ)). read >>= λ map. tags_at map.1 >>= λ tags. Some (Change top map.0 tags.0, tags.1)) (text_again map (tags_bytes tags ++ rest) small)
    ∙ ap (λ (read : Option (List VlanId × List ℕ)). read >>= λ tags. Some (Change top map tags.0, tags.1)) (tags_again tags rest are)

pub change2_again : (top map : List ℕ) (tags : List VlanId) (rest : List ℕ) → length top < 2 ^ 32 → length map < 2 ^ 32 → AreTags tags
    → change2_at ((text_bytes top ++ (text_bytes map ++ tags_bytes tags)) ++ rest) ≡ Some (Change2 top map tags, rest)
unfolding change2_at
change2_again top map tags rest short small are =
    ap change2_at (append_assoc (text_bytes top) (text_bytes map ++ tags_bytes tags) rest ∙ ap (λ (l : List ℕ). text_bytes top ++ l) (append_assoc (text_bytes map) (tags_bytes tags) rest))
    ∙ ap (λ (read : Option (List ℕ × List ℕ)). read >>= λ top. text_at top.1 >>= λ map. tags_at map.1 >>= λ tags. Some (Change2 top.0 map.0 tags.0, tags.1)) (text_again top (text_bytes map ++ (tags_bytes tags ++ rest)) short)
    ∙ ap (λ (read : Option (List ℕ × List ℕ)). read >>= λ map. tags_at map.1 >>= λ tags. Some (Change2 top map.0 tags.0, tags.1)) (text_again map (tags_bytes tags ++ rest) small)
    ∙ ap (λ (read : Option (List VlanId × List ℕ)). read >>= λ tags. Some (Change2 top map tags.0, tags.1)) (tags_again tags rest are)

-- ---- records
lab_takes : (bytes : List ℕ) (x : Record × List ℕ) → IsBytes bytes → lab_at bytes ≡ Some x → Takes (1 ∷ bytes) (payload x.0) x.1 × HasFields x.0
unfolding lab_at
lab_takes bytes x fits e =
    let a = bind_some (text_at bytes) (λ ptop. Some (Lab ptop.0, ptop.1)) x e in
    let t = text_takes bytes a.0.0 a.0.1 fits a.1 in
    subst (λ (y : Record × List ℕ). Takes (1 ∷ bytes) (payload y.0) y.1 × HasFields y.0) (same_Some (Lab a.0.0, a.0.1) x a.2)
    (record { parts = ap (λ (l : List ℕ). 1 ∷ l) t.parts; fits = t.fits }, tt)

-- a name at the front, and what follows it
named : (bytes part exp rest : List ℕ) → Takes bytes (name_bytes part) rest → part ≡ exp → Takes bytes (name_bytes exp) rest
named bytes part exp rest t e = subst (λ (l : List ℕ). Takes bytes (name_bytes l) rest) e t

create_takes : (bytes : List ℕ) (x : Record × List ℕ) → IsBytes bytes → create_at bytes ≡ Some x → Takes (2 ∷ bytes) (payload x.0) x.1 × HasFields x.0
unfolding create_at
create_takes bytes x fits e =
    let a = bind_some (field_at bytes) (λ part. name_of part.0 >>= λ exp. text_at part.1 >>= λ top. Some (Create exp top.0, top.1)) x e in
    let b = bind_some (name_of a.0.0) (λ exp. text_at a.0.1 >>= λ top. Some (Create exp top.0, top.1)) x a.2 in
    let c = bind_some (text_at a.0.1) (λ top. Some (Create b.0 top.0, top.1)) x b.2 in
    let is = name_takes a.0.0 b.0 b.1 in
    let t0 = named bytes a.0.0 b.0 a.0.1 (field_takes bytes a.0.0 a.0.1 fits a.1) is.1 in
    let t1 = text_takes a.0.1 c.0.0 c.0.1 t0.fits c.1 in
    let all = Takes-then bytes (name_bytes b.0) a.0.1 (text_bytes c.0.0) c.0.1 t0 t1 in
    subst (λ (y : Record × List ℕ). Takes (2 ∷ bytes) (payload y.0) y.1 × HasFields y.0) (same_Some (Create b.0 c.0.0, c.0.1) x c.2)
    (record { parts = ap (λ (l : List ℕ). 2 ∷ l) all.parts; fits = all.fits }, subst (λ (l : List ℕ). is_name l ≡ true) is.1 is.0)

create2_takes : (bytes : List ℕ) (x : Record × List ℕ) → IsBytes bytes → create2_at bytes ≡ Some x → Takes (7 ∷ bytes) (payload x.0) x.1 × HasFields x.0
unfolding create2_at
create2_takes bytes x fits e =
    let a = bind_some (field_at bytes) (λ part. name_of part.0 >>= λ exp. text_at part.1 >>= λ top. Some (Create2 exp top.0, top.1)) x e in
    let b = bind_some (name_of a.0.0) (λ exp. text_at a.0.1 >>= λ top. Some (Create2 exp top.0, top.1)) x a.2 in
    let c = bind_some (text_at a.0.1) (λ top. Some (Create2 b.0 top.0, top.1)) x b.2 in
    let is = name_takes a.0.0 b.0 b.1 in
    let t0 = named bytes a.0.0 b.0 a.0.1 (field_takes bytes a.0.0 a.0.1 fits a.1) is.1 in
    let t1 = text_takes a.0.1 c.0.0 c.0.1 t0.fits c.1 in
    let all = Takes-then bytes (name_bytes b.0) a.0.1 (text_bytes c.0.0) c.0.1 t0 t1 in
    subst (λ (y : Record × List ℕ). Takes (7 ∷ bytes) (payload y.0) y.1 × HasFields y.0) (same_Some (Create2 b.0 c.0.0, c.0.1) x c.2)
    (record { parts = ap (λ (l : List ℕ). 7 ∷ l) all.parts; fits = all.fits }, subst (λ (l : List ℕ). is_name l ≡ true) is.1 is.0)

begin_takes : (bytes : List ℕ) (x : Record × List ℕ) → IsBytes bytes → begin_at bytes ≡ Some x → Takes (4 ∷ bytes) (payload x.0) x.1 × HasFields x.0
unfolding begin_at
begin_takes bytes x fits e =
    let a = bind_some (field_at bytes) (λ part. name_of part.0 >>= λ exp. way_at part.1 >>= λ way. Some (Begin exp way.0, way.1)) x e in
    let b = bind_some (name_of a.0.0) (λ exp. way_at a.0.1 >>= λ way. Some (Begin exp way.0, way.1)) x a.2 in
    let c = bind_some (way_at a.0.1) (λ way. Some (Begin b.0 way.0, way.1)) x b.2 in
    let is = name_takes a.0.0 b.0 b.1 in
    let t0 = named bytes a.0.0 b.0 a.0.1 (field_takes bytes a.0.0 a.0.1 fits a.1) is.1 in
    let t1 = way_takes a.0.1 c.0 t0.fits c.1 in
    let all = Takes-then bytes (name_bytes b.0) a.0.1 (way_bytes c.0.0) c.0.1 t0 t1.0 in
    subst (λ (y : Record × List ℕ). Takes (4 ∷ bytes) (payload y.0) y.1 × HasFields y.0) (same_Some (Begin b.0 c.0.0, c.0.1) x c.2)
    (record { parts = ap (λ (l : List ℕ). 4 ∷ l) all.parts; fits = all.fits }, (subst (λ (l : List ℕ). is_name l ≡ true) is.1 is.0, t1.1))

-- a name alone
alone : (bytes : List ℕ) (make : List ℕ → Record) (x : Record × List ℕ) → IsBytes bytes → (field_at bytes >>= λ part. name_of part.0 >>= λ exp. Some (make exp, part.1)) ≡ Some x
    → (exp : List ℕ) × Takes bytes (name_bytes exp) x.1 × (is_name exp ≡ true) × (make exp ≡ x.0)
alone bytes make x fits e =
    let a = bind_some (field_at bytes) (λ part. name_of part.0 >>= λ exp. Some (make exp, part.1)) x e in
    let b = bind_some (name_of a.0.0) (λ exp. Some (make exp, a.0.1)) x a.2 in
    let is = name_takes a.0.0 b.0 b.1 in
    let end = same_Some (make b.0, a.0.1) x b.2 in
    let t = named bytes a.0.0 b.0 a.0.1 (field_takes bytes a.0.0 a.0.1 fits a.1) is.1 in
    (b.0, subst (λ (l : List ℕ). Takes bytes (name_bytes b.0) l) (ap (λ (y : Record × List ℕ). y.1) end) t, subst (λ (l : List ℕ). is_name l ≡ true) is.1 is.0, ap (λ (y : Record × List ℕ). y.0) end)

delete_takes : (bytes : List ℕ) (x : Record × List ℕ) → IsBytes bytes → delete_at bytes ≡ Some x → Takes (3 ∷ bytes) (payload x.0) x.1 × HasFields x.0
unfolding delete_at
delete_takes bytes x fits e =
    let a = alone bytes (λ exp. Delete exp) x fits e in
    subst (λ (r : Record). Takes (3 ∷ bytes) (payload r) x.1 × HasFields r) a.3 (record { parts = ap (λ (l : List ℕ). 3 ∷ l) a.1.parts; fits = a.1.fits }, a.2)

commit_takes : (bytes : List ℕ) (x : Record × List ℕ) → IsBytes bytes → commit_at bytes ≡ Some x → Takes (5 ∷ bytes) (payload x.0) x.1 × HasFields x.0
unfolding commit_at
commit_takes bytes x fits e =
    let a = alone bytes (λ exp. Commit exp) x fits e in
    subst (λ (r : Record). Takes (5 ∷ bytes) (payload r) x.1 × HasFields r) a.3 (record { parts = ap (λ (l : List ℕ). 5 ∷ l) a.1.parts; fits = a.1.fits }, a.2)

abort_takes : (bytes : List ℕ) (x : Record × List ℕ) → IsBytes bytes → abort_at bytes ≡ Some x → Takes (6 ∷ bytes) (payload x.0) x.1 × HasFields x.0
unfolding abort_at
abort_takes bytes x fits e =
    let a = alone bytes (λ exp. Abort exp) x fits e in
    subst (λ (r : Record). Takes (6 ∷ bytes) (payload r) x.1 × HasFields r) a.3 (record { parts = ap (λ (l : List ℕ). 6 ∷ l) a.1.parts; fits = a.1.fits }, a.2)

abbrev kind_7 : ℕ → List ℕ → Option (Record × List ℕ)
kind_7 k rest = cond (eqb k 7) (create2_at rest) None

abbrev kind_6 : ℕ → List ℕ → Option (Record × List ℕ)
kind_6 k rest = cond (eqb k 6) (abort_at rest) (kind_7 k rest)

abbrev kind_5 : ℕ → List ℕ → Option (Record × List ℕ)
kind_5 k rest = cond (eqb k 5) (commit_at rest) (kind_6 k rest)

abbrev kind_4 : ℕ → List ℕ → Option (Record × List ℕ)
kind_4 k rest = cond (eqb k 4) (begin_at rest) (kind_5 k rest)

abbrev kind_3 : ℕ → List ℕ → Option (Record × List ℕ)
kind_3 k rest = cond (eqb k 3) (delete_at rest) (kind_4 k rest)

abbrev kind_2 : ℕ → List ℕ → Option (Record × List ℕ)
kind_2 k rest = cond (eqb k 2) (create_at rest) (kind_3 k rest)

abbrev kind_1 : ℕ → List ℕ → Option (Record × List ℕ)
kind_1 k rest = cond (eqb k 1) (lab_at rest) (kind_2 k rest)

-- one kind, where the test for it held
abbrev Kind : ℕ → List ℕ → Record × List ℕ → Type 0
Kind k rest x = Takes (k ∷ rest) (payload x.0) x.1 × HasFields x.0

one_kind : (k n : ℕ) (rest : List ℕ) (x : Record × List ℕ) (here there : Option (Record × List ℕ)) → cond (eqb k n) here there ≡ Some x
    → (here ≡ Some x → Kind n rest x) → (there ≡ Some x → Kind k rest x) → Kind k rest x
one_kind k n rest x here there e this others = which (chosen (eqb k n) here there x e)
  where
    which : ((eqb k n ≡ true) × (here ≡ Some x)) ⊎ (there ≡ Some x) → Kind k rest x
    which (inl h) = subst (λ k. Kind k rest x) (sym (eqb-true k n h.0)) (this h.1)
    which (inr h) = others h

no_kind : (k : ℕ) (rest : List ℕ) (x : Record × List ℕ) → none ≡ Some x → Kind k rest x
no_kind k rest x e = absurd (cc e)

record_kind : (k : ℕ) (rest : List ℕ) (x : Record × List ℕ) → IsBytes rest → kind_1 k rest ≡ Some x → Kind k rest x
record_kind k rest x fits e =
    one_kind k 1 rest x (lab_at rest) (kind_2 k rest) e (lab_takes rest x fits) (λ e.
    one_kind k 2 rest x (create_at rest) (kind_3 k rest) e (create_takes rest x fits) (λ e.
    one_kind k 3 rest x (delete_at rest) (kind_4 k rest) e (delete_takes rest x fits) (λ e.
    one_kind k 4 rest x (begin_at rest) (kind_5 k rest) e (begin_takes rest x fits) (λ e.
    one_kind k 5 rest x (commit_at rest) (kind_6 k rest) e (commit_takes rest x fits) (λ e.
    one_kind k 6 rest x (abort_at rest) (kind_7 k rest) e (abort_takes rest x fits) (λ e.
    one_kind k 7 rest x (create2_at rest) None e (create2_takes rest x fits) (no_kind k rest x)))))))

record_takes : (bytes : List ℕ) (x : Record × List ℕ) → IsBytes bytes → record_at bytes ≡ Some x → Takes bytes (payload x.0) x.1 × HasFields x.0
unfolding record_at
record_takes bytes x fits e =
    let b = bind_some (byte_at bytes) (λ kind. kind_1 kind.0 kind.1) x e in
    let first = byte_takes bytes b.0.0 b.0.1 fits b.1 in
    let kind = record_kind b.0.0 b.0.1 x first.fits b.2 in
    (record { parts = first.parts ∙ kind.0.parts; fits = kind.0.fits }, kind.1)

-- WHAT IS READ IS A RECORD'S PAYLOAD
pub all_takes : (bytes : List ℕ) (r : Record) → IsBytes bytes → all_of bytes ≡ Some r → Decodes bytes r
unfolding all_of
all_takes bytes r fits e =
    let short = guard_short (ltb (length bytes) (2 ^ 32)) (record_at bytes >>= λ r. cond (eqb (length r.1) 0) (Some r.0) None) r e in
    let a = bind_some (record_at bytes) (λ r. cond (eqb (length r.1) 0) (Some r.0) None) r short.1 in
    let end = guard_so (eqb (length a.0.1) 0) a.0.0 r a.2 in
    let took = record_takes bytes a.0 fits a.1 in
    let none : a.0.1 ≡ [] = nil_from_length a.0.1 (eqb-true (length a.0.1) 0 end.0) in
    let whole : bytes ≡ payload a.0.0 = took.0.parts ∙ ap (λ (l : List ℕ). payload a.0.0 ++ l) none ∙ append-nil (payload a.0.0) in
    let size : length bytes < 2 ^ 32 = ltb-true (length bytes) (2 ^ 32) short.0 in
    subst (λ (s : Record). Decodes bytes s) end.1 (record { is_record = record { fields = took.1; size = subst (λ (l : List ℕ). length l < 2 ^ 32) whole size }; spelled = whole })
  where
    guard_short : {A : Type 0} (b : Bool) (x : Option A) (y : A) → cond b x None ≡ Some y → (b ≡ true) × (x ≡ Some y)
    guard_short true x y e = (refl, e)
    guard_short false x y e = absurd (cc e)
