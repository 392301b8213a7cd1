-- Records that are packed one after the other.
use Rattle.std.specs.List.{flat_map}
use Rattle.std.proofs.Common.{◌≡◌, ◌+◌, ◌<◌, ◌≤◌, ℕ, zero, suc, Bool, true, false, Option, Some, None, Result, Ok, Err, List, [], ◌∷◌, ◌++◌, length, take, refl, sym, ap, ◌∙◌, subst, arith, add-one, length-append, append_assoc}
use Rattle.std.specs.Prelude.{OnOk, slice_get}
use Rattle.std.specs.Option.{unwrap_or}
use Rattle.std.proofs.Math.Seq.{take-suc}
use Rattle.std.proofs.lemmas.Option.{slice_get_within, unwrap_or-slice_get}
use Rattle.std.proofs.lemmas.List.{append-nil, take_all}
use Rattle.std.proofs.lemmas.Grind.{flat_map-append}
use Rattle.lab_base.specs.Names.{is_name}
use Rattle.lab_base.specs.declared.ids.VlanId.{VlanId}
use Rattle.lab_base.proofs.Names.{name_short}
use Rattle.virt_topo.specs.declared.wiring.Wiring.{Wiring}
use Rattle.virt_topo.specs.declared.mapping.Mapped.{Mapped}
use Rattle.phys_lab.specs.Labs.{Lab as AnyLab}
use Rattle.lab_model.specs.Holding.{Suits}
use Rattle.virt_topo.proofs.CableLaws.{limits_of, sound_keeps}
use Rattle.journal_rec.specs.Payloads.{IsShort, IsBody, tags_bytes, text_bytes, way_bytes}
use Rattle.journal_rec.specs.declared.record.Record.{Record}
use Rattle.journal_rec.specs.declared.record.Record.TheVariants.{Lab, Begin, Commit}
use Rattle.journal_rec.specs.declared.record.Way.TheVariants.{In as WayIn, Out as WayOut, Change as WayChange, Change2 as WayChange2}
use Rattle.journal_rec.specs.Packing.{ArePacked}
use Rattle.virt_topo.specs.declared.experiment.Experiment.{Experiment}
use Rattle.virt_topo.specs.declared.experiment.Phase.TheVariants.{Moving}
use Rattle.journal_rec.proofs.Fields.{tags_size}
use Rattle.records_model.specs.Labs.{Texts, create_in, change_in}
use Rattle.records_model.proofs.Finding.{none_some}
use Rattle.lab_state.specs.Packing.{packed_phase, PacksMore}

-- one list after another
pub packs_on : (one two three : List ℕ) (rs ss : List Record) → PacksMore one two rs → PacksMore two three ss → PacksMore one three (rs ++ ss)
packs_on one two three rs ss first second before packed = subst (λ l. ArePacked three l) (append_assoc before rs ss) (second (before ++ rs) (first before packed))

-- a record after the others
pub packs_one : {E : Type 0} (r : Result (Unit {0}) E) (old new bytes : List ℕ) (entry : Record) → IsBody bytes entry
    → OnOk r ((rs : List Record) (x : Record) → ArePacked old rs → IsBody bytes x → ArePacked new (rs ++ x ∷ [])) → OnOk r (PacksMore old new (entry ∷ []))
packs_one (Ok u) old new bytes entry is h = λ before packed. h before entry packed is
packs_one (Err e) old new bytes entry is h = tt

-- records after some that were packed before
pub packs_then : {E : Type 0} (r : Result (Unit {0}) E) (one two three : List ℕ) (rs ss : List Record) → PacksMore one two rs → OnOk r (PacksMore two three ss) → OnOk r (PacksMore one three (rs ++ ss))
packs_then (Ok u) one two three rs ss first second = packs_on one two three rs ss first second
packs_then (Err e) one two three rs ss first second = tt

-- ---- records are short

pub few_tags : (lab : AnyLab) (m : Mapped) → Suits lab m → length m.tags ≤ 512
few_tags lab m suits = omega (arith, suits.tags, (limits_of m.wiring (sound_keeps m.wiring suits.sound)).segments)

pub lab_is_short : (ptop : List ℕ) → length ptop ≤ 16777216 → IsShort (Lab ptop)
lab_is_short ptop short = record { tags = omega arith; size = omega (arith, short) }

pub creation_short : (second : Bool) (name top : List ℕ) → is_name name ≡ true → length top ≤ 16777216 → IsShort (create_in second name top)
creation_short false name top named short = record { tags = omega arith; size = omega (arith, name_short name named, short, length-append name (text_bytes top)) }
creation_short true name top named short = record { tags = omega arith; size = omega (arith, name_short name named, short, length-append name (text_bytes top)) }

pub entry_short : (name map : List ℕ) (tags : List VlanId) → is_name name ≡ true → length map ≤ 16777216 → length tags ≤ 512 → IsShort (Begin name (WayIn map tags))
entry_short name map tags named short few = record {
  tags = omega (arith, few);
  size = omega (arith, name_short name named, short, few, length-append name (way_bytes (WayIn map tags)), length-append map (tags_bytes tags), tags_size tags);
}

pub turn_short : (second : Bool) (name top map : List ℕ) (tags : List VlanId) → is_name name ≡ true → length top ≤ 16777216 → length map ≤ 16777216 → length tags ≤ 512 → IsShort (Begin name (change_in second top map tags))
turn_short false name top map tags named top_short short few = record {
  tags = omega (arith, few);
  size = omega (arith, name_short name named, top_short, short, few, length-append name (way_bytes (WayChange top map tags)), length-append top (text_bytes map ++ tags_bytes tags), length-append map (tags_bytes tags), tags_size tags);
}
turn_short true name top map tags named top_short short few = record {
  tags = omega (arith, few);
  size = omega (arith, name_short name named, top_short, short, few, length-append name (way_bytes (WayChange2 top map tags)), length-append top (text_bytes map ++ tags_bytes tags), length-append map (tags_bytes tags), tags_size tags);
}

pub exit_short : (name : List ℕ) → is_name name ≡ true → IsShort (Begin name WayOut)
exit_short name named = record { tags = omega arith; size = omega (arith, name_short name named, length-append name (way_bytes WayOut)) }

pub commit_short : (name : List ℕ) → is_name name ≡ true → IsShort (Commit name)
commit_short name named = record { tags = omega arith; size = omega (arith, name_short name named) }

-- one that leaves a mapping is packed by it
pub leaving_any : (t : Texts) (lab : AnyLab) (name : List ℕ) (w v : Wiring) (old : Mapped) (new : Option Mapped) → packed_phase t lab name w (Moving (Some old) new) ≡ packed_phase t lab name v (Moving (Some old) new)
leaving_any t lab name w v old None = refl
leaving_any t lab name w v old (Some new) = refl

take_more : (es : List Experiment) (n : ℕ) (e : Experiment) → slice_get es n ≡ Some e → take (n + 1) es ≡ take n es ++ e ∷ []
take_more es n e is = ap (λ m. take m es) (add-one n) ∙ take-suc es n e (slice_get_within es n e is) ∙ ap (λ x. take n es ++ x ∷ []) (sym (unwrap_or-slice_get es n e) ∙ ap (λ o. unwrap_or o e) is)

-- the records of the experiments so far, and of one more
pub packs_push : (f : Experiment → List Record) (old mid new : List ℕ) (es : List Experiment) (n : ℕ) (e : Experiment) → slice_get es n ≡ Some e → PacksMore old mid (flat_map f (take n es)) → PacksMore mid new (f e) → PacksMore old new (flat_map f (take (n + 1) es))
packs_push f old mid new es n e is first second =
    let one : f e ≡ flat_map f (e ∷ []) = sym (append-nil (f e)) in
    let more : flat_map f (take n es) ++ f e ≡ flat_map f (take (n + 1) es) =
    ap (λ (l : List Record). flat_map f (take n es) ++ l) one ∙ sym (flat_map-append f (take n es) (e ∷ [])) ∙ ap (λ (l : List Experiment). flat_map f l) (sym (take_more es n e is)) in
    subst (λ (l : List Record). PacksMore old new l) more (packs_on old mid new (flat_map f (take n es)) (f e) first second)

pub packs_none : (old : List ℕ) → PacksMore old old []
packs_none old before packed = subst (λ (l : List Record). ArePacked old l) (sym (append-nil before)) packed

pub there_is : (es : List Experiment) (n : ℕ) → n < length es → slice_get es n ≡ None → ⊥
there_is [] n h none = omega (arith, h)
there_is (x ∷ es) zero h none = none_some x (sym none)
there_is (x ∷ es) (suc n) h none = there_is es n (omega (arith, h)) none

pub packs_all : (f : Experiment → List Record) (old new : List ℕ) (es : List Experiment) (n : ℕ) → length es ≤ n → PacksMore old new (flat_map f (take n es)) → PacksMore old new (flat_map f es)
packs_all f old new es n all h = subst (λ (l : List Experiment). PacksMore old new (flat_map f l)) (take_all n es all) h
