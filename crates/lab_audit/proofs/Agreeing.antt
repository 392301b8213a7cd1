-- Pipes that are read agree with those that are wanted exactly where the node has these.
use Rattle.std.proofs.Common.{◌≡◌, inl, inr, ℕ, zero, suc, ◌+◌, ◌-◌, ◌<◌, ◌≤◌, Bool, true, false, List, [], ◌∷◌, length, map, Option, Some, None, refl, sym, ap, ◌∙◌, subst, arith, zero-add}
use Rattle.std.specs.Prelude.{◌==◌, ◌&&◌, is_some, slice_get, ◌↔◌}
use Rattle.std.specs.Str.{bytes_eq}
use Rattle.std.proofs.lemmas.Bool.{and_parts, and_from, eqb-true, eq-eqb, false≢true, false_from_ne_true}
use Rattle.std.proofs.lemmas.Slice.Eq.{bytes_eq-Decides}
use Rattle.std.proofs.lemmas.Option.{same_Some}
use Rattle.lab_base.specs.declared.boot.Boot.{Boot}
use Rattle.lab_base.specs.declared.rates.Rates.{Rates}
use Rattle.lab_base.specs.Lists.{Has, Apart}
use Rattle.lab_base.proofs.Members.{Has-map, Has-mapped}
use Rattle.plant.specs.Worlds as worlds
use Rattle.plant.specs.declared.device.NodeRow.{NodeRow}
use Rattle.plant.specs.Readings.{TellsNode, pipe_of}
use Rattle.plant.specs.declared.pipe_row.PipeRow.{PipeRow}
use Rattle.lab_model.specs.Cabled.{SameNode}
use Rattle.lab_audit.specs.Nodes.{same_rates, same_pipe, agree, state_if, row_with}
use Rattle.lab_audit.specs.Reads.{ArePipes}

rates_are : (a b : Rates) → same_rates a b ≡ true → a ≡ b
rates_are a b is =
    let p = and_parts (a.kbps == b.kbps) ((a.micros == b.micros) && (a.ppm == b.ppm)) is in
    let q = and_parts (a.micros == b.micros) (a.ppm == b.ppm) p.1 in
    λ i. record { kbps = eqb-true a.kbps b.kbps p.0 i; micros = eqb-true a.micros b.micros q.0 i; ppm = eqb-true a.ppm b.ppm q.1 i }

same_rates_self : (a : Rates) → same_rates a a ≡ true
same_rates_self a = and_from _ _ (eq-eqb a.kbps a.kbps refl) (and_from _ _ (eq-eqb a.micros a.micros refl) (eq-eqb a.ppm a.ppm refl))

pipes_are : (a b : worlds.PipeRow) → same_pipe a b ≡ true → a ≡ b
pipes_are a b is =
    let p = and_parts (bytes_eq a.from b.from) (bytes_eq a.to b.to && (same_rates a.there b.there && same_rates a.back b.back)) is in
    let q = and_parts (bytes_eq a.to b.to) (same_rates a.there b.there && same_rates a.back b.back) p.1 in
    let r = and_parts (same_rates a.there b.there) (same_rates a.back b.back) q.1 in
    λ i. record { from = (bytes_eq-Decides a.from b.from).0 p.0 i; to = (bytes_eq-Decides a.to b.to).0 q.0 i; there = rates_are a.there b.there r.0 i; back = rates_are a.back b.back r.1 i }

same_pipe_self : (a : worlds.PipeRow) → same_pipe a a ≡ true
same_pipe_self a = and_from _ _ ((bytes_eq-Decides a.from a.from).1 refl) (and_from _ _ ((bytes_eq-Decides a.to a.to).1 refl) (and_from _ _ (same_rates_self a.there) (same_rates_self a.back)))

same_pipe_is : (a b : worlds.PipeRow) → a ≡ b → same_pipe a b ≡ true
same_pipe_is a b e = subst (λ (v : worlds.PipeRow). same_pipe a v ≡ true) e (same_pipe_self a)

-- pipes of a node, all with numbers from k on
pub record AreFrom (pipes : ℕ → Option worlds.PipeRow) (k : ℕ) (found : List PipeRow) : Type 0 where
  pub rising : Apart (λ p q. p.pipe < q.pipe) found
  pub above : (p : PipeRow) → Has found p → k ≤ p.pipe
  pub are : (p : PipeRow) → Has found p → pipes p.pipe ≡ Some (pipe_of p)
  pub all : (n : ℕ) → k ≤ n → is_some (pipes n) ≡ true → (p : PipeRow) × Has found p × (p.pipe ≡ n)

module _ (pipes : ℕ → Option worlds.PipeRow) where
  -- without the first one, whose number is k
  later : (k : ℕ) (p : PipeRow) (ps : List PipeRow) → p.pipe ≡ k → AreFrom pipes k (p ∷ ps) → AreFrom pipes (suc k) ps
  later k p ps first a = record {
    rising = a.rising.1;
    above = λ q h. omega (arith, a.rising.0 q h, first);
    are = λ q h. a.are q (inr h);
    all = λ n le is.
        let f = a.all n (omega (arith, le)) is in
        elim f.1 [
          | inl e ↦ absurd (omega (arith, le, first, f.2, ap (λ (q : PipeRow). q.pipe) e))
          | inr h ↦ (f.0, h, f.2)
        ];
  }

  -- where they agree with those that are wanted the node has these, from k on
  pub agrees : (k : ℕ) (found : List PipeRow) (wants : List worlds.PipeRow) → AreFrom pipes k found → agree k found wants ≡ true → (j : ℕ) → pipes (k + j) ≡ slice_get wants j
  agrees k [] [] a is j = none (pipes (k + j)) refl
    where
      none : (o : Option worlds.PipeRow) → pipes (k + j) ≡ o → o ≡ None
      none None e = refl
      none (Some x) e = absurd (a.all (k + j) (omega arith) (ap is_some e)).1
  agrees k [] (x ∷ xs) a is j = absurd (false≢true is)
  agrees k (p ∷ ps) [] a is j = absurd (false≢true is)
  agrees k (p ∷ ps) (x ∷ xs) a is zero =
      let t = and_parts ((p.pipe == k) && same_pipe (pipe_of p) x) (agree (suc k) ps xs) is in
      let u = and_parts (p.pipe == k) (same_pipe (pipe_of p) x) t.0 in
      let here : k + 0 ≡ p.pipe = omega (arith, eqb-true p.pipe k u.0) in
      ap pipes here ∙ a.are p (inl refl) ∙ ap Some (pipes_are (pipe_of p) x u.1)
  agrees k (p ∷ ps) (x ∷ xs) a is (suc j) =
      let t = and_parts ((p.pipe == k) && same_pipe (pipe_of p) x) (agree (suc k) ps xs) is in
      let u = and_parts (p.pipe == k) (same_pipe (pipe_of p) x) t.0 in
      let next : k + suc j ≡ suc k + j = omega arith in
      ap pipes next ∙ agrees (suc k) ps xs (later k p ps (eqb-true p.pipe k u.0) a) t.1 j

  -- where the node has those that are wanted they agree
  pub agree_where : (k : ℕ) (found : List PipeRow) (wants : List worlds.PipeRow) → AreFrom pipes k found → ((j : ℕ) → pipes (k + j) ≡ slice_get wants j) → agree k found wants ≡ true
  agree_where k [] [] a same = refl
  agree_where k [] (x ∷ xs) a same =
      let here : pipes k ≡ Some x = (let e : k ≡ k + 0 = omega arith in ap pipes e ∙ same 0) in
      absurd (a.all k (omega arith) (ap is_some here)).1
  agree_where k (p ∷ ps) [] a same =
      let at : p.pipe ≡ k + (p.pipe - k) = omega (arith, a.above p (inl refl)) in
      absurd (false≢true (sym (ap is_some (ap pipes at ∙ same (p.pipe - k))) ∙ ap is_some (a.are p (inl refl))))
  agree_where k (p ∷ ps) (x ∷ xs) a same =
      let here : pipes k ≡ Some x = (let e : k ≡ k + 0 = omega arith in ap pipes e ∙ same 0) in
      let f = a.all k (omega arith) (ap is_some here) in
      let first : p.pipe ≡ k = elim f.1 [
        | inl e ↦ ap (λ (q : PipeRow). q.pipe) e ∙ f.2
        | inr h ↦ absurd (omega (arith, a.rising.0 f.0 h, a.above p (inl refl), f.2))
      ] in
      let value : Some (pipe_of p) ≡ Some x = sym (a.are p (inl refl)) ∙ ap pipes first ∙ here in
      let is : pipe_of p ≡ x = ap (λ (o : Option worlds.PipeRow). or_this o) value in
      and_from _ _ (and_from _ _ (eq-eqb p.pipe k first) (same_pipe_is (pipe_of p) x is))
      (agree_where (suc k) ps xs (later k p ps first a) (λ j. (let e : suc k + j ≡ k + suc j = omega arith in ap pipes e ∙ same (suc j))))
    where
      or_this : Option worlds.PipeRow → worlds.PipeRow
      or_this None = pipe_of p
      or_this (Some v) = v

-- the pipes of a node as they are read
unmapped : (ps : List PipeRow) → Apart ◌<◌ (map (λ p. p.pipe) ps) → Apart (λ (p q : PipeRow). p.pipe < q.pipe) ps
unmapped [] r = tt
unmapped (p ∷ ps) r = ((λ q h. r.0 q.pipe (Has-mapped (λ (x : PipeRow). x.pipe) ps q h)), unmapped ps r.1)

from_read : (row : worlds.NodeRow) (found : List PipeRow) → ArePipes row found → AreFrom row.pipes 0 found
from_read row found a = record {
  rising = unmapped found a.numbers.rising;
  above = λ p h. omega arith;
  are = a.each;
  all = λ n le is. Has-map (λ (x : PipeRow). x.pipe) found n ((a.numbers.exact n).1 is);
}

-- a state that isn't open is the one that is told
told_state : (row : worlds.NodeRow) (told : NodeRow) → TellsNode row told → is_some row.boot ≡ true → row.boot ≡ Some told.state
told_state row told tells is = by row.boot refl is
  where
    by : (o : Option Boot) → row.boot ≡ o → is_some o ≡ true → row.boot ≡ Some told.state
    by None e none = absurd (false≢true none)
    by (Some s) e some = e ∙ ap Some (sym (tells.state s e))

-- THE NODE IS AS IT IS WANTED where what is read of it is what is wanted
pub wanted_by_reading : (row : worlds.NodeRow) (told : NodeRow) (found : List PipeRow) (os : Option (List ℕ)) (up : Bool) (wants : List worlds.PipeRow) (same : Bool) → TellsNode row told → ArePipes row found
    → (same ≡ true ↔ (told.os ≡ os) × (told.state ≡ state_if up) × (agree 0 found wants ≡ true)) → is_some row.boot ≡ true → same ≡ true ↔ SameNode row (row_with os up wants)
wanted_by_reading row told found os up wants same tells pipes test known = (
  (λ yes. let t = test.0 yes in record {
    os = sym tells.os ∙ t.0;
    pipes = λ k. ap row.pipes (sym (zero-add k)) ∙ agrees row.pipes 0 found wants (from_read row found pipes) t.2 k;
    boot = told_state row told tells known ∙ ap Some t.1;
  }),
  (λ s. test.1 (
    tells.os ∙ s.os,
    same_Some told.state (state_if up) (sym (told_state row told tells known) ∙ s.boot),
    agree_where row.pipes 0 found wants (from_read row found pipes) (λ j. ap row.pipes (zero-add j) ∙ s.pipes j),
  )),
)

-- lists that agree are as long
pub agree_length : (k : ℕ) (found : List PipeRow) (wants : List worlds.PipeRow) → agree k found wants ≡ true → length found ≡ length wants
agree_length k [] [] is = refl
agree_length k [] (x ∷ xs) is = absurd (false≢true is)
agree_length k (p ∷ ps) [] is = absurd (false≢true is)
agree_length k (p ∷ ps) (x ∷ xs) is = ap suc (agree_length (suc k) ps xs (and_parts ((p.pipe == k) && same_pipe (pipe_of p) x) (agree (suc k) ps xs) is).1)

pub not_as_long : (k : ℕ) (found : List PipeRow) (wants : List worlds.PipeRow) → (length found ≡ length wants → ⊥) → false ≡ agree k found wants
not_as_long k found wants differ = sym (false_from_ne_true (agree k found wants) (λ is. differ (agree_length k found wants is)))
