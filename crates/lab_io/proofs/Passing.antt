-- Lines that a reader passed, one after another.
use Rattle.std.proofs.Common.{◌≡◌, inl, inr, ℕ, ◌+◌, ◌^◌, ◌≤◌, Bool, true, false, List, [], ◌∷◌, ◌++◌, length, map, Option, Some, refl, sym, ap, subst, ◌∙◌, arith, append_assoc, length-append}
use Rattle.std.proofs.lemmas.Bool.{true≢false}
use Rattle.std.proofs.lemmas.List.{append-nil, map-append}
use Rattle.std.specs.Io.KnownBytes.{prepend_known}
use Rattle.lab_io.specs.Lines.{lines_from}
use Rattle.lab_io.specs.Taken.{TookText}
use Rattle.lab_io.specs.Passed.{Stand, IsSettled, IsWhole, MayFollow, Passed}
use Rattle.lab_io.proofs.Known.{prepend_known-append, prepend_known-nil}
use Rattle.lab_io.proofs.LineLaws.{lines-ended, lines-last, line-text}

abbrev some_of : List (List ℕ) → List (Option (List ℕ))
some_of texts = map (λ t. Some t) texts

-- A LINE THAT WAS TAKEN IS PASSED
pub passed_one : (old new : Stand) (text : List ℕ) → old.ended ≡ false → TookText old.rest new.rest text new.ended old.taken new.taken → new.lines ≡ old.lines + 1 → Passed old new (text ∷ [])
passed_one old new text open_before t number = elim t.is_line [
  | inl e ↦ record {
    raw = t.raw;
    front = t.front;
    ends = inl e.1;
    stays = λ h. open_before;
    idle = λ h. absurd (true≢false (sym h ∙ open_before));
    whole = λ h. inr (e.0.0, e.0.1);
    lines = λ more may.
        lines-ended old.taken t.raw text more e.0
        ∙ ap (λ (x : Option (List ℕ)). x ∷ lines_from (old.taken + length t.raw) more) (line-text old.taken (length t.raw) text t.short (subst (λ n. n ≤ 2 ^ 32) t.counted t.within))
        ∙ ap (λ (n : ℕ). Some text ∷ lines_from n more) (sym t.counted);
    number = number;
  }
  | inr l ↦ record {
    raw = t.raw;
    front = t.front;
    ends = inr l.1;
    stays = λ h. open_before;
    idle = λ h. absurd (true≢false (sym h ∙ open_before));
    whole = λ h. absurd (true≢false (sym l.2 ∙ h));
    lines = λ more may. elim may [
      | inl h ↦ absurd (true≢false (sym l.2 ∙ h))
      | inr none ↦ subst (λ (m : List ℕ). lines_from old.taken (t.raw ++ m) ≡ Some text ∷ lines_from new.taken m) (sym none)
          (ap (lines_from old.taken) (append-nil t.raw)
          ∙ lines-last old.taken t.raw text l.0
          ∙ ap (λ (x : Option (List ℕ)). x ∷ []) (line-text old.taken (length t.raw) text t.short (subst (λ n. n ≤ 2 ^ 32) t.counted t.within)))
    ];
    number = number;
  }
]

-- NO LINE IS PASSED
pub passed_none : (old new : Stand) → IsSettled new → (new.ended ≡ false → old.ended ≡ false) → new.rest ≡ old.rest → new.taken ≡ old.taken → new.lines ≡ old.lines → Passed old new []
passed_none old new settled stays rest taken lines = record {
  raw = [];
  front = sym rest ∙ sym (prepend_known-nil new.rest);
  ends = settled;
  stays = stays;
  idle = λ h. refl;
  whole = λ h. inl refl;
  lines = λ more may. ap (λ (n : ℕ). lines_from n more) (sym taken);
  number = lines ∙ omega arith;
}

whole_after : (a b : List ℕ) → IsWhole a → IsWhole b → IsWhole (a ++ b)
whole_after a b whole (inl none) = subst (λ (l : List ℕ). IsWhole (a ++ l)) (sym none) (subst (λ (l : List ℕ). IsWhole l) (sym (append-nil a)) whole)
whole_after a b whole (inr f) = inr (a ++ f.0, ap (λ (l : List ℕ). a ++ l) f.1 ∙ sym (append_assoc a f.0 (10 ∷ [])))

-- SOME LINES, AND THEN OTHERS
pub passed_more : (a b c : Stand) (xs ys : List (List ℕ)) → Passed a b xs → Passed b c ys → Passed a c (xs ++ ys)
passed_more a b c xs ys p q = record {
  raw = p.raw ++ q.raw;
  front = p.front ∙ ap (prepend_known p.raw) q.front ∙ prepend_known-append p.raw q.raw c.rest;
  ends = q.ends;
  stays = λ h. p.stays (q.stays h);
  idle = λ h. ap (λ (l : List ℕ). l ++ q.raw) (p.idle h) ∙ q.idle (ended h);
  whole = λ h. whole_after p.raw q.raw (p.whole (q.stays h)) (q.whole h);
  lines = λ more may.
      ap (lines_from a.taken) (append_assoc p.raw q.raw more)
      ∙ p.lines (q.raw ++ more) (follows more may)
      ∙ ap (λ (l : List (Option (List ℕ))). some_of xs ++ l) (q.lines more may)
      ∙ sym (append_assoc (some_of xs) (some_of ys) (lines_from c.taken more))
      ∙ ap (λ (l : List (Option (List ℕ))). l ++ lines_from c.taken more) (sym (map-append (λ (t : List ℕ). let o : Option (List ℕ) = Some t in o) xs ys));
  number = q.number ∙ ap (λ (n : ℕ). n + length ys) p.number ∙ omega (arith, length-append xs ys);
}
  where
    ended : a.ended ≡ true → b.ended ≡ true
    ended h = by b.ended refl
      where
        by : (t : Bool) → b.ended ≡ t → b.ended ≡ true
        by true e = e
        by false e = absurd (true≢false (sym h ∙ p.stays e))

    follows : (more : List ℕ) → MayFollow c more → MayFollow b (q.raw ++ more)
    follows more may = by b.ended refl
      where
        by : (t : Bool) → b.ended ≡ t → MayFollow b (q.raw ++ more)
        by false e = inl e
        by true e = elim may [
          | inl h ↦ absurd (true≢false (sym e ∙ q.stays h))
          | inr none ↦ inr (ap (λ (l : List ℕ). l ++ more) (q.idle e) ∙ none)
        ]
