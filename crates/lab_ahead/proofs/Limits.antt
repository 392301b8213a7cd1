-- A batch keeps its limits, line after line.
use Rattle.std.proofs.Common.{◌≡◌, ◌<◌, ◌≤◌, ℕ, Bool, true, false, cond, eqb, List, [], ◌∷◌, ◌++◌, length, Some, None, Result, Ok, Err, refl, ap, subst, inl, inr, arith, length-append}
use Rattle.std.specs.Prelude.{nat_le, nat_lt, codes, ◌&&◌}
use Rattle.std.specs.Str.Parse.{digits_value}
use Rattle.std.proofs.lemmas.Bool.{and_parts, leb-true, ltb-true}
use Rattle.lab_base.specs.Names.{same_name}
use Rattle.lab_base.specs.Numbers.{is_digits}
use Rattle.lab_base.specs.Kinds.{both_of}
use Rattle.lab_base.specs.Parts.{at_least, name_of, number_from}
use Rattle.lab_base.specs.declared.fault.Kind.{Kind}
use Rattle.lab_base.specs.declared.fault.Kind.TheVariants as kinds
use Rattle.lab_base.proofs.Members.{Has-append}
use Rattle.line_text.specs.Fields.{field_at}
use Rattle.line_text.specs.Reading.{and_then}
use Rattle.line_text.proofs.ListLaws.{both_read}
use Rattle.lab_ahead.specs.declared.batch.Batch.{Batch}
use Rattle.lab_ahead.specs.declared.batch.Promise.{Promise}
use Rattle.lab_ahead.specs.declared.batch.Run.{Run}
use Rattle.lab_ahead.specs.Batches.{IsPromise, IsRun, KeepsLimits, PromiseRead, added, in_order, promise_line, run_line, run_of, start, with_promise, with_run}

-- what is read after a test, and after a first step
tested : {X : Type 0} (b : Bool) (kind : Kind) (r : Result X Kind) (x : X) → cond b r (Err kind) ≡ Ok x → (b ≡ true) × (r ≡ Ok x)
tested true kind r x h = (refl, h)
tested false kind r x h = absurd (cc h)

stepped : {A B : Type 0} (r : Result A Kind) (next : A → Result B Kind) (b : B) → and_then r next ≡ Ok b → (a : A) × (r ≡ Ok a) × (next a ≡ Ok b)
stepped (Ok a) next b h = (a, refl, h)
stepped (Err kind) next b h = absurd (cc h)

-- LINES

in_range : (least most : ℕ) (word : List ℕ) (n : ℕ) → number_from least most word ≡ Ok n → (least ≤ n) × (n ≤ most)
in_range least most word n h = by (is_digits word && nat_le (digits_value 10 word) most) refl h
  where
    by : (b : Bool) → (is_digits word && nat_le (digits_value 10 word) most) ≡ b → at_least least (cond b (Some (digits_value 10 word)) None) ≡ Ok n → (least ≤ n) × (n ≤ most)
    by false is h = absurd (cc h)
    by true is h =
        let found = tested (nat_le least (digits_value 10 word)) kinds.Number (Ok (digits_value 10 word)) n h in
        let same : digits_value 10 word ≡ n = cc (found.1) in
        let low : least ≤ digits_value 10 word = leb-true least (digits_value 10 word) found.0 in
        let high : digits_value 10 word ≤ most = leb-true (digits_value 10 word) most (and_parts (is_digits word) (nat_le (digits_value 10 word) most) is).1 in
        (omega arith, omega arith)

ordered : (read : PromiseRead) (promise : Promise) → in_order read ≡ Ok promise → (read ≡ Ok (promise.kind, (promise.count, (promise.from, promise.to)))) × (promise.from < promise.to)
ordered (Ok (kind, (count, (from, to)))) promise h =
    let made : Promise = record { kind = kind; count = count; from = from; to = to } in
    let found = tested (nat_lt from to) kinds.Range (Ok made) promise h in
    let same : made ≡ promise = cc (found.1) in
    (ap (λ (p : Promise). Ok (p.kind, (p.count, (p.from, p.to)))) same, subst (λ (p : Promise). p.from < p.to) same (ltb-true from to found.0))
ordered (Err kind) promise h = absurd (cc h)

promise_read : (fields : List (List ℕ)) (promise : Promise) → promise_line fields ≡ Ok promise → IsPromise promise
promise_read fields promise h =
    let kind = name_of (field_at fields 0) in
    let count = number_from 1 1024 (field_at fields 1) in
    let from = number_from 0 1000000000000 (field_at fields 2) in
    let to = number_from 0 1000000000000 (field_at fields 3) in
    let line = tested (eqb (length fields) 4) kinds.Fields (in_order (both_of kind (both_of count (both_of from to)))) promise h in
    let read = ordered (both_of kind (both_of count (both_of from to))) promise line.1 in
    let a = both_read kind (both_of count (both_of from to)) promise.kind (promise.count, (promise.from, promise.to)) read.0 in
    let b = both_read count (both_of from to) promise.count (promise.from, promise.to) a.1 in
    let c = both_read from to promise.from promise.to b.1 in
    let counted = in_range 1 1024 (field_at fields 1) promise.count b.0 in
    let ended = in_range 0 1000000000000 (field_at fields 3) promise.to c.1 in
    record { some = counted.0; few = counted.1; order = read.1; end = ended.1 }

run_parts : (read : Result (List ℕ × (ℕ × ℕ)) Kind) (run : Run) → run_of read ≡ Ok run → read ≡ Ok (run.exp, (run.seed, run.length))
run_parts (Ok (exp, (seed, length))) run h =
    let made : Run = record { exp = exp; seed = seed; length = length } in
    let same : made ≡ run = cc h in
    ap (λ (r : Run). Ok (r.exp, (r.seed, r.length))) same
run_parts (Err kind) run h = absurd (cc h)

run_read : (fields : List (List ℕ)) (run : Run) → run_line fields ≡ Ok run → IsRun run
run_read fields run h =
    let exp = name_of (field_at fields 0) in
    let seed = number_from 0 18446744073709551615 (field_at fields 1) in
    let span = number_from 1 1000000000000 (field_at fields 2) in
    let line = tested (eqb (length fields) 3) kinds.Fields (run_of (both_of exp (both_of seed span))) run h in
    let read = run_parts (both_of exp (both_of seed span)) run line.1 in
    let a = both_read exp (both_of seed span) run.exp (run.seed, run.length) read in
    let b = both_read seed span run.seed run.length a.1 in
    let ranged = in_range 1 1000000000000 (field_at fields 2) run.length b.1 in
    record { some = ranged.0; short = ranged.1 }

-- WHAT A LINE ADDS

pub start_keeps : KeepsLimits start
start_keeps = record { few_promises = omega arith; few_runs = omega arith; promises = λ promise h. absurd h; runs = λ run h. absurd h }

promise_keeps : (batch : Batch) (promise : Promise) (new : Batch) → KeepsLimits batch → IsPromise promise → with_promise batch promise ≡ Ok new → KeepsLimits new
promise_keeps batch promise new keeps is h =
    let more : Batch = record batch { promises = batch.promises ++ promise ∷ [] } in
    let found = tested (nat_lt (length batch.promises) 64) kinds.Limit (Ok more) new h in
    let same : more ≡ new = cc (found.1) in
    let few : length batch.promises < 64 = ltb-true (length batch.promises) 64 found.0 in
    subst (λ (b : Batch). KeepsLimits b) same (record {
      few_promises = omega (arith, length-append batch.promises (promise ∷ []));
      few_runs = keeps.few_runs;
      promises = λ p there. elim (Has-append batch.promises (promise ∷ []) p there) [
        | inl old ↦ keeps.promises p old
        | inr last ↦ elim last [ inl e ↦ subst (λ (q : Promise). IsPromise q) e is | inr none ↦ absurd none ]
      ];
      runs = keeps.runs;
    })

run_keeps : (batch : Batch) (run : Run) (new : Batch) → KeepsLimits batch → IsRun run → with_run batch run ≡ Ok new → KeepsLimits new
run_keeps batch run new keeps is h =
    let more : Batch = record batch { runs = batch.runs ++ run ∷ [] } in
    let found = tested (nat_lt (length batch.runs) 256) kinds.Limit (Ok more) new h in
    let same : more ≡ new = cc (found.1) in
    let few : length batch.runs < 256 = ltb-true (length batch.runs) 256 found.0 in
    subst (λ (b : Batch). KeepsLimits b) same (record {
      few_promises = keeps.few_promises;
      few_runs = omega (arith, length-append batch.runs (run ∷ []));
      promises = keeps.promises;
      runs = λ r there. elim (Has-append batch.runs (run ∷ []) r there) [
        | inl old ↦ keeps.runs r old
        | inr last ↦ elim last [ inl e ↦ subst (λ (q : Run). IsRun q) e is | inr none ↦ absurd none ]
      ];
    })

-- a line keeps the limits
pub line_keeps : (batch new : Batch) (fields : List (List ℕ)) → KeepsLimits batch → added batch fields ≡ Ok new → KeepsLimits new
line_keeps batch new [] keeps h = absurd (cc h)
line_keeps batch new (keyword ∷ fields) keeps h = by (same_name keyword (codes "promise")) (same_name keyword (codes "run")) h
  where
    by : (a b : Bool) → cond a (and_then (promise_line fields) (with_promise batch)) (cond b (and_then (run_line fields) (with_run batch)) (Err kinds.Word)) ≡ Ok new → KeepsLimits new
    by true b h = let read = stepped (promise_line fields) (with_promise batch) new h in promise_keeps batch read.0 new keeps (promise_read fields read.0 read.1) read.2
    by false b h =
        let found = tested b kinds.Word (and_then (run_line fields) (with_run batch)) new h in
        let read = stepped (run_line fields) (with_run batch) new found.1 in
        run_keeps batch read.0 new keeps (run_read fields read.0 read.1) read.2
