-- The parts of an append, and what each leaves.
use Rattle.std.proofs.Common.{◌≡◌, ◌⊎◌, inl, inr, ℕ, ◌+◌, ◌≤◌, Bool, List, [], ◌∷◌, ◌++◌, length, take, drop, Option, Some, None, Result, Ok, Err, refl, sym, ap, ◌∙◌, subst, arith, append_assoc, length-append}
use Rattle.std.specs.Prelude.{IfSome, OnOk}
use Rattle.std.proofs.lemmas.List.{append-nil, length-take, length-drop}
use Rattle.plant.specs.Disks.{Disk, disk, ArePossible, put}
use Rattle.plant.specs.DiskCalls.{WriteSteps, SyncSteps}
use Rattle.plant.specs.Events.{Event, Wrote, Synced, Missed}
use Rattle.plant.specs.Told.{Told, with_steps}
use Rattle.plant.specs.declared.device.Fault.{Fault}
use Rattle.plant.specs.declared.device.Fault.TheVariants.{Failed, Stopped}
use Rattle.plant.specs.declared.step.Side.{Side}
use Rattle.plant.specs.declared.step.Side.TheVariants.{A, B}
use Rattle.plant.proofs.Traces.{with_steps-nil}
use Rattle.journal_rec.specs.declared.record.Record.{Record}
use Rattle.journal_rec.specs.Payloads.{le, payload, body, IsBody, IsRecord}
use Rattle.journal_model.specs.Journals.{size}
use Rattle.journal_model.specs.Appends.{front, Rests, Opened, Run, Nothing, Body, Settled, Gate, All, added, IsOn, AfterRun}
use Rattle.journal_model.proofs.Gates.{length_front, gate_push}
use Rattle.journal_model.proofs.Runs.{known_added, known_push, run_disk, run_images}
use Rattle.journal_model.proofs.Traces.{disk_more}
use Rattle.journal_disk.proofs.Chains.{Came, broke, sync_came, write_came, sync_reaches}
use Rattle.journal_disk.proofs.Prefixes.{AllPrefixes, each_prefix, one_more, missed_images}
use Rattle.journal_disk.specs.declared.fault.AppendFault.{AppendFault}
use Rattle.journal_disk.specs.declared.fault.AppendFault.TheVariants as faults
use Rattle.journal_disk.specs.declared.journal.Journal.{Journal}
use Rattle.journal_disk.specs.Faults.{append_fault}
use Rattle.journal_disk.specs.Standing.{side_of, gate_of, length_of, IsAt, Ends, Appends, Adds, Moments}
use Rattle.journal_disk.proofs.LastSteps.{append_last}

-- an append for which there is no room, one whose steps broke off, and one whose steps are all there
pub appends_full : (told : Option Told) (j : Journal) (r : Record) (length size : ℕ) → Appends told told j r (Err (faults.Full length size))
appends_full told j r length size = record { run = Nothing; more = []; trace = with_steps-nil told; ends = (refl, refl) }

pub appends_broke : (old new : Option Told) (j : Journal) (r : Record) (fault : Fault) → Adds old new j r (Err fault) → Appends old new j r (Err (append_fault fault))
appends_broke old new j r Failed a = record { run = a.far; more = a.more; trace = a.trace; ends = a.ends }
appends_broke old new j r Stopped a = record { run = a.far; more = a.more; trace = a.trace; ends = a.ends }

pub appends_done : (old new : Option Told) (j : Journal) (r : Record) (u v : Unit {0}) → Adds old new j r (Ok u) → Appends old new j r (Ok v)
appends_done old new j r u v a = record { run = a.far; more = a.more; trace = a.trace; ends = a.ends }

part : (old new : Option Told) (j : Journal) (r : Record) (fault : Fault) → Came (added (side_of j) (gate_of j) r) (λ _. Unit {0}) old new (side_of j) fault → Adds old new j r (Err fault)
part old new j r fault c = broke (added (side_of j) (gate_of j) r) (λ _. Unit {0}) All old new (side_of j) fault c

-- a sync that was not acknowledged: before it this part was made, and with it that one
pub sync_part : (old one two : Option Told) (j : Journal) (r : Record) (before after : Run) (stopped : Bool) (fault : Fault) (steps : List Event) → one ≡ with_steps old (added (side_of j) (gate_of j) r before)
    → added (side_of j) (gate_of j) r before ++ Synced (side_of j) ∷ [] ≡ added (side_of j) (gate_of j) r after
    → two ≡ with_steps one steps → SyncSteps (side_of j) stopped (Err fault) steps → Adds old two j r (Err fault)
sync_part old one two j r before after stopped fault steps first joined second h =
    part old two j r fault (sync_came (added (side_of j) (gate_of j) r) (λ _. Unit {0}) old one two (side_of j) before after stopped fault steps tt tt first joined second h)

-- a write that was not acknowledged: with other bytes it made that part
pub write_part : (old one two : Option Told) (j : Journal) (r : Record) (before : Run) (after : List ℕ → Run) (at : ℕ) (bytes : List ℕ) (stopped : Bool) (fault : Fault) (steps : List Event)
    → one ≡ with_steps old (added (side_of j) (gate_of j) r before)
    → ((other : List ℕ) → length other ≡ length bytes → added (side_of j) (gate_of j) r before ++ Wrote (side_of j) at other ∷ [] ≡ added (side_of j) (gate_of j) r (after other))
    → two ≡ with_steps one steps → WriteSteps (side_of j) at bytes stopped (Err fault) steps → Adds old two j r (Err fault)
write_part old one two j r before after at bytes stopped fault steps first joined second h =
    part old two j r fault (write_came (added (side_of j) (gate_of j) r) (λ _. Unit {0}) old one two (side_of j) before after at bytes stopped fault steps tt (λ _ _ _. tt) first joined second h)

-- the last sync, behind the open gate
pub last_sync : (old one two : Option Told) (j : Journal) (r : Record) (stopped : Bool) (result : Result (Unit {0}) Fault) (steps : List Event) → one ≡ with_steps old (added (side_of j) (gate_of j) r (Gate 165))
    → two ≡ with_steps one steps → SyncSteps (side_of j) stopped result steps → Adds old two j r result
last_sync old one two j r stopped result steps first second h =
    sync_reaches (added (side_of j) (gate_of j) r) (λ _. Unit {0}) old one two (side_of j) (Gate 165) All stopped result steps tt tt first refl second h

-- the one byte of a list of one
abbrev pub first_byte : List ℕ → ℕ
first_byte [] = 0
first_byte (x ∷ xs) = x

pub one_byte : (bytes : List ℕ) → length bytes ≡ 1 → bytes ≡ first_byte bytes ∷ []
one_byte [] h = absurd (omega (arith, h))
one_byte (x ∷ []) h = refl
one_byte (x ∷ y ∷ bytes) h = absurd (omega (arith, h))

-- ---- where the writes begin
reads_enough : (trace : List Event) (j : Journal) (rs : List Record) → IsAt trace j rs → gate_of j + 1 ≤ length (disk (side_of j) trace).reads
reads_enough trace j rs at =
    let rests = at.opened.rests in
    let f = front at.opened.epoch rs in
    let size : length (disk (side_of j) trace).reads ≡ length (f ++ rests.gate ∷ rests.behind) = ap (λ (d : Disk). length d.reads) rests.is in
    omega (arith, size, length-append f (rests.gate ∷ rests.behind), length_front at.opened.epoch rs at.opened.known.eight, at.gate)

pub begins_within : (told : Option Told) (j : Journal) → IfSome told (λ t. (rs : List Record) × IsAt t.trace j rs) → IfSome told (λ t. gate_of j + 1 ≤ length (disk (side_of j) t.trace).reads)
begins_within None j h = tt
begins_within (Some t) j h = reads_enough t.trace j h.0 h.1

-- writes and syncs on a side don't make it shorter
put_longer : (old bytes : List ℕ) (at : ℕ) → at ≤ length old → length old ≤ length (put old at bytes)
put_longer old bytes at le = omega (arith, length-append (take at old ++ bytes) (drop (at + length bytes) old), length-append (take at old) bytes, length-take at old, length-drop (at + length bytes) old)

body_longer : (side : Side) (trace : List Event) (at : ℕ) (bytes : List ℕ) → at ≤ length (disk side trace).reads → at ≤ length (disk side (trace ++ (Wrote side at bytes ∷ Synced side ∷ []))).reads
body_longer A trace at bytes le =
    let more = put_longer (disk A trace).reads bytes at le in
    subst (λ (d : Disk). at ≤ length d.reads) (sym (disk_more A trace (Wrote A at bytes ∷ Synced A ∷ []))) (omega (arith, le, more))
body_longer B trace at bytes le =
    let more = put_longer (disk B trace).reads bytes at le in
    subst (λ (d : Disk). at ≤ length d.reads) (sym (disk_more B trace (Wrote B at bytes ∷ Synced B ∷ []))) (omega (arith, le, more))

pub gate_within : (told two : Option Told) (j : Journal) (bytes : List ℕ) → IfSome told (λ t. (rs : List Record) × IsAt t.trace j rs) → two ≡ with_steps told (Wrote (side_of j) (gate_of j + 1) bytes ∷ Synced (side_of j) ∷ [])
    → IfSome two (λ t. gate_of j ≤ length (disk (side_of j) t.trace).reads)
gate_within None two j bytes h is = subst (λ (o : Option Told). IfSome o (λ t. gate_of j ≤ length (disk (side_of j) t.trace).reads)) (sym is) tt
gate_within (Some t) two j bytes h is =
    let long = body_longer (side_of j) t.trace (gate_of j + 1) bytes (reads_enough t.trace j h.0 h.1) in
    subst (λ (o : Option Told). IfSome o (λ t. gate_of j ≤ length (disk (side_of j) t.trace).reads)) (sym is) (omega (arith, long))

-- ---- moments
module _ (trace : List Event) (j : Journal) (rs : List Record) (r : Record) (at : IsAt trace j rs) (is_r : IsRecord r) where
  abbrev Fine : List Event → Type 0
  Fine front = (a b : List ℕ) → ArePossible (trace ++ front) a b → IsOn (side_of j) a b rs ⊎ IsOn (side_of j) a b (rs ++ r ∷ [])

  after : (run : Run) (a b : List ℕ) → AfterRun (side_of j) a b rs r run → IsOn (side_of j) a b rs ⊎ IsOn (side_of j) a b (rs ++ r ∷ [])
  after Nothing a b h = inl h
  after (Body bytes) a b h = inl h
  after Settled a b h = inl h
  after (Gate byte) a b h = h
  after All a b h = inr h

  images : (run : Run) (a b : List ℕ) → ArePossible (trace ++ added (side_of j) (gate_of j) r run) a b → AfterRun (side_of j) a b rs r run
  images run a b possible =
      run_images trace (side_of j) at.opened.epoch rs r run at.opened.known at.opened.rests is_r a b (subst (λ g. ArePossible (trace ++ added (side_of j) g r run) a b) at.gate possible)

  fine : (run : Run) → Fine (added (side_of j) (gate_of j) r run)
  fine run a b possible = after run a b (images run a b possible)

  missed : (front : List Event) → Fine front → Fine (front ++ Missed (side_of j) ∷ [])
  missed front h a b possible = h a b (missed_images (side_of j) (trace ++ front) a b (subst (λ l. ArePossible l a b) (sym (append_assoc trace front (Missed (side_of j) ∷ []))) possible))

  prefixes : (run : Run) → AllPrefixes Fine (added (side_of j) (gate_of j) r run)
  prefixes Nothing = fine Nothing
  prefixes (Body bytes) = (fine Nothing, fine (Body bytes))
  prefixes Settled = (fine Nothing, (fine (Body (body r)), fine Settled))
  prefixes (Gate byte) = (fine Nothing, (fine (Body (body r)), (fine Settled, fine (Gate byte))))
  prefixes All = (fine Nothing, (fine (Body (body r)), (fine Settled, (fine (Gate 165), fine All))))

  prefixes_missed : (run : Run) → AllPrefixes Fine (added (side_of j) (gate_of j) r run ++ Missed (side_of j) ∷ [])
  prefixes_missed run = one_more Fine (added (side_of j) (gate_of j) r run) (Missed (side_of j)) (prefixes run) (missed (added (side_of j) (gate_of j) r run) (fine run))

  all_prefixes : (run : Run) (more : List Event) → (more ≡ []) ⊎ (more ≡ Missed (side_of j) ∷ []) → AllPrefixes Fine (added (side_of j) (gate_of j) r run ++ more)
  all_prefixes run more (inl e) = subst (λ l. AllPrefixes Fine l) (sym (append-nil (added (side_of j) (gate_of j) r run)) ∙ ap (λ l. added (side_of j) (gate_of j) r run ++ l) (sym e)) (prefixes run)
  all_prefixes run more (inr e) = subst (λ l. AllPrefixes Fine (added (side_of j) (gate_of j) r run ++ l)) (sym e) (prefixes_missed run)

moments_at : (trace : List Event) (j : Journal) (rs : List Record) (r : Record) (result : Result (Unit {0}) AppendFault) (run : Run) (more : List Event) → IsAt trace j rs → IsRecord r → Ends (side_of j) result run more
    → Moments trace (added (side_of j) (gate_of j) r run ++ more) (side_of j) rs r result
moments_at trace j rs r (Ok u) run more at is_r ends = record {
  each = λ front back e. each_prefix _ _ front back (all_prefixes trace j rs r at is_r run more (inl ends.1)) e;
  ok = λ a b possible. images trace j rs r at is_r All a b (subst (λ l. ArePossible (trace ++ l) a b) ((λ i. added (side_of j) (gate_of j) r (ends.0 i) ++ ends.1 i) ∙ append-nil (added (side_of j) (gate_of j) r All)) possible);
}
moments_at trace j rs r (Err fault) run more at is_r ends = record {
  each = λ front back e. each_prefix _ _ front back (all_prefixes trace j rs r at is_r run more (append_last (side_of j) (Err fault) run more ends)) e;
  ok = tt;
}

pub moments_from : (told new : Option Told) (j : Journal) (rs : List Record) (r : Record) (result : Result (Unit {0}) AppendFault) → IsRecord r → Appends told new j r result
    → IfSome told (λ t. IsAt t.trace j rs → (steps : List Event) × (new ≡ with_steps told steps) × Moments t.trace steps (side_of j) rs r result)
moments_from None new j rs r result is_r h = tt
moments_from (Some t) new j rs r result is_r h = λ at. (added (side_of j) (gate_of j) r h.run ++ h.more, h.trace, moments_at t.trace j rs r result h.run h.more at is_r h.ends)

-- the journal after an append
stands_at : (trace : List Event) (j k : Journal) (rs : List Record) (r : Record) → IsAt trace j rs → IsRecord r → side_of k ≡ side_of j → gate_of k ≡ gate_of j + size r → IsAt (trace ++ added (side_of j) (gate_of j) r All) k (rs ++ r ∷ [])
stands_at trace j k rs r at is_r side gate =
    let o = at.opened in
    let known = known_push (trace ++ added (side_of j) (gate_of j) r All) (side_of j) o.epoch rs r is_r (known_added trace (side_of j) o.epoch rs (gate_of j) r All o.known) in
    let rests = subst (λ g. Rests (disk (side_of j) (trace ++ added (side_of j) g r All)) o.epoch (rs ++ r ∷ [])) (sym at.gate) (run_disk trace (side_of j) o.epoch rs r All o.known.eight o.rests) in
    let opened : Opened (trace ++ added (side_of j) (gate_of j) r All) (side_of j) (rs ++ r ∷ []) = record { epoch = o.epoch; known = known; rests = rests } in
    record {
      opened = subst (λ s. Opened (trace ++ added (side_of j) (gate_of j) r All) s (rs ++ r ∷ [])) (sym side) opened;
      gate = gate ∙ ap (λ g. g + size r) at.gate ∙ sym (gate_push rs r);
    }

pub body_size : (bytes : List ℕ) (r : Record) → IsBody bytes r → length bytes ≡ size r
body_size bytes r is = ap length is.spelled ∙ sized
  where
    sized : length (body r) ≡ size r
    sized = omega (arith, length-append (le 4 (length (payload r)) ++ payload r) (0 ∷ []), length-append (le 4 (length (payload r))) (payload r))

pub stands_from : (told new : Option Told) (j k : Journal) (rs : List Record) (bytes : List ℕ) (r : Record) (u : Unit {0}) → IsBody bytes r → Appends told new j r (Ok u) → side_of k ≡ side_of j → gate_of k ≡ gate_of j + length bytes
    → IfSome told (λ t. IsAt t.trace j rs → IfSome new (λ u. IsAt u.trace k (rs ++ r ∷ [])))
stands_from None new j k rs bytes r u is h side gate = tt
stands_from (Some t) new j k rs bytes r u is h side gate = λ at.
    let all : added (side_of j) (gate_of j) r h.run ++ h.more ≡ added (side_of j) (gate_of j) r All = (λ i. added (side_of j) (gate_of j) r (h.ends.0 i) ++ h.ends.1 i) ∙ append-nil (added (side_of j) (gate_of j) r All) in
    subst (λ (o : Option Told). IfSome o (λ v. IsAt v.trace k (rs ++ r ∷ []))) (sym (h.trace ∙ ap (with_steps (Some t)) all))
    (stands_at t.trace j k rs r at is.is_record side (gate ∙ ap (λ n. gate_of j + n) (body_size bytes r is)))

pub stands_on : (told new : Option Told) (j k : Journal) (bytes : List ℕ) (result : Result (Unit {0}) AppendFault) → ((r : Record) → IsBody bytes r → Appends told new j r result) → side_of k ≡ side_of j
    → OnOk result (length_of k ≡ length_of j + length bytes)
    → OnOk result ((r : Record) (rs : List Record) → IsBody bytes r → IfSome told (λ t. IsAt t.trace j rs → IfSome new (λ u. IsAt u.trace k (rs ++ r ∷ []))))
stands_on told new j k bytes (Err fault) h side longer = tt
stands_on told new j k bytes (Ok u) h side longer = λ r rs is. stands_from told new j k rs bytes r u is (h r is) side (moved longer)
  where
    moved : length_of k ≡ length_of j + length bytes → gate_of k ≡ gate_of j + length bytes
    moved e = omega (arith, e)
