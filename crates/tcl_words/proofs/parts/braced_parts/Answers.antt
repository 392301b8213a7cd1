use Rattle.std.proofs.Common.{◌≡◌, ◌++◌, ◌∷◌, [], arith, sym, ap, ◌∙◌, append_assoc, List, length}
use Rattle.std.proofs.lemmas.List.Elements.{All-push, All-append}
use Rattle.tcl_words.specs.declared.word.Part.{Part}
use Rattle.tcl_words.specs.declared.word.Part.TheVariants.{Escape}
use Rattle.tcl_words.specs.Words.{bytes_from, done, hidden, other, LiesIn}
use Rattle.tcl_words.proofs.Reading.{joined_on, bytes_lie}
use Rattle.tcl_words.proofs.parts.braced_parts.Goals as goal

pub bytes-preserved-then-joined-gt0 : goal.bytes-preserved-then-joined-gt0
bytes-preserved-then-joined-gt0 c =
    let bytes : List Part = bytes_from c.bytes.plain c.bytes.at in
    let pushed : c.push.new.self ≡ (c.bytes.parts ++ bytes) ++ Escape 32 ∷ [] =
    c.in_ok-push.ensures.ok ∙ ap (λ (ps : List Part). ps ++ Escape 32 ∷ []) c.in_ok-push_bytes.ensures.ok in
    record {
      rest = λ ps h. rw pushed (rw (append_assoc, append_assoc) (c.bytes.invariant.rest _ (joined_on c.args.text.now c.args.end c.bytes.plain c.bytes.at _ ps c.bytes-test.true c.joined_at-joined.ensures.size (omega arith) h)));
      lie = rw pushed (All-push (LiesIn (length c.args.text.now)) (c.bytes.parts ++ bytes) (Escape 32)
          (All-append (LiesIn (length c.args.text.now)) c.bytes.parts bytes c.bytes.invariant.lie (bytes_lie (length c.args.text.now) c.bytes.plain c.bytes.at (omega arith))) tt);
    }

pub bytes-preserved-then-text-at-eq92 : goal.bytes-preserved-then-text-at-eq92
bytes-preserved-then-text-at-eq92 c = record {
  rest = λ ps h. c.bytes.invariant.rest ps (hidden c.bytes.plain c.bytes.at ps c.bytes-test.true (sym c.joined_at-joined.ensures.size ∙ omega arith) c.if-text-at-eq92.true h);
  lie = c.bytes.invariant.lie;
}

pub bytes-preserved : goal.bytes-preserved
bytes-preserved c = record {
  rest = λ ps h. c.bytes.invariant.rest ps (other c.bytes.plain c.bytes.at ps c.bytes-test.true c.if-text-at-eq92.false h);
  lie = c.bytes.invariant.lie;
}

pub returns-clause-parts : goal.returns-clause-parts
returns-clause-parts c = rw c.in_ok-push_bytes-2.ensures.ok (c.bytes.invariant.rest _ (done c.bytes.plain c.bytes.at (omega arith)))

pub returns-clause-lie : goal.returns-clause-lie
returns-clause-lie c =
    rw c.in_ok-push_bytes-2.ensures.ok (All-append (LiesIn (length c.args.text.now)) c.bytes.parts (bytes_from c.bytes.plain c.args.end) c.bytes.invariant.lie (bytes_lie (length c.args.text.now) c.bytes.plain c.args.end c.requires.here))
