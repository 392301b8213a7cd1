use Rattle.std.proofs.Common.{◌≡◌, ◌+◌, ◌^◌, ◌<◌, length, take, drop, inl, inr, ⊎_elim, refl, sym, ◌∙◌, ap, subst, arith}
use Rattle.std.proofs.lemmas.Bool.Decides.{nat_tests}
use Rattle.std.specs.Io.KnownBytes.{prepend_known}
use Rattle.lab_io.specs.Taken.{above, above_last, beyond, ends_beyond}
use Rattle.lab_io.proofs.Fronts.{front, ended, at_end, text_short, all_front, length_items, last_line, cut_len, with_feed, length_front}
use Rattle.lab_io.proofs.lines.next_line.Goals as goal

pub returns-in-Ok-clause-took : goal.returns-in-Ok-clause-took
returns-in-Ok-clause-took g c =
    let found = rw c.in-Feed.is at c.in_ok-at.ensures.found in
    let pending = c.fill.new.pending.items in
    let left = g.S.Source.left c.fill.new.source in
    let at = c.in-Feed.at in
    let e = c.in-Ok.ensures in
    let cut = rw c.deref.ensures.value at c.without_return_len-end.ensures in record {
      raw = take (at + 1) pending;
      front = sym c.fill.ensures.rest ∙ front (at + 1) pending left ∙ ap (λ l. prepend_known (take (at + 1) pending) (prepend_known l left)) (sym e.after);
      is_line = inl (ended pending c.in-Ok.text at c.without_return_len-end.result found.0 found.1 found.2 cut.within cut.text e.text, c.requires.open);
      short = text_short pending c.in-Ok.text c.without_return_len-end.result e.text e.short;
      counted = e.counted ∙ ap (λ n. c.args.taken.now + n) (sym (length_front pending at found.0));
      within = c.take_text.ensures.within;
    }

pub returns-in-Err-clause-long : goal.returns-in-Err-clause-long
returns-in-Err-clause-long g c n is =
    let found = rw c.in-Feed.is at c.in_ok-at.ensures.found in
    let pending = c.fill.new.pending.items in
    let left = g.S.Source.left c.fill.new.source in
    let at = c.in-Feed.at in
    let cut = rw c.deref.ensures.value at c.without_return_len-end.ensures in
    let long = c.in-Err.ensures.long n (cc is) in (
      long.0,
      ⊎_elim
          (λ more. record {
            body = take at pending;
            rest = prepend_known (drop at pending) left;
            front = sym c.fill.ensures.rest ∙ front at pending left;
            long = above found.1 (cut_len (take at pending) c.without_return_len-end.result cut.within cut.text more);
          })
          (λ many. record {
            body = take (at + 1) pending;
            rest = prepend_known (drop (at + 1) pending) left;
            front = sym c.fill.ensures.rest ∙ front (at + 1) pending left;
            long = ends_beyond (take at pending) (with_feed pending at found.0 found.2) found.1 (subst (λ n. 2 ^ 32 < c.args.taken.now + n) (sym (length_front pending at found.0)) many);
          }) long.1,
    )

pub returns-in-Ok-take_text-clause-took : goal.returns-in-Ok-take_text-clause-took
returns-in-Ok-take_text-clause-took g c =
    let found = rw c.in-Last-2.is at c.in_ok-at.ensures.found in
    let pending = c.fill.new.pending.items in
    let left = g.S.Source.left c.fill.new.source in
    let e = c.in-Ok-take_text.ensures in
    let len : c.len-end.result ≡ length pending = c.len-end.ensures ∙ sym (length_items c.fill.new.pending) in
    let some : 0 < length pending = let a = c.is_empty.ensures in let b = c.if-is_empty.false in let l = length_items c.fill.new.pending in grind (arith, nat_tests) in
    let text : c.in-Ok-take_text.text ≡ take (length pending) pending = e.text ∙ ap (λ n. take n pending) len in
    let after : c.take_text-in-Last-2.new.pending.items ≡ drop (length pending) pending = e.after ∙ ap (λ n. drop n pending) len in record {
      raw = pending;
      front = sym c.fill.ensures.rest ∙ all_front pending left ∙ ap (λ l. prepend_known pending (prepend_known l left)) (sym after);
      is_line = inr (last_line pending c.in-Ok-take_text.text found.0 some text, rw after (at_end pending left found.1), refl);
      short = text_short pending c.in-Ok-take_text.text _ e.text e.short;
      counted = e.counted ∙ ap (λ n. c.args.taken.now + n) len;
      within = c.take_text-in-Last-2.ensures.within;
    }

pub returns-in-Err-take_text-clause-long : goal.returns-in-Err-take_text-clause-long
returns-in-Err-take_text-clause-long g c n is =
    let found = rw c.in-Last-2.is at c.in_ok-at.ensures.found in
    let pending = c.fill.new.pending.items in
    let left = g.S.Source.left c.fill.new.source in
    let len : c.len-end.result ≡ length pending = c.len-end.ensures ∙ sym (length_items c.fill.new.pending) in
    let long = c.in-Err-take_text.ensures.long n (cc is) in (
      long.0,
      ⊎_elim
          (λ more. record {
            body = pending;
            rest = left;
            front = sym c.fill.ensures.rest;
            long = above_last found.0 found.1 (subst (λ k. 4096 < k) len more);
          })
          (λ many. record {
            body = pending;
            rest = left;
            front = sym c.fill.ensures.rest;
            long = beyond found.0 (subst (λ k. 2 ^ 32 < c.args.taken.now + k) len many);
          }) long.1,
    )
