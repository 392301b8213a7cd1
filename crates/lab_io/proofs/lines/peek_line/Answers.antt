use Rattle.std.proofs.Common.{◌+◌, ◌^◌, ◌<◌, ◌≤◌, take, drop, inl, inr, ⊎_elim, sym, subst}
use Rattle.std.specs.Io.KnownBytes.{prepend_known}
use Rattle.lab_io.specs.Taken.{above, ends_beyond}
use Rattle.lab_io.proofs.Fronts.{front, ended, text_short, cut_len, with_feed, length_front}
use Rattle.lab_io.proofs.lines.peek_line.Goals as goal

pub returns-in-Ok-Some-clause-text : goal.returns-in-Ok-Some-clause-text
returns-in-Ok-Some-clause-text g c =
    let found = rw c.in-Feed.is at c.in_ok-at.ensures.found in
    let pending = c.fill.new.pending.items in
    let left = g.S.Source.left c.fill.new.source in
    let at = c.in-Feed.at in
    let end = c.without_return_len-end.result in
    let cut = rw c.deref.ensures.value at c.without_return_len-end.ensures in
    let e = rw (c.in-Ok-Some.field-0-is, c.deref-in-Feed.ensures.value) at c.in-Ok-Some.ensures in record {
      raw = take (at + 1) pending;
      behind = prepend_known (drop (at + 1) pending) left;
      front = front (at + 1) pending left;
      is_line = inl (ended pending c.in-Ok-Some.text at end found.0 found.1 found.2 cut.within cut.text e.text);
      short = text_short pending c.in-Ok-Some.text end e.text e.short;
      within = subst (λ n. c.args.taken + n ≤ 2 ^ 32) (sym (length_front pending at found.0)) e.within;
    }

pub returns-in-Ok-None-clause-none : goal.returns-in-Ok-None-clause-none
returns-in-Ok-None-clause-none g c =
    let found = rw c.in-Feed.is at c.in_ok-at.ensures.found in
    let pending = c.fill.new.pending.items in
    let left = g.S.Source.left c.fill.new.source in
    let at = c.in-Feed.at in
    let end = c.without_return_len-end.result in
    let cut = rw c.deref.ensures.value at c.without_return_len-end.ensures in
    let e = rw c.in-Ok-None.field-0-is at c.in-Ok-None.ensures in
    inr (⊎_elim
    (λ more. record {
      body = take at pending;
      rest = prepend_known (drop at pending) left;
      front = front at pending left;
      long = above found.1 (cut_len (take at pending) end cut.within cut.text more);
    })
    (λ many. record {
      body = take (at + 1) pending;
      rest = prepend_known (drop (at + 1) pending) left;
      front = front (at + 1) pending left;
      long = ends_beyond (take at pending) (with_feed pending at found.0 found.2) found.1 (subst (λ n. 2 ^ 32 < c.args.taken + n) (sym (length_front pending at found.0)) many);
    }) e.long)
