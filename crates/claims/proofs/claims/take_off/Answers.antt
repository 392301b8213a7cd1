use Rattle.std.specs.List.{position}
use Rattle.std.specs.Str.{bytes_eq}
use Rattle.std.proofs.Common.{◌≡◌, List, Some, sym, ap, ◌∙◌, subst}
use Rattle.claims.specs.declared.claim.Entry.{Entry}
use Rattle.claims.specs.Held.{claim_named}
use Rattle.claims.specs.Kept.{Keeps}
use Rattle.claims.proofs.Entries.{place_some, place_none}
use Rattle.claims.proofs.Fits.{fits_tables}
use Rattle.claims.proofs.Standing.{within_named, use_within, taken_kept}
use Rattle.claims.proofs.claims.take_off.Goals as goal

pub forget-requires-clause-fits : goal.forget-requires-clause-fits
forget-requires-clause-fits c =
    let es = c.args.entries.now.items in
    let found = place_some c.args.exp es c.in-Some.at (ap (λ (l : List Entry). position (λ e. bytes_eq e.exp c.args.exp) l) (sym c.deref.ensures.value) ∙ sym c.place_of.ensures ∙ c.in-Some.is) in
    let entry = c.remove-entry.result in
    let h : claim_named c.args.exp es ≡ Some entry.claim = found.2 entry ∙ ap (λ (e : Entry). Some e.claim) (sym c.remove-entry.ensures.value) in
    let k = c.requires in
    fits_tables c.args.range k.0 es c.args.tables.now entry.claim k.1 (within_named c.args.range k.0 es c.args.tables.now c.args.exp entry.claim k.1 h)

pub forget-requires-clause-room : goal.forget-requires-clause-room
forget-requires-clause-room c =
    let es = c.args.entries.now.items in
    let found = place_some c.args.exp es c.in-Some.at (ap (λ (l : List Entry). position (λ e. bytes_eq e.exp c.args.exp) l) (sym c.deref.ensures.value) ∙ sym c.place_of.ensures ∙ c.in-Some.is) in
    let entry = c.remove-entry.result in
    let h : claim_named c.args.exp es ≡ Some entry.claim = found.2 entry ∙ ap (λ (e : Entry). Some e.claim) (sym c.remove-entry.ensures.value) in
    let k = c.requires in
    λ t g. use_within c.args.range k.0 es c.args.tables.now c.args.exp entry.claim k.1 h t g

pub returns-in-Some-clause-entries : goal.returns-in-Some-clause-entries
returns-in-Some-clause-entries c =
    let es = c.args.entries.now.items in
    let found = place_some c.args.exp es c.in-Some.at (ap (λ (l : List Entry). position (λ e. bytes_eq e.exp c.args.exp) l) (sym c.deref.ensures.value) ∙ sym c.place_of.ensures ∙ c.in-Some.is) in
    c.remove-entry.ensures.items ∙ found.1

pub returns-in-Some-clause-claim : goal.returns-in-Some-clause-claim
returns-in-Some-clause-claim c =
    let es = c.args.entries.now.items in
    let found = place_some c.args.exp es c.in-Some.at (ap (λ (l : List Entry). position (λ e. bytes_eq e.exp c.args.exp) l) (sym c.deref.ensures.value) ∙ sym c.place_of.ensures ∙ c.in-Some.is) in
    let entry = c.remove-entry.result in
    sym (found.2 entry ∙ ap (λ (e : Entry). Some e.claim) (sym c.remove-entry.ensures.value))

pub returns-in-Some-clause-kept : goal.returns-in-Some-clause-kept
returns-in-Some-clause-kept c = λ kbps keeps.
    let es = c.args.entries.now.items in
    let found = place_some c.args.exp es c.in-Some.at (ap (λ (l : List Entry). position (λ e. bytes_eq e.exp c.args.exp) l) (sym c.deref.ensures.value) ∙ sym c.place_of.ensures ∙ c.in-Some.is) in
    let entry = c.remove-entry.result in
    let h : claim_named c.args.exp es ≡ Some entry.claim = found.2 entry ∙ ap (λ (e : Entry). Some e.claim) (sym c.remove-entry.ensures.value) in
    let n = c.forget.ensures in
    subst (λ (l : List Entry). Keeps c.args.range kbps l c.forget.new.tables) (sym (c.remove-entry.ensures.items ∙ found.1))
    (taken_kept c.args.range kbps es c.args.tables.now c.forget.new.tables keeps n.nodes_len n.ids_len n.used_len c.args.exp entry.claim h (within_named c.args.range kbps es c.args.tables.now c.args.exp entry.claim keeps h) n.nodes n.ids n.used)

pub returns-in-None-clause-entries : goal.returns-in-None-clause-entries
returns-in-None-clause-entries c =
    let es = c.args.entries.now.items in
    sym (place_none c.args.exp es (ap (λ (l : List Entry). position (λ e. bytes_eq e.exp c.args.exp) l) (sym c.deref.ensures.value) ∙ sym c.place_of.ensures ∙ c.in-None.is)).0

pub returns-in-None-clause-claim : goal.returns-in-None-clause-claim
returns-in-None-clause-claim c =
    let es = c.args.entries.now.items in
    sym (place_none c.args.exp es (ap (λ (l : List Entry). position (λ e. bytes_eq e.exp c.args.exp) l) (sym c.deref.ensures.value) ∙ sym c.place_of.ensures ∙ c.in-None.is)).1
