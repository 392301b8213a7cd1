-- Lines beside the text that they make up: one is taken out, or one more is put after them.
use Rattle.std.proofs.Common.{◌≡◌, ◌≤◌, ◌<◌, ◌+◌, ◌-◌, ◌⊎◌, ℕ, Bool, true, false, not, cond, ◌&&◌, ◌||◌, List, [], ◌∷◌, ◌++◌, length, take, drop, map, get_or, refl, sym, ap, subst, ◌∙◌, arith, append_assoc, length-append, length-take-le, drop_at, Some, None, inl, inr}
use Rattle.std.specs.Prelude.{remove, filter}
use Rattle.std.specs.List.{list_all, list_any, find}
use Rattle.std.proofs.lemmas.List.{take_more, map-append, append-nil, take-append-drop}
use Rattle.std.proofs.lemmas.List.Edits.{remove-append_right}
use Rattle.std.proofs.lemmas.List.Elements.{filter-append}
use Rattle.std.proofs.lemmas.List.Folds.{list_all-append}
use Rattle.std.proofs.lemmas.Bool.{and_from, and_parts}
use Rattle.std.proofs.lemmas.Grind.{flat_map-append}
use Rattle.std.proofs.Math.Seq.{take-append_seam, drop-append_seam, drop-append-add, get_or-append_seam}
use Rattle.lab_base.specs.Lists.{Has}
use Rattle.lab_base.proofs.Members.{Has-left, Has-right, Has-append}
use Rattle.line_text.specs.Printing.{line_text, text_of}
use Rattle.plant_file.specs.declared.entry.Entry.{Entry}
use Rattle.plant_file.specs.declared.entry.Key.{Key}
use Rattle.plant_file.specs.declared.lines_kept.Line.{Line}
use Rattle.plant_file.specs.Entries.{is_keyed, without}
use Rattle.plant_file.specs.declared.lines_kept.Spot.{Spot}
use Rattle.plant_file.specs.Kept.{entries_of, IsLine, AreKept, IsAt}
use Rattle.plant_file.specs.Lines.{entry_fields, tables_text}
use Rattle.plant_file.specs.Printable.{is_printable}

abbrev pub text_of_lines : List Line → List ℕ
text_of_lines lines = tables_text (entries_of lines)

abbrev pub own_text : Line → List ℕ
own_text line = line_text (entry_fields line.entry.value)

pub entries_joined : (xs ys : List Line) → entries_of (xs ++ ys) ≡ entries_of xs ++ entries_of ys
entries_joined xs ys = map-append (λ (line : Line). line.entry.value) xs ys

pub text_joined : (xs ys : List Line) → text_of_lines (xs ++ ys) ≡ text_of_lines xs ++ text_of_lines ys
text_joined xs ys =
    ap tables_text (entries_joined xs ys)
    ∙ ap text_of (map-append entry_fields (entries_of xs) (entries_of ys))
    ∙ flat_map-append line_text (map entry_fields (entries_of xs)) (map entry_fields (entries_of ys))

-- where none passes, the first doesn't, nor one of the others
none_first : (p : Entry → Bool) (x : Entry) (xs : List Entry) → list_any p (x ∷ xs) ≡ false → (p x ≡ false) × (list_any p xs ≡ false)
none_first p x xs none = by (p x) refl
  where
    by : (b : Bool) → p x ≡ b → (p x ≡ false) × (list_any p xs ≡ false)
    by true is = absurd (let never : true ≡ false = sym (ap (λ (b : Bool). b || list_any p xs) is) ∙ none in cc never)
    by false is = (is, sym (ap (λ (b : Bool). b || list_any p xs) is) ∙ none)

-- none passes, nor one more
none_behind : (p : Entry → Bool) (xs : List Entry) (x : Entry) → list_any p xs ≡ false → p x ≡ false → list_any p (xs ++ x ∷ []) ≡ false
none_behind p [] x none differs = ap (λ (b : Bool). b || false) differs
none_behind p (y ∷ ys) x none differs =
    let parts = none_first p y ys none in
    ap (λ (b : Bool). b || list_any p (ys ++ x ∷ [])) parts.0 ∙ none_behind p ys x parts.1 differs

-- where none passes, all stay
pub none_out : (p : Entry → Bool) (xs : List Entry) → list_any p xs ≡ false → without p xs ≡ xs
none_out p [] none = refl
none_out p (y ∷ ys) none =
    let parts = none_first p y ys none in
    ap (λ (b : Bool). cond (not b) (y ∷ without p ys) (without p ys)) parts.0 ∙ ap (λ (l : List Entry). y ∷ l) (none_out p ys parts.1)

-- and none is found
pub none_found : (p : Entry → Bool) (xs : List Entry) → list_any p xs ≡ false → find p xs ≡ None
none_found p [] none = refl
none_found p (y ∷ ys) none =
    let parts = none_first p y ys none in
    ap (λ (b : Bool). cond b (Some y) (find p ys)) parts.0 ∙ none_found p ys parts.1

-- after those of which none passes the first one that does is found
pub found_after : (p : Entry → Bool) (xs ys : List Entry) (x : Entry) → list_any p xs ≡ false → p x ≡ true → find p (xs ++ x ∷ ys) ≡ Some x
found_after p [] ys x none is = ap (λ (b : Bool). cond b (Some x) (find p ys)) is
found_after p (y ∷ zs) ys x none is =
    let parts = none_first p y zs none in
    ap (λ (b : Bool). cond b (Some y) (find p (zs ++ x ∷ ys))) parts.0 ∙ found_after p zs ys x parts.1 is

-- what is cut out of the midst
pub cut_out : (front here behind : List ℕ) (at size : ℕ) → at ≡ length front → size ≡ length here
    → take at (front ++ (here ++ behind)) ++ drop (at + size) (front ++ (here ++ behind)) ≡ front ++ behind
cut_out front here behind at size is_at is_size =
    let whole : List ℕ = front ++ (here ++ behind) in
    let before : take at whole ≡ front = ap (λ (k : ℕ). take k whole) is_at ∙ take-append_seam front (here ++ behind) in
    let ends : at + size ≡ length front + length here = omega (arith, is_at, is_size) in
    let after : drop (at + size) whole ≡ behind = ap (λ (k : ℕ). drop k whole) ends ∙ drop-append-add front (here ++ behind) (length here) ∙ drop-append_seam here behind in
    ap (λ (l : List ℕ). l ++ drop (at + size) whole) before ∙ ap (λ (l : List ℕ). front ++ l) after

pub taken_out : (front behind : List Line) (here : Line) (n : ℕ) → n ≡ length front → remove (front ++ here ∷ behind) n ≡ front ++ behind
taken_out front behind here n is =
    let none : n - n ≡ 0 = omega arith in
    remove-append_right front (here ∷ behind) n n (sym is) (omega arith)
    ∙ ap (λ (k : ℕ). front ++ remove (here ∷ behind) k) none

-- the lines without one are kept, with its bytes cut out
pub kept_without : (front behind : List Line) (here : Line) (text : List ℕ) (at : ℕ) → AreKept (front ++ here ∷ behind) text → at ≡ length (text_of_lines front)
    → AreKept (front ++ behind) (take at text ++ drop (at + here.size) text)
kept_without front behind here text at kept is_at =
    let own : text ≡ text_of_lines front ++ (own_text here ++ text_of_lines behind) = kept.is ∙ text_joined front (here ∷ behind) in
    let size : here.size ≡ length (own_text here) = (kept.each here (Has-right front (here ∷ behind) here (inl refl))).size in
    let front_all : Bool = list_all is_printable (entries_of front) in
    let after_all : Bool = list_all is_printable (entries_of behind) in
    let parts = and_parts front_all (is_printable here.entry.value && after_all) (sym (ap (list_all is_printable) (entries_joined front (here ∷ behind)) ∙ list_all-append is_printable (entries_of front) (entries_of (here ∷ behind))) ∙ kept.printable) in
    let later = and_parts (is_printable here.entry.value) after_all parts.1 in
    record {
      is = ap (λ (t : List ℕ). take at t ++ drop (at + here.size) t) own ∙ cut_out (text_of_lines front) (own_text here) (text_of_lines behind) at here.size is_at size ∙ sym (text_joined front behind);
      each = λ line has. by line (Has-append front behind line has);
      printable = ap (list_all is_printable) (entries_joined front behind) ∙ list_all-append is_printable (entries_of front) (entries_of behind) ∙ and_from front_all after_all parts.0 later.1;
    }
  where
    by : (line : Line) → Has front line ⊎ Has behind line → IsLine line
    by line (inl has) = kept.each line (Has-left front (here ∷ behind) line has)
    by line (inr has) = kept.each line (Has-right front (here ∷ behind) line (inr has))

-- one that passes the test is left out of those that don't
pub without_one : (key : Key) (front behind : List Line) (here : Line) → is_keyed key here.entry.value ≡ true
    → without (is_keyed key) (entries_of (front ++ behind)) ≡ without (is_keyed key) (entries_of (front ++ here ∷ behind))
without_one key front behind here is =
    let test : Entry → Bool = λ entry. not (is_keyed key entry) in
    let gone : filter test (entries_of (here ∷ behind)) ≡ filter test (entries_of behind) =
    ap (λ (b : Bool). cond (not b) (here.entry.value ∷ filter test (entries_of behind)) (filter test (entries_of behind))) is in
    ap (filter test) (entries_joined front behind) ∙ filter-append test (entries_of front) (entries_of behind)
    ∙ sym (ap (filter test) (entries_joined front (here ∷ behind)) ∙ filter-append test (entries_of front) (entries_of (here ∷ behind))
    ∙ ap (λ (l : List Entry). filter test (entries_of front) ++ l) gone)

-- the line that stands at a spot
stands_at : (lines front behind : List Line) (here gone : Line) (n : ℕ) → lines ≡ front ++ here ∷ behind → n ≡ length front → gone ≡ get_or lines n gone → gone ≡ here
stands_at lines front behind here gone n is place gone_is =
    gone_is ∙ ap (λ (l : List Line). get_or l n gone) is ∙ ap (λ (k : ℕ). get_or (front ++ here ∷ behind) k gone) place ∙ get_or-append_seam front here behind gone

-- its bytes lie in the text
pub cut_fits : (key : Key) (lines : List Line) (text : List ℕ) (spot : Spot) (at : IsAt key lines spot) → AreKept lines text → (gone : Line) → gone ≡ get_or lines spot.line gone
    → spot.at + gone.size ≤ length text
cut_fits key lines text spot at kept gone is =
    let one : gone ≡ at.here = stands_at lines at.front at.behind at.here gone spot.line at.is at.line is in
    let own : gone.size ≡ length (own_text at.here) =
    ap (λ (l : Line). l.size) one ∙ (kept.each at.here (subst (λ (l : List Line). Has l at.here) (sym at.is) (Has-right at.front (at.here ∷ at.behind) at.here (inl refl)))).size in
    let whole : length text ≡ length (text_of_lines at.front) + length (own_text at.here ++ text_of_lines at.behind) =
    ap length (kept.is ∙ ap text_of_lines at.is ∙ text_joined at.front (at.here ∷ at.behind)) ∙ length-append (text_of_lines at.front) (own_text at.here ++ text_of_lines at.behind) in
    let later : length (own_text at.here ++ text_of_lines at.behind) ≡ length (own_text at.here) + length (text_of_lines at.behind) = length-append (own_text at.here) (text_of_lines at.behind) in
    omega (arith, at.at, own, whole, later)

-- the lines without it are kept
pub taken_kept : (key : Key) (lines : List Line) (text : List ℕ) (spot : Spot) (at : IsAt key lines spot) → AreKept lines text → (gone : Line) → gone ≡ get_or lines spot.line gone
    → AreKept (remove lines spot.line) (take spot.at text ++ drop (spot.at + gone.size) text)
taken_kept key lines text spot at kept gone is =
    let one : gone ≡ at.here = stands_at lines at.front at.behind at.here gone spot.line at.is at.line is in
    let rest : remove lines spot.line ≡ at.front ++ at.behind = ap (λ (l : List Line). remove l spot.line) at.is ∙ taken_out at.front at.behind at.here spot.line at.line in
    let own = kept_without at.front at.behind at.here text spot.at (subst (λ (l : List Line). AreKept l text) at.is kept) at.at in
    subst (λ (l : List Line). AreKept l (take spot.at text ++ drop (spot.at + gone.size) text)) (sym rest)
    (subst (λ (g : Line). AreKept (at.front ++ at.behind) (take spot.at text ++ drop (spot.at + g.size) text)) (sym one) own)

-- and no other line of that key went
pub taken_others : (key : Key) (lines : List Line) (spot : Spot) (at : IsAt key lines spot) → without (is_keyed key) (entries_of (remove lines spot.line)) ≡ without (is_keyed key) (entries_of lines)
taken_others key lines spot at =
    let rest : remove lines spot.line ≡ at.front ++ at.behind = ap (λ (l : List Line). remove l spot.line) at.is ∙ taken_out at.front at.behind at.here spot.line at.line in
    ap (λ (l : List Line). without (is_keyed key) (entries_of l)) rest ∙ without_one key at.front at.behind at.here at.keyed
    ∙ sym (ap (λ (l : List Line). without (is_keyed key) (entries_of l)) at.is)

-- it is the first one that is found
pub found_at : (key : Key) (lines : List Line) (spot : Spot) (at : IsAt key lines spot) (here : Line) → here ≡ get_or lines spot.line here → Some here.entry.value ≡ find (is_keyed key) (entries_of lines)
found_at key lines spot at here is =
    let one : here ≡ at.here = stands_at lines at.front at.behind at.here here spot.line at.is at.line is in
    let parts : entries_of lines ≡ entries_of at.front ++ at.here.entry.value ∷ entries_of at.behind = ap entries_of at.is ∙ entries_joined at.front (at.here ∷ at.behind) in
    ap (λ (l : Line). Some l.entry.value) one ∙ sym (ap (find (is_keyed key)) parts ∙ found_after (is_keyed key) (entries_of at.front) (entries_of at.behind) at.here.entry.value at.first at.keyed)

-- one line more, after the others
pub kept_with : (lines : List Line) (here : Line) (text : List ℕ) → AreKept lines text → IsLine here → is_printable here.entry.value ≡ true → AreKept (lines ++ here ∷ []) (text ++ own_text here)
kept_with lines here text kept own printable = record {
  is = ap (λ (t : List ℕ). t ++ own_text here) kept.is ∙ ap (λ (t : List ℕ). text_of_lines lines ++ t) (sym (append-nil (own_text here))) ∙ sym (text_joined lines (here ∷ []));
  each = λ line has. by line (Has-append lines (here ∷ []) line has);
  printable = ap (list_all is_printable) (entries_joined lines (here ∷ [])) ∙ list_all-append is_printable (entries_of lines) (here.entry.value ∷ []) ∙ and_from (list_all is_printable (entries_of lines)) (is_printable here.entry.value && true) kept.printable (and_from (is_printable here.entry.value) true printable refl);
}
  where
    by : (line : Line) → Has lines line ⊎ Has (here ∷ []) line → IsLine line
    by line (inl has) = kept.each line has
    by line (inr (inl same)) = subst IsLine same own
    by line (inr (inr none)) = absurd none

-- one line more of the first ones
pub size_more : (lines : List Line) (i : ℕ) (here : Line) → i < length lines → here ≡ get_or lines i here → IsLine here
    → length (text_of_lines (take (i + 1) lines)) ≡ length (text_of_lines (take i lines)) + here.size
size_more lines i here lt is own_line =
    let next : take (i + 1) lines ≡ take i lines ++ here ∷ [] = take_more lines i here lt ∙ ap (λ (y : Line). take i lines ++ y ∷ []) (sym is) in
    let sum : length (text_of_lines (take (i + 1) lines)) ≡ length (text_of_lines (take i lines)) + length (own_text here ++ []) =
    ap (λ (l : List Line). length (text_of_lines l)) next ∙ ap length (text_joined (take i lines) (here ∷ [])) ∙ length-append (text_of_lines (take i lines)) (own_text here ++ []) in
    let own : length (own_text here ++ []) ≡ here.size = ap length (append-nil (own_text here)) ∙ sym own_line.size in
    sum ∙ ap (λ (k : ℕ). length (text_of_lines (take i lines)) + k) own

-- one line more that doesn't have the key
pub none_more : (key : Key) (lines : List Line) (i : ℕ) (here : Line) → i < length lines → here ≡ get_or lines i here → is_keyed key here.entry.value ≡ false
    → list_any (is_keyed key) (entries_of (take i lines)) ≡ false → list_any (is_keyed key) (entries_of (take (i + 1) lines)) ≡ false
none_more key lines i here lt is differs so_far =
    let next : take (i + 1) lines ≡ take i lines ++ here ∷ [] = take_more lines i here lt ∙ ap (λ (y : Line). take i lines ++ y ∷ []) (sym is) in
    let parts : entries_of (take (i + 1) lines) ≡ entries_of (take i lines) ++ here.entry.value ∷ [] = ap entries_of next ∙ entries_joined (take i lines) (here ∷ []) in
    ap (list_any (is_keyed key)) parts ∙ none_behind (is_keyed key) (entries_of (take i lines)) here.entry.value so_far differs

-- the line at a place, between those before it and those after it
pub line_at : (lines : List Line) (i : ℕ) (here : Line) → i < length lines → here ≡ get_or lines i here → lines ≡ take i lines ++ here ∷ drop (i + 1) lines
line_at lines i here lt is =
    let next : take (i + 1) lines ≡ take i lines ++ here ∷ [] = take_more lines i here lt ∙ ap (λ (y : Line). take i lines ++ y ∷ []) (sym is) in
    sym (take-append-drop (i + 1) lines) ∙ ap (λ (l : List Line). l ++ drop (i + 1) lines) next ∙ append_assoc (take i lines) (here ∷ []) (drop (i + 1) lines)

-- the text from a line on is its own and that of those after it
pub rest_next : (lines : List Line) (i : ℕ) (here : Line) → i < length lines → here ≡ get_or lines i here → text_of_lines (drop i lines) ≡ own_text here ++ text_of_lines (drop (i + 1) lines)
rest_next lines i here lt is =
    let front : length (take i lines) ≡ i = length-take-le i lines (omega (arith, lt)) in
    let next : drop i lines ≡ here ∷ drop (i + 1) lines = ap (drop i) (line_at lines i here lt is) ∙ drop_at (take i lines) (here ∷ drop (i + 1) lines) i front in
    ap text_of_lines next

-- its own text is cut off in front
pub rest_after : (lines : List Line) (i : ℕ) (here : Line) (rest : List ℕ) → i < length lines → here ≡ get_or lines i here → IsLine here → rest ≡ text_of_lines (drop i lines)
    → (here.size ≤ length rest) × (drop here.size rest ≡ text_of_lines (drop (i + 1) lines)) × (length rest ≡ here.size + length (drop here.size rest))
rest_after lines i here rest lt is own so_far =
    let later : List ℕ = text_of_lines (drop (i + 1) lines) in
    let whole : rest ≡ own_text here ++ later = so_far ∙ rest_next lines i here lt is in
    let long : length rest ≡ length (own_text here) + length later = ap length whole ∙ length-append (own_text here) later in
    let cut : drop here.size rest ≡ later = ap (drop here.size) whole ∙ drop_at (own_text here) later here.size (sym own.size) in
    let short : length (drop here.size rest) ≡ length later = ap length cut in
    (omega (arith, long, own.size), cut, omega (arith, long, own.size, short))

pub each_at : (lines : List Line) (text : List ℕ) → AreKept lines text → (i : ℕ) (here : Line) → i < length lines → here ≡ get_or lines i here → IsLine here
each_at lines text kept i here lt is =
    kept.each here (subst (λ (l : List Line). Has l here) (sym (line_at lines i here lt is)) (Has-right (take i lines) (here ∷ drop (i + 1) lines) here (inl refl)))
