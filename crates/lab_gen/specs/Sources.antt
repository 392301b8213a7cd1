-- The bytes that a source of a text has left.
use Rattle.std.specs.Prelude.{ℕ, List, drop}
use Rattle.lab_gen.specs.declared.source.TextSource.{TextSource}

abbrev pub left_of : TextSource → List ℕ
left_of s = drop s.at s.text
