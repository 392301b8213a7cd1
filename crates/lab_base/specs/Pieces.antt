-- The pieces of a text.
use Rattle.std.specs.Prelude.{ℕ, List}
use Rattle.std.specs.Fmt.{decimal}
use Rattle.lab_base.specs.declared.pieces.Piece.{Piece}
use Rattle.lab_base.specs.declared.pieces.Piece.TheVariants.{Bytes, Number}

-- the bytes of a piece
abbrev pub piece_bytes : Piece → List ℕ
piece_bytes (Bytes bytes) = bytes.now
piece_bytes (Number number) = decimal number
