-- The markup of a picture.
use Rattle.std.specs.Prelude.{ℕ, List, codes}
use Rattle.lab_picture.specs.declared.tags.Piece.{Piece}
use Rattle.lab_picture.specs.declared.tags.Piece.TheVariants as tags

-- the letters of a piece of markup
unfoldable pub tag : Piece → List ℕ
tag tags.Rect = codes "<rect class=\""
tag tags.Rounded = codes "<rect rx=\"5\" class=\""
tag tags.Filled = codes "<rect fill=\""
tag tags.Class = codes "\" class=\""
tag tags.X = codes "\" x=\""
tag tags.Y = codes "\" y=\""
tag tags.Wide = codes "\" width=\""
tag tags.High = codes "\" height=\""
tag tags.Close = codes "\"/>"
tag tags.Words = codes "<text class=\""
tag tags.EndWords = codes "<text text-anchor=\"end\" class=\""
tag tags.Open = codes "\">"
tag tags.WordsEnd = codes "</text>\n"
tag tags.Case = codes "<path class=\"case\" stroke-width=\""
tag tags.Core = codes "<path class=\"core\" stroke=\""
tag tags.Own = codes "<path class=\"own\" d=\""
tag tags.Also = codes "<path class=\"also\" d=\"M"
tag tags.Stroke = codes "\" stroke-width=\""
tag tags.Path = codes "\" d=\""
tag tags.Corner = codes "h-9l9 9z\"/>"
tag tags.Titled = codes "<g><title>"
tag tags.Group = codes "<g>"
tag tags.Moving = codes "<g class=\"mv\">"
tag tags.GroupEnd = codes "</g>\n"
tag tags.Title = codes "<title>"
tag tags.TitleEnd = codes "</title>"
tag tags.OnEnd = codes " on</title>"
tag tags.Rule = codes "<path class=\"rule\" d=\"M40 "
tag tags.Picture = codes "<svg xmlns=\"http://www.w3.org/2000/svg\" viewBox=\"0 0 "
tag tags.Scale = codes "<g transform=\"translate(40 0) scale("
tag tags.ScaleEnd = codes ") translate(-40 0)\">"
tag tags.PictureEnd = codes "</svg>\n"
