-- IPv4 addresses.
use Rattle.std.specs.Prelude.{ℕ, List, Option}
use Rattle.std.specs.Result.{result_ok}
use Rattle.line_text.specs.Addresses as addresses

-- the address that a word is, if it is one
unfoldable pub address_of : List ℕ → Option ℕ
address_of word = result_ok (addresses.address_of word)
