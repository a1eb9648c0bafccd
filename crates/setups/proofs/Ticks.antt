-- A word is a tick exactly if it is what is printed of one.
use Rattle.std.proofs.Common.{◌≡◌, ℕ, ◌^◌, ◌<◌, List, ℤ, Ok, IsUtf8, IsAscii, Result, sym, ◌∙◌, subst, w64}
use borrow.Author.Rules.{sfits_of}
use lib.Signed.{mag}
use Rattle.std.specs.Str.Parse.{ParsesSigned}
use Rattle.std.specs.Fmt.{signed_decimal}
use Rattle.std.proofs.lemmas.Fmt.{IsAscii-signed, parse-signed_decimal}
use Rattle.std.proofs.lemmas.Str.{IsUtf8-from_ascii}

-- what is printed of a tick is text
pub is_text : (w : List ℕ) (z : ℤ) → mag z < 2 ^ 63 → w ≡ signed_decimal z → IsUtf8 w
is_text w z small e = IsUtf8-from_ascii w (subst IsAscii (sym e) (IsAscii-signed z small))

-- and is read back as that tick
pub read_back : {E : Type 0} (w text : List ℕ) (z : ℤ) (r : Result ℤ E) → mag z < 2 ^ 63 → text ≡ w → w ≡ signed_decimal z → ParsesSigned w64 10 text r → r ≡ Ok z
read_back w text z r small t e h = parse-signed_decimal w64 z text r (sfits_of small) small (t ∙ e) h
