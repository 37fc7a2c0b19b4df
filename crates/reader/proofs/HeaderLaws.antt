-- What a formed header has. Assumes nothing.
use mathlib.Core.Path.{◌≡◌}
use mathlib.Core.Bool.{true}
use mathlib.Core.List.{List}
use Prim.Native.Nat.{ℕ}
use native.Mathlib.Omega.{arith}
use borrow.Author.Tests.{leb-true}
use lib.Dec.{leb}
use lib.ListN.{length}
use Rattle.hexdigits.specs.All.{and_both}
use Rattle.hexdigits.specs.Hex.{all_hex, Digits}
use Rattle.reader.specs.Header.{header_digits, header_frame, header_formed}

pub header_has : (s : List ℕ) → header_formed s ≡ true → Digits s 0 header_digits
unfolding header_formed
header_has s h =
    let long = and_both (leb header_frame (length s)) _ h in
    record { within = omega (arith, leb-true header_frame (length s) long.0); good = (and_both (all_hex s 0 header_digits) _ long.1).0 }
