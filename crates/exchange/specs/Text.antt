-- The words for computed exchanges. Assumes nothing.
use Rattle.std.specs.Prelude.{List, [], ◌∷◌, ℕ}
use Prim.Native.Char.{code}
use Prim.Native.String as S
use Prim.Native.String.{String}
use Rattle.std.specs.Float.Ieee.{to_bits, is_nan}
use Rattle.places.specs.Stored.{laid_out}
use Rattle.rule.specs.Codes.{by_code}
use Rattle.rule.specs.Sizes.{limits}
use Rattle.hexdigits.specs.All.{all}
use Rattle.hexdigits.specs.Hex as H
use Rattle.reader.specs.Header as D
use Rattle.reader.specs.Frames as F
use Rattle.writer.specs.Answer as A
use Rattle.exchange.specs.Exchange as X

-- the bytes of a text
unfoldable pub text : String → List ℕ
text S.[] = []
text (S.◌∷◌ c s) = code c ∷ text s

-- all that every program's exchange computes with
unfoldable pub exchanging : Unit {0}
unfolding text to_bits is_nan all H.value H.glyph H.all_hex H.number_at H.digits H.bits D.header_formed D.header D.head_of
    F.frame_at F.frame_formed F.frames_formed A.refusal_line by_code limits laid_out
    X.then_rows X.theta_asked X.target_asked X.answer_lines X.answer_to X.answer_by
exchanging = tt
