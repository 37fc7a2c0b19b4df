-- Refused inputs, by computing. Assumes nothing.
use Rattle.std.specs.Prelude.{◌≡◌, refl}
use Rattle.writer.specs.Answer as A
use Rattle.exchange.specs.Text.{text, exchanging}
use Rattle.frames.specs.Exchange as X
use Rattle.frames.specs.Exchange.{answer_of}

-- all that the frames compute with
unfoldable pub framed : Unit {0}
unfolding exchanging A.report_line A.coefficient_lines X.checked X.fit_asked X.fit_lines X.answer_of
framed = tt

-- an empty input, a header with no newline, a digit too many, a carriage return, an uppercase digit, a solver that is not there
pub empty : answer_of (text "") ≡ text "ff0b\n"
unfolding framed
empty = refl

pub no_newline : answer_of (text "01000000000a3fe00000000000000000000000000000") ≡ text "ff0b\n"
unfolding framed
no_newline = refl

pub digit_more : answer_of (text "01000000000a3fe000000000000000000000000000000\n") ≡ text "ff0b\n"
unfolding framed
digit_more = refl

pub carriage_return : answer_of (text "01000000000a3fe00000000000000000000000000000\r\n") ≡ text "ff0b\n"
unfolding framed
carriage_return = refl

pub uppercase : answer_of (text "01000000000A3fe00000000000000000000000000000\n") ≡ text "ff0b\n"
unfolding framed
uppercase = refl

pub solver_04 : answer_of (text "04ffffffffff3fe00000000000000000000000000000\n") ≡ text "ff0b\n"
unfolding framed
solver_04 = refl

-- columns past their limit come first, then rows, then max_iter, all before a row that is missing
pub many_columns : answer_of (text "01ffffffffff3fe00000000000000000000000000000\n") ≡ text "ff01\n"
unfolding framed
many_columns = refl

pub many_rows : answer_of (text "01008110ffff3fe00000000000000000000000000000\n") ≡ text "ff02\n"
unfolding framed
many_rows = refl

pub many_rounds : answer_of (text "0100801003e93fe00000000000000000000000000000\n") ≡ text "ff03\n"
unfolding framed
many_rounds = refl

pub row_missing : answer_of (text "0100801003e83fe00000000000000000000000000000\n") ≡ text "ff0b\n"
unfolding framed
row_missing = refl

-- and so by the third solver
pub solver_03 : answer_of (text "03ffffffffff3fe00000000000000000000000000000\n") ≡ text "ff01\n"
unfolding framed
solver_03 = refl

-- a row with no newline at the end, a row short by a digit, and a byte after the last frame
pub row_end : answer_of (text "01000100000a3fe00000000000000000000000000000\n3ff0000000000000") ≡ text "ff0b\n"
unfolding framed
row_end = refl

pub row_short : answer_of (text "01000100000a3fe00000000000000000000000000000\n3ff000000000000\n") ≡ text "ff0b\n"
unfolding framed
row_short = refl

pub tail : answer_of (text "01000100000a3fe00000000000000000000000000000\n3ff0000000000000\n\n") ≡ text "ff0b\n"
unfolding framed
tail = refl

-- by columns the limits come first too, and 14 is no solver's code
pub solver_11 : answer_of (text "11ffffffffff3fe00000000000000000000000000000\n") ≡ text "ff01\n"
unfolding framed
solver_11 = refl

pub solver_14 : answer_of (text "14ffffffffff3fe00000000000000000000000000000\n") ≡ text "ff0b\n"
unfolding framed
solver_14 = refl

-- with no rows and two columns three empty lines follow: none is too few, and so are two; four are too many
pub no_empty_lines : answer_of (text "11000002000a3fe00000000000000000000000000000\n") ≡ text "ff0b\n"
unfolding framed
no_empty_lines = refl

pub two_empty_lines : answer_of (text "12000002000a3fe00000000000000000000000000000\n\n\n") ≡ text "ff0b\n"
unfolding framed
two_empty_lines = refl

pub four_empty_lines : answer_of (text "13000002000a3fe00000000000000000000000000000\n\n\n\n\n") ≡ text "ff0b\n"
unfolding framed
four_empty_lines = refl

-- no columns: the targets' frame alone, which must be there
pub no_targets : answer_of (text "11000200000a3fe00000000000000000000000000000\n") ≡ text "ff0b\n"
unfolding framed
no_targets = refl

-- three rows of one column stored by rows, under a code by columns
pub rows_by_columns : answer_of (text "11000301000a3fe00000000000000000000000000000\n40080000000000003ff0000000000000\n40080000000000003ff0000000000000\n40080000000000003ff0000000000000\n") ≡ text "ff0b\n"
unfolding framed
rows_by_columns = refl
