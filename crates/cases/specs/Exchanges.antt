-- Whole exchanges of the bench program, by computing: document 01's F1, a fit with no rows, one that names its port, one by the third solver, one whose error is a NaN, and some by columns. Assumes nothing.
use Rattle.std.specs.Prelude.{◌≡◌, refl}
use Rattle.frames.specs.Exchange.{answer_of}
use Rattle.exchange.specs.Text.{text}
use Rattle.frames.specs.Examples.{framed}
use Rattle.table.specs.Fits.{fits}

pub F1_exchange : answer_of (text "01000202000a3fe00000000000000000000000000000\n40080000000000003ff00000000000000000000000000000\n3fd000000000000000000000000000003ff0000000000000\n")
    ≡ text "0400010000000000000001ff3fb0000000000000\n4008000000000000\n0000000000000000\n"
unfolding fits framed
F1_exchange = refl

-- no rows: nothing follows the header; at a threshold of zero the +0.0 coefficients are kept
pub no_rows : answer_of (text "02000002000a00000000000000000000000000000000\n") ≡ text "0000000000000000000003ff0000000000000000\n0000000000000000\n0000000000000000\n"
unfolding fits framed
no_rows = refl

-- G5: the refit of port 1 alone is refused, and the two digits before the error name that port
pub G5_exchange : answer_of (text "01000202000a3fe0000000000000bff0000000000000\n00000000000000003ff00000000000003ff0000000000000\n40080000000000003ff00000000000000000000000000000\n")
    ≡ text "0300010000000000000000014022000000000000\n0000000000000000\n0000000000000000\n"
unfolding fits framed
G5_exchange = refl

-- G10 by solver 03: damped by lambda alone, as by solver 01, port 0 would fall
pub G10_exchange : answer_of (text "03000202000a3fe00000000000004008000000000000\n3ff00000000000003fe00000000000000000000000000000\n402000000000000000000000000000004000000000000000\n")
    ≡ text "0400010000000000000003ff4042480000000000\n3fe0000000000000\n3ff0000000000000\n"
unfolding fits framed
G10_exchange = refl

-- G13: nothing is found, and the cleared term, kept at a threshold of zero, stands before an infinite reading: the error is a NaN
pub G13_exchange : answer_of (text "01000101000100000000000000000000000000000000\n3ff00000000000007ff0000000000000\n") ≡ text "0200000000000000000001ff7ff8000000000000\n0000000000000000\n"
unfolding fits framed
G13_exchange = refl

-- F1 by columns: the answer by rows
pub F1_columns : answer_of (text "11000202000a3fe00000000000000000000000000000\n40080000000000003fd0000000000000\n3ff00000000000000000000000000000\n00000000000000003ff0000000000000\n")
    ≡ text "0400010000000000000001ff3fb0000000000000\n4008000000000000\n0000000000000000\n"
unfolding fits framed
F1_columns = refl

-- no rows by columns: an empty line for the targets, and one a column
pub no_rows_columns : answer_of (text "12000002000a00000000000000000000000000000000\n\n\n\n") ≡ text "0000000000000000000003ff0000000000000000\n0000000000000000\n0000000000000000\n"
unfolding fits framed
no_rows_columns = refl

-- no columns: the targets' frame alone; the error is their squares
pub no_columns_columns : answer_of (text "13000200000a3fe00000000000000000000000000000\n40000000000000003ff0000000000000\n") ≡ text "0000000000000000000000ff4014000000000000\n"
unfolding fits framed
no_columns_columns = refl

-- three rows and two columns, by rows and by columns
pub three_by_rows : answer_of (text "01000302000a3fe00000000000000000000000000000\n400c0000000000003ff00000000000004000000000000000\n3fd000000000000000000000000000003ff0000000000000\n000000000000000000000000000000000000000000000000\n")
    ≡ text "0400010000000000000001ff3fb0000000000000\n400c000000000000\n0000000000000000\n"
unfolding fits framed
three_by_rows = refl

pub three_by_columns : answer_of (text "11000302000a3fe00000000000000000000000000000\n400c0000000000003fd00000000000000000000000000000\n3ff000000000000000000000000000000000000000000000\n40000000000000003ff00000000000000000000000000000\n")
    ≡ text "0400010000000000000001ff3fb0000000000000\n400c000000000000\n0000000000000000\n"
unfolding fits framed
three_by_columns = refl
