-- Whole exchanges of the program that says why, by computing: each cause once, 00 to 06. Assumes nothing.
use Rattle.std.specs.Prelude.{◌≡◌, refl}
use Rattle.exchange.specs.Text.{text}
use Rattle.causes.specs.Exchange.{causes_of}
use Rattle.causes.specs.Examples.{telling}
use Rattle.table.specs.Fits.{fits}

-- F1: port 0 is kept (02), port 1 dropped at the look before refit 1 with 0.25 (03)
pub F1_causes : causes_of (text "01000202000a3fe00000000000000000000000000000\n40080000000000003ff00000000000000000000000000000\n3fd000000000000000000000000000003ff0000000000000\n")
    ≡ text "0200000000000000000000\n0300013fd0000000000000\n"
unfolding fits telling
F1_causes = refl

-- no rows (00)
pub no_rows_causes : causes_of (text "02000002000a3fe00000000000000000000000000000\n") ≡ text "0000000000000000000000\n0000000000000000000000\n"
unfolding fits telling
no_rows_causes = refl

-- a column of zeros: the first solve is refused (01)
pub first_refused_causes : causes_of (text "01000101000a3fe00000000000000000000000000000\n3ff00000000000000000000000000000\n") ≡ text "0100000000000000000000\n"
unfolding fits telling
first_refused_causes = refl

-- G5: the look before refit 1 drops port 0, at 0.0; that refit, of port 1 alone, is refused and clears it (04)
pub G5_causes : causes_of (text "01000202000a3fe0000000000000bff0000000000000\n00000000000000003ff00000000000003ff0000000000000\n40080000000000003ff00000000000000000000000000000\n")
    ≡ text "0300010000000000000000\n0400010000000000000000\n"
unfolding fits telling
G5_causes = refl

-- F1 with no rounds: the last pass zeroes port 1, which had 0.25 (05)
pub zeroed_causes : causes_of (text "0100020200003fe00000000000000000000000000000\n40080000000000003ff00000000000000000000000000000\n3fd000000000000000000000000000003ff0000000000000\n")
    ≡ text "0200000000000000000000\n0500003fd0000000000000\n"
unfolding fits telling
zeroed_causes = refl

-- F8 with no rounds: the NaN is left (06)
pub F8_causes : causes_of (text "0100010100003fe00000000000000000000000000000\n7ff80000000000003ff0000000000000\n") ≡ text "0600000000000000000000\n"
unfolding fits telling
F8_causes = refl

-- by columns: F1, and three empty lines where there are no rows
pub F1_columns_causes : causes_of (text "11000202000a3fe00000000000000000000000000000\n40080000000000003fd0000000000000\n3ff00000000000000000000000000000\n00000000000000003ff0000000000000\n")
    ≡ text "0200000000000000000000\n0300013fd0000000000000\n"
unfolding fits telling
F1_columns_causes = refl

pub no_rows_columns_causes : causes_of (text "12000002000a3fe00000000000000000000000000000\n\n\n\n") ≡ text "0000000000000000000000\n0000000000000000000000\n"
unfolding fits telling
no_rows_columns_causes = refl
