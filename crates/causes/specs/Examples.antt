-- Refused inputs, and those that no fit is needed for, by computing. Assumes nothing.
use Rattle.std.specs.Prelude.{◌≡◌, refl}
use Rattle.std.specs.Float.Ieee.{of_bits, lt}
use Rattle.rule.specs.Dropped as D
use Rattle.exchange.specs.Text.{text, exchanging}
use Rattle.why.specs.Sizes as S
use Rattle.why.specs.Cause as C
use Rattle.causes.specs.Lines as L
use Rattle.causes.specs.Exchange as X
use Rattle.causes.specs.Exchange.{causes_of}

-- all that the lines of causes compute with
unfoldable pub telling : Unit {0}
unfolding exchanging of_bits lt S.low_threshold D.drops D.or_else D.dropped C.by_value C.undropped C.caused C.cause L.cause_line L.cause_lines
    X.why_before X.why_checked X.causes_of
telling = tt

-- a malformed header is the first refusal
pub no_header : causes_of (text "") ≡ text "ff0b\n"
unfolding telling
no_header = refl

-- a threshold of +0.0, of -0.0, below zero and of NaN
pub zero_threshold : causes_of (text "01000000000a00000000000000000000000000000000\n") ≡ text "ff0c\n"
unfolding telling
zero_threshold = refl

pub minus_zero : causes_of (text "01000000000a80000000000000000000000000000000\n") ≡ text "ff0c\n"
unfolding telling
minus_zero = refl

pub below_zero : causes_of (text "01000000000abff00000000000000000000000000000\n") ≡ text "ff0c\n"
unfolding telling
below_zero = refl

pub nan_threshold : causes_of (text "01000000000a7ff80000000000000000000000000000\n") ≡ text "ff0c\n"
unfolding telling
nan_threshold = refl

-- 12 comes before malformed rows: a row is missing, or stands there though none is asked for
pub before_row_missing : causes_of (text "01000200000a00000000000000000000000000000000\n") ≡ text "ff0c\n"
unfolding telling
before_row_missing = refl

pub before_tail : causes_of (text "01000000000a7ff80000000000000000000000000000\n\n") ≡ text "ff0c\n"
unfolding telling
before_tail = refl

-- which are told at a threshold above zero
pub rows_after : causes_of (text "01000200000a3fe00000000000000000000000000000\n") ≡ text "ff0b\n"
unfolding telling
rows_after = refl

-- and 1, 2, 3 come before 12
pub columns_first : causes_of (text "01ffffffffff00000000000000000000000000000000\n") ≡ text "ff01\n"
unfolding telling
columns_first = refl

pub rows_first : causes_of (text "01008110ffff00000000000000000000000000000000\n") ≡ text "ff02\n"
unfolding telling
rows_first = refl

pub rounds_first : causes_of (text "0100801003e900000000000000000000000000000000\n") ≡ text "ff03\n"
unfolding telling
rounds_first = refl

-- no columns: nothing is written. +infinity and the least f64 above zero are above zero
pub no_columns : causes_of (text "01000000000a3fe00000000000000000000000000000\n") ≡ text ""
unfolding telling
no_columns = refl

pub infinite_threshold : causes_of (text "02000000000a7ff00000000000000000000000000000\n") ≡ text ""
unfolding telling
infinite_threshold = refl

pub least_threshold : causes_of (text "03000000000a00000000000000010000000000000000\n") ≡ text ""
unfolding telling
least_threshold = refl
