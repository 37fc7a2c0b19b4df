-- The cases of the solvers that catch what the marked ones let through, C1 and C2 among them. All by computing. Assumes nothing.
use Rattle.std.specs.Prelude.{◌≡◌, refl, [], ◌∷◌, Float}
use Rattle.std.specs.Float.{nan}
use Rattle.std.specs.Float.Ieee.{of_bits, add, sub, neg, mul, div, lt, le, eq, round, size, sum, is_nan}
use Rattle.steps.specs.Num as N
use Rattle.steps.specs.Num.{lit, +zero, -zero, one, -one, two}
use Rattle.steps.specs.Loops as L
use Rattle.steps.specs.Loops.{going, stopped}
use Rattle.steps.specs.Sums as S
use Rattle.steps.specs.Table as T
use Rattle.steps.specs.Space as P
use Rattle.float64.specs.Root as R
use Rattle.refusal.specs.Answers.{solved}
use Rattle.transpose.specs.Led as D
use Rattle.transpose.specs.Transpose as X
use Rattle.householder.specs.Qr as Q
use Rattle.cholesky.specs.Cholesky as C
use Rattle.lu.specs.Lu as U
use Rattle.inverse.specs.Inverse as I
use Rattle.normal.specs.Normal as E
use Rattle.least.specs.Least as M

-- all that a case computes with: `unfolding opened` opens it
unfoldable pub opened : Unit {0}
unfolding of_bits add sub neg mul div lt le eq round size sum is_nan
    L.turns L.loop L.down_from L.way L.way_down S.sum S.less_sum T.tab T.table P.swapped
    R.isqrt R.units R.nearest_root R.root_of R.abs_of R.greater_of
    D.led D.along Q.sign Q.share Q.lose Q.store Q.reflect Q.pushed Q.normed Q.column Q.after Q.beta Q.betas X.qt_column X.qt
    C.scale C.reduced C.chol_below C.chol_store C.chol_column C.chol_factor C.forward_at C.back_at C.chol_forward C.chol_back C.chol_end C.cholesky
    U.pivot_row U.swap_rows U.lu_swap U.less_row U.lu_row U.eliminated U.lu_eliminate U.lu_pivoted U.lu_column U.lu_factor U.lu_forward U.lu_back U.lu_end U.lu
    I.unit I.inverse_column I.inverse I.invert_end I.invert E.or_lu E.normal M.above M.back_column M.back M.values M.least
opened = tt

abbrev pub three : Float
three = lit 0x4008000000000000

abbrev pub five : Float
five = lit 0x4014000000000000

abbrev pub four : Float
four = lit 0x4010000000000000

-- C1: Cholesky of 1e-14 refuses, of the next number up does not
pub C1 : C.chol_factor 1 (N.1e-14 ∷ []) ≡ stopped 0 (N.1e-14 ∷ [])
unfolding opened
C1 = refl

pub C1_next : C.chol_factor 1 (lit 0x3d06849b86a12b9c ∷ []) ≡ going (R.root_of (lit 0x3d06849b86a12b9c) ∷ [])
unfolding opened
C1_next = refl

-- C2: LU of 1e-15 is accepted, of the next number down it refuses
pub C2 : U.lu 1 (N.1e-15 ∷ []) (one ∷ []) ≡ going ((N.1e-15 ∷ []), (N.over one N.1e-15 ∷ []))
unfolding opened
C2 = refl

pub C2_below : U.lu 1 (lit 0x3cd203af9ee75615 ∷ []) (one ∷ []) ≡ stopped 0 ((lit 0x3cd203af9ee75615 ∷ []), (one ∷ []))
unfolding opened
C2_below = refl

-- L2: the second pivot of a 3 by 3 matrix swaps its whole row, the first factor with it
pub L2 : U.lu 3 (two ∷ one ∷ one ∷ one ∷ lit 0x3fe0000000000000 ∷ two ∷ -one ∷ three ∷ one ∷ []) (one ∷ two ∷ four ∷ [])
    ≡ going (
      (two ∷ one ∷ one ∷ lit 0xbfe0000000000000 ∷ lit 0x400c000000000000 ∷ lit 0x3ff8000000000000 ∷ lit 0x3fe0000000000000 ∷ +zero ∷ lit 0x3ff8000000000000 ∷ []),
      (lit 0xbfdb6db6db6db6db ∷ lit 0x3feb6db6db6db6db ∷ one ∷ []),
    )
unfolding opened
L2 = refl

-- L3: a NaN on the diagonal stays the pivot, one below it is passed over
pub L3 : U.pivot_row 2 (nan ∷ one ∷ two ∷ one ∷ []) 0 ≡ 0
unfolding opened
L3 = refl

pub L3_below : U.pivot_row 2 (one ∷ one ∷ nan ∷ one ∷ []) 0 ≡ 0
unfolding opened
L3_below = refl

-- C3: Cholesky does not refuse a NaN
pub C3 : C.chol_factor 1 (nan ∷ []) ≡ going (nan ∷ [])
unfolding opened
C3 = refl

-- E1: LU works on a fresh copy where Cholesky refuses the second column: the matrix (4, 2), (2, -1) and b (8, 2) give 1.5 and 1
pub E1 : E.normal 2 (four ∷ two ∷ two ∷ -one ∷ []) (lit 0x4020000000000000 ∷ two ∷ []) ≡ going (lit 0x3ff8000000000000 ∷ one ∷ [])
unfolding opened
E1 = refl

-- Q2: a column of -0.0 beside one of ones: a sum of `qr` started at +0.0 shows here
pub Q2 : Q.after 2 2 (one ∷ -zero ∷ one ∷ -zero ∷ []) 2 ≡ lit 0xbff6a09e667f3bcc ∷ +zero ∷ lit 0x3fda827999fcef33 ∷ +zero ∷ []
unfolding opened
Q2 = refl

pub Q2_beta : Q.betas 2 2 (one ∷ -zero ∷ one ∷ -zero ∷ []) ≡ lit 0x3ffb504f333f9de5 ∷ +zero ∷ []
unfolding opened
Q2_beta = refl

-- Q3: least squares of ones to targets of -0.0: a sum of Q-transpose started at +0.0 shows here
pub Q3 : M.least 2 1 (one ∷ one ∷ []) (-zero ∷ -zero ∷ []) ≡ solved (-zero ∷ [])
unfolding opened
Q3 = refl

-- C4: the substitutions of a matrix with an off_diagonal number; the number above the diagonal stays
pub C4 : C.cholesky 2 (four ∷ two ∷ two ∷ five ∷ []) (lit 0x4020000000000000 ∷ lit 0x4022000000000000 ∷ [])
    ≡ going ((two ∷ two ∷ one ∷ two ∷ []), (lit 0x3ff6000000000000 ∷ lit 0x3ff4000000000000 ∷ []))
unfolding opened
C4 = refl

-- C5: 8 at the second column: the first holds the factor, all else is as it was, b too
pub C5 : C.cholesky 2 (four ∷ two ∷ two ∷ -one ∷ []) (three ∷ five ∷ []) ≡ stopped 1 ((two ∷ two ∷ one ∷ -one ∷ []), (three ∷ five ∷ []))
unfolding opened
C5 = refl

-- L4: 9 at the second column: the swap of the first stands, in b too
pub L4 : U.lu 2 (+zero ∷ +zero ∷ one ∷ +zero ∷ []) (three ∷ five ∷ []) ≡ stopped 1 ((one ∷ +zero ∷ +zero ∷ +zero ∷ []), (five ∷ three ∷ []))
unfolding opened
L4 = refl

-- L5: a small pivot below the diagonal is refused before its row is moved
pub L5 : U.lu 2 (+zero ∷ one ∷ lit 0x3c9cd2b297d889bc ∷ two ∷ []) (three ∷ five ∷ []) ≡ stopped 0 ((+zero ∷ one ∷ lit 0x3c9cd2b297d889bc ∷ two ∷ []), (three ∷ five ∷ []))
unfolding opened
L5 = refl

-- M1: least squares with a number above the diagonal of R
pub M1 : M.least 2 2 (three ∷ one ∷ four ∷ two ∷ []) (five ∷ lit 0x4024000000000000 ∷ []) ≡ solved (lit 0xbce0000000000000 ∷ lit 0x4014000000000004 ∷ [])
unfolding opened
M1 = refl

-- I1: the inverse of (2, 1), (1, 2): its two numbers off the diagonal differ in their last digit, so a column stored as a row shows
pub I1 : I.invert 2 (two ∷ one ∷ one ∷ two ∷ []) (three ∷ three ∷ three ∷ three ∷ [])
    ≡ going (lit 0x3fe5555555555554 ∷ lit 0xbfd5555555555556 ∷ lit 0xbfd5555555555555 ∷ lit 0x3fe5555555555557 ∷ [])
unfolding opened
I1 = refl

-- I2: 8 at the second column leaves all of the output
pub I2 : I.invert 2 (four ∷ two ∷ two ∷ -one ∷ []) (three ∷ five ∷ one ∷ two ∷ []) ≡ stopped 1 (three ∷ five ∷ one ∷ two ∷ [])
unfolding opened
I2 = refl
