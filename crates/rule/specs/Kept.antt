-- A refit from kept sums is the refit over the rows. Assumes nothing.
use Rattle.std.specs.Prelude.{◌≡◌, List, ℕ, ◌^◌, ◌<◌, take, Float}
use Rattle.std.proofs.Common.{◌∙◌, arith}
use Rattle.std.proofs.Math.Arith.{digits_lt}
use Rattle.std.specs.Int.Count.{ones}
use Rattle.steps.specs.Num.{Entry}
use Rattle.steps.specs.Space.{same_head}
use Rattle.support.specs.TermLaws.{term_below}
use Rattle.refusal.specs.Answers.{Solution}
use Rattle.places.specs.Columns.{columns}
use Rattle.sums.specs.Products.{gram, moment}
use Rattle.sums.specs.Kept.{kept_size, kept_sums, pair, product, block, side}
use Rattle.sums.specs.KeptLaws.{pair_is, product_is, headed, block_sums, side_sums}
use Rattle.rule.specs.Fits.{by_sums, by_normal}
use Rattle.rule.specs.Values.{sums_cong}

-- the solve of a support's columns from a list that begins with the kept sums of n columns: of its block of them, damped, and its right-hand side; no row is looked at
unfoldable pub from_kept : (Float → Float) → ℕ → List Float → ℕ → Solution
from_kept damp n s w = by_sums damp (ones w) (block n w (pair n s)) (side n w (product n s))

-- it looks only at the head
pub from_head : (damp : Float → Float) (n : ℕ) (s l : List Float) (w : ℕ) → w < 2 ^ n → take (kept_size n) s ≡ take (kept_size n) l → from_kept damp n s w ≡ from_kept damp n l w
unfolding from_kept block side
from_head damp n s l w b same =
    sums_cong _ (ones w) _ _ _ _
    (λ p q hp hq. same_head (kept_size n) _ s l (omega (arith, digits_lt (term_below n w p b hp) (term_below n w q b hq))) same)
    (λ p h. same_head (kept_size n) _ s l (omega (arith, term_below n w p b h)) same)

-- from the kept sums of these rows it is the solve over the rows
pub kept_solves : (damp : Float → Float) (n : ℕ) (e : Entry) (t : ℕ → Float) (rows : ℕ) (s : List Float) (w : ℕ) → w < 2 ^ n
    → take (kept_size n) s ≡ kept_sums n (gram e rows) (moment e t rows) → from_kept damp n s w ≡ by_normal damp t rows (ones w) (columns n w e)
unfolding from_kept by_normal block side
kept_solves damp n e t rows s w b is =
    let g = gram e rows in
    let m = moment e t rows in
    from_head damp n s (kept_sums n g m) w b (headed n g m s is)
    ∙ sums_cong _ (ones w) _ _ _ _
    (λ p q hp hq. pair_is n g m _ _ (term_below n w p b hp) (term_below n w q b hq) ∙ block_sums n w e rows p q)
    (λ p h. product_is n g m _ (term_below n w p b h) ∙ side_sums n w e t rows p)
