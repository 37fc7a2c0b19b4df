-- Document 01's rule of the root, "x lies strictly between the squares of the two midpoints around the answer" with its special values: `root_of` meets it
-- (`root_is`, and so `sqrt`'s contract, `root_call`), nothing else does (`root_only`), and so it has one answer (`root_unique`). Assumes nothing.
use Rattle.std.proofs.Common.{◌≡◌, ℕ, zero, suc, ◌+◌, ◌*◌, Bool, true, false, cond, ◌&&◌, ◌||◌, T, eqb, ℤ, pos, sym, refl, ap, ◌∙◌, subst, zero-mul, arith, lt→ltb}
use mathlib.Core.Bool.{beq}
use lib.Dec.{eqb-suc-zero}
use lib.Ieee.{Float, binary64, fits, of_bits, nan, inf, fin, up, down, eq, lt, div, to_bits}
use lib.Ieee.Bits.{of_bits-to_bits, is_true}
use lib.Ieee.Fits.{nan-fits, inf-fits, cond-fits}
use lib.Ieee.Positive.{positive}
use Rattle.float64.specs.Root.{units, nearest_root, root_of}
use Rattle.float64.specs.Rule.{IsRoot, SqrtCall}
use Rattle.float64.proofs.Order.{nearest_only}
use Rattle.float64.proofs.Pattern.{nearest_fits}
use Rattle.float64.proofs.Positive.{above_zero, root_nearest}
use Rattle.float64.proofs.Ways.{root_zero, root_neg}

-- ---- the root fits
pub root_fits : (x : Float) → T (fits binary64 x) → T (fits binary64 (root_of x))
unfolding root_of
root_fits nan f = nan-fits binary64
root_fits (inf s) f = cond-fits binary64 s nan (inf false) (nan-fits binary64) (inf-fits binary64 false)
root_fits (fin s m e) f =
    cond-fits binary64 (eqb m 0) (fin s m e) (cond s nan (nearest_root (units (fin s m e)))) f
    (cond-fits binary64 s nan (nearest_root (units (fin s m e))) (nan-fits binary64) (nearest_fits (units (fin s m e))))

-- ---- the tests at a finite value
zero_is_zero : (s : Bool) (e : ℤ) → T (eqb (0 * up e * 1) (0 * down e) && (beq s false || eqb (0 * up e * 1) 0))
zero_is_zero s e =
    let a : 0 * up e * 1 ≡ 0 = omega (arith, zero-mul (up e)) in
    let b : 0 * down e ≡ 0 = zero-mul (down e) in
    subst (λ (u : ℕ). T (eqb u (0 * down e) && (beq s false || eqb u 0))) (sym a) (subst (λ (v : ℕ). T (eqb 0 v && (beq s false || eqb 0 0))) (sym b) (or s))
  where
    or : (s : Bool) → T (beq s false || true)
    or true = tt
    or false = tt

same_bits : (r v : Float) → T (fits binary64 r) → T (fits binary64 v) → to_bits binary64 r ≡ to_bits binary64 v → r ≡ v
same_bits r v f g h = sym (of_bits-to_bits binary64 r f) ∙ ap (of_bits binary64) h ∙ of_bits-to_bits binary64 v g

-- ---- the rule
-- The answer meets the rule, for every x that fits binary64.
pub root_is : (x : Float) → T (fits binary64 x) → IsRoot x (root_of x)
unfolding root_of of_bits div
root_is x f = record {
  of_number = root_nearest x f;
  of_zero = λ t. sym (root_zero x (is_true (eq x (fin false 0 (pos 0))) t));
  of_inf = ap root_of;
  of_nan = ap root_of;
  of_minus = λ t. sym (root_neg x (is_true (lt x (fin false 0 (pos 0))) t));
}

-- So it is what `sqrt` is to give.
pub root_call : (x r : Float) → T (fits binary64 x) → r ≡ root_of x → SqrtCall x r
root_call x r f e = record { rule = subst (λ (v : Float). IsRoot x v) (sym e) (root_is x f); value = e }

-- And nothing else that fits does.
pub root_only : (x r : Float) → T (fits binary64 x) → T (fits binary64 r) → IsRoot x r → r ≡ root_of x
unfolding root_of eq lt
root_only nan r f g w = w.of_nan refl
root_only (inf true) r f g w = w.of_minus tt
root_only (inf false) r f g w = w.of_inf refl
root_only (fin s zero e) r f g w = w.of_zero (zero_is_zero s e)
root_only (fin true (suc m) e) r f g w =
    w.of_minus (lt→ltb 0 (suc m * up e * 1 + 0 * down e) (omega (arith, above_zero (suc m) e (lt→ltb 0 (suc m) (omega arith)))))
    ∙ sym (ap (λ (t : Bool). cond t (fin true (suc m) e) nan) (eqb-suc-zero m))
root_only (fin false (suc m) e) r f g w =
    let x = fin false (suc m) e in
    let p : T (positive x) = lt→ltb 0 (suc m) (omega arith) in
    same_bits r (root_of x) g (root_fits x f) (nearest_only (units x) (to_bits binary64 r) (to_bits binary64 (root_of x)) (w.of_number p) (root_nearest x f p))

-- So two answers that meet the rule are equal.
pub root_unique : (x r s : Float) → T (fits binary64 x) → T (fits binary64 r) → T (fits binary64 s) → IsRoot x r → IsRoot x s → r ≡ s
root_unique x r s f g h v w = root_only x r f g v ∙ sym (root_only x s f h w)
