-- Each of the four sums is that of its row's products over the terms passed.
use mathlib.Core.Path.{◌≡◌}
use Prim.Native.Nat.{◌+◌}
use Rattle.places.specs.Theta.{by_rows}
use Rattle.leftover.specs.Error.{products}
use Rattle.leftover.specs.Fits.{kept_entries, kept_coeffs}
use Rattle.leftover.proofs.inner.add_four.Given as goal

abbrev pub invariant-loop-p : goal.invariant-loop-p
invariant-loop-p l =
    let e = kept_entries by_rows l.fit in
    let cs = kept_coeffs l.fit in
    (l.a ≡ products l.p (e l.i) cs) × (l.b ≡ products l.p (e (l.i + 1)) cs) × (l.c ≡ products l.p (e (l.i + 2)) cs) × (l.d ≡ products l.p (e (l.i + 3)) cs)
