-- Damping each number of the diagonal damps the matrix. Assumes nothing.
use mathlib.Core.Path.{◌≡◌, refl, ◌∙◌}
use mathlib.Core.Logic.{dite}
use mathlib.Core.List.{List}
use Prim.Native.Nat.{ℕ, ◌+◌, ◌*◌}
use native.Mathlib.Omega.{arith}
use native.Mathlib.Decide.{ℕ_discrete}
use lib.ListN.{length}
use lib.Ieee.{Float, nan}
use borrow.Author.Tests.{eq-eqb, ne_eqb}
use Rattle.steps.specs.Num.{at, cell}
use Rattle.steps.specs.Table.{is_table}
use Rattle.steps.specs.Wrote.{Wrote, off_diagonal}
use Rattle.sums.specs.Products.{damped, jtj_matrix}

pub damped_diagonal : (damp : Float → Float) (k : ℕ) (d d' : List Float) → length d ≡ k * k →
    Wrote (λ c. c * k + c) 0 k (λ c. damp (at d (c * k + c))) d d' → d' ≡ jtj_matrix damp k (cell k d)
unfolding jtj_matrix damped
damped_diagonal damp k d d' len w =
    is_table k k (damped damp (cell k d)) d' nan (w.long ∙ len) (λ i j hi hj.
    dite (ℕ_discrete i j)
    (λ (e : i ≡ j). rw (e, eq-eqb j j refl) (w.done j (omega arith) hj))
    (λ (ne : i ≡ j → ⊥).
    rw (ne_eqb i j ne) (off_diagonal k i j _ d d' hj ne w)))
