-- A matrix and a right-hand side in one slice, lent as its head, and the values read behind the matrix. Assumes nothing.
use mathlib.Core.Path.{◌≡◌, sym, ap, ap₂, ◌∙◌}
use mathlib.Core.List.{List, ◌++◌}
use Prim.Native.Nat.{ℕ, ◌+◌, ◌-◌, ◌≤◌}
use native.Mathlib.Nat.{sub-zero}
use native.Mathlib.Omega.{arith}
use lib.Count.{ones}
use lib.ListN.{length, take, drop, length-append, length-take, length-drop}
use lib.Seq.{take_at, drop_at}
use lib.Ieee.{Float}
use Rattle.steps.specs.Num.{at}
use Rattle.steps.specs.Table.{tab, length_tab, length_table}
use Rattle.steps.specs.Space.{part, with_part, length_with}
use Rattle.steps.specs.Glue.{both_parts, read_behind}
use Rattle.least.specs.Least.{least}
use Rattle.rule.specs.Fits.{padded, by_least, problem, problem_of, matrix_of, solves}
use Rattle.rule.specs.declared.Task.{Task}
use Rattle.rule.specs.declared.Solver.TheVariants.{Qr}
use Rattle.augment.specs.Ridged.{qr_matrix}
use Rattle.refit.proofs.Large.{cells, both}

-- a slice with a written into its head, and b behind that
abbrev head_in : Task → ℕ → List Float → List Float → List Float
head_in task k a ws = with_part 0 (cells task k) a ws

abbrev both_in : Task → ℕ → List Float → List Float → List Float → List Float
both_in task k a b ws = with_part (cells task k) (both task k) b (head_in task k a ws)

-- the length of a lent head
pub length_head : (n : ℕ) (l : List Float) → n ≤ length l → length (take (n - 0) l) ≡ n
length_head n l h = rw sub-zero (simp length-take (omega arith))

-- a is made as QR's matrix at the head of a slice of just this room, b as its right-hand side behind it
module _ (task : Task) (theta target : List Float) (w k : ℕ) (rows : length target ≡ task.rows) (count : k ≡ ones w) (ws : List Float) (l : length ws ≡ both task k)
    {a : List Float} (is-a : a ≡ qr_matrix task.rows task.cols w task.setup.lambda (matrix_of task theta)) where
  length_a : length a ≡ cells task k
  length_a = rw (count, is-a) (length_table _ _ _)

  pub room_behind : length (part (cells task k) (both task k) (head_in task k a ws)) ≡ length target + k
  room_behind =
      let e = length_with 0 (cells task k) a ws (omega arith) (omega arith) (length_a ∙ sym (sub-zero _)) in
      simp (length-take, length-drop) (omega (arith, rows))

  module _ {b : List Float} (is_b : b ≡ tab (length target + k) (padded (length target) (at target))) where
    joined : both_in task k a b ws ≡ a ++ b
    joined = both_parts (cells task k) (task.rows + k) ws a b l length_a

    pub length_both : length (both_in task k a b ws) ≡ both task k
    length_both =
        let e : length b ≡ task.rows + k = ap length is_b ∙ length_tab _ _ ∙ rw rows in
        ap length joined ∙ length-append a b ∙ (let z : length a + length b ≡ both task k = omega (arith, length_a) in z)

    -- the solve of what stands there is by least squares
    pub least_is : task.solver ≡ Qr
        → least (task.rows + k) k (take (cells task k) (both_in task k a b ws)) (drop (cells task k) (both_in task k a b ws)) ≡ (problem_of task theta target).solve w
    unfolding problem matrix_of solves by_least
    least_is is =
        rw is
        (ap₂ (λ (x y : List Float). least (task.rows + k) k x y)
        (ap (take (cells task k)) joined ∙ take_at a b _ length_a ∙ is-a)
        (ap (drop (cells task k)) joined ∙ drop_at a b _ length_a ∙ is_b)
        ∙ rw (rows, count))

-- x is what a solve left in the head of a workspace: the k values stand in it behind the matrix
module _ (task : Task) (k : ℕ) (ws x : List Float) (fits : both task k ≤ length ws) (kept : length x ≡ length (take (both task k - 0) ws)) where
  length_x : length x ≡ both task k
  length_x = kept ∙ length_head _ ws fits

  pub space_kept : length (with_part 0 (both task k) x ws) ≡ length ws
  space_kept = length_with 0 _ x ws (omega arith) fits (length_x ∙ sym (sub-zero _))

  pub read : part (cells task k) (cells task k + k) (with_part 0 (both task k) x ws) ≡ take k (drop (cells task k) x)
  read = read_behind (cells task k) (task.rows + k) k ws x length_x (omega arith)
