-- What a solve over a support promises, in the words of the rule. Assumes nothing.
use Rattle.std.specs.Prelude.{Err, Ok, ◌≡◌, List, ◌≢◌, ℕ, ◌^◌, ◌<◌, take, Float, Result}
use Rattle.std.specs.Int.Count.{ones}
use Rattle.steps.specs.Num.{at}
use Rattle.refusal.specs.Answers.{Solution, solved, refused, solution, told, Solved}
use Rattle.sums.specs.Products.{gram, moment}
use Rattle.sums.specs.Kept.{kept_size, kept_sums}
use Rattle.support.specs.Word.{term_at}
use Rattle.rule.specs.Rule.{scatter}
use Rattle.rule.specs.Fits.{matrix_of}
use Rattle.rule.specs.Givens.{problem_given}
use Rattle.rule.specs.declared.Solver.TheVariants.{Qr}
use Rattle.rule.specs.declared.given.Given.{Given}
use Rattle.support.specs.declared.Term.{Term}

-- the support w names k of theta's columns
pub record Counted (g : Given) (w k : ℕ) : Type 0 where
  pub within : w < 2 ^ g.task.cols
  pub count : k ≡ ones w

-- what a fit keeps in its workspace from one solve to the next: unless it solves by least squares, the sums of all columns, undamped, at the head
pub record Kept (g : Given) (ws : List Float) : Type 0 where
  pub sums : g.task.solver ≢ Qr → take (kept_size g.task.cols) ws
      ≡ kept_sums g.task.cols (gram (matrix_of g.task g.theta.now) g.task.rows) (moment (matrix_of g.task g.theta.now) (at g.target.now) g.task.rows)

-- what a solve over w gives of theta's terms: each value at its term, or the term of the column at which it refused
abbrev pub placed : ℕ → ℕ → Solution → Solution
placed n w (solved vs) = solved (scatter n w vs)
placed n w (refused c) = refused (term_at w c)

-- what a solve of columns answered, with the values that it left
abbrev pub gave : Solved → List Float → Solution
gave r vs = solution (told r vs)

-- and one of terms, with the coefficients that it left
abbrev pub spread : Result (Unit {0}) Term → List Float → Solution
spread (Ok done) cs = solved cs
spread (Err t) cs = refused t.0

-- the solve of a support's columns, its values put at their terms
abbrev pub OverSupport : Given → ℕ → Result (Unit {0}) Term → List Float → Type 0
OverSupport g w r cs = spread r cs ≡ placed g.task.cols w ((problem_given g).solve w)
