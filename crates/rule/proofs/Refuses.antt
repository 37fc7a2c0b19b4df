-- A fit that is refused is so at a term of theta, and after a refit at one of the support that was refitted.
use Rattle.std.specs.Prelude.{◌≡◌, List, [], ℕ, ◌+◌, ◌^◌, ◌≤◌, ◌<◌, eqb, length, Float}
use Rattle.std.proofs.Math.Path.{subst}
use Rattle.std.proofs.Math.Nat.{pow-le-pow_right}
use Rattle.std.proofs.Common.{lt_of_lt_of_le, lit<}
use Rattle.std.specs.Int.Count.{ones}
use Rattle.steps.specs.Num.{Entry}
use Rattle.steps.specs.Cond.{either}
use Rattle.steps.specs.Loops.{Way, going, stopped, StopsBelow}
use Rattle.support.specs.Word.{term_at}
use Rattle.support.specs.WordLaws.{word_lt, has_lt}
use Rattle.support.specs.TermLaws.{term_at_is}
use Rattle.refusal.specs.Answers.{refused, solution, Within}
use Rattle.sums.specs.Products.{gram, moment, ridge, marquardt, jtj_matrix, jtr_column}
use Rattle.normal.specs.Normal.{normal}
use Rattle.normal.specs.Refuses.{normal_refuses}
use Rattle.least.specs.Refuses.{least_refuses}
use Rattle.places.specs.Columns.{columns}
use Rattle.rule.specs.declared.Task.{Task}
use Rattle.rule.specs.declared.Solver.{Solver}
use Rattle.rule.specs.declared.Solver.TheVariants.{Normal, Qr, Marquardt}
use Rattle.rule.specs.declared.Stop.{Stop}
use Rattle.rule.specs.Rule.{Problem, State, latest, support, refit, first, rounds, reported, last_look, finish, fit, past, refitted}
use Rattle.rule.specs.Rule as R
use Rattle.rule.specs.Fits.{by_sums, by_normal, by_least, solves, problem, problem_by}
use Rattle.rule.specs.Course.{Course}
use Rattle.rule.specs.Refuses.{Columned, InSupport, RefusedAt}
use Rattle.rule.proofs.Course.{after_rounds}

-- the normal equations refuse, if at all, at one of their columns, however they are damped
by_normal_within : (damp : Float → Float) (t : ℕ → Float) (rows c : ℕ) (e : Entry) → Within c (by_normal damp t rows c e)
unfolding by_normal by_sums
by_normal_within damp t rows c e =
    let a = jtj_matrix damp c (gram e rows) in
    let b = jtr_column c (moment e t rows) in
    go (normal c a b) (normal_refuses c a b)
  where
    go : (w : Way (List Float)) → StopsBelow c w → Within c (solution w)
    go (going x) p = tt
    go (stopped k x) p = p

-- and so does each solver
pub solves_refuse : (solver : Solver) (lambda : Float) (t : ℕ → Float) (rows c : ℕ) (e : Entry) → Within c (solves solver lambda t rows c e)
unfolding solves by_least
solves_refuse Normal lambda t rows c e = by_normal_within (ridge lambda) t rows c e
solves_refuse Qr lambda t rows c e = least_refuses (rows + c) c _ _
solves_refuse Marquardt lambda t rows c e = by_normal_within (marquardt lambda) t rows c e

-- that of a fit does
pub columned : (task : Task) (e : Entry) (t : ℕ → Float) → Columned (problem_by task e t)
unfolding problem
columned task e t = record {
  first_solve = solves_refuse task.solver task.setup.lambda t task.rows task.cols e;
  refits = λ w. solves_refuse task.solver task.setup.lambda t task.rows (ones w) (columns task.cols w e);
}

module _ (P : Problem) (columned : Columned P) (few : P.cols ≤ 64) where
  -- of a state: nothing while the fit goes on
  At : State → Type 0
  At (R.going cs ws) = Unit {0}
  At (R.done t cs ws) = RefusedAt P.cols t ws

  -- the term of a refused column is in the support, whose columns these are
  at_term : (cs : List Float) (c : ℕ) → P.solve (support P cs) ≡ refused c → InSupport (support P cs) P.cols (term_at (support P cs) c)
  unfolding support
  at_term cs c q =
      let w = support P cs in
      let fits : w < 2 ^ P.cols = word_lt _ P.cols in
      let member = term_at_is w c (lt_of_lt_of_le fits (pow-le-pow_right {n = 2} (lit< tt) few)) (subst (Within (ones w)) q (columned.refits w)) in
      record { in_it = member.in_it; below = has_lt w P.cols _ fits member.in_it }

  -- and so all along
  refusing : Course P (λ r s. At s)
  unfolding At first refit
  refusing = record {
    nothing = λ e. tt;
    refused_first = λ e c q. subst (Within P.cols) q columned.first_solve;
    begins = λ e vs q. tt;
    rests = λ r t cs ws i. i;
    empties = λ r cs ws i. tt;
    settles = λ r cs ws i z e. tt;
    refused_later = λ r cs ws i z l c q. at_term cs c q;
    refits = λ r cs ws i z l vs q. tt;
  }

  -- so of the fit within a limit of rounds: the last look names no term
  pub refused_at : (r : ℕ) → RefusedAt P.cols (fit P r).stop (refitted P r)
  unfolding fit finish reported refitted At last_look
  refused_at r = go (rounds P r) (after_rounds P refusing r)
    where
      go : (s : State) → At s → RefusedAt P.cols (finish P s).stop (past s)
      go (R.going cs ws) i =
          let N : Stop → Type 0 = λ t. RefusedAt P.cols t ws in
          either N (eqb (length ws) 0) _ _ (λ e. tt) (λ e. either N (eqb (support P cs) (latest ws)) _ _ (λ q. tt) (λ q. tt))
      go (R.done t cs ws) i = i
