-- Two problems of the same sizes and tests whose solves and errors agree have the same fits; so a fit looks only at the entries of its rows and columns.
use Rattle.std.specs.Prelude.{◌≡◌, eqb, Float}
use Rattle.std.proofs.Math.Path.{refl, ap}
use Rattle.std.proofs.Common.{◌∙◌}
use Rattle.std.proofs.Math.Bool.{cond}
use mathlib.Core.List.{List, []}
use Prim.Native.Nat.{ℕ, zero, suc, ◌^◌, ◌<◌}
use Rattle.std.specs.Int.Count.{ones}
use Rattle.std.proofs.Math.ListN.{length}
use Rattle.steps.specs.Num.{Entry}
use Rattle.support.specs.Word.{term}
use Rattle.support.specs.WordLaws.{word_lt}
use Rattle.support.specs.TermLaws.{term_below}
use Rattle.refusal.specs.Answers.{Solution, solved, refused}
use Rattle.places.specs.Columns.{columns}
use Rattle.leftover.proofs.Laws.{error_cong}
use Rattle.rule.specs.declared.Task.{Task}
use Rattle.rule.specs.declared.Stop.{Stop}
use Rattle.rule.specs.declared.Stop.TheVariants.{NoData, Empty, Settled}
use Rattle.rule.specs.Rule.{Problem, State, going, done, zeros, support, latest, refit, look, round, first, start, rounds, pruned, reported, finish, fit}
use Rattle.rule.specs.Fits.{problem, problem_by, fit_by}
use Rattle.rule.specs.Values.{solves_cong}
use Rattle.rule.specs.SameFit.{resolved}

module _ (P : Problem) (a : Solution) (f : ℕ → Solution) (g : ℕ → List Float → Float) (whole : P.whole ≡ a) (solve : (w : ℕ) → w < 2 ^ P.cols → P.solve w ≡ f w)
    (errs : (w : ℕ) (cs : List Float) → w < 2 ^ P.cols → P.error w cs ≡ g w cs) where
  abbrev Q : Problem
  Q = resolved P a f g

  same_refit : (ws : List ℕ) (w : ℕ) (s : Solution) → refit P ws w s ≡ refit Q ws w s
  unfolding refit
  same_refit ws w (solved vs) = refl
  same_refit ws w (refused c) = refl

  same_round : (s : State) → round P s ≡ round Q s
  unfolding round look support
  same_round (done t cs ws) = refl
  same_round (going cs ws) =
      let w = support P cs in
      ap (λ (x : State). cond (eqb w 0) (done Empty (zeros P.cols) ws) (cond (eqb w (latest ws)) (done Settled cs ws) x))
      (same_refit ws w (P.solve w) ∙ ap (refit Q ws w) (solve w (word_lt _ P.cols)))

  same_first : (s : Solution) → first P s ≡ first Q s
  unfolding first
  same_first (solved vs) = refl
  same_first (refused c) = refl

  pub same_rounds : (r : ℕ) → rounds P r ≡ rounds Q r
  unfolding rounds start
  same_rounds zero =
      let none = done NoData (zeros P.cols) [] in
      ap (λ (x : State). cond (eqb P.rows 0) none (cond (eqb P.cols 0) none x)) (same_first P.whole ∙ ap (first Q) whole)
  same_rounds (suc r) = same_round (rounds P r) ∙ ap (round Q) (same_rounds r)

  same_report : (t : Stop) (cs : List Float) (ws : List ℕ) → reported P t cs ws ≡ reported Q t cs ws
  unfolding reported pruned support
  same_report t cs ws =
      let final = pruned P cs in
      let kept = support P final in
      ap (λ (x : Float). record { coeffs = final; stop = t; refits = length ws; kept = kept; error = x }) (errs kept final (word_lt _ P.cols))

  same_finish : (s : State) → finish P s ≡ finish Q s
  unfolding finish support
  same_finish (going cs ws) = same_report _ cs ws
  same_finish (done t cs ws) = same_report t cs ws

  pub same_fit : (r : ℕ) → fit P r ≡ fit Q r
  unfolding fit
  same_fit r = same_finish (rounds P r) ∙ ap (finish Q) (same_rounds r)

-- of a support's columns only those of the matrix are looked at
columns_cong : (n w : ℕ) (e f : Entry) (i p : ℕ) → ((j : ℕ) → j < n → e i j ≡ f i j) → term n w p < n → columns n w e i p ≡ columns n w f i p
unfolding columns
columns_cong n w e f i p h b = h (term n w p) b

-- the problems of two matrices with the same entries in their rows and columns agree
module _ (task : Task) (e f : Entry) (t : ℕ → Float) (h : (i j : ℕ) → i < task.rows → j < task.cols → e i j ≡ f i j) where
  pub whole_agrees : (problem_by task e t).whole ≡ (problem_by task f t).whole
  unfolding problem
  whole_agrees = solves_cong task.rows task.cols e f h task.solver task.setup.lambda t

  pub solve_agrees : (w : ℕ) → w < 2 ^ task.cols → (problem_by task e t).solve w ≡ (problem_by task f t).solve w
  unfolding problem
  solve_agrees w b = solves_cong task.rows (ones w) (columns task.cols w e) (columns task.cols w f) cols task.solver task.setup.lambda t
    where
      cols : (i p : ℕ) → i < task.rows → p < ones w → columns task.cols w e i p ≡ columns task.cols w f i p
      cols i p l k = columns_cong task.cols w e f i p (λ j a. h i j l a) (term_below task.cols w p b k)

  pub error_agrees : (w : ℕ) (cs : List Float) → w < 2 ^ task.cols → (problem_by task e t).error w cs ≡ (problem_by task f t).error w cs
  unfolding problem
  error_agrees w cs b = error_cong task.rows task.cols e f t w cs b h

  -- so a fit looks only at the entries of its rows and columns
  pub fit_entries : fit_by task e t ≡ fit_by task f t
  unfolding fit_by problem
  fit_entries = same_fit (problem_by task e t) _ _ _ whole_agrees solve_agrees error_agrees task.setup.max_iter
