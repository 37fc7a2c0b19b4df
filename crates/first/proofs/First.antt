-- How a fit begins: no data, a first solve that is refused, or one that gives the first coefficients. Assumes nothing.
use Rattle.std.specs.Prelude.{Err, None, Ok, Result}
use mathlib.Core.Path.{◌≡◌, refl, sym, ap, ◌∙◌, subst}
use mathlib.Core.Logic.{◌≢◌}
use mathlib.Core.List.{List, []}
use Prim.Native.Nat.{ℕ, zero-le, ◌≤◌, ◌<◌}
use borrow.Author.Tests.{eq-eqb, ne_eqb}
use lib.ListN.{length}
use lib.Ieee.{Float}
use Rattle.steps.specs.Num.{at}
use Rattle.steps.specs.Space.{cleared}
use Rattle.support.specs.Word.{full, term_at}
use Rattle.support.specs.TermLaws.{term_at_full}
use Rattle.support.specs.declared.Term.{Term}
use Rattle.refusal.specs.Answers.{solved, refused, Within}
use Rattle.rule.specs.declared.Task.{Task}
use Rattle.rule.specs.declared.given.Given.{Given}
use Rattle.rule.specs.declared.Stop.{Stop}
use Rattle.rule.specs.declared.Stop.TheVariants.{NoData, FirstRefused}
use Rattle.rule.specs.Rule.{Problem, going, done, zeros, scatter, first, start, rounds}
use Rattle.rule.specs.Dropped.{dropped}
use Rattle.rule.proofs.Dropped.{dropped_stays}
use Rattle.rule.specs.Fits.{problem, matrix_of}
use Rattle.rule.specs.Givens.{problem_given}
use Rattle.rule.proofs.Refuses.{columned}
use Rattle.rule.proofs.Stable.{stays}
use Rattle.rule.specs.Values.{one_a_column, solves_full, scatter_full}
use Rattle.refit.specs.Parts.{OverSupport}
use Rattle.refit.specs.Placed.{done_placed, refused_placed}
use Rattle.rounds.specs.Ran.{CameTo}
use Rattle.rounds.specs.Ended.{zeroed, came_to}

-- all of n coefficients cleared
pub all_zeros : (n : ℕ) (cs : List Float) {x : List Float} → length cs ≡ n → x ≡ cleared (length cs) cs → x ≡ zeros n
all_zeros n cs l e = zeroed n cs l (rw l at e)

module _ (g : Given) (j : ℕ) where
  abbrev task : Task
  task = g.task

  abbrev P : Problem
  P = problem_given g

  abbrev limit : ℕ
  limit = task.setup.max_iter

  -- a start that is done is the end, before any look
  at_once : {t : Stop} {x : List Float} → start P ≡ done t (zeros task.cols) [] → x ≡ zeros task.cols → CameTo P limit j t 0 None x
  unfolding rounds dropped
  at_once {t} {x} e q =
      let over = e ∙ ap (λ (c : List Float). done t c []) (sym q) in
      came_to P limit j [] (stays P 0 limit over zero-le) refl (sym (dropped_stays P j 0 limit over zero-le))

  -- no rows or no columns
  pub no_rows : {x : List Float} → task.rows ≡ 0 → x ≡ zeros task.cols → CameTo P limit j NoData 0 None x
  unfolding start problem
  no_rows h q = at_once (rw (eq-eqb task.rows 0 h)) q

  pub no_cols : {x : List Float} → task.rows ≢ 0 → task.cols ≡ 0 → x ≡ zeros task.cols → CameTo P limit j NoData 0 None x
  unfolding start problem
  no_cols r h q = at_once (rw (ne_eqb task.rows 0 r, eq-eqb task.cols 0 h)) q

  -- the solve over all columns, whose answer was a, and which left y
  module _ (some-rows : task.rows ≢ 0) (some-cols : task.cols ≢ 0) (small : task.cols ≤ 64) (w : ℕ) (all : w ≡ full task.cols)
      (a : Result (Unit {0}) Term) (y : List Float) (solve : OverSupport g w a y) where
    begun : start P ≡ first P P.whole
    unfolding start problem
    begun = rw (ne_eqb task.rows 0 some-rows, ne_eqb task.cols 0 some-cols)

    whole : P.solve w ≡ P.whole
    unfolding problem
    whole = rw all (solves_full task.solver task.setup.lambda (at g.target.now) task.rows task.cols (matrix_of task g.theta.now) small)

    -- refused: among all columns a column is its own term
    pub first_refused : (t : Term) (x : List Float) → a ≡ Err t → length y ≡ task.cols → x ≡ cleared (length y) y → CameTo P limit j (FirstRefused t) 0 None x
    unfolding first problem
    first_refused t x e h i =
        let no = refused_placed a task.cols w t _ y e solve in
        let at-column : P.whole ≡ refused no.column = sym whole ∙ no.refuses in
        let below : no.column < task.cols = subst (Within task.cols) at-column (columned task _ _).first_solve in
        let own : t.0 ≡ no.column = no.term ∙ ap (λ (v : ℕ). term_at v no.column) all ∙ term_at_full task.cols no.column small below in
        at_once (begun ∙ ap (first P) (at-column ∙ ap refused (sym own))) (all_zeros task.cols y h i)

    pub first_goes : a ≡ Ok tt → start P ≡ going y []
    unfolding first problem
    first_goes t =
        let p = done_placed a task.cols w (P.solve w) y t solve in
        let yes : P.whole ≡ solved p.values = sym whole ∙ p.solves in
        let long = one_a_column task.solver task.setup.lambda (at g.target.now) task.rows task.cols (matrix_of task g.theta.now) p.values yes in
        let same : y ≡ p.values = p.puts ∙ ap (λ (v : ℕ). scatter task.cols v p.values) all ∙ scatter_full task.cols p.values small long in
        begun ∙ ap (first P) yes ∙ ap (λ (c : List Float). going c []) (sym same)
