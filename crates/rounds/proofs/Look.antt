-- A round, in the words of what the code's calls ensure. Assumes nothing.
use Rattle.std.specs.Prelude.{Err, None, Ok, Some, Result}
use mathlib.Core.Path.{◌≡◌, refl, sym, ap, ◌∙◌}
use mathlib.Core.Logic.{◌≢◌}
use mathlib.Core.Bool.{Bool, cond}
use mathlib.Core.List.{List, ◌∷◌}
use Prim.Native.Nat.{ℕ, suc, ◌^◌, ◌<◌}
use borrow.Author.Tests.{eq-eqb, ne_eqb}
use lib.ListN.{length}
use lib.Ieee.{Float}
use Rattle.steps.specs.Num.{at}
use Rattle.steps.specs.Space.{cleared}
use Rattle.support.specs.Word.{has, word}
use Rattle.support.specs.WordLaws.{word_lt}
use Rattle.support.specs.declared.Support.{Support}
use Rattle.support.specs.declared.Term.{Term}
use Rattle.rule.specs.declared.given.Given.{Given}
use Rattle.rule.specs.declared.Stop.TheVariants.{RefitRefused}
use Rattle.rule.specs.Rule.{Problem, going, done, zeros, latest, support, refit, look, round}
use Rattle.rule.specs.Dropped.{before, drops}
use Rattle.rule.specs.Fits.{keeps, problem}
use Rattle.rule.specs.Givens.{problem_given}
use Rattle.refit.specs.Parts.{OverSupport}
use Rattle.refit.specs.Placed.{RefusedTerm, done_placed, refused_placed}
use Rattle.rounds.specs.declared.inner.Turn.TheVariants.{Again, Empty, Settled, Refused}
use Rattle.rounds.specs.Turned.{Turned}
use Rattle.rounds.specs.Ended.{zeroed}

-- a collected support has no term beyond the coefficients
pub support_fits : (f : ℕ → Bool) (w n : ℕ) (cs : List Float) → w ≡ word f (length cs) → length cs ≡ n → w < 2 ^ n
support_fits f w n cs e l = rw (e, l) (word_lt f n)

-- what a look collects is the support of the rule
pub support_found : (g : Given) (cs : List Float) → length cs ≡ g.task.cols → (w : ℕ) → w ≡ word (λ j. keeps g.task.setup j (at cs j)) (length cs)
    → w ≡ support (problem_given g) cs
unfolding support problem
support_found g cs long w s = s ∙ ap (word (λ j. keeps g.task.setup j (at cs j))) long

-- what a look tells of the term j is what the rule says that it drops
pub look_drops : (g : Given) (cs : List Float) → length cs ≡ g.task.cols → (j r : ℕ) (past : List ℕ) → r ≡ length past
    → cond (has (word (λ k. keeps g.task.setup k (at cs k)) (length cs)) j) None (Some (before (suc r) (at cs j))) ≡ drops (problem_given g) j (going cs past)
unfolding drops
look_drops g cs long j r past e = rw (support_found g cs long _ refl, e) refl

-- a look at cs that found w
module _ (g : Given) (last : ℕ) (cs : List Float) (long : length cs ≡ g.task.cols)
    (w : Support) (s : w.0 ≡ word (λ j. keeps g.task.setup j (at cs j)) (length cs)) where
  abbrev P : Problem
  P = problem_given g

  found : w.0 ≡ support P cs
  found = support_found g cs long w.0 s

  looked : (past : List ℕ) → round P (going cs past) ≡ look P cs past w.0
  unfolding round
  looked past = ap (look P cs past) (sym found)

  pub turn_empty : {x : List Float} → w.0 ≡ 0 → x ≡ cleared g.task.cols cs → Turned P last cs Empty x
  unfolding look problem
  turn_empty z e = record { rule = λ past i. looked past ∙ rw (eq-eqb w.0 0 z, zeroed g.task.cols cs long e) }

  module _ (some : w.0 ≢ 0) where
    pub turn_settled : w.0 ≡ last → Turned P last cs Settled cs
    unfolding look
    turn_settled e = record { rule = λ past i. looked past ∙ rw (ne_eqb w.0 0 some, eq-eqb w.0 (latest past) (e ∙ i)) }

    -- the solve over w, whose answer was a, and which left y
    module _ (other : w.0 ≢ last) (a : Result (Unit {0}) Term) (y : List Float) (solve : OverSupport g w.0 a y) where
      solving : (past : List ℕ) → last ≡ latest past → round P (going cs past) ≡ refit P past w.0 (P.solve w.0)
      unfolding look
      solving past i = looked past ∙ rw (ne_eqb w.0 0 some, ne_eqb w.0 (latest past) (λ q. other (q ∙ sym i)))

      refused_ends : (t : Term) (x : List Float) → RefusedTerm w.0 (P.solve w.0) t → x ≡ zeros g.task.cols → (past : List ℕ)
          → refit P past w.0 (P.solve w.0) ≡ done (RefitRefused t) x (support P cs ∷ past)
      unfolding refit problem
      refused_ends t x r z past = rw (← found, r.refuses, ← r.term, z) refl

      pub turn_refused : (t : Term) (x : List Float) → a ≡ Err t → length y ≡ g.task.cols → x ≡ cleared g.task.cols y → Turned P last cs (Refused t) x
      turn_refused t x e h i =
          let at_term = refused_placed a g.task.cols w.0 t (P.solve w.0) y e solve in
          record { rule = λ past l. solving past l ∙ refused_ends t x at_term (zeroed g.task.cols y h i) past }

      pub turn_again : a ≡ Ok tt → Turned P last cs (Again w) y
      unfolding refit problem
      turn_again t =
          let p = done_placed a g.task.cols w.0 (P.solve w.0) y t solve in
          record { rule = λ past i. solving past i ∙ ap (refit P past w.0) p.solves ∙ ap (λ (x : List Float). going x (w.0 ∷ past)) (sym p.puts) }
