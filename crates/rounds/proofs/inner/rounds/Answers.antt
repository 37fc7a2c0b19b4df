-- `rounds` meets its contract: each turn of the loop is a round of the rule, and after it the rounds are used up.
use mathlib.Core.Path.{◌≡◌, refl, ap, subst, ◌∙◌}
use mathlib.Core.List.{[]}
use Prim.Native.Nat.{◌<◌}
use Rattle.rule.specs.Rule.{Problem, going, rounds}
use Rattle.rule.specs.Dropped.{drops, or_else, dropped}
use Rattle.rule.specs.Givens.{problem_given}
use Rattle.rounds.specs.Turned.{Turned}
use Rattle.rounds.specs.declared.inner.Turn.{Turn}
use Rattle.rounds.proofs.Turns.{Going, used_up, goes_on, ends_empty, ends_settled, ends_refused}
use Rattle.rounds.proofs.Look.{support_found, look_drops}
use Rattle.rounds.proofs.inner.rounds.Goals.{After-round}
use Rattle.rounds.proofs.inner.rounds.Goals as goal

-- after a turn's round
module _ (c : After-round) where
  abbrev P : Problem
  P = problem_given c.args.given

  abbrev so_far : Going P c.loop-refits.refits c.args.term_idx.0 c.loop-refits.drop c.loop-refits.coeffs c.loop-refits.last.0
  so_far = c.loop-refits.invariant.0

  in_limit : c.loop-refits.refits < c.args.given.task.setup.max_iter
  in_limit = c.loop-refits-test.true

  -- its look at the term that is watched
  seen : c.watched-drop.result ≡ or_else c.loop-refits.drop (drops P c.args.term_idx.0 (going c.loop-refits.coeffs so_far.past))
  seen =
      let long = c.loop-refits.auto.coeffs ∙ c.requires.0.coeffs_long in
      c.watched-drop.ensures ∙ ap (or_else _) (look_drops c.args.given _ long c.args.term_idx.0 _ so_far.past so_far.count_is)

  -- what it came to
  came : (t : Turn) → c.round.result ≡ t → Turned P c.loop-refits.last.0 c.loop-refits.coeffs t c.round.new.coeffs
  came t e = subst (λ (s : Turn). Turned P c.loop-refits.last.0 c.loop-refits.coeffs s c.round.new.coeffs) e c.round.ensures.0

pub loop-refits-init : goal.loop-refits-init
unfolding rounds dropped
loop-refits-init c =
    (record { past = []; state = c.requires.2; last_is = c.empty-last.ensures; count_is = refl; drop_is = refl }, c.requires.1)

pub returns-in-Empty : goal.returns-in-Empty
returns-in-Empty c =
    let turn = (goal.at.returns-in-Empty c).After-round in
    ends_empty (P turn) c.args.term_idx.0 (so_far turn) (seen turn) (in_limit turn) (came turn _ c.in-Empty.is)

pub returns-in-Settled : goal.returns-in-Settled
returns-in-Settled c =
    let turn = (goal.at.returns-in-Settled c).After-round in
    ends_settled (P turn) c.args.term_idx.0 (so_far turn) (seen turn) (in_limit turn) (came turn _ c.in-Settled.is)

pub returns-in-Refused : goal.returns-in-Refused
returns-in-Refused c =
    let turn = (goal.at.returns-in-Refused c).After-round in
    ends_refused (P turn) c.args.term_idx.0 (so_far turn) (seen turn) (in_limit turn) _ (came turn _ c.in-Refused.is)

pub loop-refits-preserved : goal.loop-refits-preserved
loop-refits-preserved c =
    let turn = (goal.at.loop-refits-preserved c).After-round in
    (goes_on (P turn) c.args.term_idx.0 (so_far turn) (seen turn) _ (came turn _ c.in-Again.is), c.round.ensures.1)

pub returns : goal.returns
returns c =
    let long = c.loop-refits.auto.coeffs ∙ c.requires.0.coeffs_long in
    let found = support_found c.args.given _ long _ c.support_of.ensures in
    rw (c.last_look-stop.ensures, found) (used_up _ _ c.loop-refits.invariant.0 c.loop-refits.auto.refits-end c.loop-refits-test.false)
