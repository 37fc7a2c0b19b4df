-- What a solve over a support gave, taken apart. Assumes nothing.
use Rattle.std.specs.Prelude.{Err, Ok, ◌≡◌, refl, List, ℕ, Float, Result}
use Rattle.std.proofs.Common.{subst}
use Rattle.refusal.specs.Answers.{Solution, solved, refused}
use Rattle.support.specs.declared.Term.{Term}
use Rattle.support.specs.Word.{term_at}
use Rattle.rule.specs.Rule.{scatter}
use Rattle.refit.specs.Parts.{placed, spread}

-- a solve that is done gave values, each put at its term
pub record Placed (n w : ℕ) (s : Solution) (cs : List Float) : Type 0 where
  pub values : List Float
  pub solves : s ≡ solved values
  pub puts : cs ≡ scatter n w values

pub done_placed : (r : Result (Unit {0}) Term) (n w : ℕ) (s : Solution) (cs : List Float) → r ≡ Ok tt → spread r cs ≡ placed n w s → Placed n w s cs
done_placed r n w s cs t q = go s (subst (λ (z : Result (Unit {0}) Term). spread z cs ≡ placed n w s) t q)
  where
    go : (s : Solution) → solved cs ≡ placed n w s → Placed n w s cs
    go (solved vs) e = record { values = vs; solves = refl; puts = cc }
    go (refused c) e = absurd cc

-- one that refused told the term of its column
pub record RefusedTerm (w : ℕ) (s : Solution) (t : Term) : Type 0 where
  pub column : ℕ
  pub refuses : s ≡ refused column
  pub term : t.0 ≡ term_at w column

pub refused_placed : (r : Result (Unit {0}) Term) (n w : ℕ) (t : Term) (s : Solution) (cs : List Float) → r ≡ Err t → spread r cs ≡ placed n w s → RefusedTerm w s t
refused_placed r n w t s cs e q = go s (subst (λ (z : Result (Unit {0}) Term). spread z cs ≡ placed n w s) e q)
  where
    go : (s : Solution) → refused t.0 ≡ placed n w s → RefusedTerm w s t
    go (solved vs) e = absurd cc
    go (refused c) e = record { column = c; refuses = refl; term = cc }
