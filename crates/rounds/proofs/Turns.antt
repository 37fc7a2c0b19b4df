-- The rounds over the rule's states: what holds after each, and what the last of them gives. Assumes nothing.
use mathlib.Core.Path.{◌≡◌, refl, sym, ap, ◌∙◌, subst}
use mathlib.Core.List.{List, ◌∷◌}
use Prim.Native.Nat.{ℕ, suc, ◌+◌, ◌<◌, ◌≤◌}
use native.Mathlib.Nat.{le_antisymm}
use native.Mathlib.Numerals.{add-one}
use lib.ListN.{length}
use lib.Ieee.{Float}
use Rattle.support.specs.declared.Support.{Support}
use Rattle.support.specs.declared.Term.{Term}
use Rattle.rule.specs.declared.Stop.{Stop}
use Rattle.rule.specs.declared.Stop.TheVariants as S
use Rattle.std.specs.Prelude.{Option}
use Rattle.rule.specs.declared.Look.{Look}
use Rattle.rule.specs.Dropped.{drops, or_else, dropped}
use Rattle.rule.specs.Rule.{Problem, going, done, latest, support, round, rounds, reported, last_look, finish, fit, coeffs_of}
use Rattle.rule.proofs.Dropped.{dropped_stays}
use Rattle.rule.proofs.Stable.{stays}
use Rattle.rounds.specs.declared.inner.Turn.{Turn}
use Rattle.rounds.specs.declared.inner.Turn.TheVariants as T
use Rattle.rounds.specs.Turned.{turned, Turned}
use Rattle.rounds.specs.Ran.{CameTo}
use Rattle.rounds.specs.Ended.{came_to}

-- after r rounds, each of which refitted, the rule goes on with these coefficients and this last support, and so far the term j was dropped there
pub record Going (P : Problem) (r j : ℕ) (drop : Option Look) (cs : List Float) (last : ℕ) : Type 0 where
  pub past : List ℕ
  pub state : rounds P r ≡ going cs past
  pub last_is : last ≡ latest past
  pub count_is : r ≡ length past
  pub drop_is : drop ≡ dropped P j r

module _ (P : Problem) (j : ℕ) where
  -- rounds used up: the last look's stop
  pub used_up : {r last m : ℕ} {d : Option Look} {cs : List Float} → Going P r j d cs last → r ≤ m → m ≤ r → CameTo P m j (last_look m last (support P cs)) m d cs
  unfolding fit finish
  used_up {r = r} {last = last} {d = d} {cs = cs} g h i =
      let seen : last_look (length g.past) (latest g.past) (support P cs) ≡ last_look r last (support P cs) = rw (g.last_is, g.count_is) refl in
      subst (λ (x : ℕ). CameTo P x j (last_look x last (support P cs)) x d cs) (le_antisymm h i)
      (record {
        refitted = g.past;
        ends = ap (finish P) g.state ∙ ap (λ t. reported P t cs g.past) seen;
        counts = g.count_is;
        leaves = sym (ap coeffs_of g.state);
        drops = g.drop_is;
      })

  -- one round more, which looked at the term
  module _ {r last : ℕ} {d d' : Option Look} {cs : List Float} (g : Going P r j d cs last) (look : d' ≡ or_else d (drops P j (going cs g.past))) where
    seen_next : d' ≡ dropped P j (suc r)
    unfolding dropped
    seen_next = look ∙ rw (g.drop_is, g.state) refl

    module _ {x : List Float} where
      next : (t : Turn) → Turned P last cs t x → rounds P (suc r) ≡ turned P cs g.past t x
      unfolding rounds
      next t u = ap (round P) g.state ∙ u.rule g.past g.last_is

      pub goes_on : (w : Support) → Turned P last cs (T.Again w) x → Going P (r + 1) j d' x w.0
      goes_on w u = record {
        past = w.0 ∷ g.past;
        state = ap (rounds P) (add-one r) ∙ next (T.Again w) u;
        last_is = refl;
        count_is = add-one r ∙ ap suc g.count_is;
        drop_is = seen_next ∙ sym (ap (dropped P j) (add-one r));
      }

      module _ {m : ℕ} (l : r < m) where
        -- a round that ended the fit: what is left of the limit changes nothing
        over : {t : Stop} {ws : List ℕ} {k : ℕ} → rounds P (suc r) ≡ done t x ws → k ≡ length ws → CameTo P m j t k d' x
        over {ws = ws} e i = came_to P m j ws (stays P (suc r) m e l) i (seen_next ∙ sym (dropped_stays P j (suc r) m e l))

        pub ends_empty : Turned P last cs T.Empty x → CameTo P m j S.Empty r d' x
        ends_empty u = over (next T.Empty u) g.count_is

        pub ends_settled : Turned P last cs T.Settled x → CameTo P m j S.Settled r d' x
        ends_settled u = over (next T.Settled u) g.count_is

        pub ends_refused : (t : Term) → Turned P last cs (T.Refused t) x → CameTo P m j (S.RefitRefused t) (r + 1) d' x
        ends_refused t u = over (next (T.Refused t) u) (add-one r ∙ ap suc g.count_is)
