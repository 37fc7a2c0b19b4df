-- Demand 3 for a threshold above zero, once over the problem: each support is a strict subset of the one before, so there are few.
use Rattle.std.proofs.Common.{sym, ◌∙◌, arith}
use Rattle.std.proofs.Math.Path.{subst}
use Rattle.std.specs.Prelude.{◌≢◌, length}
use Rattle.std.proofs.Math.Bool.{Bool, true, false, cond}
use mathlib.Core.List.{List, [], ◌∷◌}
use Prim.Native.Nat.{ℕ, ◌+◌, ◌^◌, ◌≤◌, ◌<◌}
use Rattle.std.proofs.Math.Dec.{T}
use Rattle.std.specs.Float.Ieee.{Float, nan}
use Rattle.steps.specs.Num.{+zero, at}
use Rattle.steps.specs.Table.{get_or_tab}
use Rattle.support.specs.Word.{has, count, word, place, Sub, Strict}
use Rattle.support.specs.WordLaws.{word_lt, has_word, has_lt, word_has}
use Rattle.support.specs.CountLaws.{count_le, count_pos}
use Rattle.support.specs.SubsetLaws.{strict_count}
use Rattle.rule.specs.Rule.{Problem, State, going, done, latest, support, scatter, refit, first, rounds, fit, past, refitted}
use Rattle.rule.specs.Course.{Course}
use Rattle.rule.specs.Stable.{Falling, Bounded, ZeroKept}
use Rattle.rule.proofs.Course.{after_rounds}
use Rattle.rule.proofs.Stable.{refits_counted, refits_few, ran_out}

module _ (P : Problem) where
  -- the supports refitted: falling, the newest of the problem's terms, not empty, and with room for those before it
  Good : List ℕ → Type 0
  Good [] = Unit {0}
  Good (w ∷ ws) = (w < 2 ^ P.cols) × (0 < count (has w) P.cols) × (count (has w) P.cols + length ws ≤ P.cols) × Falling (w ∷ ws)

  -- the next support lies within the last refitted one
  Inside : List Float → List ℕ → Type 0
  Inside cs [] = Unit {0}
  Inside cs (w ∷ ws) = Sub (support P cs) w

  -- after each round
  Falls : State → Type 0
  Falls (going cs ws) = Good ws × Inside cs ws
  Falls (done t cs ws) = Good ws

  pushed : (cs : List Float) (ws : List ℕ) → support P cs ≢ 0 → support P cs ≢ latest ws → Good ws → Inside cs ws → Good (support P cs ∷ ws)
  unfolding Good Inside support
  pushed cs ws z l g i = next ws l g i
    where
      n : ℕ
      n = P.cols

      w : ℕ
      w = support P cs

      b : w < 2 ^ n
      b = word_lt _ n

      p : 0 < count (has w) n
      p = count_pos (has w) n (λ e. z (sym (word_has w n b) ∙ e))

      next : (ws : List ℕ) → w ≢ latest ws → Good ws → Inside cs ws → Good (w ∷ ws)
      next [] l g i = (b, p, omega (arith, count_le (has w) n), (tt, tt))
      next (v ∷ vs) l g i =
          let s : Strict w v = record { within = i; other = l } in
          (b, p, omega (arith, strict_count n w v b g.0 s), (s, g.3))

  module _ (zk : ZeroKept P) where
    -- the crux: after a refit over w only terms of w are kept
    pub scattered : (cs : List Float) (vs : List Float) → Sub (support P (scatter P.cols (support P cs) vs)) (support P cs)
    unfolding support scatter ZeroKept
    scattered cs vs j t =
        let n = P.cols in
        let f : ℕ → Bool = λ k. P.keeps k (at cs k) in
        let g : ℕ → Float = λ k. cond (has (word f n) k) (at vs (place (word f n) k)) +zero in
        let l : j < n = has_lt _ n j (word_lt _ n) t in
        let k : T (P.keeps j (g j)) = subst (λ (x : Float). T (P.keeps j x)) (get_or_tab n g j nan l) (subst (λ (b : Bool). T b) (has_word _ n j l) t) in
        in_w (has (word f n) j) _ (subst (λ (b : Bool). T (P.keeps j +zero) → T b) (sym (has_word f n j l)) (zk j (at cs j))) k
      where
        in_w : (b : Bool) (x : Float) → (T (P.keeps j +zero) → T b) → T (P.keeps j (cond b x +zero)) → T b
        in_w true x h k = tt
        in_w false x h k = h k

    falls : Course P (λ r. Falls)
    unfolding Falls Good Inside first refit
    falls = record {
      nothing = λ e. tt;
      refused_first = λ e c q. tt;
      begins = λ e vs q. (tt, tt);
      rests = λ r t cs ws i. i;
      empties = λ r cs ws i. i.0;
      settles = λ r cs ws i z e. i.0;
      refused_later = λ r cs ws i z l c q. pushed cs ws z l i.0 i.1;
      refits = λ r cs ws i z l vs q. (pushed cs ws z l i.0 i.1, scattered cs vs);
    }

    good : (r : ℕ) → Good (refitted P r)
    unfolding Falls refitted
    good r = go (rounds P r) (after_rounds P falls r)
      where
        go : (s : State) → Falls s → Good (past s)
        go (going cs ws) i = i.0
        go (done t cs ws) i = i

    good_falls : (ws : List ℕ) → Good ws → Falling ws × (length ws ≤ P.cols)
    unfolding Good
    good_falls [] g = (tt, omega arith)
    good_falls (w ∷ ws) g = (g.3, omega (arith, g.1, g.2))

    pub bounded : Bounded P
    bounded = record {
      counted = refits_counted P;
      falling = λ r. (good_falls _ (good r)).0;
      few_cols = few_cols;
      few_rounds = refits_few P;
      finishes = λ r h e. omega (arith, few_cols r, ran_out P r e);
    }
      where
        few_cols : (r : ℕ) → (fit P r).refits ≤ P.cols
        few_cols r = omega (arith, refits_counted P r, (good_falls _ (good r)).1)
