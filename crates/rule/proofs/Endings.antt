-- How a fit ends: a refused solve with zeros, no NaN but out of rounds, the kept word's rule. Once over the problem.
use Rattle.std.specs.Prelude.{◌≡◌, ◌≢◌, ◌⊎◌, Bool, false, cond, ◌&&◌, eqb, ltb, length, Float}
use Rattle.std.proofs.Math.Path.{refl, sym, ap}
use Rattle.std.proofs.Common.{◌∙◌, subst, lt-ltb, le-ltb}
use Rattle.std.proofs.Math.Logic.{⊎_elim}
use mathlib.Core.List.{List, [], ◌∷◌}
use Prim.Native.Nat.{ℕ, ◌^◌, ◌<◌}
use Rattle.std.proofs.Math.ListN.{get_or-replicate}
use Rattle.std.specs.Float.Ieee.{nan, of_bits}
use Rattle.std.specs.Float.{inf, fin}
use Rattle.steps.specs.Num.{+zero, at}
use Rattle.steps.specs.Cond.{either, lt_or_ge}
use Rattle.steps.specs.Table.{get_or_tab, tab_cong, tab_replicate}
use Rattle.support.specs.Word.{has, place}
use Rattle.support.specs.WordLaws.{word_lt, has_word, has_beyond}
use Rattle.rule.specs.declared.Stop.{Stop}
use Rattle.rule.specs.declared.Stop.TheVariants.{NoData, FirstRefused, Empty, RefitRefused, Settled, OutOfRounds}
use Rattle.rule.specs.Rule.{Problem, State, going, done, latest, zeros, support, scatter, refit, first, pruned, reported, last_look, last_stop, fit}
use Rattle.rule.specs.Course.{Course}
use Rattle.rule.specs.LastLook.{LastSettles}
use Rattle.rule.specs.Endings.{Zeroed, Refitted, Closed}
use Rattle.rule.proofs.Course.{of_report, of_fit}
use Rattle.rule.proofs.LastLook.{last_settles}

-- the last look gives none of them
pub unzeroed : (refits last w : ℕ) → Zeroed (last_look refits last w) → ⊥
unfolding last_look
unzeroed refits last w = either (λ t. Zeroed t → ⊥) (eqb refits 0) _ _ (λ e z. z) (λ e. either (λ t. Zeroed t → ⊥) (eqb w last) _ _ (λ q z. z) (λ q z. z))

+zero≢nan : +zero ≢ nan
unfolding of_bits
+zero≢nan e = subst number e tt
  where
    number : Float → Type 0
    number nan = ⊥
    number (inf s) = Unit {0}
    number (fin s m x) = Unit {0}

module _ (P : Problem) where
  -- while a fit goes on: its coefficients are those of the last refit, if there was one
  FromLast : List Float → List ℕ → Type 0
  FromLast cs [] = Unit {0}
  FromLast cs (w ∷ ws) = Refitted P cs w

  -- once it is done, by its stop
  Ending : Stop → List Float → List ℕ → Type 0
  Ending NoData cs ws = cs ≡ zeros P.cols
  Ending (FirstRefused t) cs ws = cs ≡ zeros P.cols
  Ending Empty cs ws = cs ≡ zeros P.cols
  Ending (RefitRefused t) cs ws = cs ≡ zeros P.cols
  Ending Settled cs ws = Closed P cs ws
  Ending OutOfRounds cs ws = ⊥

  -- so after each round
  Sound : State → Type 0
  Sound (going cs ws) = FromLast cs ws
  Sound (done t cs ws) = Ending t cs ws

  -- a look that finds the last refitted support finds one that was refitted: it has some term
  settles : (cs : List Float) (ws : List ℕ) → support P cs ≢ 0 → support P cs ≡ latest ws → FromLast cs ws → Closed P cs ws
  unfolding FromLast
  settles cs [] z e p = absurd (z e)
  settles cs (w ∷ ws) z e p = record { refitted = p; same = e }

  -- and so does a last look that settles
  settles_last : (cs : List Float) (ws : List ℕ) → LastSettles (length ws) (latest ws) (support P cs) → FromLast cs ws → Closed P cs ws
  unfolding FromLast
  settles_last cs [] s p = absurd (s.some refl)
  settles_last cs (w ∷ ws) s p = record { refitted = p; same = s.same }

  sound : Course P (λ r. Sound)
  unfolding Sound Ending FromLast first refit
  sound = record {
    nothing = λ e. refl;
    refused_first = λ e c q. refl;
    begins = λ e vs q. tt;
    rests = λ r t cs ws i. i;
    empties = λ r cs ws i. refl;
    settles = λ r cs ws i z e. settles cs ws z e i;
    refused_later = λ r cs ws i z l c q. refl;
    refits = λ r cs ws i z l vs q. record { values = vs; answer = q; placed = refl };
  }

  -- the last pass leaves zeros as they are
  pruned_zeros : pruned P (zeros P.cols) ≡ zeros P.cols
  unfolding pruned
  pruned_zeros =
      tab_cong P.cols _ (λ j. +zero) (λ j h. either (λ x. x ≡ +zero) (P.clears j (at (zeros P.cols) j)) +zero _ (λ t. refl) (λ t. get_or-replicate P.cols j +zero nan h))
      ∙ tab_replicate P.cols +zero

  -- a refused solve ends the fit with zeros, and so do no data and an empty support
  pub ends_with_zeros : (r : ℕ) → Zeroed (fit P r).stop → (fit P r).coeffs ≡ zeros P.cols
  unfolding reported Sound Ending
  ends_with_zeros r = of_fit P sound (λ f. Zeroed f.stop → f.coeffs ≡ zeros P.cols) r (λ cs ws i z. absurd (unzeroed _ _ _ z)) over
    where
      over : (t : Stop) (cs : List Float) (ws : List ℕ) → Ending t cs ws → Zeroed t → pruned P cs ≡ zeros P.cols
      over NoData cs ws i z = ap (pruned P) i ∙ pruned_zeros
      over (FirstRefused t) cs ws i z = ap (pruned P) i ∙ pruned_zeros
      over Empty cs ws i z = ap (pruned P) i ∙ pruned_zeros
      over (RefitRefused t) cs ws i z = ap (pruned P) i ∙ pruned_zeros
      over Settled cs ws i z = absurd z
      over OutOfRounds cs ws i z = absurd z

  -- settled coefficients hold no NaN at a term where no look keeps one
  closed_number : (j : ℕ) → P.keeps j nan ≡ false → (cs : List Float) (ws : List ℕ) → Closed P cs ws → j < P.cols → at cs j ≢ nan
  unfolding scatter support
  closed_number j h cs ws c l e = +zero≢nan (sym zero_there ∙ e)
    where
      w : ℕ
      w = latest ws

      out : has w j ≡ false
      out = ap (λ (v : ℕ). has v j) (sym c.same) ∙ has_word _ P.cols j l ∙ ap (P.keeps j) e ∙ h

      zero_there : at cs j ≡ +zero
      zero_there =
          ap (λ (x : List Float). at x j) c.refitted.placed ∙ get_or_tab P.cols _ j nan l
          ∙ ap (λ (b : Bool). cond b (at c.refitted.values (place w j)) +zero) out

  -- only OutOfRounds can leave a NaN at such a term
  pub no_nan : (j : ℕ) → P.keeps j nan ≡ false → (r : ℕ) → (fit P r).stop ≢ OutOfRounds → j < P.cols → at (fit P r).coeffs j ≢ nan
  unfolding reported Sound Ending pruned
  no_nan j h r k l = of_fit P sound (λ f. f.stop ≢ OutOfRounds → at f.coeffs j ≢ nan) r out (λ t cs ws i n. over t cs ws i) k
    where
      from : (cs : List Float) → at cs j ≢ nan → at (pruned P cs) j ≢ nan
      from cs n e = either (λ x. x ≢ nan) (P.clears j (at cs j)) +zero (at cs j) (λ t. +zero≢nan) (λ t. n) (sym (get_or_tab P.cols _ j nan l) ∙ e)

      zeroed : (cs : List Float) → cs ≡ zeros P.cols → at (pruned P cs) j ≢ nan
      zeroed cs i = from cs (λ e. +zero≢nan (sym (ap (λ (x : List Float). at x j) i ∙ get_or-replicate P.cols j +zero nan l) ∙ e))

      out : (cs : List Float) (ws : List ℕ) → FromLast cs ws → last_stop P cs ws ≢ OutOfRounds → at (pruned P cs) j ≢ nan
      out cs ws i n = from cs (closed_number j h cs ws (settles_last cs ws (last_settles _ _ _ n) i) l)

      over : (t : Stop) (cs : List Float) (ws : List ℕ) → Ending t cs ws → at (pruned P cs) j ≢ nan
      over NoData cs ws i = zeroed cs i
      over (FirstRefused t) cs ws i = zeroed cs i
      over Empty cs ws i = zeroed cs i
      over (RefitRefused t) cs ws i = zeroed cs i
      over Settled cs ws i = from cs (closed_number j h cs ws i l)
      over OutOfRounds cs ws i = absurd i

  -- ---- the kept word

  -- it is the support that a look finds in the final coefficients
  pub kept_is : (r : ℕ) → (fit P r).kept ≡ support P (fit P r).coeffs
  unfolding reported
  kept_is r = of_report P (λ f. f.kept ≡ support P f.coeffs) (λ t cs ws. refl) r

  -- it is of the problem's terms
  pub kept_lt : (r : ℕ) → (fit P r).kept < 2 ^ P.cols
  unfolding reported support
  kept_lt r = of_report P (λ f. f.kept < 2 ^ P.cols) (λ t cs ws. word_lt _ P.cols) r

  -- its bit j is one exactly if j is below the column count and a look keeps the final c(j)
  pub kept_rule : (r j : ℕ) → has (fit P r).kept j ≡ (ltb j P.cols && P.keeps j (at (fit P r).coeffs j))
  unfolding reported support
  kept_rule r j = of_report P (λ f. has f.kept j ≡ (ltb j P.cols && P.keeps j (at f.coeffs j))) (λ t cs ws. rule (pruned P cs)) r
    where
      rule : (cs : List Float) → has (support P cs) j ≡ (ltb j P.cols && P.keeps j (at cs j))
      rule cs = ⊎_elim
          (λ h. has_word _ P.cols j h ∙ sym (ap (λ (t : Bool). t && P.keeps j (at cs j)) (lt-ltb j P.cols h)))
          (λ h. has_beyond _ P.cols j (word_lt _ P.cols) h ∙ sym (ap (λ (t : Bool). t && P.keeps j (at cs j)) (le-ltb j P.cols h)))
          (lt_or_ge j P.cols)
