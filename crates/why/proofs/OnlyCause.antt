-- No other cause is true than the one that is given. Assumes nothing.
use Rattle.std.specs.Prelude.{None, Some, ◌≡◌, ◌↔◌, ℕ, suc, length, Float}
use Rattle.std.proofs.Math.Path.{refl, sym, ap}
use Rattle.std.proofs.Common.{◌∙◌, subst}
use Rattle.std.proofs.Math.Bool.{true}
use Rattle.std.proofs.Math.Decide.{le_ind}
use Rattle.std.specs.Float.Ieee.{is_nan}
use Rattle.steps.specs.Num.{at}
use Rattle.support.specs.Word.{has}
use Rattle.rule.specs.Rule.{Problem, State, going, done, support, rounds, reported, finish, fit, past, refitted, coeffs_of}
use Rattle.rule.specs.Dropped.{before, drops, or_else, dropped}
use Rattle.rule.proofs.Course.{of_report}
use Rattle.rule.proofs.Stable.{refits_counted}
use Rattle.rule.specs.Endings.{Zeroed as LeavesZeros}
use Rattle.rule.proofs.Endings.{unzeroed, ends_with_zeros}
use Rattle.rule.specs.declared.Stop.{Stop}
use Rattle.rule.specs.declared.Stop.TheVariants as S
use Rattle.why.specs.declared.Cause.{Cause}
use Rattle.why.specs.declared.Cause.TheVariants.{NoData, FirstRefused, Kept, Dropped, Cleared, Zeroed, LeftNan}
use Rattle.why.specs.Cause.{by_value, undropped, caused, cause}
use Rattle.why.specs.Truth.{DroppedAt, LastAt, Truly}
use Rattle.why.specs.Sharp.{Sharp, clash, finds, not_in_zeros, cleared_out, cleared_number, kept_found}
use Rattle.why.specs.Seen.{Stayed}
use Rattle.why.proofs.Looks.{none_dropped, stayed}
use Rattle.why.proofs.TrueCause.{by_stop, true_cause}

module _ {P : Problem} {j : ℕ} (sharp : Sharp P j) (limit : ℕ) where
  -- before the last pass
  abbrev last_value : Float
  last_value = at (coeffs_of (rounds P limit)) j

  -- a fit whose stop leaves zeros is done
  stopped : {t : Stop} → (fit P limit).stop ≡ t → LeavesZeros t → rounds P limit ≡ done t (coeffs_of (rounds P limit)) (refitted P limit)
  unfolding fit finish reported refitted
  stopped {t} e z = go (rounds P limit) e
    where
      go : (s : State) → (finish P s).stop ≡ t → s ≡ done t (coeffs_of s) (past s)
      go (going cs ws) e = absurd (unzeroed _ _ _ (subst LeavesZeros (sym e) z))
      go (done u cs ws) e = ap (λ v. done v cs ws) e

  -- the cause of a term that no look dropped
  undropped_cause : {t : Stop} → dropped P j limit ≡ None → (fit P limit).stop ≡ t → cause P limit j ≡ undropped (P.keeps j) t (fit P limit).refits last_value
  unfolding cause caused
  undropped_cause {t} n e = rw (n, e)

  -- of one that stayed until a stop that leaves zeros
  stopped_cause : {t : Stop} → (fit P limit).stop ≡ t → LeavesZeros t → Stayed P j (done t (coeffs_of (rounds P limit)) (refitted P limit))
      → cause P limit j ≡ undropped (P.keeps j) t (fit P limit).refits last_value
  stopped_cause e z i = undropped_cause (stayed sharp limit (stopped e z) i) e

  -- of one that stayed until the rounds were used up
  last_cause : {c : Float} → LastAt P limit j c → cause P limit j ≡ by_value (P.keeps j) c
  unfolding undropped
  last_cause d =
      undropped_cause (stayed sharp limit d.over d.in_each) d.stop
      ∙ ap (by_value (P.keeps j)) (ap (λ s. at (coeffs_of s) j) d.over ∙ sym d.value)

  -- of one that is kept
  kept_only : has (fit P limit).kept j ≡ true → cause P limit j ≡ Kept
  unfolding by_value reported
  kept_only h = undropped_cause (none_dropped sharp limit (λ k c d. clash in_last d.2)) refl ∙ by_stop _ _ _ _ left ∙ rw (sym (finds sharp _) ∙ in_last)
    where
      in_last : has (support P (coeffs_of (rounds P limit))) j ≡ true
      in_last = sym (kept_found sharp limit) ∙ h

      left : LeavesZeros (fit P limit).stop → ⊥
      left z = clash h
          (ap (λ (w : ℕ). has w j) (of_report P (λ f. f.kept ≡ support P f.coeffs) (λ t cs ws. refl) limit ∙ ap (support P) (ends_with_zeros P limit z))
          ∙ not_in_zeros sharp)

  -- a look that dropped it is the first that did
  dropped_first : {r : ℕ} {c : Float} → DroppedAt P limit j r c → dropped P j limit ≡ Some (before r c)
  unfolding dropped or_else drops
  dropped_first {r} {c} d = le_ind (λ (m : ℕ). dropped P j m ≡ Some (before r c)) first (λ m l i. rw i) limit d.in_limit
    where
      first : dropped P j (suc (length d.before)) ≡ Some (before r c)
      first = rw (stayed sharp (length d.before) d.looks d.in_each_before, d.looks, d.unfound, d.number, d.saw)

  -- so that is the cause
  dropped_only : {r : ℕ} {c : Float} → DroppedAt P limit j r c → cause P limit j ≡ Dropped r c
  unfolding cause caused
  dropped_only d = rw (dropped_first d)

  -- whatever cause is true, it is the one given
  pub only_cause : (c : Cause) → Truly P limit j c → c ≡ cause P limit j
  unfolding undropped by_value is_nan
  only_cause NoData e = sym (stopped_cause e tt tt)
  only_cause FirstRefused d = sym (stopped_cause d.stop tt tt)
  only_cause Kept h = sym (kept_only h)
  only_cause (Dropped r c) d = sym (dropped_only d)
  only_cause (Cleared r) d = ap Cleared (d.number ∙ sym (refits_counted P limit)) ∙ sym (stopped_cause d.stop tt d.in_each)
  only_cause (Zeroed c) d = sym (last_cause d.0 ∙ rw (cleared_out sharp c d.1, cleared_number sharp c d.1))
  only_cause LeftNan d = sym (last_cause d ∙ rw sharp.nan_out)

  -- kept is the cause exactly if the kept word has the term
  pub kept_cause : (cause P limit j ≡ Kept) ↔ (has (fit P limit).kept j ≡ true)
  kept_cause = (λ e. subst (Truly P limit j) e (true_cause sharp limit), kept_only)
