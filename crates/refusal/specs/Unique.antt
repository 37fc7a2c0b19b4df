-- The number of a refusal and its column are the only ones, and so are those of an answer. Assumes nothing.
use Rattle.std.specs.Prelude.{◌≡◌, ℕ, Option, Result}
use Rattle.refusal.specs.Answers.{Answer, number, answer_number, column_of, answer_column}
use Rattle.refusal.specs.declared.Refusal.{Refusal}

pub number_unique : (w : Refusal) (r s : ℕ) → r ≡ number w → s ≡ number w → r ≡ s
number_unique w r s p q = cc

pub answer_number_unique : {A : Type 0} (a : Result A Refusal) (r s : ℕ) → r ≡ answer_number a → s ≡ answer_number a → r ≡ s
answer_number_unique a r s p q = cc

pub column_of_unique : (w : Refusal) (r s : Option ℕ) → r ≡ column_of w → s ≡ column_of w → r ≡ s
column_of_unique w r s p q = cc

pub answer_column_unique : (a : Answer) (r s : Option ℕ) → r ≡ answer_column a → s ≡ answer_column a → r ≡ s
answer_column_unique a r s p q = cc
