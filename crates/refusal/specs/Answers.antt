-- The refusals by their numbers, the first that applies, and what a call leaves by its answer. Assumes nothing.
use Rattle.std.specs.Prelude.{Bool, cond, ℕ, ◌<◌, List, Float, Option, Some, None, Result, Ok, Err}
use Rattle.steps.specs.Loops.{Way, going, stopped}
use Rattle.refusal.specs.declared.Refusal.{Refusal}
use Rattle.refusal.specs.declared.Refusal.TheVariants.{ManyColumns, ManyRows, ManyRounds, MatrixLength, TargetLength, OutputLength, WorkspaceShort, NotSpd, SmallPivot, FewRows, Malformed, LowThreshold, NoSuchTerm}

-- what a public call answers that gives no value of its own
abbrev pub Answer : Type 0
Answer = Result (Unit {0}) Refusal

-- what a solver answers inside: done, or the column of its matrix at which it refused
abbrev pub Solved : Type 0
Solved = Result (Unit {0}) ℕ

-- the documents' numbers
abbrev pub number : Refusal → ℕ
number ManyColumns = 1
number ManyRows = 2
number ManyRounds = 3
number MatrixLength = 4
number TargetLength = 5
number OutputLength = 6
number WorkspaceShort = 7
number (NotSpd c) = 8
number (SmallPivot c) = 9
number FewRows = 10
number Malformed = 11
number LowThreshold = 12
number NoSuchTerm = 13

-- an answer by number, whatever value it gives: 0 where nothing is refused
abbrev pub answer_number : {A : Type 0} → Result A Refusal → ℕ
answer_number (Ok x) = 0
answer_number (Err w) = number w

-- the column that a refusal carries: 8 and 9 do
abbrev pub column_of : Refusal → Option ℕ
column_of ManyColumns = None
column_of ManyRows = None
column_of ManyRounds = None
column_of MatrixLength = None
column_of TargetLength = None
column_of OutputLength = None
column_of WorkspaceShort = None
column_of (NotSpd c) = Some c
column_of (SmallPivot c) = Some c
column_of FewRows = None
column_of Malformed = None
column_of LowThreshold = None
column_of NoSuchTerm = None

-- the column at which an answer says that a solver refused
abbrev pub answer_column : Answer → Option ℕ
answer_column (Ok done) = None
answer_column (Err w) = column_of w

-- refused where the test says so, else as the next ones say: a ladder of these gives the first that applies
abbrev pub refuse_if : Bool → Refusal → Answer → Answer
refuse_if t w next = cond t (Err w) next

-- what a call of these sizes leaves or answers: the new where they are accepted, else the old
abbrev pub if_done {ℓ} : {A : Type ℓ} → Answer → A → A → A
if_done (Ok done) new old = new
if_done (Err w) new old = old

-- accepted sizes leave the answer to the solve
abbrev pub and_then : Answer → Answer → Answer
and_then (Ok done) next = next
and_then (Err w) next = Err w

-- what a solver answers and leaves, as the end of its loop
abbrev pub told : {S : Type 0} → Solved → S → Way S
told (Ok done) s = going s
told (Err c) s = stopped c s

-- a solve that stopped is refused as w, at its column
abbrev pub ended : {S : Type 0} → (ℕ → Refusal) → Way S → Answer
ended w (going s) = Ok tt
ended w (stopped c s) = Err (w c)

-- what a solver answers inside, as the answer of a public call
abbrev pub answered : (ℕ → Refusal) → Solved → Answer
answered w (Ok done) = Ok tt
answered w (Err c) = Err (w c)

-- what a solve gives: the values of its columns, or the column at which it refused
pub data Solution : Type 0 where
  solved : List Float → Solution
  refused : ℕ → Solution

-- refused, if at all, at one of n columns
abbrev pub Within : ℕ → Solution → Type 0
Within n (solved x) = Unit {0}
Within n (refused c) = c < n

abbrev pub solution : Way (List Float) → Solution
solution (going x) = solved x
solution (stopped c x) = refused c
