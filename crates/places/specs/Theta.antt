-- The matrix of a theta, and its columns by reduced place. Assumes nothing.
use Rattle.steps.specs.Num.{Entry, cell}
use Rattle.places.specs.declared.Layout.TheVariants.{ByColumns}
use Rattle.places.specs.Stored.{stored}
use Rattle.places.specs.Columns.{listed}
use Rattle.places.specs.declared.Theta.{Theta}
use Rattle.places.specs.declared.Reduced.{Reduced}

-- the matrix that a theta holds
abbrev pub entries : Theta → Entry
entries theta = stored theta.layout theta.rows theta.cols theta.numbers.now

-- what it holds where it is stored by rows, and where it is by columns
abbrev pub by_rows : Theta → Entry
by_rows theta = cell theta.cols theta.numbers.now

abbrev pub by_columns : Theta → Entry
by_columns theta = stored ByColumns theta.rows theta.cols theta.numbers.now

-- its columns at the reduced places of a table
abbrev pub reduced : Reduced → Entry
reduced r = listed r.terms.now (entries r.theta)
