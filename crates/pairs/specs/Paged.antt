-- What adding a page of rows to the pair sums leaves. Assumes nothing.
use Rattle.std.specs.Prelude.{List, ℕ, Float}
use Rattle.steps.specs.Num.{Entry}
use Rattle.pairs.specs.Grown.{with_rows, Grew}
use Rattle.pairs.specs.declared.page.Page.{Page}

-- the entries of s, and the products of the page's rows
abbrev pub with_page : Page → List Float → Entry
with_page page = with_rows page.numbers.now page.cols page.rows

-- the sums of a rectangle took the page's rows
abbrev pub GrewBy : Page → ℕ → ℕ → ℕ → ℕ → List Float → List Float → Type 0
GrewBy page = Grew page.numbers.now page.cols page.rows
