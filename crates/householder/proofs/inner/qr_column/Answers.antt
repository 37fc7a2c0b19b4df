-- `qr_column` meets its contract: its three ways out are those of `column`.
use Rattle.householder.proofs.Column.{sums_none, skips, skips_push, reflects}
use Rattle.householder.proofs.inner.qr_column.Goals as goal

pub returns-then-norm : goal.returns-then-norm
returns-then-norm c =
    let args = c.args in
    skips args.m args.n args.j args.a.now c.cell-lead.ensures c.squares.ensures c.sqrt-norm.ensures.value c.if-norm.true

pub returns-then-q : goal.returns-then-q
returns-then-q c =
    let args = c.args in
    skips_push args.m args.n args.j args.a.now c.cell-lead.ensures c.squares.ensures c.sqrt-norm.ensures.value
    c.sign_of.ensures c.squares-q.ensures c.if-norm.false c.if-q.true

pub column_sums-requires : goal.column_sums-requires
column_sums-requires c = (c.requires, c.requires.cols, sums_none c.args.n c.args.j _ c.args.a.now c.requires.cols)

pub returns : goal.returns
returns c =
    let args = c.args in
    reflects args.m args.n args.j args.a.now c.cell-lead.ensures c.squares.ensures c.sqrt-norm.ensures.value
    c.sign_of.ensures c.squares-q.ensures c.if-norm.false c.if-q.false
    c.column_sums.new.w c.scale.new.w _ c.column_sums.ensures c.scale.ensures c.update.ensures
