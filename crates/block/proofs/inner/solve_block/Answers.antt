-- `solve_block` meets its contract: the table's terms are the support's.
use Rattle.std.proofs.Common.{◌≡◌, ◌≤◌, length, take, ◌∙◌, take_at, arith}
use Rattle.std.specs.Int.Count.{ones}
use Rattle.places.specs.ColumnLaws.{lists_head, length_head, names_head}
use Rattle.sums.specs.Inner.{damps}
use Rattle.block.proofs.Chosen.{block_listed, side_listed}
use Rattle.block.proofs.inner.solve_block.Goals as goal

pub invariant_of-listed : goal.invariant_of-listed
invariant_of-listed c =
    record {
      whole = c.split_at_mut-kept.ensures.front_len;
      names = names_head _ _ _ c.list_terms.ensures _ c.requires.0 c.requires.1 c.requires.2 (omega (arith, c.list_terms.auto.terms, c.requires.0));
    }

pub returns : goal.returns
returns c =
    let a = c.args in
    let n = a.n_cols in
    let w = a.support.0 in
    let k = length a.b.now in
    let table = c.list_terms.new.terms in
    let wide : n ≤ length table = omega (arith, c.list_terms.auto.terms, c.requires.0) in
    let count : length (take k table) ≡ ones w = length_head n w table c.list_terms.ensures k c.requires.1 c.requires.2 wide in
    let lists = lists_head n w table c.list_terms.ensures k c.requires.2 in
    let names = rw count at (names_head n w table c.list_terms.ensures k c.requires.0 c.requires.1 c.requires.2 wide) in
    let head = c.split_at_mut-kept.ensures.front in
    record {
      values = rw (c.take_side.ensures, count, block_listed n w lists names _ a.ws.now head (damps a.damping), side_listed n w lists names _ a.ws.now head) at c.solve_listed.ensures;
      kept = take_at _ _ _ c.split_at_mut-kept.ensures.front_len ∙ head;
    }
