use Rattle.std.proofs.Common.{◌++◌, [], length, map, sym, ap, subst, ◌∙◌, arith, List, ℤ}
use Rattle.chr_confluence.specs.Sorts.{equal}
use Rattle.chr_sorting.specs.SortedCaseLists.{AreListsAt}
use Rattle.chr_sorting.specs.working.Blocks.{lists_behind}
use Rattle.chr_sorting.proofs.ListsThere.{equal_lists, more_blocks}
use Rattle.chr_sorting.proofs.lists.equal_lists.Goals as goal

pub returns-then-count-gt-MAX_CLASSES-clause-more : goal.returns-then-count-gt-MAX_CLASSES-clause-more
returns-then-count-gt-MAX_CLASSES-clause-more c =
    more_blocks c.args.limit c.args.count c.args.constants.now c.ranges.limit.fits c.if-count-gt-MAX_CLASSES.true
    c.requires.few c.requires.rise

pub returns-then-branch-clause-more : goal.returns-then-branch-clause-more
returns-then-branch-clause-more c =
    let cs = c.args.constants.now in
    let us = c.in_ok-numbers.numbers.items in
    let more = c.in_ok-add_lists.ensures.many c.if-branch.true in
    let none = ap length c.new-lists.ensures.items in
    let e = ap (λ (xs : List ℤ). length (lists_behind c.args.count cs xs [])) c.deref.ensures.value in (
      lists_behind c.args.count cs us [],
      equal_lists cs us c.args.count c.requires.rise c.in_ok-numbers.ensures.count
          c.in_ok-numbers.ensures.first,
      omega (arith, more, none, e),
    )

pub returns-clause-lists : goal.returns-clause-lists
returns-clause-lists c =
    let cs = c.args.constants.now in
    let us = c.in_ok-numbers.numbers.items in
    let is = c.in_ok-add_lists.ensures.lists c.if-branch.false
    ∙ ap (λ xs. map (λ l. l.items) xs ++ lists_behind c.args.count cs c.deref.result.now []) c.new-lists.ensures.items
    ∙ ap (λ (xs : List ℤ). lists_behind c.args.count cs xs []) c.deref.ensures.value in
    subst (AreListsAt equal cs c.args.count) (sym is) (equal_lists cs us c.args.count c.requires.rise
    c.in_ok-numbers.ensures.count c.in_ok-numbers.ensures.first)
