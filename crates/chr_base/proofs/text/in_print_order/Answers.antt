use Rattle.std.proofs.Common.{ap, ◌∙◌, rules}
use Rattle.std.specs.Prelude.{◌++◌}
use Rattle.std.specs.Ordering.{is_lt}
use Rattle.std.proofs.lemmas.List.MinMax.{ranks_by}
use Rattle.std.proofs.lemmas.Fn.{always_returns_same}
use Rattle.chr_base.specs.Programs.{declarations}
use Rattle.chr_base.specs.Texts.{print_cmp}
use Rattle.chr_base.specs.FinBag as bag
use Rattle.chr_base.proofs.Printing.{print_total, print_exact}
use Rattle.chr_base.proofs.Ordered.{in_order}
use Rattle.chr_base.proofs.text.in_print_order.Goals as goal

pub returns : goal.returns
returns c =
    let ds = declarations c.args.program.now in
    in_order (print_total ds) (print_exact ds) _ _ c.sort_unstable_by.ensures.permutation
    (c.sort_unstable_by.ensures.sorted (λ x y. is_lt (print_cmp ds x y)) (ranks_by (print_total ds) (λ x. x))
    (always_returns_same _ _ _ (λ a r f' h. search rules)))
    ∙ ap (λ xs. bag.items (bag.of_list {R = print_cmp ds} xs))
    (c.in_ok-push_copies.ensures.ok ∙ (λ i. c.new-atoms.ensures.items i ++ c.atoms.ensures i))
