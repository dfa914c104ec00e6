use Rattle.std.proofs.Common.{refl, sym, ap, ◌∙◌}
use Rattle.std.proofs.lemmas.Bool.{false≢true}
use Rattle.chr_base.specs.Atoms.{atom_cmp}
use Rattle.chr_base.specs.working.Subsequences.{is_subsequence}
use Rattle.chr_base.specs.FinBag.{count_in}
use Rattle.chr_base.proofs.Subsequences.{rises_without_subsequence, stands_just_where_counts, less_counts}
use Rattle.chr_base.proofs.Subsequences.{within_counts}
use Rattle.chr_base.proofs.lists.remove_in_order.Goals as goal

pub returns-then-not-is_subsequence-clause-there : goal.returns-then-not-is_subsequence-clause-there
returns-then-not-is_subsequence-clause-there c = (
  λ h. absurd (false≢true h),
  λ h. sym c.if-not-is_subsequence.true ∙ c.is_subsequence.ensures
      ∙ ap (λ xs. is_subsequence atom_cmp xs c.args.atoms.now) c.deref.ensures.value
      ∙ stands_just_where_counts c.args.items.now.items c.args.atoms.now c.requires.items c.requires.atoms h,
)

pub returns-clause-there : goal.returns-clause-there
returns-clause-there c = (
  λ _. within_counts c.args.items.now.items c.args.atoms.now
      (ap (λ xs. is_subsequence atom_cmp xs c.args.atoms.now) (sym c.deref.ensures.value) ∙ sym c.is_subsequence.ensures
      ∙ c.if-not-is_subsequence.false),
  λ _. refl,
)

pub returns-clause-taken : goal.returns-clause-taken
returns-clause-taken c = λ q. ap (count_in atom_cmp q) c.take_subsequence_out.ensures
    ∙ less_counts c.args.items.now.items c.args.atoms.now
    (ap (λ xs. is_subsequence atom_cmp xs c.args.atoms.now) (sym c.deref.ensures.value) ∙ sym c.is_subsequence.ensures
    ∙ c.if-not-is_subsequence.false) q

pub returns-clause-rising : goal.returns-clause-rising
returns-clause-rising c = rw c.take_subsequence_out.ensures
    (rises_without_subsequence c.args.items.now.items c.args.atoms.now c.requires.items)
