use Rattle.std.proofs.Common.{sym, subst, List, ℕ, ◌++◌, ◌∷◌, []}
use Rattle.chr_sorting.specs.declared.notes.Note.TheVariants.{Joined}
use Rattle.chr_sorting.specs.working.Notes.{Joins}
use Rattle.chr_sorting.proofs.Joining.{pair_in_order}
use Rattle.chr_sorting.proofs.join.with_pair.Goals as goal

pub returns-clause-joins : goal.returns-clause-joins
returns-clause-joins c = λ notes j.
    subst (λ (ts : List ℕ). Joins (notes ++ Joined c.args.one c.args.other ∷ []) ts) (sym c.in_ok-all.ensures)
    (pair_in_order notes c.args.sorts.now c.args.one c.args.other c.min.result c.max.result j c.requires.one
    c.requires.other c.min.ensures c.max.ensures)
