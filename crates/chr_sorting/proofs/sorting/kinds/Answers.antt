use Rattle.std.proofs.Common.{arith, ap, subst, sym, length, get_or}
use Rattle.std.proofs.lemmas.List.{length_push}
use Rattle.chr_sorting.specs.declared.kind.Kind.TheVariants.{Free}
use Rattle.chr_sorting.specs.FinestSorts.{kind_of, sort_in}
use Rattle.chr_sorting.specs.working.Notes.{IsLeastKind}
use Rattle.chr_sorting.proofs.Joining.{each_pushed}
use Rattle.chr_sorting.proofs.sorting.kinds.Goals as goal

pub loop-sort-preserved : goal.loop-sort-preserved
loop-sort-preserved c =
    let now = c.in_ok-push.ensures.items in
    record {
      len = (let e = ap length now in let m = length_push c.loop-sort.kinds.items c.least_kind.result in let k =
          c.loop-sort.invariant.len in omega (arith, e, m, k));
      each = λ n l. subst (λ ks. IsLeastKind c.args.notes.now (sort_in c.args.sorts.now) n (kind_of (get_or ks n Free)))
          (sym now)
          (each_pushed (λ m k. IsLeastKind c.args.notes.now (sort_in c.args.sorts.now) m (kind_of k))
          c.loop-sort.kinds.items c.least_kind.result Free c.loop-sort.sort c.loop-sort.invariant.len
          c.loop-sort.invariant.each c.least_kind.ensures n l);
    }
