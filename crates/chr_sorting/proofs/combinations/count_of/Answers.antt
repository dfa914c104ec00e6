use Rattle.std.proofs.Common.{arith, ◌≡◌, ◌+◌, ◌∷◌, ◌++◌, [], get_or, take, ap, sym, ◌∙◌}
use Rattle.std.proofs.lemmas.List.{take_more}
use Rattle.chr_confluence.specs.SortLists.{sort_count}
use Rattle.chr_sorting.proofs.MoreCombinations.{counted_same, counted_other}
use Rattle.chr_sorting.proofs.combinations.count_of.Goals as goal
use Rattle.chr_sorting.proofs.combinations.count_of.Goals.{then-class-sort, else-class-sort}

pub loop-class-preserved : goal.loop-class-preserved
loop-class-preserved c =
    let ks = c.args.classes.now in
    let i = c.loop-class.class-index in
    let k = c.args.sort in
    let l = c.loop-class-test.true in
    let most = c.loop-class.invariant.most in
    let more : sort_count k (take (i + 1) ks) ≡ sort_count k (take i ks ++ get_or ks i 0 ∷ []) =
    ap (sort_count k) (take_more ks i 0 l) in
    elim c.if-class-sort.branch [
      | then-class-sort w ↦ record {
        count = w.count-is ∙ ap (λ n. n + 1) c.loop-class.invariant.count
            ∙ sym (counted_same (take i ks) (get_or ks i 0) k w.if-class-sort.true) ∙ sym more;
        most = (let e = w.count-is in omega (arith, e, most));
      }
      | else-class-sort w ↦ record {
        count = w.count-is ∙ c.loop-class.invariant.count
            ∙ sym (counted_other (take i ks) (get_or ks i 0) k w.if-class-sort.false) ∙ sym more;
        most = (let e = w.count-is in omega (arith, e, most));
      }
    ]
