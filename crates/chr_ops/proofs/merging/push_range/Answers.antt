use Rattle.std.proofs.Common.{rules, subst, ◌≡◌, [], ◌∷◌, ◌++◌}
use Rattle.chr_ops.specs.Summaries.{IsApart}
use Rattle.chr_ops.specs.working.Merging.{AllStartBy}
use Rattle.chr_ops.proofs.Merged.{hull, merged_first, merged_touching, merged_behind}
use Rattle.chr_ops.proofs.merging.push_range.Goals as goal
use Rattle.chr_ops.proofs.merging.push_range.Goals.{in-None, in-Some, in-Some-2+in_ok-push-in-Some-2}

pub returns : goal.returns
returns c = elim c.match-pop.branch [
  | in-None w ↦
      let old : c.args.merged.now.items ≡ [] = search rules in
      let new : c.push-2.new.self.items ≡ c.args.next ∷ [] = search rules in
      rw (old, new) (merged_first c.args.next c.requires.range)
  | in-Some w ↦
      let front = c.pop.new.self.items in
      let old : c.args.merged.now.items ≡ front ++ w.in-Some.last ∷ [] = search rules in
      let new : c.push-2.new.self.items ≡ front ++ hull w.in-Some.last c.args.next ∷ [] = search rules in
      let touches = (w.reaches.ensures).0 w.if-reaches.true in
      rw (old, new) (merged_touching front w.in-Some.last c.args.next (subst IsApart old c.requires.apart)
      (subst (λ rs. AllStartBy rs c.args.next) old c.requires.in_order) c.requires.range touches.0 touches.1)
  | in-Some-2+in_ok-push-in-Some-2 w ↦
      let front = c.pop.new.self.items in
      let old : c.args.merged.now.items ≡ front ++ w.in-Some.last ∷ [] = search rules in
      let new : c.push-2.new.self.items ≡ (front ++ w.in-Some.last ∷ []) ++ c.args.next ∷ [] = search rules in
      rw (old, new) (merged_behind front w.in-Some.last c.args.next (subst IsApart old c.requires.apart)
      (subst (λ rs. AllStartBy rs c.args.next) old c.requires.in_order) c.requires.range
      (search (rules, w.reaches.ensures)))
]
