use Rattle.std.proofs.Common.{◌≡◌, length}
use Rattle.chr_base.specs.Rules.{heads_of}
use Rattle.chr_confluence.specs.working.Solving.{solve}
use Rattle.chr_overlaps.specs.working.Tables.{class_in}
use Rattle.chr_overlaps.proofs.Solutions.{rest_of}
use Rattle.chr_overlaps.proofs.unify.join_heads.Given as goal

abbrev pub invariant-loop-place : goal.invariant-loop-place
invariant-loop-place l = record {
  same : solve (class_in l.classes.terms.items) (rest_of l.shift (heads_of l.second) l.matching
      (heads_of l.first) l.place)
      ≡ solve (class_in l.initial.classes.terms.items)
      (rest_of l.shift (heads_of l.second) l.matching (heads_of l.first) 0);
  len : length l.classes.terms.items ≡ length l.initial.classes.terms.items;
}
