use Rattle.std.proofs.Common.{◌++◌, ◌∷◌, [], sym, ap, ◌∙◌, arith}
use Rattle.std.proofs.lemmas.List.FromFn.{map-range_with_len_more}
use Rattle.chr_base.specs.declared.term.Term.TheVariants.{Variable}
use Rattle.chr_overlaps.specs.working.Tables.{class_in}
use Rattle.chr_overlaps.proofs.Tabled.{table_single, single_below}
use Rattle.chr_overlaps.proofs.classes.Classes.identity.Goals as goal

pub loop-variable-preserved : goal.loop-variable-preserved
loop-variable-preserved c = record {
  items = c.push.ensures.items ∙ ap (λ xs. xs ++ Variable c.loop-variable.variable ∷ []) c.loop-variable.invariant.items
      ∙ sym (map-range_with_len_more Variable 0 c.loop-variable.variable c.loop-variable.variable (omega arith));
  len = omega arith;
}

pub invariant_of-result : goal.invariant_of-result
invariant_of-result c = record {
  few = (let l = c.loop-variable.invariant.len in let e = c.loop-variable.auto.variable-end in omega arith);
  below = rw (c.loop-variable.invariant.len, c.loop-variable.invariant.items)
      (single_below c.loop-variable.variable 0 c.loop-variable.variable (omega arith));
}

pub returns-clause-classes : goal.returns-clause-classes
returns-clause-classes c = ap class_in c.loop-variable.invariant.items ∙ table_single c.loop-variable.variable
