use Rattle.std.proofs.Common.{◌≡◌, ◌<◌, List, map, length, sym, ap, subst, ◌∙◌, arith}
use Rattle.std.specs.Prelude.{◌^◌}
use Rattle.std.proofs.lemmas.List.{with_items_is}
use Rattle.chr_base.specs.declared.rule.Rule.{Rule}
use Rattle.chr_base.specs.Rules.{Step}
use Rattle.chr_base.specs.Rewriting.{IsAtRest}
use Rattle.chr_plans.proofs.ActiveAtoms.{empty_rests}
use Rattle.chr_tables.specs.Contents.{rows_of, index_columns}
use Rattle.chr_columns.specs.declared.groups.Group.{Group}
use Rattle.chr_columns.specs.working.Making.{lists_of, columns_in}
use Rattle.chr_columns.specs.working.Resting.{ArePlanned, AreCovered, IsSetUp}
use Rattle.chr_columns.proofs.Emptiness.{none_stored, set_up_empty}
use Rattle.chr_columns.proofs.making.rested_for.Goals as goal

pub returns-clause-rested : goal.returns-clause-rested
returns-clause-rested c =
    let rules = c.in_ok-rules.rules.items in
    let gs = c.add_all_plans.new.groups in
    let ts = c.in_ok-tables.tables.tables.items in
    let old = c.in_ok-groups.groups in
    let many : length gs ≡ old.len = (let n = c.add_all_plans.auto.groups in let m = c.deref_mut.ensures.len in
    omega (arith, n, m)) in
    let same = with_items_is old gs many in
    let few : length gs < 2 ^ 31 = (let n = c.len-count.ensures in let l = c.if-count-ge-MAX_TABLES.false in
    omega (arith, n, l, many)) in
    record {
      set_up = subst (λ (x : List Group). IsSetUp rules x (rows_of ts) (index_columns ts) (length ts))
          (sym (c.in_ok-directory.ensures ∙ same))
          (set_up_empty rules gs ts c.add_all_plans.new.keys.items c.add_all_plans.ensures.tables few
          c.in_ok-tables.ensures.rows (c.in_ok-tables.ensures.keys ∙ ap (map lists_of) c.deref-3.ensures.value)
          (subst (λ (x : List Rule). ArePlanned x gs (columns_in c.add_all_plans.new.keys.items))
          c.deref-2.ensures.value c.in_ok-add_all_plans.ensures.planned)
          (subst (λ (x : List Rule). AreCovered x gs (length x)) c.deref-2.ensures.value
          c.in_ok-add_all_plans.ensures.covered));
      rests = subst (IsAtRest (Step rules)) (sym (none_stored ts c.in_ok-tables.ensures.rows)) (empty_rests rules);
    }

pub returns-clause-empty : goal.returns-clause-empty
returns-clause-empty c = none_stored _ c.in_ok-tables.ensures.rows
