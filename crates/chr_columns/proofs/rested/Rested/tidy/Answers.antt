use Rattle.std.proofs.Common.{sym, subst}
use Rattle.chr_base.specs.Rules.{Step}
use Rattle.chr_base.specs.Rewriting.{IsAtRest}
use Rattle.chr_columns.proofs.Tidying.{stored_tidy, set_up_tidy}
use Rattle.chr_columns.proofs.rested.Rested.tidy.Goals as goal

pub returns-then-is_half_dead-clause-stored : goal.returns-then-is_half_dead-clause-stored
returns-then-is_half_dead-clause-stored c =
    stored_tidy c.args.self.now.tables.tables.items c.args.table c.index_mut.result.now c.compact.new.self
    c.requires.within c.index_mut.ensures.value c.compact.ensures.rows c.compact.ensures.keys

pub returns-then-is_half_dead-clause-rested : goal.returns-then-is_half_dead-clause-rested
returns-then-is_half_dead-clause-rested c =
    let rules = c.args.self.now.rules.items in
    let same = stored_tidy c.args.self.now.tables.tables.items c.args.table c.index_mut.result.now c.compact.new.self
    c.requires.within c.index_mut.ensures.value c.compact.ensures.rows c.compact.ensures.keys in
    record {
      set_up = set_up_tidy c.args.self.now.tables.tables.items c.args.table c.index_mut.result.now c.compact.new.self
          c.requires.within c.index_mut.ensures.value c.compact.ensures.rows c.compact.ensures.keys
          rules c.args.self.now.directory.groups.items c.requires.rested.set_up;
      rests = subst (IsAtRest (Step rules)) (sym same) c.requires.rested.rests;
    }
