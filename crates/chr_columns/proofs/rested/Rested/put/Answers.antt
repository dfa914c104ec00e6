use Rattle.std.proofs.Common.{◌≡◌, length, sym, ap, subst, ◌∙◌, arith}
use Rattle.std.specs.Prelude.{List}
use Rattle.chr_base.specs.Rules.{Step}
use Rattle.chr_base.specs.Rewriting.{IsAtRest}
use Rattle.chr_tables.specs.Contents.{Contents, rows_of, index_columns}
use Rattle.chr_base.specs.FinBag.{◌⊕◌}
use Rattle.chr_plans.specs.Actives.{one}
use Rattle.chr_plans.specs.Grids.{contents}
use Rattle.chr_plans.proofs.ActiveAtoms.{absorbed}
use Rattle.chr_columns.specs.working.Groups.{table_of_atom}
use Rattle.chr_columns.specs.working.Resting.{grid, IsSetUp}
use Rattle.chr_tables.proofs.Choices.{on_err}
use Rattle.chr_columns.proofs.Putting.{has_table, stored_put, set_up_put, set_same}
use Rattle.chr_columns.proofs.rested.Rested.put.Goals as goal

pub tidy-requires-clause-within : goal.tidy-requires-clause-within
tidy-requires-clause-within c =
    let t : c.args.table ≡ table_of_atom c.args.self.now.directory.groups.items c.args.atom.now =
    c.requires.table in
    let w = has_table _ _ _ c.args.atom.now c.requires.rested.set_up in
    omega (arith, t, w)

pub index_mut-requires : goal.index_mut-requires
index_mut-requires c =
    let t : c.args.table ≡ table_of_atom c.tidy.new.self.directory.groups.items c.args.atom.now =
    c.requires.table ∙ ap (λ d. table_of_atom d.groups.items c.args.atom.now) (sym c.tidy.ensures.directory) in
    let w = has_table _ _ _ c.args.atom.now c.tidy.ensures.rested.set_up in
    omega (arith, t, w, c.tidy.new.self.tables.tables.ok.0)

pub returns-in_err-insert-clause-rested : goal.returns-in_err-insert-clause-rested
returns-in_err-insert-clause-rested c =
    let t : c.args.table ≡ table_of_atom c.tidy.new.self.directory.groups.items c.args.atom.now =
    c.requires.table ∙ ap (λ d. table_of_atom d.groups.items c.args.atom.now) (sym c.tidy.ensures.directory) in
    let w = has_table _ _ _ c.args.atom.now c.tidy.ensures.rested.set_up in
    let same = set_same c.tidy.new.self.tables.tables.items c.args.table c.index_mut.result.now
    c.insert.new.self (omega (arith, t, w)) c.index_mut.ensures.value c.in_err-insert.ensures.err
    c.insert.ensures.keys c.insert.ensures.orders in
    record {
      set_up = subst (λ (ts : List Contents). IsSetUp c.tidy.new.self.rules.items c.tidy.new.self.directory.groups.items
          (rows_of ts) (index_columns ts) (length ts)) (sym same) c.tidy.ensures.rested.set_up;
      rests = subst (λ (ts : List Contents). IsAtRest (Step c.tidy.new.self.rules.items) (contents (grid ts)))
          (sym same) c.tidy.ensures.rested.rests;
    }

pub returns-in_err-insert-clause-err : goal.returns-in_err-insert-clause-err
returns-in_err-insert-clause-err c =
    let t : c.args.table ≡ table_of_atom c.tidy.new.self.directory.groups.items c.args.atom.now =
    c.requires.table ∙ ap (λ d. table_of_atom d.groups.items c.args.atom.now) (sym c.tidy.ensures.directory) in
    let w = has_table _ _ _ c.args.atom.now c.tidy.ensures.rested.set_up in
    on_err _ c.from_residual.result
    (ap (λ (ts : List Contents). contents (grid ts)) (set_same c.tidy.new.self.tables.tables.items
    c.args.table c.index_mut.result.now c.insert.new.self (omega (arith, t, w)) c.index_mut.ensures.value
    c.in_err-insert.ensures.err c.insert.ensures.keys c.insert.ensures.orders)
    ∙ c.tidy.ensures.stored)

pub returns-clause-ok : goal.returns-clause-ok
returns-clause-ok c =
    let t : c.args.table ≡ table_of_atom c.tidy.new.self.directory.groups.items c.args.atom.now =
    c.requires.table ∙ ap (λ d. table_of_atom d.groups.items c.args.atom.now) (sym c.tidy.ensures.directory) in
    let w = has_table _ _ _ c.args.atom.now c.tidy.ensures.rested.set_up in
    stored_put c.tidy.new.self.tables.tables.items c.args.table c.index_mut.result.now c.insert.new.self
    c.args.atom.now (omega (arith, t, w)) c.index_mut.ensures.value c.in_ok-insert.ensures.ok c.insert.ensures.keys
    ∙ ap (λ s. s ⊕ one c.args.atom.now) c.tidy.ensures.stored

pub returns-clause-rested : goal.returns-clause-rested
returns-clause-rested c =
    let t : c.args.table ≡ table_of_atom c.tidy.new.self.directory.groups.items c.args.atom.now =
    c.requires.table ∙ ap (λ d. table_of_atom d.groups.items c.args.atom.now) (sym c.tidy.ensures.directory) in
    let w = has_table _ _ _ c.args.atom.now c.tidy.ensures.rested.set_up in
    let more = stored_put c.tidy.new.self.tables.tables.items c.args.table c.index_mut.result.now
    c.insert.new.self c.args.atom.now (omega (arith, t, w)) c.index_mut.ensures.value c.in_ok-insert.ensures.ok
    c.insert.ensures.keys in
    record {
      set_up = set_up_put c.tidy.new.self.tables.tables.items c.args.table c.index_mut.result.now
          c.insert.new.self c.args.atom.now (omega (arith, t, w)) c.index_mut.ensures.value c.in_ok-insert.ensures.ok
          c.insert.ensures.keys
          c.tidy.new.self.rules.items c.tidy.new.self.directory.groups.items t c.tidy.ensures.rested.set_up;
      rests = subst (IsAtRest (Step c.tidy.new.self.rules.items)) (sym more)
          (absorbed c.tidy.new.self.rules.items _ c.args.atom.now c.tidy.ensures.rested.rests
          (rw (c.tidy.ensures.rules, c.tidy.ensures.stored) c.requires.none));
    }
