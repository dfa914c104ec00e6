use Rattle.std.proofs.Common.{◌≡◌, map, sym, subst}
use Rattle.std.specs.Prelude.{OnOk}
use Rattle.chr_syntax.specs.declared.clause.RawClause.{RawClause}
use Rattle.chr_syntax.specs.Views.{symbol_view, clause_view}
use Rattle.chr_read.specs.Reading.{with_form}
use Rattle.chr_read.specs.working.Views.{progress_of}
use Rattle.chr_read.proofs.FaultLess.{declare_faultless}
use Rattle.chr_read.proofs.adding.add_clause.Goals as goal

pub add_symbols-requires : goal.add_symbols-requires
add_symbols-requires c = record {
  can = rw c.deref.ensures.value (declare_faultless (progress_of c.args.reader.now)
      (map symbol_view c.in-Declare.symbols.items) (rw c.in-Declare.is at c.requires.none));
  words = rw c.deref.ensures.value (rw c.in-Declare.is at c.requires.names);
}

pub returns-in-Weight : goal.returns-in-Weight
returns-in-Weight c =
    let P : RawClause → Type 0 = λ clause. OnOk c.add_weight.result
    (progress_of c.add_weight.new.reader ≡ with_form (progress_of c.args.reader.now) (clause_view clause)) in
    subst P (sym c.in-Weight.is) c.add_weight.ensures
