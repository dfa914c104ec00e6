use Rattle.std.proofs.Common.{◌≡◌, ◌+◌, ◌||◌, nat_lt, length, map, true, false, refl, rules}
use Rattle.std.proofs.lemmas.List.{length-map}
use Rattle.std.specs.List.{list_any}
use Rattle.chr_base.specs.declared.limits.TheConstants.{MAX_SYMBOLS}
use Rattle.chr_syntax.specs.Views.{symbol_view}
use Rattle.chr_read.specs.Faults.{symbol_over}
use Rattle.chr_read.specs.working.RuleParts.{declared_twice}
use Rattle.chr_read.specs.working.Views.{progress_of}
use Rattle.chr_read.proofs.FaultLess.{declare_faults}
use Rattle.chr_read.proofs.faults.declare_fault.Goals as goal

pub returns-then-has_no_room : goal.returns-then-has_no_room
returns-then-has_no_room c =
    let q = progress_of c.args.reader.now in
    let ss = map symbol_view c.args.symbols.now in
    let long = length-map c.args.symbols.now symbol_view in
    let a : declared_twice q.meaning.declarations ss ≡ false = search rules in
    let b : (nat_lt MAX_SYMBOLS (length q.meaning.declarations + length ss) || list_any symbol_over ss) ≡ true =
    search rules in
    declare_faults q ss false true a b

pub returns : goal.returns
returns c =
    let q = progress_of c.args.reader.now in
    let ss = map symbol_view c.args.symbols.now in
    let long = length-map c.args.symbols.now symbol_view in
    let a : declared_twice q.meaning.declarations ss ≡ false = search rules in
    let b : (nat_lt MAX_SYMBOLS (length q.meaning.declarations + length ss) || list_any symbol_over ss) ≡ false =
    search rules in
    declare_faults q ss false false a b

pub returns-then-branch : goal.returns-then-branch
returns-then-branch c =
    let q = progress_of c.args.reader.now in
    let ss = map symbol_view c.args.symbols.now in
    let a : declared_twice q.meaning.declarations ss ≡ true = search rules in
    declare_faults q ss true _ a refl
