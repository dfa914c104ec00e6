use Rattle.std.proofs.Common.{◌≡◌, Ok, Err, sym, ap, ◌∙◌, arith, rules}
use Rattle.chr_read.specs.declared.fault.ReadFault.TheVariants.{Bad}
use Rattle.chr_read.specs.working.TextsRead.{clause_read, pieces_read}
use Rattle.chr_read.specs.working.Views.{progress_of}
use Rattle.chr_read.proofs.ClauseByClause.{good_clause, bad_clause}
use Rattle.chr_read.proofs.reader.read_clauses.Goals as goal

pub returns-in-Err-Bad : goal.returns-in-Err-Bad
returns-in-Err-Bad c =
    let q = progress_of c.loop-clause.reader in
    let bad : clause_read q c.in-Some.clause.now ≡ Err c.in-Err-Bad.fault = search rules in
    sym c.loop-clause.invariant.read ∙ ap (pieces_read c.loop-clause.number q) c.in-Some.ensures.some
    ∙ bad_clause c.loop-clause.number c.in-Err-Bad.fault q c.in-Some.clause.now c.in-Some.after.now bad
    ∙ ap (λ n. Err (Bad n c.loop-clause.number)) (sym c.in-Err-Bad.fault-is)

pub loop-clause-preserved : goal.loop-clause-preserved
loop-clause-preserved c =
    let q = progress_of c.loop-clause.reader in
    let good : clause_read q c.in-Some.clause.now ≡ Ok (progress_of c.read_clause.new.reader) = search rules in
    record {
      counted = omega (arith, c.in-Some.ensures.shorter);
      read = sym (good_clause c.loop-clause.number q (progress_of c.read_clause.new.reader) c.in-Some.clause.now
          c.in-Some.after.now good)
          ∙ sym (ap (pieces_read c.loop-clause.number q) c.in-Some.ensures.some) ∙ c.loop-clause.invariant.read;
    }
