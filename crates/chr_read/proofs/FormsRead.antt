-- What is read as a clause, by the answer in the grammar's words.
use Rattle.std.specs.Prelude.{ℕ, List, Result, Ok, Err}
use Rattle.chr_syntax.specs.declared.clause.RawClause.{RawClause}
use Rattle.chr_syntax.specs.declared.fault.ClauseFault.{ClauseFault}
use Rattle.chr_syntax.specs.declared.fault.ClauseFault.TheVariants as clause
use Rattle.chr_syntax.specs.Outcomes.{IsClauseAnswer}
use Rattle.chr_syntax.specs.Views.{clause_view}
use Rattle.chr_syntax.proofs.Laws.{no_clause}
use Rattle.chr_syntax.proofs.Lexed.{clauses_read}
use Rattle.chr_read.specs.working.Outcomes.{IsReadClause}
use Rattle.chr_read.proofs.NamesText.{names_names}

-- an answer in the grammar's words, by what is read
pub answer_is : (r : Result RawClause ClauseFault) (bytes : List ℕ) → IsClauseAnswer r bytes → IsReadClause r bytes
answer_is (Ok c) bytes h = (h.0, clauses_read bytes (clause_view c) h.1, h.1.1, names_names (clause_view c) bytes h.1)
answer_is (Err clause.Memory) bytes h = tt
answer_is (Err clause.BadByte) bytes h = h
answer_is (Err clause.Syntax) bytes h = (h.0, no_clause bytes h.1)
