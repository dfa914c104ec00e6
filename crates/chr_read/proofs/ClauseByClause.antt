-- Clauses that are read one after another.
use Rattle.std.proofs.Common.{◌≡◌, ℕ, ◌+◌, List, ◌∷◌, Ok, Err, sym, ap, ◌∙◌}
use Rattle.chr_syntax.specs.Bytes.{pieces}
use Rattle.chr_syntax.proofs.Texts.{some_piece}
use Rattle.chr_read.specs.declared.fault.Fault.{Fault}
use Rattle.chr_read.specs.declared.fault.ReadFault.TheVariants.{Bad}
use Rattle.chr_read.specs.Meanings.{Progress}
use Rattle.chr_read.specs.working.TextsRead.{clause_read, in_clause, pieces_read, ◌>>=◌}

one_clause : (k : ℕ) (q : Progress) (c t : List ℕ) → pieces_read k q (c ∷ pieces t)
    ≡ (in_clause k (clause_read q c) >>= λ r. pieces_read (k + 1) r (pieces t))
one_clause k q c t =
    let s = some_piece t in
    ap (λ l. pieces_read k q (c ∷ l)) s.2 ∙ sym (ap (λ l. in_clause k (clause_read q c) >>= λ r. pieces_read
    (k + 1) r l) s.2)

pub good_clause : (k : ℕ) (q after : Progress) (c t : List ℕ) → clause_read q c ≡ Ok after
    → pieces_read k q (c ∷ pieces t) ≡ pieces_read (k + 1) after (pieces t)
good_clause k q after c t good = one_clause k q c t ∙ ap (λ r. in_clause k r >>= λ r. pieces_read (k + 1) r (pieces t))
    good

pub bad_clause : (k : ℕ) (n : Fault) (q : Progress) (c t : List ℕ) → clause_read q c ≡ Err n
    → pieces_read k q (c ∷ pieces t) ≡ Err (Bad n k)
bad_clause k n q c t bad = one_clause k q c t ∙ ap (λ r. in_clause k r >>= λ r. pieces_read (k + 1) r (pieces t)) bad
