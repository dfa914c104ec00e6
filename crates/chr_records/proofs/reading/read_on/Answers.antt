use Rattle.std.proofs.Common.{◌∙◌, ◌++◌, ◌+◌, List, ℕ, sym, ap}
use Rattle.std.proofs.lemmas.List.{take_rest}
use Rattle.chr_records.specs.Records.{records_of, size_of}
use Rattle.chr_records.proofs.Scans.{read_on}
use Rattle.chr_records.proofs.reading.read_on.Goals as goal

pub returns-clause-texts : goal.returns-clause-texts
returns-clause-texts c = λ front rest is whole.
    let bytes = c.args.bytes.now in
    let size = c.args.size in
    (read_on bytes front rest size is whole).0
    ∙ sym (ap (λ (l : List (List ℕ)). records_of front ++ l)
    (c.in_ok-read.ensures.texts ∙ ap records_of (take_rest bytes size)))

pub returns-clause-size : goal.returns-clause-size
returns-clause-size c = λ front rest is whole.
    let bytes = c.args.bytes.now in
    let size = c.args.size in
    (read_on bytes front rest size is whole).1
    ∙ sym (ap (λ (n : ℕ). size + n) (c.in_ok-read.ensures.size ∙ ap size_of (take_rest bytes size)))
