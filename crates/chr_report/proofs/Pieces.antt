-- Answers of an input that comes piece by piece.
use Rattle.std.proofs.Common.{ℕ, List, ◌++◌, ap, ◌∙◌, append_assoc}
use Rattle.std.specs.Prelude.{Option, Result, Ok, Err, OnErr}
use Rattle.chr_device.specs.Devices.{AppendsPart}

-- ---- parts of what is written

pub part_of_more : (old new : Option (List ℕ)) (bs more : List ℕ) → AppendsPart old new bs
    → AppendsPart old new (bs ++ more)
part_of_more old new bs more p = (p.0, p.1 ++ more, ap (λ l. l ++ more) p.2 ∙ append_assoc p.0 p.1 more, p.3)

pub if_err : {A E P Q : Type 0} (r : Result A E) → (P → Q) → OnErr r P → OnErr r Q
if_err (Ok x) f p = tt
if_err (Err e) f p = f p
