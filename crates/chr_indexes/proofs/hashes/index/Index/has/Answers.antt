use Rattle.std.proofs.Common.{false, sym, ap, ◌∙◌, arith, get_or}
use Rattle.std.specs.Prelude.{None}
use Rattle.std.proofs.lemmas.Bool.{OnTrue_from}
use Rattle.std.proofs.lemmas.List.{get_or-map}
use Rattle.chr_indexes.specs.declared.hashes.row.Row.{Row}
use Rattle.chr_indexes.specs.working.HashEntries.{hashes_of, flags_of}
use Rattle.chr_indexes.proofs.HashFields.{as_many, length_hashes}
use Rattle.chr_indexes.proofs.HashRows.{entry_is}
use Rattle.chr_indexes.proofs.hashes.index.Index.has.Goals as goal

pub returns-then-is_at : goal.returns-then-is_at
returns-then-is_at c = OnTrue_from c.index.result.now.alive _ (λ lives.
    let at = rw c.deref.ensures.value at c.if-is_at.ensures in
    let n = length_hashes c.self.inside.rows.items in
    let l = at.0 in
    ap (λ x. get_or x.rows c.args.row None) (sym c.self.view_is)
    ∙ entry_is (hashes_of c.self.inside.rows.items) (flags_of c.self.inside.rows.items) c.args.row c.args.hash
    (omega (arith, n, l)) (as_many c.self.inside.rows.items)
    (get_or-map (λ (r : Row). r.alive) c.self.inside.rows.items c.args.row c.index.result.now false l
    ∙ ap (λ (r : Row). r.alive) (sym c.index.ensures) ∙ lives) at.1)
