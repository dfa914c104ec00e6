use Rattle.std.proofs.Common.{rules, ◌≡◌, ◌≤◌, length, subst}
use Rattle.chr_base.specs.Stores.{Store, size}
use Rattle.chr_columns.proofs.Pools.{fresh_within}
use Rattle.chr_columns.proofs.columns.Columns.waiting.Goals as goal

pub returns : goal.returns
returns c =
    let n : c.len.result ≡ length c.self.inside.fresh.items = search rules in
    subst (λ (s : Store). c.len.result ≤ size s) c.self.view_is
    (fresh_within _ c.self.inside.fresh.items c.len.result n)
