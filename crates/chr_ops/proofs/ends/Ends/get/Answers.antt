use Rattle.std.proofs.Common.{rules, ap, sym, ◌∙◌, ◌≡◌}
use Rattle.std.specs.FinMap as map
use Rattle.chr_ops.proofs.EntryLists.{value_at, get_value}
use Rattle.chr_ops.proofs.ends.Ends.get.Goals as goal

pub returns : goal.returns
returns c =
    let found : c.copied.result ≡ value_at c.self.inside.last.entries c.args.first = search rules in
    found ∙ sym (get_value c.self.inside.last.entries c.args.first) ∙ ap (λ m. map.get m c.args.first) c.self.view_is
