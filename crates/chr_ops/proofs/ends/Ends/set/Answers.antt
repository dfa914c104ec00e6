use Rattle.std.proofs.Common.{rules, ap, sym, subst, ◌∙◌, ◌≡◌, None}
use mathlib.Core.Bool.{true≢false}
use Rattle.std.specs.Option.{IsSome, is_some}
use Rattle.std.specs.FinMap as map
use Rattle.chr_ops.specs.contracts.ends.Ends.{the_view}
use Rattle.chr_ops.proofs.EntryLists.{one_inserted, value_at, get_value}
use Rattle.chr_ops.proofs.ends.Ends.set.Goals as goal
use Rattle.chr_ops.proofs.ends.Ends.set.Goals.{in-Some, in_default}

there : (c : goal.Joined-get_mut) → IsSome (value_at c.self.inside.last.entries c.args.first)
there c = subst IsSome (ap (λ m. map.get m c.args.first) (sym c.self.view_is)
    ∙ get_value c.self.inside.last.entries c.args.first) c.requires

pub returns : goal.returns
returns c = elim c.match-get_mut.branch [
  | in-Some w ↦
      let after = c.get_mut.follows.lender c.args.last in
      ap the_view w.self-inside-is
      ∙ one_inserted c.self.inside.last.entries after.entries c.args.first c.args.last
      ((c.get_mut.follows.holds c.args.last).3 (there c)).0
      ∙ ap (λ m. map.insert m c.args.first c.args.last) c.self.view_is
  | in_default w ↦
      let none : value_at c.self.inside.last.entries c.args.first ≡ None = search rules in
      absurd (true≢false (sym (there c) ∙ ap is_some none))
]
