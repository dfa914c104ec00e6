use Rattle.std.proofs.Common.{rules, ap, subst, ◌≡◌}
use Rattle.std.specs.Prelude.{Some, ◌∷◌, []}
use Rattle.std.specs.Option.{is_some}
use Rattle.std.specs.Map.{lookup}
use Rattle.std.specs.BTreeMap.{is_at}
use Rattle.std.specs.Ordering.{nat_cmp}
use Rattle.chr_ops.specs.News.{AreTrueOf}
use Rattle.chr_ops.proofs.Newness.{gained_true, written}
use Rattle.chr_ops.proofs.news.News.gained_one.Goals as goal

pub returns-in-Some-clause-giver : goal.returns-in-Some-clause-giver
returns-in-Some-clause-giver c = λ b m n k right grows g found.
    let before = c.in-Some.gains.now in
    let after = c.gain_one.new.self in
    let there : lookup (is_at (nat_cmp c.args.giver)) c.args.self.now.givers.entries ≡ Some before = search rules in
    let writes = ((c.get_mut.follows.holds after).3 (ap is_some there)).0 c.args.giver in
    subst (λ x. AreTrueOf x b k n) (written c.args.giver after g _ _ writes found)
    (gained_true before after (c.args.id ∷ []) b m n k c.gain_one.ensures (right before there) grows)
