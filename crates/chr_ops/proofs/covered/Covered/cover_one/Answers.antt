use Rattle.std.proofs.Common.{rules, arith, ap, ◌∙◌, ◌≡◌, ◌+◌, ◌^◌, ◌||◌, [], ◌∷◌}
use Rattle.chr_ops.specs.Summaries.{covers}
use Rattle.chr_ops.specs.News.{is_one_of}
use Rattle.chr_ops.specs.working.Covering.{IsPutIn}
use Rattle.chr_ops.proofs.RangeLookups.{ranges_apart}
use Rattle.chr_ops.proofs.OnePutIn.{covered_before, covered_last}
use Rattle.chr_ops.proofs.covered.Covered.cover_one.Goals as goal

pub returns-in_err-put_in-clause-apart : goal.returns-in_err-put_in-clause-apart
returns-in_err-put_in-clause-apart c = rw c.in_err-put_in.ensures.err (ranges_apart c.self.inside.ends c.self.invariant)

pub invariant_of-self-in-Some : goal.invariant_of-self-in-Some
invariant_of-self-in-Some c =
    let id = c.args.id in
    let new = ap (λ rs. covers rs id) c.self.view_is ∙ c.requires in
    let put : IsPutIn c.self.inside.ends id c.put_in.new.ends = search rules in
    let next : c.in-Some.number ≡ id.number + 1 = search rules in
    let covered = covered_before c.self.inside.ends id c.self.invariant new c.put_in.new.ends c.join_at.new.ends put
    (rw next at c.join_at.ensures) in
    covered.0

pub invariant_of-self-in_default : goal.invariant_of-self-in_default
invariant_of-self-in_default c =
    let id = c.args.id in
    let new = ap (λ rs. covers rs id) c.self.view_is ∙ c.requires in
    let put : IsPutIn c.self.inside.ends id c.put_in.new.ends = search rules in
    let last : id.number + 1 ≡ 2 ^ 64 = search (rules, arith) in
    let covered = covered_last c.self.inside.ends id c.self.invariant new c.put_in.new.ends put last in
    covered.0

pub returns-in-Some-clause-covers : goal.returns-in-Some-clause-covers
returns-in-Some-clause-covers c = λ q.
    let id = c.args.id in
    let new = ap (λ rs. covers rs id) c.self.view_is ∙ c.requires in
    let put : IsPutIn c.self.inside.ends id c.put_in.new.ends = search rules in
    let next : c.in-Some.number ≡ id.number + 1 = search rules in
    let covered = covered_before c.self.inside.ends id c.self.invariant new c.put_in.new.ends c.join_at.new.ends put
    (rw next at c.join_at.ensures) in
    covered.1 q ∙ ap (λ rs. covers rs q || is_one_of (id ∷ []) q) c.self.view_is

pub returns-in-Some-clause-apart : goal.returns-in-Some-clause-apart
returns-in-Some-clause-apart c =
    let id = c.args.id in
    let new = ap (λ rs. covers rs id) c.self.view_is ∙ c.requires in
    let put : IsPutIn c.self.inside.ends id c.put_in.new.ends = search rules in
    let next : c.in-Some.number ≡ id.number + 1 = search rules in
    let covered = covered_before c.self.inside.ends id c.self.invariant new c.put_in.new.ends c.join_at.new.ends put
    (rw next at c.join_at.ensures) in
    ranges_apart c.join_at.new.ends covered.0

pub returns-in_default-clause-covers : goal.returns-in_default-clause-covers
returns-in_default-clause-covers c = λ q.
    let id = c.args.id in
    let new = ap (λ rs. covers rs id) c.self.view_is ∙ c.requires in
    let put : IsPutIn c.self.inside.ends id c.put_in.new.ends = search rules in
    let last : id.number + 1 ≡ 2 ^ 64 = search (rules, arith) in
    let covered = covered_last c.self.inside.ends id c.self.invariant new c.put_in.new.ends put last in
    covered.1 q ∙ ap (λ rs. covers rs q || is_one_of (id ∷ []) q) c.self.view_is

pub returns-in_default-clause-apart : goal.returns-in_default-clause-apart
returns-in_default-clause-apart c =
    let id = c.args.id in
    let new = ap (λ rs. covers rs id) c.self.view_is ∙ c.requires in
    let put : IsPutIn c.self.inside.ends id c.put_in.new.ends = search rules in
    let last : id.number + 1 ≡ 2 ^ 64 = search (rules, arith) in
    let covered = covered_last c.self.inside.ends id c.self.invariant new c.put_in.new.ends put last in
    ranges_apart c.put_in.new.ends covered.0
