use Rattle.std.proofs.Common.{rules, ◌≡◌, ◌+◌, ◌<◌, ◌≤◌, ◌/◌, ◌%◌, length, [], ◌∷◌, ◌++◌, ap, sym, subst, ◌∙◌, arith}
use Rattle.std.proofs.Math.Nat.{div-add-mod, mod-lt}
use Rattle.chr_base.specs.Stores.{store_of}
use Rattle.chr_join.specs.declared.lease.Lease.{Lease}
use Rattle.chr_replica.specs.Leases.{parts_in, AreNumbered}
use Rattle.chr_replica.specs.working.Cuts.{AreCut}
use Rattle.chr_replica.proofs.PartsCut.{cut_first, cut_more, all_cut, numbered_more, parts_in-push}
use Rattle.chr_replica.proofs.cutting.cut.Goals as goal
use Rattle.chr_replica.proofs.cutting.cut.Goals.{then-k-more, else-k-more}

pub loop-k-init : goal.loop-k-init
loop-k-init c =
    let none : c.in_ok-leases.leases.items ≡ [] = search rules in
    let n = length c.args.atoms.now in
    subst (λ ls. AreCut (n / c.args.count) (n % c.args.count) c.args.count 0 c.args.atoms.now c.args.atoms.now
    (parts_in ls) × AreNumbered c.args.first ls) (sym none)
    (cut_first (n / c.args.count) (n % c.args.count) c.args.count c.args.atoms.now (div-add-mod n c.args.count), tt)

pub loop-k-preserved : goal.loop-k-preserved
loop-k-preserved c =
    let q = length c.args.atoms.now / c.args.count in
    let more = length c.args.atoms.now % c.args.count in
    let k = c.loop-k.k in
    let ls = c.loop-k.leases.items in
    let wanted = c.if-k-more.wanted in
    let part = c.in_ok-part_of.field-0 in
    let sizes : (k < more → wanted ≡ q + 1) × (more ≤ k → wanted ≡ q) =
    elim c.if-k-more.branch as (λ _. (k < more → wanted ≡ q + 1) × (more ≤ k → wanted ≡ q)) [
      | then-k-more w ↦ (λ _. w.wanted-is, λ h. absurd (let l : k < more = w.if-k-more.true in omega (arith, h, l)))
      | else-k-more w ↦ (λ h. absurd (let l : more ≤ k = w.if-k-more.false in omega (arith, h, l)), λ _. w.wanted-is)
    ] in
    let split : c.loop-k.rest.now ≡ c.split_at.result.0.now ++ c.split_at.result.1.now = search rules in
    let size : length c.split_at.result.0.now ≡ wanted = search rules in
    let bag : part ≡ store_of c.split_at.result.0.now = search rules in
    let lease : Lease = record { number = c.args.first + k; part = part } in
    let pushed : c.push.new.self.items ≡ ls ++ lease ∷ [] = c.in_ok-push.ensures.items in
    let cut = cut_more q more c.args.count k wanted c.args.atoms.now c.loop-k.rest.now c.split_at.result.0.now
    c.split_at.result.1.now (parts_in ls) part c.loop-k-test.true sizes.0 sizes.1 split size bag
    c.loop-k.invariant.0 in
    let numbered = numbered_more c.args.first ls lease c.loop-k.invariant.1
    (sym (ap (λ n. c.args.first + n) c.loop-k.invariant.0.count)) in
    subst (λ xs. AreCut q more c.args.count (k + 1) c.args.atoms.now c.split_at.result.1.now (parts_in xs)
    × AreNumbered c.args.first xs) (sym pushed) (
      subst (λ ps. AreCut q more c.args.count (k + 1) c.args.atoms.now c.split_at.result.1.now ps)
          (sym (parts_in-push ls lease)) cut,
      numbered,
    )

pub returns-clause-sum : goal.returns-clause-sum
returns-clause-sum c =
    let n = length c.args.atoms.now in
    let end : c.loop-k.k ≡ c.args.count = search rules in
    all_cut (n / c.args.count) (n % c.args.count) c.args.count c.loop-k.k c.args.atoms.now c.loop-k.rest.now
    (parts_in c.loop-k.leases.items) end (mod-lt n c.requires.some) c.loop-k.invariant.0

pub returns-clause-count : goal.returns-clause-count
returns-clause-count c = c.loop-k.invariant.0.count ∙ (let end : c.loop-k.k ≡ c.args.count = search rules in end)
