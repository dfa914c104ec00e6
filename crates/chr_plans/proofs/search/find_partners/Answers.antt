use Rattle.std.proofs.Common.{◌≡◌, ◌++◌, length, take, drop, ap, ◌∙◌}
use Rattle.std.proofs.lemmas.Bool.{OnTrue_from, OnFalse_from}
use Rattle.chr_plans.specs.Seats.{head, seat}
use Rattle.chr_plans.proofs.Starts.{none_started, past_started, above_started, put_back}
use Rattle.chr_plans.proofs.search.find_partners.Goals as goal

pub complete-requires-clause-passed : goal.complete-requires-clause-passed
complete-requires-clause-passed g c =
    past_started c.args.rule.now _ (g.R.Rows.rank c.args.rows.now) c.args.place c.args.lookups.now
    c.deref_mut.result.now c.deref_mut-2.result.now c.args.active.now c.args.from
    (ap (λ xs. head xs c.args.place) c.deref_mut.ensures.value ∙ c.start.ensures.active) c.requires.passed

pub returns-clause-passed : goal.returns-clause-passed
returns-clause-passed g c =
    let seats = c.start.new.seats.items in
    let back : take (length seats) (c.complete.new.seats ++ drop (length c.complete.new.seats) seats)
    ≡ c.complete.new.seats =
    put_back c.complete.new.seats seats (c.complete.ensures.lengths.1 ∙ ap length c.deref_mut-2.ensures.value) in
    rw back (OnTrue_from c.complete.result _ (λ e.
    (let passed = rw e at c.complete.ensures.passed in
    above_started c.args.rule.now _ (g.R.Rows.rank c.args.rows.now) c.args.place c.args.lookups.now
    c.deref_mut.result.now c.deref_mut-2.result.now c.args.active.now _ c.requires.plan
    (ap (λ xs. head xs c.args.place) c.deref_mut.ensures.value ∙ c.start.ensures.active)
    (ap (λ xs. seat xs c.args.place) c.deref_mut-2.ensures.value ∙ c.start.ensures.nowhere) passed)))

pub returns-clause-none : goal.returns-clause-none
returns-clause-none g c = OnFalse_from c.complete.result _ (λ e.
    (let none = rw e at c.complete.ensures.none in
    none_started c.args.rule.now _ c.args.place _ c.deref_mut.result.now c.deref_mut-2.result.now c.args.active.now
    (ap (λ xs. head xs c.args.place) c.deref_mut.ensures.value ∙ c.start.ensures.active)
    (ap (λ xs. seat xs c.args.place) c.deref_mut-2.ensures.value ∙ c.start.ensures.nowhere) none))
