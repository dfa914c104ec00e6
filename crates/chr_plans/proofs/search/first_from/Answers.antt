use Rattle.chr_plans.specs.Rows.{HasKey, LiesIn}
use Rattle.chr_plans.proofs.Searches.{greatest_of_all, none_of_all}
use Rattle.chr_plans.proofs.search.first_from.Goals as goal

pub returns-in-Some-clause-greatest : goal.returns-in-Some-clause-greatest
returns-in-Some-clause-greatest g c = rw c.in-Some.is c.at_or_below.ensures.greatest

pub returns-in-Some-clause-none : goal.returns-in-Some-clause-none
returns-in-Some-clause-none g c = rw c.in-Some.is c.at_or_below.ensures.none

pub returns-in-None-clause-greatest : goal.returns-in-None-clause-greatest
returns-in-None-clause-greatest g c =
    rw c.in-None.is (greatest_of_all (g.R.Rows.rank c.args.rows.now c.args.lookup.now.table c.args.lookup.now.index)
    (λ other. HasKey (g.R.Rows.columns c.args.rows.now c.args.lookup.now.table
    c.args.lookup.now.index) c.args.key.now (g.R.Rows.rows c.args.rows.now c.args.lookup.now.table other))
    (λ other. LiesIn c.args.span.now (g.R.Rows.rows c.args.rows.now c.args.lookup.now.table other)) c.first.result
    c.first.ensures.greatest)

pub returns-in-None-clause-none : goal.returns-in-None-clause-none
returns-in-None-clause-none g c =
    rw c.in-None.is (none_of_all (λ other. HasKey (g.R.Rows.columns c.args.rows.now c.args.lookup.now.table
    c.args.lookup.now.index) c.args.key.now (g.R.Rows.rows c.args.rows.now c.args.lookup.now.table other))
    (λ other. LiesIn c.args.span.now (g.R.Rows.rows c.args.rows.now c.args.lookup.now.table other)) c.first.result
    c.first.ensures.none)
