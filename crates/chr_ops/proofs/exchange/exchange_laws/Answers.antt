use Rattle.chr_ops.proofs.Lacked as shown
use Rattle.chr_ops.proofs.exchange.exchange_laws.Goals as goal

pub returns-clause-lacked : goal.returns-clause-lacked
returns-clause-lacked c = shown.lacked

pub returns-clause-no_clash : goal.returns-clause-no_clash
returns-clause-no_clash c = shown.no_clash

pub returns-clause-exchange : goal.returns-clause-exchange
returns-clause-exchange c = shown.exchange

pub returns-clause-one_union : goal.returns-clause-one_union
returns-clause-one_union c = shown.one_union
