use Rattle.std.proofs.Common.{refl}
use Rattle.chr_confluence.proofs.Rising as lemmas
use Rattle.chr_confluence.proofs.Images.{from_representative}
use Rattle.chr_confluence.proofs.laws.rising.Goals as goal

pub returns-clause-steps : goal.returns-clause-steps
returns-clause-steps c = λ f d r v s t keeps fixes each h. lemmas.rising f d keeps r v s t fixes each h

pub returns-clause-values : goal.returns-clause-values
returns-clause-values c = λ d r v s t constants each h. lemmas.values_kept (λ x. x) d r v s t
    (λ k i. (constants k i, refl)) each h

pub returns-clause-types : goal.returns-clause-types
returns-clause-types c = λ n cs rs types vs count values. from_representative n cs rs types vs count values
