use Rattle.std.proofs.Common.{◌≡◌, ◌++◌, subst}
use Rattle.std.specs.Prelude.{Bool, Result, Ok, Err, IfOk, string_bytes}
use Rattle.std.specs.Bool.{OnTrue}
use Rattle.std.proofs.lemmas.Bool.{OnTrue_from}
use Rattle.chr_base.specs.Programs.{declarations}
use Rattle.chr_base.specs.Texts.{store_text}
use Rattle.chr_weights.specs.WeighedPrograms.{program_of}
use Rattle.chr_replica.specs.Boards.{program_on}
use Rattle.chr_replica.proofs.board.Board.push_shown.Goals as goal

-- what holds anyway
anyway : {E : Type 0} (r : Result Bool E) {P : Type 0} → P → IfOk r (λ b. OnTrue b P)
anyway (Ok b) p = OnTrue_from b _ (λ e. p)
anyway (Err e) p = tt

pub returns-in-Ok-clause-text : goal.returns-in-Ok-clause-text
returns-in-Ok-clause-text g c =
    let written = c.push_text.result in
    let out = string_bytes c.push_text.new.out in
    let old = string_bytes c.args.out.now in
    subst (λ b. IfOk written (λ w. OnTrue w
    (out ≡ old ++ store_text (declarations (program_on b)) b.replica.pool))) c.self.view_is
    (subst (λ p. IfOk written (λ w. OnTrue w
    (out ≡ old ++ store_text (declarations (program_of p)) c.self.inside.pool.store))) c.self.invariant.own
    c.push_text.ensures.text)

pub returns-in-Ok-clause-settled : goal.returns-in-Ok-clause-settled
returns-in-Ok-clause-settled g c = anyway c.push_text.result c.in-Ok.ensures.settled
