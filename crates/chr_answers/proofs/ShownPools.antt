-- What is written of a pool at rest.
use Rattle.std.proofs.Common.{ℕ, ◌-◌, refl, sym}
use Rattle.std.specs.Prelude.{◌≢◌, Bool, Result, Ok, Err, IfOk}
use Rattle.std.specs.Bool.{OnTrue}
use Rattle.std.proofs.lemmas.Bool.{OnTrue_from, OnTrue_at}
use Rattle.chr_base.specs.declared.program.Program.{Program}
use Rattle.chr_base.specs.Programs.{declarations, rules_of}
use Rattle.chr_base.specs.Texts.{store_text}
use Rattle.chr_replica.specs.Replicas.{Replica, IsSettled}
use Rattle.chr_replica.proofs.OneAnswer.{normal}
use Rattle.chr_worlds.specs.Worlds.{Replicas, IsAt}
use Rattle.chr_answers.specs.Answers.{AnswersAt, AnswersShow}
use Rattle.chr_answers.specs.declared.request.Request.{Request}
use Rattle.chr_answers.specs.declared.request.Request.TheVariants as request
use Rattle.chr_answers.specs.declared.service.Service.{Service}
use Rattle.chr_answers.specs.working.Obeying.{IsReadyFor}
use Rattle.chr_answers.specs.Services.{operations_held, AreBetweenLines}
use Rattle.chr_answers.proofs.BetweenLines.{ready_at}
use Rattle.chr_answers.proofs.Held.{answers_at, same_set}

-- a replica at rest, of which nothing is out, shows its pool, and stays as it is
pub pool_shown : (p : Program) (w : Replicas) (r : ℕ) (t : Replica) → AreBetweenLines p w → IsAt w r t → IsSettled p t
    → AnswersAt (operations_held w) r (AnswersShow (declarations p) (rules_of p)) (store_text (declarations p) t.pool)
    (operations_held w)
pool_shown p w r t ready there settled =
    answers_at w w r (AnswersShow (declarations p) (rules_of p)) (store_text (declarations p) t.pool) t t there
    (sym (same_set w (r - 1) t there.1))
    (record { store = t.pool; normal_form = normal p t (ready_at p w r t ready there) settled; text_is = refl }, refl)

-- what is known where a call has done something
pub known_more : {E : Type 0} (r : Result Bool E) {P Q : Type 0} → (P → Q) → IfOk r (λ b. OnTrue b P)
    → IfOk r (λ b. OnTrue b Q)
known_more (Ok b) f h = OnTrue_from b _ (λ e. f (OnTrue_at e h))
known_more (Err e) f h = tt

-- what asks for no pool
pub ready_unless_shown : (s : Service) (q : Request) → ((r : ℕ) → q ≢ request.Show r) → IsReadyFor s q
ready_unless_shown s (request.Show r) other = absurd (other r refl)
ready_unless_shown s _ other = tt
