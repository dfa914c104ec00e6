-- The operations of replicas, and the answers of the one of a number.
use Rattle.std.proofs.Common.{◌≡◌, ℕ, zero, suc, ◌-◌, ◌<◌, ◌≤◌, false, nat_eq, List, length, refl, sym, ap, ◌∙◌, subst}
use Rattle.std.proofs.Common.{arith, inl, inr, ◌⊎◌, get_or}
use Rattle.std.specs.Prelude.{Some, None, MatchOption, slice_get, slice_set, if◌then◌else◌}
use Rattle.std.proofs.lemmas.Bool.Decides.{nat_tests}
use Rattle.std.specs.Option.{option_map}
use Rattle.std.proofs.lemmas.List.{map-set, set-get_or}
use Rattle.std.proofs.lemmas.Option.{get_or_from_slice_get, slice_get-map, slice_get_past, slice_get_cases}
use Rattle.std.proofs.lemmas.Option.{slice_get_within}
use Rattle.chr_ops.specs.Operations.{Operations}
use Rattle.chr_replica.specs.Replicas.{Replica}
use Rattle.chr_worlds.specs.Worlds.{Replicas, HasReplica, IsAt}
use Rattle.chr_answers.specs.declared.reply.Refusal.TheVariants as refusal
use Rattle.chr_answers.specs.Replies.{refusal_text}
use Rattle.chr_answers.specs.Answers.{held_by, AnswersRefusal, AnswersAt, OneAnswers}
use Rattle.chr_answers.specs.Services.{operations_held}

positive : (r : ℕ) → 0 < r → nat_eq r 0 ≡ false
positive r l = grind (arith, nat_tests)

-- the operations of a number, which are counted from 1
pub held_as : (old : List Operations) (r : ℕ) → 0 < r → held_by old r ≡ slice_get old (r - 1)
held_as old r l = ap (λ b. if b then None else slice_get old (r - 1)) (positive r l)

abbrev Here : Replicas → ℕ → Type 0
Here w i = (s : Replica) × (i < length w) × (slice_get w i ≡ Some s) × (get_or w i s ≡ s)

abbrev Past : Replicas → ℕ → Type 0
Past w i = (length w ≤ i) × (slice_get w i ≡ None)

-- a replica's operations are those of its number
pub held_at : (w : Replicas) (r : ℕ) (s : Replica) → IsAt w r s → held_by (operations_held w) r ≡ Some s.operations
held_at w r s h =
    held_as (operations_held w) r h.0
    ∙ slice_get-map (λ t. t.operations) w (r - 1) ∙ ap (option_map (λ t. t.operations)) h.1

-- and where there is none of the number, there are none
pub none_held : (w : Replicas) (r : ℕ) → ¬ HasReplica w r → held_by (operations_held w) r ≡ None
none_held w zero n = refl
none_held w (suc i) n =
    held_as (operations_held w) (suc i) (omega arith)
    ∙ slice_get-map (λ t. t.operations) w (suc i - 1)
    ∙ ap (option_map (λ t. t.operations)) (slice_get_past w (suc i - 1) (by (slice_get_cases w (suc i - 1)).1))
  where
    by : Here w (suc i - 1) ⊎ Past w (suc i - 1) → length w ≤ suc i - 1
    by (inl h) = absurd (n (omega arith, (let l = h.1 in omega (arith, l))))
    by (inr h) = h.0

pub there_or_not : (w : Replicas) (r : ℕ) → ((s : Replica) × IsAt w r s) ⊎ (¬ HasReplica w r)
there_or_not w zero = inr (λ h. let l = h.0 in omega (arith, l))
there_or_not w (suc i) = by (slice_get_cases w (suc i - 1)).1
  where
    by : Here w (suc i - 1) ⊎ Past w (suc i - 1) → ((s : Replica) × IsAt w (suc i) s) ⊎ (¬ HasReplica w (suc i))
    by (inl h) = inl (h.0, (omega arith, h.2))
    by (inr h) = inr (λ g. let l = h.0 in let m = g.1 in omega (arith, l, m))

pub has_one : (w : Replicas) (r : ℕ) (s : Replica) → IsAt w r s → HasReplica w r
has_one w r s h = let l = slice_get_within w (r - 1) s h.1 in let m = h.0 in (m, omega (arith, l, m))

-- where one replica changes and answers
pub answers_at : (w v : Replicas) (r : ℕ) (R : Operations → List ℕ → Operations → Type 0) (text : List ℕ)
    (s t : Replica) → IsAt w r s → v ≡ slice_set w (r - 1) t
    → R s.operations text t.operations → AnswersAt (operations_held w) r R text (operations_held v)
answers_at w v r R text s t there e h =
    let one : OneAnswers (operations_held w) r R text (operations_held v) s.operations =
    record {
      after = t.operations;
      answers = h;
      others = ap operations_held e
          ∙ map-set (λ t. t.operations) w (r - 1) t;
    } in
    subst (λ o. MatchOption o (AnswersRefusal refusal.NoReplica (operations_held w) text (operations_held v))
    (OneAnswers (operations_held w) r R text (operations_held v))) (sym (held_at w r s there)) one

-- where there is none of the number
pub none_answers : (w v : Replicas) (r : ℕ) (R : Operations → List ℕ → Operations → Type 0) → ¬ HasReplica w r → v ≡ w
    → AnswersAt (operations_held w) r R (refusal_text refusal.NoReplica) (operations_held v)
none_answers w v r R n e =
    let none : AnswersRefusal refusal.NoReplica (operations_held w) (refusal_text refusal.NoReplica)
    (operations_held v) = (refl, ap operations_held e) in
    subst (λ o. MatchOption o (AnswersRefusal refusal.NoReplica (operations_held w) (refusal_text refusal.NoReplica)
    (operations_held v)) (OneAnswers (operations_held w) r R (refusal_text refusal.NoReplica) (operations_held v)))
    (sym (none_held w r n)) none

-- ---- a replica that changes and holds what it held

pub same_set : {A : Type 0} (xs : List A) (i : ℕ) (x : A) → slice_get xs i ≡ Some x → slice_set xs i x ≡ xs
same_set xs i x e = ap (λ y. slice_set xs i y) (sym (get_or_from_slice_get xs i x x e)) ∙ set-get_or xs i x

pub same_held : (w v : Replicas) (r : ℕ) (s t : Replica) → IsAt w r s → v ≡ slice_set w (r - 1) t → t.operations
    ≡ s.operations → operations_held v ≡ operations_held w
same_held w v r s t there e same =
    ap operations_held e ∙ map-set (λ t. t.operations) w (r - 1) t
    ∙ ap (λ m. slice_set (operations_held w) (r - 1) m) same
    ∙ same_set (operations_held w) (r - 1) s.operations
    (slice_get-map (λ t. t.operations) w (r - 1) ∙ ap (option_map (λ t. t.operations)) there.1)
