-- For a program of which every store has a normal form, command lines have answers.
use Rattle.std.proofs.Common.{◌≡◌, ℕ, ◌+◌, ◌-◌, Bool, true, false, List, [], ◌∷◌, ◌++◌, Some, None, Option, Err, refl}
use Rattle.std.proofs.Common.{sym, subst, ◌∙◌, inl, inr, codes, arith, cond}
use Rattle.std.specs.Prelude.{◌≢◌, IsSomeAnd, MatchOption, slice_set}
use Rattle.std.specs.Fmt.{decimal}
use Rattle.std.specs.Bool.{MatchBool}
use Rattle.std.proofs.lemmas.Bool.{cases_lt}
use Rattle.std.proofs.lemmas.Option.{none-some, same_Some}
use Rattle.std.specs.FinMap as finite
use Rattle.std.specs.Option.{ok_or}
use Rattle.chr_base.specs.declared.atom.Atom.{Atom}
use Rattle.chr_base.specs.declared.rule.Rule.{Rule}
use Rattle.chr_base.specs.Stores.{Store, store_of, size}
use Rattle.chr_base.specs.Rules.{Step}
use Rattle.chr_base.specs.Rewriting.{IsNormalForm}
use Rattle.chr_base.specs.ProgramTests.{Declaration}
use Rattle.chr_base.specs.Texts.{store_text}
use Rattle.chr_weights.proofs.Ranks.{lowers_rank_by, rank_by}
use Rattle.chr_confluence.specs.laws.Newman.{NormalFormsExist}
use Rattle.chr_base.proofs.SameStores.{same_or}
use Rattle.chr_ops.specs.declared.id.OpId.{OpId}
use Rattle.chr_ops.specs.declared.range.IdRange.{IdRange}
use Rattle.chr_ops.specs.Operations.{Operation, Operations, operations_of, told_store, told_atoms}
use Rattle.chr_ops.specs.Joins.{union}
use Rattle.chr_ops.specs.Summaries.{SummariesExist, lacking}
use Rattle.chr_ops.proofs.Clashes.{clash_or_none}
use Rattle.chr_ops.specs.declared.limits.TheConstants.{MAX_TOLD}
use Rattle.chr_json.specs.declared.fault.LineFault.TheVariants as fault
use Rattle.chr_json.specs.Commands.{Said, show, tell, sync, summary, lacks, merge, command_of}
use Rattle.chr_json.specs.declared.command.DeltaVersion.{DeltaVersion}
use Rattle.chr_json.specs.Values.{json_in}
use Rattle.chr_json.specs.Lines.{is_blank_line, has_line_length}
use Rattle.chr_json.specs.Reads.{value_said}
use Rattle.chr_exchange.specs.Names.{named_atoms, declared_operations}
use Rattle.chr_exchange.specs.Texts.{summary_text}
use Rattle.chr_answers.specs.declared.reply.Refusal.TheVariants as refusal
use Rattle.chr_answers.specs.Lines.{without_return}
use Rattle.chr_answers.specs.Replies.{refusal_text}
use Rattle.chr_answers.specs.Answers.{held_by, AnswersRefusal, OneAnswers, AnswersAt, AnswersShow, AnswersTell}
use Rattle.chr_answers.specs.Answers.{AnswersUnion, AnswersMerge, AnswersSync, AnswersSummary, delta_text_of}
use Rattle.chr_answers.specs.Answers.{AnswersLacks, AnswersAtoms, AnswersOperations, AnswersBetween, AnswersRead}
use Rattle.chr_answers.specs.Answers.{Answers, AnswersFirst, AnswersAll}
use Rattle.chr_answers.specs.OneText.{AnswersExist}

-- some answer, and what is held after it
abbrev HasAnswer : {A : Type 0} → (List ℕ → A → Type 0) → Type 0
HasAnswer {A} P = (text : List ℕ) × (new : A) × P text new

-- ---- one replica

-- an operation is new, held, or held otherwise
tell_answered : (op : Operation) (old : Operations) → HasAnswer (AnswersTell op old)
tell_answered op old = by (finite.get old op.0) refl
  where
    by : (o : Option Store) → finite.get old op.0 ≡ o → HasAnswer (AnswersTell op old)
    by None e =
        elim (cases_lt MAX_TOLD (size (told_store old) + size op.1)) as (λ _. HasAnswer (AnswersTell op old)) [
          | inl over ↦ (
            refusal_text refusal.Full,
            old,
            record {
              again = λ h. absurd (none-some op.1 (sym e ∙ h));
              clash = λ h. absurd (let k : IsSomeAnd {T = Store} None (λ b. b ≢ op.1) =
                  subst (λ o. IsSomeAnd o (λ b. b ≢ op.1)) e h in k);
              full = λ _ _. (refl, refl);
              told = λ _ room. absurd (omega (arith, over, room));
            },
          )
          | inr room ↦ (
            codes "told",
            finite.insert old op.0 op.1,
            record {
              again = λ h. absurd (none-some op.1 (sym e ∙ h));
              clash = λ h. absurd (let k : IsSomeAnd {T = Store} None (λ b. b ≢ op.1) =
                  subst (λ o. IsSomeAnd o (λ b. b ≢ op.1)) e h in k);
              full = λ _ over. absurd (omega (arith, over, room));
              told = λ _ _. (refl, refl);
            },
          )
        ]
    by (Some s) e =
        elim (same_or s op.1) as (λ _. HasAnswer (AnswersTell op old)) [
          | inl same ↦ (
            codes "again",
            old,
            record {
              again = λ _. (refl, refl);
              clash = λ h. absurd (let k : IsSomeAnd (Some s) (λ b. b ≢ op.1) =
                  subst (λ o. IsSomeAnd o (λ b. b ≢ op.1)) e h in k same);
              full = λ n _. absurd (none-some s (sym n ∙ e));
              told = λ n _. absurd (none-some s (sym n ∙ e));
            },
          )
          | inr apart ↦ (
            refusal_text refusal.Clash,
            old,
            record {
              again = λ h. absurd (apart (same_Some s op.1 (sym e ∙ h)));
              clash = λ _. (refl, refl);
              full = λ n _. absurd (none-some s (sym n ∙ e));
              told = λ n _. absurd (none-some s (sym n ∙ e));
            },
          )
        ]

-- there is room for all, or not
union_answered : (word : List ℕ) (ops : List Operation) (old : Operations) → HasAnswer (AnswersUnion word ops old)
union_answered word ops old =
    elim (cases_lt MAX_TOLD (told_atoms (union old ops))) as (λ _. HasAnswer (AnswersUnion word ops old)) [
      | inl over ↦ (
        refusal_text refusal.Full,
        old,
        record {
          full = λ _. (refl, refl);
          joined =
              λ room. absurd (omega (arith, over, room));
        },
      )
      | inr room ↦ (
        word ++ decimal (finite.len (union old ops) - finite.len old),
        union old ops,
        record { full = λ over. absurd (omega (arith, over, room)); joined = λ _. (refl, refl) },
      )
    ]

-- one of them clashes, or none does
merge_answered : (ops : List Operation) (old : Operations) → HasAnswer (AnswersMerge ops old)
merge_answered ops old =
    elim (clash_or_none old ops) as (λ _. HasAnswer (AnswersMerge ops old)) [
      | inl c ↦ (
        refusal_text refusal.Clash,
        old,
        record {
          clash = λ _ _ _. (refl, refl);
          unites =
              λ none. absurd (none c.0 c.1 c.2);
        },
      )
      | inr none ↦
          (let u = union_answered (codes "merged ") ops old in
          (u.0, u.1, record { clash = λ i id c. absurd (none i id c); unites = λ _. u.2 }))
    ]

summary_answered : SummariesExist → (old : Operations) → HasAnswer (AnswersSummary old)
summary_answered exist old = let s = exist old in (
  summary_text s.0,
  old,
  record { ranges = s.0; apart = s.1; just = s.2; text_is = refl; same = refl },
)

-- ---- of several replicas one

-- the replica of a number answers where each replica does
at_answered : (R : Operations → List ℕ → Operations → Type 0) → ((m : Operations) → HasAnswer (R m))
    → (old : List Operations) (r : ℕ) → HasAnswer (AnswersAt old r R)
at_answered R answers old r = by (held_by old r)
  where
    by : (o : Option Operations) → HasAnswer (λ text new. MatchOption o (AnswersRefusal refusal.NoReplica old text new)
        (OneAnswers old r R text new))
    by None = (refusal_text refusal.NoReplica, old, (refl, refl))
    by (Some m) = let a = answers m in (
      a.0,
      slice_set old (r - 1) a.1,
      record { after = a.1; answers = a.2; others = refl },
    )

between_answered : (old : List Operations) (a b : ℕ) → HasAnswer (AnswersBetween old a b)
between_answered old a b = by (held_by old a)
  where
    by : (o : Option Operations) → HasAnswer (λ text new. MatchOption o (AnswersRefusal refusal.NoReplica old text new)
        (λ from. AnswersAt old b (AnswersSync from) text new))
    by None = (refusal_text refusal.NoReplica, old, (refl, refl))
    by (Some from) = at_answered (AnswersSync from) (union_answered (codes "synced ") (finite.entries from)) old b

atoms_answered : (old : List Operations) (r : ℕ) (id : OpId) (atoms : Option (List Atom))
    → HasAnswer (AnswersAtoms old r id atoms)
atoms_answered old r id None = (refusal_text refusal.UnknownSymbol, old, (refl, refl))
atoms_answered old r id (Some atoms) = at_answered (AnswersTell (id, store_of atoms))
    (tell_answered (id, store_of atoms)) old r

operations_answered : (old : List Operations) (r : ℕ) (ops : Option (List Operation))
    → HasAnswer (AnswersOperations old r ops)
operations_answered old r None = (refusal_text refusal.UnknownSymbol, old, (refl, refl))
operations_answered old r (Some ops) = at_answered (AnswersMerge ops) (merge_answered ops) old r

-- ---- lines

module _ (exist : SummariesExist) (ds : List Declaration) (rules : List Rule)
    (rests : (s : Store) → (t : Store) × IsNormalForm (Step rules) s t) where
  show_answered : (old : Operations) → HasAnswer (AnswersShow ds rules old)
  show_answered old = let n = rests (told_store old) in
      (store_text ds n.0, old, (record { store = n.0; normal_form = n.1; text_is = refl }, refl))

  lacks_answered : (rs : List IdRange) (v : DeltaVersion) (old : Operations) → HasAnswer (AnswersLacks ds rs v old)
  lacks_answered rs v old = (delta_text_of v ds (operations_of (lacking old rs)), old, (refl, refl))

  said_answered : (old : List Operations) (said : Option Said)
      → HasAnswer (AnswersRead ds rules old (ok_or said fault.Shape))
  said_answered old None = (refusal_text refusal.Shape, old, (refl, refl))
  said_answered old (Some (show r)) = at_answered (AnswersShow ds rules) show_answered old r
  said_answered old (Some (tell r o n ws)) = atoms_answered old r (record { origin = o; number = n })
      (named_atoms ds ws)
  said_answered old (Some (sync a b)) = between_answered old a b
  said_answered old (Some (summary r)) = at_answered AnswersSummary (summary_answered exist) old r
  said_answered old (Some (lacks r rs v)) = at_answered (AnswersLacks ds rs v) (lacks_answered rs v) old r
  said_answered old (Some (merge r os)) = operations_answered old r (declared_operations ds os)

  value_answered : (old : List Operations) (value : Option _) → HasAnswer (AnswersRead ds rules old (value_said value))
  value_answered old None = (refusal_text refusal.BadLine, old, (refl, refl))
  value_answered old (Some d) = said_answered old (command_of d)

  line_answered : (old : List Operations) (line : List ℕ) → HasAnswer (Answers ds rules old line)
  line_answered old line = by (has_line_length line)
    where
      by : (b : Bool) → HasAnswer (AnswersRead ds rules old (cond b (value_said (json_in line)) (Err fault.BadLine)))
      by true = value_answered old (json_in line)
      by false = (refusal_text refusal.BadLine, old, (refl, refl))

  lines_answered : (ls : List (List ℕ)) (old : List Operations) → (out : List ℕ) × AnswersAll ds rules ls old out
  lines_answered [] old = ([], refl)
  lines_answered (l ∷ ls) old = by (is_blank_line (without_return l)) (lines_answered ls)
    where
      by : (b : Bool) → ((now : List Operations) → (out : List ℕ) × AnswersAll ds rules ls now out)
          → (out : List ℕ) × MatchBool b (AnswersAll ds rules ls old out)
          (AnswersFirst ds rules old (without_return l) out (AnswersAll ds rules ls))
      by true more = more old
      by false more =
          let a = line_answered old (without_return l) in
          let rest = more a.1 in (
            a.0 ++ 10 ∷ rest.0,
            record {
              text = a.0;
              new = a.1;
              rest = rest.0;
              answers = a.2;
              more = rest.1;
              out_is =
                  refl;
            },
          )

pub answers_exist : NormalFormsExist → SummariesExist → AnswersExist
answers_exist rests exist ds rules lowers lines old = lines_answered exist ds rules
    (rests rules (rank_by ds) (lowers_rank_by ds rules lowers)) lines old
