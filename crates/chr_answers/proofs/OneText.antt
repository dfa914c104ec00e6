-- Two texts that answer the same lines are one, line by line.
use Rattle.std.proofs.Common.{◌≡◌, ℕ, ◌+◌, ◌-◌, Bool, true, false, List, [], ◌∷◌, ◌++◌, Some, None, Option, Result, Ok}
use Rattle.std.proofs.Common.{Err, refl, sym, ap, subst, ◌∙◌, inl, inr, nat_eq, codes, IfSome, IfOk}
use Rattle.std.specs.Prelude.{◌≢◌, IsSomeAnd, MatchOption, All, cond, slice_get, slice_set, replicate}
use Rattle.std.specs.Bool.{MatchBool}
use Rattle.std.specs.Fmt.{decimal}
use Rattle.std.proofs.lemmas.Bool.{cases_lt}
use Rattle.std.proofs.lemmas.Option.{none-some, slice_get_within, get_or_from_slice_get}
use Rattle.std.proofs.lemmas.List.Elements.{All-set, All-replicate}
use Rattle.std.specs.FinMap as finite
use Rattle.chr_base.specs.declared.atom.Atom.{Atom}
use Rattle.chr_base.specs.declared.rule.Rule.{Rule}
use Rattle.chr_base.specs.Stores.{Store, store_of, size}
use Rattle.chr_base.specs.ProgramTests.{Declaration}
use Rattle.chr_base.specs.Texts.{store_text}
use Rattle.chr_base.specs.Values.{HasValues}
use Rattle.chr_base.proofs.SameStores.{same_or}
use Rattle.chr_confluence.specs.Confluence.{Confluent}
use Rattle.chr_ops.specs.declared.id.OpId.{OpId}
use Rattle.chr_ops.specs.declared.limits.TheConstants.{MAX_TOLD}
use Rattle.chr_ops.specs.Operations.{Operation, Operations, operations_of, told_store, told_atoms}
use Rattle.chr_ops.specs.Joins.{union}
use Rattle.chr_ops.specs.Summaries.{SummariesAreOne, lacking}
use Rattle.chr_ops.proofs.Clashes.{clash_or_none}
use Rattle.chr_ops.proofs.ToldValues.{HaveValues, entries_have_values, union_has_values}
use Rattle.chr_json.specs.declared.fault.LineFault.{LineFault}
use Rattle.chr_json.specs.declared.fault.LineFault.TheVariants as fault
use Rattle.chr_json.specs.Commands.{Said, show, tell, sync, summary, lacks, merge}
use Rattle.chr_json.specs.Lines.{is_blank_line}
use Rattle.chr_json.proofs.Ranges.{HasFittingArguments, line_fits}
use Rattle.chr_json.specs.Reads.{line_said}
use Rattle.chr_exchange.specs.Names.{named_atoms, declared_operations}
use Rattle.chr_exchange.specs.Texts.{summary_text}
use Rattle.chr_answers.specs.Lines.{without_return}
use Rattle.chr_answers.specs.declared.reply.Refusal.TheVariants as refusal
use Rattle.chr_answers.specs.Replies.{refusal_text}
use Rattle.chr_answers.specs.Answers.{held_by, AnswersRefusal, OneAnswers, AnswersAt, ShowsNormalForm, AnswersShow}
use Rattle.chr_answers.specs.Answers.{AnswersTell, AnswersUnion, AnswersMerge, AnswersSync, AnswersSummary}
use Rattle.chr_answers.specs.Answers.{delta_text_of, AnswersLacks, AnswersAtoms, AnswersOperations, AnswersBetween}
use Rattle.chr_answers.specs.Answers.{AnswersRead, Answers, AnswersFirst, AnswersAll}
use Rattle.chr_answers.specs.OneText.{AnswersAreOne, FirstAnswersAreOne}
use Rattle.chr_answers.proofs.OneTextValues.{atoms_values, operations_values, told_values, nothing_told}

abbrev Valued : Operations → Type 0
Valued m = HasValues (told_store m)

abbrev AllValued : List Operations → Type 0
AllValued ms = All Valued ms

-- two answers and what is held after them, of which P holds
abbrev IsOne : {A : Type 0} → (A → Type 0) → (text other : List ℕ) (new next : A) → Type 0
IsOne P text other new next = (text ≡ other) × (new ≡ next) × P new

-- both are this text, and this is held
both_are : {A : Type 0} (P : A → Type 0) (text other : List ℕ) (new next : A) (u : List ℕ) (m : A) → P m → (text ≡ u)
    × (new ≡ m) → (other ≡ u) × (next ≡ m) → IsOne P text other new next
both_are P text other new next u m v h g = (h.0 ∙ sym g.0, h.1 ∙ sym g.1, subst P (sym h.1) v)

-- ---- one replica

-- an operation is new, held, or held otherwise
one_tell : (op : Operation) → HasValues op.1 → (old : Operations) → Valued old
    → (text other : List ℕ) (new next : Operations) → AnswersTell op old text new → AnswersTell op old other next
    → IsOne Valued text other new next
one_tell op w old v text other new next h g = by (finite.get old op.0) refl
  where
    by : (o : Option Store) → finite.get old op.0 ≡ o → IsOne Valued text other new next
    by None e =
        elim (cases_lt MAX_TOLD (size (told_store old) + size op.1)) as (λ _. IsOne Valued text other new next) [
          | inl over ↦ both_are Valued text other new next (refusal_text refusal.Full) old v (h.full e over)
              (g.full e over)
          | inr room ↦ both_are Valued text other new next (codes "told") (finite.insert old op.0 op.1)
              (told_values old op.0 op.1 e v w) (h.told e room) (g.told e room)
        ]
    by (Some s) e =
        elim (same_or s op.1) as (λ _. IsOne Valued text other new next) [
          | inl same ↦ (let held : finite.get old op.0 ≡ Some op.1 = e ∙ ap Some same in
              both_are Valued text other new next (codes "again") old v (h.again held) (g.again held))
          | inr apart ↦
              (let clash : IsSomeAnd (finite.get old op.0) (λ b. b ≢ op.1) =
              subst (λ o. IsSomeAnd o (λ b. b ≢ op.1)) (sym e) apart in
              both_are Valued text other new next (refusal_text refusal.Clash) old v (h.clash clash) (g.clash clash))
        ]

-- there is room for all, or not
one_union : (word : List ℕ) (ops : List Operation) → HaveValues ops → (old : Operations) → Valued old
    → (text other : List ℕ) (new next : Operations) → AnswersUnion word ops old text new
    → AnswersUnion word ops old other next → IsOne Valued text other new next
one_union word ops w old v text other new next h g =
    elim (cases_lt MAX_TOLD (told_atoms (union old ops))) as (λ _. IsOne Valued text other new next) [
      | inl over ↦ both_are Valued text other new next (refusal_text refusal.Full) old v (h.full over) (g.full over)
      | inr room ↦ both_are Valued text other new next (word ++ decimal (finite.len (union old ops) - finite.len old))
          (union old ops) (union_has_values old ops v w) (h.joined room) (g.joined room)
    ]

-- one of them clashes, or none does
one_merge : (ops : List Operation) → HaveValues ops → (old : Operations) → Valued old
    → (text other : List ℕ) (new next : Operations) → AnswersMerge ops old text new → AnswersMerge ops old other next
    → IsOne Valued text other new next
one_merge ops w old v text other new next h g =
    elim (clash_or_none old ops) as (λ _. IsOne Valued text other new next) [
      | inl c ↦ both_are Valued text other new next (refusal_text refusal.Clash) old v (h.clash c.0 c.1 c.2)
          (g.clash c.0 c.1 c.2)
      | inr none ↦ one_union (codes "merged ") ops w old v text other new next (h.unites none) (g.unites none)
    ]

one_summary : SummariesAreOne → (old : Operations) → Valued old → (text other : List ℕ) (new next : Operations)
    → AnswersSummary old text new → AnswersSummary old other next → IsOne Valued text other new next
one_summary are_one old v text other new next h g = (
  h.text_is ∙ ap summary_text (are_one old h.ranges g.ranges h.apart g.apart h.just g.just) ∙ sym g.text_is,
  h.same
      ∙ sym g.same,
  subst Valued (sym h.same) v,
)

-- the normal form that is shown is the only one
one_shown : (ds : List Declaration) (rules : List Rule) (told : Store) (text other : List ℕ) → Confluent rules
    → HasValues told → ShowsNormalForm ds rules told text → ShowsNormalForm ds rules told other → text ≡ other
one_shown ds rules told text other confluent v h g =
    h.text_is ∙ ap (store_text ds) (confluent told h.store g.store v h.normal_form g.normal_form) ∙ sym g.text_is

-- ---- of several replicas one

-- what a replica holds
value_held : (old : List Operations) (r : ℕ) (m : Operations) → AllValued old → held_by old r ≡ Some m → Valued m
value_held old r m v h = by (nat_eq r 0) h
  where
    by : (b : Bool) → cond b None (slice_get old (r - 1)) ≡ Some m → Valued m
    by true e = absurd (none-some m e)
    by false e = subst Valued (get_or_from_slice_get old (r - 1) m m e) (v (r - 1) m (slice_get_within old (r - 1) m e))

-- what is answered where this replica has the number, or none has
abbrev AnswersHeld : List Operations → ℕ → (Operations → List ℕ → Operations → Type 0) → List ℕ → List Operations
    → Option Operations → Type 0
AnswersHeld old r R text new o = MatchOption o (AnswersRefusal refusal.NoReplica old text new)
    (OneAnswers old r R text new)

-- an answer of the replica of a number is one where each replica's is
one_at : (R : Operations → List ℕ → Operations → Type 0)
    → ((m : Operations) → Valued m → (text other : List ℕ) (new next : Operations) → R m text new → R m other next
    → IsOne Valued text other new next)
    → (old : List Operations) (r : ℕ) → AllValued old → (text other : List ℕ) (new next : List Operations)
    → AnswersAt old r R text new → AnswersAt old r R other next → IsOne AllValued text other new next
one_at R one old r v text other new next h g = by (held_by old r) refl h g
  where
    by : (o : Option Operations) → held_by old r ≡ o → AnswersHeld old r R text new o → AnswersHeld old r R other next o
        → IsOne AllValued text other new next
    by None e h g = both_are AllValued text other new next (refusal_text refusal.NoReplica) old v h g
    by (Some m) e h g =
        let same : IsOne Valued text other h.after g.after =
        one m (value_held old r m v e) text other h.after g.after h.answers g.answers in (
          same.0,
          h.others ∙ ap (slice_set old (r - 1)) same.1 ∙ sym g.others,
          subst AllValued (sym h.others)
              (All-set Valued old (r - 1) h.after same.2 v),
        )

-- what is answered by the second replica where the first one is this, or none
abbrev AnswersFrom : List Operations → ℕ → List ℕ → List Operations → Option Operations → Type 0
AnswersFrom old b text new o = MatchOption o (AnswersRefusal refusal.NoReplica old text new)
    (λ from. AnswersAt old b (AnswersSync from) text new)

one_between : (old : List Operations) (a b : ℕ) → AllValued old → (text other : List ℕ) (new next : List Operations)
    → AnswersBetween old a b text new → AnswersBetween old a b other next → IsOne AllValued text other new next
one_between old a b v text other new next h g = by (held_by old a) refl h g
  where
    by : (o : Option Operations) → held_by old a ≡ o → AnswersFrom old b text new o → AnswersFrom old b other next o
        → IsOne AllValued text other new next
    by None e h g = both_are AllValued text other new next (refusal_text refusal.NoReplica) old v h g
    by (Some from) e h g =
        one_at (AnswersSync from) (one_union (codes "synced ") (finite.entries from)
        (entries_have_values from (value_held old a from v e))) old b v text other new next h g

one_atoms : (old : List Operations) (r : ℕ) (id : OpId) (atoms : Option (List Atom)) (text other : List ℕ)
    (new next : List Operations) → AllValued old → IfSome atoms (λ xs. HasValues (store_of xs))
    → AnswersAtoms old r id atoms text new → AnswersAtoms old r id atoms other next
    → IsOne AllValued text other new next
one_atoms old r id None text other new next v w h g = both_are AllValued text other new next
    (refusal_text refusal.UnknownSymbol) old v h g
one_atoms old r id (Some atoms) text other new next v w h g =
    one_at (AnswersTell (id, store_of atoms)) (one_tell (id, store_of atoms) w) old r v text other new next h g

one_operations : (old : List Operations) (r : ℕ) (ops : Option (List Operation)) (text other : List ℕ)
    (new next : List Operations) → AllValued old → IfSome ops HaveValues
    → AnswersOperations old r ops text new → AnswersOperations old r ops other next
    → IsOne AllValued text other new next
one_operations old r None text other new next v w h g =
    both_are AllValued text other new next (refusal_text refusal.UnknownSymbol) old v h g
one_operations old r (Some ops) text other new next v w h g =
    one_at (AnswersMerge ops) (one_merge ops w) old r v text other new next h g

-- ---- lines

module _ (are_one : SummariesAreOne) (ds : List Declaration) (rules : List Rule) (confluent : Confluent rules) where
  one_show : (old : Operations) → Valued old → (text other : List ℕ) (new next : Operations)
      → AnswersShow ds rules old text new → AnswersShow ds rules old other next → IsOne Valued text other new next
  one_show old v text other new next h g =
      (one_shown ds rules (told_store old) text other confluent v h.0 g.0, h.1 ∙ sym g.1, subst Valued (sym h.1) v)

  one_read : (old : List Operations) (read : Result Said LineFault) (text other : List ℕ) (new next : List Operations)
      → AllValued old → IfOk read HasFittingArguments
      → AnswersRead ds rules old read text new → AnswersRead ds rules old read other next
      → IsOne AllValued text other new next
  one_read old (Ok (show r)) text other new next v w h g =
      one_at (AnswersShow ds rules) one_show old r v text other new next h g
  one_read old (Ok (tell r o n ws)) text other new next v w h g = one_atoms old r (record { origin = o; number = n })
      (named_atoms ds ws) text other new next v (atoms_values ds ws w) h g
  one_read old (Ok (sync a b)) text other new next v w h g = one_between old a b v text other new next h g
  one_read old (Ok (summary r)) text other new next v w h g =
      one_at AnswersSummary (one_summary are_one) old r v text other new next h g
  one_read old (Ok (lacks r rs version)) text other new next v w h g =
      one_at (AnswersLacks ds rs version) (λ m u text other new next h g. both_are Valued text other new next
      (delta_text_of version ds (operations_of (lacking m rs))) m u h g) old r v text other new next h g
  one_read old (Ok (merge r os)) text other new next v w h g =
      one_operations old r (declared_operations ds os) text other new next v (operations_values ds os w) h g
  one_read old (Err fault.Memory) text other new next v w h g = absurd h
  one_read old (Err fault.BadLine) text other new next v w h g =
      both_are AllValued text other new next (refusal_text refusal.BadLine) old v h g
  one_read old (Err fault.Shape) text other new next v w h g =
      both_are AllValued text other new next (refusal_text refusal.Shape) old v h g

  one_answer : (old : List Operations) (line text other : List ℕ) (new next : List Operations) → AllValued old
      → Answers ds rules old line text new → Answers ds rules old line other next → IsOne AllValued text other new next
  one_answer old line text other new next v h g = one_read old (line_said line) text other new next v
      (line_fits line) h g

  all_one : (lines : List (List ℕ)) (old : List Operations) → AllValued old → (out other : List ℕ)
      → AnswersAll ds rules lines old out → AnswersAll ds rules lines old other → out ≡ other
  all_one [] old v out other h g = h ∙ sym g
  all_one (l ∷ ls) old v out other h g = by (is_blank_line (without_return l)) h g (all_one ls)
    where
      by : (b : Bool) → MatchBool b (AnswersAll ds rules ls old out)
          (AnswersFirst ds rules old (without_return l) out (AnswersAll ds rules ls))
          → MatchBool b (AnswersAll ds rules ls old other)
          (AnswersFirst ds rules old (without_return l) other (AnswersAll ds rules ls))
          → ((now : List Operations) → AllValued now → (out other : List ℕ) → AnswersAll ds rules ls now out
          → AnswersAll ds rules ls now other → out ≡ other) → out ≡ other
      by true h g more = more old v out other h g
      by false h g more =
          let one : IsOne AllValued h.text g.text h.new g.new =
          one_answer old (without_return l) h.text g.text h.new g.new v h.answers g.answers in
          let rest : h.rest ≡ g.rest = more h.new one.2 h.rest g.rest h.more
          (subst (λ o. AnswersAll ds rules ls o g.rest) (sym one.1) g.more) in
          h.out_is ∙ (λ i. one.0 i ++ 10 ∷ rest i) ∙ sym g.out_is

pub answers_are_one : SummariesAreOne → AnswersAreOne
answers_are_one are_one ds rules confluent lines old v out other h g =
    all_one are_one ds rules confluent lines old v out other h g

pub first_answers_are_one : SummariesAreOne → FirstAnswersAreOne
first_answers_are_one are_one ds rules confluent replicas lines out other h g =
    all_one are_one ds rules confluent lines (replicate replicas finite.empty)
    (All-replicate Valued replicas finite.empty nothing_told) out other h g
