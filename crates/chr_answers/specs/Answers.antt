-- What the replicas of a program answer to a command line, and the operations that they hold afterwards.
use Rattle.std.specs.Prelude.{◌≡◌, ℕ, ◌+◌, ◌-◌, ◌<◌, ◌≤◌, List, [], ◌∷◌, ◌++◌, nat_eq, codes, if◌then◌else◌}
use Rattle.std.specs.Prelude.{Option, Some, None, Result, Ok, Err, MatchOption, slice_get, slice_set}
use Rattle.std.specs.Bool.{MatchBool}
use Rattle.std.specs.FinMap as map
use Rattle.std.specs.Fmt.{decimal}
use Rattle.chr_base.specs.declared.atom.Atom.{Atom}
use Rattle.chr_base.specs.declared.rule.Rule.{Rule}
use Rattle.chr_base.specs.Stores.{Store, store_of, size}
use Rattle.chr_base.specs.Rules.{Step}
use Rattle.chr_base.specs.Rewriting.{IsNormalForm}
use Rattle.chr_base.specs.ProgramTests.{Declaration}
use Rattle.chr_base.specs.Texts.{store_text}
use Rattle.chr_ops.specs.declared.id.OpId.{OpId}
use Rattle.chr_ops.specs.declared.range.IdRange.{IdRange}
use Rattle.chr_ops.specs.Operations.{Operation, Operations, operations_of, told_store, told_atoms}
use Rattle.chr_ops.specs.Operations.{IsNew, IsHeld, IsHeldOtherwise}
use Rattle.chr_ops.specs.Joins.{union, ClashesAt, HasNoClash, IsOverLimit}
use Rattle.chr_ops.specs.Summaries.{CoversJust, IsApart, lacking}
use Rattle.chr_ops.specs.declared.limits.TheConstants.{MAX_TOLD}
use Rattle.chr_json.specs.Commands.{Said, show, tell, sync, summary, lacks, merge}
use Rattle.chr_json.specs.declared.command.DeltaVersion.{DeltaVersion}
use Rattle.chr_json.specs.declared.command.DeltaVersion.TheVariants as version
use Rattle.chr_json.specs.Lines.{is_blank_line}
use Rattle.chr_json.specs.Reads.{line_said}
use Rattle.chr_json.specs.declared.fault.LineFault.{LineFault}
use Rattle.chr_json.specs.declared.fault.LineFault.TheVariants as fault
use Rattle.chr_exchange.specs.Names.{named_atoms, declared_operations}
use Rattle.chr_exchange.specs.Texts.{summary_text, delta_text, delta_text_1}
use Rattle.chr_answers.specs.declared.reply.Refusal.{Refusal}
use Rattle.chr_answers.specs.declared.reply.Refusal.TheVariants as refusal
use Rattle.chr_answers.specs.Lines.{without_return}
use Rattle.chr_answers.specs.Replies.{refusal_text}

-- The operations of the replica of a number, where there is one: replicas have the numbers 1, 2, ..
abbrev pub held_by : List Operations → ℕ → Option Operations
held_by old r = if nat_eq r 0 then None else slice_get old (r - 1)

-- nothing changes, and this is the answer
abbrev pub AnswersRefusal : {A : Type 0} → Refusal → A → List ℕ → A → Type 0
AnswersRefusal r old text new = (text ≡ refusal_text r) × (new ≡ old)

-- The replica of a number, which holds m, answers, and then holds what the relation R gives. No other replica changes.
pub record OneAnswers (old : List Operations) (r : ℕ) (R : Operations → List ℕ → Operations → Type 0)
    (text : List ℕ) (new : List Operations) (m : Operations) : Type 0 where
  pub after : Operations
  pub answers : R m text after
  pub others : new ≡ slice_set old (r - 1) after

-- the replica of a number answers, where there is one
abbrev pub AnswersAt :
    List Operations → ℕ → (Operations → List ℕ → Operations → Type 0) → List ℕ → List Operations → Type 0
AnswersAt old r R text new =
    MatchOption (held_by old r) (AnswersRefusal refusal.NoReplica old text new) (OneAnswers old r R text new)

-- the text of a normal form of all atoms that were told
pub record ShowsNormalForm (ds : List Declaration) (rules : List Rule) (told : Store) (text : List ℕ) : Type 0 where
  pub store : Store
  pub normal_form : IsNormalForm (Step rules) told store
  pub text_is : text ≡ store_text ds store

abbrev pub AnswersShow : List Declaration → List Rule → Operations → List ℕ → Operations → Type 0
AnswersShow ds rules old text new = ShowsNormalForm ds rules (told_store old) text × (new ≡ old)

-- An operation that is held is not told again; one with the id of another is refused, and so is one that is too much.
pub record AnswersTell (op : Operation) (old : Operations) (text : List ℕ) (new : Operations) : Type 0 where
  pub again : IsHeld old op → (text ≡ codes "again") × (new ≡ old)
  pub clash : IsHeldOtherwise old op → AnswersRefusal refusal.Clash old text new
  pub full : IsNew old op → MAX_TOLD < size (told_store old) + size op.1 → AnswersRefusal refusal.Full old text new
  pub told : IsNew old op → size (told_store old) + size op.1 ≤ MAX_TOLD
      → (text ≡ codes "told") × (new ≡ map.insert old op.0 op.1)

-- Operations join those that are held, and the answer says how many are new; if they were too many, none joins.
pub record AnswersUnion (word : List ℕ) (ops : List Operation) (old : Operations) (text : List ℕ) (new : Operations)
    : Type 0 where
  pub full : IsOverLimit old ops → AnswersRefusal refusal.Full old text new
  pub joined : told_atoms (union old ops) ≤ MAX_TOLD
      → (text ≡ word ++ decimal (map.len (union old ops) - map.len old)) × (new ≡ union old ops)

-- none joins where one of them has the id of another
pub record AnswersMerge (ops : List Operation) (old : Operations) (text : List ℕ) (new : Operations) : Type 0 where
  pub clash : (i : ℕ) (id : OpId) → ClashesAt old ops i id → AnswersRefusal refusal.Clash old text new
  pub unites : HasNoClash old ops → AnswersUnion (codes "merged ") ops old text new

-- What another replica holds joins what this one holds: of an id that stands for another bag there, this one's stays.
abbrev pub AnswersSync : Operations → Operations → List ℕ → Operations → Type 0
AnswersSync from old text new = AnswersUnion (codes "synced ") (map.entries from) old text new

-- the ranges of the ids that are held, as long as possible
pub record AnswersSummary (old : Operations) (text : List ℕ) (new : Operations) : Type 0 where
  pub ranges : List IdRange
  pub apart : IsApart ranges
  pub just : CoversJust ranges old
  pub text_is : text ≡ summary_text ranges
  pub same : new ≡ old

abbrev pub delta_text_of : DeltaVersion → List Declaration → Operations → List ℕ
delta_text_of version.One ds m = delta_text_1 ds m
delta_text_of version.Two ds m = delta_text ds m

-- the operations whose ids these ranges do not cover
abbrev pub AnswersLacks :
    List Declaration → List IdRange → DeltaVersion → Operations → List ℕ → Operations → Type 0
AnswersLacks ds rs v old text new = (text ≡ delta_text_of v ds (operations_of (lacking old rs))) × (new ≡ old)

-- of an operation whose atoms are these, where the program declares them
abbrev pub AnswersAtoms :
    List Operations → ℕ → OpId → Option (List Atom) → List ℕ → List Operations → Type 0
AnswersAtoms old r id None text new = AnswersRefusal refusal.UnknownSymbol old text new
AnswersAtoms old r id (Some atoms) text new = AnswersAt old r (AnswersTell (id, store_of atoms)) text new

-- of operations, where the program declares their atoms
abbrev pub AnswersOperations :
    List Operations → ℕ → Option (List Operation) → List ℕ → List Operations → Type 0
AnswersOperations old r None text new = AnswersRefusal refusal.UnknownSymbol old text new
AnswersOperations old r (Some ops) text new = AnswersAt old r (AnswersMerge ops) text new

-- of the second replica, which is to have what the first one holds
abbrev pub AnswersBetween : List Operations → ℕ → ℕ → List ℕ → List Operations → Type 0
AnswersBetween old a b text new =
    MatchOption (held_by old a) (AnswersRefusal refusal.NoReplica old text new)
    (λ from. AnswersAt old b (AnswersSync from) text new)

abbrev pub AnswersSaid :
    List Declaration → List Rule → List Operations → Said → List ℕ → List Operations → Type 0
AnswersSaid ds rules old (show r) text new = AnswersAt old r (AnswersShow ds rules) text new
AnswersSaid ds rules old (tell r o n ws) text new =
    AnswersAtoms old r (record { origin = o; number = n }) (named_atoms ds ws) text new
AnswersSaid ds rules old (sync a b) text new = AnswersBetween old a b text new
AnswersSaid ds rules old (summary r) text new = AnswersAt old r AnswersSummary text new
AnswersSaid ds rules old (lacks r rs v) text new = AnswersAt old r (AnswersLacks ds rs v) text new
AnswersSaid ds rules old (merge r os) text new = AnswersOperations old r (declared_operations ds os) text new

abbrev pub AnswersRead :
    List Declaration → List Rule → List Operations → Result Said LineFault → List ℕ → List Operations → Type 0
AnswersRead ds rules old (Ok said) text new = AnswersSaid ds rules old said text new
AnswersRead ds rules old (Err fault.BadLine) text new = AnswersRefusal refusal.BadLine old text new
AnswersRead ds rules old (Err fault.Shape) text new = AnswersRefusal refusal.Shape old text new
AnswersRead ds rules old (Err fault.Memory) text new = ⊥

-- the answer of a line without its end, and the operations afterwards
abbrev pub Answers : List Declaration → List Rule → List Operations → List ℕ → List ℕ → List Operations → Type 0
Answers ds rules old line text new = AnswersRead ds rules old (line_said line) text new

-- one answer, and those of the lines after it
pub record AnswersFirst (ds : List Declaration) (rules : List Rule) (old : List Operations) (line out : List ℕ)
    (More : List Operations → List ℕ → Type 0) : Type 0 where
  pub text : List ℕ
  pub new : List Operations
  pub rest : List ℕ
  pub answers : Answers ds rules old line text new
  pub more : More new rest
  pub out_is : out ≡ text ++ 10 ∷ rest

-- the answers of lines, each with its line feed; blank lines have none
abbrev pub AnswersAll : List Declaration → List Rule → List (List ℕ) → List Operations → List ℕ → Type 0
AnswersAll ds rules [] old out = out ≡ []
AnswersAll ds rules (l ∷ ls) old out =
    MatchBool (is_blank_line (without_return l)) (AnswersAll ds rules ls old out)
    (AnswersFirst ds rules old (without_return l) out (AnswersAll ds rules ls))
