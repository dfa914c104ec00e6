-- What is told of a text is true of it.
use Rattle.std.specs.Prelude.{◌≡◌, ℕ, ◌⊎◌, List, [], ◌∷◌, ◌++◌, ◌≤◌, length, map, take, Ok, IfSome}
use Rattle.std.specs.List.{All}
use Rattle.chr_base.specs.declared.program.Program.{Program}
use Rattle.chr_base.specs.declared.rule.Rule.{Rule}
use Rattle.chr_base.specs.declared.derivation.Derivation.{Derivation}
use Rattle.chr_base.specs.declared.derivation.Step.{Step}
use Rattle.chr_base.specs.Stores.{Store, size}
use Rattle.chr_base.specs.Programs.{declarations, rules_of}
use Rattle.chr_weights.specs.Weights.{ProgramLowers, IsFirstNotLowered}
use Rattle.chr_weights.specs.WeighedPrograms.{program_of}
use Rattle.chr_weighing.specs.Weighings.{IsWeighing}
use Rattle.chr_rewrite.specs.Derivations.{LeadsTo}
use Rattle.chr_overlaps.specs.declared.cases.Case.{Case}
use Rattle.chr_overlaps.specs.declared.overlap.Overlap.{Overlap}
use Rattle.chr_overlaps.specs.OverlapLists.{AreOverlaps, IsOverlapOf}
use Rattle.chr_overlaps.specs.CaseLists.{AreCases, IsTooMany}
use Rattle.chr_join.specs.declared.refused.Cause.TheVariants as cause
use Rattle.chr_join.specs.declared.refused.Failure.{Failure}
use Rattle.chr_join.specs.AcceptedPrograms.{program_in, cases_of}
use Rattle.chr_join.specs.declared.coverage.Coverage.{Coverage}
use Rattle.chr_join.specs.declared.coverage.Coverage.TheVariants.{Joint, Sorted}
use Rattle.chr_join.specs.Verdicts.{IsAcceptedBy}
use Rattle.chr_join.specs.Explanations.{IsRefusalBy, ReplaysApart}
use Rattle.chr_read.specs.Meanings.{meaning_of}
use Rattle.chr_read.specs.ProgramTexts.{IsAnswer}
use Rattle.chr_diagnosis.specs.declared.limits.TheConstants.{MAX_TOLD_STEPS}
use Rattle.chr_diagnosis.specs.declared.peak.Peak.{Peak}
use Rattle.chr_diagnosis.specs.declared.ways.Ways.{Ways}
use Rattle.chr_diagnosis.specs.declared.diagnosis.Throng.{Throng}
use Rattle.chr_diagnosis.specs.declared.diagnosis.Counted.{Counted}
use Rattle.chr_diagnosis.specs.declared.diagnosis.Diagnosis.{Diagnosis}
use Rattle.chr_diagnosis.specs.declared.diagnosis.Diagnosis.TheVariants.{Text, NotLowered, Fails}
use Rattle.chr_diagnosis.specs.declared.diagnosis.Diagnosis.TheVariants.{TooManyCombinations, Accepted}
use Rattle.chr_faults.specs.BadClauses.{IsRefused, AreFaults, TellsFirst}

-- from s each step leads to the next of these stores
abbrev pub PassesThrough : List Rule → List Step → Store → List Store → Type 0
PassesThrough rules [] s stores = stores ≡ []
PassesThrough rules (st ∷ steps) s [] = ⊥
PassesThrough rules (st ∷ steps) s (t ∷ stores) = LeadsTo rules st s t × PassesThrough rules steps t stores

-- the stores after the first steps of the derivation
abbrev pub AreFirstStores : List Rule → Derivation → List Store → Type 0
AreFirstStores rules d stores = PassesThrough rules (take MAX_TOLD_STEPS d.steps.items) d.start stores

-- two derivations of one store that replay to different ends, and the first stores of both
pub record AreWaysOf (rules : List Rule) (w : Ways) : Type 0 where
  pub replays : ReplaysApart rules w.failure
  pub left : AreFirstStores rules w.failure.left w.left.items
  pub right : AreFirstStores rules w.failure.right w.right.items

-- the derivation begins with the step
abbrev pub BeginsWith : Step → Derivation → Type 0
BeginsWith st d = (rest : List Step) × (d.steps.items ≡ st ∷ rest)

-- f has a derivation of each side of the case c of the overlap o, and these replay to different ends
pub record IsFailureAt (rules : List Rule) (o : Overlap) (c : Case) (f : Failure) : Type 0 where
  pub overlap : f.overlap ≡ o
  pub start : f.left.start ≡ c.store
  pub left : BeginsWith c.left f.left
  pub right : BeginsWith c.right f.right
  pub replays : ReplaysApart rules f

-- f is that of some case of the overlap
abbrev pub IsFailureOf : List Rule → Overlap → Failure → Type 0
IsFailureOf rules o f =
    (before : List Case) × (c : Case) × (after : List Case) × AreCases rules o (before ++ c ∷ after)
    × IsFailureAt rules o c f

-- and its store has n atoms at most
abbrev pub IsSmallerFailureAt : List Rule → Overlap → Case → ℕ → Failure → Type 0
IsSmallerFailureAt rules o c n f = IsFailureAt rules o c f × (size f.left.start ≤ n)

abbrev pub IsSmallerFailureOf : List Rule → Overlap → ℕ → Failure → Type 0
IsSmallerFailureOf rules o n f = IsFailureOf rules o f × (size f.left.start ≤ n)

-- the same of some overlap of the rules
abbrev pub IsSmallerFailure : List Rule → ℕ → Failure → Type 0
IsSmallerFailure rules n f = (o : Overlap) × IsOverlapOf rules o × IsSmallerFailureOf rules o n f

-- both ways of a case of some overlap that fails, with no more atoms than another one
abbrev pub AreSmallerWays : List Rule → Failure → Ways → Type 0
AreSmallerWays rules f w = IsSmallerFailure rules (size f.left.start) w.failure × AreWaysOf rules w

-- the first case that fails, of those that a coverage has, and another one with no more atoms
pub record IsPeakBy (coverage : Coverage) (rules : List Rule) (p : Peak) : Type 0 where
  pub first : IsRefusalBy coverage rules (cause.Fails p.first.failure)
  pub ways : AreWaysOf rules p.first
  pub smaller : IfSome p.smaller (AreSmallerWays rules p.first.failure)

-- The number of the overlap's joint cases, or 0 where it has too many order types. Sorted cases are not counted by
-- overlaps.
abbrev pub IsCountedBy : Coverage → List Rule → Counted → Type 0
IsCountedBy Joint rules c = ((cs : List Case) × AreCases rules c.overlap cs × (c.cases ≡ length cs))
    ⊎ ((n : ℕ) × IsTooMany rules c.overlap n × (c.cases ≡ 0))
IsCountedBy Sorted rules c = c.cases ≡ 0

-- all overlaps, each with that number
pub record AreCountedBy (coverage : Coverage) (rules : List Rule) (counts : List Counted) : Type 0 where
  pub overlaps : AreOverlaps rules (map (λ c. c.overlap) counts)
  pub each : All (IsCountedBy coverage rules) counts

-- The first overlap of too many combinations of values. Where joint cases are too many, nothing is told by them.
abbrev pub IsThrongBy : Coverage → Program → Throng → Type 0
IsThrongBy Joint p t = ⊥
IsThrongBy Sorted p t =
    (program_of t.weighed ≡ p) × IsRefusalBy Sorted (rules_of p) (cause.TooManyTypes t.too_many)

-- what is told of a program by the cases that a coverage has
abbrev pub IsDiagnosisOf : Coverage → Program → Diagnosis → Type 0
IsDiagnosisOf coverage p (Text f) = ⊥
IsDiagnosisOf coverage p (NotLowered u) = (meaning_of u.program ≡ meaning_of p)
    × IsFirstNotLowered (declarations p) (rules_of p) u.fault.rule u.fault.before u.fault.after
    × IsWeighing u.program u.weighing
IsDiagnosisOf coverage p (Fails k) =
    (program_of k.weighed ≡ p) × ProgramLowers p × IsPeakBy coverage (rules_of p) k
IsDiagnosisOf coverage p (TooManyCombinations t) = ProgramLowers p × IsThrongBy coverage p t
IsDiagnosisOf coverage p (Accepted c) = (program_in c.accepted ≡ p) × ProgramLowers p
    × IsAcceptedBy coverage (rules_of p) (cases_of c.accepted) × AreCountedBy coverage (rules_of p) c.counts.items

-- what is told of a text: that it is no program, with its bad clauses, or what is told of its program
abbrev pub IsDiagnosis : Coverage → List ℕ → Diagnosis → Type 0
IsDiagnosis coverage text (Text f) = IsRefused text × AreFaults text f × TellsFirst text f
IsDiagnosis coverage text (NotLowered u) =
    (p : Program) × IsAnswer text (Ok p) × IsDiagnosisOf coverage p (NotLowered u)
IsDiagnosis coverage text (Fails k) = (p : Program) × IsAnswer text (Ok p) × IsDiagnosisOf coverage p (Fails k)
IsDiagnosis coverage text (TooManyCombinations t) =
    (p : Program) × IsAnswer text (Ok p) × IsDiagnosisOf coverage p (TooManyCombinations t)
IsDiagnosis coverage text (Accepted c) = (p : Program) × IsAnswer text (Ok p) × IsDiagnosisOf coverage p (Accepted c)
