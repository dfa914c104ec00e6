-- Settled replicas, at the ends of runs, hold the one normal form of what was told.
use Rattle.std.proofs.Common.{◌≡◌, ℕ, refl, sym, ap, ◌∙◌, subst}
use Rattle.chr_base.specs.declared.program.Program.{Program}
use Rattle.chr_base.specs.Rules.{Step}
use Rattle.chr_base.specs.Programs.{rules_of}
use Rattle.chr_base.specs.Rewriting.{IsNormalForm}
use Rattle.chr_base.specs.Values.{HasValues}
use Rattle.chr_confluence.specs.Confluence.{Confluent}
use Rattle.chr_confluence.specs.laws.Parts.{PartsDetermine}
use Rattle.chr_join.specs.Parts.{IsOnlyNormalForm}
use Rattle.chr_ops.specs.Operations.{told_store}
use Rattle.chr_replica.specs.Replicas.{Replica, IsSound, IsSettled}
use Rattle.chr_replica.specs.Laws.{FirstIsSound, OneAnswer}
use Rattle.chr_worlds.specs.Laws.{RunsKeep, ComesAbout, ReplicasAgree, PartsAgree, AgreeAt}
use Rattle.chr_worlds.specs.Worlds.{Replicas, IsAt}
use Rattle.chr_worlds.proofs.Keeping.{holds_at, one_at}

-- a replica that comes about is sound
comes_sound : RunsKeep → FirstIsSound → (p : Program) (s : Replica) → ComesAbout p s → IsSound p s
comes_sound keep first p s h =
    holds_at (IsSound p) h.world h.number s
    (keep p h.start h.events h.answers h.world h.run (λ k d l. subst (IsSound p) (sym (h.untold k d l)) (first p)))
    h.there

pub replicas_agree : RunsKeep → FirstIsSound → OneAnswer → ReplicasAgree
replicas_agree keep first one p q s t same confluent values hs ht equal settled settled' =
    one p q s t same confluent values equal (comes_sound keep first p s hs) (comes_sound keep first q t ht) settled
    settled'

pub parts_agree : ReplicasAgree → PartsDetermine → PartsAgree
parts_agree agree determine p s ss ts t confluent values hs settled whole rested rests =
    determine (rules_of p) ss ts t s.pool confluent (subst HasValues (sym whole) values) rested rests
    (subst (λ m. IsNormalForm (Step (rules_of p)) m s.pool) (sym whole)
    (agree p p s s (refl, refl) confluent values hs hs refl settled settled).1)

-- ---- replicas of one world

pub agree_at : OneAnswer → (p : Program) (w : Replicas) (a b : ℕ) (s t : Replica) → Confluent (rules_of p)
    → HasValues (told_store s.operations) → IsSound p s → IsSound p t → IsAt w a s → IsAt w b t → AgreeAt p w a b
agree_at one p w a b s t confluent values sound sound' here there s' t' here' there' equal settled settled' =
    let e : s' ≡ s = one_at w a s' s here' here in
    let f : t' ≡ t = one_at w b t' t there' there in
    let held = sym (ap (λ r. r.operations) e) ∙ equal ∙ ap (λ r. r.operations) f in
    let g = one p p s t (refl, refl) confluent values held sound sound' (subst (IsSettled p) e settled)
    (subst (IsSettled p) f settled') in (
      ap (λ r. r.pool) e ∙ g.0 ∙ sym (ap (λ r. r.pool) f),
      subst (λ r. IsOnlyNormalForm (rules_of p) (told_store r.operations) r.pool) (sym e)
          (record { normal = g.1; only = g.2 }),
    )
