-- Parts that come back after given steps.
use Rattle.std.specs.Prelude.{◌≡◌, ◌≢◌, ℕ, List, Some, map as each}
use Rattle.std.proofs.Common.{refl, sym, ap, ◌∙◌, subst}
use Rattle.std.specs.FinMap as map
use Rattle.chr_base.specs.declared.derivation.Step.{Step}
use Rattle.chr_base.specs.declared.program.Program.{Program}
use Rattle.chr_base.specs.Programs.{declarations, rules_of}
use Rattle.chr_base.specs.Sameness.{parts_of}
use Rattle.chr_base.specs.Stores.{Store}
use Rattle.chr_weights.specs.WeighedPrograms.{program_of}
use Rattle.chr_weights.specs.declared.weighed.Weighed.{Weighed}
use Rattle.chr_rewrite.specs.Derivations.{IsDerivation, IsFirstInapplicable}
use Rattle.chr_join.specs.declared.lease.Lease.{Lease}
use Rattle.chr_join.specs.Parts.{Finished, IsDoneOf}
use Rattle.chr_replica.specs.declared.refusal.Refusal.{Refusal}
use Rattle.chr_replica.specs.declared.refusal.Refusal.TheVariants as refusal
use Rattle.chr_replica.specs.Refusals.{RefusesPut, RefusesRecall}
use Rattle.chr_replica.specs.Replicas.{Replica, Puts}
use Rattle.chr_acts.specs.declared.reply.Reply.TheVariants as reply
use Rattle.chr_worlds.specs.Worlds.{Works}
use Rattle.chr_worlds.specs.working.Boards.{IsWorked}

-- no part is out under the number
pub not_out : (p : Program) (s : Replica) (number : ℕ) (steps : List Step) (e : Refusal) → RefusesRecall s number e
    → e ≢ refusal.Memory → Works p s number steps (reply.Refused e) s
not_out p s number steps (refusal.NoLease k) h n = (h, refl)
not_out p s number steps refusal.Memory h n = absurd (n refl)
not_out p s number steps _ h n = absurd h

-- a step isn't there
pub not_there : (p : Program) (s : Replica) (number : ℕ) (steps : List Step) (part : Store) (k : ℕ) (e : Refusal)
    → map.get s.out number ≡ Some part → IsFirstInapplicable (rules_of p) steps part k → e ≡ refusal.NotThere
    → Works p s number steps (reply.Refused e) s
not_there p s number steps part k e out first is =
    subst (λ e. Works p s number steps (reply.Refused e) s) (sym is) (part, k, out, first, refl)

-- steps were taken on a copy of the lease
pub worked : (p : Program) (s : Replica) (number : ℕ) (steps : List Step) (w : Weighed) (lease : Lease) (d : Finished)
    → program_of w ≡ p → lease.number ≡ number → map.get s.out number ≡ Some lease.part → IsDoneOf w lease d
    → IsDerivation (rules_of p) steps lease.part d.result → IsWorked p s number steps d
worked p s number steps w lease d own numbered out done end = record {
  program = ap program_of done.weighed ∙ own;
  out = out ∙ ap Some (sym done.part);
  numbered = done.number ∙ numbered;
  end = subst (λ m. IsDerivation (rules_of p) steps m d.result) (sym done.part) end;
}

-- what came of it under the replica's own program is refused for want of memory alone
pub taken_back : (p : Program) (s : Replica) (number : ℕ) (steps : List Step) (d : Finished) (e : Refusal)
    → IsWorked p s number steps d → RefusesPut p s (program_of d.weighed) d.number d.part e → e ≢ refusal.Memory
    → Works p s number steps (reply.Refused e) s
taken_back p s number steps d (refusal.NoLease k) h refuses n =
    absurd (refuses.1 (ap (map.get s.out) h.numbered ∙ h.out))
taken_back p s number steps d refusal.ForeignProgram h refuses n =
    absurd (refuses.1 (ap declarations h.program, ap (λ q. each parts_of (rules_of q)) h.program))
taken_back p s number steps d refusal.Memory h refuses n = absurd (n refl)
taken_back p s number steps d _ h refuses n = absurd refuses

-- what comes of it is put
pub comes_back : (p : Program) (s : Replica) (number : ℕ) (steps : List Step) (d : Finished) (t : Replica)
    → IsWorked p s number steps d → Puts p s d.number d.part d.result t → Works p s number steps reply.WasPut t
comes_back p s number steps d t h puts =
    (d.part, d.result, h.end, subst (λ k. Puts p s k d.part d.result t) h.numbered puts)
