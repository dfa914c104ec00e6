-- A node hears, one file after another.
use Rattle.std.specs.Prelude.{◌≡◌, ℕ, Bool, List}
use Rattle.std.proofs.Common.{refl, ◌∙◌}
use Rattle.chr_base.specs.declared.program.Program.{Program}
use Rattle.chr_ops.specs.Operations.{Operations}
use Rattle.chr_node.specs.declared.node.Node.{Node}
use Rattle.chr_node.specs.Nodes.{IsCommitted, IsOwner, Keeps}
use Rattle.chr_node.proofs.Keeping.{keeps_alike, keeps_then}
use Rattle.chr_node_talk.specs.Talks.{IsReady}
use Rattle.chr_node_start.specs.working.Hearing.{Hears}

module _ {D H : Type 0} (seen : D → List ℕ) (operations : H → Operations) (program : H → Program) where
  pub kept_none : (n : Node D H) → Keeps seen operations program (Unit {0}) n n
  kept_none n = keeps_alike seen operations program (Unit {0}) n n refl refl refl refl refl refl

  pub kept_heard : (a b : Node D H) → Hears seen operations program a b → Keeps seen operations program (Unit {0}) a b
  kept_heard a b heard = heard.keeps

  pub hears_none : (n : Node D H) → Hears seen operations program n n
  hears_none n = record {
    keeps = kept_none n;
    feed = refl;
    last = refl;
  }

  pub hears_then : (a b c : Node D H) → Hears seen operations program a b → Hears seen operations program b c
      → Hears seen operations program a c
  hears_then a b c one two = record {
    keeps = keeps_then seen operations program (Unit {0}) (Unit {0}) a b c (λ u. u) one.keeps two.keeps;
    feed = two.feed ∙ one.feed;
    last = two.last ∙ one.last;
  }

  pub hears_taken : (clean : Type 0) (a b : Node D H) → clean → Keeps seen operations program clean a b
      → b.feed ≡ a.feed → b.last ≡ a.last → Hears seen operations program a b
  hears_taken clean a b is keeps feeds lasts = record {
    keeps = record {
      grows = keeps.grows;
      files = λ _. keeps.files is;
      owner = keeps.owner;
      same_program = keeps.same_program;
      same_origin = keeps.same_origin;
    };
    feed = feeds;
    last = lasts;
  }

  pub begun_ready : (may_leave : D → List ℕ → Type 0) (is_usable : D → Bool) (n : Node D H)
      → IsCommitted seen may_leave is_usable n → IsOwner seen operations program n
      → IsReady seen may_leave is_usable operations program n
  begun_ready may_leave is_usable n committed owner = record { committed = committed; owner = owner }
