-- What talks keep, call by call.
use Rattle.std.specs.Prelude.{◌≡◌, ℕ, List}
use Rattle.std.proofs.Common.{refl, ◌∙◌}
use Rattle.chr_base.specs.declared.program.Program.{Program}
use Rattle.chr_base.specs.Stores.{Store}
use Rattle.chr_ops.specs.Operations.{Operations}
use Rattle.chr_node.specs.declared.node.Node.{Node}
use Rattle.chr_node.specs.Nodes.{Keeps}
use Rattle.chr_node.proofs.Keeping.{keeps_alike, keeps_then}
use Rattle.chr_node_talk.specs.declared.talk.Talk.{Talk}
use Rattle.chr_node_talk.specs.Talks.{run_of, Stays}

module _ {D H F : Type 0} (seen : D → List ℕ) (operations : H → Operations) (program : H → Program)
    (is_clean : F → Type 0) where
  -- it is the same run
  pub same_run : (a b : Talk D H F) → Stays seen operations program is_clean a b → run_of program b ≡ run_of program a
  same_run a b stays =
      λ i. record {
        program = stays.keeps.same_program i;
        origin = stays.keeps.same_origin i;
        before = stays.before i;
      }

  -- a talk that nothing has changed
  pub stays_same : (t : Talk D H F) → Stays seen operations program is_clean t t
  stays_same t = record {
    keeps = keeps_alike seen operations program (is_clean t.folder) t.node t.node refl refl refl refl refl refl;
    feed = refl;
    before = refl;
    clean = λ is. is;
  }

  -- its node's holder has changed, and holds the same
  pub stays_held : (t : Talk D H F) (h : H) → operations h ≡ operations t.node.holder
      → program h ≡ program t.node.holder
      → Stays seen operations program is_clean t (record t { node = record t.node { holder = h } })
  stays_held t h same declared = record {
    keeps =
        keeps_alike seen operations program (is_clean t.folder) t.node (record t.node { holder = h }) same declared refl
        refl refl refl;
    feed = refl;
    before = refl;
    clean = λ is. is;
  }

  -- what a call keeps that reads no other disk
  pub keeps_where : (clean : Type 0) (a b : Node D H) → Keeps seen operations program (Unit {0}) a b
      → Keeps seen operations program clean a b
  keeps_where clean a b keeps = record {
    grows = keeps.grows;
    files = λ _. keeps.files tt;
    owner = keeps.owner;
    same_program = keeps.same_program;
    same_origin = keeps.same_origin;
  }

  -- its node was told something
  pub stays_told : (t : Talk D H F) (n : Node D H) → Keeps seen operations program (Unit {0}) t.node n
      → n.feed ≡ t.node.feed → Stays seen operations program is_clean t (record t { node = n })
  stays_told t n keeps feeds = record {
    keeps = keeps_where (is_clean t.folder) t.node n keeps;
    feed = feeds;
    before = refl;
    clean = λ is. is;
  }

  -- the store that was told of has changed too
  pub stays_shown : (a b : Talk D H F) (store : Store) → Stays seen operations program is_clean a b
      → Stays seen operations program is_clean a (record b { shown = store })
  stays_shown a b store stays = record {
    keeps = stays.keeps;
    feed = stays.feed;
    before = stays.before;
    clean = stays.clean;
  }

  -- one call after another
  pub stays_then : (a b c : Talk D H F) → Stays seen operations program is_clean a b
      → Stays seen operations program is_clean b c → Stays seen operations program is_clean a c
  stays_then a b c one two = record {
    keeps =
        keeps_then seen operations program (is_clean b.folder) (is_clean c.folder) a.node b.node c.node two.clean
        one.keeps two.keeps;
    feed = two.feed ∙ one.feed;
    before = two.before ∙ one.before;
    clean = λ is. one.clean (two.clean is);
  }
