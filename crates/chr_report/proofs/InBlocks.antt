-- Blocks of lines, one after another.
use Rattle.std.proofs.Common.{◌≡◌, ℕ, true, List, [], ◌∷◌, ◌++◌, All}
use Rattle.std.proofs.Common.{refl, sym, ap, ◌∙◌, append_assoc, append-nil, subst}
use Rattle.std.proofs.lemmas.List.Elements.{All-tail}
use Rattle.std.specs.Bool.{OnTrue}
use Rattle.std.specs.Prelude.{Option, Some, string_bytes}
use Rattle.std.specs.Io.KnownBytes.{Appends, IsAtEnd}
use Rattle.std.proofs.KnownBytes.{Consumes-all, Consumes-nil, Consumes-trans}
use Rattle.chr_base.specs.declared.program.Program.{Program}
use Rattle.chr_base.specs.declared.rule.Rule.{Rule}
use Rattle.chr_base.specs.Programs.{declarations, rules_of}
use Rattle.chr_base.specs.ProgramTests.{Declaration}
use Rattle.chr_device.specs.Devices.{ReadsOn}
use Rattle.chr_ops.specs.Operations.{Operations}
use Rattle.chr_report.specs.declared.block.Block.{Block}
use Rattle.chr_report.specs.declared.blocks.Blocks.{Blocks}
use Rattle.chr_answers.specs.Lines.{lines}
use Rattle.chr_answers.specs.Answers.{AnswersAll}
use Rattle.chr_answers.specs.Lines.{AreWholeLines}
use Rattle.chr_answers.specs.Answered.{AnswersRest}
use Rattle.chr_report.specs.working.BlockLines.{lines_of}
use Rattle.chr_report.specs.working.Blocks.{AnswersFirst, AreWhole, IsInBlocks, ReadsBlocks}
use Rattle.chr_report.specs.working.Blocks.{blocks_of, left_of, lines_of_all}
use Rattle.chr_report.specs.working.Continuing.{AnswersUpTo}
use Rattle.chr_answers.specs.Services.{held, served, IsBetweenLines}
use Rattle.chr_answers.specs.Answered.{AnswersFront}
use Rattle.chr_report.specs.working.Serving.{AnswersInput}
use Rattle.chr_answers.proofs.Fronts.{front_begins, fronts_join}

-- ---- bytes

-- bytes are read, and then more
pub reads_both : (from mid to : Option (List ℕ)) (first left more : List ℕ) → ReadsOn from mid first left
    → ReadsOn mid to left more → ReadsOn from to first more
reads_both from mid to first left more r s = record {
  bytes = r.bytes ++ s.bytes;
  held = s.held ∙ ap (λ b. b ++ s.bytes) r.held ∙ append_assoc first r.bytes s.bytes;
  read = Consumes-trans from mid to r.bytes s.bytes r.read s.read;
}

-- bytes are read on after others
pub reads_after : (from to : Option (List ℕ)) (others left more : List ℕ) → ReadsOn from to left more
    → ReadsOn from to (others ++ left) (others ++ more)
reads_after from to others left more r = record {
  bytes = r.bytes;
  held = ap (λ b. others ++ b) r.held ∙ sym (append_assoc others left r.bytes);
  read = r.read;
}

-- ---- answers

module _ (ds : List Declaration) (rules : List Rule) where
  -- nothing is answered yet
  pub none_answered : (first left : List ℕ) (from : Option (List ℕ)) (start : List Operations) (before : List ℕ)
      → left ≡ first → AnswersUpTo ds rules first from from left start start before before
  none_answered first left from start before e = record {
    bytes = [];
    read = Consumes-nil from;
    front = [];
    out = [];
    are = append-nil first ∙ sym e;
    answers = front_begins ds rules start;
    written = sym (append-nil before);
  }

  module _ (first left : List ℕ) (from mid : Option (List ℕ)) (start now : List Operations) (before middle : List ℕ)
      (s : AnswersUpTo ds rules first from mid left start now before middle) where
    -- bytes are read on
    pub read_on : (to : Option (List ℕ)) (more : List ℕ) → ReadsOn mid to left more
        → AnswersUpTo ds rules first from to more start now before middle
    read_on to more r = record {
      bytes = s.bytes ++ r.bytes;
      read = Consumes-trans from mid to s.bytes r.bytes s.read r.read;
      front = s.front;
      out = s.out;
      are = sym (append_assoc first s.bytes r.bytes) ∙ ap (λ b. b ++ r.bytes) s.are
          ∙ append_assoc s.front left r.bytes ∙ ap (λ b. s.front ++ b) (sym r.held);
      answers = s.answers;
      written = s.written;
    }

    -- the lines with which what is left begins are answered
    pub front_answered : (front rest : List ℕ) (next : List Operations) (out after : List ℕ) → left ≡ front ++ rest
        → AnswersFront ds rules front now out next → after ≡ middle ++ out
        → AnswersUpTo ds rules first from mid rest start next before after
    front_answered front rest next out after cut f w = record {
      bytes = s.bytes;
      read = s.read;
      front = s.front ++ front;
      out = s.out ++ out;
      are = s.are ∙ ap (λ l. s.front ++ l) cut ∙ sym (append_assoc s.front front rest);
      answers = fronts_join ds rules s.front front s.out out start now next s.answers f;
      written = w ∙ ap (λ o. o ++ out) s.written ∙ append_assoc before s.out out;
    }

    -- all bytes are read, and what was left is answered
    pub input_answered : (after : List ℕ) → IsAtEnd mid → AnswersRest ds rules (lines left) now middle after
        → AnswersInput ds rules first from start (Appends (Some before) (Some after))
    input_answered after e a = record {
      input = s.bytes;
      is_read = Consumes-all from mid s.bytes [] s.bytes s.read e refl;
      answers = s.out ++ a.out;
      answered = subst (λ b. AnswersAll ds rules (lines b) start (s.out ++ a.out)) (sym s.are)
          (s.answers left a.out a.answers);
      is_written = a.out_is ∙ ap (λ o. o ++ a.out) s.written ∙ append_assoc before s.out a.out;
    }

-- ---- blocks

-- the lines of blocks, with one block more at the end
pub lines_after : (bs : List Block) (b : Block)
    → lines_of_all (bs ++ b ∷ []) ≡ lines_of_all bs ++ lines_of b
lines_after [] b = append-nil (lines_of b)
lines_after (c ∷ bs) b =
    ap (λ l. lines_of c ++ l) (lines_after bs b)
    ∙ sym (append_assoc (lines_of c) (lines_of_all bs) (lines_of b))

-- what is left of blocks after one block more was read
pub left_after : (from to : Option (List ℕ)) (bs : List Block) (b : Block)
    (begun room next : List ℕ) → ReadsOn from to begun room → lines_of b ++ next ≡ room
    → ReadsOn from to (lines_of_all bs ++ begun) (lines_of_all (bs ++ b ∷ []) ++ next)
left_after from to bs b begun room next r e =
    subst (λ l. ReadsOn from to (lines_of_all bs ++ begun) l)
    (ap (λ l. lines_of_all bs ++ l) (sym e)
    ∙ sym (append_assoc (lines_of_all bs) (lines_of b) next)
    ∙ ap (λ l. l ++ next) (sym (lines_after bs b)))
    (reads_after from to (lines_of_all bs) begun room r)

-- blocks are read, and then more
pub blocks_both : (from mid to : Option (List ℕ)) (s t u : Blocks) → ReadsBlocks from mid s t
    → ReadsBlocks mid to t u → ReadsBlocks from to s u
blocks_both from mid to s t u r q = record {
  at = q.at ∙ r.at;
  read = reads_both from mid to (left_of s) (left_of t) (left_of u) r.read q.read;
  whole = λ w. q.whole (r.whole w);
  end = λ e. q.end (r.end e);
}

module _ (s t : Blocks) (begun : t.begun ≡ s.begun) (ended : t.ended ≡ s.ended) (whole : AreWhole s) where
  -- where no block waits, nothing is answered
  pub none_first : t.at ≡ s.at → blocks_of s ≡ blocks_of t → IsBetweenLines s.at.service → AnswersFirst s t
  none_first at same ready =
      let ds = declarations (served s.at.service) in
      let rules = rules_of (served s.at.service) in
      record {
        ready = subst (λ a. IsBetweenLines a.service) (sym at) ready;
        program = ap (λ a. served a.service) at;
        front = [];
        out = [];
        are = ap (λ bs. lines_of_all bs ++ s.begun.items) same
            ∙ ap (λ v. lines_of_all (blocks_of t) ++ v.items) (sym begun);
        answers = subst (λ a. AnswersFront ds rules [] (held s.at.service) [] (held a.service)) (sym at)
            (front_begins ds rules (held s.at.service));
        written = ap (λ a. string_bytes a.out) at ∙ sym (append-nil (string_bytes s.at.out));
        whole = subst (All (λ b. AreWholeLines (lines_of b))) same whole;
        ended = ended;
      }

  -- the lines of the first block are answered
  pub first_answered : (b : Block) (out : List ℕ) → blocks_of s ≡ b ∷ blocks_of t → IsBetweenLines t.at.service
      → served t.at.service ≡ served s.at.service
      → AnswersFront (declarations (served s.at.service)) (rules_of (served s.at.service)) (lines_of b)
      (held s.at.service) out (held t.at.service) → string_bytes t.at.out ≡ string_bytes s.at.out ++ out
      → AnswersFirst s t
  first_answered b out first ready program answers written = record {
    ready = ready;
    program = program;
    front = lines_of b;
    out = out;
    are = ap (λ bs. lines_of_all bs ++ s.begun.items) first
        ∙ append_assoc (lines_of b) (lines_of_all (blocks_of t)) s.begun.items
        ∙ ap (λ v. lines_of b ++ (lines_of_all (blocks_of t) ++ v.items)) (sym begun);
    answers = answers;
    written = written;
    whole = All-tail (λ c. AreWholeLines (lines_of c)) b (blocks_of t)
        (subst (All (λ c. AreWholeLines (lines_of c))) first whole);
    ended = ended;
  }

module _ (p : Program) (first : List ℕ) (from mid : Option (List ℕ)) (start : List Operations) (before : List ℕ)
    (s t : Blocks) (is : IsInBlocks p first from mid start before s) where
  -- blocks are read on
  pub reads_in_blocks : (to : Option (List ℕ)) → ReadsBlocks mid to s t → IsInBlocks p first from to start before t
  reads_in_blocks to r =
      let read = read_on (declarations p) (rules_of p) first (left_of s) from mid start (held s.at.service) before
      (string_bytes s.at.out) is.answered to (left_of t) r.read in
      record {
        ready = subst (λ a. IsBetweenLines a.service) (sym r.at) is.ready;
        program = ap (λ a. served a.service) r.at ∙ is.program;
        whole = r.whole is.whole;
        answered = subst (λ a. AnswersUpTo (declarations p) (rules_of p) first from to (left_of t) start
            (held a.service) before (string_bytes a.out)) (sym r.at) read;
        end = r.end is.end;
      }

  -- the first bytes stay answered in part, where the lines of the first block are answered
  pub answers_in_blocks : AnswersFirst s t → IsInBlocks p first from mid start before t
  answers_in_blocks a = record {
    ready = a.ready;
    program = a.program ∙ is.program;
    whole = a.whole;
    answered = front_answered (declarations p) (rules_of p) first (left_of s) from mid start (held s.at.service) before
        (string_bytes s.at.out) is.answered a.front (left_of t) (held t.at.service) a.out (string_bytes t.at.out) a.are
        (subst (λ q. AnswersFront (declarations q) (rules_of q) a.front (held s.at.service) a.out (held t.at.service))
        is.program a.answers) a.written;
    end = subst (λ e. OnTrue e (IsAtEnd mid)) (sym a.ended) is.end;
  }

-- the input is answered where all is read, no block waits, and what comes after the last block is answered
pub ends_in_blocks : (p : Program) (first : List ℕ) (from to : Option (List ℕ)) (start : List Operations)
    (before after : List ℕ) (s : Blocks) → IsInBlocks p first from to start before s → s.ended ≡ true
    → blocks_of s ≡ []
    → AnswersRest (declarations (served s.at.service)) (rules_of (served s.at.service)) (lines s.begun.items)
    (held s.at.service) (string_bytes s.at.out) after
    → AnswersInput (declarations p) (rules_of p) first from start (Appends (Some before) (Some after))
ends_in_blocks p first from to start before after s is ended none a =
    input_answered (declarations p) (rules_of p) first (left_of s) from to start (held s.at.service) before
    (string_bytes s.at.out) is.answered after (subst (λ e. OnTrue e (IsAtEnd to)) ended is.end)
    (subst (λ q. AnswersRest (declarations q) (rules_of q) (lines (left_of s)) (held s.at.service)
    (string_bytes s.at.out) after) is.program
    (subst (λ l. AnswersRest (declarations (served s.at.service)) (rules_of (served s.at.service)) (lines l)
    (held s.at.service) (string_bytes s.at.out) after) (ap (λ bs. lines_of_all bs ++ s.begun.items) (sym none)) a))
