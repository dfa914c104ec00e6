use Rattle.std.proofs.Common.{◌≡◌, ◌++◌, ℕ, List, take}
use Rattle.std.specs.String.{string_bytes}
use Rattle.chr_node_talk.specs.Lines.{Answered}
use Rattle.chr_node_talk.specs.Talks.{moment_of, run_of, Stays}
use Rattle.chr_node_talk.proofs.machine.NodeMachine.answer_lines.Given as goal

abbrev pub invariant-loop-byte : goal.invariant-loop-byte
invariant-loop-byte g l = record {
  answers :
      (more : List ℕ) × (string_bytes l.text ≡ string_bytes l.fn.text ++ more)
      × Answered (run_of g.H.Holder.program l.fn.self.talk) (moment_of g.H.Holder.operations l.fn.self.talk)
      l.fn.self.begun.items (take l.byte-index l.bytes) more l.self.begun.items
      (moment_of g.H.Holder.operations l.self.talk);
  stays :
      Stays g.D.Disk.seen g.H.Holder.operations g.H.Holder.program g.F.Folder.is_clean l.fn.self.talk l.self.talk;
}
