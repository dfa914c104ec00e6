use Rattle.chr_worlds.proofs.board_list.BoardList.open.Goals as goal

pub invariant_of-result : goal.invariant_of-result
invariant_of-result c = λ a b m n at_a at_b. c.new-news.ensures a b m n
