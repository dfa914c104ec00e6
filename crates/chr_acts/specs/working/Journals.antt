-- The code of lists of entries.
use Rattle.std.specs.Prelude.{List}
use Rattle.std.specs.Coded.{Coded, coded_list}
use Rattle.chr_acts.specs.declared.entry.Entry.{Entry}
use Rattle.chr_acts.specs.contracts.entry.Entry.{the_row}

abbrev pub coded_journal : Coded (List Entry)
coded_journal = coded_list the_row.coded
