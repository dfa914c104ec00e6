-- The codes of lists of operations and of leases.
use Rattle.std.specs.Prelude.{List}
use Rattle.std.specs.Coded.{Coded, coded×, coded_list}
use Rattle.chr_base.specs.working.Codes.{code, coded_atom}
use Rattle.chr_join.specs.declared.lease.Lease.{Lease}
use Rattle.chr_join.specs.contracts.lease.Lease.{the_row}
use Rattle.chr_ops.specs.Operations.{Operation}
use Rattle.chr_ops.specs.working.Codes.{coded_id}

abbrev pub coded_operations : Coded (List Operation)
coded_operations = coded_list (coded× coded_id (code coded_atom))

abbrev pub coded_lease_list : Coded (List Lease)
coded_lease_list = coded_list the_row.coded
