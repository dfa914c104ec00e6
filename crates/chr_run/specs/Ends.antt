-- How a call ends at devices that may fail.
use Rattle.std.specs.Prelude.{◌≡◌, Bool, true, Result, OnOk, IsErrOf}
use Rattle.chr_device.specs.declared.fault.RunFault.{RunFault}
use Rattle.chr_device.specs.declared.fault.RunFault.TheVariants.{Device, Memory}

-- A device has failed just where the result says so: was it broken before, and is it afterwards?
pub record Ends {A : Type 0} (result : Result A RunFault) (was is : Bool) : Type 0 where
  pub whole : OnOk result (is ≡ was)
  pub device : IsErrOf result Device → is ≡ true
  pub memory : IsErrOf result Memory → is ≡ was
