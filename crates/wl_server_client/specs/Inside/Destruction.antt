-- What the function that destroys objects says to its caller.
use Rattle.std.specs.Prelude.{Bool, true, false, Result, Err}
use Rattle.wl_server_client.specs.declared.error.DestroyError.{DestroyError}
use Rattle.wl_server_client.specs.declared.error.DestroyError.TheVariants as destroy

-- whether memory was refused, by the answer
abbrev pub lacks_destroy : Result (Unit {0}) DestroyError → Bool
lacks_destroy (Err destroy.OutOfMemory) = true
lacks_destroy _ = false
