-- No client has a header.
use Rattle.std.specs.Prelude.{◌≡◌, ◌≢◌, ℕ, Some}
use Rattle.il_machine.specs.declared.header.Home.TheVariants as homes
use Rattle.il_machine.specs.World.{HeaderRecord, World}
use Rattle.il_machine.specs.Headers.{find_header}

-- no header is at home with a client
abbrev pub HasNoClients : World → Type 0
HasNoClients w = (number : ℕ) (r : HeaderRecord) → find_header number w.headers ≡ Some r → r.state.home ≢ homes.Client
