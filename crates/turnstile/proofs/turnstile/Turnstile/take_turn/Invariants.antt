use Rattle.std.proofs.Common.{Some}
use Rattle.turnstile.proofs.turnstile.Turnstile.take_turn.Given as goal

abbrev pub ghosts-enter : goal.ghosts-enter
ghosts-enter g a = record { told = Some a.act.now }

abbrev pub ghosts-leave : goal.ghosts-leave
ghosts-leave g a = record { told = Some a.reply.now }
