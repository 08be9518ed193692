-- One held work over the acts of others: it stays out until it comes back.
use Rattle.std.proofs.Common.{◌≡◌, ℕ, true, false, Option, is_some, sym, ◌∙◌, ap}
use Rattle.std.specs.Prelude.{option_and_then}
use Rattle.il_machine.specs.World.{Component, World}
use Rattle.il_machine.specs.Acts.{Act, Reply}
use Rattle.il_machine.specs.Run.{Step, Meets}
use Rattle.il_machine.specs.Sound.{Sound}
use Rattle.machine_laws.proofs.Finding.{either}
use Rattle.history_laws.specs.Works.{has_work_out, returns_work, takes_work}
use Rattle.history_laws.proofs.Freed.{none_comes}
use Rattle.history_laws.proofs.HeldOut.{steps_held, steps_unchanged}
use Rattle.history_laws.proofs.KeyLaw.{steps_key}
use Rattle.il_graph.proofs.Returning.{still_known}
use Rattle.held_work_laws.specs.Works.{HeldWork, seen_of, IsHeld}

pub held_step : (w : World) (a : Act) (r : Reply) (v : World) (x : HeldWork) → Sound w → Meets w a → Step w a r v → returns_work x.handle.generation a r ≡ false → IsHeld w x → IsHeld v x
held_step w a r v x S M h n H = record {
  terms = H.terms;
  stream = H.stream;
  out = steps_held w a r v (seen_of H.terms x) H.stream S M h n H.out;
  set_so = H.set_so;
  kind = H.kind;
  file = H.file;
  unfailed = H.unfailed;
  gone = H.gone;
  headers = still_known w v 0 x.headers (steps_key w a r v S M h) (steps_unchanged w a r v (seen_of H.terms x) H.stream S M h n H.out) H.headers;
}

pub out_of : (w : World) (x : HeldWork) → IsHeld w x → has_work_out x.handle.generation w ≡ true
out_of w x H =
    let O = H.out in
    ap (λ (o : Option Component). is_some (option_and_then (λ (c : Component). c.work) o)) O.there ∙ ap is_some O.out

-- a work that the act didn't take out, and that is out behind it, was out before it
pub was_out : (w : World) (a : Act) (r : Reply) (v : World) (n : ℕ) → Sound w → Meets w a → Step w a r v → takes_work n a r ≡ false → has_work_out n v ≡ true → has_work_out n w ≡ true
was_out w a r v n S M h t e = either (has_work_out n w) (λ o. o) (λ f. let x : true ≡ false = sym e ∙ none_comes w a r v n S M h t f in absurd cc)
