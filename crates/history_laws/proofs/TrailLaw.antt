-- The trails of each step, and of a run.
use Rattle.std.proofs.Common.{◌≡◌, ℕ, Option, List, [], ◌∷◌, ◌++◌, refl, ap, append_assoc}
use Rattle.std.proofs.lemmas.List.{append-nil}
use Rattle.il_machine.specs.declared.header.Home.TheVariants as homes
use Rattle.il_machine.specs.World.{World, no_world}
use Rattle.il_machine.specs.Acts.{Act, Reply}
use Rattle.il_machine.specs.Run.{Step, Meets}
use Rattle.il_machine.specs.Due.{HappenTimes}
use Rattle.il_machine.specs.Headers.{Once}
use Rattle.il_machine.specs.Effect.{effect}
use Rattle.il_machine.specs.Trails.{Move, moves, HaveTrails, RunMoves}
use Rattle.il_machine.specs.Sound.{Sound}
use Rattle.machine_laws.proofs.Parts.{parts_of}
use Rattle.machine_laws.proofs.Steps.{sound_step, sound_none}
use Rattle.history_laws.proofs.Closing.{times_settle, times_made}
use Rattle.history_laws.proofs.Carried.{AreBelow, carried_trails, settled_trails}
use Rattle.history_laws.proofs.Outcome.{Turn, turn, Outcome, Effect, Nothing, Done}
use Rattle.history_laws.proofs.Steps.{step_comes}

-- no header moves in the close-out
pub times_trails : (n : ℕ) (w v : World) (ms : List Move) → HappenTimes n w v → Once w.headers → HaveTrails w ms → HaveTrails v ms
times_trails n w v ms h o T = settled_trails w v ms (times_settle n w v h o) (times_made n w v h) T

below : (w : World) → Sound w → AreBelow w
below w S = (parts_of w S).below

-- the trails after the act, before the close-out
pub effect_trails : (w mid : World) (old ms : List Move) (back : Option ℕ) → Sound w → HaveTrails w old → Effect w ms back mid → HaveTrails mid (old ++ ms) × Once mid.headers
effect_trails w mid old ms back S T E = carried_trails w mid old ms S.once (below w S) T E.carried

-- the same of each answer
outcome_after : (w v : World) (t : Turn) (old : List Move) → Sound w → HaveTrails w old → Outcome w t v → HaveTrails t.after (old ++ t.moves) × Once (t.after).headers
outcome_after w v t old S T (Nothing e m) =
    let a : t.after ≡ w = ap (λ (x : Turn). x.after) m in
    let k : t.moves ≡ [] = ap (λ (x : Turn). x.moves) m in
    (rw (a, k, append-nil old) T, rw a S.once)
outcome_after w v t old S T (Done C E) = effect_trails w t.after old t.moves t.back S T E

pub trails_after : (w : World) (old : List Move) (a : Act) (r : Reply) (v : World) → Sound w → HaveTrails w old → Meets w a → Step w a r v → HaveTrails (effect w a r) (old ++ moves w a r) × Once (effect w a r).headers
trails_after w old a r v S T M h = outcome_after w v (turn w a r) old S T (step_comes w a r v S M h)

outcome_trails : (w v : World) (t : Turn) (old : List Move) → Sound w → HaveTrails w old → Outcome w t v → HaveTrails v (old ++ t.moves)
outcome_trails w v t old S T (Nothing e m) = let k : t.moves ≡ [] = ap (λ (x : Turn). x.moves) m in rw (e, k, append-nil old) T
outcome_trails w v t old S T (Done C E) =
    let x = effect_trails w t.after old t.moves t.back S T E in
    times_trails C.steps t.after v (old ++ t.moves) C.by_steps x.1 x.0

pub trails_of_steps : (w : World) (old : List Move) (a : Act) (r : Reply) (v : World) → Sound w → HaveTrails w old → Meets w a → Step w a r v → HaveTrails v (old ++ moves w a r)
trails_of_steps w old a r v S T M h = outcome_trails w v (turn w a r) old S T (step_comes w a r v S M h)

pub closing_trails : (n : ℕ) (w v : World) (ms : List Move) → Sound w → HappenTimes n w v → HaveTrails w ms → HaveTrails v ms
closing_trails n w v ms S h T = times_trails n w v ms h S.once T

trails_from : (w v : World) (xs : List (Act × Reply)) (old ms : List Move) → Sound w → HaveTrails w old → RunMoves w xs ms v → HaveTrails v (old ++ ms)
trails_from w v [] old ms S T (e, m) = rw (e, m, append-nil old) T
trails_from w v (x ∷ xs) old ms S T (mid, rest, M, h, more, e) =
    let a = trails_of_steps w old x.0 x.1 mid S T M h in
    let b = trails_from mid v xs (old ++ moves w x.0 x.1) rest (sound_step w mid x.0 x.1 M h S) a more in
    rw (e, ← append_assoc old (moves w x.0 x.1) rest) b

trails_at_first : (key units : ℕ) → HaveTrails (no_world key units) []
trails_at_first key units = record { each = λ n. record { home = homes.Client; legal = tt; ends = refl; returned = refl }; none_yet = λ n l. refl }

pub trails_of_runs : (key units : ℕ) (xs : List (Act × Reply)) (ms : List Move) (v : World) → RunMoves (no_world key units) xs ms v → HaveTrails v ms
trails_of_runs key units xs ms v h = trails_from (no_world key units) v xs [] ms (sound_none key units) (trails_at_first key units) h
