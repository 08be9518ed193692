-- A history behind the acts that led to its first world.
use Rattle.std.proofs.Common.{ℕ, refl, List, [], ◌++◌}
use Rattle.omx_types.specs.declared.handle.Handle.{Handle}
use Rattle.il_machine.specs.World.{World, no_world}
use Rattle.il_machine.specs.Acts.{Act, Reply}
use Rattle.il_machine.specs.Run.{Run}
use Rattle.machine_laws.proofs.Steps.{sound_run_of, sound_none}
use Rattle.machine_laws.proofs.Standing.{sound_census}
use Rattle.history_laws.proofs.TrailLaw.{trails_of_runs}
use Rattle.history_laws.proofs.ClosedLaw.{runs_closed}
use Rattle.history_laws.proofs.RunLaw.{all_were_due}
use Rattle.history_laws.proofs.Joining.{run_joined, run_snoc, run_moves}
use Rattle.history_laws.proofs.Delivering.{run_front}
use Rattle.state_words.specs.Shown.{States}
use Rattle.board.specs.Watching.{Shown, start, next}
use Rattle.board.specs.Together.{AreOneRun}

pub run_of_shown : (handles : List Handle) (w : World) (at_first : List States) (xs : List (Act × Reply)) (v : World) (all : List States) → Shown handles w at_first xs v all → Run w xs v
run_of_shown handles w at_first [] v all start = refl
run_of_shown handles w at_first xs v all (next ys mid old a r v' new S m s seen) = run_snoc w mid v' ys a r (run_of_shown handles w at_first ys mid old S) m s

pub one_run : (key units : ℕ) (xs ys : List (Act × Reply)) (w v : World) → Run (no_world key units) xs w → Run w ys v → AreOneRun key units xs ys
one_run key units xs ys w v r s =
    let whole = run_joined (no_world key units) w v xs ys r s in
    let sound = sound_run_of (no_world key units) v (xs ++ ys) whole (sound_none key units) in
    let census = sound_census v sound in
    let m = run_moves (no_world key units) v (xs ++ ys) whole in
    record { world = v; run = whole; sound = sound; closed = runs_closed key units (xs ++ ys) v whole; due = λ number x. all_were_due key units (xs ++ ys) v number x whole; census = census.0; room = census.1; moves = m.0; run_moves = m.1; trails = trails_of_runs key units (xs ++ ys) m.0 v m.1; delivered = λ number A. run_front (no_world key units) v (xs ++ ys) number (sound_none key units) whole A }
